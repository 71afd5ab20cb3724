-- A removal keeps the state rules: the event, and the answers to its awaited messages.
use mathlib.Core.Path.{◌≡◌, refl, sym, ap, ◌∙◌, subst}
use mathlib.Core.Bool.{Bool, true, false, not, ◌&&◌, ◌||◌}
use Prim.Native.Nat.{ℕ, ◌≤◌, ◌<◌}
use native.Mathlib.Omega.{arith}
use lib.Dec.{eqb, ltb}
use borrow.Author.Tests.{eqb-true, ltb-true, ltb-false}
use Rattle.laws_words.specs.Words.{pick}
use Rattle.laws_words.specs.Tests.{by_cases, clash, passed, and_left, and_both, picked}
use Rattle.rules_base.specs.Limits.{chunk_limit}
use Rattle.rules_base.specs.Sets.{has, lowest}
use Rattle.rules_base.proofs.Sets.{lowest-in}
use Rattle.rules_pool.specs.declared.Mode.{Mode}
use Rattle.rules_pool.specs.declared.State.{State}
use Rattle.rules_pool.specs.declared.Session.{Session}
use Rattle.rules_pool.specs.declared.Stage.{Stage}
use Rattle.rules_pool.specs.declared.Removal.{Removal}
use Rattle.rules_pool.specs.declared.Pool.{Pool}
use Rattle.rules_pool.specs.declared.Message.{Message}
use Rattle.rules_pool.specs.declared.Reply.{Reply}
use Rattle.rules_pool.specs.declared.Effect.{Effect}
use Rattle.rules_pool.specs.declared.Roster.{Roster}
use Rattle.rules_pool.specs.Session.{is_free, is_normal, is_removing, is_deleting, is_owed, is_told, moved}
use Rattle.rules_pool.specs.declared.Kind.{Kind}
use Rattle.rules_pool.specs.Sessions.{session_at}
use Rattle.rules_pool.specs.Changes.{went, removing, member_dropped}
use Rattle.rules_pool.specs.StateRules.{stage_ok, valid_pool}
use Rattle.rules_pool.specs.Recovery.{with_roster, posted}
use Rattle.rules_pool.specs.Exit.{refused}
use Rattle.laws_client.proofs.Ids.{Long, stored_same, ids-has}
use Rattle.laws_client.proofs.Rosters.{Ok}
use Rattle.laws_client.proofs.Changes.{went-keeps, removing-keeps, removing-at, freed-keeps, drop_keeps}
use Rattle.laws_client.proofs.Pools.{Valid}
use Rattle.rules_client.specs.declared.Gone.{Gone}
use Rattle.rules_client.specs.Removal.{state_of, mode_of, op_of, tellable, due, asked, freed_from, onward, departed, started, paid, well_answered, removal_answered}
use Rattle.rules_client.specs.Remove.{remove_refusal, remove_begun, gone, remove}

-- what is known while a removal is under way
pub record Removes (p : Pool) (id : ℕ) : Type 0 where
  pub some : 1 ≤ p.chunks
  pub most : p.chunks ≤ chunk_limit
  pub ok : Ok p.roster
  pub below : id < 16
  pub removing : is_removing (state_of p id) ≡ true

abbrev pub Keeps : Gone → Type 0
Keeps g = Valid g.posted.pool

not-normal : (st : State) → is_removing st ≡ true → is_normal st ≡ false
not-normal State.Free e = refl
not-normal State.Created e = refl
not-normal State.Normal e = clash e refl
not-normal (State.Failed cause) e = refl
not-normal State.Reconnecting e = refl
not-normal (State.Removing m owed) e = refl

or-second : (a b : Bool) → b ≡ true → (a || b) ≡ true
or-second true b e = refl
or-second false b e = e

asks : (p : Pool) (id : ℕ) (st : Stage) (m : Message) (e : Effect) → stage_ok st id ≡ true → Removes p id → Keeps (record { posted = asked p id st m; effect = e })
unfolding posted
asks p id st m e s h = record { some = h.some; most = h.most; ok = h.ok; job = and_both h.removing s }

frees : (p : Pool) (id : ℕ) (e : Effect) → Removes p id → Keeps (freed_from p id e)
unfolding freed_from
frees p id e h =
    record {
      some = h.some;
      most = h.most;
      ok = freed-keeps p.roster id h.ok h.below (not-normal (state_of p id) h.removing);
      job = refl;
    }

-- the peer that is due is another session: the removed one is REMOVING, and is told nothing
told-lives : (st : State) → is_told st ≡ true → is_removing st ≡ false
told-lives State.Free e = refl
told-lives State.Created e = refl
told-lives State.Normal e = refl
told-lives (State.Failed cause) e = refl
told-lives State.Reconnecting e = refl
told-lives (State.Removing m owed) e = clash e refl

told_at : (st : Stage) (ro : Roster) → Long ro → (j : ℕ) → j < 16 → has (tellable st ro) j ≡ true → is_told (session_at ro j).state ≡ true
told_at Stage.Leave ro l j h e = sym (ids-has Kind.Told ro l j h) ∙ e
told_at (Stage.Info peer) ro l j h e = and_left (is_told (session_at ro j).state) (ltb peer j) (sym (ids-has (Kind.Later peer) ro l j h) ∙ e)

due-told : (st : Stage) (ro : Roster) → Long ro → ltb (due st ro) 16 ≡ true → is_told (session_at ro (due st ro)).state ≡ true
unfolding due
due-told st ro l = at ro.sync
  where
    at : (b : Bool) → ltb (pick b 16 (lowest (tellable st ro))) 16 ≡ true → is_told (session_at ro (pick b 16 (lowest (tellable st ro)))).state ≡ true
    at true z = clash z refl
    at false z = let h = ltb-true (lowest (tellable st ro)) 16 z in told_at st ro l (lowest (tellable st ro)) h (lowest-in (tellable st ro) h)

another : (p : Pool) (id : ℕ) (st : Stage) → Removes p id → ltb (due st p.roster) 16 ≡ true → stage_ok (Stage.Info (due st p.roster)) id ≡ true
another p id st h z = and_both z (by_cases (eqb d id) (λ e. clash h.removing (told-lives (state_of p id) (is e))) (λ e. ap not e))
  where
    d : ℕ
    d = due st p.roster

    is : eqb d id ≡ true → is_told (state_of p id) ≡ true
    is e = subst (λ (j : ℕ). is_told (session_at p.roster j).state ≡ true) (eqb-true d id e) (due-told st p.roster h.ok.long z)

goes_on : (p : Pool) (id : ℕ) (st : Stage) (e : Effect) → Removes p id → Keeps (onward p id st e)
unfolding onward
goes_on p id st e h =
    picked Keeps (ltb (due st p.roster) 16) _ (freed_from p id e)
    (λ z. asks p id (Stage.Info (due st p.roster)) (Message.Info (due st p.roster) (op_of (state_of p id)) id) e (another p id st h z) h)
    (λ z. frees p id e h)

departs : (p : Pool) (id : ℕ) → Removes p id → Keeps (departed p id)
unfolding departed
departs p id h =
    picked Keeps (is_deleting (state_of p id) && not p.roster.sync) _ _
    (λ z. goes_on (with_roster p (member_dropped p.roster id)) id Stage.Leave (Effect.ZeroRow id)
    (record { some = h.some; most = h.most; ok = drop_keeps p.roster id h.ok (or-second (is_free (state_of p id)) (is_removing (state_of p id)) h.removing); below = h.below; removing = h.removing }))
    (λ z. goes_on p id Stage.Leave Effect.Keep h)

starts : (p : Pool) (id : ℕ) → Removes p id → Keeps (started p id)
unfolding started
starts p id h = picked Keeps (is_owed (state_of p id)) _ _ (λ z. asks p id Stage.Leave (Message.Leave id (mode_of (state_of p id))) Effect.Keep refl h) (λ z. departs p id h)

pays : (p : Pool) (id : ℕ) → Removes p id → Removes (paid p id) id
unfolding went
pays p id h =
    record {
      some = h.some;
      most = h.most;
      ok = went-keeps p.roster id (mode_of (state_of p id)) false h.ok h.below (not-normal (state_of p id) h.removing);
      below = h.below;
      removing = ap (λ (s : Session). is_removing s.state) (stored_same p.roster id (moved (session_at p.roster id) (State.Removing (mode_of (state_of p id)) false)) h.ok.long h.below);
    }

wells : (st : Stage) (p : Pool) (id : ℕ) → Removes p id → Keeps (well_answered st p id)
wells Stage.Leave p id h = departs (paid p id) id (pays p id h)
wells (Stage.Info peer) p id h = goes_on p id (Stage.Info peer) Effect.Keep h

-- an answer to the awaited message of a removal
pub answers-keep : (m : Removal) (p : Pool) (a : Reply) → Removes p m.id → Keeps (removal_answered m p a)
answers-keep m p Reply.Failed h = record { some = h.some; most = h.most; ok = h.ok; job = refl }
answers-keep m p (Reply.Good b) h = wells m.stage p m.id h

begins : (p : Pool) (id : ℕ) (mode : Mode) → Valid p → id < 16 → Removes (with_roster p (removing p.roster id mode)) id
begins p id mode v h =
    record {
      some = v.some;
      most = v.most;
      ok = removing-keeps p.roster id mode v.ok h;
      below = h;
      removing = ap (λ (s : Session). is_removing s.state) (removing-at p.roster id mode v.ok.long h);
    }

below-16 : (p : Pool) (sound : Bool) (id : ℕ) (mode : Mode) → remove_refusal p sound id mode ≡ 0 → id < 16
unfolding remove_refusal
below-16 p sound id mode e =
    let a = passed (not (valid_pool p)) 1 _ (λ h. omega arith) e in
    let b = passed (not sound) 2 _ (λ h. omega arith) a.1 in
    let c = passed (ltb 15 id) 3 _ (λ h. omega arith) b.1 in
    omega (arith, ltb-false 15 id c.0)

-- Remove, accepted or refused, keeps the state rules.
pub remove-keeps : (p : Pool) (sound : Bool) (id : ℕ) (mode : Mode) → Valid p → Valid (remove p sound id mode).pool
unfolding remove
remove-keeps p sound id mode v = at (eqb (remove_refusal p sound id mode) 0) refl
  where
    at : (b : Bool) → eqb (remove_refusal p sound id mode) 0 ≡ b → Valid (pick b (gone p (remove_begun p id mode)) (refused p (remove_refusal p sound id mode))).pool
    at true e = starts (with_roster p (removing p.roster id mode)) id (begins p id mode v (below-16 p sound id mode (eqb-true _ _ e)))
    at false e = v
