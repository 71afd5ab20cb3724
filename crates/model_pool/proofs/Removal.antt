-- Remove, given for the first time or again.
use mathlib.Core.Path.{◌≡◌, refl, sym, ap, ◌∙◌}
use mathlib.Core.Bool.{Bool, true, false, not, ◌&&◌}
use mathlib.Core.Logic.{◌≢◌, ◌⊎◌, inl, inr}
use Prim.Native.Nat.{ℕ, ◌+◌, ◌<◌}
use native.Mathlib.Omega.{arith}
use lib.Dec.{eqb, ltb}
use borrow.Author.Tests.{eqb-true, ltb-false, not-false}
use Rattle.laws_words.specs.Words.{one}
use Rattle.laws_words.specs.Tests.{picked, passed, clash, by_cases, and-false}
use Rattle.rules_base.specs.Sets.{has}
use Rattle.rules_base.proofs.Sets.{has-without-same}
use Rattle.rules_pool.specs.declared.Mode.{Mode}
use Rattle.rules_pool.specs.declared.State.{State}
use Rattle.rules_pool.specs.declared.Session.{Session}
use Rattle.rules_pool.specs.declared.Stage.{Stage}
use Rattle.rules_pool.specs.declared.Roster.{Roster}
use Rattle.rules_pool.specs.declared.Pool.{Pool}
use Rattle.rules_pool.specs.declared.Turn.{Turn}
use Rattle.rules_pool.specs.Session.{is_free, is_normal, is_removing, is_deleting, is_owed, moved}
use Rattle.rules_pool.specs.Sessions.{session_at}
use Rattle.rules_pool.specs.declared.Way.{Way}
use Rattle.rules_pool.specs.Changes.{more, left, went, owes, removing, member_dropped}
use Rattle.rules_pool.specs.Recovery.{with_roster, posted}
use Rattle.rules_pool.specs.Exit.{refused}
use Rattle.rules_pool.specs.Jobs.{is_idle}
use Rattle.rules_pool.specs.StateRules.{valid_pool}
use Rattle.laws_client.proofs.Ids.{stored_other}
use Rattle.laws_client.proofs.Rosters.{Ok}
use Rattle.laws_client.proofs.Records.{left_other, left-numbers}
use Rattle.laws_client.proofs.Changes.{removing-keeps, removing-at}
use Rattle.laws_client.proofs.Links.{is_live}
use Rattle.laws_client.proofs.Pools.{Valid}
use Rattle.rules_client.specs.declared.Gone.{Gone}
use Rattle.rules_client.specs.Removal.{state_of, due, freed_from, onward, departed, started}
use Rattle.rules_client.specs.Remove.{other_mode, remove_refusal, remove_begun, gone, remove}
use Rattle.laws_client.proofs.RemovalKept as known
use Rattle.model_pool.specs.Model as m
use Rattle.model_pool.specs.Steps as s
use Rattle.model_pool.proofs.Ground.{split, upd_same, upd_other}
use Rattle.model_pool.specs.Mirror.{Sees, ses_of, Shows}
use Rattle.model_pool.proofs.Sessions.{ups, actives, theres, dyings, dying-is}
use Rattle.model_pool.proofs.Shifts.{raised}
use Rattle.model_pool.proofs.Tries.{after}
use Rattle.model_pool.proofs.Turns.{idle-is, idle-hand}
use Rattle.model_pool.specs.Removed.{Removed, same, deletes, RemovedBy}
use Rattle.model_pool.proofs.Onward.{Gets, unmarked, starts-goes}

-- ---- what is known of one that is accepted
record Given (p : Pool) (id : ℕ) (mode : Mode) : Type 0 where
  below : id < 16
  idle : is_idle p.job ≡ true
  some : is_free (state_of p id) ≡ false
  mode-right : other_mode (state_of p id) mode ≡ false

given : (p : Pool) (sound : Bool) (id : ℕ) (mode : Mode) → remove_refusal p sound id mode ≡ 0 → Given p id mode
unfolding remove_refusal
given p sound id mode e =
    let a = passed (not (valid_pool p)) 1 _ (λ h. omega arith) e in
    let b = passed (not sound) 2 _ (λ h. omega arith) a.1 in
    let c = passed (ltb 15 id) 3 _ (λ h. omega arith) b.1 in
    let d = passed (not (is_idle p.job)) 6 _ (λ h. omega arith) c.1 in
    let f = passed (is_free (state_of p id)) 7 _ (λ h. omega arith) d.1 in
    let g = passed (other_mode (state_of p id) mode) 9 _ (λ h. omega arith) f.1 in
    record { below = omega (arith, ltb-false 15 id c.0); idle = not-false _ d.0; some = f.0; mode-right = g.0 }

-- ---- the sessions: to REMOVING
module _ (ro : Roster) (v : Ok ro) (y : ro.sync ≡ false) (id : ℕ) (h : id < 16) (mode : Mode) where
  other : (j : ℕ) → j ≢ id → session_at (removing ro id mode) j ≡ session_at ro j
  unfolding removing went
  other j q = picked (λ (x : Roster). session_at x j ≡ session_at ro j) (is_normal (session_at ro id).state) (left ro id (Way.Removing mode true)) (went ro id (State.Removing mode (owes (session_at ro id).state)))
      (λ e. left_other ro id (Way.Removing mode true) j q)
      (λ e. stored_other ro id (moved (session_at ro id) (State.Removing mode (owes (session_at ro id).state))) j q)

  pub record Numbered (x : Roster) : Type 0 where
    pub version : x.version ≡ ro.version + one (is_normal (session_at ro id).state)
    pub members : x.members ≡ ro.members
    pub past : x.past ≡ ro.past
    pub plain : x.sync ≡ false

  left-past : (way : Way) → (left ro id way).past ≡ ro.past
  unfolding left
  left-past way = rw y refl

  pub numbers : Numbered (removing ro id mode)
  unfolding removing went
  numbers = picked Numbered (is_normal (session_at ro id).state) (left ro id (Way.Removing mode true)) (went ro id (State.Removing mode (owes (session_at ro id).state)))
      (λ e. let n = left-numbers ro id (Way.Removing mode true) false y in record { version = n.versioned ∙ raised ro v y id h e; members = n.held; past = left-past (Way.Removing mode true); plain = n.kind ∙ y })
      (λ e. record { version = (let x : one (is_normal (session_at ro id).state) ≡ 0 = rw e refl in omega arith); members = refl; past = refl; plain = y })

  -- what is seen then
  pub removing-sees : (w : m.World) (to : m.Session) → ((owed : Bool) → ses_of (State.Removing mode owed) ≡ to) → Sees ro w.pool
      → Sees (removing ro id mode) (s.moved w (m.upd w.pool.ses id to) (m.upd w.pool.mark id false) (w.pool.version + one (m.up (w.pool.ses id)))).pool
  removing-sees w to is e = record {
    ses = λ j. split j id
        (λ q. rw (q, removing-at ro id mode v.long h, upd_same w.pool.ses id to) (is (owes (session_at ro id).state)))
        (λ q. rw (other j q, upd_other w.pool.ses id j to q) (e.ses j));
    mark = λ j. split j id
        (λ q. rw (q, removing-at ro id mode v.long h, upd_same w.pool.mark id false) (and-false (session_at ro id).mark))
        (λ q. rw (other j q, upd_other w.pool.mark id j false q) (e.mark j));
    mem = λ j. rw numbers.members (e.mem j);
    version = numbers.version ∙ rw (e.version, ups ro w.pool e id) refl;
    closed = rw numbers.past e.closed;
  }

  -- one that is REMOVING by delete already
  pub again-sees : (w : m.World) → mode ≡ Mode.Delete → is_deleting (session_at ro id).state ≡ true → (session_at ro id).mark ≡ false → Sees ro w.pool → Sees (removing ro id mode) w.pool
  again-sees w d r u e = record {
    ses = λ j. split j id
        (λ q. rw (q, removing-at ro id mode v.long h, d) (sym (dying-is (session_at ro id).state r) ∙ e.ses id))
        (λ q. rw (other j q) (e.ses j));
    mark = λ j. split j id
        (λ q. rw (q, removing-at ro id mode v.long h) (and-false (session_at ro id).mark ∙ (sym u ∙ e.mark id)))
        (λ q. rw (other j q) (e.mark j));
    mem = λ j. rw numbers.members (e.mem j);
    version = numbers.version ∙ ((let x : one (is_normal (session_at ro id).state) ≡ 0 = rw (deleting-not (session_at ro id).state r) refl in omega arith) ∙ e.version);
    closed = rw numbers.past e.closed;
  }
    where
      deleting-not : (st : State) → is_deleting st ≡ true → is_normal st ≡ false
      deleting-not State.Free z = refl
      deleting-not State.Created z = refl
      deleting-not State.Normal z = clash z refl
      deleting-not (State.Failed cause) z = refl
      deleting-not State.Reconnecting z = refl
      deleting-not (State.Removing x owed) z = refl

-- ---- the course
module _ (p : Pool) (id : ℕ) (mode : Mode) (w : m.World) (v : Valid p) (y : p.roster.sync ≡ false) (k : Shows p w) (g : Given p id mode) where
  idle : w.hand.job ≡ m.Job.Idle
  idle = sym (idle-hand p w.hand (idle-is p.job g.idle) k.works)

  abbrev begun : Pool
  begun = with_roster p (removing p.roster id mode)

  knows : known.Removes begun id
  knows = record {
    some = v.some;
    most = v.most;
    ok = removing-keeps p.roster id mode v.ok g.below;
    below = g.below;
    removing = ap (λ (x : Session). is_removing x.state) (removing-at p.roster id mode v.ok.long g.below);
  }

  plain : (removing p.roster id mode).sync ≡ false
  plain = (numbers p.roster v.ok y id g.below mode).plain

  -- REMOVING with its LEAVE awaited, whichever way it came to that
  then : (u : m.World) → Sees (removing p.roster id mode) u.pool → id ≡ u.hand.src → u.hand.job ≡ m.Job.Leave → id ≡ u.hand.to → u.hand.fate ≡ m.Fate.Under → Gets (remove_begun p id mode) u
  then u e a b c d = starts-goes begun id knows u plain e a b c d

  dies : (owed : Bool) → mode ≡ Mode.Delete → ses_of (State.Removing mode owed) ≡ m.Session.Dying
  dies owed e = rw e refl

  parts : (owed : Bool) → mode ≡ Mode.Disassemble → ses_of (State.Removing mode owed) ≡ m.Session.Parting
  parts owed e = rw e refl

  live : is_removing (state_of p id) ≡ false → is_live (state_of p id) ≡ true
  live r = rw (g.some, r) refl

  deleted : mode ≡ Mode.Delete → is_removing (state_of p id) ≡ false → (l : ℕ) × (l ≢ id) × (is_normal (state_of p l) ≡ true) → Removed (remove_begun p id mode).posted.pool (remove_begun p id mode).posted.awaited id mode w
  deleted d r o =
      deletes d
      (s.awaits (s.owing (s.moved w (m.upd w.pool.ses id m.Session.Dying) (m.upd w.pool.mark id false) (w.pool.version + one (m.up (w.pool.ses id)))) (m.upd w.past.owe id (λ c. 0)) w.past.acked) m.Job.Leave id id)
      (s.more (s.here w) (s.Next.Delete id o.0 idle (actives p.roster w.pool k.sees id ∙ live r) o.1 (ups p.roster w.pool k.sees o.0 ∙ o.2)))
      refl refl
      (then (s.awaits (s.owing (s.moved w (m.upd w.pool.ses id m.Session.Dying) (m.upd w.pool.mark id false) (w.pool.version + one (m.up (w.pool.ses id)))) (m.upd w.past.owe id (λ c. 0)) w.past.acked) m.Job.Leave id id)
      (removing-sees p.roster v.ok y id g.below mode w m.Session.Dying (λ owed. dies owed d) k.sees) refl refl refl refl)

  repeated : mode ≡ Mode.Delete → is_removing (state_of p id) ≡ true → is_deleting (state_of p id) ≡ true → Removed (remove_begun p id mode).posted.pool (remove_begun p id mode).posted.awaited id mode w
  repeated d r q =
      same (after (s.more (s.here w) (s.Next.Delete-again id idle (sym (k.sees.ses id) ∙ dying-is (state_of p id) q))) refl refl
      (then (s.awaits w m.Job.Leave id id)
      (again-sees p.roster v.ok y id g.below mode w d q (unmarked p id (record { some = v.some; most = v.most; ok = v.ok; below = g.below; removing = r })) k.sees) refl refl refl refl))

  disassembled : mode ≡ Mode.Disassemble → is_deleting (state_of p id) ≡ false → Removed (remove_begun p id mode).posted.pool (remove_begun p id mode).posted.awaited id mode w
  disassembled d q =
      same (after (s.more (s.here w) (s.Next.Disassemble id idle (theres p.roster w.pool k.sees id ∙ ap not g.some) (dyings p.roster w.pool k.sees id ∙ q))) refl refl
      (then (s.awaits (s.moved w (m.upd w.pool.ses id m.Session.Parting) (m.upd w.pool.mark id false) (w.pool.version + one (m.up (w.pool.ses id)))) m.Job.Leave id id)
      (removing-sees p.roster v.ok y id g.below mode w m.Session.Parting (λ owed. parts owed d) k.sees) refl refl refl refl))

not-other : (a b : Bool) → a ≡ true → (a && not b) ≡ false → b ≡ true
not-other true true e f = refl
not-other true false e f = clash refl f
not-other false b e f = clash e refl

begins : (p : Pool) (id : ℕ) (mode : Mode) (w : m.World) → Valid p → p.roster.sync ≡ false → Shows p w → Given p id mode
    → (mode ≡ Mode.Delete → is_removing (state_of p id) ≡ false → (l : ℕ) × (l ≢ id) × (is_normal (state_of p l) ≡ true))
    → Removed (remove_begun p id mode).posted.pool (remove_begun p id mode).posted.awaited id mode w
begins p id Mode.Delete w v y k g o = by_cases (is_removing (state_of p id))
    (λ r. repeated p id Mode.Delete w v y k g refl r (not-other (is_removing (state_of p id)) (is_deleting (state_of p id)) r g.mode-right))
    (λ r. deleted p id Mode.Delete w v y k g refl r (o refl r))
begins p id Mode.Disassemble w v y k g o = disassembled p id Mode.Disassemble w v y k g refl g.mode-right

-- no member is deleted for the first time while no other session is NORMAL
pub removes : (p : Pool) (sound : Bool) (id : ℕ) (mode : Mode) (w : m.World) → Valid p → p.roster.sync ≡ false → Shows p w
    → (remove_refusal p sound id mode ≡ 0 → mode ≡ Mode.Delete → is_removing (state_of p id) ≡ false → (l : ℕ) × (l ≢ id) × (is_normal (state_of p l) ≡ true))
    → RemovedBy (remove p sound id mode) id mode w
unfolding remove
removes p sound id mode w v y k o =
    picked (λ (t : Turn). RemovedBy t id mode w) (eqb (remove_refusal p sound id mode) 0) (gone p (remove_begun p id mode)) (refused p (remove_refusal p sound id mode))
    (λ e. let z = eqb-true (remove_refusal p sound id mode) 0 e in begins p id mode w v y k (given p sound id mode z) (o z))
    (λ e. tt)

-- ---- a member that is deleted is being deleted, or is none any more

Out : ℕ → Roster → Type 0
Out id ro = (is_deleting (session_at ro id).state ≡ true) ⊎ (has ro.members id ≡ false)

started-out : (p : Pool) (id : ℕ) → p.roster.sync ≡ false → is_deleting (state_of p id) ≡ true → Out id (started p id).posted.pool.roster
unfolding started departed onward freed_from posted Out
started-out p id y d =
    picked (λ (g : Gone). Out id g.posted.pool.roster) (is_owed (state_of p id)) _ _
    (λ z. inl d)
    (λ z. picked (λ (g : Gone). Out id g.posted.pool.roster) (is_deleting (state_of p id) && not p.roster.sync) _ _
    (λ q. picked (λ (g : Gone). Out id g.posted.pool.roster) (ltb (due Stage.Leave (member_dropped p.roster id)) 16) _ _
    (λ x. inr (has-without-same p.roster.members id))
    (λ x. inr (has-without-same p.roster.members id)))
    (λ q. clash (let t : (is_deleting (state_of p id) && not p.roster.sync) ≡ true = rw (d, y) refl in t) q))

pub deleted-out : (p : Pool) (sound : Bool) (id : ℕ) → Valid p → p.roster.sync ≡ false → remove_refusal p sound id Mode.Delete ≡ 0
    → (is_deleting (session_at (remove p sound id Mode.Delete).pool.roster id).state ≡ true) ⊎ (has (remove p sound id Mode.Delete).pool.roster.members id ≡ false)
unfolding remove Out
deleted-out p sound id v y e =
    let g = given p sound id Mode.Delete e in
    rw e (started-out (with_roster p (removing p.roster id Mode.Delete)) id (numbers p.roster v.ok y id g.below Mode.Delete).plain
    (ap (λ (x : Session). is_deleting x.state) (removing-at p.roster id Mode.Delete v.ok.long g.below)))
