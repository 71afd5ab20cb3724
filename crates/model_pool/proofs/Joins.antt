-- Joins, and the hand enable.
use mathlib.Core.Path.{◌≡◌, refl, sym, ap, ◌∙◌, subst}
use mathlib.Core.Bool.{Bool, true, false, not, ◌&&◌, ◌||◌}
use Prim.Native.Nat.{ℕ, ◌<◌, max}
use lib.Dec.{eqb}
use borrow.Author.Tests.{eqb-true}
use Rattle.laws_words.specs.Words.{pick}
use Rattle.laws_words.specs.Tests.{clash, by_cases, and-false}
use Rattle.rules_base.proofs.Order.{none-applies}
use Rattle.rules_base.specs.Sets.{has, with}
use Rattle.rules_base.proofs.Sets.{has-none, has-with-same, has-with-other}
use Rattle.rules_pool.specs.declared.State.{State}
use Rattle.rules_pool.specs.declared.Session.{Session}
use Rattle.rules_pool.specs.declared.Message.{Message}
use Rattle.rules_pool.specs.declared.Job.{Job}
use Rattle.rules_pool.specs.declared.Roster.{Roster}
use Rattle.rules_pool.specs.declared.Pool.{Pool}
use Rattle.rules_pool.specs.Past.{in_service, past_taken_over}
use Rattle.rules_pool.specs.Session.{is_free, is_created, is_failed, is_reconnecting, moved}
use Rattle.rules_pool.specs.Sessions.{session_at}
use Rattle.rules_pool.specs.Changes.{entered, went}
use Rattle.rules_pool.specs.Recovery.{with_roster, tried}
use Rattle.laws_client.proofs.Rosters.{Ok}
use Rattle.laws_client.proofs.Records.{bare, entered_at}
use Rattle.laws_client.proofs.Runs.{entered-other, entered-members, entered-version}
use Rattle.laws_client.proofs.Tried.{tried-roster}
use Rattle.laws_client.proofs.Pools.{Valid}
use Rattle.rules_client.specs.Joins.{create_tests, create_refusal, created, set_bars, assemble_refusal, assembled, assemble_done, join_assemble}
use Rattle.laws_client.proofs.JoinsKept.{create-passed, created-at, created-other, created-numbers, assemble-passed, assemble-keeps, assembled-at, assembled-other, assembled-numbers}
use Rattle.rules_client.specs.Enables.{enable_tests, enable_refusal}
use Rattle.laws_client.proofs.EnablesKept.{enable-passed}
use Rattle.model_pool.specs.Model as m
use Rattle.model_pool.specs.Steps as s
use Rattle.model_pool.proofs.Ground.{split, upd_same, upd_other}
use Rattle.model_pool.specs.Mirror.{Sees, ses_of, rests, Shows}
use Rattle.model_pool.proofs.Sessions.{is-gone}
use Rattle.model_pool.proofs.Tries.{tries, joined}
use Rattle.model_pool.proofs.Turns.{idle-is, idle-hand}
use Rattle.model_pool.specs.Alters.{Alters, join_taken, row_gone, by_hand}

bears-none : (st : State) → is_free st ≡ true → (is_failed st || is_reconnecting st) ≡ false
bears-none State.Free e = refl
bears-none State.Created e = refl
bears-none State.Normal e = refl
bears-none (State.Failed cause) e = clash e refl
bears-none State.Reconnecting e = clash e refl
bears-none (State.Removing x owed) e = refl

-- where there is no session there is no mark
pub free-unmarked : (ro : Roster) (id : ℕ) → Ok ro → id < 16 → is_free (session_at ro id).state ≡ true → (session_at ro id).mark ≡ false
free-unmarked ro id v h e = ap (λ (x : Session). x.mark) (bare ro v id h (bears-none (session_at ro id).state e))

-- ---- by create
module _ (p : Pool) (id : ℕ) (w : m.World) (v : Valid p) (y : p.roster.sync ≡ false) (k : Shows p w) (z : create_refusal p id ≡ 0) (wait : w.past.wait id ≡ true) where
  created-past : (created p.roster id).past ≡ p.roster.past
  unfolding created
  created-past = rw y refl

  not-member : has p.roster.members id ≡ false
  unfolding create_refusal
  not-member = none-applies (create_tests p id) z 10 refl

  abbrev made : m.World
  made = s.lived (s.pooled (s.moved (s.at_nodes w w.nodes.ver (s.rowless id w.nodes.map)) (m.upd w.pool.ses id m.Session.Made) w.pool.mark w.pool.version) (m.upd w.pool.mem id true) w.pool.closed) (m.upd w.past.been id true) w.past.ever (m.upd w.past.wait id false)

  pub creates : Alters (with_roster p (created p.roster id)) Message.Nothing w (row_gone w.nodes id) (join_taken w.past id)
  creates =
      let h = create-passed p id z in
      let i = idle-is p.job h.idle in
      let n = created-numbers p.roster id in
      record {
        to = made;
        course = s.more (s.here w) (s.Next.Join-create id (sym (idle-hand p w.hand i k.works)) (is-gone p.roster w.pool k.sees id h.none) (sym (k.sees.mem id) ∙ not-member) wait);
        sees = record {
          ses = λ j. split j id
              (λ q. rw (q, created-at p.roster id v.ok.long h.below, y, upd_same w.pool.ses id m.Session.Made))
              (λ q. rw (created-other p.roster id j q, upd_other w.pool.ses id j m.Session.Made q) (k.sees.ses j));
          mark = λ j. split j id
              (λ q. rw (q, created-at p.roster id v.ok.long h.below) (sym (free-unmarked p.roster id v.ok h.below h.none) ∙ k.sees.mark id))
              (λ q. rw (created-other p.roster id j q) (k.sees.mark j));
          mem = λ j. ap (λ (x : ℕ). has x j) (n.held ∙ ap (λ (b : Bool). pick b p.roster.members (with p.roster.members id)) y) ∙ split j id
              (λ q. rw (q, upd_same w.pool.mem id true) (has-with-same p.roster.members id h.below))
              (λ q. rw (upd_other w.pool.mem id j true q) (has-with-other p.roster.members id j q ∙ k.sees.mem j));
          version = n.versioned ∙ k.sees.version;
          closed = ap in_service created-past ∙ k.sees.closed;
        };
        works = k.works;
        sends = rests refl i;
        nodes = refl;
        past = refl;
      }

-- ---- what recovery tried comes to after a step
pub tried-on : (q : Pool) (w u : m.World) → s.Course w u → q.job ≡ Job.Idle → Ok q.roster → Sees q.roster u.pool → m.Job.Idle ≡ u.hand.job → Alters (tried q).pool (tried q).awaited w u.nodes u.past
tried-on q w u c i v e z = let g = tries q u v e z i in record {
  to = g.to;
  course = joined c g.course;
  sees = g.sees;
  works = g.works;
  sends = g.sends;
  nodes = g.nodes;
  past = g.past;
}

-- ---- by assemble
module _ (p : Pool) (id set version : ℕ) (w : m.World) (v : Valid p) (k : Shows p w) (z : assemble_refusal p id set version ≡ 0) (ever : w.past.ever id ≡ true) (brings : version ≡ w.nodes.ver id) where
  abbrev new : Pool
  new = with_roster p (assembled p.roster id set version)

  new_ok : Ok (assembled p.roster id set version)
  unfolding join_assemble assemble_done
  new_ok = subst Ok (tried-roster new) (rw z at (assemble-keeps p id set version v)).ok

  assembled-past : (assembled p.roster id set version).past ≡ past_taken_over p.roster.past (eqb p.roster.members 0)
  unfolding assembled went
  assembled-past = refl

  -- what is seen of the sessions
  ses-is : (j : ℕ) → ses_of (session_at (assembled p.roster id set version) j).state ≡ m.upd w.pool.ses id m.Session.Again j
  ses-is j = let h = assemble-passed p id set version z in split j id
      (λ q. rw (q, assembled-at p.roster id set version v.ok.long h.below, upd_same w.pool.ses id m.Session.Again))
      (λ q. rw (assembled-other p.roster id set version j q, upd_other w.pool.ses id j m.Session.Again q) (k.sees.ses j))

  mark-is : (j : ℕ) → (session_at (assembled p.roster id set version) j).mark ≡ w.pool.mark j
  mark-is j = let h = assemble-passed p id set version z in split j id
      (λ q. rw (q, assembled-at p.roster id set version v.ok.long h.below) (sym (free-unmarked p.roster id v.ok h.below h.none) ∙ k.sees.mark id))
      (λ q. rw (assembled-other p.roster id set version j q) (k.sees.mark j))

  version-is : (assembled p.roster id set version).version ≡ max w.pool.version (w.nodes.ver id)
  version-is = (assembled-numbers p.roster id set version).versioned ∙ (ap (λ (x : ℕ). max x version) k.sees.version ∙ ap (max w.pool.version) brings)

  mem_is : (b : Bool) → eqb p.roster.members 0 ≡ b → (j : ℕ) → has (assembled p.roster id set version).members j ≡ has (pick b set p.roster.members) j
  mem_is b e j = ap (λ (x : ℕ). has x j) ((assembled-numbers p.roster id set version).held ∙ ap (λ (c : Bool). pick c set p.roster.members) e)

  past_is : (b : Bool) → eqb p.roster.members 0 ≡ b → in_service (assembled p.roster id set version).past ≡ in_service (past_taken_over p.roster.past b)
  past_is b e = ap in_service (assembled-past ∙ ap (past_taken_over p.roster.past) e)

  holds : (b : Bool) → eqb p.roster.members 0 ≡ b → has (pick b set p.roster.members) id ≡ true
  unfolding set_bars
  holds b e = at (has set id) b (eqb set p.roster.members) refl e refl (assemble-passed p id set version z).held
    where
      at : (h b c : Bool) → has set id ≡ h → eqb p.roster.members 0 ≡ b → eqb set p.roster.members ≡ c → (not (has set id) || (not (eqb p.roster.members 0) && not (eqb set p.roster.members))) ≡ false → has (pick b set p.roster.members) id ≡ true
      at false b c x y u n = clash (let t : (not (has set id) || (not (eqb p.roster.members 0) && not (eqb set p.roster.members))) ≡ true = rw x refl in t) n
      at true true c x y u n = x
      at true false true x y u n = subst (λ (i : ℕ). has i id ≡ true) (eqb-true set p.roster.members u) x
      at true false false x y u n = clash (let t : (not (has set id) || (not (eqb p.roster.members 0) && not (eqb set p.roster.members))) ≡ true = rw (x, y, u) refl in t) n

  idle : p.job ≡ Job.Idle
  idle = idle-is p.job (assemble-passed p id set version z).idle

  hand : m.Job.Idle ≡ w.hand.job
  hand = idle-hand p w.hand idle k.works

  no_more : (a b : Bool) → (a || (b || false)) ≡ (a || b)
  no_more true b = refl
  no_more false true = refl
  no_more false false = refl

  at_last : (a b : Bool) → (a || (b || true)) ≡ true
  at_last true b = refl
  at_last false true = refl
  at_last false false = refl

  -- a member comes back
  member : eqb p.roster.members 0 ≡ false → Alters (tried new).pool (tried new).awaited w w.nodes (join_taken w.past id)
  member e = tried-on new w (s.lived (s.moved w (m.upd w.pool.ses id m.Session.Again) w.pool.mark (max w.pool.version (w.nodes.ver id))) (m.upd w.past.been id true) w.past.ever (m.upd w.past.wait id false))
      (s.more (s.here w) (s.Next.Join-assemble id (sym hand) (is-gone p.roster w.pool k.sees id (assemble-passed p id set version z).none) (sym (k.sees.mem id) ∙ holds false e) ever))
      idle new_ok
      (record { ses = ses-is; mark = mark-is; mem = λ j. mem_is false e j ∙ k.sees.mem j; version = version-is; closed = past_is false e ∙ (no_more p.roster.past.written p.roster.past.assembled ∙ k.sees.closed) })
      hand

  -- the node's set is taken over
  over : eqb p.roster.members 0 ≡ true → Alters (tried new).pool (tried new).awaited w w.nodes (join_taken w.past id)
  over e = tried-on new w (s.lived (s.pooled (s.moved w (m.upd w.pool.ses id m.Session.Again) w.pool.mark (max w.pool.version (w.nodes.ver id))) (has set) true) (m.upd w.past.been id true) w.past.ever (m.upd w.past.wait id false))
      (s.more (s.here w) (s.Next.Take-over id (has set) (sym hand) (is-gone p.roster w.pool k.sees id (assemble-passed p id set version z).none)
      (λ j. sym (k.sees.mem j) ∙ (ap (λ (x : ℕ). has x j) (eqb-true p.roster.members 0 e) ∙ has-none j)) (holds true e) ever))
      idle new_ok
      (record { ses = ses-is; mark = mark-is; mem = λ j. mem_is true e j; version = version-is; closed = past_is true e ∙ at_last p.roster.past.written p.roster.past.assembled })
      hand

  pub assembles : Alters (tried new).pool (tried new).awaited w w.nodes (join_taken w.past id)
  assembles = by_cases (eqb p.roster.members 0) over member

-- ---- the hand enable
module _ (p : Pool) (id : ℕ) (w : m.World) (v : Valid p) (y : p.roster.sync ≡ false) (k : Shows p w) (z : enable_refusal p id ≡ 0) (c : is_created (session_at p.roster id).state ≡ true) where
  entered-past : (entered p.roster id).past ≡ p.roster.past
  unfolding entered
  entered-past = rw y refl

  made-is : (st : State) → is_created st ≡ true → ses_of st ≡ m.Session.Made
  made-is State.Free e = clash e refl
  made-is State.Created e = refl
  made-is State.Normal e = clash e refl
  made-is (State.Failed cause) e = clash e refl
  made-is State.Reconnecting e = clash e refl
  made-is (State.Removing x owed) e = clash e refl

  not-closed : in_service p.roster.past ≡ false
  unfolding enable_refusal
  not-closed = subst (λ (b : Bool). (b && in_service p.roster.past) ≡ false) c (none-applies (enable_tests p id) z 17 refl)

  pub enables : Alters (with_roster p (entered p.roster id)) Message.Nothing w (by_hand w id) w.past
  enables =
      let h = enable-passed p id z in
      let i = idle-is p.job h.idle in
      record {
        to = s.moved (s.transfers (s.at_nodes w (m.upd w.nodes.ver id w.pool.version) (m.upd w.nodes.map id (m.within w.pool.mem (w.nodes.map id)))) (m.upd w.nodes.stg id m.none) (m.upd w.nodes.tr id m.Transfer.Shut)) (m.upd w.pool.ses id m.Session.Up) (λ j. false) w.pool.version;
        course = s.more (s.here w) (s.Next.Hand-enable id (sym (idle-hand p w.hand i k.works)) (sym (k.sees.ses id) ∙ made-is (session_at p.roster id).state c) (sym k.sees.closed ∙ not-closed));
        sees = record {
          ses = λ j. split j id
              (λ q. rw (q, entered_at p.roster id v.ok.long h.below, upd_same w.pool.ses id m.Session.Up))
              (λ q. rw (entered-other p.roster id j y q, upd_other w.pool.ses id j m.Session.Up q) (k.sees.ses j));
          mark = λ j. split j id
              (λ q. rw (q, entered_at p.roster id v.ok.long h.below) (and-false (session_at p.roster id).mark))
              (λ q. rw (entered-other p.roster id j y q));
          mem = λ j. rw (entered-members p.roster id) (k.sees.mem j);
          version = entered-version p.roster id ∙ k.sees.version;
          closed = ap in_service entered-past ∙ k.sees.closed;
        };
        works = k.works;
        sends = rests refl i;
        nodes = refl;
        past = refl;
      }
