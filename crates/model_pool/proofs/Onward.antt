-- A removal's way: LEAVE done or not owed, POOL_INFO to each peer in turn, the session freed; its answers.
use mathlib.Core.Path.{◌≡◌, refl, sym, ap, ◌∙◌, subst}
use mathlib.Core.Bool.{Bool, true, false, not, ◌&&◌, ◌||◌}
use mathlib.Core.Logic.{◌⊎◌, inl, inr}
use Prim.Native.Nat.{ℕ}
use lib.Dec.{eqb, ltb}
use borrow.Author.Tests.{eqb-true}
use Rattle.laws_words.specs.Tests.{picked, clash, by_cases, and_left, and-false}
use Rattle.rules_base.specs.Sets.{has, without}
use Rattle.rules_base.proofs.Sets.{has-none, has-without-same, has-without-other}
use Rattle.rules_pool.specs.declared.Mode.{Mode}
use Rattle.rules_pool.specs.declared.State.{State}
use Rattle.rules_pool.specs.declared.Session.{Session}
use Rattle.rules_pool.specs.declared.Past.{Past}
use Rattle.rules_pool.specs.declared.Stage.{Stage}
use Rattle.rules_pool.specs.declared.Removal.{Removal}
use Rattle.rules_pool.specs.declared.Job.{Job}
use Rattle.rules_pool.specs.declared.Effect.{Effect}
use Rattle.rules_pool.specs.declared.Reply.{Reply}
use Rattle.rules_pool.specs.declared.Pool.{Pool}
use Rattle.rules_pool.specs.Past.{in_service, past_kept}
use Rattle.rules_pool.specs.Session.{is_failed, is_reconnecting, is_free, is_normal, is_removing, is_deleting, is_owed, free, moved}
use Rattle.rules_pool.specs.Sessions.{session_at}
use Rattle.rules_pool.specs.Changes.{went, freed, member_dropped}
use Rattle.rules_pool.specs.Recovery.{with_roster, posted}
use Rattle.rules_pool.specs.StateRules.{job_ok}
use Rattle.laws_client.proofs.Ids.{stored_same, stored_other}
use Rattle.laws_client.proofs.Records.{bare}
use Rattle.laws_client.proofs.Changes.{went-keeps, drop_keeps}
use Rattle.laws_client.proofs.Pools.{Valid, removal-facts}
use Rattle.rules_client.specs.declared.Gone.{Gone}
use Rattle.rules_client.specs.Removal.{state_of, mode_of, due, freed_from, onward, departed, started, paid, well_answered, removal_answered}
use Rattle.laws_client.proofs.RemovalKept as known
use Rattle.rules_client.specs.Answers.{answer_refusal, answered, answer}
use Rattle.model_pool.specs.Model as m
use Rattle.model_pool.specs.Steps as s
use Rattle.model_pool.proofs.Ground.{split, upd_same, upd_other}
use Rattle.model_pool.specs.Mirror.{Sees, ses_of, stage_of, Removes, Works, posts, rests, Goes, goes, MovesBy, Shows}
use Rattle.model_pool.proofs.Sessions.{dying-is}
use Rattle.model_pool.proofs.Tries.{after}
use Rattle.model_pool.proofs.Turns.{moves}
use Rattle.model_pool.proofs.Removals.{halts}

-- what a removal comes to
abbrev pub Gets : Gone → m.World → Type 0
Gets g w = Goes g.posted.pool g.posted.awaited w

pub parting-is : (st : State) → is_removing st ≡ true → is_deleting st ≡ false → ses_of st ≡ m.Session.Parting
parting-is State.Free e f = clash e refl
parting-is State.Created e f = clash e refl
parting-is State.Normal e f = clash e refl
parting-is (State.Failed cause) e f = clash e refl
parting-is State.Reconnecting e f = clash e refl
parting-is (State.Removing Mode.Delete owed) e f = clash refl f
parting-is (State.Removing Mode.Disassemble owed) e f = refl

bears-none : (st : State) → is_removing st ≡ true → (is_failed st || is_reconnecting st) ≡ false
bears-none State.Free e = refl
bears-none State.Created e = refl
bears-none State.Normal e = refl
bears-none (State.Failed cause) e = clash e refl
bears-none State.Reconnecting e = clash e refl
bears-none (State.Removing x owed) e = refl

-- in the same mode, owed or not
pub same-mode : (st : State) (owed : Bool) → is_removing st ≡ true → ses_of (State.Removing (mode_of st) owed) ≡ ses_of st
same-mode State.Free owed e = clash e refl
same-mode State.Created owed e = clash e refl
same-mode State.Normal owed e = clash e refl
same-mode (State.Failed cause) owed e = clash e refl
same-mode State.Reconnecting owed e = clash e refl
same-mode (State.Removing Mode.Delete x) owed e = refl
same-mode (State.Removing Mode.Disassemble x) owed e = refl

not-normal : (st : State) → is_removing st ≡ true → is_normal st ≡ false
not-normal State.Free e = refl
not-normal State.Created e = refl
not-normal State.Normal e = clash e refl
not-normal (State.Failed cause) e = refl
not-normal State.Reconnecting e = refl
not-normal (State.Removing x owed) e = refl

or-second : (a b : Bool) → b ≡ true → (a || b) ≡ true
or-second true b e = refl
or-second false b e = e

and-true : (b : Bool) → (b && true) ≡ b
and-true true = refl
and-true false = refl

-- the past stands while some member is left
past-stands : (x : Past) (some : Bool) → some ≡ true → in_service (past_kept x some) ≡ in_service x
past-stands x some e = rw (e, and-true x.written, and-true x.assembled) refl

module _ (p : Pool) (id : ℕ) (h : known.Removes p id) where
  -- it bears no mark
  pub unmarked : (session_at p.roster id).mark ≡ false
  unmarked = ap (λ (x : Session). x.mark) (bare p.roster h.ok id h.below (bears-none (state_of p id) h.removing))

  module _ (w : m.World) (y : p.roster.sync ≡ false) (e : Sees p.roster w.pool) (src : id ≡ w.hand.src) where
    freed-sees : Sees (freed p.roster id) (s.moved w (m.upd w.pool.ses w.hand.src m.Session.Gone) w.pool.mark w.pool.version).pool
    freed-sees = record {
      ses = λ j. split j id
          (λ q. rw (q, stored_same p.roster id free h.ok.long h.below, ← src, upd_same w.pool.ses id m.Session.Gone))
          (λ q. rw (stored_other p.roster id free j q, ← src, upd_other w.pool.ses id j m.Session.Gone q) (e.ses j));
      mark = λ j. split j id
          (λ q. rw (q, stored_same p.roster id free h.ok.long h.below) (sym unmarked ∙ e.mark id))
          (λ q. rw (stored_other p.roster id free j q) (e.mark j));
      mem = e.mem;
      version = e.version;
      closed = e.closed;
    }

    pub onward-goes : (st : Stage) (eff : Effect) → w.hand.job ≡ m.Job.Info → Gets (onward p id st eff) w
    unfolding onward freed_from posted
    onward-goes st eff j = picked (λ (g : Gone). Gets g w) (ltb (due st p.roster) 16) _ (freed_from p id eff)
        (λ z. record {
          to = s.awaits w m.Job.Info w.hand.src (due st p.roster);
          course = s.more (s.here w) (s.Next.Informed (due st p.roster) j);
          sees = e;
          works = record { job = refl; src = src; to = refl };
          sends = posts refl refl;
          nodes = refl;
          past = refl;
        })
        (λ z. record {
          to = s.awaits (s.moved w (m.upd w.pool.ses w.hand.src m.Session.Gone) w.pool.mark w.pool.version) m.Job.Idle w.hand.src w.hand.to;
          course = s.more (s.here w) (s.Next.Freed j);
          sees = freed-sees;
          works = refl;
          sends = rests refl refl;
          nodes = refl;
          past = refl;
        })

-- ---- the entry goes
module _ (p : Pool) (id : ℕ) (h : known.Removes p id) (w : m.World) (y : p.roster.sync ≡ false) (e : Sees p.roster w.pool) (src : id ≡ w.hand.src) (j : w.hand.job ≡ m.Job.Leave) where
  abbrev some : Bool
  some = not (eqb (without p.roster.members id) 0)

  abbrev closed : Bool
  closed = in_service (past_kept p.roster.past some)

  mem_is : (k : ℕ) → has (without p.roster.members id) k ≡ m.upd w.pool.mem w.hand.src false k
  mem_is k = split k id
      (λ q. rw (q, ← src, upd_same w.pool.mem id false) (has-without-same p.roster.members id))
      (λ q. rw (← src, upd_other w.pool.mem id k false q) (has-without-other p.roster.members id k q ∙ e.mem k))

  flag : (closed ≡ w.pool.closed) ⊎ ((k : ℕ) → m.upd w.pool.mem w.hand.src false k ≡ false)
  flag = by_cases (eqb (without p.roster.members id) 0)
      (λ z. inr (λ k. sym (mem_is k) ∙ (ap (λ (n : ℕ). has n k) (eqb-true (without p.roster.members id) 0 z) ∙ has-none k)))
      (λ z. inl (past-stands p.roster.past some (ap not z) ∙ e.closed))

  abbrev out : m.World
  out = s.awaits (s.pooled w (m.upd w.pool.mem w.hand.src false) closed) m.Job.Info w.hand.src 0

  dropped-sees : Sees (member_dropped p.roster id) out.pool
  dropped-sees = record { ses = e.ses; mark = e.mark; mem = mem_is; version = e.version; closed = refl }

  dropped-known : is_deleting (state_of p id) ≡ true → known.Removes (with_roster p (member_dropped p.roster id)) id
  dropped-known d = record { some = h.some; most = h.most; ok = drop_keeps p.roster id h.ok (or-second (is_free (state_of p id)) (is_removing (state_of p id)) h.removing); below = h.below; removing = h.removing }

  pub departs-goes : Gets (departed p id) w
  unfolding departed
  departs-goes = picked (λ (g : Gone). Gets g w) (is_deleting (state_of p id) && not p.roster.sync) _ _
      (λ z. after (s.more (s.here w) (s.Next.Left-delete 0 closed j (ap w-ses (sym src) ∙ (sym (e.ses id) ∙ dying-is (state_of p id) (and_left (is_deleting (state_of p id)) _ z))) flag)) refl refl
      (onward-goes (with_roster p (member_dropped p.roster id)) id (dropped-known (and_left (is_deleting (state_of p id)) _ z)) out y dropped-sees src Stage.Leave (Effect.ZeroRow id) refl))
      (λ z. after (s.more (s.here w) (s.Next.Left-disassemble 0 j (ap w-ses (sym src) ∙ (sym (e.ses id) ∙ parting-is (state_of p id) h.removing (not-deleting (is_deleting (state_of p id)) p.roster.sync y z))))) refl refl
      (onward-goes p id h (s.awaits w m.Job.Info w.hand.src 0) y e src Stage.Leave Effect.Keep refl))
    where
      w-ses : ℕ → m.Session
      w-ses = w.pool.ses

      not-deleting : (a b : Bool) → b ≡ false → (a && not b) ≡ false → a ≡ false
      not-deleting true b f z = clash (let t : not b ≡ true = rw f refl in t) z
      not-deleting false b f z = refl

-- LEAVE is sent if it is owed
pub starts-goes : (p : Pool) (id : ℕ) → known.Removes p id → (w : m.World) → p.roster.sync ≡ false → Sees p.roster w.pool → id ≡ w.hand.src → w.hand.job ≡ m.Job.Leave → id ≡ w.hand.to → w.hand.fate ≡ m.Fate.Under → Gets (started p id) w
unfolding started posted
starts-goes p id h w y e src j to under = picked (λ (g : Gone). Gets g w) (is_owed (state_of p id)) _ (departed p id)
    (λ z. record { to = w; course = s.here w; sees = e; works = record { job = sym j; src = src; to = to }; sends = posts refl under; nodes = refl; past = refl })
    (λ z. departs-goes p id h w y e src j)

-- ---- answers

paid-sees : (p : Pool) (id : ℕ) → known.Removes p id → (v : m.View) → Sees p.roster v → Sees (paid p id).roster v
unfolding went
paid-sees p id h v e = record {
  ses = λ j. split j id
      (λ q. rw (q, stored_same p.roster id (moved (session_at p.roster id) (State.Removing (mode_of (state_of p id)) false)) h.ok.long h.below) (same-mode (state_of p id) false h.removing ∙ e.ses id))
      (λ q. rw (stored_other p.roster id (moved (session_at p.roster id) (State.Removing (mode_of (state_of p id)) false)) j q) (e.ses j));
  mark = λ j. split j id
      (λ q. rw (q, stored_same p.roster id (moved (session_at p.roster id) (State.Removing (mode_of (state_of p id)) false)) h.ok.long h.below) (and-false (session_at p.roster id).mark ∙ (sym (unmarked p id h) ∙ e.mark id)))
      (λ q. rw (stored_other p.roster id (moved (session_at p.roster id) (State.Removing (mode_of (state_of p id)) false)) j q) (e.mark j));
  mem = e.mem;
  version = e.version;
  closed = e.closed;
}

paid-known : (p : Pool) (id : ℕ) → known.Removes p id → known.Removes (paid p id) id
unfolding went
paid-known p id h = record {
  some = h.some;
  most = h.most;
  ok = went-keeps p.roster id (mode_of (state_of p id)) false h.ok h.below (not-normal (state_of p id) h.removing);
  below = h.below;
  removing = ap (λ (x : Session). is_removing x.state) (stored_same p.roster id (moved (session_at p.roster id) (State.Removing (mode_of (state_of p id)) false)) h.ok.long h.below);
}

well : (d : Removal) (p : Pool) (w : m.World) → known.Removes p d.id → p.roster.sync ≡ false → Sees p.roster w.pool → Removes d w.hand → (st : Stage) → d.stage ≡ st → Gets (well_answered st p d.id) w
unfolding went
well d p w h y e k Stage.Leave q =
    departs-goes (paid p d.id) d.id (paid-known p d.id h) w y (paid-sees p d.id h w.pool e) k.src (sym k.job ∙ ap stage_of q)
well d p w h y e k (Stage.Info peer) q = onward-goes p d.id h w y e k.src (Stage.Info peer) Effect.Keep (sym k.job ∙ ap stage_of q)

replied : (d : Removal) (p : Pool) (w : m.World) → known.Removes p d.id → p.roster.sync ≡ false → Sees p.roster w.pool → Removes d w.hand → (a : Reply) → Gets (removal_answered d p a) w
replied d p w h y e k Reply.Failed = halts d p w k e
replied d p w h y e k (Reply.Good b) = well d p w h y e k d.stage refl

-- an answer while a removal is in hand: whatever it says
pub removal-answer : (p : Pool) (sound : Bool) (number : ℕ) (a : Reply) (w : m.World) → Valid p → p.roster.sync ≡ false → Shows p w → (d : Removal) → p.job ≡ Job.Removing d → MovesBy p (answer p sound number a) w
unfolding answer
removal-answer p sound number a w v y k d j =
    let f = removal-facts p.roster d v.ok.long (subst (λ (x : Job). job_ok x p.roster ≡ true) j v.job) in
    moves p (answer_refusal p sound number) (answered p.job p a) w
    (λ z. subst (λ (x : Job). MovesBy p (answered x p a) w) (sym j)
    (goes (replied d p w (record { some = v.some; most = v.most; ok = v.ok; below = f.below; removing = f.removing }) y k.sees (subst (λ (x : Job). Works x w.hand) j k.works) a)))
