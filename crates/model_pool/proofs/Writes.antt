-- A write that ended: those that it missed fail, one after the other; then, if it reached any, it is marked. A sync.
use mathlib.Core.Path.{◌≡◌, refl, sym, ap, ◌∙◌, subst}
use mathlib.Core.Bool.{Bool, true, false, not, ◌&&◌, ◌||◌}
use Prim.Native.Nat.{ℕ, zero, suc, ◌+◌, ◌≤◌, ◌<◌}
use native.Mathlib.Decide.{dec_lt}
use native.Mathlib.Omega.{arith}
use lib.Dec.{T, eqb}
use borrow.Author.Tests.{eqb-false, ltb-false}
use Rattle.laws_words.specs.Loops.{run_at}
use Rattle.laws_words.specs.Tests.{picked, clash, by_cases, and_left}
use Rattle.rules_base.proofs.Order.{none-applies}
use Rattle.rules_base.specs.Sets.{has, lowest}
use Rattle.rules_base.proofs.Sets.{has-out, lowest-in}
use Rattle.rules_pool.specs.declared.Cause.{Cause}
use Rattle.rules_pool.specs.declared.State.{State}
use Rattle.rules_pool.specs.declared.Session.{Session}
use Rattle.rules_pool.specs.declared.Stage.{Stage}
use Rattle.rules_pool.specs.declared.Job.{Job}
use Rattle.rules_pool.specs.declared.Message.{Message}
use Rattle.rules_pool.specs.declared.Roster.{Roster}
use Rattle.rules_pool.specs.declared.Pool.{Pool}
use Rattle.rules_pool.specs.Past.{in_service}
use Rattle.rules_pool.specs.Session.{is_normal, is_removing}
use Rattle.rules_pool.specs.declared.Kind.{Kind}
use Rattle.rules_pool.specs.Sessions.{session_at, ids_of}
use Rattle.rules_pool.specs.Changes.{left, failed, written}
use Rattle.rules_pool.specs.Recovery.{with_roster}
use Rattle.rules_pool.specs.Exit.{halted_if}
use Rattle.rules_pool.specs.Jobs.{is_running}
use Rattle.rules_pool.specs.StateRules.{job_ok}
use Rattle.rules_client.specs.Writes.{write_tests, write_refusal, miss_step, missed, loses, sync_tests, sync_refusal}
use Rattle.laws_client.proofs.WritesKept.{missed-does, write-passed, reached-normal}
use Rattle.theorem_honest.proofs.Began.{some-lowest}
use Rattle.laws_client.proofs.Ids.{Long, ids-has}
use Rattle.laws_client.proofs.Rosters.{Ok}
use Rattle.laws_client.proofs.Records.{normal-below}
use Rattle.laws_client.proofs.Links.{normal-live, failed-keeps}
use Rattle.laws_client.proofs.Pools.{Valid, removal-facts}
use Rattle.model_pool.specs.Model as m
use Rattle.model_pool.specs.Steps as s
use Rattle.model_pool.specs.Mirror.{Sees, stage_of, Works, Moves, goes, Shows}
use Rattle.model_pool.proofs.Sessions.{ups, dyings}
use Rattle.model_pool.proofs.Shifts.{failed-shifted}
use Rattle.model_pool.proofs.Tries.{joined}
use Rattle.model_pool.proofs.Turns.{Falls, falls-none, falls-one, falls-idle}
use Rattle.model_pool.proofs.Removals.{falls-removal}

-- ---- those that a write missed fail
record Fell (ro ro' : Roster) (w : m.World) : Type 0 where
  falls : Falls ro' w
  ok : Ok ro'
  plain : ro'.sync ≡ false
  past : ro'.past ≡ ro.past

failed-plain : (ro : Roster) (i : ℕ) → ro.sync ≡ false → ((failed ro i Cause.Io).sync ≡ false) × ((failed ro i Cause.Io).past ≡ ro.past)
unfolding failed left
failed-plain ro i y = by_cases (is_normal (session_at ro i).state) (λ e. rw (e, y) (refl, refl)) (λ e. rw e (y, refl))

-- one more falls
more-falls : {ro ro' : Roster} {w : m.World} (f : Falls ro w) → Falls ro' f.to → Falls ro' w
more-falls f g = record { to = g.to; course = joined f.course g.course; sees = g.sees; hand = g.hand ∙ f.hand; nodes = g.nodes ∙ f.nodes; past = g.past ∙ f.past }

module _ (reached : ℕ) (ro₀ : Roster) (w : m.World) where
  one : (i : ℕ) (ro : Roster) → i < 16 → Fell ro₀ ro w → Fell ro₀ (miss_step reached i ro) w
  unfolding miss_step
  one i ro h f = picked (λ (x : Roster). Fell ro₀ x w) (is_normal (session_at ro i).state && not (has reached i)) (failed ro i Cause.Io) ro
      (λ e. let q = normal-live (session_at ro i).state (and_left (is_normal (session_at ro i).state) (not (has reached i)) e) in
      let n = failed-plain ro i f.plain in
      record {
        falls = more-falls f.falls (falls-one ro (failed ro i Cause.Io) i f.falls.to f.falls.sees (failed-shifted ro f.ok f.plain i h Cause.Io) q);
        ok = failed-keeps ro i Cause.Io f.ok h q;
        plain = n.0;
        past = n.1 ∙ f.past;
      })
      (λ e. f)

  all : (k i : ℕ) (ro : Roster) → i + k ≤ 16 → Fell ro₀ ro w → Fell ro₀ (run_at (miss_step reached) k i ro) w
  all zero i ro h f = f
  all (suc k) i ro h f = all k (suc i) (miss_step reached i ro) (omega arith) (one i ro (omega arith) f)

fell : (p : Pool) (reached : ℕ) (w : m.World) → Valid p → p.roster.sync ≡ false → Sees p.roster w.pool → Fell p.roster (missed p.roster reached) w
unfolding missed
fell p reached w v y e = all reached p.roster w 16 0 p.roster (omega arith) (record { falls = falls-none p.roster w e; ok = v.ok; plain = y; past = refl })

-- ---- who is NORMAL then, and who is on the mark list
module _ (p : Pool) (sound : Bool) (chunk reached : ℕ) (v : Valid p) (y : p.roster.sync ≡ false) (z : write_refusal p sound chunk reached ≡ 0) where
  abbrev left_over : Roster
  left_over = missed p.roster reached

  normal-is : (j : ℕ) → is_normal (session_at left_over j).state ≡ has reached j
  normal-is j =
      let d = missed-does p.roster reached v.ok y in
      by_cases (has reached j)
      (λ e. let n = reached-normal p.roster reached v.ok.long (write-passed p sound chunk reached z).reaches j e in
      ap (λ (x : Session). is_normal x.state) (d.spares j (rw (n, e) refl)) ∙ (n ∙ sym e))
      (λ e. by_cases (is_normal (session_at p.roster j).state)
      (λ n. ap (λ (x : Session). is_normal x.state) (d.fails j (normal-below p.roster j v.ok.long n) (rw (n, e) refl)) ∙ sym e)
      (λ n. ap (λ (x : Session). is_normal x.state) (d.spares j (rw n refl)) ∙ (n ∙ sym e)))

  -- one that is REMOVING is what it was
  removing-is : (j : ℕ) → is_removing (session_at p.roster j).state ≡ true → session_at left_over j ≡ session_at p.roster j
  removing-is j e = (missed-does p.roster reached v.ok y).spares j (rw (removing-not (session_at p.roster j).state e) refl)
    where
      removing-not : (st : State) → is_removing st ≡ true → is_normal st ≡ false
      removing-not State.Free q = refl
      removing-not State.Created q = refl
      removing-not State.Normal q = clash q refl
      removing-not (State.Failed cause) q = refl
      removing-not State.Reconnecting q = refl
      removing-not (State.Removing x owed) q = refl

pub listed-is : (ro : Roster) (u : m.View) → Long ro → Sees ro u → (n : ℕ) → has (ids_of Kind.Listed ro) n ≡ s.listed u.ses u.mem n
listed-is ro u l e n = elim (dec_lt n 16) [
  | yes h ↦ ids-has Kind.Listed ro l n h ∙ rw (e.mem n, ups ro u e n, dyings ro u e n) refl
  | no h ↦ has-out (ids_of Kind.Listed ro) n (omega arith) ∙ sym (ap (λ (b : Bool). b && (not (m.up (u.ses n)) && not (m.dying (u.ses n)))) (sym (e.mem n) ∙ has-out ro.members n (omega arith)))
]

written-sees : (ro : Roster) (ack : Bool) (u u' : m.View) → Sees ro u → u'.ses ≡ u.ses → u'.mark ≡ u.mark → u'.mem ≡ u.mem → u'.version ≡ u.version → in_service (written ro ack).past ≡ u'.closed → Sees (written ro ack) u'
written-sees ro ack u u' e a b c d f = record {
  ses = λ j. e.ses j ∙ ap (λ (g : ℕ → m.Session). g j) (sym a);
  mark = λ j. e.mark j ∙ ap (λ (g : ℕ → Bool). g j) (sym b);
  mem = λ j. e.mem j ∙ ap (λ (g : ℕ → Bool). g j) (sym c);
  version = e.version ∙ sym d;
  closed = f;
}

not-acked : (a b : Bool) → ((a || false) || b) ≡ (a || b)
not-acked true b = refl
not-acked false b = refl

acked : (a b : Bool) → ((a || true) || b) ≡ true
acked true b = refl
acked false b = refl

stage-still : (st : Stage) → T (m.still (stage_of st))
stage-still Stage.Leave = tt
stage-still (Stage.Info peer) = tt

still : (j : Job) (h : m.Hand) → is_running j ≡ false → Works j h → T (m.still h.job)
still Job.Idle h e k = subst (λ (x : m.Job). T (m.still x)) k tt
still (Job.Running r) h e k = clash refl e
still (Job.Removing d) h e k = subst (λ (x : m.Job). T (m.still x)) k.job (stage-still d.stage)

-- the job in hand is none, or a removal, which halts if its awaited peer fell
module _ (p : Pool) (sound : Bool) (chunk reached : ℕ) (v : Valid p) (y : p.roster.sync ≡ false) (z : write_refusal p sound chunk reached ≡ 0) where
  moved_on : (w : m.World) (ack : Bool) → Works p.job w.hand → Falls (written (missed p.roster reached) ack) w → Moves p (halted_if (loses p.job p.roster reached) (with_roster p (written (missed p.roster reached) ack))) Message.Nothing w
  moved_on w ack k f = at p.job refl
    where
      at : (j : Job) → p.job ≡ j → Moves p (halted_if (loses p.job p.roster reached) (with_roster p (written (missed p.roster reached) ack))) Message.Nothing w
      at Job.Idle e = subst (λ (j : Job). Moves p (halted_if (loses j p.roster reached) (with_roster p (written (missed p.roster reached) ack))) Message.Nothing w) (sym e) (goes (falls-idle p (written (missed p.roster reached) ack) w e k f))
      at (Job.Running r) e = clash (ap is_running e) (write-passed p sound chunk reached z).free
      at (Job.Removing d) e =
          let g = removal-facts p.roster d v.ok.long (subst (λ (j : Job). job_ok j p.roster ≡ true) e v.job) in
          falls-removal d p (written (missed p.roster reached) ack) w (loses p.job p.roster reached) e (subst (λ (j : Job). Works j w.hand) e k) f (removing-is p sound chunk reached v y z d.id g.removing)

  -- reached by none: it is not acknowledged
  pub reaches-none : (w : m.World) → Shows p w → reached ≡ 0 → Moves p (halted_if (loses p.job p.roster reached) (with_roster p (written (missed p.roster reached) false))) Message.Nothing w
  reaches-none w k q =
      let f = fell p reached w v y k.sees in
      let g = f.falls in
      moved_on w false k.works (record {
        to = g.to;
        course = g.course;
        sees = written-sees (missed p.roster reached) false g.to.pool g.to.pool g.sees refl refl refl refl (not-acked (missed p.roster reached).past.written (missed p.roster reached).past.assembled ∙ g.sees.closed);
        hand = g.hand;
        nodes = g.nodes;
        past = g.past;
      })

  -- reached by some: every NORMAL session was, and the chunk is marked
  pub record Wrote (w : m.World) : Type 0 where
    pub u : m.World
    pub course : s.Course w (s.written chunk u)
    pub sees : Sees (missed p.roster reached) u.pool
    pub nodes : u.nodes ≡ w.nodes
    pub past : u.past ≡ w.past
    pub hand : u.hand ≡ w.hand
    pub normal : (j : ℕ) → m.up (u.pool.ses j) ≡ has reached j
    pub moves : Moves p (halted_if (loses p.job p.roster reached) (with_roster p (written (missed p.roster reached) true))) Message.Nothing (s.written chunk u)

  pub reaches_some : (w : m.World) → Shows p w → eqb reached 0 ≡ false → Wrote w
  unfolding write_refusal
  reaches_some w k q =
      let f = fell p reached w v y k.sees in
      let g = f.falls in
      let small : reached < 65536 = (let l = ltb-false 65535 reached (none-applies (write_tests p sound chunk reached) z 3 refl) in omega arith) in
      let i = lowest-in reached (some-lowest reached small (eqb-false reached 0 q)) in
      let n : (j : ℕ) → m.up (g.to.pool.ses j) ≡ has reached j = (λ j. ups (missed p.roster reached) g.to.pool g.sees j ∙ normal-is p sound chunk reached v y z j) in
      let h : Works p.job g.to.hand = subst (λ (x : m.Hand). Works p.job x) (sym g.hand) k.works in
      record {
        u = g.to;
        course = s.more g.course (s.Next.Write chunk (lowest reached) (still p.job g.to.hand (write-passed p sound chunk reached z).free h) (n (lowest reached) ∙ i));
        sees = g.sees;
        nodes = g.nodes;
        past = g.past;
        hand = g.hand;
        normal = n;
        moves = moved_on (s.written chunk g.to) true h (falls-none (written (missed p.roster reached) true) (s.written chunk g.to)
            (written-sees (missed p.roster reached) true g.to.pool (s.written chunk g.to).pool g.sees refl refl refl refl (acked (missed p.roster reached).past.written (missed p.roster reached).past.assembled)));
      }

-- ---- a sync
pub syncs : (p : Pool) (sound : Bool) (member chunk clean : ℕ) (w : m.World) → Shows p w → sync_refusal p sound member chunk clean ≡ 0
    → s.Next w (s.owing (s.at_nodes w w.nodes.ver (s.bitless member chunk w.nodes.map)) (m.upd w.past.owe member (m.upd (w.past.owe member) chunk 0)) w.past.acked)
unfolding sync_refusal
syncs p sound member chunk clean w k z = s.Next.Synced member chunk (still p.job w.hand (none-applies (sync_tests p sound member chunk clean) z 6 refl) k.works)
