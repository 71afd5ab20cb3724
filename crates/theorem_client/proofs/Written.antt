-- What an accepted write does: who fails, what is marked, whom it tells, and which removal it halts.
use mathlib.Core.Path.{◌≡◌, refl, ap, ◌∙◌, sym}
use mathlib.Core.Logic.{◌≢◌}
use mathlib.Core.Bool.{Bool, true, false, not, ◌&&◌}
use mathlib.Core.List.{List}
use Prim.Native.Nat.{ℕ, ◌<◌, ◌≤◌}
use native.Mathlib.Omega.{arith}
use lib.Dec.{eqb, ltb}
use borrow.Author.Tests.{eq-eqb, ltb-true, ne_eqb}
use Rattle.laws_words.specs.Tests.{by_cases, and_left, and-false}
use Rattle.laws_words.specs.Words.{pick}
use Rattle.rules_base.proofs.Sets.{has-out}
use Rattle.rules_base.specs.Sets.{has}
use Rattle.rules_pool.specs.Session.{is_normal, is_deleting}
use Rattle.rules_pool.specs.declared.Effect.{Effect}
use Rattle.rules_pool.specs.declared.Job.{Job}
use Rattle.rules_pool.specs.declared.Outcome.{Outcome}
use Rattle.rules_pool.specs.declared.Pool.{Pool}
use Rattle.rules_pool.specs.declared.Roster.{Roster}
use Rattle.rules_pool.specs.declared.Session.{Session}
use Rattle.rules_pool.specs.declared.Stage.{Stage}
use Rattle.rules_pool.specs.declared.Cause.{Cause}
use Rattle.rules_pool.specs.declared.State.{State}
use Rattle.rules_pool.specs.declared.Told.{Told}
use Rattle.rules_pool.specs.declared.Turn.{Turn}
use Rattle.rules_pool.specs.Sessions.{session_at, ids_of}
use Rattle.rules_pool.specs.declared.Kind.{Kind}
use Rattle.rules_pool.specs.Recovery.{with_roster}
use Rattle.rules_pool.specs.Exit.{halted_if}
use Rattle.rules_pool.specs.Jobs.{peer_at}
use Rattle.rules_pool.specs.StateRules.{job_ok, stage_ok}
use Rattle.laws_client.proofs.Ids.{ids-has}
use Rattle.laws_client.proofs.Pools.{Valid, removal-facts}
use Rattle.laws_client.proofs.Records.{normal-below}
use Rattle.laws_client.proofs.WritesKept.{wrote_in, write-passed, write-roster, missed-does, Writes, reached-normal, marks-pool}
use Rattle.rules_client.specs.Writes.{missed, write_refusal, write_ended, marks, write_done, loses}
use Rattle.rules_pool.specs.Breaking.{is_accepted}
use Rattle.rules_client.specs.Client.{carried, sound_for, write_turn}
use Rattle.rules_client.specs.Events.{Event, Lent, turn_of, next, state_of, job_of}
use Rattle.theorem_client.specs.Said.{members_of, sends, misses_peer, Wrote, Marks, MarksNone}
use Rattle.theorem_client.proofs.Every.{event-keeps}
use Rattle.theorem_client.proofs.Shape.{taken}
use Rattle.theorem_client.proofs.States.{normal-is}
use native.Mathlib.Decide.{dec_lt}

-- ---- sessions and jobs

peer-below : (st : Stage) (id : ℕ) → id < 16 → stage_ok st id ≡ true → peer_at st id < 16
peer-below Stage.Leave id h e = h
peer-below (Stage.Info peer) id h e = ltb-true peer 16 (and_left (ltb peer 16) (not (eqb peer id)) e)

lost-is : (k : Job) (c : Pool) (reached : ℕ) → Valid c → job_ok k c.roster ≡ true → loses k c.roster reached ≡ misses_peer k c reached
lost-is Job.Idle c reached v o = refl
lost-is (Job.Running r) c reached v o = refl
lost-is (Job.Removing m) c reached v o =
    let h = removal-facts c.roster m v.ok.long o in
    ids-has (Kind.Unreached reached) c.roster v.ok.long (peer_at m.stage m.id) (peer-below m.stage m.id h.below h.stage)

halted-job : (b : Bool) (p : Pool) → (halted_if b p).job ≡ pick b Job.Idle p.job
halted-job true p = refl
halted-job false p = refl

wrote : (c : Pool) (chunk reached : ℕ) → Valid c → Writes c reached → Wrote c reached (write_done c chunk reached).pool
unfolding write_done
wrote c chunk reached v w =
    record {
      fails = λ id n. ap (λ (ro : Roster). (session_at ro id).state) (write-roster c chunk reached) ∙ by_cases (has reached id) (spared id n) (failed id n);
      halts = marks-pool (λ q. q.job ≡ pick (misses_peer (job_of c) c reached) Job.Idle (job_of c)) c (halted_if (loses c.job c.roster reached) (with_roster c (wrote_in c reached))) chunk reached
          (halted-job (loses c.job c.roster reached) (with_roster c (wrote_in c reached)) ∙ ap (λ (b : Bool). pick b Job.Idle (job_of c)) (lost-is c.job c reached v v.job));
    }
  where
    spared : (id : ℕ) → is_normal (state_of c id) ≡ true → has reached id ≡ true → (session_at (missed c.roster reached) id).state ≡ pick (has reached id) State.Normal (State.Failed Cause.Io)
    spared id n h =
        let d = missed-does c.roster reached v.ok w.plain in
        ap (λ (s : Session). s.state) (d.spares id (rw h (and-false (is_normal (state_of c id))))) ∙ rw h (normal-is (state_of c id) n)

    failed : (id : ℕ) → is_normal (state_of c id) ≡ true → has reached id ≡ false → (session_at (missed c.roster reached) id).state ≡ pick (has reached id) State.Normal (State.Failed Cause.Io)
    failed id n h =
        let d = missed-does c.roster reached v.ok w.plain in
        ap (λ (s : Session). s.state) (d.fails id (normal-below c.roster id v.ok.long n) (rw (n, h) refl)) ∙ rw h refl

pub write-said : (c : Pool) (xs : List ℕ) (chunk reached : ℕ) → Valid c → is_accepted (turn_of (Event.write xs chunk reached) c).answer ≡ true → Wrote c reached (next (Event.write xs chunk reached) c)
unfolding write_ended write_turn
write-said c xs chunk reached v =
    taken (λ t. Wrote c reached t.pool) (write_refusal c (sound_for c xs) chunk reached) (write_done c chunk reached) c
    (λ e. wrote c chunk reached v (write-passed c (sound_for c xs) chunk reached e))

-- ---- what is marked

-- the answer and the effect where some were reached, and where none was
abbrev MarksIn : ℕ → ℕ → Turn → Type 0
MarksIn chunk reached t =
    (t.answer ≡ sends (Outcome.Written true (ids_of Kind.Listed t.pool.roster)) (Told.Marks reached chunk (ids_of Kind.Listed t.pool.roster) t.pool.roster.version))
    × (t.effect ≡ Effect.Mark (ids_of Kind.Listed t.pool.roster) chunk)

abbrev MarksNobody : Turn → Type 0
MarksNobody t = (t.answer ≡ sends (Outcome.Written false 0) Told.Nothing) × (t.effect ≡ Effect.Keep)

marks-some : (before after : Pool) (chunk reached : ℕ) → reached ≢ 0 → MarksIn chunk reached (marks before after chunk reached)
unfolding marks
marks-some before after chunk reached n = rw (ne_eqb reached 0 n) (refl, refl)

marks-none : (before after : Pool) (chunk reached : ℕ) → reached ≡ 0 → MarksNobody (marks before after chunk reached)
unfolding marks
marks-none before after chunk reached z = rw (eq-eqb reached 0 z) (refl, refl)

module _ (c : Pool) (xs : List ℕ) (chunk reached : ℕ) (v : Valid c) (d : is_accepted (turn_of (Event.write xs chunk reached) c).answer ≡ true) where
  write-marks-some : reached ≢ 0 → MarksIn chunk reached (write_turn c xs chunk reached)
  unfolding write_ended write_turn write_done
  write-marks-some n = taken (MarksIn chunk reached) (write_refusal c (sound_for c xs) chunk reached) (write_done c chunk reached) c (λ e. marks-some c _ chunk reached n) d

  write-marks-none : reached ≡ 0 → MarksNobody (write_turn c xs chunk reached)
  unfolding write_ended write_turn write_done
  write-marks-none z = taken MarksNobody (write_refusal c (sound_for c xs) chunk reached) (write_done c chunk reached) c (λ e. marks-none c _ chunk reached z) d

  reached-all : (id : ℕ) → has reached id ≡ true → is_normal (state_of c id) ≡ true
  unfolding write_ended write_turn
  reached-all =
      taken (λ t. (id : ℕ) → has reached id ≡ true → is_normal (state_of c id) ≡ true) (write_refusal c (sound_for c xs) chunk reached) (write_done c chunk reached) c
      (λ e. reached-normal c.roster reached v.ok.long (write-passed c (sound_for c xs) chunk reached e).reaches) d

-- the mark list, id by id
listed-is : (c : Pool) (id : ℕ) → Valid c → has (ids_of Kind.Listed c.roster) id ≡ (has (members_of c) id && (not (is_normal (state_of c id)) && not (is_deleting (state_of c id))))
listed-is c id v = elim (dec_lt id 16) [
  | yes h ↦ ids-has Kind.Listed c.roster v.ok.long id h
  | no n ↦ let g : 16 ≤ id = omega (arith, n) in has-out (ids_of Kind.Listed c.roster) id g ∙ sym (rw (has-out (members_of c) id g) refl)
]

pub marks-said : (c : Pool) (xs : List ℕ) (chunk reached : ℕ) → Valid c → is_accepted (turn_of (Event.write xs chunk reached) c).answer ≡ true → reached ≢ 0 → Marks c xs chunk reached (Event.write xs chunk reached)
marks-said c xs chunk reached v d n =
    record {
      list = ids_of Kind.Listed c'.roster;
      listed = λ id. listed-is c' id v';
      spared = λ id h. listed-is c' id v' ∙ rw ((write-said c xs chunk reached v d).fails id (reached-all c xs chunk reached v d id h), h) (and-false (has (members_of c') id));
      answer = (write-marks-some c xs chunk reached v d n).0;
      map = ap (λ (ef : Effect). Lent.some (carried ef xs)) (write-marks-some c xs chunk reached v d n).1;
    }
  where
    c' : Pool
    c' = next (Event.write xs chunk reached) c

    v' : Valid (next (Event.write xs chunk reached) c)
    v' = event-keeps (Event.write xs chunk reached) c v

pub none_said : (c : Pool) (xs : List ℕ) (chunk reached : ℕ) → Valid c → is_accepted (turn_of (Event.write xs chunk reached) c).answer ≡ true → reached ≡ 0 → MarksNone c xs (Event.write xs chunk reached)
none_said c xs chunk reached v d z =
    let m = write-marks-none c xs chunk reached v d z in
    record { answer = m.0; map = ap (λ (ef : Effect). Lent.some (carried ef xs)) m.1 }
