-- A run that is in hand after an event, which is no answer, is one that recovery tried began.
use mathlib.Core.Path.{◌≡◌, refl, ap, sym}
use mathlib.Core.Bool.{true, false, not, ◌&&◌}
use mathlib.Core.List.{List}
use Prim.Native.Nat.{ℕ}
use lib.Dec.{eqb, ltb}
use borrow.Author.Tests.{not-false}
use Rattle.laws_words.specs.Tests.{clash, either}
use Rattle.rules_base.proofs.Order.{none-applies}
use Rattle.rules_pool.specs.Session.{is_created, is_owed, is_deleting}
use Rattle.rules_pool.specs.declared.Effect.{Effect}
use Rattle.rules_pool.specs.declared.Job.{Job}
use Rattle.rules_pool.specs.declared.Mode.{Mode}
use Rattle.rules_pool.specs.declared.Outcome.{Outcome}
use Rattle.rules_pool.specs.declared.Pool.{Pool}
use Rattle.rules_pool.specs.declared.Removal.{Removal}
use Rattle.rules_pool.specs.declared.Reply.{Reply}
use Rattle.rules_pool.specs.declared.Roster.{Roster}
use Rattle.rules_pool.specs.declared.Stage.{Stage}
use Rattle.rules_pool.specs.declared.Told.{Told}
use Rattle.rules_pool.specs.declared.Turn.{Turn}
use Rattle.rules_pool.specs.Sessions.{session_at}
use Rattle.rules_pool.specs.Changes.{member_dropped}
use Rattle.rules_pool.specs.Run.{receiver}
use Rattle.rules_pool.specs.Recovery.{with_roster, posted, run_ended, jobless, disabling_but}
use Rattle.laws_client.proofs.Exit.{halts}
use Rattle.rules_pool.specs.Exit.{tried_with, tried_after}
use Rattle.rules_pool.specs.Jobs.{is_idle, is_peer, is_running}
use Rattle.rules_client.specs.Joins.{create_refusal, create_done, join_create, assemble_refusal, assemble_done, join_assemble}
use Rattle.rules_client.specs.Enables.{enable_refusal, enable, maintenance_refusal, maintenance_done, enable_done, maintenance}
use Rattle.rules_client.specs.Links.{down_refusal, dropped, down_done, link_down, check_refusal, store_check, check_done, try_refusal, try_run, down_at}
use Rattle.rules_client.specs.Removal as removal
use Rattle.rules_client.specs.Remove.{remove_refusal, remove}
use Rattle.rules_client.specs.declared.Gone.{Gone}
use Rattle.laws_client.proofs.WritesKept.{wrote_in}
use Rattle.rules_client.specs.Writes.{write_refusal, write_ended, marks, write_done, sync_refusal, sync_done, synced, loses}
use Rattle.rules_pool.specs.Breaking.{is_accepted}
use Rattle.rules_client.specs.Client.{sound_for, remove_turn, write_turn, synced_turn, clean_to}
use Rattle.rules_client.specs.Events.{Event, turn_of, tests_of}
use Rattle.theorem_client.specs.Reading.{is_answer}
use Rattle.theorem_client.proofs.Shape.{taken}
use Rattle.theorem_client.proofs.Sound.{inside}

-- ---- the run in hand after an event is one that recovery tried began

-- The turn is that of an event that tried recovery in a pool without a job.
pub record ByTrial (p : Pool) (u : Turn) : Type 0 where
  pub after : Pool
  pub outcome : Outcome
  pub told : Told
  pub effect : Effect
  pub turn : u ≡ tried_with p after outcome told effect
  pub fits : inside p.chunks effect ≡ true
  pub idle : after ≡ jobless (with_roster p after.roster)

abbrev pub Tries : Pool → Turn → Type 0
Tries p u = is_running u.pool.job ≡ true → ByTrial p u

pub no_run : (p : Pool) (u : Turn) → is_running u.pool.job ≡ false → Tries p u
no_run p u e z = clash z e

pub idle-none : (j : Job) → is_idle j ≡ true → is_running j ≡ false
idle-none Job.Idle e = refl
idle-none (Job.Running r) e = clash refl (sym e)
idle-none (Job.Removing m) e = refl

idle-is : (j : Job) → is_idle j ≡ true → j ≡ Job.Idle
idle-is Job.Idle e = refl
idle-is (Job.Running r) e = clash refl (sym e)
idle-is (Job.Removing m) e = clash refl (sym e)

pub by-trial-with : (p : Pool) (ro : Roster) (outcome : Outcome) (told : Told) (effect : Effect) → inside p.chunks effect ≡ true → is_idle p.job ≡ true
    → Tries p (tried_with p (with_roster p ro) outcome told effect)
by-trial-with p ro outcome told effect fits i z =
    record {
      after = with_roster p ro;
      outcome = outcome;
      told = told;
      effect = effect;
      turn = refl;
      fits = fits;
      idle = ap (λ (j : Job). at j) (idle-is p.job i);
    }
  where
    at : Job → Pool
    at j = record { roster = ro; job = j; number = p.number; chunks = p.chunks }

by-trial : (p : Pool) (ro : Roster) (outcome : Outcome) (told : Told) → is_idle p.job ≡ true → Tries p (tried_after p (with_roster p ro) outcome told)
by-trial p ro outcome told i = by-trial-with p ro outcome told Effect.Keep refl i

-- ---- no removal begins a run

abbrev Calm : Gone → Type 0
Calm g = is_running g.posted.pool.job ≡ false

freed-calm : (p : Pool) (id : ℕ) (ef : Effect) → Calm (removal.freed_from p id ef)
unfolding removal.freed_from
freed-calm p id ef = refl

onward-calm : (p : Pool) (id : ℕ) (st : Stage) (ef : Effect) → Calm (removal.onward p id st ef)
unfolding removal.onward posted
onward-calm p id st ef = either Calm (ltb (removal.due st p.roster) 16) _ _ refl (freed-calm p id ef)

departed-calm : (p : Pool) (id : ℕ) → Calm (removal.departed p id)
unfolding removal.departed
departed-calm p id =
    either Calm (is_deleting (removal.state_of p id) && not p.roster.sync) _ _
    (onward-calm (with_roster p (member_dropped p.roster id)) id Stage.Leave (Effect.ZeroRow id))
    (onward-calm p id Stage.Leave Effect.Keep)

pub started-calm : (p : Pool) (id : ℕ) → Calm (removal.started p id)
unfolding removal.started posted
started-calm p id = either Calm (is_owed (removal.state_of p id)) _ _ refl (departed-calm p id)

well-calm : (st : Stage) (p : Pool) (id : ℕ) → Calm (removal.well_answered st p id)
well-calm Stage.Leave p id = departed-calm (removal.paid p id) id
well-calm (Stage.Info peer) p id = onward-calm p id (Stage.Info peer) Effect.Keep

pub answered-calm : (m : Removal) (p : Pool) (a : Reply) → Calm (removal.removal_answered m p a)
answered-calm m p Reply.Failed = refl
answered-calm m p (Reply.Good b) = well-calm m.stage p m.id

-- ---- every event but an answer

-- a pool without a run
abbrev Quiet : Pool → Type 0
Quiet q = is_running q.job ≡ false

down-tries : (j : Job) (p : Pool) (id : ℕ) → p.job ≡ j → Tries p (down_at j p id)
down-tries Job.Idle p id e = no_run p _ (ap is_running e)
down-tries (Job.Running r) p id e =
    λ z. record { after = run_ended (with_roster p (dropped p.roster id)); outcome = Outcome.Taken r.taken; told = disabling_but id (receiver r); effect = Effect.Keep; turn = refl; fits = refl; idle = refl }
down-tries (Job.Removing m) p id e =
    no_run p _ (halts Quiet (is_peer (Job.Removing m) id) (with_roster p (dropped p.roster id)) refl (ap is_running e))

-- no job is in hand where the sixth test does not hold
pub idle-at : (p : Pool) → not (is_idle p.job) ≡ false → is_idle p.job ≡ true
idle-at p e = not-false (is_idle p.job) e

marks-quiet : (p q : Pool) (chunk reached : ℕ) → Quiet q → Quiet (marks p q chunk reached).pool
unfolding marks
marks-quiet p q chunk reached f = either (λ (u : Turn). Quiet u.pool) (eqb reached 0) _ _ f f

pub create-trial : (id : ℕ) (c : Pool) → is_answer (Event.join_create id) ≡ false → is_accepted (turn_of (Event.join_create id) c).answer ≡ true → Tries c (turn_of (Event.join_create id) c)
unfolding join_create create_refusal create_done join_assemble assemble_refusal assemble_done enable enable_refusal enable_done maintenance maintenance_refusal maintenance_done link_down down_done store_check check_refusal check_done try_run try_refusal remove remove_turn write_ended write_refusal write_done write_turn synced sync_refusal sync_done synced_turn
create-trial id c n =
    taken (Tries c) (create_refusal c id) _ c
    (λ e. no_run c _ (idle-none c.job (idle-at c (none-applies (tests_of (Event.join_create id) c) e 6 refl))))

pub assemble-trial : (id set version : ℕ) (c : Pool) → is_answer (Event.join_assemble id set version) ≡ false → is_accepted (turn_of (Event.join_assemble id set version) c).answer ≡ true → Tries c (turn_of (Event.join_assemble id set version) c)
unfolding join_create create_refusal create_done join_assemble assemble_refusal assemble_done enable enable_refusal enable_done maintenance maintenance_refusal maintenance_done link_down down_done store_check check_refusal check_done try_run try_refusal remove remove_turn write_ended write_refusal write_done write_turn synced sync_refusal sync_done synced_turn
assemble-trial id set version c n =
    taken (Tries c) (assemble_refusal c id set version) _ c
    (λ e. by-trial c _ _ _ (idle-at c (none-applies (tests_of (Event.join_assemble id set version) c) e 6 refl)))

pub enable-trial : (id : ℕ) (c : Pool) → is_answer (Event.enable id) ≡ false → is_accepted (turn_of (Event.enable id) c).answer ≡ true → Tries c (turn_of (Event.enable id) c)
unfolding join_create create_refusal create_done join_assemble assemble_refusal assemble_done enable enable_refusal enable_done maintenance maintenance_refusal maintenance_done link_down down_done store_check check_refusal check_done try_run try_refusal remove remove_turn write_ended write_refusal write_done write_turn synced sync_refusal sync_done synced_turn
enable-trial id c n =
    taken (Tries c) (enable_refusal c id) _ c
    (λ e. let i = idle-at c (none-applies (tests_of (Event.enable id) c) e 6 refl) in
    either (Tries c) (is_created (session_at c.roster id).state) _ _ (no_run c _ (idle-none c.job i)) (by-trial c _ _ _ i))

pub maintenance-trial : (id : ℕ) (c : Pool) → is_answer (Event.maintenance id) ≡ false → is_accepted (turn_of (Event.maintenance id) c).answer ≡ true → Tries c (turn_of (Event.maintenance id) c)
unfolding join_create create_refusal create_done join_assemble assemble_refusal assemble_done enable enable_refusal enable_done maintenance maintenance_refusal maintenance_done link_down down_done store_check check_refusal check_done try_run try_refusal remove remove_turn write_ended write_refusal write_done write_turn synced sync_refusal sync_done synced_turn
maintenance-trial id c n =
    taken (Tries c) (maintenance_refusal c id) _ c
    (λ e. no_run c _ (idle-none c.job (idle-at c (none-applies (tests_of (Event.maintenance id) c) e 6 refl))))

pub down-trial : (id : ℕ) (c : Pool) → is_answer (Event.link_down id) ≡ false → is_accepted (turn_of (Event.link_down id) c).answer ≡ true → Tries c (turn_of (Event.link_down id) c)
unfolding join_create create_refusal create_done join_assemble assemble_refusal assemble_done enable enable_refusal enable_done maintenance maintenance_refusal maintenance_done link_down down_done store_check check_refusal check_done try_run try_refusal remove remove_turn write_ended write_refusal write_done write_turn synced sync_refusal sync_done synced_turn
down-trial id c n = taken (Tries c) (down_refusal c id) _ c (λ e. down-tries c.job c id refl)

pub check-trial : (id : ℕ) (c : Pool) → is_answer (Event.store_check id) ≡ false → is_accepted (turn_of (Event.store_check id) c).answer ≡ true → Tries c (turn_of (Event.store_check id) c)
unfolding join_create create_refusal create_done join_assemble assemble_refusal assemble_done enable enable_refusal enable_done maintenance maintenance_refusal maintenance_done link_down down_done store_check check_refusal check_done try_run try_refusal remove remove_turn write_ended write_refusal write_done write_turn synced sync_refusal sync_done synced_turn
check-trial id c n =
    taken (Tries c) (check_refusal c id) _ c
    (λ e. let i = idle-at c (none-applies (tests_of (Event.store_check id) c) e 6 refl) in
    either (Tries c) c.roster.sync _ _ (no_run c _ (idle-none c.job i)) (by-trial c _ _ _ i))

pub try-trial : (c : Pool) → is_answer Event.try_run ≡ false → is_accepted (turn_of Event.try_run c).answer ≡ true → Tries c (turn_of Event.try_run c)
unfolding join_create create_refusal create_done join_assemble assemble_refusal assemble_done enable enable_refusal enable_done maintenance maintenance_refusal maintenance_done link_down down_done store_check check_refusal check_done try_run try_refusal remove remove_turn write_ended write_refusal write_done write_turn synced sync_refusal sync_done synced_turn
try-trial c n =
    taken (Tries c) (try_refusal c) _ c
    (λ e. by-trial c c.roster _ _ (idle-at c (none-applies (tests_of Event.try_run c) e 6 refl)))

pub remove-trial : (xs : List ℕ) (id : ℕ) (mode : Mode) (c : Pool) → is_answer (Event.remove xs id mode) ≡ false → is_accepted (turn_of (Event.remove xs id mode) c).answer ≡ true → Tries c (turn_of (Event.remove xs id mode) c)
unfolding join_create create_refusal create_done join_assemble assemble_refusal assemble_done enable enable_refusal enable_done maintenance maintenance_refusal maintenance_done link_down down_done store_check check_refusal check_done try_run try_refusal remove remove_turn write_ended write_refusal write_done write_turn synced sync_refusal sync_done synced_turn
remove-trial xs id mode c n = taken (Tries c) (remove_refusal c (sound_for c xs) id mode) _ c (λ e. no_run c _ (started-calm _ id))

pub write-trial : (xs : List ℕ) (chunk reached : ℕ) (c : Pool) → is_answer (Event.write xs chunk reached) ≡ false → is_accepted (turn_of (Event.write xs chunk reached) c).answer ≡ true → Tries c (turn_of (Event.write xs chunk reached) c)
unfolding join_create create_refusal create_done join_assemble assemble_refusal assemble_done enable enable_refusal enable_done maintenance maintenance_refusal maintenance_done link_down down_done store_check check_refusal check_done try_run try_refusal remove remove_turn write_ended write_refusal write_done write_turn synced sync_refusal sync_done synced_turn
write-trial xs chunk reached c n =
    taken (Tries c) (write_refusal c (sound_for c xs) chunk reached) _ c
    (λ e. let i : is_running c.job ≡ false = none-applies (tests_of (Event.write xs chunk reached) c) e 6 refl in
    no_run c _
    (marks-quiet c _ chunk reached
    (halts Quiet (loses c.job c.roster reached) (with_roster c (wrote_in c reached)) refl i)))

pub synced-trial : (xs : List ℕ) (member chunk : ℕ) (c : Pool) → is_answer (Event.synced xs member chunk) ≡ false → is_accepted (turn_of (Event.synced xs member chunk) c).answer ≡ true → Tries c (turn_of (Event.synced xs member chunk) c)
unfolding join_create create_refusal create_done join_assemble assemble_refusal assemble_done enable enable_refusal enable_done maintenance maintenance_refusal maintenance_done link_down down_done store_check check_refusal check_done try_run try_refusal remove remove_turn write_ended write_refusal write_done write_turn synced sync_refusal sync_done synced_turn
synced-trial xs member chunk c n =
    taken (Tries c) (sync_refusal c (sound_for c xs) member chunk (clean_to xs chunk 16)) _ c
    (λ e. no_run c _ (none-applies (tests_of (Event.synced xs member chunk) c) e 6 refl))
