-- A session's word is small; a session's word is read as the session, and a job's words as the job.
use mathlib.Core.Path.{◌≡◌, refl, ap}
use mathlib.Core.Bool.{Bool, true, false}
use mathlib.Core.List.{List, [], ◌∷◌, map}
use Prim.Native.Nat.{ℕ, ◌<◌}
use native.Mathlib.Omega.{arith}
use lib.ListN.{get_or}
use Rattle.event_words.proofs.Alike.{read_one}
use Rattle.rules_pool.specs.declared.Mode.{Mode}
use Rattle.rules_pool.specs.declared.Cause.{Cause}
use Rattle.rules_pool.specs.declared.State.{State}
use Rattle.rules_pool.specs.declared.Session.{Session}
use Rattle.rules_pool.specs.declared.Step.{Step}
use Rattle.rules_pool.specs.declared.Phase.{Phase}
use Rattle.rules_pool.specs.declared.Stage.{Stage}
use Rattle.rules_pool.specs.declared.Job.{Job}
use Rattle.library_client_words.specs.PoolWords.{state_word, session_word, session_in, step_word, step_of, phase_tag, phase_data, phase_of, job_words, job_of}

pub state_small : (s : State) → state_word s < 8
state_small State.Free = omega arith
state_small State.Created = omega arith
state_small State.Normal = omega arith
state_small (State.Failed Cause.Link) = omega arith
state_small (State.Failed Cause.Io) = omega arith
state_small State.Reconnecting = omega arith
state_small (State.Removing m owed) = omega arith

-- a session by its three parts, computed
read-session : (st : State) (maintenance mark : Bool) → session_in (session_word (record { state = st; maintenance = maintenance; mark = mark })) ≡ record { state = st; maintenance = maintenance; mark = mark }
unfolding session_in
read-session State.Free false false = refl
read-session State.Free false true = refl
read-session State.Free true false = refl
read-session State.Free true true = refl
read-session State.Created false false = refl
read-session State.Created false true = refl
read-session State.Created true false = refl
read-session State.Created true true = refl
read-session State.Normal false false = refl
read-session State.Normal false true = refl
read-session State.Normal true false = refl
read-session State.Normal true true = refl
read-session (State.Failed Cause.Link) false false = refl
read-session (State.Failed Cause.Link) false true = refl
read-session (State.Failed Cause.Link) true false = refl
read-session (State.Failed Cause.Link) true true = refl
read-session (State.Failed Cause.Io) false false = refl
read-session (State.Failed Cause.Io) false true = refl
read-session (State.Failed Cause.Io) true false = refl
read-session (State.Failed Cause.Io) true true = refl
read-session State.Reconnecting false false = refl
read-session State.Reconnecting false true = refl
read-session State.Reconnecting true false = refl
read-session State.Reconnecting true true = refl
read-session (State.Removing Mode.Delete false) false false = refl
read-session (State.Removing Mode.Delete false) false true = refl
read-session (State.Removing Mode.Delete false) true false = refl
read-session (State.Removing Mode.Delete false) true true = refl
read-session (State.Removing Mode.Delete true) false false = refl
read-session (State.Removing Mode.Delete true) false true = refl
read-session (State.Removing Mode.Delete true) true false = refl
read-session (State.Removing Mode.Delete true) true true = refl
read-session (State.Removing Mode.Disassemble false) false false = refl
read-session (State.Removing Mode.Disassemble false) false true = refl
read-session (State.Removing Mode.Disassemble false) true false = refl
read-session (State.Removing Mode.Disassemble false) true true = refl
read-session (State.Removing Mode.Disassemble true) false false = refl
read-session (State.Removing Mode.Disassemble true) false true = refl
read-session (State.Removing Mode.Disassemble true) true false = refl
read-session (State.Removing Mode.Disassemble true) true true = refl

pub read-sessions : (ss : List Session) → map session_in (map session_word ss) ≡ ss
read-sessions [] = refl
read-sessions (s ∷ ss) = rw (read-session s.state s.maintenance s.mark, read-sessions ss)

read_step : (s : Step) → step_of (step_word s) ≡ s
read_step Step.Ready = refl
read_step Step.Send = refl
read_step Step.Done = refl

read-phase : (p : Phase) → phase_of (phase_tag p) (phase_data p) ≡ p
read-phase (Phase.Versions v) = refl
read-phase (Phase.Base s) = ap Phase.Base (read_step s)
read-phase Phase.LastIo = refl
read-phase (Phase.Gather s) = ap Phase.Gather (read_step s)
read-phase (Phase.Enable all) = ap Phase.Enable (read_one all)
read-phase (Phase.Spread s) = ap Phase.Spread (read_step s)

-- a run's first word is no other job's
run_of : (p : Phase) (a b c d : ℕ) → job_of (phase_tag p) a b c d ≡ Job.Running (record { phase = phase_of (phase_tag p) a; source = b; left = c; taken = d })
unfolding job_of
run_of (Phase.Versions v) a b c d = refl
run_of (Phase.Base s) a b c d = refl
run_of Phase.LastIo a b c d = refl
run_of (Phase.Gather s) a b c d = refl
run_of (Phase.Enable all) a b c d = refl
run_of (Phase.Spread s) a b c d = refl

abbrev job_at : List ℕ → Job
job_at ws = job_of (get_or ws 0 0) (get_or ws 1 0) (get_or ws 2 0) (get_or ws 3 0) (get_or ws 4 0)

read-stage : (id : ℕ) (s : Stage) → job_at (job_words (Job.Removing (record { id = id; stage = s }))) ≡ Job.Removing (record { id = id; stage = s })
unfolding job_of
read-stage id Stage.Leave = refl
read-stage id (Stage.Info peer) = refl

pub read-job : (j : Job) → job_at (job_words j) ≡ j
unfolding job_of
read-job Job.Idle = refl
read-job (Job.Running r) = rw (run_of r.phase, read-phase r.phase)
read-job (Job.Removing m) = read-stage m.id m.stage
