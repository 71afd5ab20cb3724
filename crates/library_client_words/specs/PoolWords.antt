-- The words of a pool's sessions and of its job, and what words stand for: any number gives a session, any five a job.
use Rattle.std.specs.Prelude.{◌&&◌, not, List, [], ◌∷◌, ℕ, ◌+◌, ◌/◌, ◌%◌, eqb}
use Rattle.laws_words.specs.Words.{pick, one}
use Rattle.rules_pool.specs.declared.Cause.{Cause}
use Rattle.rules_pool.specs.declared.State.{State}
use Rattle.rules_pool.specs.declared.Session.{Session}
use Rattle.rules_pool.specs.declared.Step.{Step}
use Rattle.rules_pool.specs.declared.Phase.{Phase}
use Rattle.rules_pool.specs.declared.Run.{Run}
use Rattle.rules_pool.specs.declared.Stage.{Stage}
use Rattle.rules_pool.specs.declared.Job.{Job}
use Rattle.rules_pool.specs.Session.{is_removing, is_deleting, is_owed}
use Rattle.event_number.specs.Values as lines

-- the numbers that the histories give to the states
abbrev pub state_word : State → ℕ
state_word State.Free = 0
state_word State.Created = 1
state_word State.Normal = 2
state_word (State.Failed Cause.Link) = 3
state_word (State.Failed Cause.Io) = 6
state_word State.Reconnecting = 4
state_word (State.Removing mode owed) = 5

abbrev pub session_word : Session → ℕ
session_word s =
    state_word s.state
    + pick s.maintenance 8 0
    + pick s.mark 16 0
    + pick (is_removing s.state && not (is_deleting s.state)) 32 0
    + pick (is_owed s.state) 64 0

unfoldable pub session_in : ℕ → Session
session_in w = lines.session_of (w % 8) (w / 8 % 2) (w / 16 % 2) (w / 32 % 2) (w / 64 % 2)

abbrev pub step_word : Step → ℕ
step_word Step.Ready = 0
step_word Step.Send = 1
step_word Step.Done = 2

abbrev pub step_of : ℕ → Step
step_of x = pick (eqb x 0) Step.Ready (pick (eqb x 1) Step.Send Step.Done)

abbrev pub phase_tag : Phase → ℕ
phase_tag (Phase.Versions v) = 1
phase_tag (Phase.Base s) = 2
phase_tag Phase.LastIo = 3
phase_tag (Phase.Gather s) = 4
phase_tag (Phase.Enable all) = 5
phase_tag (Phase.Spread s) = 6

-- the highest version so far, the step, or whether the run is one of case 3
abbrev pub phase_data : Phase → ℕ
phase_data (Phase.Versions v) = v
phase_data (Phase.Base s) = step_word s
phase_data Phase.LastIo = 0
phase_data (Phase.Gather s) = step_word s
phase_data (Phase.Enable all) = one all
phase_data (Phase.Spread s) = step_word s

abbrev pub phase_of : ℕ → ℕ → Phase
phase_of tag a =
    pick (eqb tag 1) (Phase.Versions a)
    (pick (eqb tag 2) (Phase.Base (step_of a))
    (pick (eqb tag 3) Phase.LastIo
    (pick (eqb tag 4) (Phase.Gather (step_of a))
    (pick (eqb tag 5) (Phase.Enable (eqb a 1))
    (Phase.Spread (step_of a))))))

-- phase, its data, source, left, taken
abbrev pub run_words : Run → List ℕ
run_words r = phase_tag r.phase ∷ phase_data r.phase ∷ r.source ∷ r.left ∷ r.taken ∷ []

-- stage, peer, id
abbrev pub stage_words : ℕ → Stage → List ℕ
stage_words id Stage.Leave = 7 ∷ 0 ∷ id ∷ 0 ∷ 0 ∷ []
stage_words id (Stage.Info peer) = 8 ∷ peer ∷ id ∷ 0 ∷ 0 ∷ []

-- 0 idle, 1 to 6 a run's phase, 7 and 8 a removal's stage
abbrev pub job_words : Job → List ℕ
job_words Job.Idle = 0 ∷ 0 ∷ 0 ∷ 0 ∷ 0 ∷ []
job_words (Job.Running r) = run_words r
job_words (Job.Removing m) = stage_words m.id m.stage

unfoldable pub job_of : ℕ → ℕ → ℕ → ℕ → ℕ → Job
job_of tag a b c d =
    pick (eqb tag 0) Job.Idle
    (pick (eqb tag 7) (Job.Removing (record { id = b; stage = Stage.Leave }))
    (pick (eqb tag 8) (Job.Removing (record { id = b; stage = Stage.Info a }))
    (Job.Running (record { phase = phase_of tag a; source = b; left = c; taken = d }))))
