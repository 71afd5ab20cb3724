-- What breaks a row of empty answers: "no acknowledged write, no session change and no run between them". An event does so that is accepted and acknowledges a write, changes any
-- session's record, or has a run in hand before or after it.
use Rattle.std.specs.Prelude.{Bool, true, false, ◌&&◌, ◌||◌, not, ℕ, zero, suc, eqb}
use Rattle.laws_words.specs.Words.{pick, one}
use Rattle.rules_pool.specs.declared.State.{State}
use Rattle.rules_pool.specs.declared.Session.{Session}
use Rattle.rules_pool.specs.declared.Roster.{Roster}
use Rattle.rules_pool.specs.declared.Pool.{Pool}
use Rattle.rules_pool.specs.declared.Outcome.{Outcome}
use Rattle.rules_pool.specs.declared.Answer.{Answer}
use Rattle.rules_pool.specs.declared.Turn.{Turn}
use Rattle.rules_pool.specs.Session.{is_link, is_delete}
use Rattle.rules_pool.specs.Sessions.{session_at}
use Rattle.rules_pool.specs.Jobs.{is_running}

-- an event is accepted where its answer is no refusal
abbrev pub is_accepted : Answer → Bool
is_accepted (Answer.Refused n) = false
is_accepted (Answer.Done s) = true

abbrev pub acknowledged : Outcome → Bool
acknowledged Outcome.Plain = false
acknowledged (Outcome.Taken count) = false
acknowledged (Outcome.Written acked list) = acked
acknowledged (Outcome.Picked id) = false

-- it acknowledges a write
abbrev pub acknowledges : Answer → Bool
acknowledges (Answer.Refused n) = false
acknowledges (Answer.Done s) = acknowledged s.outcome

-- each state has a number of its own
abbrev pub state_number : State → ℕ
state_number State.Free = 0
state_number State.Created = 1
state_number State.Normal = 2
state_number (State.Failed cause) = pick (is_link cause) 3 4
state_number State.Reconnecting = 5
state_number (State.Removing mode owed) = pick (is_delete mode) (pick owed 6 7) (pick owed 8 9)

-- the two records are the same: state, maintenance flag and mark
abbrev pub same_record : Session → Session → Bool
same_record s t =
    eqb (state_number s.state) (state_number t.state)
    && (eqb (one s.maintenance) (one t.maintenance) && eqb (one s.mark) (one t.mark))

-- some id below n has another record
unfoldable pub changed_to : Roster → Roster → ℕ → Bool
changed_to before after zero = false
changed_to before after (suc n) = changed_to before after n || not (same_record (session_at before n) (session_at after n))

-- a run is in hand before or after
abbrev pub has_run : Pool → Pool → Bool
has_run before after = is_running before.job || is_running after.job

unfoldable pub breaks : Pool → Turn → Bool
breaks before t = is_accepted t.answer && (acknowledges t.answer || (changed_to before.roster t.pool.roster 16 || has_run before t.pool))
