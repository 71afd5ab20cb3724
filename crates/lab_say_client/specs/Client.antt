-- The client's line after an accepted event, and the line of its further fields.
use Rattle.std.specs.Prelude.{ℕ, List, [], ◌∷◌, map}
use Rattle.laws_words.specs.Words.{one}
use Rattle.text_bytes.specs.Bytes.{bytes}
use Rattle.text_bytes.specs.Ink.{joined}
use Rattle.lab_say.specs.Say.{paired, awaited_text, told_text}
use Rattle.rules_pool.specs.declared.State.{State}
use Rattle.rules_pool.specs.declared.Session.{Session}
use Rattle.rules_pool.specs.declared.Past.{Past}
use Rattle.rules_pool.specs.declared.Roster.{Roster}
use Rattle.rules_pool.specs.declared.Phase.{Phase}
use Rattle.rules_pool.specs.declared.Job.{Job}
use Rattle.rules_pool.specs.declared.Outcome.{Outcome}
use Rattle.rules_pool.specs.declared.Pool.{Pool}
use Rattle.rules_pool.specs.declared.Sent.{Sent}
use Rattle.rules_pool.specs.declared.Kind.{Kind}
use Rattle.rules_pool.specs.Sessions.{ids_of}
use Rattle.rules_client.specs.declared.Check.{Check}

-- The letter of a session: . none, C CREATED, N NORMAL, F FAILED, R RECONNECTING, X REMOVING.
abbrev pub letter_of : State → ℕ
letter_of State.Free = 46
letter_of State.Created = 67
letter_of State.Normal = 78
letter_of (State.Failed cause) = 70
letter_of State.Reconnecting = 82
letter_of (State.Removing mode owed) = 88

unfoldable pub letter : Session → ℕ
letter s = letter_of s.state

abbrev pub phase_text : Phase → List ℕ
phase_text (Phase.Versions top) = bytes " job=run:versions"
phase_text (Phase.Base step) = bytes " job=run:base"
phase_text Phase.LastIo = bytes " job=run:last_io"
phase_text (Phase.Gather step) = bytes " job=run:gather"
phase_text (Phase.Enable every) = bytes " job=run:enable"
phase_text (Phase.Spread step) = bytes " job=run:spread"

abbrev pub job_text : Job → List ℕ
job_text Job.Idle = bytes " job=none"
job_text (Job.Running run) = phase_text run.phase
job_text (Job.Removing removal) = paired (bytes " job=remove:") removal.id

abbrev pub outcome_text : Outcome → List ℕ
outcome_text Outcome.Plain = []
outcome_text (Outcome.Taken taken) = paired (bytes " taken=") taken
outcome_text (Outcome.Written acked list) = joined (paired (bytes " acked=") (one acked) ∷ paired (bytes " list=") list ∷ [])
outcome_text (Outcome.Picked id) = paired (bytes " id=") id

-- The state.
unfoldable pub roster_text : Roster → List ℕ
roster_text ro =
    joined
    (paired (bytes "ok version=") ro.version
    ∷ paired (bytes " count=") ro.count
    ∷ paired (bytes " members=") ro.members
    ∷ bytes " sessions="
    ∷ map letter ro.sessions
    ∷ [])

-- The sets read off the sessions.
unfoldable pub flags_text : Roster → List ℕ
flags_text ro =
    joined
    (paired (bytes " maint=") (ids_of Kind.Maintained ro)
    ∷ paired (bytes " marked=") (ids_of Kind.Marked ro)
    ∷ paired (bytes " delete=") (ids_of Kind.Deleting ro)
    ∷ paired (bytes " owed=") (ids_of Kind.Owed ro)
    ∷ [])

-- The state, the outcome and the messages.
unfoldable pub client_text : Pool → Sent → List ℕ
client_text p s =
    joined
    (roster_text p.roster ∷ flags_text p.roster ∷ job_text p.job
    ∷ outcome_text s.outcome ∷ told_text s.told ∷ awaited_text s.awaited s.number ∷ [])

-- The further fields: what the pool went through, what map check knows, and the FAILED sessions by their cause.
unfoldable pub past_text : Past → List ℕ
past_text past = joined (paired (bytes "look written=") (one past.written) ∷ paired (bytes " assembled=") (one past.assembled) ∷ [])

unfoldable pub check_text : Check → List ℕ
check_text k = joined (paired (bytes " tick=") k.tick ∷ paired (bytes " due=") k.due ∷ paired (bytes " once=") k.once ∷ [])

unfoldable pub causes_text : Roster → List ℕ
causes_text ro = joined (paired (bytes " link=") (ids_of Kind.Link ro) ∷ paired (bytes " io=") (ids_of Kind.Io ro) ∷ [])

unfoldable pub look_text : Pool → Check → List ℕ
look_text p k = joined (past_text p.roster.past ∷ check_text k ∷ causes_text p.roster ∷ [])
