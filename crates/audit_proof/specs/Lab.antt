-- The records that the lab gives are those of this log.
use Rattle.std.specs.Prelude.{◌≡◌, Option, Some, None, List, ◌∷◌, ℕ, ◌+◌, ◌<◌, ◌^◌}
use Rattle.rules_pool.specs.declared.Roster.{Roster}
use Rattle.rules_pool.specs.declared.Answer.{Answer}
use Rattle.event.specs.declared.Event.{Event}
use Rattle.event.specs.OfClient.{event_of}
use Rattle.audit_record.specs.declared.records.Record.{Record}
use Rattle.audit_record.specs.declared.records.Logged.{Logged}
use Rattle.audit_record.specs.declared.journal.Journal.{Journal}
use Rattle.audit_record.specs.Journal.{lab_note, entered_in}
use Rattle.audit_proof.specs.Own.{note_of, entered}

-- An event of the lab is logged as the event of the client that it is.
abbrev pub LabNotes : Type 0
LabNotes = (e : Event) (own other : List ℕ) → note_of (event_of e own other) ≡ lab_note e

-- the record that the lab gives, if there is one, and then the rest
abbrev pub given : Option Record → List Record → List Record
given None rs = rs
given (Some r) rs = r ∷ rs

-- What an event enters in the log is what the lab gives as its record, and the rest of the log begins where the lab's count then stands.
abbrev pub LabGives : Type 0
LabGives = (j : Journal) (note : Option Logged) (a : Answer) (after : Roster) (rest : ℕ → List Record) → j.count + 1 < 2 ^ 64
    → entered note a after j.count rest ≡ given (entered_in j note a after).last (rest (entered_in j note a after).count)
