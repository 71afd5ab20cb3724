-- The lab's log: how many events were logged since the pool was made, and the record of the client's last event, if that one was logged.
use Rattle.std.specs.Prelude.{Option, Some, None}
use Rattle.rules_pool.specs.declared.Answer.{Answer}
use Rattle.rules_pool.specs.declared.Roster.{Roster}
use Rattle.event.specs.declared.Event.{Event}
use Rattle.audit_record.specs.declared.records.Logged.{Logged}
use Rattle.audit_record.specs.Records.{record_of, place_after}
use Rattle.audit_record.specs.declared.journal.Journal.{Journal}

-- of a new pool
abbrev pub blank : Journal
blank = record { count = 0; last = None }

-- what an event is logged as; a sync, a tick and an answer to a map check are not logged
abbrev pub lab_note : Event → Option Logged
lab_note (Event.JoinCreate id) = Some (Logged.JoinCreate id)
lab_note (Event.JoinAssemble id set version) = Some (Logged.JoinAssemble id set version)
lab_note (Event.Enable id) = Some (Logged.Enable id)
lab_note (Event.Maintenance id) = Some (Logged.Maintenance id)
lab_note (Event.LinkDown id) = Some (Logged.LinkDown id)
lab_note (Event.StoreCheck id) = Some (Logged.StoreCheck id)
lab_note (Event.Rejoin id) = Some (Logged.Rejoin id)
lab_note Event.Try = Some Logged.Try
lab_note (Event.Remove id mode) = Some (Logged.Remove id mode)
lab_note (Event.Write chunk reached) = Some (Logged.Write chunk reached)
lab_note (Event.Synced member chunk n) = None
lab_note (Event.Answer number a) = Some (Logged.Answer a)
lab_note Event.Extend = Some Logged.Extend
lab_note Event.Tick = None
lab_note (Event.CheckAnswer number member empty) = None

abbrev pub unlogged : Journal → Journal
unlogged j = record { count = j.count; last = None }

-- An event that is logged and was accepted takes the next place, with the sessions after it.
abbrev pub entered_in : Journal → Option Logged → Answer → Roster → Journal
entered_in j None a after = unlogged j
entered_in j (Some l) (Answer.Refused k) after = unlogged j
entered_in j (Some l) (Answer.Done s) after =
    record { count = place_after j.count; last = Some (record_of (place_after j.count) l s.outcome after) }
