-- A log record: what an accepted event of the client was, and its pool's version, NORMAL count and causes after it.
use Rattle.std.specs.Prelude.{Bool, List, [], ◌∷◌, ℕ, ◌+◌, ◌*◌, eqb, ltb, Option, Some, None}
use Rattle.laws_words.specs.Words.{pick, all}
use Rattle.rules_pool.specs.declared.Mode.{Mode}
use Rattle.rules_pool.specs.declared.Cause.{Cause}
use Rattle.rules_pool.specs.declared.State.{State}
use Rattle.rules_pool.specs.declared.Session.{Session}
use Rattle.rules_pool.specs.declared.Roster.{Roster}
use Rattle.rules_pool.specs.declared.Reply.{Reply}
use Rattle.rules_pool.specs.declared.Outcome.{Outcome}
use Rattle.audit_record.specs.declared.records.Record.{Record}
use Rattle.audit_record.specs.declared.records.Logged.{Logged}

-- no event's record: there is no kind 0
abbrev pub no_record : Record
no_record = record { sequence = 0; kind = 0; member = 0; set = 0; number = 0; version = 0; count = 0; causes = 0 }

-- ---- why each session failed

-- 0 none, 1 link, 2 IO
abbrev pub cause_number : State → ℕ
cause_number State.Free = 0
cause_number State.Created = 0
cause_number State.Normal = 0
cause_number (State.Failed Cause.Link) = 1
cause_number (State.Failed Cause.Io) = 2
cause_number State.Reconnecting = 0
cause_number (State.Removing m owed) = 0

-- two bits a session, the first lowest: session i at bit 2i
unfoldable pub causes_in : List Session → ℕ
causes_in [] = 0
causes_in (s ∷ ss) = causes_in ss * 4 + cause_number s.state

-- ---- the record of an event

-- kind, member, set, number; the other fields are not known yet
abbrev pub said : ℕ → ℕ → ℕ → ℕ → Record
said kind member set number = record { sequence = 0; kind = kind; member = member; set = set; number = number; version = 0; count = 0; causes = 0 }

abbrev pub remove_kind : Mode → ℕ
remove_kind Mode.Delete = 7
remove_kind Mode.Disassemble = 8

-- an answer, always to the awaited message: good, good with version, failed
abbrev pub reply_entry : Reply → Record
reply_entry (Reply.Good None) = said 11 0 0 0
reply_entry (Reply.Good (Some v)) = said 12 0 0 v
reply_entry Reply.Failed = said 13 0 0 0

-- the id that extend picked
abbrev pub picked_in : Outcome → ℕ
picked_in Outcome.Plain = 0
picked_in (Outcome.Taken n) = 0
picked_in (Outcome.Written acknowledged list) = 0
picked_in (Outcome.Picked id) = id

-- The event in four numbers; what a kind does not use is 0. Extend is logged with the id that it reports.
abbrev pub entry_of : Logged → Outcome → Record
entry_of (Logged.JoinCreate id) o = said 1 id 0 0
entry_of (Logged.JoinAssemble id set version) o = said 2 id set version
entry_of (Logged.Enable id) o = said 3 id 0 0
entry_of (Logged.Maintenance id) o = said 4 id 0 0
entry_of (Logged.LinkDown id) o = said 5 id 0 0
entry_of (Logged.StoreCheck id) o = said 6 id 0 0
entry_of (Logged.Remove id mode) o = said (remove_kind mode) id 0 0
entry_of (Logged.Write chunk reached) o = said 9 0 reached chunk
entry_of Logged.Try o = said 10 0 0 0
entry_of (Logged.Answer a) o = reply_entry a
entry_of (Logged.Rejoin id) o = said 14 id 0 0
entry_of Logged.Extend o = said 15 (picked_in o) 0 0

-- The record at the place n of a log: the event, what it reports, and the sessions after it.
unfoldable pub record_of : ℕ → Logged → Outcome → Roster → Record
record_of n e o ro =
    record {
      sequence = n;
      kind = (entry_of e o).kind;
      member = (entry_of e o).member;
      set = (entry_of e o).set;
      number = (entry_of e o).number;
      version = ro.version;
      count = ro.count;
      causes = causes_in ro.sessions;
    }

-- ---- back

-- The event that a record names, by its kind.
unfoldable pub event_in : Record → Option Logged
event_in r =
    pick (eqb r.kind 1) (Some (Logged.JoinCreate r.member))
    (pick (eqb r.kind 2) (Some (Logged.JoinAssemble r.member r.set r.number))
    (pick (eqb r.kind 3) (Some (Logged.Enable r.member))
    (pick (eqb r.kind 4) (Some (Logged.Maintenance r.member))
    (pick (eqb r.kind 5) (Some (Logged.LinkDown r.member))
    (pick (eqb r.kind 6) (Some (Logged.StoreCheck r.member))
    (pick (eqb r.kind 7) (Some (Logged.Remove r.member Mode.Delete))
    (pick (eqb r.kind 8) (Some (Logged.Remove r.member Mode.Disassemble))
    (pick (eqb r.kind 9) (Some (Logged.Write r.number r.set))
    (pick (eqb r.kind 10) (Some Logged.Try)
    (pick (eqb r.kind 11) (Some (Logged.Answer (Reply.Good None)))
    (pick (eqb r.kind 12) (Some (Logged.Answer (Reply.Good (Some r.number))))
    (pick (eqb r.kind 13) (Some (Logged.Answer Reply.Failed))
    (pick (eqb r.kind 14) (Some (Logged.Rejoin r.member))
    (pick (eqb r.kind 15) (Some Logged.Extend)
    None))))))))))))))

-- two records are the same, number by number
abbrev pub same_numbers : Record → Record → List Bool
same_numbers r s =
    eqb r.sequence s.sequence
    ∷ eqb r.kind s.kind
    ∷ eqb r.member s.member
    ∷ eqb r.set s.set
    ∷ eqb r.number s.number
    ∷ eqb r.version s.version
    ∷ eqb r.count s.count
    ∷ eqb r.causes s.causes
    ∷ []

unfoldable pub same_record : Record → Record → Bool
same_record r s = all (same_numbers r s)

-- ---- places

-- the largest number of 64 bits
abbrev pub most : ℕ
most = 18446744073709551615

-- the place after n; the last that there is stays
unfoldable pub place_after : ℕ → ℕ
place_after n = pick (ltb n most) (n + 1) n
