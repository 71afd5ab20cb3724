-- What is written of the record of the client's last event.
use Rattle.std.specs.Prelude.{Option, Some, None, List, [], ◌∷◌, ℕ}
use Rattle.text_bytes.specs.Bytes.{bytes}
use Rattle.text_bytes.specs.Ink.{joined}
use Rattle.lab_say.specs.Say.{said}
use Rattle.audit_record.specs.declared.records.Record.{Record}

-- `record` and its eight numbers, each after a space
unfoldable pub record_text : Record → List ℕ
record_text r =
    joined
    (said (bytes "record") (r.sequence ∷ r.kind ∷ r.member ∷ r.set ∷ [])
    ∷ said [] (r.number ∷ r.version ∷ r.count ∷ r.causes ∷ [])
    ∷ [])

abbrev pub last_text : Option Record → List ℕ
last_text None = bytes "none"
last_text (Some r) = record_text r
