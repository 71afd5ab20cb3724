-- What batches come to: nothing of the walk hangs on where they are cut. Each is a type; proofs/Laws.antt has its proof under the same name in small letters.
use Rattle.std.specs.Prelude.{◌≡◌, List, [], ◌∷◌}
use Rattle.audit_record.specs.declared.records.Record.{Record}
use Rattle.audit_replay.specs.Audit.{walked}
use Rattle.audit_list.specs.Start.{started}
use Rattle.audit_list.specs.declared.batches.Batch.{Batch}
use Rattle.audit_list.specs.Batches.{begun, audited, added}

-- the records added one after the other
abbrev pub added_all : Batch → List Record → Batch
added_all b [] = b
added_all b (r ∷ rs) = added_all (added b r) rs

-- However many records are added, the audit of the batches is the walk over them all.
abbrev pub AsWhole : Type 0
AsWhole = (rs : List Record) → audited (added_all begun rs) ≡ walked started rs
