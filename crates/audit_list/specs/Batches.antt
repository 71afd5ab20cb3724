-- Records gathered into batches of sixteen.
use Rattle.std.specs.Prelude.{◌+◌, ltb, take, set, replicate}
use Rattle.laws_words.specs.Words.{pick}
use Rattle.audit_record.specs.declared.records.Record.{Record}
use Rattle.audit_record.specs.Records.{no_record}
use Rattle.audit_replay.specs.declared.auditing.Walk.{Walk}
use Rattle.audit_replay.specs.Audit.{walked}
use Rattle.audit_list.specs.Start.{started}
use Rattle.audit_list.specs.declared.batches.Batch.{Batch}

abbrev pub begun : Batch
begun = record { walk = started; records = replicate 16 no_record; count = 0 }

-- the walk over all that came
unfoldable pub audited : Batch → Walk
audited b = walked b.walk (take b.count b.records)

-- one record more; a full batch is audited first
unfoldable pub added : Batch → Record → Batch
added b r =
    pick (ltb b.count 16)
    (record { walk = b.walk; records = set b.records b.count r; count = b.count + 1 })
    (record { walk = audited b; records = set b.records 0 r; count = 1 })
