-- Where an audit starts.
use Rattle.std.specs.Prelude.{false, Ok}
use Rattle.rules_base.specs.Limits.{chunk_limit}
use Rattle.rules_client.specs.Client.{fresh_pool}
use Rattle.audit_replay.specs.declared.auditing.Walk.{Walk}

-- no record was looked at yet, and the pool is a fresh non-sync one of 4,096 chunks
abbrev pub started : Walk
started = record { place = 0; pool = Ok (fresh_pool false chunk_limit) }
