use Rattle.std.proofs.Common.{rules}
use Rattle.audit_record.specs.Records.{same_record}
use Rattle.audit_replay.proofs.auditing.judge.Goals as goal

pub returns-then-eq : goal.returns-then-eq
unfolding same_record
returns-then-eq c = search rules

pub returns-else-eq : goal.returns-else-eq
unfolding same_record
returns-else-eq c = search rules
