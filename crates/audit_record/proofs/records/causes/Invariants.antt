use Rattle.audit_record.proofs.Failures.{Sums}
use Rattle.audit_record.proofs.records.causes.Given as goal

abbrev pub invariant-loop-i : goal.invariant-loop-i
invariant-loop-i l = Sums l.ss l.n l.i
