use Rattle.status_row.proofs.WriterLaws.{Writing}
use Rattle.status_row.proofs.writer.put_status.Given as goal

abbrev pub invariant-loop-c : goal.invariant-loop-c
invariant-loop-c l = Writing l.v.chunks l.v.size l.row l.fn.out l.f l.b l.at l.c l.out
