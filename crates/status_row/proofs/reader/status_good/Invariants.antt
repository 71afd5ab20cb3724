use Rattle.status_row.proofs.ReaderLaws.{Checking}
use Rattle.status_row.proofs.reader.status_good.Given as goal

abbrev pub invariant-loop-i : goal.invariant-loop-i
invariant-loop-i l = Checking l.v.size l.v.chunks l.bytes l.c l.i
