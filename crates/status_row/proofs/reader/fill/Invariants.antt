use Rattle.status_row.proofs.ReaderLaws.{Filling}
use Rattle.status_row.proofs.reader.fill.Given as goal

abbrev pub invariant-loop-i : goal.invariant-loop-i
invariant-loop-i l = Filling l.v.size l.v.chunks l.bytes l.fn.row l.c l.i l.row
