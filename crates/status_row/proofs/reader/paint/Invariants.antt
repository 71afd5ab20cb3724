use Rattle.status_row.proofs.ReaderLaws.{Painting}
use Rattle.status_row.proofs.reader.paint.Given as goal

abbrev pub invariant-loop-i : goal.invariant-loop-i
invariant-loop-i l = Painting l.c l.k l.f l.fn.row l.i l.row
