use Rattle.text_words.proofs.Laws.{Cuts}
use Rattle.text_words.proofs.lines.read_line.Given as goal

abbrev pub invariant-loop-i : goal.invariant-loop-i
invariant-loop-i l = Cuts l.s l.l l.a l.i
