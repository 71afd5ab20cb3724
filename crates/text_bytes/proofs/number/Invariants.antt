use Rattle.text_bytes.specs.Numbers.{num_from, num_of}
use Rattle.text_bytes.proofs.Laws.{Rest}
use Rattle.text_bytes.proofs.number.Given as goal

abbrev pub invariant-loop-b : goal.invariant-loop-b
invariant-loop-b l = Rest num_from l.s (num_of l.s) l.acc l.b-index
