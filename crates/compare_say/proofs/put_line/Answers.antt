use Rattle.text_bytes.specs.Ink.{emits}
use Rattle.text_bytes.proofs.Laws.{emits-parts}
use Rattle.compare_say.proofs.put_line.Goals as goal

pub returns-clause-value : goal.returns-clause-value
unfolding emits
returns-clause-value c = emits-parts _ _ (rw (c.put-3.ensures.value, c.put_number-3.ensures.value, c.number.ensures, c.put-2.ensures.value, c.put_number-2.ensures.value, c.put.ensures.value, c.put_number.ensures.value))
