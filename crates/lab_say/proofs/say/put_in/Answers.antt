use mathlib.Core.Path.{sym}
use Rattle.text_bytes.proofs.Laws.{emits-end}
use Rattle.lab_say.proofs.say.put_in.Goals as goal

pub returns-else-has-clause-value : goal.returns-else-has-clause-value
returns-else-has-clause-value c = rw (← c.has.ensures, c.if-has.false) (sym (emits-end _))
