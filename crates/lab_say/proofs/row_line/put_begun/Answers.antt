use Rattle.text_bytes.proofs.Laws.{emits-end}
use mathlib.Core.Path.{sym}
use Rattle.lab_say.proofs.row_line.put_begun.Goals as goal

pub returns-in_default-clause-value : goal.returns-in_default-clause-value
returns-in_default-clause-value c = rw c.in_default.is (sym (emits-end _))
