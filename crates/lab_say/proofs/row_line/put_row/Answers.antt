use Rattle.lab_say.specs.Row.{row_text}
use Rattle.text_bytes.proofs.Laws.{emits-parts, emits_then}
use borrow.Author.Tests.{ne_eqb}
use mathlib.Core.Path.{refl}
use Rattle.lab_say.proofs.row_line.put_row.Goals as goal

pub returns-in-Some-clause-value : goal.returns-in-Some-clause-value
unfolding row_text
returns-in-Some-clause-value c = rw (← c.row_count.ensures, c.in-Some.is, ne_eqb _ _ c.in-Some.field-0-test.1) (emits-parts _ _ (emits_then c.put_bytes-in-Some.ensures.value refl c.put_ranges.ensures.value))
