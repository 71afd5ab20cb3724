use Rattle.lab_say.specs.Row.{range_text}
use borrow.Author.Tests.{ne_eqb}
use Rattle.text_bytes.proofs.Laws.{emits-parts, emits_then}
use mathlib.Core.Path.{refl}
use Rattle.lab_say.proofs.row_line.put_range.Goals as goal

pub returns-then-a-b-clause-value : goal.returns-then-a-b-clause-value
unfolding range_text
returns-then-a-b-clause-value c = rw (ne_eqb _ _ c.if-a-b.true) (emits-parts _ _ (emits_then c.put_sign.ensures.value refl c.put_sign-then-a-b.ensures.value))
