use borrow.Author.Tests.{eq-eqb, ne_eqb}
use Rattle.status_row.specs.Reading.{stored}
use Rattle.status_row.proofs.reader.store.Goals as goal

pub returns-then-f-eq1 : goal.returns-then-f-eq1
unfolding stored
returns-then-f-eq1 c = rw (eq-eqb _ 1 c.if-f-eq1.true) c.mark.ensures

pub returns-else-f-eq1 : goal.returns-else-f-eq1
unfolding stored
returns-else-f-eq1 c = rw (ne_eqb _ 1 c.if-f-eq1.false) c.clear.ensures
