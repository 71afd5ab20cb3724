use Rattle.compare_walk.specs.Dumps.{newer_row}
use borrow.Author.Tests.{lt-ltb, le-ltb}
use Rattle.compare_walk.proofs.DumpsLaws.{tells-none, tells-refused}
use Rattle.compare_walk.proofs.dumps.newer_row.Goals as goal

pub returns-then-is_err : goal.returns-then-is_err
unfolding newer_row
returns-then-is_err c = rw (tells-refused _ _ _ (rw c.refusal.ensures at c.if-is_err.ensures.value))

pub returns-then-first_version-second_version : goal.returns-then-first_version-second_version
unfolding newer_row
returns-then-first_version-second_version c = rw (tells-none _ _ _ (rw c.refusal.ensures at c.if-is_err.ensures.value), lt-ltb _ _ c.if-first_version-second_version.true) c.row.ensures

pub returns-else-first_version-second_version : goal.returns-else-first_version-second_version
unfolding newer_row
returns-else-first_version-second_version c = rw (tells-none _ _ _ (rw c.refusal.ensures at c.if-is_err.ensures.value), le-ltb _ _ c.if-first_version-second_version.false) c.row-else-first_version-second_version.ensures
