use Rattle.status_row.proofs.ReaderLaws.{painting-start, painting-more, painting-done}
use Rattle.status_row.proofs.reader.paint.Goals as goal

pub loop-i-init : goal.loop-i-init
loop-i-init c = painting-start _ _ _ _

pub loop-i-preserved : goal.loop-i-preserved
loop-i-preserved c = painting-more _ _ _ _ _ _ _ c.loop-i.invariant c.loop-i-test.true c.store.ensures

pub returns : goal.returns
returns c = painting-done _ _ _ _ _ _ c.loop-i.invariant c.loop-i-test.false
