use Rattle.laws_words.specs.Loops.{maps-more}
use Rattle.client_state.proofs.changes.unmark_all.Goals as goal

pub loop-s-preserved : goal.loop-s-preserved
loop-s-preserved c = maps-more _ c.loop-s.invariant c.loop-s-test.true c.marked.ensures
