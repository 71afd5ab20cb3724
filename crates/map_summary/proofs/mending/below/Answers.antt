use Rattle.rules_base.proofs.Some.{some-start, some_more}
use mathlib.Core.Path.{sym}
use Rattle.map_summary.proofs.mending.below.Goals as goal

pub loop-k-init : goal.loop-k-init
loop-k-init c = sym (some-start _ _)

pub loop-k-preserved : goal.loop-k-preserved
loop-k-preserved c = rw (some_more, ← c.loop-k.invariant, c.lit-got.ensures)
