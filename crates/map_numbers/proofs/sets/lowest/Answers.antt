use Rattle.rules_base.specs.Sets.{lowest}
use native.Mathlib.Omega.{arith}
use mathlib.Core.Path.{◌≡◌}
use Rattle.map_numbers.proofs.sets.lowest.Goals as goal

pub returns : goal.returns
unfolding lowest
returns c = let e : c.loop-i.i ≡ 16 = omega arith in rw e at c.loop-i.invariant
