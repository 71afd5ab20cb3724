use Prim.Native.Nat.{◌-◌, ◌*◌}
use Rattle.rules_base.specs.Summary.{some, lit}
use mathlib.Core.Path.{◌≡◌}
use Rattle.map_summary.proofs.mending.below.Given as goal

abbrev pub invariant-loop-k : goal.invariant-loop-k
invariant-loop-k l = l.got ≡ some (lit l.words l.map l.m (l.level - 1)) (16 * l.i) l.k
