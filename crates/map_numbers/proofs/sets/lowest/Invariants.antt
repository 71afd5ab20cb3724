use Rattle.rules_base.specs.Sets.{has, lowest_to}
use mathlib.Core.Path.{◌≡◌}
use Rattle.map_numbers.proofs.sets.lowest.Given as goal

abbrev pub invariant-loop-i : goal.invariant-loop-i
invariant-loop-i l = 16 ≡ lowest_to (has l.set) l.i
