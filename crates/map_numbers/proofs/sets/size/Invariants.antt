use Rattle.rules_base.specs.Sets.{has, count_to}
use Prim.Native.Nat.{◌≤◌}
use mathlib.Core.Path.{◌≡◌}
use Rattle.map_numbers.proofs.sets.size.Given as goal

abbrev pub invariant-loop-i : goal.invariant-loop-i
invariant-loop-i l = (l.n ≡ count_to (has l.set) l.i) × (l.n ≤ l.i)
