use Rattle.rules_base.specs.Scan.{or_to}
use mathlib.Core.Path.{◌≡◌}
use Rattle.map_whole.proofs.maps.or_of.Given as goal

abbrev pub invariant-loop-x : goal.invariant-loop-x
invariant-loop-x l = l.got ≡ or_to l.map l.a l.x-index
