use Rattle.rules_base.specs.Map.{replaced}
use lib.ListN.{length, get_or}
use mathlib.Core.Path.{◌≡◌}
use Rattle.map_whole.proofs.maps.copy.Given as goal

abbrev pub invariant-loop-i : goal.invariant-loop-i
invariant-loop-i l = (l.map ≡ replaced 0 l.i (λ k x. get_or l.other k 0) l.initial.map) × (length l.map ≡ length l.initial.map)
