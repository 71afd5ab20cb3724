use Rattle.rules_base.specs.Empty.{full_to}
use mathlib.Core.Path.{◌≡◌}
use Rattle.map_whole.proofs.emptyrows.full_ids.Given as goal

abbrev pub invariant-loop-m : goal.invariant-loop-m
invariant-loop-m l = l.ids ≡ full_to l.map l.m
