use Rattle.rules_base.specs.Scan.{rows_spare}
use mathlib.Core.Path.{◌≡◌}
use Rattle.map_whole.proofs.maps.is_sound.Given as goal

abbrev pub invariant-loop-m : goal.invariant-loop-m
invariant-loop-m l = l.got ≡ rows_spare l.map l.n l.m
