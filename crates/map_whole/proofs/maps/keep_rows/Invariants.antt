use Rattle.rules_base.specs.Chunk.{each}
use Rattle.rules_base.specs.Map.{zero_row}
use Rattle.rules_base.specs.Sets.{has}
use mathlib.Core.Bool.{not}
use mathlib.Core.Path.{◌≡◌}
use Rattle.map_whole.proofs.maps.keep_rows.Given as goal

abbrev pub invariant-loop-m : goal.invariant-loop-m
invariant-loop-m l = l.map ≡ each (λ k. not (has l.set k)) zero_row l.m l.initial.map
