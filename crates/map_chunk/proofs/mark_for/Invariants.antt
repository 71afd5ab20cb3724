use Rattle.rules_base.specs.Chunk.{each, chunk_marked}
use Rattle.rules_base.specs.Sets.{has}
use mathlib.Core.Path.{◌≡◌}
use Rattle.map_chunk.proofs.mark_for.Given as goal

abbrev pub invariant-loop-m : goal.invariant-loop-m
invariant-loop-m l = l.map ≡ each (has l.set) (λ k ys. chunk_marked ys k l.c) l.m l.initial.map
