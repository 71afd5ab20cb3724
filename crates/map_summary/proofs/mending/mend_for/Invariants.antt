use Rattle.rules_base.specs.Sets.{has}
use Rattle.rules_base.specs.Chunk.{each}
use Rattle.rules_base.specs.Mend.{mended}
use mathlib.Core.Path.{◌≡◌}
use Rattle.map_summary.proofs.mending.mend_for.Given as goal

abbrev pub invariant-loop-m : goal.invariant-loop-m
invariant-loop-m l = l.words ≡ each (has l.set) (λ k ws. mended l.map k l.c ws) l.m l.initial.words
