use mathlib.Core.Path.{◌≡◌}
use Rattle.rules_base.specs.Summary.{under, bits}
use Prim.Native.Nat.{◌+◌, ◌-◌, ◌*◌}
use Rattle.map_summary.proofs.summaries.groups.Given as goal

abbrev pub invariant-loop-i : goal.invariant-loop-i
invariant-loop-i l = l.got ≡ bits (λ j. under l.map l.m 1 (64 * l.k + (l.i + j))) (64 - l.i)
