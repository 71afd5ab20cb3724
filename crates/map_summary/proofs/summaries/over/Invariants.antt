use mathlib.Core.Path.{◌≡◌}
use Rattle.rules_base.specs.Summary.{some, bits, is_set}
use Prim.Native.Nat.{◌+◌, ◌*◌}
use Rattle.map_summary.proofs.summaries.over.Given as goal

abbrev pub invariant-loop-i : goal.invariant-loop-i
invariant-loop-i l = l.got ≡ bits (λ j. some (is_set l.words) (384 * l.m + 16 * j) 16) l.i
