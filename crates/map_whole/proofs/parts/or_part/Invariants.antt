use Rattle.rules_base.specs.Map.{replaced}
use lib.ListN.{length, get_or}
use lib.Bits.{bit_or}
use Prim.Native.Nat.{◌-◌, ◌≤◌, max}
use mathlib.Core.Path.{◌≡◌}
use Rattle.map_whole.proofs.parts.or_part.Given as goal

abbrev pub invariant-loop-i : goal.invariant-loop-i
invariant-loop-i l = record { ored : l.map ≡ replaced l.a l.i (λ k x. bit_or x (get_or l.part (k - l.a) 0)) l.initial.map; most : l.i ≤ max l.a l.i-end; long : length l.map ≡ length l.initial.map }
