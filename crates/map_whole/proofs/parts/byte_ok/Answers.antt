use Rattle.rules_base.proofs.PartsClean.{spare-place}
use Rattle.rules_base.specs.Map.{room}
use Prim.Native.Nat.{ℕ, ◌+◌}
use lib.Dec.{eqb}
use native.Mathlib.Omega.{arith}
use mathlib.Core.Path.{ap}
use Rattle.map_whole.proofs.parts.byte_ok.Goals as goal

pub overflow_shr-result : goal.overflow_shr-result
unfolding room
overflow_shr-result c = omega (arith, c.room.ensures)

pub returns : goal.returns
returns c = let a = c.args in rw (c.from.ensures, c.room.ensures) (ap (λ (x : ℕ). eqb x 0) (spare-place a.n (a.offset + a.i) _ a.x (omega arith)))
