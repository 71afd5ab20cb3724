use Rattle.rules_base.specs.Map.{row_of}
use borrow.Author.Tests.{eq-eqb, lt-ltb}
use Prim.Native.Nat.{◌+◌, ◌*◌, ◌-◌}
use native.Mathlib.Omega.{arith}
use mathlib.Core.Path.{◌≡◌}
use Rattle.map_whole.proofs.maps.row.Goals as goal

pub returns : goal.returns
unfolding row_of
returns c = let a = c.args in let q : 512 * a.m + 512 - 512 * a.m ≡ 512 = omega arith in rw (q, eq-eqb _ 8192 c.if-map-ne-MAP_BYTES.false, lt-ltb a.m 16 (omega arith))
