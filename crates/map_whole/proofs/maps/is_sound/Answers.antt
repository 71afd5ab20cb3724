use Rattle.rules_base.proofs.Scanned.{scanned}
use Rattle.rules_base.proofs.Maps.{sound-short}
use native.Mathlib.Omega.{arith}
use mathlib.Core.Path.{◌≡◌, sym}
use Rattle.map_whole.proofs.maps.is_sound.Goals as goal

pub returns-then-map-ne-MAP_BYTES : goal.returns-then-map-ne-MAP_BYTES
returns-then-map-ne-MAP_BYTES c = sym (sound-short _ _ c.if-map-ne-MAP_BYTES.true)

pub returns : goal.returns
returns c = let a = c.args in let q : c.loop-m.m ≡ 16 = omega arith in rw (c.loop-m.invariant, q) (scanned a.map.now a.n c.if-map-ne-MAP_BYTES.false (λ k. omega (arith, c.type_inv.map k)))
