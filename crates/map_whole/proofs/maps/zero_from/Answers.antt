use Rattle.map_whole.proofs.Pieces.{blanked}
use native.Mathlib.Omega.{arith}
use Rattle.map_whole.proofs.maps.zero_from.Goals as goal

pub returns : goal.returns
returns c = blanked _ _ _ _ _ _ _ c.requires c.min.ensures c.min-2.ensures (omega (arith, c.fill.ensures.len)) (c.fill.ensures.after (λ y e. e))
