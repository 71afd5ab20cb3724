use mathlib.Core.Path.{◌∙◌}
use Rattle.map_whole.proofs.Pieces.{filled}
use Rattle.map_whole.proofs.maps.zero.Goals as goal

pub returns : goal.returns
returns c = c.fill.ensures.after (λ y e. e) ∙ filled _
