-- The law of specs/Laws.antt. Assumes nothing.
use mathlib.Core.Path.{◌≡◌, refl}
use Rattle.rules_node.specs.declared.OnMap.{OnMap}
use Rattle.rules_node.specs.Carry.{map_after}
use Rattle.rules_base.proofs.Mending.{after-marks, after-clear}
use Rattle.rules_node.specs.Follow.{followed}
use Rattle.laws_node.specs.FollowLaws.{Follows}

pub follows : Follows
unfolding followed map_after
follows OnMap.Keep n ys xs h = refl
follows (OnMap.Mark set chunk) n ys xs h = after-marks xs h set chunk
follows (OnMap.Clear member chunk) n ys xs h = after-clear xs h member chunk
follows (OnMap.LastIos chosen) n ys xs h = refl
follows (OnMap.ZeroRow member) n ys xs h = refl
follows OnMap.Zero n ys xs h = refl
follows (OnMap.KeepRows set) n ys xs h = refl
follows (OnMap.Commit set) n ys xs h = refl
follows (OnMap.FillRow member) n ys xs h = refl
