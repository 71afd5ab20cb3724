-- What must hold of summaries that follow. It is a type; the file of proofs/ has its proof under the same name in small letters.
use Rattle.std.specs.Prelude.{◌≡◌, List, ℕ, length}
use Rattle.rules_base.specs.Summary.{summaries_of}
use Rattle.rules_node.specs.declared.OnMap.{OnMap}
use Rattle.rules_node.specs.declared.Node.{Node}
use Rattle.rules_node.specs.Carry.{map_after}
use Rattle.rules_node.specs.Follow.{followed}

-- Whatever is done to a map xs of 8,192 bytes, its summaries become those of the map that is left.
abbrev pub Follows : Type 0
Follows = (e : OnMap) (n : Node) (ys xs : List ℕ) → length xs ≡ 8192 → followed e (map_after e n ys xs) (summaries_of xs) ≡ summaries_of (map_after e n ys xs)
