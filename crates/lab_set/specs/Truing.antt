-- A row's six words made true of a map: what a byte that is put into a node's map does to that node's summaries.
use Rattle.std.specs.Prelude.{List, ℕ, ◌+◌, ◌*◌, ltb, get_or, set}
use Rattle.laws_words.specs.Words.{pick}
use Rattle.laws_words.specs.Loops.{run_at}
use Rattle.rules_base.specs.Limits.{map_bytes}
use Rattle.rules_base.specs.Summary.{summaries_of}
use Rattle.event_ask.specs.Lending.{part}
use Rattle.node.specs.declared.StorageNode.{StorageNode}
use Rattle.lab_places.specs.Places.{node_in, with_node}

-- member m's six words those of the map, the others as they were; there is no member past 15
unfoldable pub row_trued : ℕ → List ℕ → List ℕ → List ℕ
row_trued m xs words = pick (ltb m 16) (run_at (λ j ws. set ws (6 * m + j) (get_or (summaries_of xs) (6 * m + j) 0)) 6 0 words) words

-- the same of the node in place n, whose map is among xs; there is no place past the last
unfoldable pub trued : List StorageNode → ℕ → ℕ → List ℕ → List StorageNode
trued ns n m xs =
    with_node ns n (record { node = (node_in ns n).node; summaries = row_trued m (part xs n map_bytes) (node_in ns n).summaries })
