-- Fresh nodes, in the places below n.
use Rattle.std.specs.Prelude.{ℕ, zero, suc, List, [], ◌∷◌, ◌++◌}
use Rattle.node.specs.declared.StorageNode.{StorageNode}
use Rattle.node.specs.Face.{fresh_node}

unfoldable pub fresh_nodes : ℕ → ℕ → List StorageNode
fresh_nodes chunks zero = []
fresh_nodes chunks (suc n) = fresh_nodes chunks n ++ (fresh_node n chunks ∷ [])
