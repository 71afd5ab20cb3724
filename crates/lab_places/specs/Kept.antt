-- What is put into a place stands there, and the other places stay: so an event finds its node as the last one left it.
use Rattle.std.specs.Prelude.{◌≡◌, ◌≢◌, List, ℕ, ◌<◌, length}
use Rattle.node.specs.declared.StorageNode.{StorageNode}
use Rattle.lab_places.specs.Places.{node_in, with_node}

abbrev pub PutStands : Type 0
PutStands = (ns : List StorageNode) (n : ℕ) (s : StorageNode) → n < length ns → node_in (with_node ns n s) n ≡ s

abbrev pub OthersStay : Type 0
OthersStay = (ns : List StorageNode) (n m : ℕ) (s : StorageNode) → m ≢ n → node_in (with_node ns n s) m ≡ node_in ns m
