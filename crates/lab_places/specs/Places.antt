-- The lab's nodes in their places, as many as there are, and its bench. What a definition does not name stays.
use Rattle.std.specs.Prelude.{ℕ, List, get_or, set, length, replicate}
use Rattle.node.specs.declared.StorageNode.{StorageNode}
use Rattle.node.specs.Face.{fresh_node}
use Rattle.lab_form.specs.declared.Command.{Command}
use Rattle.lab_places.specs.declared.Bench.{Bench}
use Rattle.lab_places.specs.Fresh.{fresh_nodes}
use Rattle.lab_places.specs.Poke.{poked, poked_got, poked_word}

-- the node in place n; a fresh one of no chunks where there is no such place
abbrev pub node_in : List StorageNode → ℕ → StorageNode
node_in ns n = get_or ns n (fresh_node 0 0)

-- a node in place n; there is no place past the last
abbrev pub with_node : List StorageNode → ℕ → StorageNode → List StorageNode
with_node ns n s = set ns n s

-- a fresh node in each of sixteen places, and all maps zeroed
abbrev pub fresh_bench : ℕ → Bench
fresh_bench chunks =
    record { own = replicate 8192 0; nodes = fresh_nodes chunks 16; maps = replicate 131072 0; stagings = replicate 131072 0 }

-- what a line that sets the lab up does to the nodes; the others leave them
abbrev pub arranged : List StorageNode → Command → List StorageNode
arranged ns (Command.Pool sync chunks) = fresh_nodes chunks (length ns)
arranged ns (Command.PokeNode n state store create members version transfer) = with_node ns n (poked (node_in ns n) state store create members version transfer)
arranged ns (Command.PokeGot n got) = with_node ns n (poked_got (node_in ns n) got)
arranged ns (Command.Summary n i v) = with_node ns n (poked_word (node_in ns n) i v)
arranged ns Command.Passed = ns
arranged ns Command.Unreadable = ns
arranged ns (Command.Auto on) = ns
arranged ns (Command.Cut n) = ns
arranged ns (Command.Client e) = ns
arranged ns (Command.Node n e) = ns
arranged ns (Command.Take n m) = ns
arranged ns Command.Deliver = ns
arranged ns (Command.Ask n q) = ns
arranged ns Command.DeliverCheck = ns
arranged ns (Command.Row w m) = ns
arranged ns Command.Look = ns
arranged ns (Command.LookNode n) = ns
arranged ns (Command.Byte w i v) = ns
arranged ns (Command.Lend w n) = ns
arranged ns (Command.PokeVersion v) = ns
arranged ns (Command.PokeCount v) = ns
arranged ns (Command.PokeChunks v) = ns
arranged ns (Command.PokeMembers v) = ns
arranged ns (Command.PokeWritten v) = ns
arranged ns (Command.PokeAssembled v) = ns
arranged ns (Command.PokeSession id s) = ns
arranged ns (Command.PokeTick v) = ns
arranged ns (Command.PokeDue v) = ns
arranged ns (Command.PokeOnce v) = ns
arranged ns Command.Record = ns
