-- A node's event, its maps lent as far as the lab lends them. xs holds the maps of all nodes, ys their staging maps.
use Rattle.std.specs.Prelude.{List, [], ◌∷◌, ℕ, zero, suc, min, drop}
use Rattle.rules_base.specs.Limits.{map_bytes}
use Rattle.event.specs.declared.NodeEvent.{NodeEvent}
use Rattle.node.specs.declared.StorageNode.{StorageNode}
use Rattle.node.specs.declared.Out.{Out}
use Rattle.rules_node.specs.declared.Answer.{Answer}
use Rattle.rules_node.specs.Events.{Event}
use Rattle.node.specs.Face.{answers, map_left, staging_left}
use Rattle.event_ask.specs.declared.lending.Lent.{Lent}
use Rattle.event_ask.specs.Lending.{size_of, part, map_of, staging_of, put_back}
use Rattle.event.specs.OfNode.{event_of}

-- how much is taken at a time: twice as much as a part may have, so that one that is too long can be tried
abbrev pub most_taken : ℕ
most_taken = 2048

-- the first n bytes, 0 past the end
unfoldable pub padded : ℕ → List ℕ → List ℕ
padded zero xs = []
padded (suc n) [] = 0 ∷ padded n []
padded (suc n) (x ∷ xs) = x ∷ padded n xs

-- what an event takes: the bytes of the giver's map from the offset on, however much of it is lent
abbrev pub part_taken : NodeEvent → List ℕ → List ℕ
part_taken NodeEvent.RegisterCreate xs = []
part_taken (NodeEvent.RegisterAdd set version) xs = []
part_taken (NodeEvent.Unregister delete) xs = []
part_taken (NodeEvent.JoinCreate set) xs = []
part_taken NodeEvent.JoinAssemble xs = []
part_taken (NodeEvent.Leave delete) xs = []
part_taken (NodeEvent.Enable1 version set) xs = []
part_taken NodeEvent.Enable0 xs = []
part_taken NodeEvent.Fault xs = []
part_taken (NodeEvent.Write chunk set version) xs = []
part_taken (NodeEvent.Synced member chunk) xs = []
part_taken (NodeEvent.PoolInfo op member) xs = []
part_taken (NodeEvent.LastIo chosen) xs = []
part_taken (NodeEvent.MapReady keep) xs = []
part_taken (NodeEvent.GivePart offset length) xs = []
part_taken (NodeEvent.TakePart offset length giver) xs = padded (min length most_taken) (drop offset (part xs giver map_bytes))
part_taken (NodeEvent.MapDone enabling version set) xs = []
part_taken NodeEvent.MapDisable xs = []
part_taken NodeEvent.MapGetVer xs = []
part_taken (NodeEvent.Fill member version) xs = []

-- the event of the theorems, with the part that it takes
abbrev pub lent_event : NodeEvent → List ℕ → Event
lent_event e xs = event_of e (part_taken e xs)

-- what node k answers, and the two buffers after it: the lent parts as the event leaves them, all other bytes as they were
abbrev pub node_answers : StorageNode → ℕ → Lent → NodeEvent → List ℕ → List ℕ → Out Answer
node_answers n k lent e xs ys = answers (lent_event e xs) n (map_of lent k xs) (staging_of lent k ys)

abbrev pub maps_left : StorageNode → ℕ → Lent → NodeEvent → List ℕ → List ℕ → List ℕ
maps_left n k lent e xs ys = put_back xs k (size_of lent.maps k) (map_left (lent_event e xs) n (map_of lent k xs) (staging_of lent k ys))

abbrev pub stagings_left : StorageNode → ℕ → Lent → NodeEvent → List ℕ → List ℕ → List ℕ
stagings_left n k lent e xs ys = put_back ys k (size_of lent.stagings k) (staging_left (lent_event e xs) n (map_of lent k xs) (staging_of lent k ys))
