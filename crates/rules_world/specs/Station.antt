-- A storage node with its bytes, and an event at it: what the node's own methods answer, and what they leave.
use Rattle.std.specs.Prelude.{◌≡◌, Bool, ◌&&◌, List, ℕ}
use Rattle.rules_base.specs.Map.{sound}
use Rattle.rules_base.specs.Summary.{summaries_of}
use Rattle.rules_node.specs.declared.Answer.{Answer}
use Rattle.rules_node.specs.declared.Node.{Node}
use Rattle.rules_node.specs.Face.{StorageNode}
use Rattle.rules_node.specs.Events.{Event}
use Rattle.rules_node.specs.Face.{answers, map_left, staging_left}

-- a node: its state, its map and its staging map. Its summaries are those of its map, as at every node that began so (`FaceStays`)
pub record Station : Type 0 where
  pub node : Node
  pub map : List ℕ
  pub staging : List ℕ

-- both of its maps are sound: 8,192 bytes, no bit past the chunk count
abbrev pub both_sound : Station → Bool
both_sound s = sound s.node.chunks s.map && sound s.node.chunks s.staging

-- a node after an event, and what it answered
pub record Did : Type 0 where
  pub station : Station
  pub answer : Answer

-- the value whose methods the events are
abbrev pub face : Station → StorageNode
face s = record { node = s.node; summaries = summaries_of s.map }

-- an event at a node, by the definitions that the contracts of its methods cite
unfoldable pub does : Station → Event → Did
does s e =
    record {
      station = record {
        node = (answers e (face s) s.map s.staging).node.node;
        map = map_left e (face s) s.map s.staging;
        staging = staging_left e (face s) s.map s.staging;
      };
      answer = (answers e (face s) s.map s.staging).answer;
    }

-- What an event leaves is such a node again: the value that it hands back is that of the node left.
abbrev pub FaceStays : Type 0
FaceStays = (s : Station) (e : Event) → (answers e (face s) s.map s.staging).node ≡ face (does s e).station
