-- A node with its two maps, and what events leave of it.
use Rattle.std.specs.Prelude.{List, [], ◌∷◌, ℕ}
use Rattle.rules_node.specs.Face.{StorageNode}
use Rattle.rules_node.specs.Events.{Event}
use Rattle.rules_node.specs.Face.{answers, map_left, staging_left}

pub record Held : Type 0 where
  pub at : StorageNode
  pub map : List ℕ
  pub staging : List ℕ

-- after one event, and after a list of them
abbrev pub next : Event → Held → Held
next e w = record { at = (answers e w.at w.map w.staging).node; map = map_left e w.at w.map w.staging; staging = staging_left e w.at w.map w.staging }

abbrev pub after : List Event → Held → Held
after [] w = w
after (e ∷ es) w = after es (next e w)
