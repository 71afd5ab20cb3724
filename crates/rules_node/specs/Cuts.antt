-- A map cut into consecutive parts.
use Rattle.std.specs.Prelude.{◌≡◌, Bool, true, ◌&&◌, List, [], ◌∷◌, ℕ, ◌+◌, leb}
use Rattle.rules_base.specs.Limits.{map_bytes}
use Rattle.rules_base.specs.Parts.{part_bytes, part_of}
use Rattle.rules_node.specs.Events.{Event}

-- each is the length of a part: 1 to 1,024 bytes
abbrev pub sized : List ℕ → Bool
sized [] = true
sized (l ∷ ls) = (leb 1 l && leb l part_bytes) && sized ls

abbrev pub total : List ℕ → ℕ
total [] = 0
total (l ∷ ls) = l + total ls

-- the lengths of the parts of a whole map, in their order
pub record Cuts (ls : List ℕ) : Type 0 where
  pub sizes : sized ls ≡ true
  pub whole : total ls ≡ map_bytes

-- the parts of the map zs from an offset on, by their lengths, taken one after the other
abbrev pub takes : List ℕ → ℕ → List ℕ → List Event
takes zs offset [] = []
takes zs offset (l ∷ ls) = Event.take_part offset (part_of offset l zs) ∷ takes zs (offset + l) ls
