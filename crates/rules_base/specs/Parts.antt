-- A map in parts, each with its offset. Every definition has a meaning at a list of any length and at any number.
use Rattle.std.specs.Prelude.{Bool, ◌&&◌, List, ℕ, ◌+◌, ◌-◌, leb, length, get_or, take, drop}
use Rattle.std.specs.Int.Bits.{bit_or}
use Rattle.rules_base.specs.Limits.{map_bytes}
use Rattle.rules_base.specs.Map.{replaced}

-- at most this many bytes are in a part
abbrev pub part_bytes : ℕ
part_bytes = 1024

-- there is a part of this length at the offset: 1 to 1,024 bytes, none of them past a map's end
abbrev pub is_part : ℕ → ℕ → Bool
is_part offset length = (leb 1 length && leb length part_bytes) && leb (offset + length) map_bytes

-- the part of a map at an offset
unfoldable pub part_of : ℕ → ℕ → List ℕ → List ℕ
part_of offset length xs = take length (drop offset xs)

-- a part ORed into a map at its offset
unfoldable pub or_part : ℕ → List ℕ → List ℕ → List ℕ
or_part offset part xs = replaced offset (offset + length part) (λ k x. bit_or x (get_or part (k - offset) 0)) xs
