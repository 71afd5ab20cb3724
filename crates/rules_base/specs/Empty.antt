-- Empty rows of a map.
use Rattle.std.specs.Prelude.{Bool, List, ℕ, zero, suc, eqb}
use Rattle.laws_words.specs.Words.{pick}
use Rattle.rules_base.specs.Sets.{with}
use Rattle.rules_base.specs.Chunk.{count}

-- no chunk is dirty in member m's row
abbrev pub row_empty : List ℕ → ℕ → Bool
row_empty xs m = eqb (count xs m) 0

-- the ids below m whose row is not empty
unfoldable pub full_to : List ℕ → ℕ → ℕ
full_to xs zero = 0
full_to xs (suc m) = pick (row_empty xs m) (full_to xs m) (with (full_to xs m) m)
