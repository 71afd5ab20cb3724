-- A row, one member's part of a map: what a walk through it meets at a place, and its three answers, or that there is no such row.
use Rattle.std.specs.Prelude.{Bool, Option, Some, None, List, ℕ, eqb, ltb, length, get_or}
use Rattle.laws_words.specs.Words.{pick}
use Rattle.rules_base.specs.Chunk.{dirty, count}
use Rattle.rules_base.specs.Map.{row_of}

-- the byte there, or the row's end
abbrev pub step_at : List ℕ → ℕ → Option ℕ
step_at row at = pick (ltb at (length row)) (Some (get_or row at 0)) None

-- member m has a row in the map: a part of 512 bytes. It has none where the map is not of 8,192 bytes or m is above 15.
abbrev pub has_row : List ℕ → ℕ → Bool
has_row xs m = eqb (length (row_of xs m)) 512

-- how many of its chunks are dirty
unfoldable pub row_count : List ℕ → ℕ → Option ℕ
row_count xs m = pick (has_row xs m) (Some (count (row_of xs m) 0)) None

-- whether chunk c is
unfoldable pub row_bit : List ℕ → ℕ → ℕ → Option Bool
row_bit xs m c = pick (has_row xs m) (Some (eqb (dirty (row_of xs m) 0 c) 1)) None

-- what stands at a place
unfoldable pub row_next : List ℕ → ℕ → ℕ → Option (Option ℕ)
row_next xs m at = pick (has_row xs m) (Some (step_at (row_of xs m) at)) None
