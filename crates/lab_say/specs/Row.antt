-- A member's dirty chunks, as ranges.
use Rattle.std.specs.Prelude.{Option, Some, None, unwrap_or, ℕ, zero, suc, ◌-◌, Bool, List, [], ◌∷◌, eqb}
use Rattle.laws_words.specs.Words.{pick}
use Rattle.text_bytes.specs.Bytes.{bytes}
use Rattle.text_bytes.specs.Ink.{decimal, joined}
use Rattle.rules_base.specs.Chunk.{dirty}
use Rattle.map_row_view.specs.Row.{row_count}

-- A space, and the chunks from a to b: a where it is alone, else a-b (45 is the dash).
unfoldable pub range_text : ℕ → ℕ → List ℕ
range_text a b = pick (eqb a b) (32 ∷ decimal a) (joined ((32 ∷ decimal a) ∷ (45 ∷ decimal b) ∷ []))

-- the range up to c, where one was begun
abbrev pub begun_text : Option ℕ → ℕ → List ℕ
begun_text None c = []
begun_text (Some a) c = range_text a (c - 1)

-- The ranges of those of the n chunks from c on that pass the test; begun is where a range up to c was begun.
unfoldable pub ranges : (ℕ → Bool) → Option ℕ → ℕ → ℕ → List ℕ
ranges d begun zero c = begun_text begun c
ranges d begun (suc n) c = pick (d c) (ranges d (Some (unwrap_or begun c)) n (suc c)) (joined (begun_text begun c ∷ ranges d None n (suc c) ∷ []))

abbrev pub is_dirty : List ℕ → ℕ → ℕ → Bool
is_dirty xs m c = eqb (dirty xs m c) 1

-- clean, or dirty and the ranges of member m's dirty chunks, ascending; told apart from a map in which m has no row
abbrev pub count_text : Option ℕ → List ℕ → ℕ → List ℕ
count_text None xs m = bytes "no row"
count_text (Some n) xs m = pick (eqb n 0) (bytes "clean") (joined (bytes "dirty" ∷ ranges (is_dirty xs m) None 4096 0 ∷ []))

unfoldable pub row_text : List ℕ → ℕ → List ℕ
row_text xs m = count_text (row_count xs m) xs m
