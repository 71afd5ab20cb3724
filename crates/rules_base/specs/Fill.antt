-- A row set for every chunk of the volume. It has a meaning at a list of any length and at any number.
use Rattle.std.specs.Prelude.{List, ℕ, zero, suc}
use Rattle.rules_base.specs.Chunk.{chunk_marked}

-- every chunk below n marked for member m
unfoldable pub row_filled : ℕ → ℕ → List ℕ → List ℕ
row_filled m zero xs = xs
row_filled m (suc n) xs = chunk_marked (row_filled m n xs) m n
