-- What must hold of the search. Each is a type; the files of proofs/ have its proof under the same name in small letters.
use Rattle.std.specs.Prelude.{◌≡◌, true, false, List, [], ◌∷◌, ℕ, ◌+◌, ◌-◌, ◌^◌, ◌≤◌, ◌<◌, replicate, set, Some, None}
use Rattle.rules_base.specs.Chunk.{dirty}
use Rattle.rules_base.specs.Map.{sound}
use Rattle.rules_base.specs.Summary.{agree, lit}
use Rattle.rules_base.specs.Search.{first_dirty, sought, searched, row_searched}

-- What reading the row finds: the first chunk that is dirty, not before the start and below the chunk count; or there is none.
pub record Reads : Type 0 where
  pub at : (xs : List ℕ) (m start n c : ℕ) → first_dirty xs m start n ≡ Some c
      → (start ≤ c) × ((c < n) × ((dirty xs m c ≡ 1) × ((k : ℕ) → start ≤ k → k < c → dirty xs m k ≡ 0)))
  pub nothing : (xs : List ℕ) (m start n : ℕ) → first_dirty xs m start n ≡ None → (k : ℕ) → start ≤ k → k < n → dirty xs m k ≡ 0

-- Where the summaries agree with the map, the search finds what reading the whole row finds, for every row and start,
abbrev pub AsReading : Type 0
AsReading = (words xs : List ℕ) → agree words xs ≡ true → (m start : ℕ) → (row_searched words xs m start).found ≡ first_dirty xs m start 4096

-- and in a sound map of n chunks what reading those finds.
abbrev pub AsReadingChunks : Type 0
AsReadingChunks =
    (words xs : List ℕ) → agree words xs ≡ true → (n : ℕ) → sound n xs ≡ true → (m start : ℕ) → (row_searched words xs m start).found ≡ first_dirty xs m start n

-- Under a place whose bit is clear it opens nothing, whatever the words and the map hold there: it looks at that place alone.
abbrev pub ClearSkips : Type 0
ClearSkips = (words xs : List ℕ) (m start l i : ℕ) → lit words xs m l i ≡ false → searched words xs m start l i ≡ sought None 1

-- It looks at 81 places at most, from the row's first chunk at 49: reading the row looks at up to 4,096.
pub record FewLooks : Type 0 where
  pub any : (words xs : List ℕ) → agree words xs ≡ true → (m start : ℕ) → (row_searched words xs m start).looked ≤ 81
  pub from_first : (words xs : List ℕ) → agree words xs ≡ true → (m : ℕ) → (row_searched words xs m 0).looked ≤ 49

-- ---- computed: rows of 512 bytes with their six words
abbrev pub empty : List ℕ
empty = replicate 512 0

-- dirty: chunk 4,095
abbrev pub last : List ℕ
last = set empty 511 128

-- dirty: chunks 0 and 4,095
abbrev pub ends : List ℕ
ends = set last 0 1

abbrev pub full : List ℕ
full = replicate 512 255

pub record Worked : Type 0 where
  pub no_chunk : row_searched (0 ∷ 0 ∷ 0 ∷ 0 ∷ 0 ∷ 0 ∷ []) empty 0 0 ≡ sought None 1
  pub last-chunk : row_searched (0 ∷ 0 ∷ 0 ∷ (2 ^ 63) ∷ (2 ^ 15) ∷ 1 ∷ []) last 0 0 ≡ sought (Some 4095) 49
  pub after-the-first : row_searched (1 ∷ 0 ∷ 0 ∷ (2 ^ 63) ∷ (2 ^ 15 + 1) ∷ 1 ∷ []) ends 0 1 ≡ sought (Some 4095) 81
  pub every-chunk : row_searched ((2 ^ 64 - 1) ∷ (2 ^ 64 - 1) ∷ (2 ^ 64 - 1) ∷ (2 ^ 64 - 1) ∷ (2 ^ 16 - 1) ∷ 1 ∷ []) full 0 0 ≡ sought (Some 0) 4
