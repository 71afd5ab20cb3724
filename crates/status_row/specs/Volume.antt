-- What writing and reading are lent: a row, and the volume's chunk count and chunk size. Every definition has a meaning at a list of any length and at any number.
use Rattle.std.specs.Prelude.{Bool, true, ◌&&◌, ◌||◌, List, [], ◌∷◌, ℕ, zero, suc, ◌-◌, eqb, leb, ltb, length}
use Rattle.rules_base.specs.Limits.{chunk_limit}
use Rattle.rules_base.specs.Chunk.{dirty}
use Rattle.laws_words.specs.Words.{pick}
use Rattle.rules_base.specs.declared.Refusal.{Refusal}

-- the refusal of a number
abbrev pub refused_by : ℕ → Refusal
refused_by n = pick (eqb n 2) Refusal.BadMap (pick (eqb n 3) Refusal.BadId Refusal.BadStatus)

-- the flags of the row's m chunks from c on: 1 dirty, 0 clean. A row is a map of one row, that of member 0
unfoldable pub flags_from : List ℕ → ℕ → ℕ → List ℕ
flags_from xs c zero = []
flags_from xs c (suc m) = dirty xs 0 c ∷ flags_from xs (suc c) m

-- none of the row's m chunks from c on is dirty
unfoldable pub all_clean : List ℕ → ℕ → ℕ → Bool
all_clean xs c zero = true
all_clean xs c (suc m) = eqb (dirty xs 0 c) 0 && all_clean xs (suc c) m

-- a row has 512 bytes, and no bit past the chunk count n
unfoldable pub row_sound : ℕ → List ℕ → Bool
row_sound n xs = eqb (length xs) 512 && all_clean xs n (4096 - n)

-- a chunk size: a power of two from 4,096 to 1,048,576
unfoldable pub size_good : ℕ → Bool
size_good s = eqb s 4096 || eqb s 8192 || eqb s 16384 || eqb s 32768 || eqb s 65536 || eqb s 131072 || eqb s 262144 || eqb s 524288 || eqb s 1048576

-- a volume has 1 to 4,096 chunks of such a size
unfoldable pub volume_good : ℕ → ℕ → Bool
volume_good n s = ltb 0 n && (leb n chunk_limit && size_good s)
