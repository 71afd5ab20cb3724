-- Block status descriptors, and their bytes: a 32-bit length, then 32-bit flags, big-endian.
use Rattle.std.specs.Prelude.{List, [], ◌∷◌, ◌++◌, ℕ, zero, suc, ◌+◌, ◌*◌, ◌/◌, ◌%◌, length, get_or}

-- so many bytes of the volume with these flags; bit 0 of the flags says dirty
pub record Desc : Type 0 where
  pub bytes : ℕ
  pub flags : ℕ

abbrev pub desc : ℕ → ℕ → Desc
desc b f = record { bytes = b; flags = f }

-- how many bytes of the volume the descriptors cover
unfoldable pub total : List Desc → ℕ
total [] = 0
total (d ∷ ds) = d.bytes + total ds

-- ---- to bytes
-- 32 bits, big-endian
unfoldable pub word : ℕ → List ℕ
word v = v / 16777216 % 256 ∷ v / 65536 % 256 ∷ v / 256 % 256 ∷ v % 256 ∷ []

unfoldable pub bytes_of : List Desc → List ℕ
bytes_of [] = []
bytes_of (d ∷ ds) = word d.bytes ++ (word d.flags ++ bytes_of ds)

-- ---- from bytes
-- the 32 bits at place i, big-endian
unfoldable pub word_at : List ℕ → ℕ → ℕ
word_at bs i = get_or bs i 0 * 16777216 + get_or bs (i + 1) 0 * 65536 + get_or bs (i + 2) 0 * 256 + get_or bs (i + 3) 0

-- m descriptors, from the one at place i on
unfoldable pub descs_from : List ℕ → ℕ → ℕ → List Desc
descs_from bs i zero = []
descs_from bs i (suc m) = desc (word_at bs (8 * i)) (word_at bs (8 * i + 4)) ∷ descs_from bs (suc i) m

-- all whole descriptors
unfoldable pub descs_of : List ℕ → List Desc
descs_of bs = descs_from bs 0 (length bs / 8)
