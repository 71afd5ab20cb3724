-- Descriptors read back into a row.
use Rattle.std.specs.Prelude.{Result, Ok, Err, Bool, true, not, ◌&&◌, List, [], ◌∷◌, ◌++◌, ℕ, suc, ◌*◌, ◌/◌, ◌%◌, eqb, ltb, length, replicate}
use Rattle.laws_words.specs.Words.{pick}
use Rattle.rules_base.specs.Chunk.{chunk_marked, cleared}
use Rattle.status_row.specs.Volume.{refused_by, row_sound, volume_good}
use Rattle.status_row.specs.Descriptors.{Desc, total, descs_of}
use Rattle.rules_base.specs.declared.Refusal.{Refusal}

-- ---- which descriptors are taken
-- a length that is not 0 and a whole number of chunks of s bytes, and no flag bit but bit 0
unfoldable pub desc_good : ℕ → ℕ → ℕ → Bool
desc_good s b f = not (eqb b 0) && (eqb (b % s) 0 && ltb f 2)

unfoldable pub every_good : ℕ → List Desc → Bool
every_good s [] = true
every_good s (d ∷ ds) = desc_good s d.bytes d.flags && every_good s ds

-- whole descriptors, each of them good, and their lengths come to the volume
unfoldable pub status_good : ℕ → ℕ → List ℕ → Bool
status_good n s bs = eqb (length bs % 8) 0 && (every_good s (descs_of bs) && eqb (total (descs_of bs)) (n * s))

-- ---- what they say of the chunks
-- the flags of the chunks under the descriptors
unfoldable pub flags_of : ℕ → List Desc → List ℕ
flags_of s [] = []
flags_of s (d ∷ ds) = replicate (d.bytes / s) d.flags ++ flags_of s ds

-- chunk c of a row given the flag f
unfoldable pub stored : ℕ → ℕ → List ℕ → List ℕ
stored c f xs = pick (eqb f 1) (chunk_marked xs 0 c) (cleared xs 0 c)

-- the chunks from c on given these flags
unfoldable pub painted : ℕ → List ℕ → List ℕ → List ℕ
painted c [] xs = xs
painted c (f ∷ fs) xs = painted (suc c) fs (stored c f xs)

-- ---- the bytes bs read into the row xs
-- 2 the row, 20 the chunk count, the chunk size or the descriptors, 0 none
unfoldable pub read_refusal : ℕ → ℕ → List ℕ → List ℕ → ℕ
read_refusal n s bs xs = pick (row_sound n xs) (pick (volume_good n s && status_good n s bs) 0 20) 2

unfoldable pub read_answer : ℕ → ℕ → List ℕ → List ℕ → Result (Unit {0}) Refusal
read_answer n s bs xs = pick (eqb (read_refusal n s bs xs) 0) (Ok tt) (Err (refused_by (read_refusal n s bs xs)))

unfoldable pub read_leaves : ℕ → ℕ → List ℕ → List ℕ → List ℕ
read_leaves n s bs xs = pick (eqb (read_refusal n s bs xs) 0) (painted 0 (flags_of s (descs_of bs)) xs) xs
