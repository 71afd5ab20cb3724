-- What must hold of writing a row as descriptors and of reading them back. Each statement is a type; proofs/Laws.antt has its proof under the same name in small letters.
use Rattle.std.specs.Prelude.{◌≡◌, ◌⊎◌, Ok, Err, Bool, true, false, not, ◌&&◌, ◌||◌, List, [], ◌∷◌, ℕ, ◌+◌, ◌*◌, ◌/◌, ◌%◌, ◌^◌, ◌≤◌, ◌<◌, eqb, length, get_or, take, drop, replicate}
use Rattle.rules_base.specs.declared.Refusal.{Refusal}
use Rattle.rules_base.specs.Refusals.{number, number_of}
use Rattle.status_row.specs.Volume.{row_sound, volume_good}
use Rattle.status_row.specs.Descriptors.{Desc, total, word_at, descs_of}
use Rattle.status_row.specs.Writing.{status_of, write_answer, write_leaves}
use Rattle.status_row.specs.Reading.{desc_good, status_good, read_refusal, read_answer, read_leaves}

-- ---- what is written
-- no descriptor covers nothing
unfoldable pub none_empty : List Desc → Bool
none_empty [] = true
none_empty (d ∷ ds) = not (eqb d.bytes 0) && none_empty ds

-- after a descriptor of b bytes with flags f: each one has other flags than the one before it, unless that one was cut, at 2^32 less a chunk of s bytes
unfoldable pub follow : ℕ → ℕ → ℕ → List Desc → Bool
follow s b f [] = true
follow s b f (d ∷ ds) = (not (eqb f d.flags) || eqb (b + s) (2 ^ 32)) && follow s d.bytes d.flags ds

unfoldable pub neighbours_differ : ℕ → List Desc → Bool
neighbours_differ s [] = true
neighbours_differ s (d ∷ ds) = follow s d.bytes d.flags ds

pub record Written (n s : ℕ) (xs out : List ℕ) : Type 0 where
  -- the number written is in the answer, the descriptors stand first, and the bytes after them stay
  pub answer : write_answer n s xs out ≡ Ok (length (status_of n s xs))
  pub front : take (length (status_of n s xs)) (write_leaves n s xs out) ≡ status_of n s xs
  pub rest : drop (length (status_of n s xs)) (write_leaves n s xs out) ≡ drop (length (status_of n s xs)) out
  -- whole descriptors, at most 4,096 of them, that cover the volume exactly
  pub most : length (status_of n s xs) ≤ 32768
  pub whole : length (status_of n s xs) % 8 ≡ 0
  pub covers : total (descs_of (status_of n s xs)) ≡ n * s
  pub none-empty : none_empty (descs_of (status_of n s xs)) ≡ true
  pub neighbours : neighbours_differ s (descs_of (status_of n s xs)) ≡ true

-- Every sound row of a good volume is written so into 32,768 bytes or more.
abbrev pub Writes : Type 0
Writes = (n s : ℕ) (xs out : List ℕ) → row_sound n xs ≡ true → volume_good n s ≡ true → 32768 ≤ length out → Written n s xs out

-- A run that is cut has a chunk after it, so the volume has 2^32 bytes or more: that is 4,096 chunks of 1 MiB, and no other.
abbrev pub Largest : Type 0
Largest = (n s : ℕ) → volume_good n s ≡ true → 2 ^ 32 ≤ n * s → (n ≡ 4096) × (s ≡ 1048576)

-- ---- what is read
-- a row as memory holds it: 512 bytes of 8 bits
pub record Row (xs : List ℕ) : Type 0 where
  pub len : length xs ≡ 512
  pub byte : (k : ℕ) → get_or xs k 0 < 2 ^ 8

-- Writing then reading gives the same row: the k bytes that writing says it wrote are taken into any sound row, which is then the one that was written.
abbrev pub SameRow : Type 0
SameRow = (n s : ℕ) (xs ys out : List ℕ) (k : ℕ) → Row xs → Row ys → row_sound n ys ≡ true → write_answer n s xs out ≡ Ok k → (read_refusal n s (take k (write_leaves n s xs out)) ys ≡ 0) × (read_leaves n s (take k (write_leaves n s xs out)) ys ≡ xs)

-- What is taken has at most a descriptor for each chunk, so no more than 32,768 bytes.
abbrev pub TakenMost : Type 0
TakenMost = (n s : ℕ) (bs : List ℕ) → volume_good n s ≡ true → status_good n s bs ≡ true → length bs ≤ 8 * n

-- ---- what is refused
-- A refusal is 2 or 20, and touches nothing.
pub record Untouched : Type 0 where
  pub writing : (n s : ℕ) (xs out : List ℕ) (r : Refusal) → write_answer n s xs out ≡ Err r → ((number r ≡ 2) ⊎ (number r ≡ 20)) × (write_leaves n s xs out ≡ out)
  pub reading : (n s : ℕ) (bs xs : List ℕ) → (read_refusal n s bs xs ≡ 0) ⊎ (((read_refusal n s bs xs ≡ 2) ⊎ (read_refusal n s bs xs ≡ 20)) × (read_leaves n s bs xs ≡ xs))

-- The number of what reading answers is the refusal's, and 0 where nothing is refused.
abbrev pub Numbered : Type 0
Numbered = (n s : ℕ) (bs xs : List ℕ) → number_of (read_answer n s bs xs) ≡ read_refusal n s bs xs

-- With a sound row lent, each input that the request names is refused with 20.
pub record Refuses (n s : ℕ) (bs xs : List ℕ) : Type 0 where
  -- another chunk count or chunk size
  pub volume : volume_good n s ≡ false → read_refusal n s bs xs ≡ 20
  -- no whole number of descriptors
  pub bytes : (length bs % 8 ≡ 0 → ⊥) → read_refusal n s bs xs ≡ 20
  -- somewhere a zero length, a length that is no whole number of chunks, or another flag bit
  pub descriptor : (i : ℕ) → i < length bs / 8 → desc_good s (word_at bs (8 * i)) (word_at bs (8 * i + 4)) ≡ false → read_refusal n s bs xs ≡ 20
  -- a total other than the volume
  pub sum : (total (descs_of bs) ≡ n * s → ⊥) → read_refusal n s bs xs ≡ 20
  -- nothing at all
  pub nothing : bs ≡ [] → read_refusal n s bs xs ≡ 20

abbrev pub BadInput : Type 0
BadInput = (n s : ℕ) (bs xs : List ℕ) → row_sound n xs ≡ true → Refuses n s bs xs

-- ---- worked cases
pub record Worked : Type 0 where
  -- chunks 3 and 4 of five dirty, 64 KiB each
  pub two_runs : status_of 5 65536 (24 ∷ replicate 511 0) ≡ 0 ∷ 3 ∷ 0 ∷ 0 ∷ 0 ∷ 0 ∷ 0 ∷ 0 ∷ 0 ∷ 2 ∷ 0 ∷ 0 ∷ 0 ∷ 0 ∷ 0 ∷ 1 ∷ []
  -- the longest run, 4,096 equal chunks of 1 MiB: two descriptors, of 4,095 chunks and of one
  pub longest-clean : status_of 4096 1048576 (replicate 512 0) ≡ 255 ∷ 240 ∷ 0 ∷ 0 ∷ 0 ∷ 0 ∷ 0 ∷ 0 ∷ 0 ∷ 16 ∷ 0 ∷ 0 ∷ 0 ∷ 0 ∷ 0 ∷ 0 ∷ []
  pub longest-dirty : status_of 4096 1048576 (replicate 512 255) ≡ 255 ∷ 240 ∷ 0 ∷ 0 ∷ 0 ∷ 0 ∷ 0 ∷ 1 ∷ 0 ∷ 16 ∷ 0 ∷ 0 ∷ 0 ∷ 0 ∷ 0 ∷ 1 ∷ []
  -- the most descriptors, alternating chunks: 4,096 of them
  pub alternating : (s : ℕ) → length (status_of 4096 s (replicate 512 170)) ≡ 32768
  -- two neighbours with the same flag are taken, and both chunks are dirty
  pub same-neighbours : read_leaves 2 4096 (0 ∷ 0 ∷ 16 ∷ 0 ∷ 0 ∷ 0 ∷ 0 ∷ 1 ∷ 0 ∷ 0 ∷ 16 ∷ 0 ∷ 0 ∷ 0 ∷ 0 ∷ 1 ∷ []) (replicate 512 0) ≡ 3 ∷ replicate 511 0
