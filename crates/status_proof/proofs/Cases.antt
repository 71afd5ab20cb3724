-- The worked cases: short ones computed, the long ones by laws of equal and of alternating chunks. Assumes nothing.
use mathlib.Core.Path.{◌≡◌, refl, ap, ◌∙◌}
use mathlib.Core.List.{List, [], ◌∷◌, ◌++◌}
use Prim.Native.Nat.{ℕ, zero, suc, ◌+◌, ◌*◌, ◌<◌}
use native.Mathlib.Nat.{zero-mul, add-zero, suc-mul}
use native.Mathlib.Omega.{arith}
use borrow.Author.Tests.{eq-eqb, lt-ltb}
use lib.ListN.{length, replicate, replicate-append-replicate}
use Rattle.laws_words.specs.Words.{bit}
use Rattle.rules_base.specs.Chunk.{byte_of, dirty, chunk_marked, cleared}
use Rattle.status_row.specs.Volume.{flags_from, all_clean, row_sound, size_good, volume_good}
use Rattle.status_row.specs.Descriptors.{desc, total, word, bytes_of, word_at, descs_from, descs_of}
use Rattle.status_row.specs.Writing.{runs_from, runs, status_of}
use Rattle.status_row.specs.Reading.{desc_good, every_good, status_good, flags_of, stored, painted, read_refusal, read_leaves}
use Rattle.status_proof.proofs.Back.{length-bytes}

pub two_runs : status_of 5 65536 (24 ∷ replicate 511 0) ≡ 0 ∷ 3 ∷ 0 ∷ 0 ∷ 0 ∷ 0 ∷ 0 ∷ 0 ∷ 0 ∷ 2 ∷ 0 ∷ 0 ∷ 0 ∷ 0 ∷ 0 ∷ 1 ∷ []
unfolding status_of bytes_of word runs runs_from flags_from dirty byte_of bit
two_runs = refl

-- ---- equal chunks
-- m equal chunks more, all below 2^32
along : (s f b m : ℕ) (gs : List ℕ) → b + m * s < 4294967296 → runs_from s f b (replicate m f ++ gs) ≡ runs_from s f (b + m * s) gs
unfolding runs_from
along s f b zero gs h = rw (zero-mul s, add-zero b)
along s f b (suc m) gs h =
    let e = suc-mul m s in
    let q : b + suc m * s ≡ b + s + m * s = omega arith in
    rw (eq-eqb f f refl, lt-ltb (b + s) 4294967296 (omega arith), q) (along s f (b + s) m gs (omega arith))

-- 4,096 of 1 MiB are cut after 4,095
cut : (f : ℕ) → runs 1048576 (replicate 4096 f) ≡ desc 4293918720 f ∷ desc 1048576 f ∷ []
unfolding runs
cut f = rw (← replicate-append-replicate 4094 1 f) (along 1048576 f 1048576 4094 (f ∷ []) (omega arith) ∙ last f)
  where
    last : (f : ℕ) → runs_from 1048576 f 4293918720 (f ∷ []) ≡ desc 4293918720 f ∷ desc 1048576 f ∷ []
    last f = unfold runs_from in rw (eq-eqb f f refl)

flags-clean : flags_from (replicate 512 0) 0 4096 ≡ replicate 4096 0
unfolding flags_from dirty byte_of bit
flags-clean = refl

flags-dirty : flags_from (replicate 512 255) 0 4096 ≡ replicate 4096 1
unfolding flags_from dirty byte_of bit
flags-dirty = refl

pub longest-clean : status_of 4096 1048576 (replicate 512 0) ≡ 255 ∷ 240 ∷ 0 ∷ 0 ∷ 0 ∷ 0 ∷ 0 ∷ 0 ∷ 0 ∷ 16 ∷ 0 ∷ 0 ∷ 0 ∷ 0 ∷ 0 ∷ 0 ∷ []
unfolding status_of bytes_of word
longest-clean = rw (flags-clean, cut 0)

pub longest-dirty : status_of 4096 1048576 (replicate 512 255) ≡ 255 ∷ 240 ∷ 0 ∷ 0 ∷ 0 ∷ 0 ∷ 0 ∷ 1 ∷ 0 ∷ 16 ∷ 0 ∷ 0 ∷ 0 ∷ 0 ∷ 0 ∷ 1 ∷ []
unfolding status_of bytes_of word
longest-dirty = rw (flags-dirty, cut 1)

-- ---- alternating chunks
-- m clean chunks with a dirty one after each
zigzag : ℕ → List ℕ
zigzag zero = []
zigzag (suc m) = 0 ∷ (1 ∷ zigzag m)

flags-zigzag : flags_from (replicate 512 170) 0 4096 ≡ zigzag 2048
unfolding flags_from dirty byte_of bit zigzag
flags-zigzag = refl

-- after a dirty chunk, a run for each
apart : (s m : ℕ) → length (runs_from s 1 s (zigzag m)) ≡ suc (2 * m)
unfolding runs_from zigzag
apart s zero = refl
apart s (suc m) = omega (arith, apart s m)

runs-zigzag : (s m : ℕ) → length (runs s (zigzag (suc m))) ≡ 2 * suc m
unfolding runs runs_from zigzag
runs-zigzag s m = omega (arith, apart s m)

pub alternating : (s : ℕ) → length (status_of 4096 s (replicate 512 170)) ≡ 32768
unfolding status_of
alternating s = rw flags-zigzag (length-bytes (runs s (zigzag 2048)) ∙ ap (λ (k : ℕ). 8 * k) (runs-zigzag s 2047))

-- ---- neighbours with the same flag
pub same-neighbours : read_leaves 2 4096 (0 ∷ 0 ∷ 16 ∷ 0 ∷ 0 ∷ 0 ∷ 0 ∷ 1 ∷ 0 ∷ 0 ∷ 16 ∷ 0 ∷ 0 ∷ 0 ∷ 0 ∷ 1 ∷ []) (replicate 512 0) ≡ 3 ∷ replicate 511 0
unfolding read_leaves read_refusal painted stored flags_of status_good every_good desc_good total descs_of descs_from word_at row_sound all_clean volume_good size_good dirty chunk_marked cleared byte_of bit
same-neighbours = refl
