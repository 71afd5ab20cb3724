-- A row counted by whole bytes is the row counted chunk by chunk. Assumes nothing.
use mathlib.Core.Path.{◌≡◌, refl, ◌∙◌}
use mathlib.Core.List.{List}
use Prim.Native.Nat.{ℕ, zero, suc, ◌+◌, ◌*◌, ◌/◌, ◌%◌, ◌≤◌, ◌<◌}
use native.Mathlib.Nat.{add-zero, add-suc}
use native.Mathlib.Omega.{arith}
use lib.Count.{ones, ones_in}
use lib.ListN.{get_or, replicate}
use Rattle.laws_words.specs.Words.{bit}
use Rattle.laws_words.specs.Bits.{table2}
use Rattle.rules_base.specs.Chunk.{byte_of, dirty, count_to, count}
use Rattle.rules_base.proofs.Chunk.{dirty-there, there-no-member}

-- the sum of x's bits below n
abbrev bits_to : ℕ → ℕ → ℕ
bits_to x zero = 0
bits_to x (suc n) = bits_to x n + bit x n

-- a byte's ones are its bits: a table of all bytes
ones-bits : (x : ℕ) → x < 256 → ones x ≡ bits_to x 8
unfolding ones ones_in bit
ones-bits x h = table2 256 1 (λ v j. ones v) (λ v j. bits_to v 8) tt x 0 h (omega arith)

-- bit k of byte i is chunk 8i + k
byte-bit : (xs : List ℕ) (m i k : ℕ) → m < 16 → i < 512 → k < 8 → dirty xs m (8 * i + k) ≡ bit (get_or xs (512 * m + i) 0) k
unfolding byte_of
byte-bit xs m i k hm hi hk =
    let q : (8 * i + k) / 8 ≡ i = omega arith in
    let r : (8 * i + k) % 8 ≡ k = omega arith in
    dirty-there xs m (8 * i + k) hm (omega arith) ∙ rw (q, r)

-- the first k chunks of byte i more
byte-to : (xs : List ℕ) (m i k : ℕ) → m < 16 → i < 512 → k ≤ 8 → count_to xs m (8 * i + k) ≡ count_to xs m (8 * i) + bits_to (get_or xs (512 * m + i) 0) k
unfolding count_to
byte-to xs m i zero hm hi hk = rw (add-zero (8 * i)) (omega arith)
byte-to xs m i (suc k) hm hi hk = rw (add-suc (8 * i) k) (omega (arith, byte-bit xs m i k hm hi hk, byte-to xs m i k hm hi (omega arith)))

-- a byte more
pub count-byte : (xs : List ℕ) (m i : ℕ) → m < 16 → i < 512 → get_or xs (512 * m + i) 0 < 256 → count_to xs m (8 * (i + 1)) ≡ count_to xs m (8 * i) + ones (get_or xs (512 * m + i) 0)
count-byte xs m i hm hi hb =
    let q : 8 * (i + 1) ≡ 8 * i + 8 = omega arith in
    rw (q, ones-bits (get_or xs (512 * m + i) 0) hb) (byte-to xs m i 8 hm hi (omega arith))

-- an id above 15 has no chunk
pub count-nobody : (xs : List ℕ) (m n : ℕ) → 16 ≤ m → count_to xs m n ≡ 0
unfolding count_to dirty
count-nobody xs m zero h = refl
count-nobody xs m (suc n) h = rw (there-no-member m n h, count-nobody xs m n h)

-- ---- an empty row and a full one, computed
pub count-empty : count (replicate 512 0) 0 ≡ 0
unfolding count count_to dirty byte_of bit
count-empty = refl

pub count-full : count (replicate 512 255) 0 ≡ 4096
unfolding count count_to dirty byte_of bit
count-full = refl
