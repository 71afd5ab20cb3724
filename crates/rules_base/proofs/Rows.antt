-- A member's row as a map of one row, and whole maps copied, zeroed and ORed. Once for any member and chunk.
-- Assumes nothing.
use mathlib.Core.Path.{◌≡◌, refl, sym, ◌∙◌}
use mathlib.Core.List.{List}
use Prim.Native.Nat.{ℕ, zero, suc, ◌+◌, ◌*◌, ◌/◌, ◌≤◌, ◌<◌, min}
use native.Mathlib.Omega.{arith}
use borrow.Author.Tests.{eq-eqb, lt-ltb}
use lib.Bits.{bit_or, or_zero_l}
use lib.ListN.{length, get_or, take, drop, replicate, length-replicate, get_or-replicate}
use lib.Seq.{get_or-take, get_or-drop, ext_get_or}
use Rattle.rules_base.specs.Chunk.{byte_of, dirty, chunk_marked, count_to, count}
use Rattle.rules_base.specs.Map.{row_of, replaced, zero_from, zeroed, or_from, or_in, copied}
use Rattle.rules_base.proofs.Over.{length_over, over-in}
use Rattle.rules_base.proofs.Chunk.{dirty-there}

-- member m's part of a map of 8,192 bytes
pub row-bytes : (xs : List ℕ) (m : ℕ) → length xs ≡ 8192 → m < 16 → row_of xs m ≡ take 512 (drop (512 * m) xs)
unfolding row_of
row-bytes xs m e h = rw (eq-eqb (length xs) 8192 e, lt-ltb m 16 h)

pub dirty-row : (xs : List ℕ) (m c : ℕ) → length xs ≡ 8192 → m < 16 → c < 4096 → dirty (row_of xs m) 0 c ≡ dirty xs m c
unfolding byte_of
dirty-row xs m c e h l =
    let q : 512 * 0 + c / 8 ≡ c / 8 = omega arith in
    dirty-there (row_of xs m) 0 c (omega arith) l ∙ (rw (q, row-bytes xs m e h, get_or-take 512 (drop (512 * m) xs) (c / 8) 0 (omega arith), get_or-drop) (sym (dirty-there xs m c h l)))

count_to-row : (xs : List ℕ) (m n : ℕ) → length xs ≡ 8192 → m < 16 → n ≤ 4096 → count_to (row_of xs m) 0 n ≡ count_to xs m n
unfolding count_to
count_to-row xs m zero e h l = refl
count_to-row xs m (suc n) e h l = rw (count_to-row xs m n e h (omega arith), dirty-row xs m n e h (omega arith))

pub count-row : (xs : List ℕ) (m : ℕ) → length xs ≡ 8192 → m < 16 → count (row_of xs m) 0 ≡ count xs m
unfolding count
count-row xs m e h = count_to-row xs m 4096 e h (omega arith)

-- ---- whole maps
-- a byte-wise operation on the whole list that gives the bytes of another list of that length
over-all : (f : ℕ → ℕ → ℕ) (xs ys : List ℕ) (n : ℕ) → n ≡ length xs → length xs ≡ length ys → ((k : ℕ) → k < length xs → f k (get_or xs k 0) ≡ get_or ys k 0) → replaced 0 n f xs ≡ ys
over-all f xs ys n q e h =
    rw q (ext_get_or 0 (replaced 0 (length xs) f xs) ys (length_over 0 (length xs) f xs ∙ e) (λ k b.
    let l : k < length xs = rw length_over at b in
    over-in 0 (length xs) f xs k l (omega arith) l ∙ h k l))

-- a map copied whole is the copied one
pub copied_all : (xs ys : List ℕ) → length xs ≡ length ys → copied xs ys ≡ ys
unfolding copied
copied_all xs ys e = over-all (λ k x. get_or ys k 0) xs ys (min (length xs) (length ys)) (omega arith) e (λ k l. refl)

pub zeroed-all : (xs : List ℕ) → zeroed xs ≡ replicate (length xs) 0
unfolding zeroed zero_from
zeroed-all xs =
    over-all (λ k x. 0) xs (replicate (length xs) 0) (length xs) refl (sym (length-replicate (length xs) 0))
    (λ k l. sym (get_or-replicate (length xs) k 0 0 l))

-- a map ORed into the zero map is that map
pub or-into-zero : (xs ys : List ℕ) → length xs ≡ length ys → or_in (zeroed xs) ys ≡ ys
unfolding or_in or_from
or-into-zero xs ys e =
    let z : length (zeroed xs) ≡ length ys = rw zeroed-all (length-replicate (length xs) 0 ∙ e) in
    over-all (λ k x. bit_or x (get_or ys k 0)) (zeroed xs) ys (min (length (zeroed xs)) (length ys)) (omega arith) z
    (λ k l.
    let q : get_or (zeroed xs) k 0 ≡ 0 = rw zeroed-all (get_or-replicate (length xs) k 0 0 (omega (arith, z, e))) in
    rw q (or_zero_l (get_or ys k 0)))

-- ---- the tester's row: member 3, chunk 4,095 is the top bit of byte 2,047
pub byte-2047 : get_or (chunk_marked (replicate 8192 0) 3 4095) 2047 0 ≡ 128
unfolding chunk_marked byte_of
byte-2047 = refl
