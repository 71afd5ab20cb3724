-- Laws of the definitions of specs/Map.antt that the functions' proofs cite: folds over a set, counts, soundness.
-- Assumes nothing.
use mathlib.Core.Path.{◌≡◌, refl}
use mathlib.Core.Bool.{Bool, true, false}
use mathlib.Core.List.{List, [], ◌∷◌}
use Prim.Native.Nat.{ℕ, zero, suc, ◌+◌, ◌-◌, ◌*◌, ◌%◌, ◌^◌, ◌<◌}
use native.Mathlib.Nat.{not-suc-le-zero, le_of_suc-le-suc, add-zero, add-suc, suc-add, zero-add, zero-div}
use native.Mathlib.Omega.{arith}
use borrow.Author.Tests.{eq-eqb, ne_eqb, eqb-true}
use native.Mathlib.Decide.{dec_lt}
use lib.Dec.{eqb, ltb}
use lib.ListN.{length, get_or, get_or-eq_default}
use Rattle.laws_words.specs.Words.{pick}
use Rattle.laws_words.specs.Tests.{and_left, and_right}
use Rattle.rules_base.specs.Map.{room, spare, clean_from, sound, zero_from, zero_row}
use Rattle.rules_base.proofs.Over.{length_over}

-- ---- soundness, by the bytes
pub clean_from-yes : (n i : ℕ) (xs : List ℕ) → ((k : ℕ) → k < length xs → spare n (i + k) (get_or xs k 0) ≡ 0) → clean_from n i xs ≡ true
unfolding clean_from
clean_from-yes n i [] h = refl
clean_from-yes n i (x ∷ xs) h =
    rw (eq-eqb (spare n i x) 0 (rw add-zero at (h 0 (omega arith))), clean_from-yes n (suc i) xs (λ k l. rw (suc-add i k, ← add-suc i k) (h (suc k) (omega arith))))

pub sound-yes : (n : ℕ) (xs : List ℕ) → length xs ≡ 8192 → ((k : ℕ) → k < 8192 → spare n k (get_or xs k 0) ≡ 0) → sound n xs ≡ true
unfolding sound
sound-yes n xs e h = rw (eq-eqb (length xs) 8192 e, clean_from-yes n 0 xs (λ k l. rw (zero-add k) (h k (omega arith))))

pub sound-short : (n : ℕ) (xs : List ℕ) → (length xs ≡ 8192 → ⊥) → sound n xs ≡ false
unfolding sound
sound-short n xs d = rw (ne_eqb (length xs) 8192 d)

pub clean_from-at : (n i : ℕ) (xs : List ℕ) → clean_from n i xs ≡ true → (k : ℕ) → k < length xs → spare n (i + k) (get_or xs k 0) ≡ 0
unfolding clean_from
clean_from-at n i [] e k l = absurd (not-suc-le-zero l)
clean_from-at n i (x ∷ xs) e zero l = rw (add-zero i) (eqb-true (spare n i x) 0 (and_left (eqb (spare n i x) 0) (clean_from n (suc i) xs) e))
clean_from-at n i (x ∷ xs) e (suc k) l = rw (add-suc i k, ← suc-add i k) (clean_from-at n (suc i) xs (and_right (eqb (spare n i x) 0) (clean_from n (suc i) xs) e) k (le_of_suc-le-suc l))

pub spare-none : (n k : ℕ) → spare n k 0 ≡ 0
unfolding spare
spare-none n k = zero-div (2 ^ room n (k % 512))

pub sound-length : (n : ℕ) (xs : List ℕ) → sound n xs ≡ true → length xs ≡ 8192
unfolding sound
sound-length n xs e = eqb-true (length xs) 8192 (and_left (eqb (length xs) 8192) (clean_from n 0 xs) e)

pub sound-clean : (n : ℕ) (xs : List ℕ) → sound n xs ≡ true → (k : ℕ) → spare n k (get_or xs k 0) ≡ 0
unfolding sound
sound-clean n xs e k = elim (dec_lt k (length xs)) [
  | yes l ↦ rw zero-add at (clean_from-at n 0 xs (and_right (eqb (length xs) 8192) (clean_from n 0 xs) e) k l)
  | no g ↦ rw (get_or-eq_default xs 0 {n = k} (omega arith)) (spare-none n k)
]

pub length-zero_from : (a e : ℕ) (xs : List ℕ) → length (zero_from a e xs) ≡ length xs
unfolding zero_from
length-zero_from a e xs = length_over a e (λ k x. 0) xs

pub length-zero_row : (m : ℕ) (xs : List ℕ) → length (zero_row m xs) ≡ length xs
unfolding zero_row
length-zero_row m xs = go (ltb m 16)
  where
    go : (t : Bool) → length (pick t (zero_from (512 * m) (512 * m + 512) xs) xs) ≡ length xs
    go true = length-zero_from (512 * m) (512 * m + 512) xs
    go false = refl
