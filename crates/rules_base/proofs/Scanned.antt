-- The scan for soundness gathers 0 exactly where no bit past the chunk count is set.
-- Assumes nothing.
use mathlib.Core.Path.{◌≡◌, refl, sym, ◌∙◌}
use mathlib.Core.List.{List}
use Prim.Native.Nat.{ℕ, zero, suc, ◌+◌, ◌-◌, ◌*◌, ◌/◌, ◌%◌, ◌^◌, ◌≤◌, ◌<◌, min}
use native.Mathlib.Nat.{div-one, div-eq_of_lt}
use native.Mathlib.Numerals.{add-one}
use native.Mathlib.Decide.{ℕ_discrete, dec_lt}
use native.Mathlib.Omega.{arith}
use borrow.Author.Tests.{eq-eqb, le-leb, lt-leb, eqb-true}
use lib.Bits.{bit_or, or_add_and, and_le_l, and_le_r}
use lib.Dec.{eqb}
use lib.ListN.{length, get_or}
use Rattle.laws_words.specs.Tests.{same_test}
use Rattle.rules_base.specs.Map.{room, spare, sound}
use Rattle.rules_base.specs.Scan.{or_to, row_spare, rows_spare}
use Rattle.rules_base.proofs.Maps.{sound-yes, sound-clean}

-- ---- the loop over bytes
pub or-start : (xs : List ℕ) (a : ℕ) → 0 ≡ or_to xs a (a - a)
unfolding or_to
or-start xs a = let z : a - a ≡ 0 = omega arith in rw z

pub or-more : (xs : List ℕ) (a i got : ℕ) → a ≤ i → got ≡ or_to xs a (i - a) → bit_or got (get_or xs i 0) ≡ or_to xs a (i + 1 - a)
unfolding or_to
or-more xs a i got h e =
    let q : i + 1 - a ≡ suc (i - a) = omega arith in
    let p : a + (i - a) ≡ i = omega arith in
    rw (q, p, e)

-- ---- an OR is 0 where both are
pub or-zero : (a b : ℕ) → bit_or a b ≡ 0 → (a ≡ 0) × (b ≡ 0)
or-zero a b e = (omega (arith, e, or_add_and a b, and_le_r a b), omega (arith, e, or_add_and a b, and_le_l a b))

or-none : (a b : ℕ) → a ≡ 0 → b ≡ 0 → bit_or a b ≡ 0
or-none a b p q = omega (arith, p, q, or_add_and a b)

or_to-zero : (xs : List ℕ) (a n : ℕ) → or_to xs a n ≡ 0 → (i : ℕ) → i < n → get_or xs (a + i) 0 ≡ 0
unfolding or_to
or_to-zero xs a zero e i l = absurd (let z : ⊥ = omega arith in z)
or_to-zero xs a (suc n) e i l = elim (ℕ_discrete i n) [
  | yes q ↦ rw q (or-zero (or_to xs a n) (get_or xs (a + n) 0) e).1
  | no d ↦ or_to-zero xs a n (or-zero (or_to xs a n) (get_or xs (a + n) 0) e).0 i (omega arith)
]

or_to-none : (xs : List ℕ) (a n : ℕ) → ((i : ℕ) → i < n → get_or xs (a + i) 0 ≡ 0) → or_to xs a n ≡ 0
unfolding or_to
or_to-none xs a zero h = refl
or_to-none xs a (suc n) h = or-none (or_to xs a n) (get_or xs (a + n) 0) (or_to-none xs a n (λ i l. h i (omega arith))) (h n (omega arith))

-- ---- what a byte holds past the count, by where it stands to the count's own byte
spare-before : (n k x : ℕ) → k % 512 < n / 8 → x < 256 → spare n k x ≡ 0
unfolding spare room
spare-before n k x h l = let r : min 8 (n - 8 * (k % 512)) ≡ 8 = omega arith in rw r (div-eq_of_lt l)

spare-own : (n k x : ℕ) → k % 512 ≡ n / 8 → spare n k x ≡ x / 2 ^ (n % 8)
unfolding spare room
spare-own n k x h = let r : min 8 (n - 8 * (k % 512)) ≡ n % 8 = omega arith in rw r

spare-after : (n k x : ℕ) → n / 8 < k % 512 → spare n k x ≡ x
unfolding spare room
spare-after n k x h = let r : min 8 (n - 8 * (k % 512)) ≡ 0 = omega arith in rw r (div-one x)

-- ---- one row
row_zero : (xs : List ℕ) (n m : ℕ) → ((k : ℕ) → get_or xs k 0 < 256) → row_spare xs n m ≡ 0 → (j : ℕ) → j < 512 → spare n (512 * m + j) (get_or xs (512 * m + j) 0) ≡ 0
unfolding row_spare
row_zero xs n m byte e j l =
    let at : (512 * m + j) % 512 ≡ j = omega arith in
    elim (dec_lt j (n / 8)) [
      | yes p ↦ spare-before n (512 * m + j) _ (rw at p) (byte (512 * m + j))
      | no g ↦
          let z = or-zero _ _ (rw (lt-leb 512 (n / 8) (omega arith)) at e) in
          elim (ℕ_discrete j (n / 8)) [
            | yes q ↦ spare-own n (512 * m + j) _ (at ∙ q) ∙ (rw q z.0)
            | no d ↦
                let p : 512 * m + n / 8 + 1 + (j - n / 8 - 1) ≡ 512 * m + j = omega arith in
                spare-after n (512 * m + j) _ (rw at (omega arith)) ∙ (rw p at (or_to-zero xs (512 * m + n / 8 + 1) (511 - n / 8) z.1 (j - n / 8 - 1) (omega arith)))
          ]
    ]

row-none : (xs : List ℕ) (n m : ℕ) → ((j : ℕ) → j < 512 → spare n (512 * m + j) (get_or xs (512 * m + j) 0) ≡ 0) → row_spare xs n m ≡ 0
unfolding row_spare
row-none xs n m h = elim (dec_lt (n / 8) 512) [
  | no g ↦ rw (le-leb 512 (n / 8) (omega arith))
  | yes l ↦ rw (lt-leb 512 (n / 8) l) (or-none _ _
      (sym (spare-own n (512 * m + n / 8) _ (omega arith)) ∙ h (n / 8) l)
      (or_to-none xs (512 * m + n / 8 + 1) (511 - n / 8) (λ i b.
      let p : 512 * m + (n / 8 + 1 + i) ≡ 512 * m + n / 8 + 1 + i = omega arith in
      rw (← p) (sym (spare-after n (512 * m + (n / 8 + 1 + i)) _ (omega arith)) ∙ h (n / 8 + 1 + i) (omega arith)))))
]

-- ---- all rows
pub rows_start : (xs : List ℕ) (n : ℕ) → 0 ≡ rows_spare xs n 0
unfolding rows_spare
rows_start xs n = refl

pub rows_more : (xs : List ℕ) (n m got v : ℕ) → got ≡ rows_spare xs n m → v ≡ row_spare xs n m → bit_or got v ≡ rows_spare xs n (m + 1)
unfolding rows_spare
rows_more xs n m got v e f = rw (add-one, e, f)

rows-zero : (xs : List ℕ) (n k : ℕ) → rows_spare xs n k ≡ 0 → (m : ℕ) → m < k → row_spare xs n m ≡ 0
unfolding rows_spare
rows-zero xs n zero e m l = absurd (let z : ⊥ = omega arith in z)
rows-zero xs n (suc k) e m l = elim (ℕ_discrete m k) [
  | yes q ↦ rw q (or-zero (rows_spare xs n k) (row_spare xs n k) e).1
  | no d ↦ rows-zero xs n k (or-zero (rows_spare xs n k) (row_spare xs n k) e).0 m (omega arith)
]

rows_none : (xs : List ℕ) (n k : ℕ) → ((m : ℕ) → m < k → row_spare xs n m ≡ 0) → rows_spare xs n k ≡ 0
unfolding rows_spare
rows_none xs n zero h = refl
rows_none xs n (suc k) h = or-none (rows_spare xs n k) (row_spare xs n k) (rows_none xs n k (λ m l. h m (omega arith))) (h k (omega arith))

-- The scan of a map of 8,192 bytes comes to 0 exactly where the map is sound.
pub scanned : (xs : List ℕ) (n : ℕ) → length xs ≡ 8192 → ((k : ℕ) → get_or xs k 0 < 256) → eqb (rows_spare xs n 16) 0 ≡ sound n xs
scanned xs n len byte = same_test (eqb (rows_spare xs n 16) 0) (sound n xs)
    (λ e. sound-yes n xs len (λ k l.
    let p : 512 * (k / 512) + k % 512 ≡ k = omega arith in
    rw p at (row_zero xs n (k / 512) byte (rows-zero xs n 16 (eqb-true (rows_spare xs n 16) 0 e) (k / 512) (omega arith)) (k % 512) (omega arith))))
    (λ e. eq-eqb (rows_spare xs n 16) 0 (rows_none xs n 16 (λ m l. row-none xs n m (λ j b. sound-clean n xs e (512 * m + j)))))
