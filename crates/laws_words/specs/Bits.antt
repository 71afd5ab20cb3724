-- Laws of a number's bits, each for any bit: of `|` and `&`, of a computed table, and that a number is its bits.
use Rattle.std.specs.Prelude.{◌≡◌, Bool, true, false, ◌&&◌, ℕ, zero, suc, ◌-◌, ◌/◌, ◌%◌, ◌^◌, ◌<◌, min, max, T, eqb}
use Rattle.std.proofs.Common.{sym, ap, ◌∙◌, subst, not-suc-le-zero, one-add, add-one, arith, eqb→eq, shr-shr, shr_lt}
use Rattle.std.proofs.Math.Nat.{zero-div}
use Rattle.std.proofs.Math.Decide.{ℕ_discrete}
use Rattle.std.proofs.Math.Arith.{lt-one}
use Rattle.std.specs.Int.Bits.{bit_and, bit_or, or_step, and_step}
use Rattle.std.proofs.lemmas.Nat.{or_shr, and_shr}
use Rattle.laws_words.specs.Words.{bit}

pub bit-or : (a b k : ℕ) → bit (bit_or a b) k ≡ max (bit a k) (bit b k)
unfolding bit
bit-or a b k = rw (or_shr a b k, or_step (a / 2 ^ k) (b / 2 ^ k)) (omega arith)

pub bit-and : (a b k : ℕ) → bit (bit_and a b) k ≡ min (bit a k) (bit b k)
unfolding bit
bit-and a b k = rw (and_shr a b k, and_step (a / 2 ^ k) (b / 2 ^ k)) (omega arith)

pub bit-lt : (a k : ℕ) → bit a k < 2
unfolding bit
bit-lt a k = omega arith

pub bit-none : (k : ℕ) → bit 0 k ≡ 0
unfolding bit
bit-none k = rw (zero-div (2 ^ k))

-- ---- a test of all numbers below n, which antt computes
abbrev pub upto : ℕ → (ℕ → Bool) → Bool
upto zero f = true
upto (suc n) f = f n && upto n f

both : (a b : Bool) → T (a && b) → T a × T b
both true b t = (tt, t)
both false b t = absurd t

pub upto-at : (n : ℕ) (f : ℕ → Bool) → T (upto n f) → (k : ℕ) → k < n → T (f k)
upto-at zero f t k h = absurd (not-suc-le-zero h)
upto-at (suc n) f t k h =
    elim (ℕ_discrete k n) [
      | yes e ↦ subst (λ (i : ℕ). T (f i)) (sym e) (both (f n) (upto n f) t).0
      | no d ↦ upto-at n f (both (f n) (upto n f) t).1 k (omega arith)
    ]

-- two functions that agree at each pair of numbers below n and m, by a test that antt computes
pub table2 : (n m : ℕ) (f g : ℕ → ℕ → ℕ) → T (upto n (λ k. upto m (λ j. eqb (f k j) (g k j)))) → (k j : ℕ) → k < n → j < m → f k j ≡ g k j
table2 n m f g t k j hk hj = eqb→eq (f k j) (g k j) (upto-at m (λ i. eqb (f k i) (g k i)) (upto-at n (λ i. upto m (λ l. eqb (f i l) (g i l))) t k hk) j hj)

-- ---- two numbers of n digits with the same bits are equal
bit-half : (a k : ℕ) → bit (a / 2) k ≡ bit a (suc k)
unfolding bit
bit-half a k = ap (λ (n : ℕ). n % 2) (shr-shr a 1 k ∙ ap (λ (n : ℕ). a / 2 ^ n) (one-add k))

bit-zero : (a : ℕ) → bit a 0 ≡ a % 2
unfolding bit
bit-zero a = omega arith

half_lt : (a n : ℕ) → a < 2 ^ suc n → a / 2 < 2 ^ n
half_lt a n h = shr_lt n 1 (rw add-one h)

pub bits-same : (n a b : ℕ) → a < 2 ^ n → b < 2 ^ n → ((k : ℕ) → k < n → bit a k ≡ bit b k) → a ≡ b
bits-same zero a b ha hb h = lt-one ha ∙ sym (lt-one hb)
bits-same (suc n) a b ha hb h =
    let q : a / 2 ≡ b / 2 = bits-same n (a / 2) (b / 2) (half_lt a n ha) (half_lt b n hb) (λ k hk. bit-half a k ∙ (h (suc k) (omega arith) ∙ sym (bit-half b k))) in
    let r : a % 2 ≡ b % 2 = sym (bit-zero a) ∙ (h 0 (omega arith) ∙ bit-zero b) in
    omega arith
