-- Laws of a number made of tests, of a digit, and of a number that is not zero. Assumes nothing.
use mathlib.Core.Path.{◌≡◌, refl, sym, ap, ◌∙◌}
use mathlib.Core.Bool.{Bool, true, false, not, ◌||◌}
use Prim.Native.Nat.{ℕ, zero, suc, ◌+◌, ◌-◌, ◌*◌, ◌/◌, ◌%◌, ◌^◌, ◌≤◌, ◌<◌, max}
use native.Mathlib.Nat.{not-suc-le-zero, pow-suc, div-eq_of_lt, pow-le-pow_right, add-zero, zero-add}
use native.Mathlib.Numerals.{add-one}
use native.Mathlib.Decide.{ℕ_discrete}
use native.Mathlib.Omega.{arith}
use borrow.Author.Tests.{eq-eqb, ne_eqb}
use lib.Bits.{bit_or, or_lt, or_zero_r}
use lib.Dec.{eqb}
use lib.Pow.{shl_exact, shr-shr, pow-lt, pow-add, mod-pow-add}
use Rattle.laws_words.specs.Words.{pick, one, bit}
use Rattle.laws_words.specs.Bits.{bit-or, bit-none, table2}
use Rattle.rules_base.specs.Summary.{some, bits}
use Rattle.rules_base.proofs.Some.{or-none, or_some, or_nothing}

-- 1 << k, of a word
pub shl_one : (k : ℕ) → k < 64 → 1 * 2 ^ k % 2 ^ 64 ≡ 2 ^ k
shl_one k h = let e : 1 * 2 ^ k % 2 ^ 64 ≡ 1 * 2 ^ k = shl_exact 1 k 64 (omega arith) (omega arith) in omega arith

-- d << 1, where d is 1 << k
pub digit-next : (k d : ℕ) → (k < 64 → d ≡ 2 ^ k) → k + 1 < 64 → d * 2 ^ 1 % 2 ^ 64 ≡ 2 ^ (k + 1)
digit-next k d e h = rw (e (omega arith)) (shl_exact {a = 2 ^ k} (suc k) 1 64 (pow-lt (omega arith)) (omega arith) ∙ sym (pow-add 2 k 1))

pub bit-power : (k j : ℕ) → k < 64 → j < 64 → bit (2 ^ k) j ≡ pick (eqb k j) 1 0
unfolding bit
bit-power = table2 64 64 (λ k j. bit (2 ^ k) j) (λ k j. pick (eqb k j) 1 0) tt

pub bit_past : (x k : ℕ) → x < 2 ^ k → bit x k ≡ 0
unfolding bit
bit_past x k h = rw (div-eq_of_lt h)

-- ---- a number made of tests
pub bits-start : (t : ℕ → Bool) → bits t 0 ≡ 0
unfolding bits
bits-start t = refl

-- one test more: got is what the loop has, v what it then has
pub bits_in : (t : ℕ → Bool) (n got v : ℕ) → t n ≡ true → got ≡ bits t n → v ≡ bit_or got (2 ^ n) → v ≡ bits t (n + 1)
unfolding bits
bits_in t n got v q e h = rw (add-one n, q, ← e) h

pub bits_out : (t : ℕ → Bool) (n got : ℕ) → t n ≡ false → got ≡ bits t n → got ≡ bits t (n + 1)
unfolding bits
bits_out t n got q e = rw (add-one n, q, or_zero_r (bits t n)) e

digit_lt : (b : Bool) (n : ℕ) → pick b (2 ^ n) 0 < 2 ^ suc n
digit_lt true n = let q = pow-suc 2 n in let p : 1 ≤ 2 ^ n = pow-le-pow_right {n = 2} (omega arith) {i = 0} {j = n} (omega arith) in omega arith
digit_lt false n = let p : 1 ≤ 2 ^ suc n = pow-le-pow_right {n = 2} (omega arith) {i = 0} {j = suc n} (omega arith) in omega arith

pub bits-lt : (t : ℕ → Bool) (n : ℕ) → bits t n < 2 ^ n
unfolding bits
bits-lt t zero = omega arith
bits-lt t (suc n) = let q = pow-suc 2 n in or_lt (suc n) (bits t n) (pick (t n) (2 ^ n) 0) (omega (arith, bits-lt t n)) (digit_lt (t n) n)

digit-bit : (b : Bool) (n k : ℕ) → n < 64 → k < 64 → bit (pick b (2 ^ n) 0) k ≡ pick (eqb n k) (one b) 0
digit-bit true n k h l = bit-power n k h l
digit-bit false n k h l = rw (bit-none k) (sym (go (eqb n k)))
  where
    go : (c : Bool) → pick {A = ℕ} c 0 0 ≡ 0
    go true = refl
    go false = refl

-- its bit k is the test at k, and those from n on are 0
pub bit-bits : (t : ℕ → Bool) (n k : ℕ) → n ≤ 64 → k < n → bit (bits t n) k ≡ one (t k)
unfolding bits
bit-bits t zero k h l = absurd (not-suc-le-zero l)
bit-bits t (suc n) k h l =
    rw (bit-or (bits t n) (pick (t n) (2 ^ n) 0) k, digit-bit (t n) n k (omega arith) (omega arith))
    (elim (ℕ_discrete n k) [
      | yes e ↦ rw (← e, eq-eqb n n refl, bit_past (bits t n) n (bits-lt t n)) (omega arith)
      | no d ↦ rw (ne_eqb n k d, bit-bits t n k (omega arith) (omega arith)) (omega arith)
    ])

pub bits-past : (t : ℕ → Bool) (n k : ℕ) → n ≤ k → bit (bits t n) k ≡ 0
bits-past t n k h = let p : 2 ^ n ≤ 2 ^ k = pow-le-pow_right {n = 2} (omega arith) h in bit_past (bits t n) k (omega (arith, bits-lt t n))

pub bits_none : (t : ℕ → Bool) (n : ℕ) → ((k : ℕ) → t k ≡ false) → bits t n ≡ 0
unfolding bits
bits_none t zero h = refl
bits_none t (suc n) h = rw (bits_none t n h, h n)

pub bits-like : (t u : ℕ → Bool) (n : ℕ) → ((k : ℕ) → k < n → t k ≡ u k) → bits t n ≡ bits u n
unfolding bits
bits-like t u zero h = refl
bits-like t u (suc n) h = rw (bits-like t u n (λ k l. h k (omega arith)), h n (omega arith))

-- ---- a number that is not zero has a bit that is set
digit-some : (b : Bool) (n : ℕ) → not (eqb (pick b (2 ^ n) 0) 0) ≡ b
digit-some true n = let p : 1 ≤ 2 ^ n = pow-le-pow_right {n = 2} (omega arith) {i = 0} {j = n} (omega arith) in rw (ne_eqb (2 ^ n) 0 (λ e. omega arith))
digit-some false n = refl

pub bits-some : (t : ℕ → Bool) (n : ℕ) → not (eqb (bits t n) 0) ≡ some t 0 n
unfolding bits some
bits-some t zero = refl
bits-some t (suc n) = rw (or_nothing (bits t n) (pick (t n) (2 ^ n) 0), bits-some t n, digit-some (t n) n, zero-add n)

sum-some : (b x p : ℕ) → b < 2 → 1 ≤ p → not (eqb (b * p + x) 0) ≡ (not (eqb x 0) || eqb b 1)
sum-some zero x p h l = let q : 0 * p + x ≡ x = omega arith in rw q (sym (or-none (not (eqb x 0))))
sum-some (suc zero) x p h l = rw (ne_eqb (1 * p + x) 0 (λ e. omega arith)) (sym (or_some (not (eqb x 0))))
sum-some (suc (suc b)) x p h l = absurd (let z : ⊥ = omega arith in z)

-- so too the n bits from bit s on
pub field-some : (x s n : ℕ) → not (eqb (x / 2 ^ s % 2 ^ n) 0) ≡ some (λ k. eqb (bit x k) 1) s n
unfolding some bit
field-some x s zero = let q : x / 2 ^ s % 1 ≡ 0 = omega arith in rw q
field-some x s (suc n) =
    let p : 1 ≤ 2 ^ n = pow-le-pow_right {n = 2} (omega arith) {i = 0} {j = n} (omega arith) in
    let q : suc n ≡ 1 + n = omega arith in
    let z : x / 2 ^ s % 2 ^ suc n ≡ x / 2 ^ (s + n) % 2 * 2 ^ n + x / 2 ^ s % 2 ^ n = rw (q, mod-pow-add (x / 2 ^ s) 1 n, shr-shr x s n) in
    rw (z, sum-some (x / 2 ^ (s + n) % 2) (x / 2 ^ s % 2 ^ n) (2 ^ n) (omega arith) p, field-some x s n)
