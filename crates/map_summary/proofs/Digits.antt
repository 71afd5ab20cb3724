-- A number made of tests, made from its highest digit down.
use mathlib.Core.Path.{◌≡◌, refl, ap, ◌∙◌}
use mathlib.Core.Bool.{Bool, true, false}
use Prim.Native.Nat.{ℕ, zero, suc, ◌+◌, ◌-◌, ◌*◌, ◌^◌, ◌≤◌, ◌<◌}
use native.Mathlib.Nat.{pow-suc, pow-le-pow_right}
use native.Mathlib.Omega.{arith}
use lib.Bits.{bit_or, or_block, or_zero_r}
use Rattle.laws_words.specs.Words.{pick, one}
use Rattle.rules_base.specs.Summary.{bits}
use Rattle.rules_base.proofs.Bits.{bits-lt, bits-like}

one_lt : (b : Bool) → one b < 2 ^ 1
one_lt true = omega arith
one_lt false = omega arith

one-start : (b : Bool) → bit_or 0 (pick b 1 0) ≡ one b
one-start true = refl
one-start false = refl

doubled : (b : Bool) (n : ℕ) → pick b (2 ^ suc n) 0 ≡ pick b (2 ^ n) 0 * 2 ^ 1 + 0
doubled true n = let q = pow-suc 2 n in omega arith
doubled false n = refl

-- twice the tests from 1 on, and the test at 0
bits_next : (t : ℕ → Bool) (n : ℕ) → bits t (suc n) ≡ 2 * bits (λ k. t (suc k)) n + one (t 0)
unfolding bits
bits_next t zero = one-start (t 0) ∙ omega arith
bits_next t (suc n) =
    let b = bits (λ k. t (suc k)) n in
    let p = pick (t (suc n)) (2 ^ n) 0 in
    let e : bits t (suc n) ≡ b * 2 ^ 1 + one (t 0) = bits_next t n ∙ omega arith in
    rw (e, doubled (t (suc n)) n, or_block 1 b p (one (t 0)) 0 (one_lt (t 0)) (omega arith), or_zero_r (one (t 0))) (omega arith)

-- got is what the loop has of the tests from place i on, then also of that at the place before
pub bits_down : (t : ℕ → Bool) (p i got v : ℕ) → i ≡ suc p → i ≤ 64 → got ≡ bits (λ j. t (i + j)) (64 - i) → v ≡ one (t p) → 2 * got + v ≡ bits (λ j. t (p + j)) (64 - p)
bits_down t p i got v h l e f =
    let n = 64 - i in
    let q : 64 - p ≡ suc n = omega arith in
    let z : t (p + 0) ≡ t p = ap t (omega arith) in
    let like : bits (λ j. t (p + suc j)) n ≡ bits (λ j. t (i + j)) n = bits-like (λ j. t (p + suc j)) (λ j. t (i + j)) n (λ k b. ap t (omega arith)) in
    rw (q, bits_next (λ j. t (p + j)) n, z, like, ← e, ← f) refl

pub bits_whole : (t : ℕ → Bool) (i got : ℕ) → i ≡ 0 → got ≡ bits (λ j. t (i + j)) (64 - i) → got ≡ bits t 64
bits_whole t i got h e = (rw h at e) ∙ bits-like (λ j. t (0 + j)) t 64 (λ k b. ap t (omega arith))

-- no more than 63 digits, so that there is room for one more
pub bits_room : (t : ℕ → Bool) (i got : ℕ) → 0 < i → got ≡ bits t (64 - i) → got < 2 ^ 63
bits_room t i got h e =
    let p : 2 ^ (64 - i) ≤ 2 ^ 63 = pow-le-pow_right {n = 2} (omega arith) {i = 64 - i} {j = 63} (omega arith) in
    omega (arith, e, bits-lt t (64 - i))
