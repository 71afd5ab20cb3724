-- The set of the places whose record passes a test, as the bits of a number: the loop that gathers it, and what its bits say.
use Rattle.std.specs.Prelude.{◌≡◌, Bool, true, false, length, get_or, drop}
use Rattle.std.proofs.Common.{sym, zero-add, add-zero, add-suc, add_assoc, pow-suc, le_of_suc-le-suc, not-suc-le-zero, zero-mul, one-mul, mul-one, mul_assoc, mul_comm, add-mul, div-one, add-one, arith, drop_of_length-le, drop-cons}
use mathlib.Core.List.{List, [], ◌∷◌}
use Prim.Native.Nat.{ℕ, zero, suc, ◌+◌, ◌*◌, ◌/◌, ◌%◌, ◌^◌, ◌≤◌, ◌<◌}
use Rattle.std.proofs.Math.Nat.{suc-add, pow-succ', div-div-eq-div-mul}
use Rattle.std.proofs.Math.Pow.{pow-lt}
use Rattle.laws_words.specs.Words.{pick, one, bit}

pub bit-most : (b : Bool) (p : ℕ) → pick b p 0 ≤ p
bit-most true p = omega arith
bit-most false p = omega arith

module _ {A : Type 0} where
  -- 2 ^ k for each record that passes, k being its place counted from the second argument
  abbrev pub gather : (ℕ → A → Bool) → ℕ → List A → ℕ
  gather f k [] = 0
  gather f k (x ∷ xs) = pick (f k x) (2 ^ k) 0 + gather f (suc k) xs

  -- a loop that gathers them, at index i with the set n
  pub record Gathers (m : ℕ) (f : ℕ → A → Bool) (xs : List A) (n i : ℕ) : Type 0 where
    pub size : length xs ≡ m
    pub at : i ≤ m
    pub low : n < 2 ^ i
    pub rest : n + gather f i (drop i xs) ≡ gather f 0 xs

  pub gathers-start : {m : ℕ} {f : ℕ → A → Bool} {xs : List A} → length xs ≡ m → Gathers m f xs 0 0
  gathers-start h = record { size = h; at = omega arith; low = omega arith; rest = zero-add _ }

  pub gathers-more : {m : ℕ} {f : ℕ → A → Bool} {xs : List A} {n i v : ℕ} (d : A) → Gathers m f xs n i → i < m → v ≡ pick (f i (get_or xs i d)) (2 ^ i) 0 → Gathers m f xs (n + v) (i + 1)
  gathers-more {m} {f} {xs} {n} {i} {v} d s h e =
      let h' : i < length xs = omega (arith, s.size) in
      let r = rw (drop-cons xs i d h') at s.rest in
      let most : v ≤ 2 ^ i = rw e (bit-most (f i (get_or xs i d)) (2 ^ i)) in
      let two : 2 ^ (i + 1) ≡ 2 ^ i * 2 = rw add-one (pow-suc 2 i) in
      record {
        size = s.size;
        at = omega arith;
        low = omega (arith, s.low, most, two);
        rest = rw (e, add-one, add_assoc) r;
      }

  pub gathers-done : {m : ℕ} {f : ℕ → A → Bool} {xs : List A} {n i : ℕ} → Gathers m f xs n i → m ≤ i → n ≡ gather f 0 xs
  gathers-done {m} {f} {xs} {n} {i} s h =
      let h' : length xs ≤ i = omega arith in
      let e = rw (drop_of_length-le xs h') at s.rest in
      omega arith

  -- so no sum of the loop wraps
  pub gathers-low : {f : ℕ → A → Bool} {xs : List A} {n i : ℕ} → Gathers 16 f xs n i → n < 131072
  gathers-low {f} {xs} {n} {i} s =
      let h : i < 17 = omega (arith, s.at) in
      let p : 2 ^ i < 131072 = pow-lt h in
      omega (arith, s.low)

-- ---- the gathered number, digit by digit
scaled : (b : Bool) (p : ℕ) → pick b p 0 ≡ one b * p
scaled true p = sym (one-mul p)
scaled false p = sym (zero-mul p)

step : (o p t s : ℕ) → s ≡ t * (p * 2) → o * p + s ≡ (o + 2 * t) * p
step o p t s e = rw (e, add-mul o (2 * t) p, mul_comm p 2, ← mul_assoc t 2 p, mul_comm t 2)

halves : (b : Bool) (t : ℕ) → ((one b + 2 * t) / 2 ≡ t) × ((one b + 2 * t) % 2 ≡ one b)
halves true t = (omega arith, omega arith)
halves false t = (omega arith, omega arith)

module _ {A : Type 0} where
  abbrev digits : (ℕ → A → Bool) → ℕ → List A → ℕ
  digits f k [] = 0
  digits f k (x ∷ xs) = one (f k x) + 2 * digits f (suc k) xs

  gather-digits : (f : ℕ → A → Bool) (k : ℕ) (xs : List A) → gather f k xs ≡ digits f k xs * 2 ^ k
  gather-digits f k [] = sym (zero-mul (2 ^ k))
  gather-digits f k (x ∷ xs) =
      rw (scaled (f k x) (2 ^ k)) (step (one (f k x)) (2 ^ k) (digits f (suc k) xs) (gather f (suc k) xs) (rw (← pow-suc 2 k) (gather-digits f (suc k) xs)))

  digits-bit : (f : ℕ → A → Bool) (k : ℕ) (xs : List A) (i : ℕ) (d : A) → i < length xs → bit (digits f k xs) i ≡ one (f (k + i) (get_or xs i d))
  unfolding bit
  digits-bit f k [] i d h = absurd (not-suc-le-zero h)
  digits-bit f k (x ∷ xs) zero d h = rw (div-one, add-zero) (halves (f k x) (digits f (suc k) xs)).1
  digits-bit f k (x ∷ xs) (suc i) d h =
      rw (pow-succ' 2 i, ← div-div-eq-div-mul (one (f k x) + 2 * digits f (suc k) xs) 2 (2 ^ i), (halves (f k x) (digits f (suc k) xs)).0, add-suc)
      (rw suc-add at (digits-bit f (suc k) xs i d (le_of_suc-le-suc h)))

  digits_lt : (f : ℕ → A → Bool) (k : ℕ) (xs : List A) → digits f k xs < 2 ^ length xs
  digits_lt f k [] = omega arith
  digits_lt f k (x ∷ xs) =
      let two : 2 ^ suc (length xs) ≡ 2 ^ length xs * 2 = pow-suc 2 (length xs) in
      omega (arith, two, digits_lt f (suc k) xs, (halves (f k x) (digits f (suc k) xs)).1)

  -- A bit of the gathered set is the test of the record at that place.
  pub gather-bit : (f : ℕ → A → Bool) (xs : List A) (i : ℕ) (d : A) → i < length xs → bit (gather f 0 xs) i ≡ one (f i (get_or xs i d))
  gather-bit f xs i d h = rw (gather-digits f 0 xs, mul-one) (rw zero-add at (digits-bit f 0 xs i d h))

  pub gather-lt : (f : ℕ → A → Bool) (xs : List A) → gather f 0 xs < 2 ^ length xs
  gather-lt f xs = rw (gather-digits f 0 xs, mul-one) (digits_lt f 0 xs)
