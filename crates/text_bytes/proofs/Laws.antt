-- What the loops cite.
use Prim.Native.Nat.{ℕ, zero, suc, ◌+◌, ◌-◌, ◌*◌, ◌/◌, ◌%◌, ◌^◌, ◌≤◌, ◌<◌}
use mathlib.Core.Path.{◌≡◌, refl, sym, ◌∙◌}
use mathlib.Core.Bool.{Bool, true, false}
use Rattle.std.specs.Str.{bytes_eq}
use mathlib.Core.List.{List, [], ◌∷◌, ◌++◌, append_assoc, append-nil}
use native.Mathlib.Omega.{arith}
use native.Mathlib.Numerals.{add-one}
use native.Mathlib.Nat.{pow-suc, pow-le-pow_right}
use borrow.Author.Tests.{lt-ltb, le-ltb, leb-true, leb-false}
use lib.ListN.{length, get_or, set, drop, length-set, drop_of_length-le}
use lib.Seq.{drop-cons}
use lib.Dec.{ltb, leb}
use Rattle.std.specs.Prelude.{Some, None}
use Rattle.laws_words.specs.Tests.{by_cases}
use Rattle.laws_words.specs.Words.{pick}
use Rattle.text_bytes.specs.Numbers.{digit_of, num_from, num_of}
use Rattle.text_bytes.specs.Bytes.{eq_bytes}
use Rattle.text_bytes.specs.Ink.{Ink, ink, emit, emits, emits_all, joined, dec_from, decimal}
use Rattle.io.specs.Digits.{last_digits, IsDigitCount}

-- A loop over a list whose definition goes by the list: F s xs is what is left to do from the state s. At index i, what is left still makes r.
module _ {S R A : Type 0} where
  pub record Rest (F : S → List A → R) (xs : List A) (r : R) (s : S) (i : ℕ) : Type 0 where
    pub at : i ≤ length xs
    pub rest : F s (drop i xs) ≡ r

  pub rest-start : {F : S → List A → R} {xs : List A} {r : R} {s : S} → F s xs ≡ r → Rest F xs r s 0
  rest-start e = record { at = omega arith; rest = e }

  pub rest_more : {F : S → List A → R} {xs : List A} {r : R} {s s' : S} {i : ℕ} (d : A) → Rest F xs r s i → i < length xs → ((ys : List A) → F s (get_or xs i d ∷ ys) ≡ F s' ys) → Rest F xs r s' (i + 1)
  rest_more {F} {xs} {r} {s} {s'} {i} d v h e =
      record { at = omega arith; rest = rw add-one (sym (e (drop (suc i) xs)) ∙ (rw (drop-cons xs i d h) at v.rest)) }

  pub rest-stop : {F : S → List A → R} {xs : List A} {r : R} {s : S} {i : ℕ} {a : R} (d : A) → Rest F xs r s i → i < length xs → ((ys : List A) → F s (get_or xs i d ∷ ys) ≡ a) → a ≡ r
  rest-stop {F} {xs} {r} {s} {i} {a} d v h e = sym (e (drop (suc i) xs)) ∙ (rw (drop-cons xs i d h) at v.rest)

  pub rest-done : {F : S → List A → R} {xs : List A} {r : R} {s : S} {i : ℕ} → Rest F xs r s i → length xs ≤ i → F s [] ≡ r
  rest-done {F} {xs} {r} {s} {i} v h = rw (drop_of_length-le xs h) at v.rest

-- numbers
pub num-more : (acc b v : ℕ) → digit_of acc b ≡ Some v → (ys : List ℕ) → num_from acc (b ∷ ys) ≡ num_from v ys
unfolding num_from
num-more acc b v e ys = rw e refl

pub num-bad : (acc b : ℕ) → digit_of acc b ≡ None → (ys : List ℕ) → num_from acc (b ∷ ys) ≡ None
unfolding num_from
num-bad acc b e ys = rw e refl

pub num-end : (acc : ℕ) → num_from acc [] ≡ Some acc
unfolding num_from
num-end acc = refl

pub num-of : (s : List ℕ) → 0 < length s → num_from 0 s ≡ num_of s
unfolding num_of
num-of [] h = absurd (omega arith)
num-of (b ∷ s) h = refl

pub num-none : (s : List ℕ) → length s ≡ 0 → None ≡ num_of s
unfolding num_of
num-none [] h = refl
num-none (b ∷ s) h = absurd (omega arith)

-- equal bytes: what == of slices says
pub eq_is : (s t : List ℕ) → bytes_eq s t ≡ eq_bytes s t
unfolding eq_bytes
eq_is [] [] = refl
eq_is [] (b ∷ t) = refl
eq_is (a ∷ s) [] = refl
eq_is (a ∷ s) (b ∷ t) = rw (eq_is s t) refl

-- bytes put
pub emits-more : (k k' : Ink) (b : ℕ) → k' ≡ emit k b → (ys : List ℕ) → emits k (b ∷ ys) ≡ emits k' ys
unfolding emits
emits-more k k' b e ys = rw e refl

pub emits-end : (k : Ink) → emits k [] ≡ k
unfolding emits
emits-end k = refl

pub emits-append : (k : Ink) (s t : List ℕ) → emits k (s ++ t) ≡ emits (emits k s) t
unfolding emits
emits-append k [] t = refl
emits-append k (b ∷ s) t = emits-append (emit k b) s t

pub emits-all : (k : Ink) (ss : List (List ℕ)) → emits_all k ss ≡ emits k (joined ss)
unfolding emits joined
emits-all k [] = refl
emits-all k (s ∷ ss) = emits-all (emits k s) ss ∙ sym (emits-append k s (joined ss))

-- so a text in parts is written part by part
pub emits-parts : {r : Ink} (k : Ink) (ss : List (List ℕ)) → r ≡ emits_all k ss → r ≡ emits k (joined ss)
emits-parts k ss e = e ∙ emits-all k ss

-- one more text behind what is written already
pub emits_then : {r k k₀ : Ink} {s s₀ : List ℕ} → k ≡ k₀ → s ≡ s₀ → r ≡ emits k s → r ≡ emits k₀ s₀
emits_then e f g = g ∙ cc (e, f)

pick-length : (t : Bool) (x k : Ink) → length x.buf ≡ length k.buf → length (pick t x k).buf ≡ length k.buf
pick-length true x k e = e
pick-length false x k e = refl

pub emit-length : (k : Ink) (b : ℕ) → length (emit k b).buf ≡ length k.buf
unfolding emit
emit-length k b = pick-length (ltb k.at (length k.buf)) (ink (set k.buf k.at b) (k.at + 1)) k (length-set k.buf k.at b)

pub emits-length : (k : Ink) (s : List ℕ) → length (emits k s).buf ≡ length k.buf
unfolding emits
emits-length k [] = refl
emits-length k (b ∷ s) = emits-length (emit k b) s ∙ emit-length k b

ten-pos : (k : ℕ) → 0 < 10 ^ k
ten-pos zero = omega arith
ten-pos (suc k) = let h = ten-pos k in rw pow-suc (omega arith)

-- decimal digits: what io::decimal writes is what decimal says
pub dec-digits : (k f n : ℕ) (rest : List ℕ) → k ≤ f → IsDigitCount 10 1 n k → last_digits 10 k n ++ rest ≡ dec_from f n rest
unfolding dec_from
dec-digits zero f n rest h w = let q = w.0 in absurd (omega arith)
dec-digits (suc k) zero n rest h w = absurd (omega arith)
dec-digits (suc zero) (suc f) n rest h w =
    let q : n < 10 = w.1 in
    let e : n % 10 ≡ n = omega arith in
    rw (e, lt-ltb n 10 q) refl
dec-digits (suc (suc k)) (suc f) n rest h w =
    let d : suc (suc k) - 1 ≡ suc k = omega arith in
    let p : 10 ^ suc k ≤ n = rw d at (w.2 (omega arith)) in
    let q : 10 ^ k * 10 ≤ n = rw pow-suc at p in
    let o : n < 10 ^ suc k * 10 = rw (pow-suc 10 (suc k)) at w.1 in
    let u : 0 < 10 ^ k = ten-pos k in
    let e : 10 ≤ n = omega arith in
    let m : n % 10 < 10 = omega arith in
    let g : suc k - 1 ≡ k = omega arith in
    let x : 10 ^ k ≤ n / 10 = omega arith in
    let y : n / 10 < 10 ^ suc k = omega arith in
    let z : IsDigitCount 10 1 (n / 10) (suc k) = (omega arith, y, λ _. rw g x) in
    rw (append_assoc, le-ltb n 10 e, lt-ltb (n % 10) 10 m) (dec-digits (suc k) f (n / 10) ((48 + n % 10) ∷ rest) (omega arith) z)

few-20 : (n k : ℕ) → n < 18446744073709551616 → IsDigitCount 10 1 n k → k ≤ 20
few-20 n k h w =
    by_cases (leb k 20) (λ e. leb-true k 20 e)
    (λ e. let g : 20 < k = leb-false k 20 e in
    let p : 10 ^ (k - 1) ≤ n = w.2 (omega arith) in
    let z : 0 < 10 = omega arith in
    let y : 20 ≤ k - 1 = omega arith in
    let q : 10 ^ 20 ≤ 10 ^ (k - 1) = pow-le-pow_right z y in
    absurd (omega arith))

pub dec-of : (n k : ℕ) (t : List ℕ) → n < 18446744073709551616 → IsDigitCount 10 1 n k → t ≡ last_digits 10 k n → t ≡ decimal n
unfolding decimal
dec-of n k t h w e = e ∙ sym (append-nil (last_digits 10 k n)) ∙ dec-digits k 20 n [] (few-20 n k h w) w
