-- Lists that are the same so far.
use mathlib.Core.Path.{◌≡◌, refl, sym, ◌∙◌}
use mathlib.Core.Bool.{Bool, true, false}
use mathlib.Core.List.{List}
use Prim.Native.Nat.{ℕ, zero, suc, ◌≤◌}
use native.Mathlib.Nat.{le_of_lt}
use native.Mathlib.Omega.{arith}
use lib.Dec.{eqb}
use lib.ListN.{length, get_or, take}
use lib.Seq.{take-suc, take_all}
use borrow.Author.Tests.{eq-eqb, eqb-true}
use Rattle.std.specs.Cmp.Lexicographic.{pointwise}
use Rattle.std.proofs.lemmas.Bool.Decides.{same_from_decides, Decides-eqb}
use Rattle.std.proofs.lemmas.Slice.Eq.{slice_eq-Decides}
use Rattle.laws_words.specs.Tests.{and_left, and_right}
use Rattle.laws_words.specs.Words.{one}
use Rattle.event_words.specs.Same.{same_to}

pub same_refl : (xs : List ℕ) (n : ℕ) → same_to xs xs n ≡ true
unfolding same_to
same_refl xs zero = refl
same_refl xs (suc n) = rw (same_refl xs n, eq-eqb (get_or xs n 0) (get_or xs n 0) refl)

same-take : (xs ys : List ℕ) (n : ℕ) → n ≤ length xs → n ≤ length ys → same_to xs ys n ≡ true → take n xs ≡ take n ys
unfolding same_to
same-take xs ys zero g h e = refl
same-take xs ys (suc n) g h e =
    rw (take-suc xs n 0 g, take-suc ys n 0 h, same-take xs ys n (le_of_lt g) (le_of_lt h) (and_left (same_to xs ys n) _ e), eqb-true (get_or xs n 0) (get_or ys n 0) (and_right (same_to xs ys n) _ e))

-- as long as both are, they are equal
pub same-all : (xs ys : List ℕ) (n : ℕ) → length xs ≡ n → length ys ≡ n → same_to xs ys n ≡ true → ys ≡ xs
same-all xs ys n g h e =
    let g' : n ≤ length xs = omega (arith, g) in
    let h' : n ≤ length ys = omega (arith, h) in
    let t = same-take xs ys n g' h' e in
    let a : length xs ≤ n = omega (arith, g) in
    let b : length ys ≤ n = omega (arith, h) in
    sym (take_all n ys b) ∙ sym t ∙ take_all n xs a

-- what `==` of two arrays says
pub same_arrays : (xs ys : List ℕ) → length xs ≡ 32 → length ys ≡ 32 → pointwise eqb xs ys ≡ same_to xs ys 32
same_arrays xs ys g h =
    same_from_decides _ _ (slice_eq-Decides Decides-eqb xs ys _ refl) (λ e. sym (same-all xs ys 32 g h e), λ e. rw e (same_refl ys 32))

-- a flag, written as a number and read again
pub read_one : (b : Bool) → eqb (one b) 1 ≡ b
read_one true = refl
read_one false = refl
