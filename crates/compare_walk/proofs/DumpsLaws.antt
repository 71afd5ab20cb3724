-- The laws of specs/Laws.antt. Assumes nothing.
use mathlib.Core.Path.{◌≡◌, refl, sym}
use mathlib.Core.Bool.{Bool, true, false, not, ◌||◌}
use mathlib.Core.List.{List}
use mathlib.Core.Logic.{⊎_elim, inl, inr}
use Prim.Native.Nat.{ℕ, ◌*◌, ◌≤◌, ◌<◌}
use native.Mathlib.Omega.{arith}
use lib.Dec.{eqb, ltb}
use lib.ListN.{length, take, drop, length-take, length-drop}
use borrow.Author.Tests.{eq-eqb, ne_eqb, lt-ltb, le-ltb, eqb-true, eqb-false, ltb-true, ltb-false}
use Rattle.laws_words.specs.Tests.{by_cases, clash}
use Rattle.rules_base.specs.Map.{row_of}
use Rattle.compare_walk.specs.Dumps.{dumps_refusal, refused_by, dumps_taken, newer_row}
use Rattle.std.specs.Prelude.{Ok, Err}
use Rattle.std.specs.Result.{is_err}
use Rattle.compare_walk.specs.DumpsLaws.{Short, NoMember, Taken, Numbered, Empty, FromSecond, FromFirst, Whole}

or-true : (b : Bool) → (b || true) ≡ true
or-true true = refl
or-true false = refl

-- ---- refusals
pub short : Short
unfolding dumps_refusal
short xs ys m = ⊎_elim (λ h. rw (ne_eqb (length xs) 8192 h)) (λ h. rw (ne_eqb (length ys) 8192 h, or-true (not (eqb (length xs) 8192))))

pub no_member : NoMember
unfolding dumps_refusal
no_member xs ys m h g l = let k : 15 < m = omega arith in rw (eq-eqb (length xs) 8192 h, eq-eqb (length ys) 8192 g, lt-ltb 15 m k)

pub taken : Taken
unfolding dumps_refusal
taken xs ys m h g l = let k : m ≤ 15 = omega arith in rw (eq-eqb (length xs) 8192 h, eq-eqb (length ys) 8192 g, le-ltb 15 m k)

-- two dumps that are not refused
pub record Good (xs ys : List ℕ) (m : ℕ) : Type 0 where
  pub first : length xs ≡ 8192
  pub second : length ys ≡ 8192
  pub member : m < 16

-- a refusal other than 0 is not 0
no_zero : {A : Type 0} (n : ℕ) {r : ℕ} → 0 < n → r ≡ n → r ≡ 0 → A
no_zero n h p q = absurd (omega arith)

pub good : (xs ys : List ℕ) (m : ℕ) → dumps_refusal xs ys m ≡ 0 → Good xs ys m
good xs ys m e =
    by_cases (eqb (length xs) 8192)
    (λ a. by_cases (eqb (length ys) 8192)
    (λ b. let h = eqb-true (length xs) 8192 a in let g = eqb-true (length ys) 8192 b in
    by_cases (ltb m 16) (λ l. record { first = h; second = g; member = ltb-true m 16 l }) (λ l. no_zero 3 (omega arith) (no_member xs ys m h g (ltb-false m 16 l)) e))
    (λ b. no_zero 2 (omega arith) (short xs ys m (inr (eqb-false (length ys) 8192 b))) e))
    (λ a. no_zero 2 (omega arith) (short xs ys m (inl (eqb-false (length xs) 8192 a))) e)

-- ---- what is answered
pub taken-none : (xs ys : List ℕ) (m : ℕ) → dumps_refusal xs ys m ≡ 0 → dumps_taken xs ys m ≡ Ok tt
unfolding dumps_taken
taken-none xs ys m e = rw e refl

pub taken-no : (xs ys : List ℕ) (m n : ℕ) → (n ≡ 0 → ⊥) → dumps_refusal xs ys m ≡ n → dumps_taken xs ys m ≡ Err (refused_by n)
unfolding dumps_taken
taken-no xs ys m n h e = rw (e, ne_eqb n 0 h) refl

pub numbered : Numbered
numbered xs ys m =
    by_cases (eqb (length xs) 8192)
    (λ a. by_cases (eqb (length ys) 8192)
    (λ b. let h = eqb-true (length xs) 8192 a in let g = eqb-true (length ys) 8192 b in
    by_cases (ltb m 16)
    (λ l. let e = taken xs ys m h g (ltb-true m 16 l) in rw (taken-none xs ys m e, e) refl)
    (λ l. let e = no_member xs ys m h g (ltb-false m 16 l) in rw (taken-no xs ys m 3 (λ k. omega arith) e, e) refl))
    (λ b. let e = short xs ys m (inr (eqb-false (length ys) 8192 b)) in rw (taken-no xs ys m 2 (λ k. omega arith) e, e) refl))
    (λ a. let e = short xs ys m (inl (eqb-false (length xs) 8192 a)) in rw (taken-no xs ys m 2 (λ k. omega arith) e, e) refl)

-- what an answer says of the refusal
pub is-taken : (xs ys : List ℕ) (m : ℕ) (u : Unit {0}) → dumps_taken xs ys m ≡ Ok u → dumps_refusal xs ys m ≡ 0
is-taken xs ys m u e =
    by_cases (eqb (dumps_refusal xs ys m) 0)
    (λ a. eqb-true (dumps_refusal xs ys m) 0 a)
    (λ a. let t = taken-no xs ys m _ (eqb-false (dumps_refusal xs ys m) 0 a) refl in let z : ◌≡◌ {A = ℕ} 0 1 = cc in absurd (omega arith))

pub tells-none : (xs ys : List ℕ) (m : ℕ) → false ≡ is_err (dumps_taken xs ys m) → eqb (dumps_refusal xs ys m) 0 ≡ true
unfolding dumps_taken
tells-none xs ys m e = by_cases (eqb (dumps_refusal xs ys m) 0) (λ a. a) (λ a. let h : false ≡ true = rw a at e in clash refl (sym h))

pub tells-refused : (xs ys : List ℕ) (m : ℕ) → true ≡ is_err (dumps_taken xs ys m) → eqb (dumps_refusal xs ys m) 0 ≡ false
unfolding dumps_taken
tells-refused xs ys m e = by_cases (eqb (dumps_refusal xs ys m) 0) (λ a. let h : true ≡ false = rw a at e in clash refl h) (λ a. a)

-- ---- the newer row
pub empty : Empty
unfolding newer_row
empty xs ys v w m h = rw (ne_eqb (dumps_refusal xs ys m) 0 h)

-- a member's row of a dump of 8,192 bytes
row-there : (xs : List ℕ) (m : ℕ) → length xs ≡ 8192 → m < 16 → row_of xs m ≡ take 512 (drop (512 * m) xs)
unfolding row_of
row-there xs m h l = rw (eq-eqb (length xs) 8192 h, lt-ltb m 16 l)

row-length : (xs : List ℕ) (m : ℕ) → length xs ≡ 8192 → m < 16 → length (take 512 (drop (512 * m) xs)) ≡ 512
row-length xs m h l = rw (length-take 512 (drop (512 * m) xs), length-drop (512 * m) xs, h) (omega arith)

pub from_second : FromSecond
unfolding newer_row
from_second xs ys v w m e h = let g = good xs ys m e in rw (eq-eqb _ 0 e, lt-ltb v w h) (row-there ys m g.second g.member)

pub from_first : FromFirst
unfolding newer_row
from_first xs ys v w m e h = let g = good xs ys m e in rw (eq-eqb _ 0 e, le-ltb v w h) (row-there xs m g.first g.member)

pub whole : Whole
whole xs ys v w m e =
    let g = good xs ys m e in
    by_cases (ltb v w)
    (λ q. rw (from_second xs ys v w m e (ltb-true v w q)) (row-length ys m g.second g.member))
    (λ q. rw (from_first xs ys v w m e (ltb-false v w q)) (row-length xs m g.first g.member))
