-- What a refusal means: the first of the tests that applies, or that none does.
use mathlib.Core.Path.{◌≡◌, refl, sym, ap, ◌∙◌}
use mathlib.Core.Logic.{◌≢◌}
use mathlib.Core.Bool.{Bool, true, false, ◌||◌}
use mathlib.Core.List.{List, [], ◌∷◌}
use Prim.Native.Nat.{ℕ, zero, suc, ◌<◌}
use native.Mathlib.Omega.{arith}
use lib.Dec.{eqb}
use lib.ListN.{length, get_or}
use borrow.Author.Tests.{eqb-true, eq-eqb}
use Rattle.laws_words.specs.Words.{pick}
use Rattle.laws_words.specs.Tests.{by_cases, clash, passed}
use Rattle.rules_base.specs.Refusals.{Test, places, has_place, applies, first_of, refusal}
use Rattle.rules_base.specs.Order.{Given, SomeApplies, FirstApplies, NoneApplies}

-- ---- what it means that a number applies

or-last : (b c : Bool) → c ≡ true → (b || c) ≡ true
or-last true c e = refl
or-last false c e = e

applies-given : (n : ℕ) (ts : List Test) → applies n ts ≡ true → Given n ts
applies-given n [] e = clash e refl
applies-given n (t ∷ ts) e = at (eqb n t.number) refl e (applies-given n ts)
  where
    at : (b : Bool) → eqb n t.number ≡ b → pick b (applies n ts || t.holds) (applies n ts) ≡ true → (applies n ts ≡ true → Given n ts) → Given n (t ∷ ts)
    at true q e rec = by_cases (applies n ts) (λ h. Given.later (rec h)) (λ h. Given.here (sym (eqb-true n t.number q)) (rw h at e))
    at false q e rec = Given.later (rec e)

given-applies : {n : ℕ} {ts : List Test} → Given n ts → applies n ts ≡ true
given-applies {n} (Given.here {t} {ts} p q) = rw (eq-eqb n t.number (sym p)) (or-last (applies n ts) t.holds q)
given-applies {n} (Given.later {t} {ts} g) = at (eqb n t.number) (applies n ts) (given-applies g)
  where
    at : (b c : Bool) → c ≡ true → pick b (c || t.holds) c ≡ true
    at true c e = rw e refl
    at false c e = e

pub some-applies : SomeApplies
some-applies n ts = (applies-given n ts, given-applies)

-- ---- the first that applies

-- the same for any order of numbers
record FirstIn (ns : List ℕ) (ts : List Test) (n : ℕ) : Type 0 where
  place : ℕ
  listed : place < length ns
  number : get_or ns place 0 ≡ n
  given : applies n ts ≡ true
  before : (i : ℕ) → i < place → applies (get_or ns i 0) ts ≡ false

one_more : (k n : ℕ) (ns : List ℕ) (ts : List Test) (b : Bool) → applies k ts ≡ b → pick b k (first_of ns ts) ≡ n → (first_of ns ts ≡ n → FirstIn ns ts n) → FirstIn (k ∷ ns) ts n
one_more k n ns ts true a e rec =
    record {
      place = 0;
      listed = omega arith;
      number = e;
      given = ap (λ (m : ℕ). applies m ts) (sym e) ∙ a;
      before = λ i l. absurd (let z : ⊥ = omega arith in z);
    }
one_more k n ns ts false a e rec =
    let r = rec e in
    record { place = suc r.place; listed = omega (arith, r.listed); number = r.number; given = r.given; before = at r.place r.before }
  where
    at : (q : ℕ) → ((i : ℕ) → i < q → applies (get_or ns i 0) ts ≡ false) → (i : ℕ) → i < suc q → applies (get_or (k ∷ ns) i 0) ts ≡ false
    at q f zero l = a
    at q f (suc i) l = f i (omega arith)

first-in : (ns : List ℕ) (ts : List Test) (n : ℕ) → n ≢ 0 → first_of ns ts ≡ n → FirstIn ns ts n
first-in [] ts n d e = absurd (d (sym e))
first-in (k ∷ ns) ts n d e = one_more k n ns ts (applies k ts) refl e (first-in ns ts n d)

-- A refusal that was given is the first that applies.
pub first-applies : FirstApplies
first-applies ts d =
    let r = first-in places ts (refusal ts) d refl in
    record { place = r.place; listed = r.listed; number = r.number; given = r.given; before = r.before }

-- a list of numbers without 0
abbrev counted : List ℕ → Bool
counted [] = true
counted (zero ∷ ns) = false
counted (suc n ∷ ns) = counted ns

none_in : (ns : List ℕ) (ts : List Test) → counted ns ≡ true → first_of ns ts ≡ 0 → (n : ℕ) → has_place n ns ≡ true → applies n ts ≡ false
none_in [] ts h e n l = clash l refl
none_in (zero ∷ ns) ts h e n l = clash h refl
none_in (suc k ∷ ns) ts h e n l =
    let p = passed (applies (suc k) ts) (suc k) (first_of ns ts) (λ q. omega arith) e in
    at (eqb n (suc k)) refl l p.0 (none_in ns ts h p.1 n)
  where
    at : (b : Bool) → eqb n (suc k) ≡ b → (b || has_place n ns) ≡ true → applies (suc k) ts ≡ false → (has_place n ns ≡ true → applies n ts ≡ false) → applies n ts ≡ false
    at true q l here rec = rw (eqb-true n (suc k) q) here
    at false q l here rec = rec l

-- Where none was given, none applies: whoever names a number with a place gives `refl` for it.
pub none-applies : NoneApplies
none-applies ts e n l = none_in places ts refl e n l

-- Two values that are both what a contract names are equal.
pub one_only : {A : Type 0} (spec a b : A) → a ≡ spec → b ≡ spec → a ≡ b
one_only spec a b p q = p ∙ sym q
