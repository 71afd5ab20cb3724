-- When a number is the first that applies: none before it does, and it does.
use mathlib.Core.Path.{◌≡◌, refl, sym, ap, ◌∙◌}
use mathlib.Core.Logic.{◌≢◌}
use mathlib.Core.Bool.{Bool, true, false, ◌||◌}
use mathlib.Core.List.{List, [], ◌∷◌, ◌++◌}
use Prim.Native.Nat.{ℕ}
use lib.Dec.{eqb}
use borrow.Author.Tests.{eqb-true, eqb-false}
use Rattle.laws_words.specs.Words.{pick}
use Rattle.laws_words.specs.Tests.{by_cases, clash}
use Rattle.rules_base.specs.Refusals.{Test, has_place, applies, first_of}
use Rattle.laws_node.proofs.Passed.{or-false}
use Rattle.theorem_node_exact.specs.Words.{Iff}

-- none of these numbers applies
abbrev pub NoneOf : List ℕ → List Test → Type 0
NoneOf [] ts = Unit {0}
NoneOf (k ∷ ks) ts = (applies k ts ≡ false) × NoneOf ks ts

pub none_of : (ks : List ℕ) (ts : List Test) (n : ℕ) → NoneOf ks ts → has_place n ks ≡ true → applies n ts ≡ false
none_of [] ts n u h = clash h refl
none_of (k ∷ ks) ts n (a, r) h = at (eqb n k) refl h (none_of ks ts n r)
  where
    at : (b : Bool) → eqb n k ≡ b → (b || has_place n ks) ≡ true → (has_place n ks ≡ true → applies n ts ≡ false) → applies n ts ≡ false
    at true q h rec = ap (λ (j : ℕ). applies j ts) (eqb-true n k q) ∙ a
    at false q h rec = rec h

not_there : (ks : List ℕ) (ts : List Test) (n : ℕ) → n ≢ 0 → has_place n ks ≡ false → first_of ks ts ≢ n
not_there [] ts n d h = λ q. d (sym q)
not_there (k ∷ ks) ts n d h = let p = or-false (eqb n k) (has_place n ks) h in at (applies k ts) (eqb-false n k p.0) (not_there ks ts n d p.1)
  where
    at : (b : Bool) → n ≢ k → first_of ks ts ≢ n → pick b k (first_of ks ts) ≢ n
    at true p r q = p (sym q)
    at false p r q = r q

-- a number that is listed once
pub first-iff : (before after : List ℕ) (n : ℕ) (ts : List Test) → n ≢ 0 → has_place n before ≡ false → has_place n after ≡ false
    → Iff (first_of (before ++ (n ∷ after)) ts ≡ n) (NoneOf before ts × (applies n ts ≡ true))
first-iff [] after n ts d h h' = (λ q. by_cases (applies n ts) (λ t. (tt, t)) (λ f. absurd (not_there after ts n d h' (rw f at q))), λ (u, t). rw t refl)
first-iff (k ∷ ks) after n ts d h h' =
    let p = or-false (eqb n k) (has_place n ks) h in
    at (applies k ts) refl (eqb-false n k p.0) (first-iff ks after n ts d p.1 h')
  where
    at : (b : Bool) → applies k ts ≡ b → n ≢ k → Iff (first_of (ks ++ (n ∷ after)) ts ≡ n) (NoneOf ks ts × (applies n ts ≡ true))
        → Iff (pick b k (first_of (ks ++ (n ∷ after)) ts) ≡ n) (((applies k ts ≡ false) × NoneOf ks ts) × (applies n ts ≡ true))
    at true e p i = (λ q. absurd (p (sym q)), λ ((f, r), t). clash e f)
    at false e p i = (λ q. let r = i.0 q in ((e, r.0), r.1), λ ((f, r), t). i.1 (r, t))
