-- The tests of an event and its demands, one by one.
use mathlib.Core.Path.{◌≡◌, refl, sym, ap, ◌∙◌}
use mathlib.Core.Logic.{◌≢◌, inl, inr, ◌↔◌}
use mathlib.Core.Bool.{Bool, true, false}
use mathlib.Core.List.{List, [], ◌∷◌}
use Prim.Native.Nat.{ℕ}
use native.Mathlib.Decide.{ℕ_discrete}
use lib.Dec.{eqb}
use borrow.Author.Tests.{eqb-false}
use Rattle.laws_words.specs.Words.{pick}
use Rattle.laws_words.specs.Tests.{clash, by_cases, passed}
use Rattle.rules_base.specs.Refusals.{Test, test}
use Rattle.rules_pool.specs.declared.Answer.{Answer}
use Rattle.rules_pool.specs.Breaking.{is_accepted}
use Rattle.theorem_client_exact.specs.Words.{Accepted}
use Rattle.theorem_client_exact.specs.Accepted.{Demand, ◌else◌, All, FirstBroken}
use Rattle.theorem_client_exact.proofs.Tells.{Fits}

-- a test and a demand of one number
pub record Pair (t : Test) (d : Demand) : Type 0 where
  pub fits : Fits t.holds d.holds
  pub same : t.number ≡ d.number
  pub some : t.number ≢ 0

pub pair : (n : ℕ) {b : Bool} {h : Type 0} → eqb n 0 ≡ false → Fits b h → Pair (test n b) (h else n)
pair n e f = record { fits = f; same = refl; some = eqb-false n 0 e }

abbrev pub Pairs : List Test → List Demand → Type 0
Pairs [] [] = Unit
Pairs [] (d ∷ ds) = ⊥
Pairs (t ∷ ts) [] = ⊥
Pairs (t ∷ ts) (d ∷ ds) = Pair t d × Pairs ts ds

-- the number of the first test that holds, in the order of the list; 0 where none does
abbrev pub first_in : List Test → ℕ
first_in [] = 0
first_in (t ∷ ts) = pick t.holds t.number (first_in ts)

all_from : (ts : List Test) (ds : List Demand) → Pairs ts ds → first_in ts ≡ 0 → All ds
all_from [] [] p e = tt
all_from [] (d ∷ ds) p e = absurd p
all_from (t ∷ ts) [] p e = absurd p
all_from (t ∷ ts) (d ∷ ds) (p, ps) e = let q = passed t.holds t.number (first_in ts) p.some e in (p.fits.holds q.0, all_from ts ds ps q.1)

none_from : (ts : List Test) (ds : List Demand) → Pairs ts ds → All ds → first_in ts ≡ 0
none_from [] [] p h = refl
none_from [] (d ∷ ds) p h = absurd p
none_from (t ∷ ts) [] p h = absurd p
none_from (t ∷ ts) (d ∷ ds) (p, ps) (h, hs) = by_cases t.holds (λ e. absurd (p.fits.breaks e h)) (λ e. rw e (none_from ts ds ps hs))

first-from : (ts : List Test) (ds : List Demand) (n : ℕ) → Pairs ts ds → n ≢ 0 → first_in ts ≡ n → FirstBroken ds n
first-from [] [] n p z e = z (sym e)
first-from [] (d ∷ ds) n p z e = absurd p
first-from (t ∷ ts) [] n p z e = absurd p
first-from (t ∷ ts) (d ∷ ds) n (p, ps) z e = at t.holds refl e (first-from ts ds n ps z)
  where
    at : (b : Bool) → t.holds ≡ b → pick b t.number (first_in ts) ≡ n → (first_in ts ≡ n → FirstBroken ds n) → FirstBroken (d ∷ ds) n
    at true q e rec = inl (p.fits.breaks q, sym e ∙ p.same)
    at false q e rec = inr (p.fits.holds q, rec e)

first_to : (ts : List Test) (ds : List Demand) (n : ℕ) → Pairs ts ds → FirstBroken ds n → (first_in ts ≡ n) × (n ≢ 0)
first_to [] [] n p b = absurd b
first_to [] (d ∷ ds) n p b = absurd p
first_to (t ∷ ts) [] n p b = absurd p
first_to (t ∷ ts) (d ∷ ds) n (p, ps) (inl (fails, e)) = by_cases t.holds
    (λ q. (rw q (p.same ∙ sym e), λ z. p.some (p.same ∙ (sym e ∙ z))))
    (λ q. absurd (fails (p.fits.holds q)))
first_to (t ∷ ts) (d ∷ ds) n (p, ps) (inr (h, b)) = by_cases t.holds
    (λ q. absurd (p.fits.breaks q h))
    (λ q. let r = first_to ts ds n ps b in (rw q r.0, r.1))

-- an answer that is a refusal by n, or none where n is 0
pub record Shaped (a : Answer) (n : ℕ) : Type 0 where
  pub taken : n ≡ 0 → Accepted a
  pub refused : n ≢ 0 → a ≡ Answer.Refused n

pub accepted-is : (a : Answer) → is_accepted a ≡ true → Accepted a
accepted-is (Answer.Refused n) e = clash e refl
accepted-is (Answer.Done s) e = record { sent = s; is = refl }

pub is-accepted : {a : Answer} → Accepted a → is_accepted a ≡ true
is-accepted x = ap is_accepted x.is

pub accepted-by : {a : Answer} {n : ℕ} (ts : List Test) (ds : List Demand) → Shaped a n → n ≡ first_in ts → Pairs ts ds → Accepted a ↔ All ds
accepted-by {a} {n} ts ds s q p = (to (ℕ_discrete n 0), λ h. s.taken (q ∙ none_from ts ds p h))
  where
    to : Dec (n ≡ 0) → Accepted a → All ds
    to (yes e) x = all_from ts ds p (sym q ∙ e)
    to (no d) x = clash (is-accepted x) (ap is_accepted (s.refused d))

pub number_by : {a : Answer} {n : ℕ} (ts : List Test) (ds : List Demand) → Shaped a n → n ≡ first_in ts → Pairs ts ds → (k : ℕ) → (a ≡ Answer.Refused k) ↔ FirstBroken ds k
number_by {a} {n} ts ds s q p k = (to (ℕ_discrete n 0), from)
  where
    to : Dec (n ≡ 0) → a ≡ Answer.Refused k → FirstBroken ds k
    to (yes e) x = clash (is-accepted (s.taken e)) (ap is_accepted x)
    to (no d) x = let z : n ≡ k = cc (s.refused d, x) in first-from ts ds k p (λ y. d (z ∙ y)) (sym q ∙ z)

    from : FirstBroken ds k → a ≡ Answer.Refused k
    from b = let r = first_to ts ds k p b in let z : n ≡ k = q ∙ r.0 in s.refused (λ y. r.1 (sym z ∙ y)) ∙ ap Answer.Refused z
