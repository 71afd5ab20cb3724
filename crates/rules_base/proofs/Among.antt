-- Laws of the search: the loop over the sixteen places below, and what is found by cases. Assumes nothing.
use Rattle.std.specs.Prelude.{Option, Some, None}
use mathlib.Core.Path.{◌≡◌, refl, sym, ap, ◌∙◌}
use mathlib.Core.Bool.{Bool, true, false, ◌&&◌}
use mathlib.Core.List.{List}
use Prim.Native.Nat.{ℕ, zero, suc, ◌+◌, ◌-◌, ◌*◌, ◌^◌, ◌≤◌, ◌<◌}
use native.Mathlib.Nat.{add-zero, zero-add, sub-zero, add_assoc, suc-mul, pow-suc, pow-le-pow_right}
use native.Mathlib.Numerals.{add-one, sub-one}
use native.Mathlib.Omega.{arith}
use lib.Dec.{ltb}
use Rattle.laws_words.specs.Words.{pick}
use Rattle.laws_words.specs.Tests.{picked, and_left}
use Rattle.rules_base.specs.Summary.{size, lit}
use Rattle.rules_base.specs.declared.Sought.{Sought}
use Rattle.rules_base.specs.Search.{sought, plus, or_else, among, opens, searched}
use Rattle.rules_base.proofs.Places.{size_low, size-most}
use Rattle.rules_base.proofs.Spans.{lit-low}

-- ---- the loop: v looks so far, and then those at the places from a + k on; s is what is found at the first of these
pub among-hit : (f : ℕ → Sought) (a n k c v : ℕ) (s : Sought) → k < n → s ≡ f (a + k) → s.found ≡ Some c → plus v (among f (a + k) (n - k)) ≡ sought (Some c) (v + s.looked)
unfolding among
among-hit f a n k c v s h e g = let q : n - k ≡ suc (n - (k + 1)) = omega arith in rw (q, ← e, g)

pub among-miss : (f : ℕ → Sought) (a n k v : ℕ) (s : Sought) → k < n → s ≡ f (a + k) → s.found ≡ None → plus v (among f (a + k) (n - k)) ≡ plus (v + s.looked) (among f (a + (k + 1)) (n - (k + 1)))
unfolding among
among-miss f a n k v s h e g =
    let q : n - k ≡ suc (n - (k + 1)) = omega arith in
    let p : a + (k + 1) ≡ suc (a + k) = omega arith in
    rw (q, ← e, g, p, add_assoc v s.looked (among f (suc (a + k)) (n - (k + 1))).looked)

pub among-end : (f : ℕ → Sought) (a n k v : ℕ) → n ≤ k → plus v (among f (a + k) (n - k)) ≡ sought None v
unfolding among
among-end f a n k v h = let q : n - k ≡ 0 = omega arith in rw (q, add-zero v)

pub among-start : (f : ℕ → Sought) (a n v : ℕ) → plus v (among f (a + 0) (n - 0)) ≡ plus v (among f a n)
among-start f a n v = rw (add-zero, sub-zero)

-- ---- what the search finds, by cases
module _ (ws xs : List ℕ) (m start : ℕ) where
  pub search-shut : (l i : ℕ) → opens ws xs m start l i ≡ false → searched ws xs m start l i ≡ sought None 1
  unfolding searched
  search-shut zero i e = rw e
  search-shut (suc l) i e = rw e

  pub search-leaf : (l i : ℕ) → opens ws xs m start l i ≡ true → l ≡ 0 → searched ws xs m start l i ≡ sought (Some i) 1
  unfolding searched
  search-leaf l i e q = rw q (rw (rw q at e))

  pub search-suc : (l i : ℕ) → opens ws xs m start (suc l) i ≡ true → searched ws xs m start (suc l) i ≡ plus 1 (among (searched ws xs m start l) (16 * i) 16)
  unfolding searched
  search-suc l i e = rw e

  pub search-down : (l i : ℕ) → opens ws xs m start l i ≡ true → (l ≡ 0 → ⊥) → searched ws xs m start l i ≡ plus 1 (among (searched ws xs m start (l - 1)) (16 * i) 16)
  search-down zero i e d = absurd (d refl)
  search-down (suc l) i e d = rw (sub-one (suc l)) (search-suc l i e)

  pub opens-lit : (l i : ℕ) → opens ws xs m start l i ≡ true → lit ws xs m l i ≡ true
  unfolding opens
  opens-lit l i e = and_left (lit ws xs m l i) (ltb start (16 ^ l * (i + 1))) e

  pub opens-level : (l i : ℕ) → opens ws xs m start l i ≡ true → l < 4
  opens-level l i e = size_low l i (lit-low ws xs m l i (opens-lit l i e))

  pub opens-low : (l i : ℕ) → opens ws xs m start l i ≡ true → i < 4096
  opens-low l i e = size-most l i (lit-low ws xs m l i (opens-lit l i e))

  pub lit-shut : (l i : ℕ) → lit ws xs m l i ≡ false → opens ws xs m start l i ≡ false
  unfolding opens
  lit-shut l i e = rw e

-- ---- however the words are, the looks are no more than the places: so no count of them wraps
pub or_else-most : (x : Option ℕ) (v : ℕ) (s : Sought) → (or_else x v s).looked ≤ v + s.looked
or_else-most (Some c) v s = omega arith
or_else-most None v s = omega arith

among-most : (f : ℕ → Sought) (a n w : ℕ) → ((k : ℕ) → (f k).looked ≤ w) → (among f a n).looked ≤ n * w
unfolding among
among-most f a zero w h = omega arith
among-most f a (suc n) w h =
    let q : suc n * w ≡ n * w + w = suc-mul n w in
    omega (arith, or_else-most (f a).found (f a).looked (among f (suc a) n), among-most f (suc a) n w h, h a)

pub looked-most : (ws xs : List ℕ) (m start l i : ℕ) → (searched ws xs m start l i).looked ≤ 17 ^ l
unfolding searched
looked-most ws xs m start zero i = omega arith
looked-most ws xs m start (suc l) i =
    let p : 1 ≤ 17 ^ l = pow-le-pow_right {n = 17} (omega arith) {i = 0} {j = l} (omega arith) in
    let q : 17 ^ suc l ≡ 17 ^ l * 17 = pow-suc 17 l in
    let r = among-most (searched ws xs m start l) (16 * i) 16 (17 ^ l) (looked-most ws xs m start l) in
    picked (λ s. s.looked ≤ 17 ^ suc l) (opens ws xs m start (suc l) i) (plus 1 (among (searched ws xs m start l) (16 * i) 16)) (sought None 1) (λ e. omega arith) (λ e. omega arith)

looked-low : (ws xs : List ℕ) (m start l i : ℕ) → l < 4 → (searched ws xs m start l i).looked ≤ 4913
looked-low ws xs m start l i h = let p : 17 ^ l ≤ 17 ^ 3 = pow-le-pow_right {n = 17} (omega arith) {i = l} {j = 3} (omega arith) in omega (arith, looked-most ws xs m start l i)

pub below-low : (ws xs : List ℕ) (m start l i j : ℕ) (s : Sought) → opens ws xs m start l i ≡ true → s ≡ searched ws xs m start (l - 1) j → s.looked ≤ 4913
below-low ws xs m start l i j s e q = rw q (looked-low ws xs m start (l - 1) j (omega (arith, opens-level ws xs m start l i e)))
