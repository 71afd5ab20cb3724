-- The lowest number that passes a test, once it is found. Assumes nothing.
use mathlib.Core.Path.{◌≡◌, sym}
use mathlib.Core.Bool.{Bool, true}
use Prim.Native.Nat.{ℕ, zero, suc, ◌<◌}
use native.Mathlib.Omega.{arith}
use lib.Dec.{eqb}
use borrow.Author.Tests.{eqb-true, eqb-false, ne_eqb}
use Rattle.laws_words.specs.Tests.{by_cases, and-false}
use Rattle.rules_base.specs.Sets.{lowest_to}

-- no number below i passes and i does: i is the lowest of any more
found : (p : ℕ → Bool) (i n : ℕ) → i < 16 → i < n → 16 ≡ lowest_to p i → p i ≡ true → lowest_to p n ≡ i
found p i zero h l e t = absurd (omega arith)
found p i (suc n) h l e t =
    by_cases (eqb i n)
    (λ q. let s : i ≡ n = eqb-true i n q in rw (← s, t, sym e))
    (λ q. let d : i ≡ n → ⊥ = eqb-false i n q in rw (found p i n h (omega arith) e t, ne_eqb i 16 (λ r. omega arith), and-false))

pub lowest_found : (p : ℕ → Bool) (i : ℕ) → i < 16 → 16 ≡ lowest_to p i → p i ≡ true → i ≡ lowest_to p 16
lowest_found p i h e t = sym (found p i 16 h h e t)
