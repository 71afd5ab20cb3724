-- What an empty row says of its chunks, and what the set of those that are not empty holds.
use mathlib.Core.Path.{◌≡◌, refl, ◌∙◌}
use mathlib.Core.Bool.{Bool, true, false, not}
use mathlib.Core.List.{List}
use mathlib.Core.Logic.{◌≢◌}
use Prim.Native.Nat.{ℕ, zero, suc, ◌<◌, ◌≤◌}
use native.Mathlib.Decide.{ℕ_discrete}
use native.Mathlib.Omega.{arith}
use lib.Dec.{eqb}
use borrow.Author.Tests.{eqb-true, eq-eqb}
use Rattle.laws_words.specs.Words.{pick}
use Rattle.rules_base.specs.Sets.{has, with}
use Rattle.rules_base.proofs.Sets.{has-none, has-with-same, has-with-other}
use Rattle.rules_base.specs.Chunk.{dirty, count_to, count}
use Rattle.rules_base.specs.Empty.{row_empty, full_to}

-- no dirty chunk is counted below n
none-to : (xs : List ℕ) (m n : ℕ) → count_to xs m n ≡ 0 → (k : ℕ) → k < n → dirty xs m k ≡ 0
unfolding count_to
none-to xs m zero e k h = absurd (let z : ⊥ = omega arith in z)
none-to xs m (suc n) e k h = at (ℕ_discrete k n) (none-to xs m n (omega (arith, e)) k)
  where
    at : Dec (k ≡ n) → (k < n → dirty xs m k ≡ 0) → dirty xs m k ≡ 0
    at (yes p) f = rw p (omega (arith, e))
    at (no p) f = f (omega arith)

all-to : (xs : List ℕ) (m n : ℕ) → ((k : ℕ) → k < n → dirty xs m k ≡ 0) → count_to xs m n ≡ 0
unfolding count_to
all-to xs m zero f = refl
all-to xs m (suc n) f = omega (arith, all-to xs m n (λ k h. f k (omega arith)), f n (omega arith))

-- an empty row has no dirty chunk
pub empty-clean : (xs : List ℕ) (m : ℕ) → row_empty xs m ≡ true → (k : ℕ) → k < 4096 → dirty xs m k ≡ 0
unfolding count
empty-clean xs m e = none-to xs m 4096 (eqb-true (count xs m) 0 e)

-- and one without is empty
pub clean-empty : (xs : List ℕ) (m : ℕ) → ((k : ℕ) → k < 4096 → dirty xs m k ≡ 0) → row_empty xs m ≡ true
unfolding count
clean-empty xs m f = eq-eqb (count xs m) 0 (all-to xs m 4096 f)

-- nobody at n or above is in it yet
above : (xs : List ℕ) (n j : ℕ) → n ≤ j → has (full_to xs n) j ≡ false
unfolding full_to
above xs zero j h = has-none j
above xs (suc n) j h = at (row_empty xs n) (above xs n j (omega arith))
  where
    at : (b : Bool) → has (full_to xs n) j ≡ false → has (pick b (full_to xs n) (with (full_to xs n) n)) j ≡ false
    at true e = e
    at false e = has-with-other (full_to xs n) n j (let d : j ≢ n = omega arith in d) ∙ e

below : (xs : List ℕ) (n j : ℕ) → n ≤ 16 → j < n → has (full_to xs n) j ≡ not (row_empty xs j)
unfolding full_to
below xs zero j h l = absurd (let z : ⊥ = omega arith in z)
below xs (suc n) j h l = at (row_empty xs n) refl (ℕ_discrete j n) (below xs n j (omega arith))
  where
    at : (b : Bool) → row_empty xs n ≡ b → Dec (j ≡ n) → (j < n → has (full_to xs n) j ≡ not (row_empty xs j))
        → has (pick b (full_to xs n) (with (full_to xs n) n)) j ≡ not (row_empty xs j)
    at true e (yes p) f = rw (p, e) (above xs n n (omega arith))
    at false e (yes p) f = rw (p, e) (has-with-same (full_to xs n) n (omega arith))
    at true e (no p) f = f (omega arith)
    at false e (no p) f = has-with-other (full_to xs n) n j p ∙ f (omega arith)

pub full-has : (xs : List ℕ) (j : ℕ) → j < 16 → has (full_to xs 16) j ≡ not (row_empty xs j)
full-has xs j h = below xs 16 j (omega arith) h
