-- What the set of clean members says: it holds exactly the ids for which the chunk is not dirty.
use mathlib.Core.Path.{◌≡◌, refl, ◌∙◌}
use mathlib.Core.Bool.{Bool, true, false, not}
use mathlib.Core.List.{List}
use mathlib.Core.Logic.{◌≢◌}
use Prim.Native.Nat.{ℕ, zero, suc, ◌<◌, ◌≤◌}
use native.Mathlib.Decide.{ℕ_discrete}
use native.Mathlib.Omega.{arith}
use lib.Dec.{eqb}
use Rattle.laws_words.specs.Words.{pick}
use Rattle.rules_base.specs.Sets.{has, with}
use Rattle.rules_base.proofs.Sets.{has-none, has-with-same, has-with-other}
use Rattle.rules_base.specs.Chunk.{dirty}
use Rattle.rules_client.specs.Client.{clean_to}

-- nobody at n or above is in it yet
above : (xs : List ℕ) (chunk n j : ℕ) → n ≤ j → has (clean_to xs chunk n) j ≡ false
unfolding clean_to
above xs chunk zero j h = has-none j
above xs chunk (suc n) j h = at (eqb (dirty xs n chunk) 1) (above xs chunk n j (omega arith))
  where
    at : (b : Bool) → has (clean_to xs chunk n) j ≡ false → has (pick b (clean_to xs chunk n) (with (clean_to xs chunk n) n)) j ≡ false
    at true e = e
    at false e = has-with-other (clean_to xs chunk n) n j (let d : j ≢ n = omega arith in d) ∙ e

below : (xs : List ℕ) (chunk n j : ℕ) → n ≤ 16 → j < n → has (clean_to xs chunk n) j ≡ not (eqb (dirty xs j chunk) 1)
unfolding clean_to
below xs chunk zero j h l = absurd (let z : ⊥ = omega arith in z)
below xs chunk (suc n) j h l = at (eqb (dirty xs n chunk) 1) refl (ℕ_discrete j n) (below xs chunk n j (omega arith))
  where
    at : (b : Bool) → eqb (dirty xs n chunk) 1 ≡ b → Dec (j ≡ n) → (j < n → has (clean_to xs chunk n) j ≡ not (eqb (dirty xs j chunk) 1))
        → has (pick b (clean_to xs chunk n) (with (clean_to xs chunk n) n)) j ≡ not (eqb (dirty xs j chunk) 1)
    at true e (yes p) f = rw (p, e) (above xs chunk n n (omega arith))
    at false e (yes p) f = rw (p, e) (has-with-same (clean_to xs chunk n) n (omega arith))
    at true e (no p) f = f (omega arith)
    at false e (no p) f = has-with-other (clean_to xs chunk n) n j p ∙ f (omega arith)

pub clean-has : (xs : List ℕ) (chunk j : ℕ) → j < 16 → has (clean_to xs chunk 16) j ≡ not (eqb (dirty xs j chunk) 1)
clean-has xs chunk j h = below xs chunk 16 j (omega arith) h
