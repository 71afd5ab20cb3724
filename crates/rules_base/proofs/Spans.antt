-- Where the search goes down. Assumes nothing.
use mathlib.Core.Path.{◌≡◌, refl, sym, ap, ◌∙◌}
use mathlib.Core.Bool.{Bool, true, false, ◌&&◌}
use mathlib.Core.List.{List, [], ◌∷◌}
use Prim.Native.Nat.{ℕ, zero, suc, ◌+◌, ◌*◌, ◌^◌, ◌≤◌, ◌<◌}
use native.Mathlib.Nat.{mul-suc}
use native.Mathlib.Numerals.{add-one}
use native.Mathlib.Decide.{ℕ_discrete}
use native.Mathlib.Omega.{arith}
use borrow.Author.Tests.{ltb-true, ltb-false, leb-true, eqb-true, ne_eqb}
use lib.Dec.{eqb, ltb}
use lib.ListN.{get_or}
use Rattle.laws_words.specs.Tests.{by_cases, clash, and_left, and_right}
use Rattle.rules_base.specs.Summary.{is_dirty, size, is_place, lit}
use Rattle.rules_base.proofs.Places.{is_below, no_chunk, lit-chunk, lit-none}
use Rattle.rules_base.specs.Search.{opens}

-- how many chunks stand under a place
pub span-at : (l : ℕ) → l < 4 → get_or (1 ∷ 16 ∷ 256 ∷ 4096 ∷ []) l 0 ≡ 16 ^ l
span-at zero h = refl
span-at (suc zero) h = refl
span-at (suc (suc zero)) h = refl
span-at (suc (suc (suc zero))) h = refl
span-at (suc (suc (suc (suc l)))) h = absurd (let z : ⊥ = omega arith in z)

-- all that stands under a place is in the row
pub span_fits : (l i : ℕ) → i < size l → 16 ^ l * (i + 1) ≤ 4096
unfolding size
span_fits zero i h = omega arith
span_fits (suc zero) i h = omega arith
span_fits (suc (suc zero)) i h = omega arith
span_fits (suc (suc (suc zero))) i h = omega arith
span_fits (suc (suc (suc (suc l)))) i h = absurd (let z : ⊥ = omega arith in z)

-- a chunk that is dirty is one of the row
dirty-low : (xs : List ℕ) (m c : ℕ) → is_dirty xs m c ≡ true → c < 4096
dirty-low xs m c e = by_cases (ltb c 4096) (λ q. ltb-true c 4096 q) (λ q. clash e (no_chunk xs m c (ltb-false c 4096 q)))

-- a marked place is there
pub lit-low : (ws xs : List ℕ) (m l i : ℕ) → lit ws xs m l i ≡ true → i < size l
lit-low ws xs m l i e = elim (ℕ_discrete l 0) [
  | yes p ↦ rw p (unfold size in dirty-low xs m i (sym (lit-chunk ws xs m l i p) ∙ e))
  | no d ↦ by_cases (is_place m l i) (λ q. is_below m l i q) (λ q. clash e (lit-none ws xs m l i d q))
]
