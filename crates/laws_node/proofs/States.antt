-- Laws of the kept chunks: sixteen numbers are their sixteen places.
use mathlib.Core.Path.{◌≡◌, refl, sym, ap}
use mathlib.Core.List.{List, [], ◌∷◌, ◌++◌}
use Prim.Native.Nat.{ℕ, zero, suc}
use native.Mathlib.Omega.{arith}
use lib.ListN.{length, get_or, drop}

-- f 0, f 1, .., n of them
abbrev listed : ℕ → (ℕ → ℕ) → List ℕ
listed zero f = []
listed (suc n) f = f 0 ∷ listed n (λ i. f (suc i))

places : (n : ℕ) (k : List ℕ) → length k ≡ n → k ≡ listed n (λ i. get_or k i 0)
places zero [] h = refl
places zero (x ∷ k) h = absurd (let z : ⊥ = omega arith in z)
places (suc n) [] h = absurd (let z : ⊥ = omega arith in z)
places (suc n) (x ∷ k) h = ap (λ l. x ∷ l) (places n k (omega arith))

pub shifted-places : (k : List ℕ) (c : ℕ) → length k ≡ 16 → drop 1 (listed 16 (λ i. get_or k i 0)) ++ (c ∷ []) ≡ drop 1 k ++ (c ∷ [])
shifted-places k c h = ap (λ l. drop 1 l ++ (c ∷ [])) (sym (places 16 k h))
