-- The test of a part, byte by byte from its end on, is that of its definition. Assumes nothing.
use mathlib.Core.Path.{◌≡◌, refl}
use mathlib.Core.Bool.{Bool, ◌&&◌}
use mathlib.Core.List.{List, [], ◌∷◌}
use Prim.Native.Nat.{ℕ, zero, suc, ◌+◌, ◌/◌, ◌%◌, ◌^◌, ◌<◌}
use native.Mathlib.Nat.{add-zero, add-suc, suc-add}
use native.Mathlib.Omega.{arith}
use lib.Dec.{eqb}
use lib.ListN.{length, get_or, drop}
use Rattle.rules_base.specs.Map.{room, spare, clean_from}

-- byte k of a part at the offset has no bit past the chunk count
abbrev byte_ok : ℕ → ℕ → List ℕ → ℕ → Bool
byte_ok n offset part k = eqb (spare n (offset + k) (get_or part k 0)) 0

-- the bytes from i on are byte i and those after it
pub clean-more : (n offset : ℕ) (part : List ℕ) (i : ℕ) → i < length part → clean_from n (offset + i) (drop i part) ≡ (byte_ok n offset part i && clean_from n (offset + suc i) (drop (suc i) part))
unfolding clean_from
clean-more n offset [] i h = absurd (let z : ⊥ = omega arith in z)
clean-more n offset (x ∷ xs) zero h = rw (add-zero offset, add-suc offset 0, add-zero offset) refl
clean-more n offset (x ∷ xs) (suc i) h = rw (add-suc offset i, ← suc-add offset i, add-suc offset (suc i), ← suc-add offset (suc i)) (clean-more n (suc offset) xs i (omega arith))

-- past the end there is nothing
pub clean-none : (n k : ℕ) (part : List ℕ) → clean_from n k (drop (length part) part) ≡ clean_from n k []
unfolding clean_from
clean-none n k [] = refl
clean-none n k (x ∷ xs) = clean-none n k xs

-- what a byte holds past the chunk count hangs on its place in the row alone
pub spare-place : (n k j x : ℕ) → j ≡ k % 512 → x / 2 ^ room n j ≡ spare n k x
unfolding spare
spare-place n k j x e = rw e
