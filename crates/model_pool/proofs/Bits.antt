-- What each change of a map does to a dirty bit: it stays dirty, or becomes so.
use mathlib.Core.Path.{◌≡◌, refl, sym}
use mathlib.Core.Bool.{Bool, true, false}
use mathlib.Core.List.{List}
use mathlib.Core.Logic.{◌≢◌}
use Prim.Native.Nat.{ℕ, ◌<◌}
use native.Mathlib.Omega.{arith}
use lib.Dec.{ltb}
use lib.ListN.{length}
use borrow.Author.Tests.{ltb-true}
use Rattle.laws_words.specs.Words.{pick, one}
use Rattle.laws_words.specs.Tests.{and_left, and_right}
use Rattle.rules_base.specs.Sets.{has}
use Rattle.rules_base.proofs.Sets.{has-below}
use Rattle.rules_base.specs.Chunk.{there, dirty, cleared, marked_for}
use Rattle.rules_base.proofs.Chunk.{dirty-lt}
use Rattle.rules_base.specs.Map.{zero_row, rows_kept, or_in}
use Rattle.rules_base.proofs.Chunks.{same-yes, same-no, hit-no, dirty-cleared, dirty-zero_row, dirty-or, dirty-marked_for, dirty-kept}
use Rattle.rules_base.specs.Fill.{row_filled}
use Rattle.rules_base.proofs.Fills.{dirty-filled}

-- a dirty bit is there
pub dirty-in : (xs : List ℕ) (n c : ℕ) → dirty xs n c ≡ 1 → (n < 16) × (c < 4096)
unfolding dirty
dirty-in xs n c = at (there n c) _ refl
  where
    at : (b : Bool) (x : ℕ) → there n c ≡ b → pick b x 0 ≡ 1 → (n < 16) × (c < 4096)
    at true x e h = (ltb-true n 16 (and_left (ltb n 16) (ltb c 4096) e), ltb-true c 4096 (and_right (ltb n 16) (ltb c 4096) e))
    at false x e h = absurd (let z : ⊥ = omega arith in z)

one-true : (b : Bool) → b ≡ true → one b ≡ 1
one-true b e = rw e refl

module _ (xs : List ℕ) (l : length xs ≡ 8192) (n c : ℕ) (h : dirty xs n c ≡ 1) where
  -- a row that is kept
  pub stays-kept : (set : ℕ) → has set n ≡ true → dirty (rows_kept set xs) n c ≡ 1
  stays-kept set e = let i = dirty-in xs n c h in let d = dirty-kept xs set n c l i.0 i.1 in let o = one-true (has set n) e in omega arith

  -- a row that is not the one zeroed
  pub stays-rows : (r : ℕ) → r < 16 → n ≢ r → dirty (zero_row r xs) n c ≡ 1
  stays-rows r b e = let i = dirty-in xs n c h in let d = dirty-zero_row xs r n c l b i.0 i.1 in let o = same-no r n (λ q. e (sym q)) in omega arith

  -- a bit that is not the one cleared
  pub stays-cleared : (r k : ℕ) → r < 16 → k < 4096 → (n ≡ r → c ≡ k → ⊥) → dirty (cleared xs r k) n c ≡ 1
  stays-cleared r k b d e = let i = dirty-in xs n c h in let q = dirty-cleared xs r k n c l b d i.0 i.1 in let o = hit-no r k n c (λ x y. e (sym x) (sym y)) in omega arith

  pub stays-marked : (set k : ℕ) → k < 4096 → dirty (marked_for xs set k) n c ≡ 1
  stays-marked set k b = let i = dirty-in xs n c h in let q = dirty-marked_for xs set k n c l i.0 b i.1 in let t = dirty-lt (marked_for xs set k) n c in omega arith

  pub stays-filled : (r k : ℕ) → r < 16 → dirty (row_filled r k xs) n c ≡ 1
  stays-filled r k b = let i = dirty-in xs n c h in let q = dirty-filled xs r k n c l b i.0 i.1 in let t = dirty-lt (row_filled r k xs) n c in omega arith

-- a bit that is marked
pub gets-marked : (xs : List ℕ) (set k n : ℕ) → length xs ≡ 8192 → k < 4096 → has set n ≡ true → dirty (marked_for xs set k) n k ≡ 1
gets-marked xs set k n l b e =
    let q = dirty-marked_for xs set k n k l (has-below set n e) b b in
    let o = one-true (has set n) e in
    let z = same-yes k k refl in
    let t = dirty-lt (marked_for xs set k) n k in
    omega arith

-- a map ORed in
pub from_either : (xs ys : List ℕ) (n c : ℕ) → length xs ≡ 8192 → length ys ≡ 8192 → (dirty xs n c ≡ 1 → dirty (or_in xs ys) n c ≡ 1) × (dirty ys n c ≡ 1 → dirty (or_in xs ys) n c ≡ 1)
from_either xs ys n c l k = (
  λ h. let i = dirty-in xs n c h in let q = dirty-or xs ys n c l k i.0 i.1 in let t = dirty-lt (or_in xs ys) n c in omega arith,
  λ h. let i = dirty-in ys n c h in let q = dirty-or xs ys n c l k i.0 i.1 in let t = dirty-lt (or_in xs ys) n c in omega arith,
)
