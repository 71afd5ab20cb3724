-- The next of consecutive parts is a part. Assumes nothing.
use mathlib.Core.Path.{◌≡◌}
use mathlib.Core.Bool.{true, ◌&&◌}
use mathlib.Core.List.{List, ◌∷◌}
use Prim.Native.Nat.{ℕ, ◌+◌, ◌≤◌}
use native.Mathlib.Omega.{arith}
use lib.Dec.{leb}
use borrow.Author.Tests.{le-leb}
use Rattle.laws_words.specs.Tests.{and_left, and_right, and_both}
use Rattle.rules_base.specs.Parts.{part_bytes, is_part}
use Rattle.rules_node.specs.Cuts.{sized, total}

pub next-part : (l : ℕ) (ls : List ℕ) (a : ℕ) → sized (l ∷ ls) ≡ true → a + total (l ∷ ls) ≤ 8192 → is_part a l ≡ true
next-part l ls a s h = and_both (and_left (leb 1 l && leb l part_bytes) (sized ls) s) (le-leb (a + l) 8192 (omega arith))

-- and so are those after it
pub later-parts : (l : ℕ) (ls : List ℕ) → sized (l ∷ ls) ≡ true → sized ls ≡ true
later-parts l ls s = and_right (leb 1 l && leb l part_bytes) (sized ls) s
