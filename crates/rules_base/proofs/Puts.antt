-- Laws of a bit that is put: what it changes, and what it keeps. Assumes nothing.
use mathlib.Core.Path.{◌≡◌, refl, sym, ap, ◌∙◌}
use mathlib.Core.Logic.{◌≢◌}
use mathlib.Core.Bool.{Bool, true, false}
use mathlib.Core.List.{List}
use Prim.Native.Nat.{ℕ, ◌+◌, ◌-◌, ◌*◌, ◌/◌, ◌%◌, ◌^◌, ◌≤◌, ◌<◌, min, max}
use native.Mathlib.Nat.{pow-le-pow_right}
use native.Mathlib.Decide.{ℕ_discrete}
use native.Mathlib.Omega.{arith}
use borrow.Author.Tests.{eq-eqb, ne_eqb}
use lib.Bits.{bit_and, bit_or, or_lt, and_le_l}
use lib.Dec.{eqb}
use lib.ListN.{length, get_or, set, length-set}
use lib.Pow.{pow-lt}
use lib.Seq.{get_or-set_same, get_or-set_other}
use Rattle.laws_words.specs.Words.{pick, bit}
use Rattle.laws_words.specs.Bits.{bit-or, bit-and, bit-lt, table2}
use Rattle.rules_base.specs.Summary.{is_set}
use Rattle.rules_base.proofs.Bits.{bit-power}
use Rattle.rules_base.specs.Mend.{bit_put, put}

bit_mask : (k j : ℕ) → k < 64 → j < 64 → bit (2 ^ 64 - 1 - 2 ^ k) j ≡ pick (eqb k j) 0 1
unfolding bit
bit_mask = table2 64 64 (λ k j. bit (2 ^ 64 - 1 - 2 ^ k) j) (λ k j. pick (eqb k j) 0 1) tt

-- the bit itself
put-here : (k w : ℕ) (t : Bool) → k < 64 → eqb (bit (bit_put k t w) k) 1 ≡ t
unfolding bit_put
put-here k w true h = eq-eqb (bit (bit_or w (2 ^ k)) k) 1 (bit-or w (2 ^ k) k ∙ rw (bit-power k k h h, eq-eqb k k refl) (omega (arith, bit-lt w k)))
put-here k w false h = ne_eqb (bit (bit_and w (2 ^ 64 - 1 - 2 ^ k)) k) 1 (λ e. let z : min (bit w k) 0 ≡ 1 = rw (bit-and w (2 ^ 64 - 1 - 2 ^ k) k, bit_mask k k h h, eq-eqb k k refl) at e in omega arith)

-- the others of its word
put-there : (k j w : ℕ) (t : Bool) → k < 64 → j < 64 → k ≢ j → bit (bit_put k t w) j ≡ bit w j
unfolding bit_put
put-there k j w true h l d = bit-or w (2 ^ k) j ∙ rw (bit-power k j h l, ne_eqb k j d) (omega arith)
put-there k j w false h l d = bit-and w (2 ^ 64 - 1 - 2 ^ k) j ∙ rw (bit_mask k j h l, ne_eqb k j d) (omega (arith, bit-lt w j))

put-lt : (k w : ℕ) (t : Bool) → k < 64 → w < 2 ^ 64 → bit_put k t w < 2 ^ 64
unfolding bit_put
put-lt k w true h l = or_lt 64 w (2 ^ k) l (pow-lt h)
put-lt k w false h l = omega (arith, and_le_l w (2 ^ 64 - 1 - 2 ^ k))

-- ---- of all words
module _ (ws : List ℕ) (b : ℕ) (t : Bool) where
  pub put-length : length (put b t ws) ≡ length ws
  unfolding put
  put-length = length-set ws (b / 64) _

  pub put_same : b / 64 < length ws → is_set (put b t ws) b ≡ t
  unfolding put is_set
  put_same h = rw (get_or-set_same ws (b / 64) (bit_put (b % 64) t (get_or ws (b / 64) 0)) 0 h) (put-here (b % 64) (get_or ws (b / 64) 0) t (omega arith))

  pub put_other : (a : ℕ) → b / 64 < length ws → b ≢ a → is_set (put b t ws) a ≡ is_set ws a
  unfolding put is_set
  put_other a h d = elim (ℕ_discrete (a / 64) (b / 64)) [
    | yes e ↦ rw (e, get_or-set_same ws (b / 64) (bit_put (b % 64) t (get_or ws (b / 64) 0)) 0 h, put-there (b % 64) (a % 64) (get_or ws (b / 64) 0) t (omega arith) (omega arith) (λ q. d (omega arith)))
    | no g ↦ rw (get_or-set_other ws (b / 64) (a / 64) (bit_put (b % 64) t (get_or ws (b / 64) 0)) 0 g)
  ]

  pub put_small : b / 64 < length ws → ((j : ℕ) → j < 96 → get_or ws j 0 < 2 ^ 64) → (j : ℕ) → j < 96 → get_or (put b t ws) j 0 < 2 ^ 64
  unfolding put
  put_small h s j l = elim (ℕ_discrete j (b / 64)) [
    | yes e ↦ rw (e, get_or-set_same ws (b / 64) (bit_put (b % 64) t (get_or ws (b / 64) 0)) 0 h) (put-lt (b % 64) (get_or ws (b / 64) 0) t (omega arith) (rw e at (s j l)))
    | no g ↦ rw (get_or-set_other ws (b / 64) j (bit_put (b % 64) t (get_or ws (b / 64) 0)) 0 g) (s j l)
  ]
