-- Rows of a map, byte for byte: byte k is in row k / 512. Assumes nothing.
use mathlib.Core.Path.{◌≡◌, sym, ap, ◌∙◌}
use mathlib.Core.Logic.{◌≢◌}
use mathlib.Core.Bool.{true, false}
use mathlib.Core.List.{List}
use Prim.Native.Nat.{ℕ, ◌+◌, ◌*◌, ◌/◌, ◌%◌, ◌≤◌, ◌<◌, min}
use native.Mathlib.Decide.{dec_lt}
use native.Mathlib.Omega.{arith}
use borrow.Author.Tests.{lt-ltb, le-ltb}
use lib.Dec.{lit<}
use lib.ListN.{length, get_or, get_or-eq_default}
use Rattle.laws_words.specs.Words.{pick, one, bit}
use Rattle.laws_words.specs.Bits.{bits-same, bit-none}
use Rattle.rules_base.specs.Sets.{has}
use Rattle.rules_base.proofs.Sets.{has-below}
use Rattle.rules_base.proofs.Chunk.{dirty-lt}
use Rattle.rules_base.specs.Map.{within, zero_from, zero_row, rows_kept}
use Rattle.rules_base.proofs.Chunks.{dirty-kept}
use Rattle.rules_base.proofs.Maps.{length-zero_row}
use Rattle.rules_base.proofs.Over.{get_d_over, in-yes, in-low, in-high}
use Rattle.rules_base.proofs.Sound.{Sound, sound-kept, sound-byte, dirty-at}

-- past its end a map reads 0
pub past_end : (xs : List ℕ) (k : ℕ) → length xs ≡ 8192 → 8192 ≤ k → get_or xs k 0 ≡ 0
past_end xs k e h = get_or-eq_default xs 0 (omega arith)

-- ---- the rows outside a set zeroed

module _ (n s : ℕ) (xs : List ℕ) (p : Sound n xs) (k : ℕ) where
  kept-bit : k < 8192 → (j : ℕ) → j < 8 → bit (get_or (rows_kept s xs) k 0) j ≡ min (bit (get_or xs k 0) j) (one (has s (k / 512)))
  kept-bit h j l =
      sym (dirty-at (rows_kept s xs) k j h l)
      ∙ (dirty-kept xs s (k / 512) (8 * (k % 512) + j) p.len (omega arith) (omega arith)
      ∙ ap (λ (d : ℕ). min d (one (has s (k / 512)))) (dirty-at xs k j h l))

  bit-small : k < 8192 → (j : ℕ) → j < 8 → bit (get_or xs k 0) j ≤ 1
  bit-small h j l = let a = dirty-lt xs (k / 512) (8 * (k % 512) + j) in let e = dirty-at xs k j h l in omega arith

  -- a byte of a member's row stays
  pub kept-in : has s (k / 512) ≡ true → get_or (rows_kept s xs) k 0 ≡ get_or xs k 0
  kept-in e =
      let b : k / 512 < 16 = has-below s (k / 512) e in
      let h : k < 8192 = omega arith in
      bits-same 8 (get_or (rows_kept s xs) k 0) (get_or xs k 0) (sound-byte n (rows_kept s xs) (sound-kept n s xs p) k) (sound-byte n xs p k)
      (λ j l. kept-bit h j l ∙ rw e (omega (arith, bit-small h j l)))

  -- a byte of another row is 0
  pub kept_out : has s (k / 512) ≡ false → get_or (rows_kept s xs) k 0 ≡ 0
  kept_out e = elim (dec_lt k 8192) [
    | yes h ↦
        bits-same 8 (get_or (rows_kept s xs) k 0) 0 (sound-byte n (rows_kept s xs) (sound-kept n s xs p) k) (lit< tt)
        (λ j l. kept-bit h j l ∙ (rw e (omega arith) ∙ sym (bit-none j)))
    | no h ↦ past_end (rows_kept s xs) k (sound-kept n s xs p).len (omega arith)
  ]

-- ---- one row zeroed

module _ (m : ℕ) (xs : List ℕ) (e : length xs ≡ 8192) (k : ℕ) where
  -- its bytes are 0
  pub zeroed-in : k / 512 ≡ m → get_or (zero_row m xs) k 0 ≡ 0
  unfolding zero_row zero_from
  zeroed-in q = elim (dec_lt k 8192) [
    | yes h ↦ rw (lt-ltb m 16 (omega arith)) (get_d_over (512 * m) (512 * m + 512) (λ i x. 0) xs k (omega arith) ∙ rw (in-yes (512 * m) (512 * m + 512) k (omega arith) (omega arith)))
    | no h ↦ past_end (zero_row m xs) k (length-zero_row m xs ∙ e) (omega arith)
  ]

  -- all others stay
  pub zeroed-out : k / 512 ≢ m → get_or (zero_row m xs) k 0 ≡ get_or xs k 0
  unfolding zero_row zero_from
  zeroed-out d = elim (dec_lt k 8192) [
    | yes h ↦ elim (dec_lt m 16) [
      | yes l ↦ rw (lt-ltb m 16 l) (get_d_over (512 * m) (512 * m + 512) (λ i x. 0) xs k (omega arith) ∙ outside h l)
      | no l ↦ rw (le-ltb m 16 (omega arith))
    ]
    | no h ↦ past_end (zero_row m xs) k (length-zero_row m xs ∙ e) (omega arith) ∙ sym (past_end xs k e (omega arith))
  ]
    where
      outside : k < 8192 → m < 16 → pick (within (512 * m) (512 * m + 512) k) 0 (get_or xs k 0) ≡ get_or xs k 0
      outside h l = elim (dec_lt k (512 * m)) [
        | yes b ↦ rw (in-low (512 * m) (512 * m + 512) k b)
        | no b ↦ rw (in-high (512 * m) (512 * m + 512) k (omega arith))
      ]
