-- A map with the rows outside a set zeroed, byte for byte. Assumes nothing.
use mathlib.Core.Path.{◌≡◌, sym, ap, ◌∙◌}
use mathlib.Core.Bool.{true, false}
use mathlib.Core.List.{List}
use Prim.Native.Nat.{ℕ, ◌+◌, ◌*◌, ◌/◌, ◌%◌, ◌≤◌, ◌<◌, min}
use native.Mathlib.Omega.{arith}
use lib.Dec.{lit<}
use lib.ListN.{get_or}
use Rattle.laws_words.specs.Words.{one, bit}
use Rattle.laws_words.specs.Bits.{bits-same, bit-none}
use Rattle.rules_base.specs.Sets.{has}
use Rattle.rules_base.specs.Map.{rows_kept}
use Rattle.rules_base.proofs.Chunk.{dirty-lt}
use Rattle.rules_base.proofs.Chunks.{dirty-kept}
use Rattle.rules_base.proofs.Sound.{Sound, sound-kept, sound-byte, dirty-at}

module _ (n s : ℕ) (xs : List ℕ) (p : Sound n xs) (k : ℕ) (h : k < 8192) where
  kept-bit : (j : ℕ) → j < 8 → bit (get_or (rows_kept s xs) k 0) j ≡ min (bit (get_or xs k 0) j) (one (has s (k / 512)))
  kept-bit j l =
      sym (dirty-at (rows_kept s xs) k j h l)
      ∙ (dirty-kept xs s (k / 512) (8 * (k % 512) + j) p.len (omega arith) (omega arith)
      ∙ ap (λ (d : ℕ). min d (one (has s (k / 512)))) (dirty-at xs k j h l))

  bit-small : (j : ℕ) → j < 8 → bit (get_or xs k 0) j ≤ 1
  bit-small j l = let a = dirty-lt xs (k / 512) (8 * (k % 512) + j) in let e = dirty-at xs k j h l in omega arith

  -- a byte of a member's row stays
  pub kept-in : has s (k / 512) ≡ true → get_or (rows_kept s xs) k 0 ≡ get_or xs k 0
  kept-in e =
      bits-same 8 (get_or (rows_kept s xs) k 0) (get_or xs k 0) (sound-byte n (rows_kept s xs) (sound-kept n s xs p) k) (sound-byte n xs p k)
      (λ j l. kept-bit j l ∙ rw e (omega (arith, bit-small j l)))

  -- a byte of another row is 0
  pub kept_out : has s (k / 512) ≡ false → get_or (rows_kept s xs) k 0 ≡ 0
  kept_out e =
      bits-same 8 (get_or (rows_kept s xs) k 0) 0 (sound-byte n (rows_kept s xs) (sound-kept n s xs p) k) (lit< tt)
      (λ j l. kept-bit j l ∙ (rw e (omega arith) ∙ sym (bit-none j)))
