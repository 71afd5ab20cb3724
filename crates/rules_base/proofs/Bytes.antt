-- Laws of one byte: what a shift computes, the bits of a power of two and of its complement, past a list's end no bit.
-- Assumes nothing.
use mathlib.Core.Path.{◌≡◌}
use Prim.Native.Nat.{ℕ, ◌-◌, ◌*◌, ◌%◌, ◌^◌, ◌<◌}
use native.Mathlib.Omega.{arith}
use lib.Dec.{eqb}
use lib.Pow.{shl_exact}
use Rattle.laws_words.specs.Words.{pick, bit}
use Rattle.laws_words.specs.Bits.{table2}

-- 1 << k, of a byte
pub shl_one : (k : ℕ) → k < 8 → 1 * 2 ^ k % 2 ^ 8 ≡ 2 ^ k
shl_one k h = let e : 1 * 2 ^ k % 2 ^ 8 ≡ 1 * 2 ^ k = shl_exact 1 k 8 (omega arith) (omega arith) in omega arith

pub bit-pow : (k j : ℕ) → k < 8 → j < 8 → bit (2 ^ k) j ≡ pick (eqb k j) 1 0
unfolding bit
bit-pow = table2 8 8 (λ k j. bit (2 ^ k) j) (λ k j. pick (eqb k j) 1 0) tt

pub bit_mask : (k j : ℕ) → k < 8 → j < 8 → bit (255 - 2 ^ k) j ≡ pick (eqb k j) 0 1
unfolding bit
bit_mask = table2 8 8 (λ k j. bit (255 - 2 ^ k) j) (λ k j. pick (eqb k j) 0 1) tt
