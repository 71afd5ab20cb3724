-- Laws of the places: where their bits are. Assumes nothing.
use mathlib.Core.Path.{◌≡◌, refl, sym, ap, ◌∙◌}
use mathlib.Core.Bool.{Bool, true, false, not, ◌&&◌}
use mathlib.Core.List.{List}
use Prim.Native.Nat.{ℕ, zero, suc, ◌+◌, ◌*◌, ◌/◌, ◌%◌, ◌^◌, ◌≤◌, ◌<◌}
use native.Mathlib.Omega.{arith}
use borrow.Author.Tests.{ltb-true, lt-ltb, eq-eqb, ne_eqb}
use lib.Dec.{eqb, ltb}
use lib.ListN.{get_or}
use Rattle.laws_words.specs.Words.{pick, bit}
use Rattle.laws_words.specs.Tests.{and_left, and_right}
use Rattle.rules_base.specs.Chunk.{dirty}
use Rattle.rules_base.proofs.Chunk.{there-no-member, there-no-chunk}
use Rattle.rules_base.specs.Summary.{some, base, size, bit_of, is_set, is_place, lit, is_dirty}
use Rattle.rules_base.proofs.Some.{some_same}
use Rattle.rules_base.proofs.Bits.{field-some}

pub is_member : (m l i : ℕ) → is_place m l i ≡ true → m < 16
unfolding is_place
is_member m l i e = ltb-true m 16 (and_left (ltb m 16) (ltb i (size l)) e)

pub is_below : (m l i : ℕ) → is_place m l i ≡ true → i < size l
unfolding is_place
is_below m l i e = ltb-true i (size l) (and_right (ltb m 16) (ltb i (size l)) e)

pub place-yes : (m l i : ℕ) → m < 16 → i < size l → is_place m l i ≡ true
unfolding is_place
place-yes m l i h k = rw (lt-ltb m 16 h, lt-ltb i (size l) k)

-- ---- how many places a level has
pub size_low : (l i : ℕ) → i < size l → l < 4
unfolding size
size_low zero i h = omega arith
size_low (suc zero) i h = omega arith
size_low (suc (suc zero)) i h = omega arith
size_low (suc (suc (suc zero))) i h = omega arith
size_low (suc (suc (suc (suc l)))) i h = absurd (let z : ⊥ = omega arith in z)

pub size-most : (l i : ℕ) → i < size l → i < 4096
unfolding size
size-most zero i h = h
size-most (suc zero) i h = omega arith
size-most (suc (suc zero)) i h = omega arith
size-most (suc (suc (suc zero))) i h = omega arith
size-most (suc (suc (suc (suc l)))) i h = absurd (let z : ⊥ = omega arith in z)

-- a level has sixteen places for each of the next
pub size-up : (l i : ℕ) → i < size (suc l) → 16 * i + 16 ≤ size l
unfolding size
size-up zero i h = omega arith
size-up (suc zero) i h = omega arith
size-up (suc (suc zero)) i h = omega arith
size-up (suc (suc (suc l))) i h = absurd (let z : ⊥ = omega arith in z)

-- ---- the bits
-- a place above the chunks has its bit among the row's 384
pub base-low : (l i : ℕ) → (l ≡ 0 → ⊥) → i < size l → base l + i < 384
unfolding base size
base-low zero i d h = absurd (d refl)
base-low (suc zero) i d h = omega arith
base-low (suc (suc zero)) i d h = omega arith
base-low (suc (suc (suc zero))) i d h = omega arith
base-low (suc (suc (suc (suc l)))) i d h = absurd (let z : ⊥ = omega arith in z)

pub bit-low : (m l i : ℕ) → (l ≡ 0 → ⊥) → is_place m l i ≡ true → 384 * m + base l + i < 6144
bit-low m l i d e = omega (arith, is_member m l i e, base-low l i d (is_below m l i e))

-- ---- a place's mark, by cases
module _ (words xs : List ℕ) (m : ℕ) where
  pub lit-chunk : (l i : ℕ) → l ≡ 0 → lit words xs m l i ≡ is_dirty xs m i
  unfolding lit
  lit-chunk l i e = rw (eq-eqb l 0 e)

  pub lit-none : (l i : ℕ) → (l ≡ 0 → ⊥) → is_place m l i ≡ false → lit words xs m l i ≡ false
  unfolding lit
  lit-none l i d e = rw (ne_eqb l 0 d, e)

  pub lit-place : (l i : ℕ) → (l ≡ 0 → ⊥) → is_place m l i ≡ true → lit words xs m l i ≡ is_set words (384 * m + base l + i)
  unfolding lit bit_of
  lit-place l i d e = rw (ne_eqb l 0 d, e)

-- ---- a chunk that nobody has
pub no_member : (xs : List ℕ) (m c : ℕ) → 16 ≤ m → is_dirty xs m c ≡ false
unfolding is_dirty dirty
no_member xs m c h = rw (there-no-member m c h)

pub no_chunk : (xs : List ℕ) (m c : ℕ) → 4096 ≤ c → is_dirty xs m c ≡ false
unfolding is_dirty dirty
no_chunk xs m c h = rw (there-no-chunk m c h)

-- ---- place i of the groups of groups has sixteen bits of one word below it
pub sixteen-set : (words : List ℕ) (m i : ℕ) → not (eqb (get_or words (6 * m + i / 4) 0 / 2 ^ (16 * (i % 4)) % 65536) 0) ≡ some (is_set words) (384 * m + 16 * i) 16
unfolding is_set
sixteen-set words m i =
    field-some (get_or words (6 * m + i / 4) 0) (16 * (i % 4)) 16 ∙ some_same (λ k. eqb (bit (get_or words (6 * m + i / 4) 0) k) 1) (is_set words) (16 * (i % 4)) (384 * m + 16 * i) 16 (λ k h.
    let p : (384 * m + 16 * i + k) / 64 ≡ 6 * m + i / 4 = omega arith in
    let q : (384 * m + 16 * i + k) % 64 ≡ 16 * (i % 4) + k = omega arith in
    rw (p, q))
