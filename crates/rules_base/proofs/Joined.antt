-- Laws of parts: what one leaves of each byte, that it keeps a map sound, and that consecutive parts of a map are the map. Assumes nothing.
use mathlib.Core.Path.{◌≡◌, refl, sym, ◌∙◌}
use mathlib.Core.Bool.{true}
use mathlib.Core.List.{List}
use Prim.Native.Nat.{ℕ, ◌+◌, ◌-◌, ◌≤◌, ◌<◌, min}
use native.Mathlib.Decide.{dec_lt}
use native.Mathlib.Omega.{arith}
use lib.Bits.{bit_or}
use lib.ListN.{length, get_or, drop, length-drop, get_or-eq_default}
use lib.Seq.{ext_get_or, get_or-take, get_or-drop, length-take-le}
use Rattle.rules_base.specs.Map.{replaced, or_from, or_in, spare, clean_from}
use Rattle.rules_base.proofs.Over.{length_over, over_none, over-in, over-past, get_d_over, in-low, over-joint}
use Rattle.rules_base.proofs.Maps.{clean_from-yes, clean_from-at, spare-none}
use Rattle.rules_base.proofs.Sound.{Sound, spare-or}
use Rattle.rules_base.specs.Parts.{part_of, or_part}

-- ---- each byte after a part

pub length_part : (a : ℕ) (part xs : List ℕ) → length (or_part a part xs) ≡ length xs
unfolding or_part
length_part a part xs = length_over _ _ _ xs

pub part-in : (a : ℕ) (part xs : List ℕ) (k : ℕ) → k < length xs → a ≤ k → k < a + length part → get_or (or_part a part xs) k 0 ≡ bit_or (get_or xs k 0) (get_or part (k - a) 0)
unfolding or_part
part-in a part xs k h p q = over-in a (a + length part) (λ i x. bit_or x (get_or part (i - a) 0)) xs k h p q

pub part-before : (a : ℕ) (part xs : List ℕ) (k : ℕ) → k < length xs → k < a → get_or (or_part a part xs) k 0 ≡ get_or xs k 0
unfolding or_part
part-before a part xs k h p = get_d_over a (a + length part) (λ i x. bit_or x (get_or part (i - a) 0)) xs k h ∙ simp (in-low a (a + length part) k p)

pub part-past : (a : ℕ) (part xs : List ℕ) (k : ℕ) → k < length xs → a + length part ≤ k → get_or (or_part a part xs) k 0 ≡ get_or xs k 0
unfolding or_part
part-past a part xs k h p = over-past a (a + length part) (λ i x. bit_or x (get_or part (i - a) 0)) xs k h p

-- ---- a clean part keeps a map sound

pub sound-part : (n a : ℕ) (part xs : List ℕ) → clean_from n a part ≡ true → Sound n xs → Sound n (or_part a part xs)
sound-part n a part xs c s = record {
  len = length_part a part xs ∙ s.len;
  clean = λ k. elim (dec_lt k (length xs)) [
    | yes l ↦ elim (dec_lt k a) [
      | yes p ↦ rw (part-before a part xs k l p) (s.clean k)
      | no g ↦ elim (dec_lt k (a + length part)) [
        | yes q ↦ rw (part-in a part xs k l (omega arith) q) (spare-or n k (get_or xs k 0) (get_or part (k - a) 0) (s.clean k) (at k (omega arith) (omega arith)))
        | no r ↦ rw (part-past a part xs k l (omega arith)) (s.clean k)
      ]
    ]
    | no g ↦ rw (get_or-eq_default (or_part a part xs) 0 {n = k} (rw length_part (omega arith))) (spare-none n k)
  ];
}
  where
    at : (k : ℕ) → a ≤ k → k - a < length part → spare n k (get_or part (k - a) 0) ≡ 0
    at k h l = let q : a + (k - a) ≡ k = omega arith in rw q at (clean_from-at n a part c (k - a) l)

-- ---- a part of a map

pub length-part_of : (a l : ℕ) (zs : List ℕ) → a + l ≤ length zs → length (part_of a l zs) ≡ l
unfolding part_of
length-part_of a l zs h = length-take-le l (drop a zs) (rw length-drop (omega arith))

pub get_d-part_of : (a l : ℕ) (zs : List ℕ) (k : ℕ) → k < l → get_or (part_of a l zs) k 0 ≡ get_or zs (a + k) 0
unfolding part_of
get_d-part_of a l zs k h = get_or-take l (drop a zs) k 0 h ∙ get_or-drop a zs k 0

-- a part of a sound map is clean
pub clean-part : (n a l : ℕ) (zs : List ℕ) → Sound n zs → a + l ≤ 8192 → clean_from n a (part_of a l zs) ≡ true
clean-part n a l zs s h =
    let e : length (part_of a l zs) ≡ l = length-part_of a l zs (omega (arith, s.len)) in
    clean_from-yes n a (part_of a l zs) (λ k b. rw (get_d-part_of a l zs k (omega arith)) (s.clean (a + k)))

-- a part of a map ORed in is its range of the map ORed in
part-range : (a l : ℕ) (xs zs : List ℕ) → a + l ≤ length zs → or_part a (part_of a l zs) xs ≡ or_from a (a + l) xs zs
unfolding or_from
part-range a l xs zs h =
    ext_get_or 0 (or_part a (part_of a l zs) xs) (replaced a (a + l) f xs) (length_part a (part_of a l zs) xs ∙ sym (length_over a (a + l) f xs)) (λ k b.
    let i : k < length xs = rw length_part at b in
    elim (dec_lt k a) [
      | yes p ↦ part-before a (part_of a l zs) xs k i p ∙ sym (get_d_over a (a + l) f xs k i ∙ simp (in-low a (a + l) k p))
      | no g ↦ elim (dec_lt k (a + l)) [
        | yes q ↦ part-in a (part_of a l zs) xs k i (omega arith) (rw e q) ∙ (rw (byte k (omega arith) q) refl ∙ sym (over-in a (a + l) f xs k i (omega arith) q))
        | no r ↦ part-past a (part_of a l zs) xs k i (rw e (omega arith)) ∙ sym (over-past a (a + l) f xs k i (omega arith))
      ]
    ])
  where
    f : ℕ → ℕ → ℕ
    f k x = bit_or x (get_or zs k 0)

    e : length (part_of a l zs) ≡ l
    e = length-part_of a l zs h

    byte : (k : ℕ) → a ≤ k → k < a + l → get_or (part_of a l zs) (k - a) 0 ≡ get_or zs k 0
    byte k p q = let r : a + (k - a) ≡ k = omega arith in get_d-part_of a l zs (k - a) (omega arith) ∙ rw r refl

-- ---- consecutive parts

-- nothing has come
pub parts_none : (xs zs : List ℕ) → or_from 0 0 xs zs ≡ xs
unfolding or_from
parts_none xs zs = over_none 0 (λ k x. bit_or x (get_or zs k 0)) xs

joint : (a l : ℕ) (xs zs : List ℕ) → or_from a (a + l) (or_from 0 a xs zs) zs ≡ or_from 0 (a + l) xs zs
unfolding or_from
joint a l xs zs = over-joint 0 a (a + l) (λ k x. bit_or x (get_or zs k 0)) xs (omega arith) (omega arith)

-- the bytes up to a have come, and the next l come
pub parts_more : (a l : ℕ) (xs zs : List ℕ) → a + l ≤ length zs → or_part a (part_of a l zs) (or_from 0 a xs zs) ≡ or_from 0 (a + l) xs zs
parts_more a l xs zs h = part-range a l (or_from 0 a xs zs) zs h ∙ joint a l xs zs

-- all have come: the map is as if it had come whole
pub parts_whole : (xs zs : List ℕ) → length xs ≡ 8192 → length zs ≡ 8192 → or_from 0 8192 xs zs ≡ or_in xs zs
unfolding or_in
parts_whole xs zs e h = let q : min (length xs) (length zs) ≡ 8192 = omega arith in rw q refl
