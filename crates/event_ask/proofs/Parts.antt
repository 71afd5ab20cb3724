-- The part that is cut from its start to its end, and the buffer that it is put back into.
use mathlib.Core.Path.{◌≡◌, refl, ap, ◌∙◌}
use mathlib.Core.List.{List, [], ◌∷◌}
use Prim.Native.Nat.{ℕ, zero, suc, ◌+◌, ◌-◌, ◌*◌, min}
use native.Mathlib.Nat.{zero-min, min-zero, suc-min-suc}
use native.Mathlib.Omega.{arith}
use lib.ListN.{length, take, drop, length-drop}
use lib.Seq.{drop-drop}
use Rattle.rules_base.specs.Limits.{map_bytes}
use borrow.Rule.Slice.PartMut.{put_mid}
use Rattle.event_ask.specs.declared.lending.Span.{Span}
use Rattle.event_ask.specs.Lending.{part, put_back, Stands}

-- a bound past the end does no more than the end
pub take_min : (n : ℕ) (xs : List ℕ) → take (min n (length xs)) xs ≡ take n xs
take_min zero xs = rw zero-min refl
take_min (suc n) [] = rw min-zero refl
take_min (suc n) (x ∷ xs) = rw suc-min-suc (ap (◌∷◌ x) (take_min n xs))

pub drop_min : (n : ℕ) (xs : List ℕ) → drop (min n (length xs)) xs ≡ drop n xs
drop_min zero xs = rw zero-min refl
drop_min (suc n) [] = rw min-zero refl
drop_min (suc n) (x ∷ xs) = rw suc-min-suc (drop_min n xs)

module _ (xs : List ℕ) {k n : ℕ} {s : Span} (p : Stands (length xs) k n s) where
  -- what is cut out is the first n bytes of map k
  pub part-is : take (s.to - s.from) (drop s.from xs) ≡ part xs k n
  part-is =
      let size : s.to - s.from ≡ min n (length (drop s.from xs)) = rw length-drop (omega arith) in
      rw size (take_min n (drop s.from xs) ∙ ap (take n) (rw p.from (drop_min (map_bytes * k) xs)))

  -- and what is put back there leaves the other bytes
  pub put_is : {ys zs : List ℕ} → ys ≡ zs → put_mid s.from (s.to - s.from) xs ys ≡ put_back xs k n zs
  put_is e =
      let rest : s.from + (s.to - s.from) ≡ min (map_bytes * k + n) (length xs) = omega arith in
      rw (e, drop-drop, rest, drop_min, p.from, take_min) refl

-- the same, as the code finds it
pub part_is : (xs : List ℕ) (k n : ℕ) (s : Span) → Stands (length xs) k n s → take (s.to - s.from) (drop s.from xs) ≡ part xs k n
part_is xs k n s p = part-is xs p
