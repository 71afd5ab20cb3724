-- What std's fill and copy_from_slice leave, in the words of the maps' definitions. Assumes nothing.
use mathlib.Core.Path.{◌≡◌, sym, ◌∙◌}
use mathlib.Core.List.{List, ◌++◌}
use Prim.Native.Nat.{ℕ, ◌+◌, ◌-◌, ◌≤◌, ◌<◌, min}
use native.Mathlib.Decide.{dec_lt}
use native.Mathlib.Omega.{arith}
use lib.ListN.{length, get_or, take, drop, replicate, length-replicate, length-append, length-take, length-drop, get_or-replicate, get_or-append}
use lib.Seq.{ext_get_or, get_or-append_right}
use Rattle.std.proofs.lemmas.List.{get_or-take, get_or-drop}
use Rattle.std.proofs.lemmas.Slice.{put_mid-paste}
use Rattle.std.proofs.lemmas.List.Edits.{paste_all}
use borrow.Rule.Slice.PartMut.{put_mid}
use Rattle.rules_base.specs.Map.{replaced, zero_from, zeroed, copied}
use Rattle.rules_base.proofs.Over.{over-in, over-past, in-low, get_d_over, length_over}

pub filled : (xs : List ℕ) → replicate (length xs) 0 ≡ zeroed xs
unfolding zeroed zero_from
filled xs =
    let z : ℕ → ℕ → ℕ = λ k x. 0 in
    ext_get_or 0 (replicate (length xs) 0) (replaced 0 (length xs) z xs) (simp (length-replicate, length_over)) (λ k b.
    let l : k < length xs = rw length-replicate at b in
    get_or-replicate (length xs) k 0 0 l ∙ sym (over-in 0 (length xs) z xs k l (omega arith) l))

pub overwritten : (xs ys : List ℕ) (n : ℕ) → n ≡ min (length xs) (length ys) → take n ys ++ drop n xs ≡ copied xs ys
unfolding copied
overwritten xs ys n e =
    let f : ℕ → ℕ → ℕ = λ k x. get_or ys k 0 in
    let t : length (take n ys) ≡ n = length-take n ys ∙ omega arith in
    let long : length (take n ys ++ drop n xs) ≡ length xs = simp (length-append, length-drop, t) (omega arith) in
    rw (← e) (ext_get_or 0 (take n ys ++ drop n xs) (replaced 0 n f xs) (long ∙ sym (length_over 0 n f xs)) (λ k b.
    let l : k < length xs = rw long at b in
    elim (dec_lt k n) [
      | yes h ↦ get_or-append (take n ys) (drop n xs) 0 k (omega arith) ∙ (get_or-take n ys k 0 h ∙ sym (over-in 0 n f xs k l (omega arith) h))
      | no g ↦ get_or-append_right (take n ys) (drop n xs) k 0 (omega arith) ∙ (get_or-drop n xs (k - length (take n ys)) 0 ∙ (let q : n + (k - length (take n ys)) ≡ k = omega arith in rw q (sym (over-past 0 n f xs k l (omega arith)))))
    ]))

-- zeroes put in the place of the bytes from a up to e, as far as the map goes
pub blanked : (a e p q m : ℕ) (xs ys : List ℕ) → a ≤ e → p ≡ min a (length xs) → q ≡ min e (length xs) → m ≡ q - p → ys ≡ replicate m 0 → put_mid p (q - p) xs ys ≡ zero_from a e xs
unfolding zero_from
blanked a e p q m xs ys o ep eq em ey =
    let z : ℕ → ℕ → ℕ = λ k x. 0 in
    let zs : List ℕ = replicate m 0 in
    let lz : length zs ≡ m = length-replicate m 0 in
    let new : List ℕ = take p xs ++ (zs ++ drop (p + m) xs) in
    let t : length (take p xs) ≡ p = length-take p xs ∙ omega arith in
    let long : length new ≡ length xs = simp (length-append, length-drop, t, lz) (omega arith) in
    put_mid-paste p (q - p) xs ys zs m ey em (sym lz) ∙ (paste_all xs p zs m (sym lz) ∙ ext_get_or 0 new (replaced a e z xs) (long ∙ sym (length_over a e z xs)) (λ k b.
    let l : k < length xs = rw long at b in
    elim (dec_lt k p) [
      | yes h ↦ get_or-append (take p xs) (zs ++ drop (p + m) xs) 0 k (omega arith) ∙ (get_or-take p xs k 0 h ∙ sym (get_d_over a e z xs k l ∙ simp (in-low a e k (omega arith))))
      | no g ↦ get_or-append_right (take p xs) (zs ++ drop (p + m) xs) k 0 (omega arith) ∙ elim (dec_lt k q) [
        | yes h ↦ get_or-append zs (drop (p + m) xs) 0 (k - length (take p xs)) (omega arith) ∙ (get_or-replicate m (k - length (take p xs)) 0 0 (omega arith) ∙ sym (over-in a e z xs k l (omega arith) (omega arith)))
        | no f ↦ get_or-append_right zs (drop (p + m) xs) (k - length (take p xs)) 0 (omega arith) ∙ (get_or-drop (p + m) xs (k - length (take p xs) - length zs) 0 ∙ (let r : p + m + (k - length (take p xs) - length zs) ≡ k = omega arith in rw r (sym (over-past a e z xs k l (omega arith)))))
      ]
    ]))
