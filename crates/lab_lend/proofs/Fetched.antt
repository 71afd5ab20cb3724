-- Bytes that were copied to the front of a buffer of zeros stand there, and zeros after them.
use mathlib.Core.Path.{◌≡◌, refl, ap, ◌∙◌}
use mathlib.Core.List.{List, [], ◌∷◌, ◌++◌}
use Prim.Native.Nat.{ℕ, zero, suc, ◌+◌, ◌-◌, ◌≤◌, min}
use native.Mathlib.Omega.{arith}
use lib.ListN.{length, take, drop, replicate, length-drop, length-take}
use Rattle.event_ask.proofs.Parts.{take_min, drop_min}
use Rattle.lab_lend.specs.Node.{padded}

zeros : (n k : ℕ) → n ≤ k → take n (replicate k 0) ≡ padded n []
unfolding padded
zeros zero k h = refl
zeros (suc n) zero h = absurd (omega arith)
zeros (suc n) (suc k) h = ap (◌∷◌ 0) (zeros n k (omega arith))

-- the first bytes of a list and zeros after them
over_zeros : (n k : ℕ) (xs : List ℕ) → n ≤ k → take n (take n xs ++ drop (length (take n xs)) (replicate k 0)) ≡ padded n xs
unfolding padded
over_zeros zero k xs h = refl
over_zeros (suc n) k [] h = zeros (suc n) k h
over_zeros (suc n) zero (x ∷ xs) h = absurd (omega arith)
over_zeros (suc n) (suc k) (x ∷ xs) h = ap (◌∷◌ x) (over_zeros n k xs (omega arith))

pub fetched : (xs buffer got : List ℕ) {a m : ℕ} (offset n k : ℕ) → n ≤ k
    → a ≡ min offset (length xs)
    → m ≡ min n (length xs - a)
    → buffer ≡ replicate k 0
    → got ≡ take (a + m - a) (drop a xs)
    → take n (got ++ drop m buffer) ≡ padded n (drop offset xs)
fetched xs buffer got {a} {m} offset n k h from to clear e =
    let rest : drop a xs ≡ drop offset xs = rw from (drop_min offset xs) in
    let size : m ≡ min n (length (drop offset xs)) = rw (← rest, length-drop) to in
    let same : a + m - a ≡ m = omega arith in
    let is : got ≡ take n (drop offset xs) = (rw (same, rest, size) at e) ∙ take_min n (drop offset xs) in
    let long : length (take n (drop offset xs)) ≡ m = rw (length-take, size) refl in
    rw (clear, is, ← long) (over_zeros n k (drop offset xs) h)
