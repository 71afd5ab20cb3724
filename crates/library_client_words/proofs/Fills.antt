-- A loop that fills an array from another.
use mathlib.Core.Path.{◌≡◌, refl, ◌∙◌}
use mathlib.Core.List.{List, [], ◌∷◌, ◌++◌, map, append_assoc, append-nil, map-append}
use Prim.Native.Nat.{ℕ, suc, ◌+◌, ◌≤◌, ◌<◌}
use native.Mathlib.Nat.{le_of_lt}
use native.Mathlib.Numerals.{add-one}
use native.Mathlib.Omega.{arith}
use lib.ListN.{length, get_or, take, drop, set, drop_of_length-le, length-map}
use lib.Seq.{drop-cons, take-suc, take_all, set_at, length-take-le}

module _ {A B : Type 0} where
  -- at index i the first i of ys are f of those of xs, the rest as at the start
  pub record Fills (m : ℕ) (f : A → B) (xs : List A) (ys₀ ys : List B) (i : ℕ) : Type 0 where
    pub from : length xs ≡ m
    pub size : length ys₀ ≡ m
    pub at : i ≤ m
    pub now : ys ≡ map f (take i xs) ++ drop i ys₀

  pub fills-start : {m : ℕ} {f : A → B} {xs : List A} {ys₀ : List B} → length xs ≡ m → length ys₀ ≡ m → Fills m f xs ys₀ ys₀ 0
  fills-start g h = record { from = g; size = h; at = omega arith; now = refl }

  front : (f : A → B) (xs : List A) (i : ℕ) → i ≤ length xs → length (map f (take i xs)) ≡ i
  front f xs i h = length-map (take i xs) f ∙ length-take-le i xs h

  pub fills-more : {m : ℕ} {f : A → B} {xs : List A} {ys₀ ys : List B} {i : ℕ} {v : B} (d : A) (e : B) → Fills m f xs ys₀ ys i → i < m → v ≡ f (get_or xs i d) → Fills m f xs ys₀ (set ys i v) (i + 1)
  fills-more {m} {f} {xs} {ys₀} {ys} {i} {v} d e s h q =
      let h' : i < length xs = omega (arith, s.from) in
      let k : i < length ys₀ = omega (arith, s.size) in
      record {
        from = s.from;
        size = s.size;
        at = omega arith;
        now =
            rw (s.now, add-one, drop-cons ys₀ i e k, set_at (map f (take i xs)) (get_or ys₀ i e) (drop (suc i) ys₀) v i (front f xs i (le_of_lt h')), take-suc xs i d h', map-append f (take i xs) (get_or xs i d ∷ []), q, append_assoc) refl;
      }

  pub fills-done : {m : ℕ} {f : A → B} {xs : List A} {ys₀ ys : List B} {i : ℕ} → Fills m f xs ys₀ ys i → m ≤ i → ys ≡ map f xs
  fills-done {m} {f} {xs} {ys₀} {ys} {i} s h =
      let g : length xs ≤ i = omega (arith, s.from) in
      let k : length ys₀ ≤ i = omega (arith, s.size) in
      rw (s.now, drop_of_length-le ys₀ k, take_all i xs g) (append-nil _)
