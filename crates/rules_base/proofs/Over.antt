-- Laws of `over`: a loop that rewrites the bytes from a on, one store a turn, has made `over a i f` of the list it began with when it stands at i.
-- Assumes nothing.
use mathlib.Core.Path.{◌≡◌, refl, sym, ap, ◌∙◌}
use mathlib.Core.Bool.{true, false}
use mathlib.Core.Logic.{◌≢◌}
use mathlib.Core.List.{List, [], ◌∷◌}
use Prim.Native.Nat.{ℕ, zero, suc, ◌+◌, ◌≤◌, ◌<◌, min, max}
use native.Mathlib.Nat.{not-suc-le-zero, le_of_suc-le-suc, add-zero, add-suc, suc-add, zero-add, lt_irrefl}
use native.Mathlib.Decide.{ℕ_discrete, dec_lt}
use native.Mathlib.Omega.{arith}
use borrow.Author.Tests.{lt-ltb, le-ltb, le-leb, lt-leb}
use lib.ListN.{length, get_or, set, length-set, get_or-eq_default}
use lib.Seq.{ext_get_or, get_or-set_same, get_or-set_other, set_out}
use Rattle.laws_words.specs.Words.{pick}
use Rattle.laws_words.specs.Tests.{and-false}
use Rattle.rules_base.specs.Map.{within, replaced, replaced_from}

pub in-yes : (a e k : ℕ) → a ≤ k → k < e → within a e k ≡ true
unfolding within
in-yes a e k h l = simp (le-leb _ _ h, lt-ltb _ _ l)

pub in-low : (a e k : ℕ) → k < a → within a e k ≡ false
unfolding within
in-low a e k h = simp (lt-leb _ _ h)

pub in-high : (a e k : ℕ) → e ≤ k → within a e k ≡ false
unfolding within
in-high a e k h = simp (le-ltb _ _ h, and-false)

in-none : (a k : ℕ) → within a a k ≡ false
in-none a k = elim (dec_lt k a) [ yes l ↦ in-low a a k l | no g ↦ in-high a a k (omega arith) ]

pub length-over_from : (i a e : ℕ) (f : ℕ → ℕ → ℕ) (xs : List ℕ) → length (replaced_from i a e f xs) ≡ length xs
unfolding replaced_from
length-over_from i a e f [] = refl
length-over_from i a e f (x ∷ xs) = ap suc (length-over_from (suc i) a e f xs)

get_d-over_from : (i a e : ℕ) (f : ℕ → ℕ → ℕ) (xs : List ℕ) (k : ℕ) → k < length xs → get_or (replaced_from i a e f xs) k 0 ≡ pick (within a e (i + k)) (f (i + k) (get_or xs k 0)) (get_or xs k 0)
unfolding replaced_from
get_d-over_from i a e f [] k h = absurd (not-suc-le-zero h)
get_d-over_from i a e f (x ∷ xs) zero h = rw (add-zero i)
get_d-over_from i a e f (x ∷ xs) (suc k) h = get_d-over_from (suc i) a e f xs k (le_of_suc-le-suc h) ∙ rw (suc-add i k, add-suc i k)

pub length_over : (a e : ℕ) (f : ℕ → ℕ → ℕ) (xs : List ℕ) → length (replaced a e f xs) ≡ length xs
unfolding replaced
length_over a e f xs = length-over_from 0 a e f xs

pub get_d_over : (a e : ℕ) (f : ℕ → ℕ → ℕ) (xs : List ℕ) (k : ℕ) → k < length xs → get_or (replaced a e f xs) k 0 ≡ pick (within a e k) (f k (get_or xs k 0)) (get_or xs k 0)
unfolding replaced
get_d_over a e f xs k h = get_d-over_from 0 a e f xs k h ∙ rw (zero-add k)

pub over-in : (a e : ℕ) (f : ℕ → ℕ → ℕ) (xs : List ℕ) (k : ℕ) → k < length xs → a ≤ k → k < e → get_or (replaced a e f xs) k 0 ≡ f k (get_or xs k 0)
over-in a e f xs k h p q = get_d_over a e f xs k h ∙ simp (in-yes a e k p q)

pub over-past : (a e : ℕ) (f : ℕ → ℕ → ℕ) (xs : List ℕ) (k : ℕ) → k < length xs → e ≤ k → get_or (replaced a e f xs) k 0 ≡ get_or xs k 0
over-past a e f xs k h q = get_d_over a e f xs k h ∙ simp (in-high a e k q)

-- a loop begins
pub over_none : (a : ℕ) (f : ℕ → ℕ → ℕ) (xs : List ℕ) → replaced a a f xs ≡ xs
over_none a f xs = ext_get_or 0 (replaced a a f xs) xs (length_over a a f xs) (λ k h. get_d_over a a f xs k (rw length_over at h) ∙ simp (in-none a k))

-- a place that is not i is below i + 1 where it is below i
in-more : (a i k : ℕ) → k ≢ i → within a (i + 1) k ≡ within a i k
unfolding within
in-more a i k d = elim (dec_lt k i) [
  | yes l ↦ rw (lt-ltb k i l, lt-ltb k (i + 1) (omega arith))
  | no g ↦ in-high a (i + 1) k (omega arith) ∙ sym (in-high a i k (omega arith))
]

-- past the list's end a turn changes nothing
over-beyond : (a i : ℕ) (f : ℕ → ℕ → ℕ) (xs : List ℕ) → length xs ≤ i → replaced a i f xs ≡ replaced a (i + 1) f xs
over-beyond a i f xs g =
    ext_get_or 0 (replaced a i f xs) (replaced a (i + 1) f xs) (simp length_over) (λ k b.
    let k-in : k < length xs = rw length_over at b in
    let d : k ≢ i = λ e. lt_irrefl i (omega arith) in
    get_d_over a i f xs k k-in ∙ (rw (in-more a i k d) refl ∙ sym (get_d_over a (i + 1) f xs k k-in)))

-- a turn within the list
over-more : (a i : ℕ) (f : ℕ → ℕ → ℕ) (xs : List ℕ) → a ≤ i → i < length xs → set (replaced a i f xs) i (f i (get_or xs i 0)) ≡ replaced a (i + 1) f xs
over-more a i f xs h l =
    ext_get_or 0 (set (replaced a i f xs) i (f i (get_or xs i 0))) (replaced a (i + 1) f xs) (simp (length-set, length_over)) (λ k b.
    let k-in : k < length xs = simp (length-set, length_over) at b in
    elim (ℕ_discrete k i) [
      | yes e ↦ rw e (get_or-set_same (replaced a i f xs) i (f i (get_or xs i 0)) 0 (rw length_over l) ∙ sym (over-in a (i + 1) f xs i l h (omega arith)))
      | no d ↦ get_or-set_other (replaced a i f xs) i k (f i (get_or xs i 0)) 0 d ∙ (get_d_over a i f xs k k-in ∙ (rw (in-more a i k d) refl ∙ sym (get_d_over a (i + 1) f xs k k-in)))
    ])

-- the byte at i is still the first one
pub over-read : (a i : ℕ) (f : ℕ → ℕ → ℕ) (xs : List ℕ) → get_or (replaced a i f xs) i 0 ≡ get_or xs i 0
over-read a i f xs = elim (dec_lt i (length xs)) [
  | yes l ↦ over-past a i f xs i l (omega arith)
  | no g ↦ get_or-eq_default (replaced a i f xs) 0 (rw length_over (omega arith)) ∙ sym (get_or-eq_default xs 0 (omega arith))
]

over-set : (a i : ℕ) (f : ℕ → ℕ → ℕ) (xs : List ℕ) → a ≤ i → set (replaced a i f xs) i (f i (get_or xs i 0)) ≡ replaced a (i + 1) f xs
over-set a i f xs h = elim (dec_lt i (length xs)) [
  | yes l ↦ over-more a i f xs h l
  | no g ↦ set_out (replaced a i f xs) i (f i (get_or xs i 0)) (rw length_over (omega arith)) ∙ over-beyond a i f xs (omega arith)
]

-- a turn: d is what the loop has made, v what it stores at i, and d' what it then has
pub over-step : (a i : ℕ) (f : ℕ → ℕ → ℕ) (xs d d' : List ℕ) (v : ℕ) → a ≤ i → d ≡ replaced a i f xs → v ≡ f i (get_or d i 0) → d' ≡ set d i v → d' ≡ replaced a (i + 1) f xs
over-step a i f xs d d' v h e ev e' =
    let r : v ≡ f i (get_or xs i 0) = ev ∙ (rw e (ap (f i) (over-read a i f xs))) in
    e' ∙ (rw (e, r) (over-set a i f xs h))

-- the loop's end, and the length all the way
pub over_done : (a i e : ℕ) (f : ℕ → ℕ → ℕ) (xs d : List ℕ) → d ≡ replaced a i f xs → i ≡ e → d ≡ replaced a e f xs
over_done a i e f xs d h q = rw (← q) h

-- two ranges that hold the same places of the list
over-range : (a e a' e' : ℕ) (f : ℕ → ℕ → ℕ) (xs : List ℕ) → ((k : ℕ) → k < length xs → within a e k ≡ within a' e' k) → replaced a e f xs ≡ replaced a' e' f xs
over-range a e a' e' f xs h =
    ext_get_or 0 (replaced a e f xs) (replaced a' e' f xs) (simp length_over) (λ k b.
    let l : k < length xs = rw length_over at b in
    get_d_over a e f xs k l ∙ (rw (h k l) refl ∙ sym (get_d_over a' e' f xs k l)))

-- the end of a loop that stops at the list's end
pub over-end : (a i e : ℕ) (f : ℕ → ℕ → ℕ) (xs d : List ℕ) → d ≡ replaced a i f xs → a ≤ i → i ≤ max a (min e (length xs)) → min e (length xs) ≤ i → d ≡ replaced a e f xs
over-end a i e f xs d h ai most least = h ∙ over-range a i a e f xs same
  where
    same : (k : ℕ) → k < length xs → within a i k ≡ within a e k
    same k l = elim (dec_lt k a) [
      | yes p ↦ in-low a i k p ∙ sym (in-low a e k p)
      | no g ↦ elim (dec_lt k e) [
        | yes q ↦ in-yes a i k (omega arith) (omega arith) ∙ sym (in-yes a e k (omega arith) q)
        | no r ↦ in-high a i k (omega arith) ∙ sym (in-high a e k (omega arith))
      ]
    ]

-- a range and the next range are the joint range
pub over-joint : (a b e : ℕ) (f : ℕ → ℕ → ℕ) (xs : List ℕ) → a ≤ b → b ≤ e → replaced b e f (replaced a b f xs) ≡ replaced a e f xs
over-joint a b e f xs p q =
    ext_get_or 0 (replaced b e f (replaced a b f xs)) (replaced a e f xs) (simp length_over) (λ k h.
    let l₁ : k < length (replaced a b f xs) = rw length_over at h in
    let l : k < length xs = rw length_over at l₁ in
    get_d_over b e f (replaced a b f xs) k l₁ ∙ (rw (get_d_over a b f xs k l) (parts k) ∙ sym (get_d_over a e f xs k l)))
  where
    parts : (k : ℕ) → pick (within b e k) (f k (pick (within a b k) (f k (get_or xs k 0)) (get_or xs k 0))) (pick (within a b k) (f k (get_or xs k 0)) (get_or xs k 0)) ≡ pick (within a e k) (f k (get_or xs k 0)) (get_or xs k 0)
    parts k = elim (dec_lt k b) [
      | yes l ↦ elim (dec_lt k a) [
        | yes m ↦ rw (in-low b e k l, in-low a b k m, in-low a e k m) refl
        | no g ↦ rw (in-low b e k l, in-yes a b k (omega arith) l, in-yes a e k (omega arith) (omega arith)) refl
      ]
      | no g ↦ elim (dec_lt k e) [
        | yes m ↦ rw (in-high a b k (omega arith), in-yes b e k (omega arith) m, in-yes a e k (omega arith) m) refl
        | no r ↦ rw (in-high a b k (omega arith), in-high b e k (omega arith), in-high a e k (omega arith)) refl
      ]
    ]
