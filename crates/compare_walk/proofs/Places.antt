-- Searching from a place: what the loop cites, and what is left of the list where the search stopped. Assumes nothing.
use mathlib.Core.Path.{◌≡◌, refl, sym, ap, ◌∙◌}
use mathlib.Core.Bool.{true, false}
use mathlib.Core.List.{List, [], ◌∷◌}
use Prim.Native.Nat.{ℕ, zero, suc, ◌+◌, ◌-◌, ◌/◌, ◌%◌, ◌≤◌, ◌<◌, min}
use native.Mathlib.Omega.{arith}
use native.Mathlib.Numerals.{add-one}
use lib.Dec.{eqb, ltb}
use lib.ListN.{length}
use borrow.Author.Tests.{eq-eqb, ne_eqb, lt-ltb, le-ltb, ltb-true, ltb-false}
use Rattle.laws_words.specs.Tests.{by_cases, clash}
use Rattle.compare_walk.specs.Dumps.{dumps_refusal, refused_by, dumps_taken}
use Rattle.rules_base.specs.declared.Refusal.{Refusal}
use Rattle.std.specs.Prelude.{Ok, Err, Option, Some, None, is_none}
use Rattle.compare_walk.proofs.DumpsLaws.{taken}
use Rattle.compare_walk.specs.declared.differences.Dump.{Dump}
use Rattle.compare_walk.specs.Differences.{which_at, difference_at, first_place, told, place_of, next_difference, list_from, walk}

-- ---- none
is-none : {A : Type 0} {o : Option A} → o ≡ None → is_none o ≡ true
is-none e = rw e refl

not-none : {A : Type 0} {o : Option A} → (o ≡ None → ⊥) → is_none o ≡ false
not-none {o = None} h = absurd (h refl)
not-none {o = Some x} h = refl

none-is : {A : Type 0} {o : Option A} → is_none o ≡ true → o ≡ None
none-is {o = None} e = refl
none-is {o = Some x} e = clash e refl

none-not : {A : Type 0} {o : Option A} → is_none o ≡ false → o ≡ None → ⊥
none-not e h = clash (is-none h) e

-- ---- one place: nothing there, or a difference there
place-on : (xs ys : List ℕ) (p n : ℕ) → which_at xs ys p ≡ None → first_place xs ys p (suc n) ≡ first_place xs ys (suc p) n
unfolding first_place
place-on xs ys p n e = rw (is-none e)

place_here : (xs ys : List ℕ) (p n : ℕ) → (which_at xs ys p ≡ None → ⊥) → first_place xs ys p (suc n) ≡ p
unfolding first_place
place_here xs ys p n e = rw (not-none e)

pub list_on : (xs ys : List ℕ) (p n : ℕ) → which_at xs ys p ≡ None → list_from xs ys p (suc n) ≡ list_from xs ys (suc p) n
unfolding list_from
list_on xs ys p n e = rw (is-none e)

pub list-here : (xs ys : List ℕ) (p n : ℕ) → (which_at xs ys p ≡ None → ⊥) → list_from xs ys p (suc n) ≡ difference_at xs ys p ∷ list_from xs ys (suc p) n
unfolding list_from
list-here xs ys p n e = rw (not-none e)

-- whether there is a difference at a place
pub at_place : {P : Type 0} (xs ys : List ℕ) (p : ℕ) → (which_at xs ys p ≡ None → P) → ((which_at xs ys p ≡ None → ⊥) → P) → P
at_place xs ys p f g = by_cases (is_none (which_at xs ys p)) (λ e. f (none-is e)) (λ e. g (none-not e))

-- ---- the loop of `seek`
pub seek-on : (xs ys : List ℕ) (p : ℕ) → p < 65536 → which_at xs ys p ≡ None → first_place xs ys p (65536 - p) ≡ first_place xs ys (p + 1) (65536 - (p + 1))
seek-on xs ys p h e = let q : 65536 - p ≡ suc (65536 - (p + 1)) = omega arith in rw (q, add-one p) (place-on xs ys p (65536 - suc p) e)

pub seek-here : (xs ys : List ℕ) (p : ℕ) → p < 65536 → (which_at xs ys p ≡ None → ⊥) → first_place xs ys p (65536 - p) ≡ p
seek-here xs ys p h e = let q : 65536 - p ≡ suc (65536 - (p + 1)) = omega arith in rw q (place_here xs ys p (65536 - (p + 1)) e)

pub seek-end : (xs ys : List ℕ) (p : ℕ) → 65536 ≤ p → first_place xs ys p (65536 - p) ≡ p
unfolding first_place
seek-end xs ys p h = let q : 65536 - p ≡ 0 = omega arith in rw q

-- ---- the list up to a place, after a search that may look further
pub place-from : (xs ys : List ℕ) (n p : ℕ) → p ≤ first_place xs ys p n
unfolding first_place
place-from xs ys zero p = omega arith
place-from xs ys (suc n) p = at_place xs ys p (λ e. rw (is-none e) (omega (arith, place-from xs ys n (suc p)))) (λ e. rw (not-none e) (omega arith))

pub hop-none : (xs ys : List ℕ) (n k p : ℕ) → k ≤ n → p + k ≤ first_place xs ys p n → list_from xs ys p k ≡ []
unfolding list_from
hop-none xs ys n zero p h l = refl
hop-none xs ys zero (suc k) p h l = absurd (omega arith)
hop-none xs ys (suc n) (suc k) p h l =
    at_place xs ys p
    (λ e. let g : p + suc k ≤ first_place xs ys (suc p) n = rw (place-on xs ys p n e) at l in list_on xs ys p k e ∙ hop-none xs ys n k (suc p) (omega arith) (omega arith))
    (λ e. let g : p + suc k ≤ p = rw (place_here xs ys p n e) at l in absurd (omega arith))

pub hop-found : (xs ys : List ℕ) (n k p : ℕ) → k ≤ n → first_place xs ys p n < p + k
    → list_from xs ys p k ≡ difference_at xs ys (first_place xs ys p n) ∷ list_from xs ys (suc (first_place xs ys p n)) (p + k - suc (first_place xs ys p n))
hop-found xs ys n zero p h l = let g = place-from xs ys n p in absurd (omega arith)
hop-found xs ys zero (suc k) p h l = absurd (omega arith)
hop-found xs ys (suc n) (suc k) p h l =
    at_place xs ys p
    (λ e. let f = place-on xs ys p n e in
    let q = first_place xs ys (suc p) n in
    let g : q < p + suc k = rw f at l in
    let z : p + suc k - suc q ≡ suc p + k - suc q = omega arith in
    rw (f, z) (list_on xs ys p k e ∙ hop-found xs ys n k (suc p) (omega arith) (omega arith)))
    (λ e. let z : p + suc k - suc p ≡ k = omega arith in rw (place_here xs ys p n e, z) (list-here xs ys p k e))

-- ---- what is told
pub some-none : {A P : Type 0} {o : Option A} {x : A} → o ≡ Some x → o ≡ None → P
some-none p q = let z : ◌≡◌ {A = ℕ} 0 1 = cc in absurd (omega arith)

pub is-difference : (xs ys : List ℕ) (p : ℕ) (w : Dump) → which_at xs ys p ≡ Some w → difference_at xs ys p ≡ record { member = p / 4096; chunk = p % 4096; which = w }
is-difference xs ys p w e = rw e refl

pub is_found : (xs ys : List ℕ) (p : ℕ) → p < 65536 → told xs ys p ≡ Some (difference_at xs ys p)
is_found xs ys p h = rw (lt-ltb p 65536 h)

pub is-over : (xs ys : List ℕ) (p : ℕ) → 65536 ≤ p → told xs ys p ≡ None
is-over xs ys p h = rw (le-ltb p 65536 h)

pub next-taken : (xs ys : List ℕ) (m c : ℕ) → dumps_refusal xs ys m ≡ 0 → next_difference xs ys m c ≡ Ok (told xs ys (first_place xs ys (place_of m c) (65536 - place_of m c)))
unfolding next_difference
next-taken xs ys m c e = rw (eq-eqb (dumps_refusal xs ys m) 0 e)

pub next-refused : (xs ys : List ℕ) (m c n : ℕ) → (n ≡ 0 → ⊥) → dumps_refusal xs ys m ≡ n → next_difference xs ys m c ≡ Err (refused_by n)
unfolding next_difference
next-refused xs ys m c n h e = rw (e, ne_eqb n 0 h)

pub next-err : (xs ys : List ℕ) (m c : ℕ) (r : Refusal) → dumps_taken xs ys m ≡ Err r → next_difference xs ys m c ≡ Err r
unfolding dumps_taken next_difference
next-err xs ys m c r e =
    by_cases (eqb (dumps_refusal xs ys m) 0)
    (λ a. let h = rw a at e in let z : ◌≡◌ {A = ℕ} 0 1 = cc in absurd (omega arith))
    (λ a. let h = rw a at e in rw a cc)

-- a place's member and chunk
pub place-of : (q : ℕ) → place_of (q / 4096) (q % 4096 + 1) ≡ suc q
place-of q = let h : min (q % 4096 + 1) 4096 ≡ q % 4096 + 1 = omega arith in rw h (omega arith)

-- ---- the walk
pub walk-list : (xs ys : List ℕ) (n m c : ℕ) → length xs ≡ 8192 → length ys ≡ 8192 → m < 16 → 65536 - place_of m c ≤ n → walk n xs ys m c ≡ list_from xs ys (place_of m c) (65536 - place_of m c)
unfolding walk list_from
walk-list xs ys zero m c h g l k = let z : 65536 - place_of m c ≡ 0 = omega arith in rw z
walk-list xs ys (suc n) m c h g l k =
    let p = place_of m c in
    let q = first_place xs ys p (65536 - p) in
    let e = next-taken xs ys m c (taken xs ys m h g l) in
    let s : p ≤ 65536 = omega arith in
    let r : p ≤ q = place-from xs ys (65536 - p) p in
    by_cases (ltb q 65536)
    (λ b. let a : q < 65536 = ltb-true q 65536 b in
    let z : p + (65536 - p) - suc q ≡ 65536 - suc q = omega arith in
    let f = rw z at (hop-found xs ys (65536 - p) (65536 - p) p (omega arith) (omega arith)) in
    let w = rw (place-of q) at (walk-list xs ys n (q / 4096) (q % 4096 + 1) h g (omega arith) (rw (place-of q) (omega arith))) in
    rw (e, is_found xs ys q a) (ap (λ ds. difference_at xs ys q ∷ ds) w ∙ sym f))
    (λ b. let a : 65536 ≤ q = ltb-false q 65536 b in
    rw (e, is-over xs ys q a) (sym (hop-none xs ys (65536 - p) (65536 - p) p (omega arith) (omega arith))))
