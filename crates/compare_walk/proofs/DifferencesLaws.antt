-- The laws of specs/Laws.antt. Assumes nothing.
use mathlib.Core.Path.{◌≡◌, refl, ap}
use mathlib.Core.Logic.{⊎_elim, inl, inr}
use mathlib.Core.List.{List}
use Prim.Native.Nat.{ℕ, zero, suc, ◌+◌, ◌*◌, ◌/◌, ◌%◌, ◌≤◌, ◌<◌}
use native.Mathlib.Omega.{arith}
use lib.Dec.{eqb, ltb}
use borrow.Author.Tests.{eqb-true, eqb-false, ltb-true, ltb-false}
use Rattle.laws_words.specs.Tests.{by_cases}
use Rattle.laws_words.specs.Words.{bit}
use Rattle.rules_base.specs.Chunk.{dirty, byte_of}
use Rattle.rules_base.proofs.Chunk.{there-no-member, there-no-chunk, dirty-lt}
use Rattle.compare_walk.specs.Dumps.{dumps_refusal}
use Rattle.compare_walk.proofs.DumpsLaws.{short, no_member}
use Rattle.compare_walk.specs.declared.differences.Difference.{Difference}
use Rattle.compare_walk.specs.declared.differences.Dump.{Dump}
use Rattle.std.specs.Prelude.{Some, None, unwrap_or}
use Rattle.compare_walk.specs.Differences.{which, which_at, difference_at, first_place, next_difference, list_from, differences}
use Rattle.compare_walk.specs.DifferencesLaws.{In, difference, Complete, Differs, NothingElse, Before, Ascending, Sorted, Walked, Refusals, Ends}
use Rattle.compare_walk.proofs.Places.{list_on, list-here, at_place, some-none, walk-list, next-refused}

-- ---- a place in the list, and what is in it
has : (xs ys : List ℕ) (n p q : ℕ) → p ≤ q → q < p + n → (which_at xs ys q ≡ None → ⊥) → In (difference_at xs ys q) (list_from xs ys p n)
has xs ys zero p q h l d = absurd (omega arith)
has xs ys (suc n) p q h l d =
    by_cases (eqb q p)
    (λ e. let z : q ≡ p = eqb-true q p e in
    let k : which_at xs ys p ≡ None → ⊥ = rw z at d in
    rw (list-here xs ys p n k) (inl (ap (difference_at xs ys) z)))
    (λ e. let k : q ≡ p → ⊥ = eqb-false q p e in
    let r = has xs ys n (suc p) q (omega arith) (omega arith) d in
    at_place xs ys p (λ o. rw (list_on xs ys p n o) r) (λ o. rw (list-here xs ys p n o) (inr r)))

record Listed (xs ys : List ℕ) (p : ℕ) (d : Difference) : Type 0 where
  place : ℕ
  from : p ≤ place
  differs : which_at xs ys place ≡ None → ⊥
  is : d ≡ difference_at xs ys place

later : (xs ys : List ℕ) (p : ℕ) (d : Difference) → Listed xs ys (suc p) d → Listed xs ys p d
later xs ys p d v = record { place = v.place; from = let h = v.from in omega arith; differs = v.differs; is = v.is }

listed : (xs ys : List ℕ) (n p : ℕ) (d : Difference) → In d (list_from xs ys p n) → Listed xs ys p d
unfolding list_from
listed xs ys zero p d i = absurd i
listed xs ys (suc n) p d i =
    at_place xs ys p
    (λ o. later xs ys p d (listed xs ys n (suc p) d (rw (list_on xs ys p n o) at i)))
    (λ o. ⊎_elim (λ e. record { place = p; from = omega arith; differs = o; is = e }) (λ j. later xs ys p d (listed xs ys n (suc p) d j)) (rw (list-here xs ys p n o) at i))

-- ---- complete
-- a chunk that is dirty has a place
record Has (m c : ℕ) : Type 0 where
  member : m < 16
  chunk : c < 4096

has-place : (xs : List ℕ) (m c : ℕ) → dirty xs m c ≡ 1 → Has m c
unfolding dirty
has-place xs m c e =
    by_cases (ltb m 16)
    (λ a. by_cases (ltb c 4096) (λ b. record { member = ltb-true m 16 a; chunk = ltb-true c 4096 b })
    (λ b. let z : ◌≡◌ {A = ℕ} 0 1 = rw (there-no-chunk m c (ltb-false c 4096 b)) at e in absurd (omega arith)))
    (λ a. let z : ◌≡◌ {A = ℕ} 0 1 = rw (there-no-member m c (ltb-false m 16 a)) at e in absurd (omega arith))

at : (xs ys : List ℕ) (m c : ℕ) (w : Dump) → Has m c → which xs ys m c ≡ Some w → In (difference m c w) (differences xs ys)
unfolding differences
at xs ys m c w v e =
    let h = v.member in
    let g = v.chunk in
    let q = 4096 * m + c in
    let a : q / 4096 ≡ m = omega arith in
    let b : q % 4096 ≡ c = omega arith in
    let f : which_at xs ys q ≡ Some w = rw (a, b) e in
    let z : difference m c w ≡ difference_at xs ys q = rw (a, b, e) refl in
    rw z (has xs ys 65536 0 q (omega arith) (omega arith) (λ k. some-none f k))

pub complete : Complete
unfolding which
complete =
    record {
      first = λ xs ys m c e f. at xs ys m c Dump.First (has-place xs m c e) (rw (e, f) refl);
      second = λ xs ys m c e f. at xs ys m c Dump.Second (has-place ys m c f) (rw (e, f) refl);
    }

-- ---- nothing else
one_of : (xs : List ℕ) (m c : ℕ) → (dirty xs m c ≡ 1 → ⊥) → dirty xs m c ≡ 0
one_of xs m c h = let l = dirty-lt xs m c in omega arith

differs_at : (xs ys : List ℕ) (m c : ℕ) → (which xs ys m c ≡ None → ⊥) → Differs xs ys (difference m c (unwrap_or (which xs ys m c) Dump.First))
unfolding which
differs_at xs ys m c h =
    by_cases (eqb (dirty xs m c) 1)
    (λ a. by_cases (eqb (dirty ys m c) 1)
    (λ b. absurd (h (rw (a, b) refl)))
    (λ b. inl (rw (a, b) refl, eqb-true (dirty xs m c) 1 a, one_of ys m c (eqb-false (dirty ys m c) 1 b))))
    (λ a. by_cases (eqb (dirty ys m c) 1)
    (λ b. inr (rw (a, b) refl, one_of xs m c (eqb-false (dirty xs m c) 1 a), eqb-true (dirty ys m c) 1 b))
    (λ b. absurd (h (rw (a, b) refl))))

pub nothing-else : NothingElse
unfolding differences
nothing-else xs ys d i = let v = listed xs ys 65536 0 d i in rw v.is (differs_at xs ys (v.place / 4096) (v.place % 4096) v.differs)

-- ---- sorted
before : (xs ys : List ℕ) (p q : ℕ) → p < q → Before (difference_at xs ys p) (difference_at xs ys q)
before xs ys p q h =
    by_cases (ltb (p / 4096) (q / 4096))
    (λ e. inl (ltb-true (p / 4096) (q / 4096) e))
    (λ e. let k : q / 4096 ≤ p / 4096 = ltb-false (p / 4096) (q / 4096) e in inr (omega arith, omega arith))

ascending : (xs ys : List ℕ) (n p : ℕ) → Ascending (list_from xs ys p n)
unfolding list_from
ascending xs ys zero p = tt
ascending xs ys (suc n) p =
    at_place xs ys p
    (λ o. rw (list_on xs ys p n o) (ascending xs ys n (suc p)))
    (λ o. rw (list-here xs ys p n o) (λ e i. let v = listed xs ys n (suc p) e i in let h = v.from in rw v.is (before xs ys p v.place (omega arith)), ascending xs ys n (suc p)))

pub sorted : Sorted
unfolding differences
sorted xs ys = ascending xs ys 65536 0

-- ---- the walk, its refusals, the ends of rows
pub walked : Walked
unfolding differences
walked xs ys n h g l = walk-list xs ys n 0 0 h g (omega arith) (omega arith)

pub refusals : Refusals
refusals =
    record {
      short = λ xs ys m c h. next-refused xs ys m c 2 (λ k. omega arith) (short xs ys m h);
      no_member = λ xs ys m c h g l. next-refused xs ys m c 3 (λ k. omega arith) (no_member xs ys m h g l);
    }

pub ends : Ends
unfolding next_difference dumps_refusal first_place list_from which dirty byte_of bit
ends =
    record {
      last-of-a-row = refl;
      first-of-the-next = refl;
      last-of-all = refl;
      dirty-in-both = refl;
      after-the-last = refl;
      across-a-row = refl;
    }
