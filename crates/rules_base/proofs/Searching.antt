-- The laws of specs/Laws.antt. Assumes nothing.
use Rattle.std.specs.Prelude.{Option, Some, None}
use mathlib.Core.Path.{◌≡◌, refl, sym, ap, ◌∙◌}
use mathlib.Core.Bool.{Bool, true, false, ◌&&◌}
use mathlib.Core.List.{List}
use Prim.Native.Nat.{ℕ, zero, suc, ◌+◌, ◌-◌, ◌*◌, ◌^◌, ◌≤◌, ◌<◌}
use native.Mathlib.Nat.{zero-add, not-suc-le-zero}
use native.Mathlib.Decide.{ℕ_discrete, dec_lt}
use native.Mathlib.Omega.{arith}
use borrow.Author.Tests.{eqb-true, eqb-false, eq-eqb, ne_eqb, lt-leb, le-leb, le-ltb}
use lib.Dec.{eqb, leb, ltb}
use Rattle.laws_words.specs.Tests.{by_cases}
use Rattle.laws_words.specs.Words.{bit}
use Rattle.rules_base.specs.Chunk.{byte_of, dirty}
use Rattle.rules_base.proofs.Chunk.{dirty-lt}
use Rattle.rules_base.specs.Map.{sound}
use Rattle.rules_base.proofs.Sound.{sound-fact, sound-past}
use Rattle.rules_base.specs.Summary.{is_dirty, summaries_of, base, size, bit_of, is_set, is_place, lit}
use Rattle.rules_base.proofs.Places.{no_member, no_chunk, lit-none}
use Rattle.rules_base.proofs.Summaries.{one-summary}
use Rattle.rules_base.specs.declared.Sought.{Sought}
use Rattle.rules_base.specs.Search.{first_in, first_dirty, among, opens, searched, row_searched}
use Rattle.rules_base.specs.SearchLaws.{Reads, AsReading, AsReadingChunks, ClearSkips, FewLooks, Worked}
use Rattle.rules_base.proofs.Among.{search-shut, lit-shut}
use Rattle.rules_base.proofs.First.{either, first-none, first-joint, first-same, first-nothing, wanted, search-first}
use Rattle.rules_base.proofs.Looks.{any-looks, clean-looks}

-- ---- reading
record First (t : ℕ → Bool) (a n c : ℕ) : Type 0 where
  low : a ≤ c
  high : c < a + n
  passes : t c ≡ true
  none : (j : ℕ) → a ≤ j → j < c → t j ≡ false

first-at : (t : ℕ → Bool) (a n c : ℕ) → first_in t a n ≡ Some c → First t a n c
unfolding first_in
first-at t a zero c e = absurd (let z : ◌≡◌ {A = ℕ} 0 1 = cc in omega arith)
first-at t a (suc n) c e =
    by_cases (t a)
    (λ q.
    let r : Some a ≡ Some c = rw q at e in
    let p : a ≡ c = cc in
    record { low = omega arith; high = omega arith; passes = rw (← p) q; none = λ j l h. absurd (let z : ⊥ = omega arith in z) })
    (λ q.
    let r : First t (suc a) n c = first-at t (suc a) n c (rw q at e) in
    record {
      low = omega (arith, r.low);
      high = omega (arith, r.high);
      passes = r.passes;
      none = λ j l h. elim (ℕ_discrete j a) [ yes p ↦ rw p q | no d ↦ r.none j (omega arith) h ];
    })

clean_is : (xs : List ℕ) (m c : ℕ) → is_dirty xs m c ≡ false → dirty xs m c ≡ 0
unfolding is_dirty
clean_is xs m c e = let d = eqb-false (dirty xs m c) 1 e in elim (ℕ_discrete (dirty xs m c) 0) [ yes p ↦ p | no q ↦ absurd (d (omega (arith, dirty-lt xs m c))) ]

dirty-is : (xs : List ℕ) (m c : ℕ) → is_dirty xs m c ≡ true → dirty xs m c ≡ 1
unfolding is_dirty
dirty-is xs m c e = eqb-true (dirty xs m c) 1 e

is-clean : (xs : List ℕ) (m c : ℕ) → dirty xs m c ≡ 0 → is_dirty xs m c ≡ false
unfolding is_dirty
is-clean xs m c e = rw e

pub reads : Reads
unfolding first_dirty
reads =
    record {
      at = λ xs m start n c e.
          let r = first-at (is_dirty xs m) start (n - start) c e in
          (r.low, (omega (arith, r.low, r.high), (dirty-is xs m c r.passes, λ k l h. clean_is xs m k (r.none k l h))));
      nothing = λ xs m start n e k l h. clean_is xs m k (first-nothing (is_dirty xs m) start (n - start) e k l (omega arith));
    }

either-nothing : (x : Option ℕ) → either x None ≡ x
either-nothing (Some c) = refl
either-nothing None = refl

-- reading on where nothing passes any more
first_on : (t : ℕ → Bool) (n k start : ℕ) → n ≤ k → ((c : ℕ) → n ≤ c → t c ≡ false) → first_in t start (k - start) ≡ first_in t start (n - start)
first_on t n k start h past = elim (dec_lt start n) [
  | yes l ↦
      let q : k - start ≡ (n - start) + (k - n) = omega arith in
      let r : first_in t (start + (n - start)) (k - n) ≡ None = first-none t (start + (n - start)) (k - n) (λ j b. past (start + (n - start) + j) (omega arith)) in
      rw (q, first-joint t start (n - start) (k - n), r) (either-nothing (first_in t start (n - start)))
  | no g ↦
      let q : n - start ≡ 0 = omega arith in
      rw q (first-none t start (k - start) (λ j b. past (start + j) (omega arith)) ∙ sym (first-none t start 0 (λ j b. past (start + j) (omega arith))))
]

-- ---- the search
before-start : (xs : List ℕ) (m start c : ℕ) → c < start → wanted xs m start c ≡ false
unfolding wanted
before-start xs m start c h = rw (lt-leb start c h)

after-start : (xs : List ℕ) (m start c : ℕ) → start ≤ c → wanted xs m start c ≡ is_dirty xs m c
unfolding wanted
after-start xs m start c h = rw (le-leb start c h)

-- from the start on what is wanted is what is dirty
wanted-row : (xs : List ℕ) (m start : ℕ) → first_in (wanted xs m start) 0 4096 ≡ first_in (is_dirty xs m) start (4096 - start)
wanted-row xs m start = elim (dec_lt 4096 start) [
  | no g ↦
      let q : 4096 ≡ start + (4096 - start) = omega arith in
      let r : first_in (wanted xs m start) 0 start ≡ None = first-none (wanted xs m start) 0 start (λ k b. before-start xs m start (0 + k) (omega arith)) in
      let t : first_in (wanted xs m start) (0 + start) (4096 - start) ≡ first_in (is_dirty xs m) start (4096 - start) = rw (zero-add start) (first-same (wanted xs m start) (is_dirty xs m) start (4096 - start) (λ k b. after-start xs m start (start + k) (omega arith))) in
      ap (first_in (wanted xs m start) 0) q ∙ (first-joint (wanted xs m start) 0 start (4096 - start) ∙ rw (r, t))
  | yes l ↦
      let q : 4096 - start ≡ 0 = omega arith in
      rw q (first-none (wanted xs m start) 0 4096 (λ k b. before-start xs m start (0 + k) (omega arith)) ∙ sym (first-none (is_dirty xs m) start 0 (λ k b. absurd (not-suc-le-zero b))))
]

nobody : (ws xs : List ℕ) (m start : ℕ) → 16 ≤ m → opens ws xs m start 3 0 ≡ false
unfolding is_place
nobody ws xs m start h = lit-shut ws xs m start 3 0 (lit-none ws xs m 3 0 (λ p. omega arith) (rw (le-ltb m 16 h)))

pub as-reading : AsReading
unfolding row_searched first_dirty
as-reading ws xs e m start = elim (dec_lt m 16) [
  | yes h ↦ rw (one-summary.own ws xs e) (search-first xs m start h 3 0 (unfold size in omega arith) ∙ wanted-row xs m start)
  | no g ↦ ap (λ (s : Sought). s.found) (search-shut ws xs m start 3 0 (nobody ws xs m start (omega arith))) ∙ sym (first-none (is_dirty xs m) start (4096 - start) (λ k b. no_member xs m (start + k) (omega arith)))
]

-- a sound map has no dirty chunk past the chunk count
past : (xs : List ℕ) (n : ℕ) → sound n xs ≡ true → (m c : ℕ) → n ≤ c → is_dirty xs m c ≡ false
past xs n s m c h = elim (dec_lt m 16) [
  | no g ↦ no_member xs m c (omega arith)
  | yes k ↦ elim (dec_lt c 4096) [
    | no g ↦ no_chunk xs m c (omega arith)
    | yes l ↦ is-clean xs m c (sound-past n xs (sound-fact n xs s) m c k h l)
  ]
]

pub as-reading-chunks : AsReadingChunks
unfolding first_dirty
as-reading-chunks ws xs e n s m start = as-reading ws xs e m start ∙ (elim (dec_lt n 4096) [
  | yes h ↦ first_on (is_dirty xs m) n 4096 start (omega arith) (past xs n s m)
  | no g ↦ sym (first_on (is_dirty xs m) 4096 n start (omega arith) (no_chunk xs m))
])

pub clear-skips : ClearSkips
clear-skips ws xs m start l i e = search-shut ws xs m start l i (lit-shut ws xs m start l i e)

one-look : (ws xs : List ℕ) (m start : ℕ) → 16 ≤ m → (n : ℕ) → 1 ≤ n → (searched ws xs m start 3 0).looked ≤ n
one-look ws xs m start h n l = rw (search-shut ws xs m start 3 0 (nobody ws xs m start h)) l

pub few-looks : FewLooks
unfolding row_searched
few-looks =
    record {
      any = λ ws xs e m start. elim (dec_lt m 16) [ yes h ↦ rw (one-summary.own ws xs e) (any-looks xs m start h) | no g ↦ one-look ws xs m start (omega arith) 81 (omega arith) ];
      from_first = λ ws xs e m. elim (dec_lt m 16) [ yes h ↦ rw (one-summary.own ws xs e) (clean-looks xs m 0 h refl) | no g ↦ one-look ws xs m 0 (omega arith) 49 (omega arith) ];
    }

-- ---- computed
pub worked : Worked
unfolding row_searched searched among opens lit is_place is_set bit_of base size is_dirty dirty byte_of bit
worked = record { no_chunk = refl; last-chunk = refl; after-the-first = refl; every-chunk = refl }
