-- The laws of specs/Laws.antt. Assumes nothing.
use mathlib.Core.Path.{◌≡◌, refl, sym, ap, ◌∙◌}
use mathlib.Core.Bool.{Bool, true, false, ◌&&◌}
use mathlib.Core.List.{List}
use Prim.Native.Nat.{ℕ, zero, suc, ◌+◌, ◌-◌, ◌*◌, ◌/◌, ◌%◌, ◌^◌, ◌≤◌, ◌<◌}
use native.Mathlib.Nat.{add-zero, add_assoc}
use native.Mathlib.Decide.{dec_lt, ℕ_discrete}
use native.Mathlib.Omega.{arith}
use borrow.Author.Tests.{eqb-true, eq-eqb}
use lib.Dec.{eqb}
use lib.ListN.{length, get_or, replicate, length-replicate, get_or-replicate}
use Rattle.laws_words.specs.Words.{pick, bit}
use Rattle.laws_words.specs.Tests.{and_left, and_right, and_both}
use Rattle.laws_words.specs.Bits.{bit-none}
use Rattle.rules_base.specs.Chunk.{there, byte_of, dirty}
use Rattle.rules_base.specs.Summary.{some, is_dirty, under, word, word_at, summaries_of, every, agree, base, size, is_set, is_place, lit}
use Rattle.rules_base.specs.SummaryLaws.{OneSummary, Meaning, OthersZero, OfZeros}
use Rattle.rules_base.proofs.Some.{some-no}
use Rattle.rules_base.proofs.Bits.{bits_none}
use Rattle.rules_base.proofs.Words.{at-groups, at-over, at-root, which-word, every-at, every-all, length-summaries, summaries-at, all_words}
use Rattle.rules_base.proofs.Places.{is_member, is_below, place-yes, base-low, lit-chunk, lit-place}
use Rattle.rules_base.proofs.Meaning.{meant, meant-none, meant-place, row-true, rows_true}

pub one-summary : OneSummary
unfolding agree
one-summary =
    record {
      own = λ ws xs e.
          let t : ℕ → Bool = λ j. eqb (get_or ws j 0) (word_at xs j) in
          all_words ws xs (eqb-true (length ws) 96 (and_left (eqb (length ws) 96) (every 96 t) e)) (λ j h. eqb-true (get_or ws j 0) (word_at xs j) (every-at 96 t j (and_right (eqb (length ws) 96) (every 96 t) e) h));
      agrees = λ xs. and_both (eq-eqb (length (summaries_of xs)) 96 (length-summaries xs)) (every-all 96 (λ j. eqb (get_or (summaries_of xs) j 0) (word_at xs j)) (λ j h. eq-eqb (get_or (summaries_of xs) j 0) (word_at xs j) (summaries-at xs j h)));
    }

-- ---- the meaning
under-chunk : (xs : List ℕ) (m i : ℕ) → under xs m 0 i ≡ is_dirty xs m i
unfolding under some
under-chunk xs m i = let q : 1 * i + 0 ≡ i = omega arith in rw q

pub summaries-mean : (xs : List ℕ) (m l i : ℕ) → m < 16 → i < size l → lit (summaries_of xs) xs m l i ≡ under xs m l i
summaries-mean xs m l i h b = elim (ℕ_discrete l 0) [
  | yes e ↦ rw (lit-chunk (summaries_of xs) xs m l i e, e) (sym (under-chunk xs m i))
  | no d ↦ rw (lit-place (summaries_of xs) xs m l i d (place-yes m l i h b), add_assoc (384 * m) (base l) i, row-true xs m h (base l + i) (base-low l i d b)) (meant-place xs m l i d b)
]

pub meaning : Meaning
meaning ws xs e m l i p = rw (one-summary.own ws xs e) (summaries-mean xs m l i (is_member m l i p) (is_below m l i p))

pub others-zero : OthersZero
unfolding base size
others-zero ws xs e m r h b out =
    let low : 272 ≤ r = elim (dec_lt r 272) [
      | yes l ↦ elim (dec_lt r 256) [
        | yes k ↦ absurd (out 1 (λ p. omega arith) (omega arith) (omega arith))
        | no k ↦ absurd (out 2 (λ p. omega arith) (omega arith) (omega arith))
      ]
      | no l ↦ omega arith
    ] in
    let d : r ≡ 320 → ⊥ = λ p. out 3 (λ q. omega arith) (omega arith) (omega arith) in
    rw (one-summary.own ws xs e) (row-true xs m h r b ∙ meant-none xs m r low d)

-- ---- nothing dirty
nothing-dirty : (xs : List ℕ) → ((k : ℕ) → get_or xs k 0 ≡ 0) → (m c : ℕ) → is_dirty xs m c ≡ false
unfolding is_dirty dirty
nothing-dirty xs h m c = rw (h (byte_of m c), bit-none (c % 8)) (go (there m c))
  where
    go : (b : Bool) → eqb (pick {A = ℕ} b 0 0) 1 ≡ false
    go true = refl
    go false = refl

nothing-under : (xs : List ℕ) → ((k : ℕ) → get_or xs k 0 ≡ 0) → (m l i : ℕ) → under xs m l i ≡ false
unfolding under
nothing-under xs h m l i = some-no (is_dirty xs m) (16 ^ l * i) (16 ^ l) (λ k b. nothing-dirty xs h m (16 ^ l * i + k))

nothing-in : (xs : List ℕ) → ((k : ℕ) → get_or xs k 0 ≡ 0) → (m l a n : ℕ) → word xs m l a n ≡ 0
unfolding word
nothing-in xs h m l a n = bits_none (λ k. under xs m l (a + k)) n (λ k. nothing-under xs h m l (a + k))

of-nothing : (xs : List ℕ) → ((k : ℕ) → get_or xs k 0 ≡ 0) → summaries_of xs ≡ replicate 96 0
of-nothing xs h =
    sym (all_words (replicate 96 0) xs (length-replicate {A = ℕ} 96 0) (λ j b. get_or-replicate 96 j 0 0 b ∙ sym (which-word j
    (λ l. at-groups xs j l ∙ nothing-in xs h (j / 6) 1 (64 * (j % 6)) 64)
    (λ e. at-over xs j e ∙ nothing-in xs h (j / 6) 2 0 16)
    (λ e. at-root xs j e ∙ nothing-in xs h (j / 6) 3 0 1))))

zeros-read : (n k : ℕ) → get_or {A = ℕ} (replicate n 0) k 0 ≡ 0
zeros-read zero k = refl
zeros-read (suc n) zero = refl
zeros-read (suc n) (suc k) = zeros-read n k

pub of-zeros : OfZeros
of-zeros n = of-nothing (replicate n 0) (zeros-read n)

pub zeros-agree : (n : ℕ) → agree (replicate 96 0) (replicate n 0) ≡ true
zeros-agree n = ap (λ (ws : List ℕ). agree ws (replicate n 0)) (sym (of-zeros n)) ∙ one-summary.agrees (replicate n 0)
