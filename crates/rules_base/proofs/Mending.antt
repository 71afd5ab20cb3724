-- The laws of specs/Laws.antt. Assumes nothing.
use mathlib.Core.Path.{◌≡◌, refl, sym, ap, ◌∙◌}
use mathlib.Core.Logic.{◌≢◌}
use mathlib.Core.Bool.{Bool, true, false}
use mathlib.Core.List.{List}
use Prim.Native.Nat.{ℕ, zero, suc, ◌+◌, ◌-◌, ◌*◌, ◌/◌, ◌^◌, ◌≤◌, ◌<◌, min, max}
use native.Mathlib.Nat.{not-suc-le-zero}
use native.Mathlib.Decide.{ℕ_discrete, dec_lt}
use native.Mathlib.Omega.{arith}
use lib.Dec.{eqb}
use lib.ListN.{length, get_or}
use Rattle.laws_words.specs.Words.{pick, one}
use Rattle.laws_words.specs.Tests.{picked, one-le}
use Rattle.rules_base.specs.Sets.{has}
use Rattle.rules_base.specs.Chunk.{there, dirty, chunk_marked, cleared, each, marked_for}
use Rattle.rules_base.proofs.Chunk.{there-yes, there-no-member, there-no-chunk, dirty-lt, each_keeps}
use Rattle.rules_base.proofs.Chunks.{same, same-no, hit-no, dirty-cleared, dirty-marked_for}
use Rattle.rules_base.specs.Summary.{is_dirty, summaries_of, is_set}
use Rattle.rules_base.proofs.Places.{no_chunk}
use Rattle.rules_base.proofs.Words.{length-summaries}
use Rattle.rules_base.proofs.Meaning.{meant, RowTrue, summaries-small, row-true, rows_true}
use Rattle.rules_base.specs.Mend.{mended, mended_for}
use Rattle.rules_base.specs.MendLaws.{AfterClear, AfterMarks}
use Rattle.rules_base.proofs.MendRows.{meant-same, row-mended, mended-length, mended-small, mended-row}

-- what is dirty follows from the bits
dirty-same : (xs ys : List ℕ) (m c : ℕ) → (c < 4096 → dirty xs m c ≡ dirty ys m c) → is_dirty xs m c ≡ is_dirty ys m c
unfolding is_dirty
dirty-same xs ys m c h = elim (dec_lt c 4096) [
  | yes l ↦ rw (h l)
  | no g ↦ no_chunk xs m c (omega arith) ∙ sym (no_chunk ys m c (omega arith))
]

-- words of 64 bits, of which some rows are true of ys and the others of xs
record Half (xs ys : List ℕ) (n : ℕ) (ws : List ℕ) : Type 0 where
  len : length ws ≡ 96
  small : (j : ℕ) → j < 96 → get_or ws j 0 < 2 ^ 64
  mine : (m : ℕ) → m < n → m < 16 → RowTrue ws ys m
  theirs : (m : ℕ) → n ≤ m → m < 16 → RowTrue ws xs m

start : (xs ys : List ℕ) → Half xs ys 0 (summaries_of xs)
start xs ys = record { len = length-summaries xs; small = summaries-small xs; mine = λ m h l. absurd (not-suc-le-zero h); theirs = λ m h l. row-true xs m l }

end : (xs ys ws : List ℕ) → Half xs ys 16 ws → ws ≡ summaries_of ys
end xs ys ws h = rows_true ws ys h.len h.small (λ m l. h.mine m l l)

-- a row in which nothing changed, and one in which chunk c did
module _ (xs ys : List ℕ) (n : ℕ) (ws : List ℕ) (low : n < 16) (h : Half xs ys n ws) where
  half_out : ((d : ℕ) → is_dirty xs n d ≡ is_dirty ys n d) → Half xs ys (suc n) ws
  half_out o =
      record {
        len = h.len;
        small = h.small;
        mine = λ m l b. elim (ℕ_discrete m n) [ yes e ↦ rw e (λ r k. h.theirs n (omega arith) low r k ∙ meant-same xs ys n o r) | no d ↦ h.mine m (omega arith) b ];
        theirs = λ m l b. h.theirs m (omega arith) b;
      }

  half_in : (c : ℕ) → c < 4096 → ((d : ℕ) → d ≢ c → is_dirty xs n d ≡ is_dirty ys n d) → Half xs ys (suc n) (mended ys n c ws)
  unfolding mended
  half_in c hc o =
      let t = h.theirs n (omega arith) low in
      rw (there-yes n c low hc) (record {
        len = mended-length xs ys n c low hc o ws h.len t;
        small = mended-small xs ys n c low hc o ws h.len t h.small;
        mine = λ m l b. elim (ℕ_discrete m n) [
          | yes e ↦ rw e (row-mended xs ys n c low hc o ws h.len t)
          | no d ↦ λ r k. mended-row xs ys n c low hc o ws h.len t m r (λ q. d (sym q)) k ∙ h.mine m (omega arith) b r k
        ];
        theirs = λ m l b r k. mended-row xs ys n c low hc o ws h.len t m r (λ q. omega arith) k ∙ h.theirs m (omega arith) b r k;
      })

-- ---- a set of members
-- a chunk that has no bit changes nothing
no-mark : (xs : List ℕ) (s c : ℕ) → 4096 ≤ c → marked_for xs s c ≡ xs
unfolding marked_for chunk_marked
no-mark xs s c h = each_keeps (λ ys. ys ≡ xs) (has s) (λ m ys. chunk_marked ys m c) 16 xs (λ k ys e. rw (there-no-chunk k c h) e) refl

no-mend : (xs ws : List ℕ) (s c : ℕ) → 4096 ≤ c → mended_for xs s c ws ≡ ws
unfolding mended_for mended
no-mend xs ws s c h = each_keeps (λ vs. vs ≡ ws) (has s) (λ m vs. mended xs m c vs) 16 ws (λ k vs e. rw (there-no-chunk k c h) e) refl

module _ (xs : List ℕ) (len : length xs ≡ 8192) (s c : ℕ) (chunk : c < 4096) where
  marked-others : (m : ℕ) → m < 16 → (d : ℕ) → d ≢ c → is_dirty xs m d ≡ is_dirty (marked_for xs s c) m d
  marked-others m h d g = dirty-same xs (marked_for xs s c) m d (λ l. sym (dirty-marked_for xs s c m d len h chunk l ∙ rw (same-no c d (λ e. g (sym e))) (omega (arith, one-le (has s m)))))

  marked-outside : (m : ℕ) → m < 16 → has s m ≡ false → (d : ℕ) → is_dirty xs m d ≡ is_dirty (marked_for xs s c) m d
  marked-outside m h e d = dirty-same xs (marked_for xs s c) m d (λ l. sym (dirty-marked_for xs s c m d len h chunk l ∙ rw e (omega arith)))

  each-half : (n : ℕ) → n ≤ 16 → Half xs (marked_for xs s c) n (each (has s) (λ m ws. mended (marked_for xs s c) m c ws) n (summaries_of xs))
  unfolding each
  each-half zero h = start xs (marked_for xs s c)
  each-half (suc n) h =
      picked (Half xs (marked_for xs s c) (suc n)) (has s n) _ _
      (λ e. half_in xs (marked_for xs s c) n _ (omega arith) (each-half n (omega arith)) c chunk (marked-others n (omega arith)))
      (λ e. half_out xs (marked_for xs s c) n _ (omega arith) (each-half n (omega arith)) (marked-outside n (omega arith) e))

pub after-marks : AfterMarks
after-marks xs len s c = elim (dec_lt c 4096) [
  | yes h ↦ unfold mended_for in end xs (marked_for xs s c) _ (each-half xs len s c h 16 (omega arith))
  | no g ↦ no-mend (marked_for xs s c) (summaries_of xs) s c (omega arith) ∙ ap summaries_of (sym (no-mark xs s c (omega arith)))
]

-- ---- one member
module _ (xs : List ℕ) (len : length xs ≡ 8192) (m c : ℕ) where
  nothing-cleared : there m c ≡ false → mended (cleared xs m c) m c (summaries_of xs) ≡ summaries_of (cleared xs m c)
  unfolding mended cleared
  nothing-cleared e = rw e

  cleared-apart : m < 16 → c < 4096 → (k d : ℕ) → k < 16 → (m ≡ k → c ≡ d → ⊥) → is_dirty xs k d ≡ is_dirty (cleared xs m c) k d
  cleared-apart hm hc k d hk g = dirty-same xs (cleared xs m c) k d (λ l. sym (dirty-cleared xs m c k d len hm hc hk l ∙ rw (hit-no m c k d g) (omega (arith, dirty-lt xs k d))))

  all-cleared : m < 16 → c < 4096 → mended (cleared xs m c) m c (summaries_of xs) ≡ summaries_of (cleared xs m c)
  unfolding mended
  all-cleared hm hc =
      let ys = cleared xs m c in
      let o : (d : ℕ) → d ≢ c → is_dirty xs m d ≡ is_dirty ys m d = λ d g. cleared-apart hm hc m d hm (λ p q. g (sym q)) in
      let l = length-summaries xs in
      let t = row-true xs m hm in
      rw (there-yes m c hm hc) (rows_true _ ys (mended-length xs ys m c hm hc o (summaries_of xs) l t) (mended-small xs ys m c hm hc o (summaries_of xs) l t (summaries-small xs)) (λ k b. elim (ℕ_discrete m k) [
        | yes e ↦ rw (← e) (row-mended xs ys m c hm hc o (summaries_of xs) l t)
        | no d ↦ λ r j. mended-row xs ys m c hm hc o (summaries_of xs) l t k r d j ∙ (row-true xs k b r j ∙ meant-same xs ys k (λ i. cleared-apart hm hc k i b (λ p q. d p)) r)
      ]))

pub after-clear : AfterClear
after-clear xs len m c = elim (dec_lt m 16) [
  | no g ↦ nothing-cleared xs len m c (there-no-member m c (omega arith))
  | yes h ↦ elim (dec_lt c 4096) [
    | no g ↦ nothing-cleared xs len m c (there-no-chunk m c (omega arith))
    | yes l ↦ all-cleared xs len m c h l
  ]
]
