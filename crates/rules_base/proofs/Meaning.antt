-- What each bit of a row's words stands for, at the words that are a map's and at any words. Assumes nothing.
use mathlib.Core.Path.{◌≡◌, refl, sym, ap, ◌∙◌}
use mathlib.Core.Bool.{Bool, true, false, not, ◌&&◌}
use mathlib.Core.List.{List}
use Prim.Native.Nat.{ℕ, zero, suc, ◌+◌, ◌-◌, ◌*◌, ◌/◌, ◌%◌, ◌^◌, ◌≤◌, ◌<◌}
use native.Mathlib.Nat.{zero-add, add_assoc, pow-le-pow_right}
use native.Mathlib.Decide.{ℕ_discrete, dec_lt}
use native.Mathlib.Omega.{arith}
use borrow.Author.Tests.{eqb-true, eqb-false, eq-eqb, ne_eqb, lt-ltb, le-ltb}
use lib.Bits.{bit_or}
use lib.Dec.{eqb, ltb}
use lib.ListN.{length, get_or}
use Rattle.laws_words.specs.Words.{pick, one, bit}
use Rattle.laws_words.specs.Bits.{bit-lt, bits-same}
use Rattle.laws_words.specs.Tests.{by_cases}
use Rattle.rules_base.specs.Summary.{some, under, bits, word, word_at, summaries_of, base, size, is_set, is_place, lit}
use Rattle.rules_base.proofs.Some.{some_same, under_up}
use Rattle.rules_base.proofs.Bits.{bits-lt, bit-bits, bits-past, bits-like, bits-some}
use Rattle.rules_base.proofs.Words.{at-groups, at-over, at-root, which-word, length-summaries, summaries-at, all_words}

-- what bit r of member m's 384 says: a group, a group of groups, the root, or nothing
pub meant : List ℕ → ℕ → ℕ → Bool
meant xs m r = pick (ltb r 256) (under xs m 1 r) (pick (ltb r 272) (under xs m 2 (r - 256)) (eqb r 320 && under xs m 3 0))

module _ (xs : List ℕ) (m : ℕ) where
  pub meant-group : (r : ℕ) → r < 256 → meant xs m r ≡ under xs m 1 r
  unfolding meant
  meant-group r h = rw (lt-ltb r 256 h)

  pub meant-over : (r : ℕ) → 256 ≤ r → r < 272 → meant xs m r ≡ under xs m 2 (r - 256)
  unfolding meant
  meant-over r h l = rw (le-ltb r 256 h, lt-ltb r 272 l)

  pub meant-root : (r : ℕ) → r ≡ 320 → meant xs m r ≡ under xs m 3 0
  unfolding meant
  meant-root r e = rw (le-ltb r 256 (omega arith), le-ltb r 272 (omega arith), eq-eqb r 320 e)

  pub meant-none : (r : ℕ) → 272 ≤ r → (r ≡ 320 → ⊥) → meant xs m r ≡ false
  unfolding meant
  meant-none r h d = rw (le-ltb r 256 (omega arith), le-ltb r 272 h, ne_eqb r 320 d)

  -- by levels
  pub meant-place : (l i : ℕ) → (l ≡ 0 → ⊥) → i < size l → meant xs m (base l + i) ≡ under xs m l i
  unfolding base size
  meant-place zero i d h = absurd (d refl)
  meant-place (suc zero) i d h = rw (zero-add i) (meant-group i h)
  meant-place (suc (suc zero)) i d h = let q : 256 + i - 256 ≡ i = omega arith in rw (meant-over (256 + i) (omega arith) (omega arith), q)
  meant-place (suc (suc (suc zero))) i d h = let q : i ≡ 0 = omega arith in rw (q, meant-root 320 refl)
  meant-place (suc (suc (suc (suc l)))) i d h = absurd (let z : ⊥ = omega arith in z)

-- ---- the words that are the map's
module _ (xs : List ℕ) (j : ℕ) where
  word_lt : (l a n : ℕ) → n ≤ 64 → word xs (j / 6) l a n < 2 ^ 64
  unfolding word
  word_lt l a n h = let p : 2 ^ n ≤ 2 ^ 64 = pow-le-pow_right {n = 2} (omega arith) h in omega (arith, bits-lt (λ k. under xs (j / 6) l (a + k)) n)

  at_lt : word_at xs j < 2 ^ 64
  at_lt = which-word j (λ h. rw (at-groups xs j h) (word_lt 1 (64 * (j % 6)) 64 (omega arith))) (λ e. rw (at-over xs j e) (word_lt 2 0 16 (omega arith))) (λ e. rw (at-root xs j e) (word_lt 3 0 1 (omega arith)))

  word-bit : (l a n k : ℕ) → n ≤ 64 → k < n → bit (word xs (j / 6) l a n) k ≡ one (under xs (j / 6) l (a + k))
  unfolding word
  word-bit l a n k h b = bit-bits (λ i. under xs (j / 6) l (a + i)) n k h b

  word-past : (l a n k : ℕ) → n ≤ k → bit (word xs (j / 6) l a n) k ≡ 0
  unfolding word
  word-past l a n k h = bits-past (λ i. under xs (j / 6) l (a + i)) n k h

  -- bit k of word j
  at-bit : (k : ℕ) → k < 64 → bit (word_at xs j) k ≡ one (meant xs (j / 6) (64 * (j % 6) + k))
  at-bit k h =
      which-word j
      (λ l. rw (at-groups xs j l, meant-group xs (j / 6) (64 * (j % 6) + k) (omega arith)) (word-bit 1 (64 * (j % 6)) 64 k (omega arith) h))
      (λ e. rw (at-over xs j e) (elim (dec_lt k 16) [
        | yes b ↦ let q : 64 * (j % 6) + k - 256 ≡ 0 + k = omega arith in rw (meant-over xs (j / 6) (64 * (j % 6) + k) (omega arith) (omega arith), q) (word-bit 2 0 16 k (omega arith) b)
        | no b ↦ rw (meant-none xs (j / 6) (64 * (j % 6) + k) (omega arith) (λ p. omega arith)) (word-past 2 0 16 k (omega arith))
      ]))
      (λ e. rw (at-root xs j e) (elim (dec_lt k 1) [
        | yes b ↦ let q : k ≡ 0 = omega arith in rw (meant-root xs (j / 6) (64 * (j % 6) + k) (omega arith), q) (word-bit 3 0 1 0 (omega arith) (omega arith))
        | no b ↦ rw (meant-none xs (j / 6) (64 * (j % 6) + k) (omega arith) (λ p. omega arith)) (word-past 3 0 1 k (omega arith))
      ]))

one-is : (b : Bool) → eqb (one b) 1 ≡ b
one-is true = refl
one-is false = refl

-- a bit that passes the test where b does is b
bit_is : (x : ℕ) (b : Bool) → x < 2 → eqb x 1 ≡ b → x ≡ one b
bit_is x true h e = eqb-true x 1 e
bit_is x false h e = let d = eqb-false x 1 e in elim (ℕ_discrete x 0) [ yes p ↦ p | no q ↦ absurd (d (omega arith)) ]

-- ---- both ways
-- each bit of member m's words says what it is meant to
abbrev pub RowTrue : List ℕ → List ℕ → ℕ → Type 0
RowTrue ws xs m = (r : ℕ) → r < 384 → is_set ws (384 * m + r) ≡ meant xs m r

-- bit r of member m's 384, where its word is the map's
set-true : (ws xs : List ℕ) (m r : ℕ) → r < 384 → get_or ws ((384 * m + r) / 64) 0 ≡ word_at xs ((384 * m + r) / 64) → is_set ws (384 * m + r) ≡ meant xs m r
unfolding is_set
set-true ws xs m r b e =
    let j : (384 * m + r) / 64 ≡ 6 * m + r / 64 = omega arith in
    let k : (384 * m + r) % 64 ≡ r % 64 = omega arith in
    let p : (6 * m + r / 64) / 6 ≡ m = omega arith in
    let q : 64 * ((6 * m + r / 64) % 6) + r % 64 ≡ r = omega arith in
    rw (e, j, k, at-bit xs (6 * m + r / 64) (r % 64) (omega arith), p, q) (one-is (meant xs m r))

pub row-true : (xs : List ℕ) (m : ℕ) → m < 16 → RowTrue (summaries_of xs) xs m
row-true xs m h r b = set-true (summaries_of xs) xs m r b (summaries-at xs ((384 * m + r) / 64) (omega arith))

pub summaries-small : (xs : List ℕ) (j : ℕ) → j < 96 → get_or (summaries_of xs) j 0 < 2 ^ 64
summaries-small xs j h = rw (summaries-at xs j h) (at_lt xs j)

pub rows_true : (ws xs : List ℕ) → length ws ≡ 96 → ((j : ℕ) → j < 96 → get_or ws j 0 < 2 ^ 64) → ((m : ℕ) → m < 16 → RowTrue ws xs m) → ws ≡ summaries_of xs
unfolding is_set
rows_true ws xs l s h =
    all_words ws xs l (λ j b. bits-same 64 (get_or ws j 0) (word_at xs j) (s j b) (at_lt xs j) (λ k g.
    let p : 384 * (j / 6) + (64 * (j % 6) + k) ≡ 64 * j + k = omega arith in
    let q : (64 * j + k) / 64 ≡ j = omega arith in
    let r : (64 * j + k) % 64 ≡ k = omega arith in
    bit_is (bit (get_or ws j 0) k) (meant xs (j / 6) (64 * (j % 6) + k)) (bit-lt (get_or ws j 0) k) (rw (p, q, r) at (h (j / 6) (omega arith) (64 * (j % 6) + k) (omega arith))) ∙ sym (at-bit xs j k g)))

-- ---- a word by those of the level below: word j, where the words before it are the map's
module _ (ws xs : List ℕ) (j : ℕ) (before : (k : ℕ) → k < j → get_or ws k 0 ≡ word_at xs k) where
  group-set : (r : ℕ) → r < 256 → j % 6 ≡ 4 → is_set ws (384 * (j / 6) + r) ≡ under xs (j / 6) 1 r
  group-set r h e = set-true ws xs (j / 6) r (omega arith) (before ((384 * (j / 6) + r) / 64) (omega arith)) ∙ meant-group xs (j / 6) r h

  pub over-is : j % 6 ≡ 4 → bits (λ i. some (is_set ws) (384 * (j / 6) + 16 * i) 16) 16 ≡ word_at xs j
  unfolding word
  over-is e =
      let m : ℕ = j / 6 in
      rw (at-over xs j e) (bits-like (λ i. some (is_set ws) (384 * m + 16 * i) 16) (λ i. under xs m 2 (0 + i)) 16 (λ i h.
      rw (zero-add i, under_up xs m 1 i) (some_same (is_set ws) (under xs m 1) (384 * m + 16 * i) (16 * i) 16 (λ k l.
      rw (add_assoc (384 * m) (16 * i) k) (group-set (16 * i + k) (omega arith) e)))))

  root-some : j % 6 ≡ 5 → not (eqb (get_or ws (6 * (j / 6) + 4) 0) 0) ≡ under xs (j / 6) 3 0
  unfolding word
  root-some e =
      let m : ℕ = j / 6 in
      let q : (6 * m + 4) / 6 ≡ m = omega arith in
      rw (before (6 * m + 4) (omega arith), at-over xs (6 * m + 4) (omega arith), q, bits-some (λ i. under xs m 2 (0 + i)) 16, under_up xs m 2 0)
      (some_same (λ i. under xs m 2 (0 + i)) (under xs m 2) 0 0 16 (λ k l. rw (zero-add (0 + k))))

  root-word : (b : Bool) → under xs (j / 6) 3 0 ≡ b → j % 6 ≡ 5 → word_at xs j ≡ one b
  unfolding word bits
  root-word b u e = rw (at-root xs j e, u) (go b)
    where
      go : (b : Bool) → bit_or 0 (pick b (2 ^ 0) 0) ≡ one b
      go true = refl
      go false = refl

  pub root-clear : j % 6 ≡ 5 → get_or ws (6 * (j / 6) + 4) 0 ≡ 0 → word_at xs j ≡ 0
  root-clear e z = root-word false (sym (root-some e) ∙ ap not (eq-eqb (get_or ws (6 * (j / 6) + 4) 0) 0 z)) e

  pub root-set : j % 6 ≡ 5 → (get_or ws (6 * (j / 6) + 4) 0 ≡ 0 → ⊥) → word_at xs j ≡ 1
  root-set e d = root-word true (sym (root-some e) ∙ ap not (ne_eqb (get_or ws (6 * (j / 6) + 4) 0) 0 d)) e
