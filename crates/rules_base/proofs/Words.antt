-- Laws of the words: which is which, what agreement says, what their bits say. Assumes nothing.
use mathlib.Core.Path.{◌≡◌, refl, sym, ap, ◌∙◌}
use mathlib.Core.Bool.{Bool, true, false, ◌&&◌}
use mathlib.Core.List.{List, [], ◌∷◌, ◌++◌}
use Prim.Native.Nat.{ℕ, zero, suc, ◌+◌, ◌*◌, ◌/◌, ◌%◌, ◌^◌, ◌≤◌, ◌<◌}
use native.Mathlib.Nat.{not-suc-le-zero}
use native.Mathlib.Numerals.{add-one}
use native.Mathlib.Decide.{ℕ_discrete, dec_lt}
use native.Mathlib.Omega.{arith}
use borrow.Author.Tests.{eqb-true, eq-eqb}
use lib.Dec.{eqb}
use lib.ListN.{length, get_or, set, length-append, get_or-append}
use lib.Seq.{ext_get_or, get_or_at, get_or-set_same, get_or-set_other}
use Rattle.laws_words.specs.Tests.{and_left, and_right, and_both}
use Rattle.rules_base.specs.Summary.{some, is_dirty, under, bits, word, row_words, word_at, words_to, summaries_of, every, agree}

-- ---- a row's six
module _ (xs : List ℕ) (m : ℕ) where
  row-groups : (k : ℕ) → k < 4 → get_or (row_words xs m) k 0 ≡ word xs m 1 (64 * k) 64
  unfolding row_words
  row-groups zero h = refl
  row-groups (suc zero) h = refl
  row-groups (suc (suc zero)) h = refl
  row-groups (suc (suc (suc zero))) h = refl
  row-groups (suc (suc (suc (suc k)))) h = absurd (let z : ⊥ = omega arith in z)

module _ (xs : List ℕ) (j : ℕ) where
  pub at-groups : j % 6 < 4 → word_at xs j ≡ word xs (j / 6) 1 (64 * (j % 6)) 64
  unfolding word_at
  at-groups h = row-groups xs (j / 6) (j % 6) h

  pub at-over : j % 6 ≡ 4 → word_at xs j ≡ word xs (j / 6) 2 0 16
  unfolding word_at row_words
  at-over e = rw e

  pub at-root : j % 6 ≡ 5 → word_at xs j ≡ word xs (j / 6) 3 0 1
  unfolding word_at row_words
  at-root e = rw e

-- word j is of the groups, of the groups of groups or of the root
pub which-word : {P : Type 0} (j : ℕ) → (j % 6 < 4 → P) → (j % 6 ≡ 4 → P) → (j % 6 ≡ 5 → P) → P
which-word j f g h = elim (dec_lt (j % 6) 4) [
  | yes l ↦ f l
  | no d ↦ elim (ℕ_discrete (j % 6) 4) [
    | yes e ↦ g e
    | no n ↦ h (omega arith)
  ]
]

-- ---- tests of all numbers below n
pub every-start : (t : ℕ → Bool) → every 0 t ≡ true
unfolding every
every-start t = refl

pub every_more : (n : ℕ) (t : ℕ → Bool) → every (n + 1) t ≡ (every n t && t n)
unfolding every
every_more n t = rw add-one

pub every-at : (n : ℕ) (t : ℕ → Bool) (k : ℕ) → every n t ≡ true → k < n → t k ≡ true
unfolding every
every-at zero t k e h = absurd (not-suc-le-zero h)
every-at (suc n) t k e h =
    elim (ℕ_discrete k n) [
      | yes q ↦ rw q (and_right (every n t) (t n) e)
      | no d ↦ every-at n t k (and_left (every n t) (t n) e) (omega arith)
    ]

pub every-all : (n : ℕ) (t : ℕ → Bool) → ((k : ℕ) → k < n → t k ≡ true) → every n t ≡ true
unfolding every
every-all zero t h = refl
every-all (suc n) t h = and_both (every-all n t (λ k l. h k (omega arith))) (h n (omega arith))

-- ---- the words as a list
pub length-words : (xs : List ℕ) (n : ℕ) → length (words_to xs n) ≡ n
unfolding words_to
length-words xs zero = refl
length-words xs (suc n) = rw (length-append, length-words xs n) (omega arith)

pub words-at : (xs : List ℕ) (n j : ℕ) → j < n → get_or (words_to xs n) j 0 ≡ word_at xs j
unfolding words_to
words-at xs zero j h = absurd (not-suc-le-zero h)
words-at xs (suc n) j h = elim (ℕ_discrete j n) [
  | yes q ↦ rw q (get_or_at (words_to xs n) (word_at xs n) [] 0 n (length-words xs n))
  | no d ↦ let l : j < length (words_to xs n) = rw (length-words xs n) (omega arith) in rw (get_or-append (words_to xs n) (word_at xs n ∷ []) 0 j l) (words-at xs n j (omega arith))
]

pub length-summaries : (xs : List ℕ) → length (summaries_of xs) ≡ 96
unfolding summaries_of
length-summaries xs = length-words xs 96

pub summaries-at : (xs : List ℕ) (j : ℕ) → j < 96 → get_or (summaries_of xs) j 0 ≡ word_at xs j
unfolding summaries_of
summaries-at xs j h = words-at xs 96 j h

-- 96 words that are the map's, each of them, are its summaries
pub all_words : (ws xs : List ℕ) → length ws ≡ 96 → ((j : ℕ) → j < 96 → get_or ws j 0 ≡ word_at xs j) → ws ≡ summaries_of xs
all_words ws xs l h = ext_get_or 0 ws (summaries_of xs) (l ∙ sym (length-summaries xs)) (λ i k. h i (omega arith) ∙ sym (summaries-at xs i (omega arith)))

-- ---- a word stored: d is what the loop has, d' what it then has
pub words_more : (ws xs : List ℕ) (n v : ℕ) → n < length ws → ((k : ℕ) → k < n → get_or ws k 0 ≡ word_at xs k) → v ≡ word_at xs n → (k : ℕ) → k < n + 1 → get_or (set ws n v) k 0 ≡ word_at xs k
words_more ws xs n v l h e k b = elim (ℕ_discrete k n) [
  | yes q ↦ rw (q, get_or-set_same ws n v 0 l) e
  | no d ↦ rw (get_or-set_other ws n k v 0 d) (h k (omega arith))
]
