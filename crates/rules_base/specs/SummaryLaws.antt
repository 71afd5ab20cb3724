-- What must hold of the summaries. Each is a type; the files of proofs/ have its proof under the same name in small letters.
use Rattle.std.specs.Prelude.{◌≡◌, true, false, List, ℕ, ◌+◌, ◌*◌, ◌≤◌, ◌<◌, replicate}
use Rattle.rules_base.specs.Summary.{under, summaries_of, agree, base, size, is_set, is_place, lit}

-- The summaries that agree with a map are one list of words.
pub record OneSummary : Type 0 where
  pub own : (words xs : List ℕ) → agree words xs ≡ true → words ≡ summaries_of xs
  pub agrees : (xs : List ℕ) → agree (summaries_of xs) xs ≡ true

-- Where they agree, a place of any level is marked exactly when some chunk under it is dirty,
abbrev pub Meaning : Type 0
Meaning = (words xs : List ℕ) → agree words xs ≡ true → (m l i : ℕ) → is_place m l i ≡ true → lit words xs m l i ≡ under xs m l i

-- and every bit of a row's words that stands for no place is zero.
abbrev pub OthersZero : Type 0
OthersZero =
    (words xs : List ℕ)
    → agree words xs ≡ true
    → (m r : ℕ)
    → m < 16
    → r < 384
    → ((l : ℕ) → (l ≡ 0 → ⊥) → base l ≤ r → r < base l + size l → ⊥)
    → is_set words (384 * m + r) ≡ false

-- A map of zeros has summaries of zeros.
abbrev pub OfZeros : Type 0
OfZeros = (n : ℕ) → summaries_of (replicate n 0) ≡ replicate 96 0
