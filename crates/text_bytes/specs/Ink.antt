-- A buffer and the place of the next byte. A byte for which there is no room is not put.
use Rattle.std.specs.Prelude.{ℕ, zero, suc, ◌+◌, ◌/◌, ◌%◌, List, [], ◌∷◌, ◌++◌, length, set, ltb}
use Rattle.laws_words.specs.Words.{pick}

pub record Ink : Type 0 where
  pub buf : List ℕ
  pub at : ℕ

abbrev pub ink : List ℕ → ℕ → Ink
ink xs n = record { buf = xs; at = n }

unfoldable pub emit : Ink → ℕ → Ink
emit k b = pick (ltb k.at (length k.buf)) (ink (set k.buf k.at b) (k.at + 1)) k

unfoldable pub emits : Ink → List ℕ → Ink
emits k [] = k
emits k (b ∷ bs) = emits (emit k b) bs

-- Several texts after each other.
abbrev pub emits_all : Ink → List (List ℕ) → Ink
emits_all k [] = k
emits_all k (s ∷ ss) = emits_all (emits k s) ss

unfoldable pub joined : List (List ℕ) → List ℕ
joined [] = []
joined (s ∷ ss) = s ++ joined ss

-- n in decimal in front of rest, of at most f digits
unfoldable pub dec_from : ℕ → ℕ → List ℕ → List ℕ
dec_from zero n rest = rest
dec_from (suc f) n rest = pick (ltb n 10) ((48 + n) ∷ rest) (dec_from f (n / 10) ((48 + n % 10) ∷ rest))

unfoldable pub decimal : ℕ → List ℕ
decimal n = dec_from 20 n []
