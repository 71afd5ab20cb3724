-- Words compared, and numbers that fit fewer bits.
use Rattle.std.specs.Prelude.{Bool, true, ◌&&◌, List, ℕ, zero, suc, eqb, ltb, get_or}
use Rattle.laws_words.specs.Words.{pick}

-- the first n of two lists are the same
unfoldable pub same_to : List ℕ → List ℕ → ℕ → Bool
same_to xs ys zero = true
same_to xs ys (suc n) = same_to xs ys n && eqb (get_or xs n 0) (get_or ys n 0)

-- a number below a bound, else 0
abbrev pub within : ℕ → ℕ → ℕ
within bound w = pick (ltb w bound) w 0
