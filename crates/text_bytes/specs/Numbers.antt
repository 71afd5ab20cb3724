-- A number in decimal, read from a list of bytes.
use Rattle.std.specs.Prelude.{ℕ, ◌+◌, ◌-◌, ◌*◌, List, [], ◌∷◌, Option, Some, None, leb}
use Rattle.laws_words.specs.Words.{pick}

abbrev pub most : ℕ
most = 18446744073709551615

-- acc with the digit b after it: None where b is no digit, or the number does not fit
unfoldable pub digit_of : ℕ → ℕ → Option ℕ
digit_of acc b = pick (leb 48 b) (pick (leb b 57) (pick (leb (acc * 10 + (b - 48)) most) (Some (acc * 10 + (b - 48))) None) None) None

-- what comes after a number, if it is one
abbrev pub then_num : Option ℕ → (ℕ → Option ℕ) → Option ℕ
then_num None k = None
then_num (Some v) k = k v

-- acc with all the digits of bs after it
unfoldable pub num_from : ℕ → List ℕ → Option ℕ
num_from acc [] = Some acc
num_from acc (b ∷ bs) = then_num (digit_of acc b) (λ v. num_from v bs)

unfoldable pub num_of : List ℕ → Option ℕ
num_of [] = None
num_of (b ∷ bs) = num_from 0 (b ∷ bs)
