-- What must hold of what is printed. Each is a type; proofs/Laws.antt has its proof under the same name in small letters.
use Rattle.std.specs.Prelude.{◌≡◌, List, [], ◌∷◌, ℕ, zero, suc, ◌≤◌, length}
use Rattle.text_bytes.specs.Ink.{joined}
use Rattle.compare_say.specs.Said.{member_text, head_text, answer_text}

-- the texts of n members from m on
abbrev pub member_texts : List ℕ → List ℕ → ℕ → ℕ → List (List ℕ)
member_texts xs ys m zero = []
member_texts xs ys m (suc n) = member_text xs ys m ∷ member_texts xs ys (suc m) n

-- The head and the texts of the sixteen members, one after the other, are the whole answer.
abbrev pub Printed : Type 0
Printed = (xs ys : List ℕ) → joined (head_text xs ys ∷ member_texts xs ys 0 16) ≡ answer_text xs ys

-- A buffer of 40,960 bytes cuts nothing of them.
pub record Fits : Type 0 where
  pub head : (xs ys : List ℕ) → length (head_text xs ys) ≤ 40960
  pub member : (xs ys : List ℕ) (m : ℕ) → length (member_text xs ys m) ≤ 40960
