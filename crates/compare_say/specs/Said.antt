-- What is printed of two dumps.
use Rattle.std.specs.Prelude.{Result, Ok, Err, Option, Some, None, Bool, ◌&&◌, List, [], ◌∷◌, ℕ, ◌*◌, eqb, length}
use Rattle.laws_words.specs.Words.{pick}
use Rattle.text_bytes.specs.Bytes.{bytes}
use Rattle.text_bytes.specs.Ink.{decimal, joined}
use Rattle.rules_base.specs.Limits.{map_bytes}
use Rattle.rules_base.specs.Refusals.{number}
use Rattle.compare_walk.specs.Dumps.{dumps_refusal}
use Rattle.compare_walk.specs.declared.differences.Difference.{Difference}
use Rattle.rules_base.specs.declared.Refusal.{Refusal}
use Rattle.compare_walk.specs.Differences.{dump_number, next_difference, list_from, differences}

-- MEMBER CHUNK WHICH and a newline: 32 is a space, 10 the newline
abbrev pub line_text : Difference → List ℕ
line_text d = joined (decimal d.member ∷ (32 ∷ []) ∷ decimal d.chunk ∷ (32 ∷ []) ∷ decimal (dump_number d.which) ∷ (10 ∷ []) ∷ [])

unfoldable pub lines_text : List Difference → List ℕ
lines_text [] = []
lines_text (d ∷ ds) = joined (line_text d ∷ lines_text ds ∷ [])

-- the lines of member m's differences; none where the dumps or the member are refused
unfoldable pub member_text : List ℕ → List ℕ → ℕ → List ℕ
member_text xs ys m = pick (eqb (dumps_refusal xs ys m) 0) (lines_text (list_from xs ys (4096 * m) 4096)) []

-- what comes before the lines
abbrev pub head_of : Result (Option Difference) Refusal → List ℕ
head_of (Err r) = joined (bytes "refused " ∷ decimal (number r) ∷ (10 ∷ []) ∷ [])
head_of (Ok (Some d)) = []
head_of (Ok None) = joined (bytes "same" ∷ (10 ∷ []) ∷ [])

unfoldable pub head_text : List ℕ → List ℕ → List ℕ
head_text xs ys = head_of (next_difference xs ys 0 0)

-- ---- all of it
abbrev pub list_text : List Difference → List ℕ
list_text [] = joined (bytes "same" ∷ (10 ∷ []) ∷ [])
list_text (d ∷ ds) = lines_text (d ∷ ds)

-- the dumps are of 8,192 bytes
abbrev pub both_whole : List ℕ → List ℕ → Bool
both_whole xs ys = eqb (length xs) map_bytes && eqb (length ys) map_bytes

-- `refused 2` for a dump of another length, `same` where there are no differences, else a line for each
unfoldable pub answer_text : List ℕ → List ℕ → List ℕ
answer_text xs ys = pick (both_whole xs ys) (list_text (differences xs ys)) (joined (bytes "refused 2" ∷ (10 ∷ []) ∷ []))
