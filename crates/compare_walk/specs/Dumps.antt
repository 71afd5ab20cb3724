-- Two map dumps, lists of bytes: what is refused of them, and a member's row from the one with the higher version. Both have a meaning at lists of any length and at any number.
use Rattle.std.specs.Prelude.{Result, Ok, Err, not, ◌||◌, List, [], ◌∷◌, ℕ, eqb, ltb, length}
use Rattle.laws_words.specs.Words.{pick}
use Rattle.rules_base.specs.Limits.{map_bytes}
use Rattle.rules_base.specs.Refusals.{test, refusal}
use Rattle.rules_base.specs.Map.{row_of}
use Rattle.rules_base.specs.declared.Refusal.{Refusal}

-- 2 where a dump is not of 8,192 bytes, then 3 where the member is above 15; 0 for none
unfoldable pub dumps_refusal : List ℕ → List ℕ → ℕ → ℕ
dumps_refusal xs ys m = refusal (test 2 (not (eqb (length xs) map_bytes) || not (eqb (length ys) map_bytes)) ∷ test 3 (ltb 15 m) ∷ [])

-- the refusal of a number
abbrev pub refused_by : ℕ → Refusal
refused_by n = pick (eqb n 2) Refusal.BadMap Refusal.BadId

-- two dumps and a member are taken, or refused
unfoldable pub dumps_taken : List ℕ → List ℕ → ℕ → Result (Unit {0}) Refusal
dumps_taken xs ys m = pick (eqb (dumps_refusal xs ys m) 0) (Ok tt) (Err (refused_by (dumps_refusal xs ys m)))

-- member m's row of the dump with the higher version, of the first at a tie; no bytes where the two are refused
unfoldable pub newer_row : List ℕ → ℕ → List ℕ → ℕ → ℕ → List ℕ
newer_row xs v ys w m = pick (eqb (dumps_refusal xs ys m) 0) (row_of (pick (ltb v w) ys xs) m) []
