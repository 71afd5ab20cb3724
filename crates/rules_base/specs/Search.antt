-- The first dirty chunk of a member's row at or after a start: by reading the row, and by going down the levels of its summary.
use Rattle.std.specs.Prelude.{Bool, ◌&&◌, List, ℕ, zero, suc, ◌+◌, ◌-◌, ◌*◌, ◌^◌, ltb, Option, Some, None}
use Rattle.laws_words.specs.Words.{pick}
use Rattle.rules_base.specs.Summary.{is_dirty, lit}
use Rattle.rules_base.specs.declared.Sought.{Sought}

-- ---- by reading the row
-- the first of the n numbers from a on that passes the test
unfoldable pub first_in : (ℕ → Bool) → ℕ → ℕ → Option ℕ
first_in t a zero = None
first_in t a (suc n) = pick (t a) (Some a) (first_in t (suc a) n)

-- the first dirty chunk at or after the start, of a row of n chunks
unfoldable pub first_dirty : List ℕ → ℕ → ℕ → ℕ → Option ℕ
first_dirty xs m start n = first_in (is_dirty xs m) start (n - start)

-- ---- by the summary
abbrev pub sought : Option ℕ → ℕ → Sought
sought f n = record { found = f; looked = n }

-- n places more were looked at
abbrev pub plus : ℕ → Sought → Sought
plus n s = sought s.found (n + s.looked)

-- what was found after n looks, or else what is sought on
abbrev pub or_else : Option ℕ → ℕ → Sought → Sought
or_else (Some c) n s = sought (Some c) n
or_else None n s = plus n s

-- the first finding of f at the n numbers from a on
unfoldable pub among : (ℕ → Sought) → ℕ → ℕ → Sought
among f a zero = sought None 0
among f a (suc n) = or_else (f a).found (f a).looked (among f (suc a) n)

-- the search goes down at place i of level l: its bit is set, and not all that stands under it is before the start
unfoldable pub opens : List ℕ → List ℕ → ℕ → ℕ → ℕ → ℕ → Bool
opens words xs m start l i = lit words xs m l i && ltb start (16 ^ l * (i + 1))

-- What the search finds under place i of level l, and at how many places it looks, this one with them: nothing where it does not go down; a chunk that is dirty; else the first finding of the 16 places
-- below, which are looked at one after the other.
unfoldable pub searched : List ℕ → List ℕ → ℕ → ℕ → ℕ → ℕ → Sought
searched words xs m start zero i = sought (pick (opens words xs m start zero i) (Some i) None) 1
searched words xs m start (suc l) i = pick (opens words xs m start (suc l) i) (plus 1 (among (searched words xs m start l) (16 * i) 16)) (sought None 1)

-- from the root of member m's row
unfoldable pub row_searched : List ℕ → List ℕ → ℕ → ℕ → Sought
row_searched words xs m start = searched words xs m start 3 0
