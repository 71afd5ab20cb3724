-- Where two map dumps differ. The places of a map in order are its members' chunks: place 4096m + c is chunk c of member m, and there are 65,536. No chunk count is known here, so
-- every bit of a row counts.
use Rattle.std.specs.Prelude.{Result, Ok, Err, Option, Some, None, is_none, unwrap_or, Bool, List, [], ◌∷◌, ℕ, zero, suc, ◌+◌, ◌-◌, ◌*◌, ◌/◌, ◌%◌, min, eqb, ltb}
use Rattle.laws_words.specs.Words.{pick}
use Rattle.rules_base.specs.Chunk.{dirty}
use Rattle.compare_walk.specs.Dumps.{dumps_refusal, refused_by}
use Rattle.compare_walk.specs.declared.differences.Difference.{Difference}
use Rattle.compare_walk.specs.declared.differences.Dump.{Dump}
use Rattle.rules_base.specs.declared.Refusal.{Refusal}

-- the number of a dump, as it is printed
abbrev pub dump_number : Dump → ℕ
dump_number Dump.First = 1
dump_number Dump.Second = 2

-- the dump in which alone member m's chunk c is dirty; none where it is dirty in both or in neither
abbrev pub which_of : Bool → Bool → Option Dump
which_of a b = pick a (pick b None (Some Dump.First)) (pick b (Some Dump.Second) None)

unfoldable pub which : List ℕ → List ℕ → ℕ → ℕ → Option Dump
which xs ys m c = which_of (eqb (dirty xs m c) 1) (eqb (dirty ys m c) 1)

abbrev pub which_at : List ℕ → List ℕ → ℕ → Option Dump
which_at xs ys p = which xs ys (p / 4096) (p % 4096)

-- the difference at place p, where the dumps differ there: it is asked of no other
abbrev pub difference_at : List ℕ → List ℕ → ℕ → Difference
difference_at xs ys p = record { member = p / 4096; chunk = p % 4096; which = unwrap_or (which_at xs ys p) Dump.First }

-- the first of the n places from p on at which the dumps differ, and the place after them where they differ at none
unfoldable pub first_place : List ℕ → List ℕ → ℕ → ℕ → ℕ
first_place xs ys p zero = p
first_place xs ys p (suc n) = pick (is_none (which_at xs ys p)) (first_place xs ys (suc p) n) p

-- what is told of the place that was found
abbrev pub told : List ℕ → List ℕ → ℕ → Option Difference
told xs ys p = pick (ltb p 65536) (Some (difference_at xs ys p)) None

-- the place at which a search from member m's chunk c begins; after a row's last chunk that is the next row's first
abbrev pub place_of : ℕ → ℕ → ℕ
place_of m c = 4096 * m + min c 4096

-- the first difference at or after member m's chunk c; two dumps or a member that are refused give the refusal
unfoldable pub next_difference : List ℕ → List ℕ → ℕ → ℕ → Result (Option Difference) Refusal
next_difference xs ys m c = pick (eqb (dumps_refusal xs ys m) 0) (Ok (told xs ys (first_place xs ys (place_of m c) (65536 - place_of m c)))) (Err (refused_by (dumps_refusal xs ys m)))

-- ---- all of them
-- the differences at the n places from p on
unfoldable pub list_from : List ℕ → List ℕ → ℕ → ℕ → List Difference
list_from xs ys p zero = []
list_from xs ys p (suc n) = pick (is_none (which_at xs ys p)) (list_from xs ys (suc p) n) (difference_at xs ys p ∷ list_from xs ys (suc p) n)

unfoldable pub differences : List ℕ → List ℕ → List Difference
differences xs ys = list_from xs ys 0 65536

-- a difference that was found, with those that follow it
abbrev pub with_rest : Result (Option Difference) Refusal → (Difference → List Difference) → List Difference
with_rest (Err r) rest = []
with_rest (Ok (Some d)) rest = d ∷ rest d
with_rest (Ok None) rest = []

-- what n questions find, the first from member m's chunk c, each other from the chunk after the one that was found
unfoldable pub walk : ℕ → List ℕ → List ℕ → ℕ → ℕ → List Difference
walk zero xs ys m c = []
walk (suc n) xs ys m c = with_rest (next_difference xs ys m c) (λ d. walk n xs ys d.member (d.chunk + 1))
