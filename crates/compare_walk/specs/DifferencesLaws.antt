-- What must hold of the list of differences and of the walk. Each is a type; the files of proofs/ have its proof under the same name in small letters.
use Rattle.std.specs.Prelude.{◌≡◌, ◌⊎◌, Ok, Err, Some, None, List, [], ◌∷◌, ℕ, ◌≤◌, ◌<◌, length, replicate, set}
use Rattle.rules_base.specs.Chunk.{dirty}
use Rattle.compare_walk.specs.declared.differences.Difference.{Difference}
use Rattle.compare_walk.specs.declared.differences.Dump.{Dump}
use Rattle.rules_base.specs.declared.Refusal.{Refusal}
use Rattle.compare_walk.specs.Differences.{next_difference, list_from, differences, walk}

-- d is in the list
abbrev pub In : Difference → List Difference → Type 0
In d [] = ⊥
In d (e ∷ es) = (d ≡ e) ⊎ In d es

abbrev pub difference : ℕ → ℕ → Dump → Difference
difference m c w = record { member = m; chunk = c; which = w }

-- ---- the list: complete, nothing else, sorted, each once
-- Every member's chunk that is dirty in the first dump only is listed with the first, in the second only with the second.
pub record Complete : Type 0 where
  pub first : (xs ys : List ℕ) (m c : ℕ) → dirty xs m c ≡ 1 → dirty ys m c ≡ 0 → In (difference m c Dump.First) (differences xs ys)
  pub second : (xs ys : List ℕ) (m c : ℕ) → dirty xs m c ≡ 0 → dirty ys m c ≡ 1 → In (difference m c Dump.Second) (differences xs ys)

-- What is listed is dirty in exactly the one that it says.
abbrev pub Differs : List ℕ → List ℕ → Difference → Type 0
Differs xs ys d =
    ((d.which ≡ Dump.First) × (dirty xs d.member d.chunk ≡ 1) × (dirty ys d.member d.chunk ≡ 0))
    ⊎ ((d.which ≡ Dump.Second) × (dirty xs d.member d.chunk ≡ 0) × (dirty ys d.member d.chunk ≡ 1))

abbrev pub NothingElse : Type 0
NothingElse = (xs ys : List ℕ) (d : Difference) → In d (differences xs ys) → Differs xs ys d

-- d comes before e: by member, then chunk
abbrev pub Before : Difference → Difference → Type 0
Before d e = (d.member < e.member) ⊎ ((d.member ≡ e.member) × (d.chunk < e.chunk))

-- Each comes before all those behind it, so the list is ascending and has each member's chunk once.
abbrev pub Ascending : List Difference → Type 0
Ascending [] = Unit {0}
Ascending (d ∷ ds) = ((e : Difference) → In e ds → Before d e) × Ascending ds

abbrev pub Sorted : Type 0
Sorted = (xs ys : List ℕ) → Ascending (differences xs ys)

-- ---- the walk
-- Of two dumps of 8,192 bytes the walk from member 0's chunk 0 is the list, and 65,536 questions are enough.
abbrev pub Walked : Type 0
Walked = (xs ys : List ℕ) (n : ℕ) → length xs ≡ 8192 → length ys ≡ 8192 → 65536 ≤ n → walk n xs ys 0 0 ≡ differences xs ys

-- The refusals: a dump of another length, whatever the member; then a member above 15.
pub record Refusals : Type 0 where
  pub short : (xs ys : List ℕ) (m c : ℕ) → ((length xs ≡ 8192 → ⊥) ⊎ (length ys ≡ 8192 → ⊥)) → next_difference xs ys m c ≡ Err Refusal.BadMap
  pub no_member : (xs ys : List ℕ) (m c : ℕ) → length xs ≡ 8192 → length ys ≡ 8192 → 16 ≤ m → next_difference xs ys m c ≡ Err Refusal.BadId

-- ---- the ends of rows, computed: in a byte 1 is its first chunk, 128 its last
abbrev pub empty : List ℕ
empty = replicate 8192 0

-- dirty: chunk 4,095 of member 0 and chunk 0 of member 1
abbrev pub early : List ℕ
early = set (set empty 511 128) 512 1

-- dirty: chunk 4,095 of member 15
abbrev pub late : List ℕ
late = set empty 8191 128

pub record Ends : Type 0 where
  pub last-of-a-row : next_difference early empty 0 4000 ≡ Ok (Some (difference 0 4095 Dump.First))
  pub first-of-the-next : next_difference empty early 0 4096 ≡ Ok (Some (difference 1 0 Dump.Second))
  pub last-of-all : next_difference empty late 15 4000 ≡ Ok (Some (difference 15 4095 Dump.Second))
  pub dirty-in-both : next_difference late late 15 4000 ≡ Ok None
  pub after-the-last : next_difference empty late 15 4096 ≡ Ok None
  pub across-a-row : list_from early empty 4090 10 ≡ difference 0 4095 Dump.First ∷ difference 1 0 Dump.First ∷ []
