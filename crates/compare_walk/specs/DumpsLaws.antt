-- What must hold of two dumps. Each is a type; proofs/Laws.antt has its proof under the same name in small letters.
use Rattle.std.specs.Prelude.{◌≡◌, List, [], ◌⊎◌, ℕ, ◌*◌, ◌≤◌, ◌<◌, length, take, drop}
use Rattle.rules_base.specs.Refusals.{number_of}
use Rattle.compare_walk.specs.Dumps.{dumps_refusal, dumps_taken, newer_row}

-- ---- refusals
-- A dump of another length is refused with 2, whatever the member.
abbrev pub Short : Type 0
Short = (xs ys : List ℕ) (m : ℕ) → ((length xs ≡ 8192 → ⊥) ⊎ (length ys ≡ 8192 → ⊥)) → dumps_refusal xs ys m ≡ 2

-- A member above 15 is refused with 3.
abbrev pub NoMember : Type 0
NoMember = (xs ys : List ℕ) (m : ℕ) → length xs ≡ 8192 → length ys ≡ 8192 → 16 ≤ m → dumps_refusal xs ys m ≡ 3

-- Nothing else is refused.
abbrev pub Taken : Type 0
Taken = (xs ys : List ℕ) (m : ℕ) → length xs ≡ 8192 → length ys ≡ 8192 → m < 16 → dumps_refusal xs ys m ≡ 0

-- The number of what is answered is the refusal's, and 0 where nothing is refused.
abbrev pub Numbered : Type 0
Numbered = (xs ys : List ℕ) (m : ℕ) → number_of (dumps_taken xs ys m) ≡ dumps_refusal xs ys m

-- ---- the newer row
-- Of two dumps that are refused it is empty.
abbrev pub Empty : Type 0
Empty = (xs ys : List ℕ) (v w m : ℕ) → (dumps_refusal xs ys m ≡ 0 → ⊥) → newer_row xs v ys w m ≡ []

-- Else it is the 512 bytes of the member's row: the second's where its version is higher,
abbrev pub FromSecond : Type 0
FromSecond = (xs ys : List ℕ) (v w m : ℕ) → dumps_refusal xs ys m ≡ 0 → v < w → newer_row xs v ys w m ≡ take 512 (drop (512 * m) ys)

-- the first's where its version is higher, and at a tie.
abbrev pub FromFirst : Type 0
FromFirst = (xs ys : List ℕ) (v w m : ℕ) → dumps_refusal xs ys m ≡ 0 → w ≤ v → newer_row xs v ys w m ≡ take 512 (drop (512 * m) xs)

abbrev pub Whole : Type 0
Whole = (xs ys : List ℕ) (v w m : ℕ) → dumps_refusal xs ys m ≡ 0 → length (newer_row xs v ys w m) ≡ 512
