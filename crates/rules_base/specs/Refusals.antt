-- Refusals: the first that applies, in one order for every event. 0 stands for none.
use Rattle.std.specs.Prelude.{Bool, false, ◌||◌, List, [], ◌∷◌, ℕ, eqb, Result, Ok, Err}
use Rattle.laws_words.specs.Words.{pick}
use Rattle.rules_base.specs.declared.Refusal.{Refusal}

-- The order in which the numbers are tried. 16 to 19, which requests after the base name, have their places.
abbrev pub places : List ℕ
places = 1 ∷ 2 ∷ 18 ∷ 3 ∷ 4 ∷ 5 ∷ 6 ∷ 7 ∷ 8 ∷ 9 ∷ 17 ∷ 10 ∷ 11 ∷ 19 ∷ 12 ∷ 13 ∷ 14 ∷ 15 ∷ 16 ∷ []

-- the number n has a place among them
abbrev pub has_place : ℕ → List ℕ → Bool
has_place n [] = false
has_place n (k ∷ ks) = eqb n k || has_place n ks

-- A number, and whether it applies to the event at hand.
pub record Test : Type 0 where
  pub number : ℕ
  pub holds : Bool

abbrev pub test : ℕ → Bool → Test
test n b = record { number = n; holds = b }

-- whether the number n applies: some test with that number holds
abbrev pub applies : ℕ → List Test → Bool
applies n [] = false
applies n (t ∷ ts) = pick (eqb n t.number) (applies n ts || t.holds) (applies n ts)

abbrev pub first_of : List ℕ → List Test → ℕ
first_of [] ts = 0
first_of (n ∷ ns) ts = pick (applies n ts) n (first_of ns ts)

-- The refusal of an event that has these tests; a number that it does not name does not apply.
abbrev pub refusal : List Test → ℕ
refusal ts = first_of places ts

-- The number of a refusal by its name,
abbrev pub number : Refusal → ℕ
number Refusal.BadState = 1
number Refusal.BadMap = 2
number Refusal.BadId = 3
number Refusal.BadChunk = 4
number Refusal.OtherPool = 5
number Refusal.JobInHand = 6
number Refusal.NoSession = 7
number Refusal.HasSession = 8
number Refusal.NotAllowed = 9
number Refusal.BadMembership = 10
number Refusal.NotNormal = 11
number Refusal.NotSyncable = 12
number Refusal.NotAwaited = 13
number Refusal.HighVersion = 14
number Refusal.NoTransfer = 15
number Refusal.BadPart = 16
number Refusal.TooLate = 17
number Refusal.BadSummary = 18
number Refusal.NoFreeId = 19
number Refusal.BadStatus = 20
number Refusal.BadRecord = 21

-- and of what comes of its tests: 0 where none refuses.
abbrev pub number_of : {A : Type 0} → Result A Refusal → ℕ
number_of (Ok a) = 0
number_of (Err why) = number why
