-- The first refusal that applies, and that none does, said of the tests of any event.
use Rattle.std.specs.Prelude.{◌≡◌, ◌≢◌, true, false, List, ◌∷◌, ℕ, ◌<◌, length, get_or}
use Rattle.rules_base.specs.Refusals.{Test, places, has_place, applies, refusal}

-- A test with the number n is among them, and holds.
pub data Given (n : ℕ) : List Test → Type 0 where
  here : {t : Test} {ts : List Test} → t.number ≡ n → t.holds ≡ true → Given n (t ∷ ts)
  later : {t : Test} {ts : List Test} → Given n ts → Given n (t ∷ ts)

-- What `applies` says, of any number and any tests, several with one number among them.
abbrev pub SomeApplies : Type 0
SomeApplies = (n : ℕ) (ts : List Test) → (applies n ts ≡ true → Given n ts) × (Given n ts → applies n ts ≡ true)

-- The number n is the first of the tests that applies: it stands at a place of document 01's order, it applies, and none at an earlier place does.
pub record First (ts : List Test) (n : ℕ) : Type 0 where
  pub place : ℕ
  pub listed : place < length places
  pub number : get_or places place 0 ≡ n
  pub given : applies n ts ≡ true
  pub before : (i : ℕ) → i < place → applies (get_or places i 0) ts ≡ false

-- None of document 01's numbers applies.
abbrev pub None : List Test → Type 0
None ts = (n : ℕ) → has_place n places ≡ true → applies n ts ≡ false

-- What `refusal` gives, of any tests: the first that applies; 0 where none does.
abbrev pub FirstApplies : Type 0
FirstApplies = (ts : List Test) → refusal ts ≢ 0 → First ts (refusal ts)

abbrev pub NoneApplies : Type 0
NoneApplies = (ts : List Test) → refusal ts ≡ 0 → None ts
