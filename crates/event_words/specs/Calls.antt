-- Why a call of the library is not made, and the number that it returns.
use Rattle.std.specs.Prelude.{Bool, ℕ, Option, Some, None, Result, Ok, Err}
use Rattle.laws_words.specs.Words.{pick}
use Rattle.event_words.specs.declared.words.Unmade.{Unmade}

abbrev pub number_of : Unmade → ℕ
number_of Unmade.State = 1
number_of Unmade.Event = 2

-- 0: the call was made. 1: the words are no state's. 2: the numbers are no event
abbrev pub error_of : Bool → Bool → ℕ
error_of known event = pick known (pick event 0 2) 1

-- a state of known words, and the numbers of an event
abbrev pub callable : {S : Type 0} → Option S → Bool → Result S Unmade
callable None event = Err Unmade.State
callable (Some state) event = pick event (Ok state) (Err Unmade.Event)
