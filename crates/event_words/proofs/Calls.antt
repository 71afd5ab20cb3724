-- What a call of the library returns, and what it is made on.
use Rattle.std.specs.Prelude.{Some, None, Ok, Err}
use mathlib.Core.Path.{◌≡◌, refl, sym, ap}
use mathlib.Core.Bool.{Bool, true, false}
use lib.Dec.{eqb}
use Rattle.laws_words.specs.Words.{pick}
use Rattle.event_words.specs.Calls.{number_of, error_of, callable}
use Rattle.event_words.specs.declared.words.Unmade.{Unmade}

-- a call that is not made returns the number that says why
pub unmade : {S : Type 0} (known event : Bool) (x : S) (why : Unmade) → callable (pick known (Some x) None) event ≡ Err why → number_of why ≡ error_of known event
unmade true true x why e = cc e
unmade true false x why e = let q : Unmade.Event ≡ why = cc in ap number_of (sym q)
unmade false event x why e = let q : Unmade.State ≡ why = cc in ap number_of (sym q)

pub some-number : (why : Unmade) → eqb (number_of why) 0 ≡ false
some-number Unmade.State = refl
some-number Unmade.Event = refl

-- a call that is made is one on known words, and on their state
pub made : {S : Type 0} (known event : Bool) (x y : S) → callable (pick known (Some x) None) event ≡ Ok y → (known ≡ true) × ((error_of known event ≡ 0) × (y ≡ x))
made true true x y e = let q : x ≡ y = cc in (refl, (refl, sym q))
made true false x y e = cc e
made false event x y e = cc e
