-- How a turn is put together: refused, or done.
use Rattle.std.specs.Prelude.{Bool, true, false, not, List, ◌∷◌, ℕ, eqb}
use Rattle.laws_words.specs.Words.{pick}
use Rattle.rules_base.specs.Refusals.{Test, test}
use Rattle.rules_node.specs.declared.OnMap.{OnMap}
use Rattle.rules_node.specs.declared.OnStaging.{OnStaging}
use Rattle.rules_node.specs.declared.Effect.{Effect}
use Rattle.rules_node.specs.declared.Answer.{Answer}
use Rattle.rules_node.specs.declared.Node.{Node}
use Rattle.rules_node.specs.declared.Turn.{Turn}
use Rattle.rules_node.specs.StateRules.{valid}

-- What every event of a node tests before its own tests: the state rules, and what the lent maps refuse with: 2 or 18, and 0 where they do not. The one place where all are named.
abbrev pub common_tests : Node → ℕ → List Test → List Test
common_tests n lent own = test 1 (not (valid n)) ∷ test 2 (eqb lent 2) ∷ test 18 (eqb lent 18) ∷ own

-- what is done to map and staging
abbrev pub does : OnMap → OnStaging → Effect
does m s = record { map = m; staging = s }

-- both maps stay
abbrev pub nothing : Effect
nothing = does OnMap.Keep OnStaging.Keep

abbrev pub turn : Answer → Node → Effect → Turn
turn a n e = record { answer = a; node = n; effect = e }

-- refused with a number: the state and both maps stay
abbrev pub refused : ℕ → Node → Turn
refused why n = turn (Answer.Refused why) n nothing

-- the turn t of an event at the node n, whose refusal is why (0: none)
unfoldable pub settled : ℕ → Node → Turn → Turn
settled why n t = pick (eqb why 0) t (refused why n)

-- whether an answer is none of the refusals
abbrev pub is_accepted : Answer → Bool
is_accepted (Answer.Refused n) = false
is_accepted Answer.Done = true
is_accepted (Answer.Version v) = true
