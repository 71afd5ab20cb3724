-- How every client event ends: refused, or accepted by the one exit that sees the state before and after.
use Rattle.std.specs.Prelude.{Bool, ℕ}
use Rattle.laws_words.specs.Words.{pick}
use Rattle.rules_pool.specs.declared.Roster.{Roster}
use Rattle.rules_pool.specs.declared.Pool.{Pool}
use Rattle.rules_pool.specs.declared.Message.{Message}
use Rattle.rules_pool.specs.declared.Told.{Told}
use Rattle.rules_pool.specs.declared.Outcome.{Outcome}
use Rattle.rules_pool.specs.declared.Answer.{Answer}
use Rattle.rules_pool.specs.declared.Effect.{Effect}
use Rattle.rules_pool.specs.declared.Turn.{Turn}
use Rattle.rules_pool.specs.Session.{is_nothing}
use Rattle.rules_pool.specs.Recovery.{with_roster, removal_ended, tried}

-- A refusal leaves the state and the client map as they were, with no message.
abbrev pub refused : Pool → ℕ → Turn
refused p n = record { answer = Answer.Refused n; pool = p; effect = Effect.Keep }

-- the number that goes with an awaited message: that of the last awaited one, 0 beside none
abbrev pub number_of : Message → ℕ → ℕ
number_of m n = pick (is_nothing m) 0 n

-- An accepted event: the state before and after, what it reports, the messages not awaited, the awaited one, and what is done to the client map. Nothing
-- looks at the state before yet: it waits for a rule that compares the two.
abbrev pub accepted : Pool → Pool → Outcome → Told → Message → Effect → Turn
accepted before after outcome told awaited effect =
    record {
      answer = Answer.Done (record { outcome = outcome; told = told; awaited = awaited; number = number_of awaited after.number });
      pool = after;
      effect = effect;
    }

-- an accepted event that changes the sessions and awaits nothing
abbrev pub changed : Pool → Roster → Told → Turn
changed p ro told = accepted p (with_roster p ro) Outcome.Plain told Message.Nothing Effect.Keep

-- An accepted event after which recovery is tried; the event stands if no run begins.
abbrev pub tried_with : Pool → Pool → Outcome → Told → Effect → Turn
tried_with before after outcome told effect = accepted before (tried after).pool outcome told (tried after).awaited effect

-- one that does nothing to the client map
abbrev pub tried_after : Pool → Pool → Outcome → Told → Turn
tried_after before after outcome told = tried_with before after outcome told Effect.Keep

-- A removal whose awaited peer is lost halts: no job is in hand. What is owed stands in the session.
abbrev pub halted_if : Bool → Pool → Pool
halted_if lost p = pick lost (removal_ended p) p
