-- Demand 1 for the client: every event, at any state value, with any numbers and any lent bytes, gives an answer; a refusal is the first of document 01's
-- table that applies, and changes nothing.
use Rattle.std.specs.Prelude.{◌≡◌, ℕ}
use Rattle.rules_base.specs.Order.{First, None}
use Rattle.rules_pool.specs.declared.Sent.{Sent}
use Rattle.rules_pool.specs.declared.Answer.{Answer}
use Rattle.rules_pool.specs.declared.Effect.{Effect}
use Rattle.rules_pool.specs.declared.Pool.{Pool}
use Rattle.rules_client.specs.Events.{Event, turn_of, next, lent_to, map_left, tests_of}

-- A refusal's number is the first that applies; client and lent map are as they were. An answer Refused carries no message.
pub record Refuses (e : Event) (c : Pool) (n : ℕ) : Type 0 where
  pub first : First (tests_of e c) n
  pub pool : next e c ≡ c
  pub effect : (turn_of e c).effect ≡ Effect.Keep
  pub map : map_left e c ≡ lent_to e

-- Every answer is a refusal, which is then the first that applies and changes nothing; or it is none, and then no number applies.
pub data Verdict (e : Event) (c : Pool) : Type 0 where
  refused : (n : ℕ) → (turn_of e c).answer ≡ Answer.Refused n → Refuses e c n → Verdict e c
  done : (s : Sent) → (turn_of e c).answer ≡ Answer.Done s → None (tests_of e c) → Verdict e c

-- Assumed: nothing. The state may break every rule, the numbers may be anything, the bytes of any length.
abbrev pub Demand1 : Type 0
Demand1 = (e : Event) (c : Pool) → Verdict e c
