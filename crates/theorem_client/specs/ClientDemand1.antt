-- Demand 1 for the client: every event, at any value, with any numbers and any lent bytes, gives an answer; a refusal is the first of document 01's table that applies, and changes nothing.
use Rattle.std.specs.Prelude.{◌≡◌, ℕ}
use Rattle.rules_base.specs.Order.{First, None}
use Rattle.rules_pool.specs.declared.Sent.{Sent}
use Rattle.rules_pool.specs.declared.Answer.{Answer}
use Rattle.rules_pool.specs.declared.Effect.{Effect}
use Rattle.rules_client.specs.Client.{Client}
use Rattle.rules_client.specs.ClientEvents.{Event, tests_of, out_of, next, effect_of, lent_to, map_left}

-- A refusal's number is the first that applies; client and lent map are as they were. An answer Refused carries no message.
pub record Refuses (e : Event) (c : Client) (n : ℕ) : Type 0 where
  pub first : First (tests_of e c) n
  pub client : next e c ≡ c
  pub effect : effect_of e c ≡ Effect.Keep
  pub map : map_left e c ≡ lent_to e

-- Every answer is a refusal, which is then the first that applies and changes nothing; or it is none, and then no number applies.
pub data Verdict (e : Event) (c : Client) : Type 0 where
  refused : (n : ℕ) → (out_of e c).answer ≡ Answer.Refused n → Refuses e c n → Verdict e c
  done : (s : Sent) → (out_of e c).answer ≡ Answer.Done s → None (tests_of e c) → Verdict e c

-- Assumed: nothing. The state may break every rule, the numbers may be anything, the bytes of any length.
abbrev pub Demand1 : Type 0
Demand1 = (e : Event) (c : Client) → Verdict e c
