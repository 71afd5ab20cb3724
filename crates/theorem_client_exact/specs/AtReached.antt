-- At every reached client.
use Rattle.std.specs.Prelude.{◌≡◌, ◌↔◌, ℕ}
use Rattle.rules_pool.specs.declared.Answer.{Answer}
use Rattle.rules_client.specs.Client.{Client}
use Rattle.rules_client.specs.ClientEvents.{Event, out_of}
use Rattle.theorem_client.specs.Reached.{Reached}
use Rattle.theorem_client_exact.specs.Words.{Accepted, InOrder}
use Rattle.theorem_client_exact.specs.Accepted.{client_demands, All, FirstBroken}

-- Every reached client is in order.
abbrev pub ReachedInOrder : Type 0
ReachedInOrder = (c : Client) → Reached c → InOrder c.pool

-- So there an event is accepted exactly when all that it demands holds, and refused with the number of the first demand that does not hold: never 1.
abbrev pub AcceptedWhenReached : Type 0
AcceptedWhenReached = (e : Event) (c : Client) → Reached c → Accepted (out_of e c).answer ↔ All (client_demands e c)

abbrev pub NumberGivenReached : Type 0
NumberGivenReached = (e : Event) (c : Client) → Reached c → (n : ℕ) → ((out_of e c).answer ≡ Answer.Refused n) ↔ FirstBroken (client_demands e c) n
