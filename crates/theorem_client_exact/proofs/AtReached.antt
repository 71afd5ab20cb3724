-- At every reached client.
use Rattle.laws_client.proofs.Pools.{valid-of}
use Rattle.theorem_client.proofs.Demand2.{reached-valid}
use Rattle.theorem_client.proofs.Reached.{pool-reached}
use Rattle.theorem_client_exact.specs.AtReached.{ReachedInOrder, AcceptedWhenReached, NumberGivenReached}
use Rattle.theorem_client_exact.proofs.Accepted.{accepted-when, number-given}

pub reached-in-order : ReachedInOrder
reached-in-order c r = let v = reached-valid c.pool (pool-reached c r) in record { rules = valid-of c.pool v; whole = v.ok.long }

pub accepted-when-reached : AcceptedWhenReached
accepted-when-reached e c r = accepted-when e c (reached-in-order c r)

pub number-given-reached : NumberGivenReached
number-given-reached e c r = number-given e c (reached-in-order c r)
