-- Two answers that meet the client's contract are equal.
use Rattle.rules_base.proofs.Order.{one_only}
use Rattle.rules_client.specs.Unique.{OneAnswer, OneFresh}

pub one_answer : OneAnswer
one_answer e c r r' map map' p q = (one_only _ _ _ p.answer q.answer, one_only _ _ _ p.map_is q.map_is)

pub one-fresh : OneFresh
one-fresh sync chunks r r' p q = one_only _ _ _ p q
