-- Two answers that meet a node's contract are equal.
use Rattle.rules_base.proofs.Order.{one_only}
use Rattle.rules_node.specs.Unique.{OneAnswer, OneFresh}

pub one_answer : OneAnswer
one_answer e s xs ys r r' map map' staging staging' p q =
    (one_only _ _ _ p.answer q.answer, one_only _ _ _ p.map_is q.map_is, one_only _ _ _ p.staging_is q.staging_is)

pub one-fresh : OneFresh
one-fresh id chunks r r' p q = one_only _ _ _ p q
