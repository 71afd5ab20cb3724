-- Every reached node is in order.
use Rattle.theorem_node.proofs.Demand2.{rules-kept as kept_there}
use Rattle.theorem_node_exact.specs.Reached.{InOrderReached}
use Rattle.theorem_node_exact.proofs.Rules.{rules-kept, a-map}

pub in-order-reached : InOrderReached
in-order-reached w r =
    let (valid, map, staging, agrees) = kept_there w.at w.map w.staging r in
    record { rules = rules-kept w.at.node valid; map = a-map w.at.node.chunks w.map map; staging = a-map w.at.node.chunks w.staging staging; summaries = agrees }
