-- Every node that can be reached is a node in order, so all that is said here of nodes in order holds there: which events are accepted, which number is given, what is answered.
use Rattle.rules_node.specs.Held.{Held}
use Rattle.theorem_node.specs.Demand2.{Reached}
use Rattle.theorem_node_exact.specs.Words.{InOrder}

abbrev pub InOrderReached : Type 0
InOrderReached = (w : Held) → Reached w.at w.map w.staging → InOrder w
