-- The tests of an event at a node with its two maps: its refusal is the first of them that applies.
use Rattle.std.specs.Prelude.{List, ℕ}
use Rattle.rules_base.specs.Refusals.{Test}
use Rattle.rules_node.specs.Face.{StorageNode}
use Rattle.rules_node.specs.Events.{Event, tests_at}
use Rattle.rules_node.specs.Face.{lent_to}

abbrev pub tests_of : Event → StorageNode → List ℕ → List ℕ → List Test
tests_of e s xs ys = tests_at e s.node (lent_to s xs ys)
