-- The node as the code declares it, and as the rules have it.
use Rattle.std.specs.Prelude.{List, ℕ}
use Rattle.rules_node.specs.declared.Answer.{Answer}
use Rattle.rules_node.specs.declared.Checked.{Checked}
use Rattle.rules_node.specs.declared.Next.{Next}
use Rattle.rules_node.specs.declared.Turn.{Turn}
use Rattle.rules_node.specs.Events.{Event}
use Rattle.rules_node.specs.Face as rules
use Rattle.node.specs.declared.StorageNode.{StorageNode}
use Rattle.node.specs.declared.Out.{Out}

abbrev pub held : StorageNode → rules.StorageNode
held s = record { node = s.node; summaries = s.summaries }

abbrev pub came : Out Answer → rules.Out
came r = record { answer = r.answer; node = held r.node }

abbrev pub made : rules.StorageNode → StorageNode
made s = record { node = s.node; summaries = s.summaries }

abbrev pub given : rules.Out → Out Answer
given r = record { answer = r.answer; node = made r.node }

abbrev pub fresh_node : ℕ → ℕ → StorageNode
fresh_node id chunks = made (rules.fresh_node id chunks)

abbrev pub handed : Turn → List ℕ → Out Answer
handed t words = given (rules.handed t words)

abbrev pub answers : Event → StorageNode → List ℕ → List ℕ → Out Answer
answers e s xs ys = given (rules.answers e (held s) xs ys)

abbrev pub map_left : Event → StorageNode → List ℕ → List ℕ → List ℕ
map_left e s xs ys = rules.map_left e (held s) xs ys

abbrev pub staging_left : Event → StorageNode → List ℕ → List ℕ → List ℕ
staging_left e s xs ys = rules.staging_left e (held s) xs ys

-- the node that is asked stays as it is
abbrev pub checked : StorageNode → List ℕ → List ℕ → Out Checked
checked s xs ys = record { answer = (rules.checked (held s) xs ys).answer; node = s }

abbrev pub next_at : StorageNode → List ℕ → List ℕ → ℕ → ℕ → Out Next
next_at s xs ys member start = record { answer = (rules.next_at (held s) xs ys member start).answer; node = s }
