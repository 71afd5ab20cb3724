-- What a node answers to a question, its maps lent as far as the lab lends them. xs holds the maps of all nodes, ys their staging maps; they stay, and so does the node.
use Rattle.std.specs.Prelude.{List, ℕ}
use Rattle.event.specs.declared.Question.{Question}
use Rattle.rules_node.specs.declared.Checked.{Checked}
use Rattle.node.specs.declared.StorageNode.{StorageNode}
use Rattle.rules_node.specs.declared.Next.{Next}
use Rattle.node.specs.Face.{checked, next_at}
use Rattle.event_ask.specs.declared.lending.Lent.{Lent}
use Rattle.event_ask.specs.Lending.{map_of, staging_of}
use Rattle.event_ask.specs.declared.ask.Finding.{Finding}

abbrev pub of_check : Checked → Finding
of_check (Checked.Refused why) = Finding.Refused why
of_check (Checked.Empty empty) = Finding.Empty empty

abbrev pub of_next : Next → Finding
of_next (Next.Refused why) = Finding.Refused why
of_next (Next.Is found) = Finding.Next found

-- what the node answers with these maps
abbrev pub finding_of : Question → StorageNode → List ℕ → List ℕ → Finding
finding_of Question.MapCheck n xs ys = of_check (checked n xs ys).answer
finding_of (Question.Next member start) n xs ys = of_next (next_at n xs ys member start).answer

-- what node k answers, asked on the lent parts of its own maps
abbrev pub node_finds : StorageNode → ℕ → Lent → Question → List ℕ → List ℕ → Finding
node_finds n k lent q xs ys = finding_of q n (map_of lent k xs) (staging_of lent k ys)
