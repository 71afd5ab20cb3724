-- The summaries through every event of a node, and the search by them.
use Rattle.std.specs.Prelude.{◌≡◌, true, List, ℕ}
use Rattle.rules_base.specs.Order.{First, None}
use Rattle.rules_base.specs.Summary.{summaries_of, agree}
use Rattle.rules_base.specs.Search.{first_dirty}
use Rattle.rules_node.specs.declared.Next.{Next}
use Rattle.rules_node.specs.Next.{next_tests}
use Rattle.rules_node.specs.Face.{StorageNode}
use Rattle.rules_node.specs.Events.{Event}
use Rattle.rules_node.specs.Face.{lent_to, answers, map_left, next_at}
use Rattle.rules_node.specs.Turns.{is_accepted}

-- Every event keeps the summaries true of the map that it leaves: any event, at any node with any maps, accepted or refused.
abbrev pub SummariesKept : Type 0
SummariesKept = (e : Event) (s : StorageNode) (xs ys : List ℕ) → agree s.summaries xs ≡ true → agree (answers e s xs ys).node.summaries (map_left e s xs ys) ≡ true

-- Only where they agree is an event accepted, and then they are those of the map that it leaves.
abbrev pub SummariesLeft : Type 0
SummariesLeft = (e : Event) (s : StorageNode) (xs ys : List ℕ) → is_accepted (answers e s xs ys).answer ≡ true
    → (agree s.summaries xs ≡ true) × ((answers e s xs ys).node.summaries ≡ summaries_of (map_left e s xs ys))

-- The next dirty chunk of a member's row, at any node with any maps and any numbers: a refusal is the first number that applies; else none applies, and the answer is that of reading the row up to
-- the node's chunk count. Either way the node stays.
pub data Asked (s : StorageNode) (xs ys : List ℕ) (member start : ℕ) : Type 0 where
  refused : (n : ℕ) → (next_at s xs ys member start).answer ≡ Next.Refused n → First (next_tests s.node (lent_to s xs ys) member start) n → Asked s xs ys member start
  found : (next_at s xs ys member start).answer ≡ Next.Is (first_dirty xs member start s.node.chunks) → None (next_tests s.node (lent_to s xs ys) member start) → Asked s xs ys member start

abbrev pub NextDirty : Type 0
NextDirty = (s : StorageNode) (xs ys : List ℕ) (member start : ℕ) → Asked s xs ys member start × ((next_at s xs ys member start).node ≡ s)
