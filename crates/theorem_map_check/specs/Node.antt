-- Map check at the member's own node, and what a zeroed client row says of it (document 02, C-17).
use Rattle.std.specs.Prelude.{◌≡◌, Bool, true, List, ℕ, ◌<◌}
use Rattle.rules_base.specs.Order.{First, None}
use Rattle.rules_base.specs.Chunk.{dirty}
use Rattle.rules_node.specs.States.{is_normal}
use Rattle.rules_node.specs.declared.Checked.{Checked}
use Rattle.rules_node.specs.Check.{check_tests}
use Rattle.rules_node.specs.Face.{StorageNode}
use Rattle.rules_node.specs.Face.{lent_to, checked}
use Rattle.rules_client.specs.Client.{Client}
use Rattle.theorem_client.specs.Reached.{Reached}
use Rattle.theorem_map_check.specs.Checks.{Zeroes}

-- Demand 1 of map check at a node: it is refused by the first that applies, or by none and then answered. That node and maps stay, its contract says.
pub data Verdict (s : StorageNode) (xs ys : List ℕ) : Type 0 where
  refused : (n : ℕ) → (checked s xs ys).answer ≡ Checked.Refused n → First (check_tests s.node (lent_to s xs ys)) n → Verdict s xs ys
  answered : (empty : Bool) → (checked s xs ys).answer ≡ Checked.Empty empty → None (check_tests s.node (lent_to s xs ys)) → Verdict s xs ys

abbrev pub Demand1 : Type 0
Demand1 = (s : StorageNode) (xs ys : List ℕ) → Verdict s xs ys

-- The answer of member m's own node, when it gave it: the node, its map and its staging map then.
pub record Gave (m : ℕ) (empty : Bool) : Type 0 where
  pub node : StorageNode
  pub map : List ℕ
  pub staging : List ℕ
  pub own : node.node.id ≡ m
  pub answer : (checked node map staging).answer ≡ Checked.Empty empty

-- it was NORMAL, and no chunk was dirty for itself
pub record Clean (m : ℕ) (s : StorageNode) (xs : List ℕ) : Type 0 where
  pub normal : is_normal s.node.state ≡ true
  pub row : (k : ℕ) → k < 4096 → dirty xs m k ≡ 0

-- "When this check zeroes a client row, the member's own node, keeping the rules, had an empty row for itself when it gave the second answer." The answer that the client takes is the one that
-- the node gave. Refused: a node that is not NORMAL and answers empty, one that answers for another row.
abbrev pub EmptyThen : Type 0
EmptyThen = (c : Client) → Reached c → (xs : List ℕ) (number m : ℕ) (empty : Bool) → (g : Gave m empty) → Zeroes c xs number m empty m → Clean m g.node g.map

-- With one answer the same would hold: every empty answer says it of the node that gave it. So two in a row add nothing to the sentence above.
abbrev pub OneWouldDo : Type 0
OneWouldDo = (m : ℕ) (g : Gave m true) → Clean m g.node g.map
