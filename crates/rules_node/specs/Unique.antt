-- A node's contracts leave nothing open.
use Rattle.std.specs.Prelude.{◌≡◌, List, ℕ}
use Rattle.rules_node.specs.Face.{StorageNode}
use Rattle.rules_node.specs.Face.{Out}
use Rattle.rules_node.specs.Events.{Event}
use Rattle.rules_node.specs.Face.{fresh_node, answers, map_left, staging_left}

-- what the contract of an event's method says of what it hands back and of the bytes that it leaves in map and staging
pub record Meets (e : Event) (s : StorageNode) (xs ys : List ℕ) (r : Out) (map staging : List ℕ) : Type 0 where
  pub answer : r ≡ answers e s xs ys
  pub map_is : map ≡ map_left e s xs ys
  pub staging_is : staging ≡ staging_left e s xs ys

-- Two that meet it are equal: answer, next state, every byte of map and staging.
abbrev pub OneAnswer : Type 0
OneAnswer = (e : Event) (s : StorageNode) (xs ys : List ℕ) (r r' : Out) (map map' staging staging' : List ℕ)
    → Meets e s xs ys r map staging
    → Meets e s xs ys r' map' staging'
    → (r ≡ r') × (map ≡ map') × (staging ≡ staging')

-- and so are two fresh nodes
abbrev pub OneFresh : Type 0
OneFresh = (id chunks : ℕ) (r r' : StorageNode) → r ≡ fresh_node id chunks → r' ≡ fresh_node id chunks → r ≡ r'
