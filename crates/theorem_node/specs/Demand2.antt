-- Demand 2 for the node: the states and maps that can be reached, and what holds of them and of every event there.
use Rattle.std.specs.Prelude.{◌≡◌, ◌≢◌, true, List, ℕ, ◌≤◌}
use Rattle.rules_base.specs.Limits.{chunk_limit}
use Rattle.rules_base.specs.Map.{sound}
use Rattle.rules_base.specs.Summary.{agree}
use Rattle.rules_node.specs.declared.Answer.{Answer}
use Rattle.rules_node.specs.StateRules.{valid}
use Rattle.rules_node.specs.Table.{legal}
use Rattle.rules_node.specs.Face.{StorageNode}
use Rattle.rules_node.specs.Events.{Event, kind_of}
use Rattle.rules_node.specs.Face.{fresh_node, answers, map_left, staging_left}
use Rattle.rules_node.specs.Turns.{is_accepted}

-- A node with its map and staging is reached if it is a fresh one of any id, with 1 to 4,096 chunks and two sound maps, its summaries agreeing with the map (in which nothing is dirty
-- then), or what an event left of a reached one: any event, with any data, accepted or refused.
pub data Reached : StorageNode → List ℕ → List ℕ → Type 0 where
  start : (id chunks : ℕ) (xs ys : List ℕ) → 1 ≤ chunks → chunks ≤ chunk_limit → sound chunks xs ≡ true → sound chunks ys ≡ true
      → agree (fresh_node id chunks).summaries xs ≡ true
      → Reached (fresh_node id chunks) xs ys
  then : (s : StorageNode) (xs ys : List ℕ) (e : Event) → Reached s xs ys → Reached (answers e s xs ys).node (map_left e s xs ys) (staging_left e s xs ys)

-- Every reached node keeps the state rules, its two maps are sound, and its summaries agree with its map.
abbrev pub RulesKept : Type 0
RulesKept = (s : StorageNode) (xs ys : List ℕ) → Reached s xs ys
    → (valid s.node ≡ true) × (sound s.node.chunks xs ≡ true) × (sound s.node.chunks ys ≡ true) × (agree s.summaries xs ≡ true)

-- So refusal 1 is never given there.
abbrev pub NeverOne : Type 0
NeverOne = (s : StorageNode) (xs ys : List ℕ) → Reached s xs ys → (e : Event) (n : ℕ) → (answers e s xs ys).answer ≡ Answer.Refused n → n ≢ 1

-- Nor is refusal 2.
abbrev pub NeverTwo : Type 0
NeverTwo = (s : StorageNode) (xs ys : List ℕ) → Reached s xs ys → (e : Event) (n : ℕ) → (answers e s xs ys).answer ≡ Answer.Refused n → n ≢ 2

-- Nor is 18.
abbrev pub NeverEighteen : Type 0
NeverEighteen = (s : StorageNode) (xs ys : List ℕ) → Reached s xs ys → (e : Event) (n : ℕ) → (answers e s xs ys).answer ≡ Answer.Refused n → n ≢ 18

-- Every accepted event at a reached node changes its state only along source document 003's table.
abbrev pub ByTheTable : Type 0
ByTheTable = (s : StorageNode) (xs ys : List ℕ) → Reached s xs ys → (e : Event) → is_accepted (answers e s xs ys).answer ≡ true
    → legal (kind_of e) s.node.state (answers e s xs ys).node.node.state ≡ true
