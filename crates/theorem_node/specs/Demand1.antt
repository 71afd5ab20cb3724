-- Demand 1 for the node: every event, at any state value, with any numbers and any lent bytes, gives an answer; a refusal is the first of document 01's table
-- that applies, and changes nothing.
use Rattle.std.specs.Prelude.{◌≡◌, Bool, true, false, List, ℕ}
use Rattle.rules_base.specs.Order.{First, None}
use Rattle.rules_node.specs.declared.Answer.{Answer}
use Rattle.rules_node.specs.Face.{StorageNode}
use Rattle.rules_node.specs.Events.{Event}
use Rattle.rules_node.specs.Turns.{is_accepted}
use Rattle.rules_node.specs.Face.{answers, map_left, staging_left}
use Rattle.theorem_node.specs.Tests.{tests_of}

-- A refusal's number is the first that applies; state, map and staging are as they were. A node sends no messages.
pub record Refuses (e : Event) (s : StorageNode) (xs ys : List ℕ) (n : ℕ) : Type 0 where
  pub first : First (tests_of e s xs ys) n
  pub node : (answers e s xs ys).node ≡ s
  pub map : map_left e s xs ys ≡ xs
  pub staging : staging_left e s xs ys ≡ ys

-- Every answer is a refusal, which is then the first that applies and changes nothing; or it is none, and then no number applies.
pub data Verdict (e : Event) (s : StorageNode) (xs ys : List ℕ) : Type 0 where
  refused : (n : ℕ) → (answers e s xs ys).answer ≡ Answer.Refused n → Refuses e s xs ys n → Verdict e s xs ys
  done : is_accepted (answers e s xs ys).answer ≡ true → None (tests_of e s xs ys) → Verdict e s xs ys

-- Assumed: nothing. xs are the map's bytes, ys those of staging, of any length.
abbrev pub Demand1 : Type 0
Demand1 = (e : Event) (s : StorageNode) (xs ys : List ℕ) → Verdict e s xs ys
