-- The node with its lent maps: xs the map's bytes, ys those of staging. An event gives an answer and the next state, and leaves both maps.
use Rattle.std.specs.Prelude.{◌≡◌, true, not, ◌&&◌, List, ℕ, eqb, length, replicate}
use Rattle.laws_words.specs.Words.{pick}
use Rattle.rules_base.specs.Limits.{map_bytes}
use Rattle.rules_base.specs.Map.{sound}
use Rattle.rules_base.specs.Summary.{summaries_of, agree}
use Rattle.rules_base.specs.Search.{row_searched}
use Rattle.rules_node.specs.declared.OnStaging.{OnStaging}
use Rattle.rules_node.specs.declared.Node.{Node}
use Rattle.rules_node.specs.declared.Turn.{Turn}
use Rattle.rules_node.specs.declared.Answer.{Answer}
use Rattle.rules_node.specs.declared.Checked.{Checked}
use Rattle.rules_node.specs.declared.Next.{Next}
use Rattle.rules_node.specs.Change as Change
use Rattle.rules_node.specs.Carry.{map_after, staging_after, taken_in}
use Rattle.rules_base.specs.Empty.{row_empty}
use Rattle.rules_node.specs.Check.{map_check}
use Rattle.rules_node.specs.Next.{next_dirty}
use Rattle.rules_node.specs.Events.{Event, Part, part_in, turn_of}

-- the state of the rules, and the summaries of the map
pub record StorageNode : Type 0 where
  pub node : Node
  pub summaries : List ℕ

pub record Out : Type 0 where
  pub answer : Answer
  pub node : StorageNode

-- what a node hands back that is asked whether its row is empty, or for the next dirty chunk: it stays as it is
pub record Asked : Type 0 where
  pub answer : Checked
  pub node : StorageNode

pub record Searched : Type 0 where
  pub answer : Next
  pub node : StorageNode

-- a fresh node; any numbers. Its summaries are those of a map in which nothing is dirty
abbrev pub fresh_node : ℕ → ℕ → StorageNode
fresh_node id chunks = record { node = Change.fresh id chunks; summaries = replicate 96 0 }

-- the number that the lent maps refuse with: 2 unless both are sound, 18 unless the summaries agree with the map, else 0
abbrev pub lent_number : ℕ → List ℕ → List ℕ → List ℕ → ℕ
lent_number chunks words xs ys = pick (not (sound chunks xs && sound chunks ys)) 2 (pick (not (agree words xs)) 18 0)

abbrev pub lent_to : StorageNode → List ℕ → List ℕ → ℕ
lent_to s xs ys = lent_number s.node.chunks s.summaries xs ys

-- what is known of summaries and a map that do not refuse
pub record Lent (words xs : List ℕ) : Type 0 where
  pub size : length xs ≡ map_bytes
  pub agrees : agree words xs ≡ true

-- the turn of an event at a node with its maps
abbrev pub turn_at : Event → StorageNode → List ℕ → List ℕ → Turn
turn_at e s xs ys = turn_of e s.node (lent_to s xs ys)

-- the answer beside the next state
abbrev pub handed : Turn → List ℕ → Out
handed t words = record { answer = t.answer; node = record { node = t.node; summaries = words } }

-- the map that a turn leaves
unfoldable pub map_by : Turn → List ℕ → List ℕ → List ℕ
map_by t xs ys = map_after t.effect.map t.node ys xs

-- staging with a part ORed in, if there is one
abbrev pub staging_with : Part → OnStaging → List ℕ → List ℕ
staging_with Part.none e ys = ys
staging_with (Part.some part) e ys = taken_in e part ys

-- the staging map that a turn leaves
unfoldable pub staging_by : Turn → List ℕ → List ℕ → List ℕ
staging_by t xs ys = staging_after t.effect.staging (map_by t xs ys) ys

-- the summaries that a turn leaves: those of the map that it leaves, unless the lent maps refuse, with the number lent
unfoldable pub words_by : ℕ → Turn → List ℕ → List ℕ → List ℕ → List ℕ
words_by lent t words xs ys = pick (eqb lent 0) (summaries_of (map_by t xs ys)) words

-- what an event answers, and the two maps that it leaves
abbrev pub answers : Event → StorageNode → List ℕ → List ℕ → Out
answers e s xs ys = handed (turn_at e s xs ys) (words_by (lent_to s xs ys) (turn_at e s xs ys) s.summaries xs ys)

abbrev pub map_left : Event → StorageNode → List ℕ → List ℕ → List ℕ
map_left e s xs ys = map_by (turn_at e s xs ys) xs ys

abbrev pub staging_left : Event → StorageNode → List ℕ → List ℕ → List ℕ
staging_left e s xs ys = staging_with (part_in e) (turn_at e s xs ys).effect.staging (staging_by (turn_at e s xs ys) xs ys)

-- what a node answers to map check: of its own row in its map; the node and both maps stay
abbrev pub checked : StorageNode → List ℕ → List ℕ → Asked
checked s xs ys = record { answer = map_check s.node (lent_to s xs ys) (row_empty xs s.node.id); node = s }

-- what a node answers that is asked for the next dirty chunk of a member's row at or after a start; the node and both maps stay
abbrev pub next_at : StorageNode → List ℕ → List ℕ → ℕ → ℕ → Searched
next_at s xs ys member start = record { answer = next_dirty s.node (lent_to s xs ys) member start (row_searched s.summaries xs member start).found; node = s }
