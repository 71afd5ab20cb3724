-- What messages do to the nodes and their maps, of which so much is lent.
use Rattle.std.specs.Prelude.{◌≡◌, Bool, true, false, ◌&&◌, List, ℕ, zero, suc, ◌+◌, ◌-◌, min, ltb, Option, Some, None}
use Rattle.laws_words.specs.Words.{pick}
use Rattle.rules_base.specs.Limits.{map_bytes}
use Rattle.rules_base.specs.Sets.{lowest}
use Rattle.rules_pool.specs.declared.Told.{Told}
use Rattle.rules_client.specs.declared.Check.{Check}
use Rattle.rules_node.specs.declared.Answer.{Answer}
use Rattle.event.specs.declared.Event.{Event}
use Rattle.event.specs.declared.NodeEvent.{NodeEvent}
use Rattle.event.specs.declared.Question.{Question}
use Rattle.node.specs.declared.StorageNode.{StorageNode}
use Rattle.node.specs.declared.Out.{Out}
use Rattle.lab_deliver.specs.declared.post.Errand.{Errand}
use Rattle.lab_deliver.specs.Post.{told_to}
use Rattle.event_ask.specs.declared.lending.Lent.{Lent}
use Rattle.lab_places.specs.Places.{node_in, with_node}
use Rattle.lab_lend.specs.Node.{node_answers, maps_left, stagings_left}
use Rattle.event_ask.specs.declared.ask.Finding.{Finding}
use Rattle.event_ask.specs.Ask.{node_finds}
use Rattle.lab_deliver.specs.declared.delivery.Places.{Places}
use Rattle.lab_deliver.specs.declared.delivery.Way.{Way}

-- the nodes, each in its place, and their maps and staging maps, which stand one after another: as many as there are
pub record Whole : Type 0 where
  pub nodes : List StorageNode
  pub maps : List ℕ
  pub stagings : List ℕ

-- what stands behind the three loans
abbrev pub whole : Places → Whole
whole p = record { nodes = p.nodes.now; maps = p.maps.now; stagings = p.stagings.now }

-- each loan is still the same: what stands behind it is what its lender finds in the end
pub record SameLoans (p q : Places) : Type 0 where
  pub nodes : q.nodes.ghost_name ≡ p.nodes.ghost_name
  pub maps : q.maps.ghost_name ≡ p.maps.ghost_name
  pub stagings : q.stagings.ghost_name ≡ p.stagings.ghost_name

-- what node n hands back at the event
abbrev pub out_at : ℕ → NodeEvent → Lent → Whole → Out Answer
out_at n e lent w = node_answers (node_in w.nodes n) n lent e w.maps w.stagings

-- all after it: the node and the lent parts as the event leaves them, the other nodes and all other bytes as they were
abbrev pub left_at : ℕ → NodeEvent → Lent → Whole → Whole
left_at n e lent w =
    record {
      nodes = with_node w.nodes n (out_at n e lent w).node;
      maps = maps_left (node_in w.nodes n) n lent e w.maps w.stagings;
      stagings = stagings_left (node_in w.nodes n) n lent e w.maps w.stagings;
    }

-- the event at node n: its answer, and all after it. No node has an id above 15
abbrev pub answer_at : ℕ → NodeEvent → Lent → Whole → Answer
answer_at n e lent w = pick (ltb n 16) (out_at n e lent w).answer (Answer.Refused 3)

unfoldable pub ran_at : ℕ → NodeEvent → Lent → Whole → Whole
ran_at n e lent w = pick (ltb n 16) (left_at n e lent w) w

-- ---- messages that are not awaited

-- what node i gets, if anything
abbrev pub told_at : Option NodeEvent → ℕ → Lent → Whole → Whole
told_at None i lent w = w
told_at (Some e) i lent w = ran_at i e lent w

-- one event and then another
abbrev pub due_at : Option NodeEvent × Option NodeEvent → ℕ → Lent → Whole → Whole
due_at d i lent w = told_at d.1 i lent (told_at d.0 i lent w)

-- each goes to its node; the nodes below n, one after the other
unfoldable pub told_below : Told → ℕ → Lent → Whole → Whole
told_below t zero lent w = w
told_below t (suc i) lent w = due_at (told_to t i) i lent (told_below t i lent w)

-- ---- a map in parts

-- an answer, and all after it
pub record Outcome : Type 0 where
  pub answer : Answer
  pub after : Whole

abbrev pub outcome : Answer → Whole → Outcome
outcome a w = record { answer = a; after = w }

abbrev pub outcome_at : ℕ → NodeEvent → Lent → Whole → Outcome
outcome_at n e lent w = record { answer = answer_at n e lent w; after = ran_at n e lent w }

abbrev pub accepted : Answer → Bool
accepted (Answer.Refused n) = false
accepted Answer.Done = true
accepted (Answer.Version v) = true

-- each part is as long as cut says, the last one shorter
abbrev pub length_at : ℕ → ℕ → ℕ
length_at cut offset = min cut (map_bytes - offset)

-- the part at an offset, taken by the receiver, and given by the source
abbrev pub taken_at : Way → ℕ → Lent → Whole → Outcome
taken_at way offset lent w = outcome_at way.receiver (NodeEvent.TakePart offset (length_at way.cut offset) way.source) lent w

abbrev pub given_at : Way → ℕ → Lent → Whole → Outcome
given_at way offset lent w = outcome_at way.source (NodeEvent.GivePart offset (length_at way.cut offset)) lent w

-- one that is sent is given, and then taken unless the source refuses
unfoldable pub sent_after : Way → ℕ → Lent → Outcome → Outcome
sent_after way offset lent given = pick (accepted given.answer) (taken_at way offset lent given.after) given

abbrev pub sent_at : Way → ℕ → Lent → Whole → Outcome
sent_at way offset lent w = sent_after way offset lent (given_at way offset lent w)

unfoldable pub passed_at : Way → ℕ → Lent → Whole → Outcome
passed_at way offset lent w = pick way.given (sent_at way offset lent w) (taken_at way offset lent w)

-- another part comes unless one was refused or all have come
abbrev pub goes_on : Answer → ℕ → Bool
goes_on a offset = accepted a && ltb offset map_bytes

-- the parts from an offset on, no more than n of them
unfoldable pub parts_from : ℕ → Way → ℕ → Lent → Outcome → Outcome
parts_from zero way offset lent o = o
parts_from (suc n) way offset lent o =
    pick (goes_on o.answer offset) (parts_from n way (offset + length_at way.cut offset) lent (passed_at way offset lent o.after)) o

-- All parts. Each has at least one byte, so there are no more than a map has bytes; one of none is refused.
unfoldable pub map_passed : Way → Lent → Whole → Outcome
map_passed way lent w = parts_from map_bytes way 0 lent (outcome Answer.Done w)

-- ---- what is asked of the nodes

abbrev pub ran_by : Option Errand → ℕ → Lent → Whole → Outcome
ran_by None cut lent w = outcome (Answer.Refused 3) w
ran_by (Some (Errand.Event n e)) cut lent w = outcome_at n e lent w
ran_by (Some (Errand.Map source receiver given)) cut lent w = map_passed (record { given = given; source = source; receiver = receiver; cut = cut }) lent w

-- ---- map check

-- what node n, of the nodes ns with the maps xs and the staging maps ys, answers to a question; nothing changes
unfoldable pub found_at : ℕ → Question → Lent → List StorageNode → List ℕ → List ℕ → Finding
found_at n q lent ns xs ys = pick (ltb n 16) (node_finds (node_in ns n) n lent q xs ys) (Finding.Refused 3)

-- a node that refuses did not find its row empty, nor did one that was asked something else
abbrev pub found_empty : Finding → Bool
found_empty (Finding.Refused why) = false
found_empty (Finding.Empty empty) = empty
found_empty (Finding.Next found) = false

-- the lowest due member is asked; 16, no node, where nobody is due
abbrev pub check_asked : Check → ℕ
check_asked k = lowest k.due

-- the answer of the node of member m, under the last tick's number
abbrev pub check_answer : Check → ℕ → Finding → Event
check_answer k m f = Event.CheckAnswer k.tick m (found_empty f)
