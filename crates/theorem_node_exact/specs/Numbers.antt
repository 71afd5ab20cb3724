-- Which number is given, by the sentence of the table of refusals: "The first that applies, in this order." The order is 1, 2, 18, 3, 4, 9, 10, 14, 15, 16; what each event needs is in When.
use Rattle.std.specs.Prelude.{◌≡◌, Bool, true, false, List, [], ◌∷◌, ℕ, ◌-◌, ◌^◌, ◌≤◌, None}
use Rattle.rules_base.specs.Refusals.{has_place}
use Rattle.rules_base.specs.Summary.{agree}
use Rattle.rules_node.specs.Events.{Event}
use Rattle.rules_node.specs.Held.{Held, next}
use Rattle.theorem_node_exact.specs.Words.{Iff, Refuses, AnId, ASet, In, KeepsRules, AMap, InOrder}
use Rattle.theorem_node_exact.specs.When.{Needs, needs}

-- ---- at any node, with any bytes lent

-- "1: the state value breaks a rule under "State rules""
abbrev pub OneGiven : Type 0
OneGiven = (e : Event) (w : Held) → Iff (Refuses 1 e w) (¬ (KeepsRules w.at.node))

-- map and staging are maps of the node's chunk count
abbrev pub Maps : Held → Type 0
Maps w = AMap w.at.node.chunks w.map × AMap w.at.node.chunks w.staging

-- "2: a lent map or staging map is not 8,192 bytes, or has a bit set past the chunk count"
abbrev pub TwoGiven : Type 0
TwoGiven = (e : Event) (w : Held) → Iff (Refuses 2 e w) (KeepsRules w.at.node × ¬ (Maps w))

-- C-18: "a summary that disagrees with its row is refused, number 18, checked after 2"
abbrev pub EighteenGiven : Type 0
EighteenGiven = (e : Event) (w : Held) → Iff (Refuses 18 e w) (KeepsRules w.at.node × Maps w × (agree w.at.summaries w.map ≡ false))

-- ---- at a node in order

-- what the event needs there
abbrev pub of : Event → Held → Needs
of e w = needs e w.at.node

-- "3: an id above 15, or a bit above 15 in any set"
abbrev pub ThreeGiven : Type 0
ThreeGiven = (e : Event) (w : Held) → InOrder w → Iff (Refuses 3 e w) (¬ (of e w).three)

-- "4: a chunk not below the pool's chunk count"
abbrev pub FourGiven : Type 0
FourGiven = (e : Event) (w : Held) → InOrder w → Iff (Refuses 4 e w) ((of e w).three × ¬ (of e w).four)

-- "9: the transition, or at a node the state, is not allowed"
abbrev pub NineGiven : Type 0
NineGiven = (e : Event) (w : Held) → InOrder w → Iff (Refuses 9 e w) ((of e w).three × (of e w).four × ¬ (of e w).nine)

-- "10: a membership test named below does not hold"
abbrev pub TenGiven : Type 0
TenGiven = (e : Event) (w : Held) → InOrder w → Iff (Refuses 10 e w) ((of e w).three × (of e w).four × (of e w).nine × ¬ (of e w).ten)

-- "14: a version above 2^63 - 33 (C-13: 2^63 - 34): .. the one brought .. at a node by register add, enable 1 or MAP_DONE; in a node's write, above 2^63 - 17"; C-20: in a fill, as there
abbrev pub FourteenGiven : Type 0
FourteenGiven = (e : Event) (w : Held) → InOrder w → Iff (Refuses 14 e w) ((of e w).three × (of e w).four × (of e w).nine × (of e w).ten × ¬ (of e w).fourteen)

-- "15: no map transfer in hand, or MAP_DONE before a map was taken"
abbrev pub FifteenGiven : Type 0
FifteenGiven = (e : Event) (w : Held) → InOrder w
    → Iff (Refuses 15 e w) ((of e w).three × (of e w).four × (of e w).nine × (of e w).ten × (of e w).fourteen × ¬ (of e w).fifteen)

-- C-11: "refused with a new number 16, checked last"
abbrev pub SixteenGiven : Type 0
SixteenGiven = (e : Event) (w : Held) → InOrder w
    → Iff (Refuses 16 e w) ((of e w).three × (of e w).four × (of e w).nine × (of e w).ten × (of e w).fourteen × (of e w).fifteen × ¬ (of e w).sixteen)

-- A node gives none of the client's numbers, with any bytes lent.
abbrev pub NoOther : Type 0
NoOther = (e : Event) (w : Held) (number : ℕ) → has_place number (5 ∷ 6 ∷ 7 ∷ 8 ∷ 17 ∷ 11 ∷ 19 ∷ 12 ∷ 13 ∷ []) ≡ true → ¬ (Refuses number e w)

-- "Each leaves state, map and staging as they were"
abbrev pub NothingChanges : Type 0
NothingChanges = (e : Event) (w : Held) (number : ℕ) → Refuses number e w → next e w ≡ w

-- ---- "Taking a map, MAP_DONE and MAP_DISABLE give 15, never 9, with nothing in hand."

pub data OfTransfer : Event → Type 0 where
  taking : (offset : ℕ) (part : List ℕ) → OfTransfer (Event.take_part offset part)
  done : (enabling : Bool) (version set : ℕ) → OfTransfer (Event.map_done enabling version set)
  disable : OfTransfer Event.map_disable

abbrev pub NeverNine : Type 0
NeverNine = (e : Event) (w : Held) → OfTransfer e → ¬ (Refuses 9 e w)

-- in any state: whatever the part is; of MAP_DONE where set and version are such as it takes (10 and 14 come first)
pub record FifteenThen (w : Held) : Type 0 where
  pub taking : (offset : ℕ) (part : List ℕ) → Refuses 15 (Event.take_part offset part) w
  pub done : (enabling : Bool) (version set : ℕ) → ASet set → In set w.at.node.id → version ≤ 2 ^ 63 - 34 → Refuses 15 (Event.map_done enabling version set) w
  pub disable : Refuses 15 Event.map_disable w

abbrev pub NothingInHand : Type 0
NothingInHand = (w : Held) → InOrder w → AnId w.at.node.id → w.at.node.transfer ≡ None → FifteenThen w
