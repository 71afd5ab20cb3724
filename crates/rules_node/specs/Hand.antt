-- The transfer in hand: taking a part of a map, MAP_DONE, MAP_DISABLE; with nothing in hand they give 15, never 9. `lent` is the number that the lent maps refuse with.
use Rattle.std.specs.Prelude.{Bool, true, false, not, ◌&&◌, ◌||◌, List, [], ◌∷◌, ℕ, ◌+◌, eqb, ltb, Some}
use Rattle.rules_base.specs.Limits.{version_limit}
use Rattle.rules_base.specs.Refusals.{Test, test, refusal}
use Rattle.rules_base.specs.Sets.{has}
use Rattle.rules_base.specs.Parts.{is_part}
use Rattle.rules_node.specs.declared.State.{State}
use Rattle.rules_node.specs.declared.OnMap.{OnMap}
use Rattle.rules_node.specs.declared.OnStaging.{OnStaging}
use Rattle.rules_node.specs.declared.Answer.{Answer}
use Rattle.rules_node.specs.declared.Node.{Node}
use Rattle.rules_node.specs.declared.Turn.{Turn}
use Rattle.rules_node.specs.States.{in_hand, taken, is_whole}
use Rattle.rules_node.specs.Change.{went_to, transferred, ended_transfer, instructed}
use Rattle.rules_node.specs.Turns.{common_tests, does, turn, settled}

abbrev pub hand_tests : Node → ℕ → List Test
hand_tests n lent =
    common_tests n lent (test 3 (ltb 15 n.id) ∷ test 15 (not (in_hand n.transfer)) ∷ [])

unfoldable pub hand_refusal : Node → ℕ → ℕ
hand_refusal n lent = refusal (hand_tests n lent)

-- ---- taking a part ORs it in at its offset

-- the part comes next: there is such a part, it starts where the last ended, and no bit of it is past the chunk count (clean)
abbrev pub is_next : Node → ℕ → ℕ → Bool → Bool
is_next n offset length clean = is_part offset length && (eqb offset (taken n.transfer) && clean)

abbrev pub take_part_tests : Node → ℕ → ℕ → ℕ → Bool → List Test
take_part_tests n lent offset length clean =
    common_tests n lent (test 3 (ltb 15 n.id) ∷ test 15 (not (in_hand n.transfer)) ∷ test 16 (not (is_next n offset length clean)) ∷ [])

unfoldable pub take_part_refusal : Node → ℕ → ℕ → ℕ → Bool → ℕ
take_part_refusal n lent offset length clean = refusal (take_part_tests n lent offset length clean)

-- the bytes up to the part's end were taken
unfoldable pub part_taken : Node → ℕ → ℕ → Node
part_taken n offset length = transferred n (Some (offset + length))

unfoldable pub take_part : Node → ℕ → ℕ → ℕ → Bool → Turn
take_part n lent offset length clean =
    settled (take_part_refusal n lent offset length clean) n (turn Answer.Done (part_taken n offset length) (does OnMap.Keep (OnStaging.Or offset)))

-- ---- MAP_DONE (enabling or not, version, set holding itself): 15 until the whole map was taken; commits, NORMAL if enabling; version and set stored, rows outside the set zeroed

abbrev pub map_done_tests : Node → ℕ → ℕ → ℕ → List Test
map_done_tests n lent version set =
    common_tests n lent
    (test 3 (ltb 15 n.id || ltb 65535 set)
    ∷ test 10 (not (has set n.id))
    ∷ test 14 (ltb version_limit version)
    ∷ test 15 (not (is_whole n.transfer))
    ∷ [])

unfoldable pub map_done_refusal : Node → ℕ → ℕ → ℕ → ℕ
map_done_refusal n lent version set = refusal (map_done_tests n lent version set)

abbrev pub done_to : Bool → State → State
done_to true s = State.Normal
done_to false s = s

unfoldable pub committed : Node → Bool → ℕ → ℕ → Node
committed n enabling version set = instructed (ended_transfer (went_to n (done_to enabling n.state))) version set

unfoldable pub map_done : Node → ℕ → Bool → ℕ → ℕ → Turn
map_done n lent enabling version set =
    settled (map_done_refusal n lent version set) n (turn Answer.Done (committed n enabling version set) (does (OnMap.Commit set) OnStaging.Zero))

-- ---- MAP_DISABLE drops staging

unfoldable pub map_disable : Node → ℕ → Turn
map_disable n lent = settled (hand_refusal n lent) n (turn Answer.Done (ended_transfer n) (does OnMap.Keep OnStaging.Zero))
