-- What a serving node is asked for: MAP_READY, a part of its map, MAP_GET_VER, LAST_IO_TO_MAP. `lent` is the number that the lent maps refuse with.
use Rattle.std.specs.Prelude.{Bool, true, false, not, ◌||◌, List, [], ◌∷◌, ℕ, ltb, Some}
use Rattle.rules_base.specs.Refusals.{Test, test, refusal}
use Rattle.rules_base.specs.Parts.{is_part}
use Rattle.rules_node.specs.declared.State.{State}
use Rattle.rules_node.specs.declared.OnMap.{OnMap}
use Rattle.rules_node.specs.declared.OnStaging.{OnStaging}
use Rattle.rules_node.specs.declared.Answer.{Answer}
use Rattle.rules_node.specs.declared.Node.{Node}
use Rattle.rules_node.specs.declared.Turn.{Turn}
use Rattle.rules_node.specs.States.{is_serving}
use Rattle.rules_node.specs.Change.{went_to, transferred}
use Rattle.rules_node.specs.Turns.{common_tests, does, turn, settled}

abbrev pub serve_tests : Node → ℕ → List Test
serve_tests n lent =
    common_tests n lent (test 3 (ltb 15 n.id) ∷ test 9 (not (is_serving n)) ∷ [])

unfoldable pub serve_refusal : Node → ℕ → ℕ
serve_refusal n lent = refusal (serve_tests n lent)

-- ---- MAP_READY (keep or start empty): gives NO_IO and fills staging, with the map or with zero; a transfer in hand starts over, at byte 0

unfoldable pub readied : Node → Node
readied n = transferred (went_to n State.NoIo) (Some 0)

abbrev pub fills : Bool → OnStaging
fills true = OnStaging.Fill
fills false = OnStaging.Zero

unfoldable pub map_ready : Node → ℕ → Bool → Turn
map_ready n lent keep = settled (serve_refusal n lent) n (turn Answer.Done (readied n) (does OnMap.Keep (fills keep)))

-- ---- giving a part (offset, length): the map's bytes there as they are

abbrev pub give_part_tests : Node → ℕ → ℕ → ℕ → List Test
give_part_tests n lent offset length =
    common_tests n lent (test 3 (ltb 15 n.id) ∷ test 9 (not (is_serving n)) ∷ test 16 (not (is_part offset length)) ∷ [])

unfoldable pub give_part_refusal : Node → ℕ → ℕ → ℕ → ℕ
give_part_refusal n lent offset length = refusal (give_part_tests n lent offset length)

unfoldable pub give_part : Node → ℕ → ℕ → ℕ → Turn
give_part n lent offset length = settled (give_part_refusal n lent offset length) n (turn Answer.Done n (does OnMap.Keep OnStaging.Keep))

-- ---- MAP_GET_VER: the answer carries the version

unfoldable pub map_get_ver : Node → ℕ → Turn
map_get_ver n lent = settled (serve_refusal n lent) n (turn (Answer.Version n.version) n (does OnMap.Keep OnStaging.Keep))

-- ---- LAST_IO_TO_MAP (the chosen)

abbrev pub last_io_tests : Node → ℕ → ℕ → List Test
last_io_tests n lent chosen =
    common_tests n lent (test 3 (ltb 15 n.id || ltb 15 chosen) ∷ test 9 (not (is_serving n)) ∷ [])

unfoldable pub last_io_refusal : Node → ℕ → ℕ → ℕ
last_io_refusal n lent chosen = refusal (last_io_tests n lent chosen)

unfoldable pub last_io_to_map : Node → ℕ → ℕ → Turn
last_io_to_map n lent chosen = settled (last_io_refusal n lent chosen) n (turn Answer.Done n (does (OnMap.LastIos chosen) OnStaging.Keep))
