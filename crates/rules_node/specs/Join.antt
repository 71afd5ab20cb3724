-- Sessions join a node and leave it: join create, assemble or rejoin, leave. `lent` is the number that the lent maps refuse with.
use Rattle.std.specs.Prelude.{Bool, true, false, not, ◌&&◌, ◌||◌, List, [], ◌∷◌, ℕ, ltb}
use Rattle.rules_base.specs.Refusals.{Test, test, refusal}
use Rattle.rules_base.specs.Sets.{with}
use Rattle.rules_node.specs.declared.State.{State}
use Rattle.rules_node.specs.declared.OnMap.{OnMap}
use Rattle.rules_node.specs.declared.OnStaging.{OnStaging}
use Rattle.rules_node.specs.declared.Answer.{Answer}
use Rattle.rules_node.specs.declared.Node.{Node}
use Rattle.rules_node.specs.declared.Turn.{Turn}
use Rattle.rules_node.specs.States.{is_registered, is_normal, is_no_io, is_joined}
use Rattle.rules_node.specs.Change.{went_to, equipped, taken_over, ended_transfer}
use Rattle.rules_node.specs.Turns.{common_tests, does, turn, settled}

-- the node's own row alone
abbrev pub own_row : Node → OnMap
own_row n = OnMap.KeepRows (with 0 n.id)

-- ---- join create (set): REGISTERED marked to CREATED, mark gone, members as given and itself, other rows zeroed

abbrev pub join_create_tests : Node → ℕ → ℕ → List Test
join_create_tests n lent set =
    common_tests n lent
    (test 3 (ltb 15 n.id || ltb 65535 set)
    ∷ test 9 (not (is_registered n.state && n.create))
    ∷ [])

unfoldable pub join_create_refusal : Node → ℕ → ℕ → ℕ
join_create_refusal n lent set = refusal (join_create_tests n lent set)

unfoldable pub joined_create : Node → ℕ → Node
joined_create n set = taken_over (equipped (went_to n State.Created) n.store false) (with set n.id)

unfoldable pub join_create : Node → ℕ → ℕ → Turn
join_create n lent set = settled (join_create_refusal n lent set) n (turn Answer.Done (joined_create n set) (does (own_row n) OnStaging.Keep))

-- ---- assemble or rejoin: REGISTERED unmarked, NORMAL, NO_IO with store, to NO_IO

abbrev pub assembles : State → Bool → Bool → Bool
assembles s store create = (is_registered s && not create) || (is_normal s || (is_no_io s && store))

abbrev pub assemble_tests : Node → ℕ → List Test
assemble_tests n lent =
    common_tests n lent
    (test 3 (ltb 15 n.id)
    ∷ test 9 (not (assembles n.state n.store n.create))
    ∷ [])

unfoldable pub assemble_refusal : Node → ℕ → ℕ
assemble_refusal n lent = refusal (assemble_tests n lent)

unfoldable pub assemble : Node → ℕ → Turn
assemble n lent = settled (assemble_refusal n lent) n (turn Answer.Done (went_to n State.NoIo) (does OnMap.Keep OnStaging.Keep))

-- ---- leave: from CREATED, NORMAL, NO_IO to REGISTERED, or EMPTY without store; staging dropped; delete zeroes the other rows, never its own

abbrev pub left_to : Bool → State
left_to true = State.Registered
left_to false = State.Empty

abbrev pub leave_tests : Node → ℕ → List Test
leave_tests n lent =
    common_tests n lent (test 3 (ltb 15 n.id) ∷ test 9 (not (is_joined n.state)) ∷ [])

unfoldable pub leave_refusal : Node → ℕ → ℕ
leave_refusal n lent = refusal (leave_tests n lent)

unfoldable pub left : Node → Node
left n = ended_transfer (went_to n (left_to n.store))

abbrev pub leaves : Bool → Node → OnMap
leaves true n = own_row n
leaves false n = OnMap.Keep

unfoldable pub leave : Node → ℕ → Bool → Turn
leave n lent delete = settled (leave_refusal n lent) n (turn Answer.Done (left n) (does (leaves delete n) OnStaging.Zero))
