-- A node's store comes and goes: register create, register add, unregister. `lent` is the number that the lent maps refuse with.
use Rattle.std.specs.Prelude.{Bool, true, false, not, ◌&&◌, ◌||◌, List, [], ◌∷◌, ℕ, ltb}
use Rattle.laws_words.specs.Words.{pick}
use Rattle.rules_base.specs.Limits.{version_limit}
use Rattle.rules_base.specs.Refusals.{Test, test, refusal}
use Rattle.rules_base.specs.Sets.{has, with}
use Rattle.rules_node.specs.declared.State.{State}
use Rattle.rules_node.specs.declared.OnMap.{OnMap}
use Rattle.rules_node.specs.declared.OnStaging.{OnStaging}
use Rattle.rules_node.specs.declared.Answer.{Answer}
use Rattle.rules_node.specs.declared.Node.{Node}
use Rattle.rules_node.specs.declared.Turn.{Turn}
use Rattle.rules_node.specs.States.{is_empty, is_registered, is_no_io}
use Rattle.rules_node.specs.Change.{went_to, equipped, forgotten, ended_transfer, instructed}
use Rattle.rules_node.specs.Turns.{common_tests, does, turn, settled}

-- ---- register create: EMPTY to REGISTERED, marked create; map zeroed, kept chunks gone, membership itself, version 0

abbrev pub register_create_tests : Node → ℕ → List Test
register_create_tests n lent =
    common_tests n lent (test 3 (ltb 15 n.id) ∷ test 9 (not (is_empty n.state)) ∷ [])

unfoldable pub register_create_refusal : Node → ℕ → ℕ
register_create_refusal n lent = refusal (register_create_tests n lent)

unfoldable pub registered_create : Node → Node
registered_create n = instructed (forgotten (equipped (went_to n State.Registered) true true)) 0 (with 0 n.id)

unfoldable pub register_create : Node → ℕ → Turn
register_create n lent = settled (register_create_refusal n lent) n (turn Answer.Done (registered_create n) (does OnMap.Zero OnStaging.Keep))

-- ---- register add (set, version): EMPTY to REGISTERED unmarked, map kept; NO_IO without store gets its store

-- where a store can be added
abbrev pub takes_store : State → Bool → Bool
takes_store s store = is_empty s || (is_no_io s && not store)

-- EMPTY becomes REGISTERED, NO_IO stays
abbrev pub added_to : State → State
added_to State.Empty = State.Registered
added_to State.Registered = State.Registered
added_to State.Created = State.Created
added_to State.Normal = State.Normal
added_to State.NoIo = State.NoIo

abbrev pub register_add_tests : Node → ℕ → ℕ → ℕ → List Test
register_add_tests n lent set version =
    common_tests n lent
    (test 3 (ltb 15 n.id || ltb 65535 set)
    ∷ test 9 (not (takes_store n.state n.store))
    ∷ test 10 (not (has set n.id))
    ∷ test 14 (ltb version_limit version)
    ∷ [])

unfoldable pub register_add_refusal : Node → ℕ → ℕ → ℕ → ℕ
register_add_refusal n lent set version = refusal (register_add_tests n lent set version)

unfoldable pub registered_add : Node → ℕ → ℕ → Node
registered_add n set version = instructed (equipped (went_to n (added_to n.state)) true false) version set

unfoldable pub register_add : Node → ℕ → ℕ → ℕ → Turn
register_add n lent set version =
    settled (register_add_refusal n lent set version) n (turn Answer.Done (registered_add n set version) (does OnMap.Keep OnStaging.Keep))

-- ---- unregister: REGISTERED to EMPTY, mark gone (delete zeroes map, members, version); NO_IO with store stays, without it, staging dropped

-- where a store can be given up: delete not in NO_IO
abbrev pub gives_store : State → Bool → Bool → Bool
gives_store s store delete = is_registered s || (is_no_io s && (store && not delete))

-- REGISTERED becomes EMPTY, NO_IO stays
abbrev pub unregistered_to : State → State
unregistered_to State.Empty = State.Empty
unregistered_to State.Registered = State.Empty
unregistered_to State.Created = State.Created
unregistered_to State.Normal = State.Normal
unregistered_to State.NoIo = State.NoIo

abbrev pub unregister_tests : Node → ℕ → Bool → List Test
unregister_tests n lent delete =
    common_tests n lent
    (test 3 (ltb 15 n.id)
    ∷ test 9 (not (gives_store n.state n.store delete))
    ∷ [])

unfoldable pub unregister_refusal : Node → ℕ → Bool → ℕ
unregister_refusal n lent delete = refusal (unregister_tests n lent delete)

-- members and version zeroed by delete
unfoldable pub wiped : Bool → Node → Node
wiped delete n = pick delete (instructed n 0 0) n

-- a transfer is in hand only in NO_IO, and ends there
unfoldable pub unregistered : Node → Bool → Node
unregistered n delete = wiped delete (ended_transfer (equipped (went_to n (unregistered_to n.state)) false false))

-- the map zeroed by delete
abbrev pub wipes : Bool → OnMap
wipes true = OnMap.Zero
wipes false = OnMap.Keep

-- staging zeroed in NO_IO, left alone in REGISTERED
abbrev pub drops_staging : State → OnStaging
drops_staging State.Empty = OnStaging.Keep
drops_staging State.Registered = OnStaging.Keep
drops_staging State.Created = OnStaging.Keep
drops_staging State.Normal = OnStaging.Keep
drops_staging State.NoIo = OnStaging.Zero

unfoldable pub unregister : Node → ℕ → Bool → Turn
unregister n lent delete =
    settled (unregister_refusal n lent delete) n (turn Answer.Done (unregistered n delete) (does (wipes delete) (drops_staging n.state)))
