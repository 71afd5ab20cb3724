-- A node is enabled and stopped: enable 1, enable 0, fault. `lent` is the number that the lent maps refuse with.
use Rattle.std.specs.Prelude.{Bool, not, ◌||◌, List, [], ◌∷◌, ℕ, ltb}
use Rattle.rules_base.specs.Limits.{version_limit}
use Rattle.rules_base.specs.Refusals.{Test, test, refusal}
use Rattle.rules_base.specs.Sets.{has}
use Rattle.rules_node.specs.declared.State.{State}
use Rattle.rules_node.specs.declared.OnMap.{OnMap}
use Rattle.rules_node.specs.declared.OnStaging.{OnStaging}
use Rattle.rules_node.specs.declared.Answer.{Answer}
use Rattle.rules_node.specs.declared.Node.{Node}
use Rattle.rules_node.specs.declared.Turn.{Turn}
use Rattle.rules_node.specs.States.{is_normal, is_no_io, is_serving}
use Rattle.rules_node.specs.Change.{went_to, ended_transfer, instructed}
use Rattle.rules_node.specs.Turns.{common_tests, does, turn, settled}

-- ---- enable 1 (version, set holding itself): serving to NORMAL; version and set stored, rows outside the set zeroed, staging dropped

abbrev pub enable1_tests : Node → ℕ → ℕ → ℕ → List Test
enable1_tests n lent version set =
    common_tests n lent
    (test 3 (ltb 15 n.id || ltb 65535 set)
    ∷ test 9 (not (is_serving n))
    ∷ test 10 (not (has set n.id))
    ∷ test 14 (ltb version_limit version)
    ∷ [])

unfoldable pub enable1_refusal : Node → ℕ → ℕ → ℕ → ℕ
enable1_refusal n lent version set = refusal (enable1_tests n lent version set)

unfoldable pub enabled : Node → ℕ → ℕ → Node
enabled n version set = instructed (ended_transfer (went_to n State.Normal)) version set

unfoldable pub enable1 : Node → ℕ → ℕ → ℕ → Turn
enable1 n lent version set =
    settled (enable1_refusal n lent version set) n (turn Answer.Done (enabled n version set) (does (OnMap.KeepRows set) OnStaging.Zero))

-- ---- enable 0 and fault: NORMAL, NO_IO to NO_IO; enable drops staging

-- where a node can be stopped
abbrev pub stoppable : State → Bool
stoppable s = is_normal s || is_no_io s

abbrev pub stop_tests : Node → ℕ → List Test
stop_tests n lent =
    common_tests n lent (test 3 (ltb 15 n.id) ∷ test 9 (not (stoppable n.state)) ∷ [])

unfoldable pub stop_refusal : Node → ℕ → ℕ
stop_refusal n lent = refusal (stop_tests n lent)

unfoldable pub disabled : Node → Node
disabled n = ended_transfer (went_to n State.NoIo)

unfoldable pub enable0 : Node → ℕ → Turn
enable0 n lent = settled (stop_refusal n lent) n (turn Answer.Done (disabled n) (does OnMap.Keep OnStaging.Zero))

unfoldable pub fault : Node → ℕ → Turn
fault n lent = settled (stop_refusal n lent) n (turn Answer.Done (went_to n State.NoIo) (does OnMap.Keep OnStaging.Keep))
