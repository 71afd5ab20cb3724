-- Fill at a node: in CREATED, NORMAL and NO_IO, with or without store. `lent` is the number that the lent maps refuse with.
use Rattle.std.specs.Prelude.{not, ◌||◌, List, [], ◌∷◌, ℕ, max, ltb}
use Rattle.rules_base.specs.Limits.{version_top}
use Rattle.rules_base.specs.Refusals.{Test, test, refusal}
use Rattle.rules_base.specs.Sets.{has}
use Rattle.rules_node.specs.declared.OnMap.{OnMap}
use Rattle.rules_node.specs.declared.OnStaging.{OnStaging}
use Rattle.rules_node.specs.declared.Answer.{Answer}
use Rattle.rules_node.specs.declared.Node.{Node}
use Rattle.rules_node.specs.declared.Turn.{Turn}
use Rattle.rules_node.specs.States.{is_joined}
use Rattle.rules_node.specs.Change.{stored_version}
use Rattle.rules_node.specs.Turns.{common_tests, does, turn, settled}

-- ---- fill (member, version): marks every chunk for a member of its set, stores the larger of the node's version and the one brought, keeps no chunk number

abbrev pub fill_tests : Node → ℕ → ℕ → ℕ → List Test
fill_tests n lent member version =
    common_tests n lent
    (test 3 (ltb 15 n.id || ltb 15 member)
    ∷ test 9 (not (is_joined n.state))
    ∷ test 10 (not (has n.members member))
    ∷ test 14 (ltb version_top version)
    ∷ [])

unfoldable pub fill_refusal : Node → ℕ → ℕ → ℕ → ℕ
fill_refusal n lent member version = refusal (fill_tests n lent member version)

unfoldable pub filled : Node → ℕ → Node
filled n version = stored_version n (max n.version version)

unfoldable pub fill : Node → ℕ → ℕ → ℕ → Turn
fill n lent member version =
    settled (fill_refusal n lent member version) n (turn Answer.Done (filled n version) (does (OnMap.FillRow member) OnStaging.Keep))
