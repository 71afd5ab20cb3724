-- POOL_INFO: in CREATED, NORMAL and NO_IO, never about itself. `lent` is the number that the lent maps refuse with.
use Rattle.std.specs.Prelude.{Bool, false, not, ◌||◌, List, [], ◌∷◌, ℕ, eqb, ltb}
use Rattle.rules_base.specs.Refusals.{Test, test, refusal}
use Rattle.rules_base.specs.Sets.{has}
use Rattle.rules_node.specs.declared.OnMap.{OnMap}
use Rattle.rules_node.specs.declared.OnStaging.{OnStaging}
use Rattle.rules_node.specs.declared.Answer.{Answer}
use Rattle.rules_node.specs.declared.Node.{Node}
use Rattle.rules_node.specs.declared.Turn.{Turn}
use Rattle.rules_base.specs.declared.Op.{Op}
use Rattle.rules_node.specs.States.{is_joined}
use Rattle.rules_node.specs.Change.{member_entered, member_dropped}
use Rattle.rules_node.specs.Turns.{common_tests, does, turn, settled}

-- add-assemble demands the member
abbrev pub lacks : Op → Bool → Bool
lacks Op.AddCreate member = false
lacks Op.AddAssemble member = not member
lacks Op.RemoveDelete member = false
lacks Op.RemoveDisassemble member = false

abbrev pub pool_info_tests : Node → ℕ → Op → ℕ → List Test
pool_info_tests n lent op member =
    common_tests n lent
    (test 3 (ltb 15 n.id || ltb 15 member)
    ∷ test 9 (not (is_joined n.state))
    ∷ test 10 (eqb member n.id || lacks op (has n.members member))
    ∷ [])

unfoldable pub pool_info_refusal : Node → ℕ → Op → ℕ → ℕ
pool_info_refusal n lent op member = refusal (pool_info_tests n lent op member)

-- add-create enters the member, remove-delete drops it
unfoldable pub informed : Op → Node → ℕ → Node
informed Op.AddCreate n member = member_entered n member
informed Op.AddAssemble n member = n
informed Op.RemoveDelete n member = member_dropped n member
informed Op.RemoveDisassemble n member = n

-- both zero its row
abbrev pub informs : Op → ℕ → OnMap
informs Op.AddCreate member = OnMap.ZeroRow member
informs Op.AddAssemble member = OnMap.Keep
informs Op.RemoveDelete member = OnMap.ZeroRow member
informs Op.RemoveDisassemble member = OnMap.Keep

unfoldable pub pool_info : Node → ℕ → Op → ℕ → Turn
pool_info n lent op member =
    settled (pool_info_refusal n lent op member) n (turn Answer.Done (informed op n member) (does (informs op member) OnStaging.Keep))
