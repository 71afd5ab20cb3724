-- Map check at a node: "A node that is not NORMAL answers "not empty", a NORMAL one for its own row." It is taken in every state and changes nothing. `lent` is the number that the lent
-- maps refuse with, `clean` says that the node's own row is empty.
use Rattle.std.specs.Prelude.{Bool, ◌&&◌, List, [], ◌∷◌, ℕ, eqb, ltb}
use Rattle.laws_words.specs.Words.{pick}
use Rattle.rules_base.specs.Refusals.{Test, test, refusal}
use Rattle.rules_node.specs.declared.Node.{Node}
use Rattle.rules_node.specs.States.{is_normal}
use Rattle.rules_node.specs.Turns.{common_tests}
use Rattle.rules_node.specs.declared.Checked.{Checked}

abbrev pub check_tests : Node → ℕ → List Test
check_tests n lent = common_tests n lent (test 3 (ltb 15 n.id) ∷ [])

unfoldable pub check_refusal : Node → ℕ → ℕ
check_refusal n lent = refusal (check_tests n lent)

unfoldable pub map_check : Node → ℕ → Bool → Checked
map_check n lent clean =
    pick (eqb (check_refusal n lent) 0)
    (Checked.Empty (is_normal n.state && clean))
    (Checked.Refused (check_refusal n lent))
