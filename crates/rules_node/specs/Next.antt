-- The next dirty chunk at a node, of a member's row at or after a start: taken in every state, and nothing changes. `lent` is the number that the lent maps refuse with, `found` what the search
-- finds.
use Rattle.std.specs.Prelude.{not, ◌||◌, List, [], ◌∷◌, ℕ, eqb, ltb, Option}
use Rattle.laws_words.specs.Words.{pick}
use Rattle.rules_base.specs.Refusals.{Test, test, refusal}
use Rattle.rules_node.specs.declared.Node.{Node}
use Rattle.rules_node.specs.Turns.{common_tests}
use Rattle.rules_node.specs.declared.Next.{Next}

abbrev pub next_tests : Node → ℕ → ℕ → ℕ → List Test
next_tests n lent member start = common_tests n lent (test 3 (ltb 15 n.id || ltb 15 member) ∷ test 4 (not (ltb start n.chunks)) ∷ [])

unfoldable pub next_refusal : Node → ℕ → ℕ → ℕ → ℕ
next_refusal n lent member start = refusal (next_tests n lent member start)

unfoldable pub next_dirty : Node → ℕ → ℕ → ℕ → Option ℕ → Next
next_dirty n lent member start found =
    pick (eqb (next_refusal n lent member start) 0) (Next.Is found) (Next.Refused (next_refusal n lent member start))
