-- Map check at the member's own node.
use mathlib.Core.Path.{◌≡◌, refl, ap, sym, ◌∙◌, subst}
use mathlib.Core.Bool.{Bool, true, false, ◌&&◌}
use mathlib.Core.List.{List}
use Prim.Native.Nat.{ℕ, ◌<◌}
use lib.Dec.{eqb}
use borrow.Author.Tests.{eqb-true, eqb-false}
use Rattle.laws_words.specs.Tests.{clash, by_cases, and_left, and_right}
use Rattle.laws_words.specs.Words.{pick}
use Rattle.rules_base.proofs.Order.{first-applies, none-applies}
use Rattle.rules_base.specs.Chunk.{dirty}
use Rattle.rules_base.specs.Empty.{row_empty}
use Rattle.rules_base.proofs.EmptyRows.{empty-clean}
use Rattle.rules_node.specs.States.{is_normal}
use Rattle.rules_node.specs.declared.Checked.{Checked}
use Rattle.rules_node.specs.Check.{check_tests, check_refusal, map_check}
use Rattle.rules_node.specs.Face.{StorageNode}
use Rattle.rules_node.specs.Face.{lent_to, checked}
use Rattle.theorem_map_check.specs.Node.{Verdict, Demand1, Gave, Clean, EmptyThen, OneWouldDo}
use Rattle.theorem_map_check.proofs.Rows.{two-in-a-row}

pub demand-1 : Demand1
unfolding map_check check_refusal
demand-1 s xs ys = at (eqb (check_refusal s.node (lent_to s xs ys)) 0) refl
  where
    at : (b : Bool) → eqb (check_refusal s.node (lent_to s xs ys)) 0 ≡ b → Verdict s xs ys
    at true e = Verdict.answered (is_normal s.node.state && row_empty xs s.node.id) (rw e refl) (none-applies (check_tests s.node (lent_to s xs ys)) (eqb-true (check_refusal s.node (lent_to s xs ys)) 0 e))
    at false e = Verdict.refused (check_refusal s.node (lent_to s xs ys)) (rw e refl) (first-applies (check_tests s.node (lent_to s xs ys)) (eqb-false (check_refusal s.node (lent_to s xs ys)) 0 e))

-- an answer that says empty
abbrev is_empty : Checked → Bool
is_empty (Checked.Refused n) = false
is_empty (Checked.Empty empty) = empty

said-empty : (s : StorageNode) (xs ys : List ℕ) → (checked s xs ys).answer ≡ Checked.Empty true → (is_normal s.node.state && row_empty xs s.node.id) ≡ true
unfolding map_check
said-empty s xs ys a = at (eqb (check_refusal s.node (lent_to s xs ys)) 0) refl
  where
    at : (b : Bool) → eqb (check_refusal s.node (lent_to s xs ys)) 0 ≡ b → (is_normal s.node.state && row_empty xs s.node.id) ≡ true
    at true e = let q : Checked.Empty (is_normal s.node.state && row_empty xs s.node.id) ≡ Checked.Empty true = rw e at a in ap is_empty q
    at false e = let q : Checked.Refused (check_refusal s.node (lent_to s xs ys)) ≡ Checked.Empty true = rw e at a in clash (ap is_empty q) refl

pub one-would-do : OneWouldDo
one-would-do m g =
    let w = said-empty g.node g.map g.staging g.answer in
    record {
      normal = and_left (is_normal g.node.node.state) (row_empty g.map g.node.node.id) w;
      row = empty-clean g.map m (subst (λ (i : ℕ). row_empty g.map i ≡ true) g.own (and_right (is_normal g.node.node.state) (row_empty g.map g.node.node.id) w));
    }

pub empty-then : EmptyThen
empty-then c h xs number m empty g z = at (two-in-a-row c h xs number m empty m z).2
  where
    at : empty ≡ true → Clean m g.node g.map
    at e = one-would-do m (record { node = g.node; map = g.map; staging = g.staging; own = g.own; answer = g.answer ∙ ap Checked.Empty e })
