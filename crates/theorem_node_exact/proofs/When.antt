-- Accepted exactly when.
use mathlib.Core.Path.{◌≡◌, refl}
use mathlib.Core.List.{List}
use Rattle.rules_base.specs.Refusals.{Test, refusal}
use Rattle.rules_base.proofs.Order.{none-applies}
use Rattle.rules_node.specs.Events.{Event, tests_at}
use Rattle.rules_node.specs.Held.{Held}
use Rattle.laws_node.proofs.Valid.{valid-facts}
use Rattle.theorem_node_exact.specs.Words.{InOrder}
use Rattle.theorem_node_exact.specs.When.{needs, Meets, AcceptedWhen}
use Rattle.theorem_node_exact.proofs.Rules.{rules-hold}
use Rattle.theorem_node_exact.proofs.Ties.{Ties, others, ties}
use Rattle.theorem_node_exact.proofs.Known.{lent_at, accept-iff, Clear, clear}

pub tied : (e : Event) (w : Held) → InOrder w → Ties e w.at.node (lent_at w)
tied e w g = ties e w.at.node (lent_at w) (valid-facts w.at.node (rules-hold w.at.node g.rules)).part

pub accepted-when : AcceptedWhen
accepted-when e w g =
    let ts : List Test = tests_at e w.at.node (lent_at w) in
    let t = tied e w g in (
      λ a.
          let z = (accept-iff e w).0 a in
          (t.three.0 (none-applies ts z 3 refl), t.four.0 (none-applies ts z 4 refl), t.nine.0 (none-applies ts z 9 refl), t.ten.0 (none-applies ts z 10 refl), t.fourteen.0 (none-applies ts z 14 refl), t.fifteen.0 (none-applies ts z 15 refl), t.sixteen.0 (none-applies ts z 16 refl)),
      λ m. (accept-iff e w).1 (at (clear e w g) t m),
    )
  where
    at : Clear e w → Ties e w.at.node (lent_at w) → Meets (needs e w.at.node) → refusal (tests_at e w.at.node (lent_at w)) ≡ 0
    at c t (x3, x4, x9, x10, x14, x15, x16) =
        let o = others e w.at.node (lent_at w) in
        rw (c.one, c.two, c.eighteen, t.three.1 x3, t.four.1 x4, o.0, o.1.0, o.1.1.0, o.1.1.1.0, t.nine.1 x9, o.1.1.1.1.0, t.ten.1 x10, o.1.1.1.1.1.0, o.1.1.1.1.1.1.0, o.1.1.1.1.1.1.1.0, o.1.1.1.1.1.1.1.1.0, t.fourteen.1 x14, t.fifteen.1 x15, t.sixteen.1 x16) refl
