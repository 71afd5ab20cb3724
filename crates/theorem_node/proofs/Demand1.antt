-- Demand 1 for the node.
use mathlib.Core.Path.{◌≡◌, refl, ap, ◌∙◌}
use mathlib.Core.Bool.{Bool, true, false}
use Prim.Native.Nat.{ℕ}
use lib.Dec.{eqb}
use borrow.Author.Tests.{eqb-true, eqb-false}
use Rattle.laws_words.specs.Words.{pick}
use Rattle.laws_words.specs.Tests.{clash}
use Rattle.rules_base.specs.Refusals.{refusal}
use Rattle.rules_base.proofs.Order.{first-applies, none-applies}
use Rattle.rules_node.specs.declared.Answer.{Answer}
use Rattle.rules_node.specs.declared.Turn.{Turn}
use Rattle.rules_node.specs.Turns.{refused, settled}
use Rattle.rules_node.specs.Face.{lent_to, turn_at, answers}
use Rattle.laws_node.proofs.Theorems.{is_refused, Law, law, refusal-changes-nothing}
use Rattle.theorem_node.specs.Tests.{tests_of}
use Rattle.theorem_node.specs.Demand1.{Verdict, Demand1}
use Rattle.rules_node.specs.Turns.{is_accepted}

pub not-refused : (a : Answer) → is_refused a ≡ false → is_accepted a ≡ true
not-refused (Answer.Refused n) e = clash refl e
not-refused Answer.Done e = refl
not-refused (Answer.Version v) e = refl

pub demand-1 : Demand1
unfolding settled
demand-1 e s xs ys = at (eqb why 0) refl
  where
    why : ℕ
    why = refusal (tests_of e s xs ys)

    h : Law e s.node (lent_to s xs ys)
    h = law e s.node (lent_to s xs ys)

    turn : (b : Bool) → eqb why 0 ≡ b → turn_at e s xs ys ≡ pick b h.done (refused why s.node)
    turn b z = h.same ∙ ap (λ (x : Bool). pick x h.done (refused why s.node)) z

    at : (b : Bool) → eqb why 0 ≡ b → Verdict e s xs ys
    at true z = Verdict.done (ap (λ (t : Turn). is_accepted t.answer) (turn true z) ∙ not-refused h.done.answer h.plain) (none-applies (tests_of e s xs ys) (eqb-true why 0 z))
    at false z =
        let q : (answers e s xs ys).answer ≡ Answer.Refused why = ap (λ (t : Turn). t.answer) (turn false z) in
        let u = refusal-changes-nothing e s xs ys why q in
        Verdict.refused why q (record { first = first-applies (tests_of e s xs ys) (eqb-false why 0 z); node = u.state; map = u.map; staging = u.staging })
