-- The summaries through every event of a node, and the search by them.
use mathlib.Core.Path.{◌≡◌, refl, sym, ap, ◌∙◌}
use mathlib.Core.Bool.{Bool, true, false, not, ◌&&◌}
use mathlib.Core.List.{List}
use Prim.Native.Nat.{ℕ}
use lib.Dec.{eqb}
use borrow.Author.Tests.{eqb-true, eqb-false}
use Rattle.laws_words.specs.Tests.{by_cases, and_left}
use Rattle.rules_base.specs.Refusals.{refusal}
use Rattle.rules_base.proofs.Order.{first-applies, none-applies}
use Rattle.rules_base.specs.Map.{sound}
use Rattle.rules_base.specs.Summary.{summaries_of, agree}
use Rattle.rules_base.proofs.Summaries.{one-summary}
use Rattle.rules_base.proofs.Searching.{as-reading-chunks}
use Rattle.rules_node.specs.declared.Next.{Next}
use Rattle.rules_node.specs.Next.{next_tests, next_refusal, next_dirty}
use Rattle.rules_node.specs.Face.{StorageNode}
use Rattle.rules_node.specs.Events.{Event}
use Rattle.rules_node.specs.Face.{lent_to, answers, map_left}
use Rattle.laws_node.proofs.Theorems.{lent-good, stays-true, accepted-done}
use Rattle.theorem_node.specs.Summaries.{SummariesKept, SummariesLeft, Asked, NextDirty}
use Rattle.theorem_node.proofs.Demand2.{taken-plain}

pub summaries-left : SummariesLeft
summaries-left e s xs ys a =
    let d = accepted-done e s xs ys (taken-plain (answers e s xs ys).answer a) in
    (d.agrees, stays-true e s xs ys d.agrees)

pub summaries-kept : SummariesKept
summaries-kept e s xs ys h = ap (λ (ws : List ℕ). agree ws (map_left e s xs ys)) (stays-true e s xs ys h) ∙ one-summary.agrees (map_left e s xs ys)

pub next-dirty : NextDirty
unfolding next_dirty next_refusal
next-dirty s xs ys member start = (by_cases (eqb why 0) yes no, refl)
  where
    why : ℕ
    why = refusal (next_tests s.node (lent_to s xs ys) member start)

    no : eqb why 0 ≡ false → Asked s xs ys member start
    no e = Asked.refused why (rw e) (first-applies (next_tests s.node (lent_to s xs ys) member start) (eqb-false why 0 e))

    yes : eqb why 0 ≡ true → Asked s xs ys member start
    yes e =
        let none = none-applies (next_tests s.node (lent_to s xs ys) member start) (eqb-true why 0 e) in
        let g = lent-good (sound s.node.chunks xs && sound s.node.chunks ys) (agree s.summaries xs) (none 2 refl) (none 18 refl) in
        Asked.found (rw e (ap Next.Is (as-reading-chunks s.summaries xs g.1 s.node.chunks (and_left (sound s.node.chunks xs) (sound s.node.chunks ys) g.0) member start))) none
