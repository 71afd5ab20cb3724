-- Demand 2 for the node.
use mathlib.Core.Path.{◌≡◌, refl, sym, ap, ◌∙◌}
use mathlib.Core.Bool.{Bool, true, false, not}
use mathlib.Core.List.{List}
use Prim.Native.Nat.{ℕ}
use lib.Dec.{eqb}
use Rattle.laws_words.specs.Tests.{clash, and_both}
use Rattle.rules_base.specs.Refusals.{applies}
use Rattle.rules_node.specs.declared.Answer.{Answer}
use Rattle.rules_node.specs.Face.{StorageNode}
use Rattle.rules_node.specs.Events.{Event}
use Rattle.rules_node.specs.Face.{lent_to, answers}
use Rattle.laws_node.proofs.Theorems.{is_refused, law, lent-zero, Good, fresh-good, stays-good, accepted-keeps}
use Rattle.theorem_node.specs.Tests.{tests_of}
use Rattle.theorem_node.specs.Demand1.{Verdict}
use Rattle.rules_node.specs.Turns.{is_accepted}
use Rattle.theorem_node.specs.Demand2.{Reached, RulesKept, NeverOne, NeverTwo, NeverEighteen, ByTheTable}
use Rattle.theorem_node.proofs.Demand1.{demand-1}

pub reached-good : (s : StorageNode) (xs ys : List ℕ) → Reached s xs ys → Good s xs ys
reached-good _ _ _ (Reached.start id chunks xs ys a b m r w) = fresh-good id chunks xs ys a b m r w
reached-good _ _ _ (Reached.then s xs ys e r) = stays-good e s xs ys (reached-good s xs ys r)

pub rules-kept : RulesKept
rules-kept s xs ys r = let g = reached-good s xs ys r in (g.rules, g.map, g.staging, g.agrees)

-- a refusal that was given applies
given : (e : Event) (s : StorageNode) (xs ys : List ℕ) (n : ℕ) → (answers e s xs ys).answer ≡ Answer.Refused n → applies n (tests_of e s xs ys) ≡ true
given e s xs ys n q = at (demand-1 e s xs ys)
  where
    at : Verdict e s xs ys → applies n (tests_of e s xs ys) ≡ true
    at (Verdict.refused m p h) = let z : m ≡ n = cc (p, q) in ap (λ (k : ℕ). applies k (tests_of e s xs ys)) (sym z) ∙ h.first.given
    at (Verdict.done p h) = clash p (ap is_accepted q)

pub never-one : NeverOne
never-one s xs ys r e n q z =
    clash (ap (λ (k : ℕ). applies k (tests_of e s xs ys)) (sym z) ∙ given e s xs ys n q)
    ((law e s.node (lent_to s xs ys)).one ∙ ap not (reached-good s xs ys r).rules)

pub never-two : NeverTwo
never-two s xs ys r e n q z =
    let g = reached-good s xs ys r in
    clash (ap (λ (k : ℕ). applies k (tests_of e s xs ys)) (sym z) ∙ given e s xs ys n q)
    ((law e s.node (lent_to s xs ys)).two ∙ ap (λ (k : ℕ). eqb k 2) (lent-zero s xs ys (and_both g.map g.staging) g.agrees))

pub never-eighteen : NeverEighteen
never-eighteen s xs ys r e n q z =
    let g = reached-good s xs ys r in
    clash (ap (λ (k : ℕ). applies k (tests_of e s xs ys)) (sym z) ∙ given e s xs ys n q)
    ((law e s.node (lent_to s xs ys)).eighteen ∙ ap (λ (k : ℕ). eqb k 18) (lent-zero s xs ys (and_both g.map g.staging) g.agrees))

pub taken-plain : (a : Answer) → is_accepted a ≡ true → is_refused a ≡ false
taken-plain (Answer.Refused n) e = clash e refl
taken-plain Answer.Done e = refl
taken-plain (Answer.Version v) e = refl

pub by-the-table : ByTheTable
by-the-table s xs ys r e t = (accepted-keeps e s xs ys (reached-good s xs ys r).size (taken-plain (answers e s xs ys).answer t)).lawful
