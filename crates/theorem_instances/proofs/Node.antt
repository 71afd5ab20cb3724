-- The theorems' premises can be met.
use mathlib.Core.Path.{◌≡◌, refl, ap, ◌∙◌}
use mathlib.Core.Bool.{true}
use mathlib.Core.List.{[], ◌∷◌}
use Prim.Native.Nat.{ℕ, max}
use lib.Dec.{lit<}
use Rattle.laws_words.specs.Tests.{and_both}
use Rattle.rules_base.specs.Refusals.{refusal}
use Rattle.rules_base.specs.Sets.{has}
use Rattle.laws_words.specs.Words.{bit}
use Rattle.rules_base.specs.Summary.{agree}
use Rattle.rules_base.proofs.Summaries.{zeros-agree}
use Rattle.rules_node.specs.StateRules.{kept_ok, valid}
use Rattle.rules_node.specs.Events.{Event, tests_at}
use Rattle.rules_node.specs.Face.{answers, lent_to}
use Rattle.laws_node.proofs.Theorems.{accepted-by, lent-zero}
use Rattle.theorem_node.specs.Said.{Accepts}
use Rattle.theorem_node.proofs.Demand1.{not-refused}
use Rattle.theorem_node.proofs.Said.{map-as-said}
use Rattle.theorem_node.specs.Commuting.{Marking, Write, zeros, node1, here, write7, write9, synced7, fill0, Instance}
use Rattle.theorem_node.proofs.Either.{stores-the-larger, last-one-wins, second, still}
use Rattle.theorem_node.proofs.Fills.{fill-stores-the-larger}
use Rattle.theorem_node.proofs.Arrival.{kept-follow-arrival}
use Rattle.theorem_node.proofs.Maps.{zeros-sound}

-- zero maps do not refuse
agrees : agree here.at.summaries zeros ≡ true
agrees = zeros-agree 8192

not-lent : lent_to here.at zeros zeros ≡ 0
not-lent = lent-zero here.at zeros zeros (and_both (zeros-sound 4096) (zeros-sound 4096)) agrees

taken : (e : Event) → refusal (tests_at e node1 0) ≡ 0 → Accepts e here
taken e z = not-refused (answers e here.at zeros zeros).answer (accepted-by e here.at zeros zeros (ap (λ (lent : ℕ). refusal (tests_at e node1 lent)) not-lent ∙ z))

marks : Accepts write7 here
unfolding valid kept_ok has bit
marks = taken write7 refl

marks-too : Accepts write9 here
unfolding valid kept_ok has bit
marks-too = taken write9 refl

clears : Accepts synced7 here
unfolding valid kept_ok has bit
clears = taken synced7 refl

fills : Accepts fill0 here
unfolding valid kept_ok has bit
fills = taken fill0 refl

pub instance : Instance
unfolding valid kept_ok has bit
instance =
    record {
      sized = refl;
      able = record { size = refl; rules = refl; map = zeros-sound 4096; staging = zeros-sound 4096; agrees = agrees; serves = refl };
      marks = marks;
      marks-too = marks-too;
      clears = clears;
      fills = fills;
      version = stores-the-larger 7 1 2 _ (second 9 1 5 7 1 2 here refl marks-too marks) ∙ ap (λ (v : ℕ). larger v) (stores-the-larger 9 1 5 here marks-too);
      fill-version = fill-stores-the-larger 0 3 _ (still write9 fill0 here (Marking.mark 9 1 5) (Marking.fill 0 3) refl fills) ∙ ap (λ (v : ℕ). max v 3) (stores-the-larger 9 1 5 here marks-too);
      full = (map-as-said fill0 here fills).those 4095 (lit< tt);
      mark-last = (last-one-wins 7 1 2 0 here refl marks clears refl).0;
      clear-last = (last-one-wins 7 1 2 0 here refl marks clears refl).1;
      one-order = kept-follow-arrival (seven ∷ nine ∷ []) here refl (marks, (marks-too, tt));
      other-order = kept-follow-arrival (nine ∷ seven ∷ []) here refl (marks-too, (marks, tt));
      eighths = record { sizes = refl; whole = refl };
    }
  where
    seven : Write
    seven = record { chunk = 7; set = 1; version = 2 }

    nine : Write
    nine = record { chunk = 9; set = 1; version = 5 }

    larger : ℕ → ℕ
    larger v = max v 2
