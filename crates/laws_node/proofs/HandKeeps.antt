-- Taking a part, MAP_DONE, MAP_DISABLE: what an accepted one knows, and that it keeps the state rules and the table of legal changes. Assumes nothing.
use mathlib.Core.Path.{◌≡◌, refl}
use mathlib.Core.Bool.{Bool, true, false, ◌&&◌}
use mathlib.Core.List.{List}
use Prim.Native.Nat.{ℕ}
use native.Mathlib.Omega.{arith}
use lib.Dec.{eqb, ltb}
use borrow.Author.Tests.{eqb-true, not-false}
use Rattle.laws_words.specs.Tests.{and_left, and_right, and_both}
use Rattle.rules_base.specs.Refusals.{Test}
use Rattle.rules_base.specs.Parts.{is_part}
use Rattle.rules_base.proofs.Part.{Part, is-part}
use Rattle.rules_base.proofs.Order.{none-applies}
use Rattle.rules_node.specs.declared.Node.{Node}
use Rattle.rules_node.specs.States.{in_hand, taken, is_whole}
use Rattle.rules_node.specs.Change.{went_to, taken_over, stored_version, transferred, ended_transfer, instructed}
use Rattle.rules_node.specs.StateRules.{kept_ok, standing}
use Rattle.rules_node.specs.Table.{Kind, legal}
use Rattle.laws_node.proofs.Tables.{gives, given}
use Rattle.laws_node.proofs.Valid.{valid-of, at-node}
use Rattle.laws_node.proofs.Passed.{or-false, whole-in-hand, Passed, passes, Told, tells, Keeps}
use Rattle.rules_node.specs.Hand.{hand_tests, hand_refusal, is_next, take_part_tests, take_part_refusal, part_taken, map_done_tests, map_done_refusal, done_to, committed}

-- ---- taking a part, MAP_DISABLE

pub hand-passed : (n : Node) (lent : ℕ) → hand_refusal n lent ≡ 0 → Passed n lent (in_hand n.transfer)
unfolding hand_refusal
hand-passed n lent e =
    let ts : List Test = hand_tests n lent in
    passes n lent (in_hand n.transfer) (none-applies ts e 1 refl) (none-applies ts e 2 refl) (none-applies ts e 3 refl) (none-applies ts e 15 refl)

-- what an accepted part is known to be: a part that starts where the last ended, and clean
pub record Next (n : Node) (offset length : ℕ) (clean : Bool) : Type 0 where
  pub part : Part offset length
  pub here : offset ≡ taken n.transfer
  pub pure : clean ≡ true

is-next : (n : Node) (offset length : ℕ) (clean : Bool) → is_next n offset length clean ≡ true → Next n offset length clean
is-next n offset length clean e =
    let q = and_right (is_part offset length) (eqb offset (taken n.transfer) && clean) e in
    record {
      part = is-part offset length (and_left (is_part offset length) (eqb offset (taken n.transfer) && clean) e);
      here = eqb-true _ _ (and_left (eqb offset (taken n.transfer)) clean q);
      pure = and_right (eqb offset (taken n.transfer)) clean q;
    }

pub take_part-passed : (n : Node) (lent offset length : ℕ) (clean : Bool) → take_part_refusal n lent offset length clean ≡ 0 → Passed n lent (in_hand n.transfer) × Next n offset length clean
unfolding take_part_refusal
take_part-passed n lent offset length clean e =
    let ts : List Test = take_part_tests n lent offset length clean in
    (passes n lent (in_hand n.transfer) (none-applies ts e 1 refl) (none-applies ts e 2 refl) (none-applies ts e 3 refl) (none-applies ts e 15 refl), is-next n offset length clean (not-false (is_next n offset length clean) (none-applies ts e 16 refl)))

pub take_part-keeps : (n : Node) (lent offset length : ℕ) (clean : Bool) → take_part_refusal n lent offset length clean ≡ 0 → Keeps Kind.take_part n (part_taken n offset length)
unfolding part_taken transferred kept_ok
take_part-keeps n lent offset length clean e =
    let p = (take_part-passed n lent offset length clean e).0 in
    let q = (take_part-passed n lent offset length clean e).1 in
    let v = p.rules in
    record {
      rules = valid-of (part_taken n offset length) (record { some = v.some; few = v.few; stand = given _ _ (at-node (λ s store create hand own. gives (standing s store create hand own && hand) (standing s store create true own)) refl n) (and_both v.stand p.from); ids = v.ids; top = v.top; keeps = v.keeps; part = q.part.within });
      lawful = given _ _ (at-node (λ s store create hand own. gives (standing s store create hand own && hand) (legal Kind.take_part s (s))) refl n) (and_both v.stand p.from);
      same_id = refl;
      same-chunks = refl;
      size = refl;
    }

pub map_disable-keeps : (n : Node) (lent : ℕ) → hand_refusal n lent ≡ 0 → Keeps Kind.map_disable n (ended_transfer n)
unfolding ended_transfer transferred kept_ok
map_disable-keeps n lent e =
    let p = hand-passed n lent e in
    let v = p.rules in
    record {
      rules = valid-of (ended_transfer n) (record { some = v.some; few = v.few; stand = given _ _ (at-node (λ s store create hand own. gives (standing s store create hand own && hand) (standing s store create false own)) refl n) (and_both v.stand p.from); ids = v.ids; top = v.top; keeps = v.keeps; part = omega arith });
      lawful = given _ _ (at-node (λ s store create hand own. gives (standing s store create hand own && hand) (legal Kind.map_disable s (s))) refl n) (and_both v.stand p.from);
      same_id = refl;
      same-chunks = refl;
      size = refl;
    }

-- ---- MAP_DONE

pub map_done-passed : (n : Node) (lent : ℕ) (version : ℕ) (set : ℕ) → map_done_refusal n lent version set ≡ 0 → Passed n lent (is_whole n.transfer) × Told n version set
unfolding map_done_refusal
map_done-passed n lent version set e =
    let ts : List Test = map_done_tests n lent version set in
    (passes n lent (is_whole n.transfer) (none-applies ts e 1 refl) (none-applies ts e 2 refl) (or-false (ltb 15 n.id) _ (none-applies ts e 3 refl)).0 (none-applies ts e 15 refl), tells n version set (or-false (ltb 15 n.id) (ltb 65535 set) (none-applies ts e 3 refl)).1 (none-applies ts e 10 refl) (none-applies ts e 14 refl))

pub map_done-keeps : (n : Node) (lent : ℕ) (enabling : Bool) (version set : ℕ) → map_done_refusal n lent version set ≡ 0 → Keeps Kind.map_done n (committed n enabling version set)
unfolding committed instructed stored_version taken_over ended_transfer transferred went_to kept_ok
map_done-keeps n lent true version set e =
    let p = (map_done-passed n lent version set e).0 in
    let v = p.rules in
    let w = (map_done-passed n lent version set e).1 in
    record {
      rules = valid-of (committed n true version set) (record { some = v.some; few = v.few; stand = rw w.holds (given _ _ (at-node (λ s store create hand own. gives (standing s store create hand own && hand) (standing (done_to true s) store create false true)) refl n) (and_both v.stand (whole-in-hand n.transfer p.from))); ids = w.set-lt; top = w.low; keeps = v.keeps; part = omega arith });
      lawful = given _ _ (at-node (λ s store create hand own. gives (standing s store create hand own && hand) (legal Kind.map_done s (done_to true s))) refl n) (and_both v.stand (whole-in-hand n.transfer p.from));
      same_id = refl;
      same-chunks = refl;
      size = refl;
    }
map_done-keeps n lent false version set e =
    let p = (map_done-passed n lent version set e).0 in
    let v = p.rules in
    let w = (map_done-passed n lent version set e).1 in
    record {
      rules = valid-of (committed n false version set) (record { some = v.some; few = v.few; stand = rw w.holds (given _ _ (at-node (λ s store create hand own. gives (standing s store create hand own && hand) (standing (done_to false s) store create false true)) refl n) (and_both v.stand (whole-in-hand n.transfer p.from))); ids = w.set-lt; top = w.low; keeps = v.keeps; part = omega arith });
      lawful = given _ _ (at-node (λ s store create hand own. gives (standing s store create hand own && hand) (legal Kind.map_done s (done_to false s))) refl n) (and_both v.stand (whole-in-hand n.transfer p.from));
      same_id = refl;
      same-chunks = refl;
      size = refl;
    }
