-- Fill: what an accepted one knows, and that it keeps the state rules and the table of legal changes. Assumes nothing.
use mathlib.Core.Path.{◌≡◌, refl}
use mathlib.Core.Bool.{true, ◌&&◌}
use mathlib.Core.List.{List}
use Prim.Native.Nat.{ℕ, ◌≤◌, ◌<◌, max}
use native.Mathlib.Omega.{arith}
use lib.Dec.{ltb}
use borrow.Author.Tests.{not-false, ltb-false}
use Rattle.laws_words.specs.Tests.{and_both}
use Rattle.rules_base.specs.Limits.{version_top}
use Rattle.rules_base.specs.Refusals.{Test}
use Rattle.rules_base.specs.Sets.{has}
use Rattle.rules_base.proofs.Order.{none-applies}
use Rattle.rules_node.specs.declared.Node.{Node}
use Rattle.rules_node.specs.States.{is_joined}
use Rattle.rules_node.specs.Change.{stored_version}
use Rattle.rules_node.specs.StateRules.{kept_ok, standing}
use Rattle.rules_node.specs.Table.{Kind, legal}
use Rattle.laws_node.proofs.Tables.{gives, given}
use Rattle.laws_node.proofs.Valid.{valid-of, at-node}
use Rattle.laws_node.proofs.Passed.{or-false, Passed, passes, Keeps}
use Rattle.rules_node.specs.Fill.{fill_tests, fill_refusal, filled}

pub fill-passed : (n : Node) (lent member version : ℕ) → fill_refusal n lent member version ≡ 0 → Passed n lent (is_joined n.state)
unfolding fill_refusal
fill-passed n lent member version e =
    let ts : List Test = fill_tests n lent member version in
    passes n lent (is_joined n.state) (none-applies ts e 1 refl) (none-applies ts e 2 refl) (or-false (ltb 15 n.id) _ (none-applies ts e 3 refl)).0 (none-applies ts e 9 refl)

-- the member's row: its id is below 16
pub fill-member : (n : Node) (lent member version : ℕ) → fill_refusal n lent member version ≡ 0 → member < 16
unfolding fill_refusal
fill-member n lent member version e =
    let ts : List Test = fill_tests n lent member version in
    let l : member ≤ 15 = ltb-false 15 member (or-false (ltb 15 n.id) _ (none-applies ts e 3 refl)).1 in
    omega arith

-- it is one of the node's set
pub fill_known : (n : Node) (lent member version : ℕ) → fill_refusal n lent member version ≡ 0 → has n.members member ≡ true
unfolding fill_refusal
fill_known n lent member version e =
    let ts : List Test = fill_tests n lent member version in
    not-false (has n.members member) (none-applies ts e 10 refl)

-- the version is within the bound of the state rules
pub fill-version : (n : Node) (lent member version : ℕ) → fill_refusal n lent member version ≡ 0 → version ≤ version_top
unfolding fill_refusal
fill-version n lent member version e =
    let ts : List Test = fill_tests n lent member version in
    ltb-false version_top version (none-applies ts e 14 refl)

pub fill-keeps : (n : Node) (lent member version : ℕ) → fill_refusal n lent member version ≡ 0 → Keeps Kind.fill n (filled n version)
unfolding filled stored_version kept_ok
fill-keeps n lent member version e =
    let p = fill-passed n lent member version e in
    let v = p.rules in
    record {
      rules = valid-of (filled n version) (record { some = v.some; few = v.few; stand = v.stand; ids = v.ids; top = omega (arith, v.top, fill-version n lent member version e); keeps = v.keeps; part = v.part });
      lawful = given _ _ (at-node (λ s store create hand own. gives (standing s store create hand own && (is_joined s)) (legal Kind.fill s s)) refl n) (and_both v.stand p.from);
      same_id = refl;
      same-chunks = refl;
      size = refl;
    }
