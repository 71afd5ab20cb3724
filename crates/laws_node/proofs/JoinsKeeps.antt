-- Join create, assemble or rejoin, leave: what an accepted one knows, and that it keeps the state rules and the table of legal changes. Assumes nothing.
use mathlib.Core.Path.{◌≡◌, refl}
use mathlib.Core.Bool.{true, false, ◌&&◌}
use mathlib.Core.List.{List}
use Prim.Native.Nat.{ℕ, ◌≤◌}
use native.Mathlib.Omega.{arith}
use lib.Dec.{ltb}
use borrow.Author.Tests.{ltb-false}
use Rattle.laws_words.specs.Tests.{and_both}
use Rattle.rules_base.specs.Refusals.{Test}
use Rattle.rules_base.proofs.Sets.{has-with-same, with-lt}
use Rattle.rules_base.proofs.Order.{none-applies}
use Rattle.rules_node.specs.declared.State.{State}
use Rattle.rules_node.specs.declared.Node.{Node}
use Rattle.rules_node.specs.States.{is_registered, is_joined}
use Rattle.rules_node.specs.Change.{went_to, equipped, taken_over, transferred, ended_transfer}
use Rattle.rules_node.specs.StateRules.{kept_ok, standing}
use Rattle.rules_node.specs.Table.{Kind, legal}
use Rattle.laws_node.proofs.Tables.{gives, given}
use Rattle.laws_node.proofs.Valid.{valid-of, at-node}
use Rattle.laws_node.proofs.Passed.{or-false, Passed, passes, Keeps}
use Rattle.rules_node.specs.Join.{join_create_tests, join_create_refusal, joined_create, assembles, assemble_tests, assemble_refusal, left_to, leave_tests, leave_refusal, left}

-- ---- join create

pub join_create-passed : (n : Node) (lent : ℕ) (set : ℕ) → join_create_refusal n lent set ≡ 0 → Passed n lent (is_registered n.state && n.create)
unfolding join_create_refusal
join_create-passed n lent set e =
    let ts : List Test = join_create_tests n lent set in
    passes n lent (is_registered n.state && n.create) (none-applies ts e 1 refl) (none-applies ts e 2 refl) (or-false (ltb 15 n.id) _ (none-applies ts e 3 refl)).0 (none-applies ts e 9 refl)

pub join_create-keeps : (n : Node) (lent : ℕ) (set : ℕ) → join_create_refusal n lent set ≡ 0 → Keeps Kind.join_create n (joined_create n set)
unfolding join_create_refusal joined_create taken_over equipped went_to kept_ok
join_create-keeps n lent set e =
    let p = join_create-passed n lent set e in
    let v = p.rules in
    let ts : List Test = join_create_tests n lent set in
    let l : set ≤ 65535 = ltb-false 65535 set (or-false (ltb 15 n.id) (ltb 65535 set) (none-applies ts e 3 refl)).1 in
    record {
      rules = valid-of (joined_create n set) (record { some = v.some; few = v.few; stand = rw (has-with-same set n.id p.own) (given _ _ (at-node (λ s store create hand own. gives (standing s store create hand own && (is_registered s && create)) (standing State.Created store false hand true)) refl n) (and_both v.stand p.from)); ids = with-lt set n.id (omega (arith, l)); top = v.top; keeps = v.keeps; part = v.part });
      lawful = given _ _ (at-node (λ s store create hand own. gives (standing s store create hand own && (is_registered s && create)) (legal Kind.join_create s (State.Created))) refl n) (and_both v.stand p.from);
      same_id = refl;
      same-chunks = refl;
      size = refl;
    }

-- ---- assemble or rejoin

pub assemble-passed : (n : Node) (lent : ℕ) → assemble_refusal n lent ≡ 0 → Passed n lent (assembles n.state n.store n.create)
unfolding assemble_refusal
assemble-passed n lent e =
    let ts : List Test = assemble_tests n lent in
    passes n lent (assembles n.state n.store n.create) (none-applies ts e 1 refl) (none-applies ts e 2 refl) (none-applies ts e 3 refl) (none-applies ts e 9 refl)

pub assemble-keeps : (n : Node) (lent : ℕ) → assemble_refusal n lent ≡ 0 → Keeps Kind.assemble n (went_to n State.NoIo)
unfolding went_to kept_ok
assemble-keeps n lent e =
    let p = assemble-passed n lent e in
    let v = p.rules in
    record {
      rules = valid-of (went_to n State.NoIo) (record { some = v.some; few = v.few; stand = given _ _ (at-node (λ s store create hand own. gives (standing s store create hand own && (assembles s store create)) (standing State.NoIo store create hand own)) refl n) (and_both v.stand p.from); ids = v.ids; top = v.top; keeps = v.keeps; part = v.part });
      lawful = given _ _ (at-node (λ s store create hand own. gives (standing s store create hand own && (assembles s store create)) (legal Kind.assemble s (State.NoIo))) refl n) (and_both v.stand p.from);
      same_id = refl;
      same-chunks = refl;
      size = refl;
    }

-- ---- leave

pub leave-passed : (n : Node) (lent : ℕ) → leave_refusal n lent ≡ 0 → Passed n lent (is_joined n.state)
unfolding leave_refusal
leave-passed n lent e =
    let ts : List Test = leave_tests n lent in
    passes n lent (is_joined n.state) (none-applies ts e 1 refl) (none-applies ts e 2 refl) (none-applies ts e 3 refl) (none-applies ts e 9 refl)

pub leave-keeps : (n : Node) (lent : ℕ) → leave_refusal n lent ≡ 0 → Keeps Kind.leave n (left n)
unfolding left ended_transfer transferred went_to kept_ok
leave-keeps n lent e =
    let p = leave-passed n lent e in
    let v = p.rules in
    record {
      rules = valid-of (left n) (record { some = v.some; few = v.few; stand = given _ _ (at-node (λ s store create hand own. gives (standing s store create hand own && (is_joined s)) (standing (left_to store) store create false own)) refl n) (and_both v.stand p.from); ids = v.ids; top = v.top; keeps = v.keeps; part = omega arith });
      lawful = given _ _ (at-node (λ s store create hand own. gives (standing s store create hand own && (is_joined s)) (legal Kind.leave s (left_to store))) refl n) (and_both v.stand p.from);
      same_id = refl;
      same-chunks = refl;
      size = refl;
    }
