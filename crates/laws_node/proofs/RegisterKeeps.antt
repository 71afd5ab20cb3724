-- Register create, register add, unregister: what an accepted one knows, and that it keeps the state rules and the table of legal changes. Assumes nothing.
use mathlib.Core.Path.{◌≡◌, refl, sym}
use mathlib.Core.Bool.{Bool, true, false, ◌&&◌}
use mathlib.Core.List.{List}
use Prim.Native.Nat.{ℕ}
use native.Mathlib.Omega.{arith}
use lib.Dec.{ltb}
use lib.ListN.{length}
use Rattle.laws_words.specs.Tests.{and_both}
use Rattle.rules_base.specs.Refusals.{Test}
use Rattle.rules_base.proofs.Sets.{has-with-same, with-lt, has-none}
use Rattle.rules_base.proofs.Order.{none-applies}
use Rattle.rules_node.specs.declared.State.{State}
use Rattle.rules_node.specs.declared.Node.{Node}
use Rattle.rules_node.specs.States.{is_empty}
use Rattle.rules_node.specs.Change.{went_to, equipped, taken_over, stored_version, forgotten, transferred, ended_transfer, instructed}
use Rattle.rules_node.specs.StateRules.{kept_ok, standing}
use Rattle.rules_node.specs.Table.{Kind, legal}
use Rattle.laws_node.proofs.Tables.{gives, given}
use Rattle.laws_node.proofs.Valid.{valid-of, at-node}
use Rattle.laws_node.proofs.Passed.{or-false, Passed, passes, Told, tells, Keeps}
use Rattle.rules_node.specs.Register.{register_create_tests, register_create_refusal, registered_create, takes_store, added_to, register_add_tests, register_add_refusal, registered_add, gives_store, unregistered_to, unregister_tests, unregister_refusal, wiped, unregistered}

-- ---- register create

pub register_create-passed : (n : Node) (lent : ℕ) → register_create_refusal n lent ≡ 0 → Passed n lent (is_empty n.state)
unfolding register_create_refusal
register_create-passed n lent e =
    let ts : List Test = register_create_tests n lent in
    passes n lent (is_empty n.state) (none-applies ts e 1 refl) (none-applies ts e 2 refl) (none-applies ts e 3 refl) (none-applies ts e 9 refl)

pub register_create-keeps : (n : Node) (lent : ℕ) → length n.kept ≡ 16 → register_create_refusal n lent ≡ 0 → Keeps Kind.register_create n (registered_create n)
unfolding registered_create instructed stored_version taken_over forgotten equipped went_to kept_ok
register_create-keeps n lent h e =
    let p = register_create-passed n lent e in
    let v = p.rules in
    record {
      rules = valid-of (registered_create n) (record { some = v.some; few = v.few; stand = rw (has-with-same 0 n.id p.own) (given _ _ (at-node (λ s store create hand own. gives (standing s store create hand own && (is_empty s)) (standing State.Registered true true hand true)) refl n) (and_both v.stand p.from)); ids = with-lt 0 n.id (omega arith); top = omega arith; keeps = refl; part = v.part });
      lawful = given _ _ (at-node (λ s store create hand own. gives (standing s store create hand own && (is_empty s)) (legal Kind.register_create s (State.Registered))) refl n) (and_both v.stand p.from);
      same_id = refl;
      same-chunks = refl;
      size = sym h;
    }

-- ---- register add

pub register_add-passed : (n : Node) (lent : ℕ) (set : ℕ) (version : ℕ) → register_add_refusal n lent set version ≡ 0 → Passed n lent (takes_store n.state n.store) × Told n version set
unfolding register_add_refusal
register_add-passed n lent set version e =
    let ts : List Test = register_add_tests n lent set version in
    (passes n lent (takes_store n.state n.store) (none-applies ts e 1 refl) (none-applies ts e 2 refl) (or-false (ltb 15 n.id) _ (none-applies ts e 3 refl)).0 (none-applies ts e 9 refl), tells n version set (or-false (ltb 15 n.id) (ltb 65535 set) (none-applies ts e 3 refl)).1 (none-applies ts e 10 refl) (none-applies ts e 14 refl))

pub register_add-keeps : (n : Node) (lent : ℕ) (set : ℕ) (version : ℕ) → register_add_refusal n lent set version ≡ 0 → Keeps Kind.register_add n (registered_add n set version)
unfolding registered_add instructed stored_version taken_over equipped went_to kept_ok
register_add-keeps n lent set version e =
    let p = (register_add-passed n lent set version e).0 in
    let v = p.rules in
    let w = (register_add-passed n lent set version e).1 in
    record {
      rules = valid-of (registered_add n set version) (record { some = v.some; few = v.few; stand = rw w.holds (given _ _ (at-node (λ s store create hand own. gives (standing s store create hand own && (takes_store s store)) (standing (added_to s) true false hand true)) refl n) (and_both v.stand p.from)); ids = w.set-lt; top = w.low; keeps = v.keeps; part = v.part });
      lawful = given _ _ (at-node (λ s store create hand own. gives (standing s store create hand own && (takes_store s store)) (legal Kind.register_add s (added_to s))) refl n) (and_both v.stand p.from);
      same_id = refl;
      same-chunks = refl;
      size = refl;
    }

-- ---- unregister

pub unregister-passed : (n : Node) (lent : ℕ) (delete : Bool) → unregister_refusal n lent delete ≡ 0 → Passed n lent (gives_store n.state n.store delete)
unfolding unregister_refusal
unregister-passed n lent delete e =
    let ts : List Test = unregister_tests n lent delete in
    passes n lent (gives_store n.state n.store delete) (none-applies ts e 1 refl) (none-applies ts e 2 refl) (none-applies ts e 3 refl) (none-applies ts e 9 refl)

pub unregister-keeps : (n : Node) (lent : ℕ) (delete : Bool) → unregister_refusal n lent delete ≡ 0 → Keeps Kind.unregister n (unregistered n delete)
unfolding unregistered wiped instructed stored_version taken_over ended_transfer transferred equipped went_to kept_ok
unregister-keeps n lent true e =
    let p = unregister-passed n lent true e in
    let v = p.rules in
    record {
      rules = valid-of (unregistered n true) (record { some = v.some; few = v.few; stand = rw (has-none n.id) (given _ _ (at-node (λ s store create hand own. gives (standing s store create hand own && (gives_store s store true)) (standing (unregistered_to s) false false false false)) refl n) (and_both v.stand p.from)); ids = omega arith; top = omega arith; keeps = v.keeps; part = omega arith });
      lawful = given _ _ (at-node (λ s store create hand own. gives (standing s store create hand own && (gives_store s store true)) (legal Kind.unregister s (unregistered_to s))) refl n) (and_both v.stand p.from);
      same_id = refl;
      same-chunks = refl;
      size = refl;
    }
unregister-keeps n lent false e =
    let p = unregister-passed n lent false e in
    let v = p.rules in
    record {
      rules = valid-of (unregistered n false) (record { some = v.some; few = v.few; stand = given _ _ (at-node (λ s store create hand own. gives (standing s store create hand own && (gives_store s store false)) (standing (unregistered_to s) false false false own)) refl n) (and_both v.stand p.from); ids = v.ids; top = v.top; keeps = v.keeps; part = omega arith });
      lawful = given _ _ (at-node (λ s store create hand own. gives (standing s store create hand own && (gives_store s store false)) (legal Kind.unregister s (unregistered_to s))) refl n) (and_both v.stand p.from);
      same_id = refl;
      same-chunks = refl;
      size = refl;
    }
