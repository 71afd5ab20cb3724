-- Enable 1, enable 0, fault: what an accepted one knows, and that it keeps the state rules and the table of legal changes. Assumes nothing.
use mathlib.Core.Path.{◌≡◌, refl}
use mathlib.Core.Bool.{true, false, ◌&&◌}
use mathlib.Core.List.{List}
use Prim.Native.Nat.{ℕ}
use native.Mathlib.Omega.{arith}
use lib.Dec.{ltb}
use Rattle.laws_words.specs.Tests.{and_both}
use Rattle.rules_base.specs.Refusals.{Test}
use Rattle.rules_base.proofs.Order.{none-applies}
use Rattle.rules_node.specs.declared.State.{State}
use Rattle.rules_node.specs.declared.Node.{Node}
use Rattle.rules_node.specs.States.{is_joined, is_serving}
use Rattle.rules_node.specs.Change.{went_to, taken_over, stored_version, transferred, ended_transfer, instructed}
use Rattle.rules_node.specs.StateRules.{kept_ok, standing}
use Rattle.rules_node.specs.Table.{Kind, legal}
use Rattle.laws_node.proofs.Tables.{gives, given}
use Rattle.laws_node.proofs.Valid.{valid-of, at-node}
use Rattle.laws_node.proofs.Passed.{or-false, Passed, passes, Told, tells, Keeps}
use Rattle.rules_node.specs.Enable.{enable1_tests, enable1_refusal, enabled, stoppable, stop_tests, stop_refusal, disabled}

-- ---- enable 1

pub enable1-passed : (n : Node) (lent : ℕ) (version : ℕ) (set : ℕ) → enable1_refusal n lent version set ≡ 0 → Passed n lent (is_serving n) × Told n version set
unfolding enable1_refusal
enable1-passed n lent version set e =
    let ts : List Test = enable1_tests n lent version set in
    (passes n lent (is_serving n) (none-applies ts e 1 refl) (none-applies ts e 2 refl) (or-false (ltb 15 n.id) _ (none-applies ts e 3 refl)).0 (none-applies ts e 9 refl), tells n version set (or-false (ltb 15 n.id) (ltb 65535 set) (none-applies ts e 3 refl)).1 (none-applies ts e 10 refl) (none-applies ts e 14 refl))

pub enable1-keeps : (n : Node) (lent : ℕ) (version : ℕ) (set : ℕ) → enable1_refusal n lent version set ≡ 0 → Keeps Kind.enable1 n (enabled n version set)
unfolding enabled instructed stored_version taken_over ended_transfer transferred went_to kept_ok
enable1-keeps n lent version set e =
    let p = (enable1-passed n lent version set e).0 in
    let v = p.rules in
    let w = (enable1-passed n lent version set e).1 in
    record {
      rules = valid-of (enabled n version set) (record { some = v.some; few = v.few; stand = rw w.holds (given _ _ (at-node (λ s store create hand own. gives (standing s store create hand own && (is_joined s && store)) (standing State.Normal store create false true)) refl n) (and_both v.stand p.from)); ids = w.set-lt; top = w.low; keeps = v.keeps; part = omega arith });
      lawful = given _ _ (at-node (λ s store create hand own. gives (standing s store create hand own && (is_joined s && store)) (legal Kind.enable1 s (State.Normal))) refl n) (and_both v.stand p.from);
      same_id = refl;
      same-chunks = refl;
      size = refl;
    }

-- ---- enable 0 and fault

pub stop-passed : (n : Node) (lent : ℕ) → stop_refusal n lent ≡ 0 → Passed n lent (stoppable n.state)
unfolding stop_refusal
stop-passed n lent e =
    let ts : List Test = stop_tests n lent in
    passes n lent (stoppable n.state) (none-applies ts e 1 refl) (none-applies ts e 2 refl) (none-applies ts e 3 refl) (none-applies ts e 9 refl)

pub enable0-keeps : (n : Node) (lent : ℕ) → stop_refusal n lent ≡ 0 → Keeps Kind.enable0 n (disabled n)
unfolding disabled ended_transfer transferred went_to kept_ok
enable0-keeps n lent e =
    let p = stop-passed n lent e in
    let v = p.rules in
    record {
      rules = valid-of (disabled n) (record { some = v.some; few = v.few; stand = given _ _ (at-node (λ s store create hand own. gives (standing s store create hand own && (stoppable s)) (standing State.NoIo store create false own)) refl n) (and_both v.stand p.from); ids = v.ids; top = v.top; keeps = v.keeps; part = omega arith });
      lawful = given _ _ (at-node (λ s store create hand own. gives (standing s store create hand own && (stoppable s)) (legal Kind.enable0 s (State.NoIo))) refl n) (and_both v.stand p.from);
      same_id = refl;
      same-chunks = refl;
      size = refl;
    }

pub fault-keeps : (n : Node) (lent : ℕ) → stop_refusal n lent ≡ 0 → Keeps Kind.fault n (went_to n State.NoIo)
unfolding went_to kept_ok
fault-keeps n lent e =
    let p = stop-passed n lent e in
    let v = p.rules in
    record {
      rules = valid-of (went_to n State.NoIo) (record { some = v.some; few = v.few; stand = given _ _ (at-node (λ s store create hand own. gives (standing s store create hand own && (stoppable s)) (standing State.NoIo store create hand own)) refl n) (and_both v.stand p.from); ids = v.ids; top = v.top; keeps = v.keeps; part = v.part });
      lawful = given _ _ (at-node (λ s store create hand own. gives (standing s store create hand own && (stoppable s)) (legal Kind.fault s (State.NoIo))) refl n) (and_both v.stand p.from);
      same_id = refl;
      same-chunks = refl;
      size = refl;
    }
