-- MAP_READY, giving a part, MAP_GET_VER, LAST_IO_TO_MAP: what an accepted one knows, and that it keeps the state rules and the table of legal changes. Assumes nothing.
use mathlib.Core.Path.{◌≡◌, refl}
use mathlib.Core.Bool.{true, ◌&&◌}
use mathlib.Core.List.{List}
use Prim.Native.Nat.{ℕ}
use native.Mathlib.Omega.{arith}
use lib.Dec.{ltb}
use borrow.Author.Tests.{not-false}
use Rattle.laws_words.specs.Tests.{and_both}
use Rattle.rules_base.specs.Refusals.{Test}
use Rattle.rules_base.specs.Parts.{is_part}
use Rattle.rules_base.proofs.Part.{Part, is-part}
use Rattle.rules_base.proofs.Order.{none-applies}
use Rattle.rules_node.specs.declared.State.{State}
use Rattle.rules_node.specs.declared.Node.{Node}
use Rattle.rules_node.specs.States.{is_joined, is_serving}
use Rattle.rules_node.specs.Change.{went_to, transferred}
use Rattle.rules_node.specs.StateRules.{kept_ok, standing}
use Rattle.rules_node.specs.Table.{Kind, legal}
use Rattle.laws_node.proofs.Tables.{gives, given}
use Rattle.laws_node.proofs.Valid.{valid-of, at-node}
use Rattle.laws_node.proofs.Passed.{or-false, Passed, passes, Keeps, unchanged}
use Rattle.rules_node.specs.Serve.{serve_tests, serve_refusal, readied, give_part_tests, give_part_refusal, last_io_tests, last_io_refusal}

-- ---- MAP_READY, MAP_GET_VER, giving a part

pub serve-passed : (n : Node) (lent : ℕ) → serve_refusal n lent ≡ 0 → Passed n lent (is_serving n)
unfolding serve_refusal
serve-passed n lent e =
    let ts : List Test = serve_tests n lent in
    passes n lent (is_serving n) (none-applies ts e 1 refl) (none-applies ts e 2 refl) (none-applies ts e 3 refl) (none-applies ts e 9 refl)

pub map_ready-keeps : (n : Node) (lent : ℕ) → serve_refusal n lent ≡ 0 → Keeps Kind.map_ready n (readied n)
unfolding readied transferred went_to kept_ok
map_ready-keeps n lent e =
    let p = serve-passed n lent e in
    let v = p.rules in
    record {
      rules = valid-of (readied n) (record { some = v.some; few = v.few; stand = given _ _ (at-node (λ s store create hand own. gives (standing s store create hand own && (is_joined s && store)) (standing State.NoIo store create true own)) refl n) (and_both v.stand p.from); ids = v.ids; top = v.top; keeps = v.keeps; part = omega arith });
      lawful = given _ _ (at-node (λ s store create hand own. gives (standing s store create hand own && (is_joined s && store)) (legal Kind.map_ready s (State.NoIo))) refl n) (and_both v.stand p.from);
      same_id = refl;
      same-chunks = refl;
      size = refl;
    }

pub give_part-passed : (n : Node) (lent offset length : ℕ) → give_part_refusal n lent offset length ≡ 0 → Passed n lent (is_serving n) × Part offset length
unfolding give_part_refusal
give_part-passed n lent offset length e =
    let ts : List Test = give_part_tests n lent offset length in
    (passes n lent (is_serving n) (none-applies ts e 1 refl) (none-applies ts e 2 refl) (none-applies ts e 3 refl) (none-applies ts e 9 refl), is-part offset length (not-false (is_part offset length) (none-applies ts e 16 refl)))

pub give_part-keeps : (n : Node) (lent offset length : ℕ) → give_part_refusal n lent offset length ≡ 0 → Keeps Kind.give_part n n
give_part-keeps n lent offset length e =
    let p = (give_part-passed n lent offset length e).0 in
    unchanged Kind.give_part n p.rules (given _ _ (at-node (λ s store create hand own. gives (standing s store create hand own && (is_joined s && store)) (legal Kind.give_part s s)) refl n) (and_both p.rules.stand p.from))

pub map_get_ver-keeps : (n : Node) (lent : ℕ) → serve_refusal n lent ≡ 0 → Keeps Kind.map_get_ver n n
map_get_ver-keeps n lent e =
    let p = serve-passed n lent e in
    unchanged Kind.map_get_ver n p.rules (given _ _ (at-node (λ s store create hand own. gives (standing s store create hand own && (is_joined s && store)) (legal Kind.map_get_ver s s)) refl n) (and_both p.rules.stand p.from))

-- ---- LAST_IO_TO_MAP

pub last_io-passed : (n : Node) (lent : ℕ) (chosen : ℕ) → last_io_refusal n lent chosen ≡ 0 → Passed n lent (is_serving n)
unfolding last_io_refusal
last_io-passed n lent chosen e =
    let ts : List Test = last_io_tests n lent chosen in
    passes n lent (is_serving n) (none-applies ts e 1 refl) (none-applies ts e 2 refl) (or-false (ltb 15 n.id) _ (none-applies ts e 3 refl)).0 (none-applies ts e 9 refl)

pub last_io-keeps : (n : Node) (lent : ℕ) (chosen : ℕ) → last_io_refusal n lent chosen ≡ 0 → Keeps Kind.last_io_to_map n n
last_io-keeps n lent chosen e =
    let p = last_io-passed n lent chosen e in
    unchanged Kind.last_io_to_map n p.rules (given _ _ (at-node (λ s store create hand own. gives (standing s store create hand own && (is_joined s && store)) (legal Kind.last_io_to_map s s)) refl n) (and_both p.rules.stand p.from))
