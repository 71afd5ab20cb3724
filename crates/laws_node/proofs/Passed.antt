-- What an accepted event knows and keeps. Assumes nothing.
use Rattle.std.specs.Prelude.{Option, Some, None}
use mathlib.Core.Path.{◌≡◌, refl}
use mathlib.Core.Bool.{Bool, true, false, not, ◌||◌}
use Prim.Native.Nat.{ℕ, ◌≤◌, ◌<◌}
use native.Mathlib.Omega.{arith}
use lib.Dec.{eqb, ltb}
use lib.ListN.{length}
use borrow.Author.Tests.{ltb-false, not-false}
use Rattle.laws_words.specs.Tests.{clash}
use Rattle.rules_base.specs.Limits.{version_limit, version_top}
use Rattle.rules_base.specs.Sets.{has}
use Rattle.rules_node.specs.declared.Node.{Node}
use Rattle.rules_node.specs.States.{in_hand, is_whole}
use Rattle.rules_node.specs.StateRules.{valid}
use Rattle.rules_node.specs.Table.{Kind, legal}
use Rattle.laws_node.proofs.Valid.{Valid, valid-facts, valid-of}

pub or-false : (a b : Bool) → (a || b) ≡ false → (a ≡ false) × (b ≡ false)
or-false true b e = clash refl e
or-false false b e = (refl, e)

-- a map that was taken whole is in hand
pub whole-in-hand : (t : Option ℕ) → is_whole t ≡ true → in_hand t ≡ true
whole-in-hand None e = clash e refl
whole-in-hand (Some bytes) e = refl

-- what every accepted event knows: the node's rules, its own id, that the lent maps do not refuse, and that the event may come
pub record Passed (n : Node) (lent : ℕ) (may : Bool) : Type 0 where
  pub rules : Valid n
  pub sure : eqb lent 2 ≡ false
  pub own : n.id < 16
  pub from : may ≡ true

pub passes : (n : Node) (lent : ℕ) (may : Bool) → not (valid n) ≡ false → eqb lent 2 ≡ false → ltb 15 n.id ≡ false → not may ≡ false → Passed n lent may
passes n lent may v s i m =
    let l : n.id ≤ 15 = ltb-false 15 n.id i in
    record { rules = valid-facts n (not-false (valid n) v); sure = s; own = omega arith; from = not-false may m }

-- what the version and the set that a node is told are known to be
pub record Told (n : Node) (version set : ℕ) : Type 0 where
  pub set-lt : set < 65536
  pub holds : has set n.id ≡ true
  pub low : version ≤ version_top

pub tells : (n : Node) (version set : ℕ) → ltb 65535 set ≡ false → not (has set n.id) ≡ false → ltb version_limit version ≡ false → Told n version set
tells n version set s h v =
    let l : set ≤ 65535 = ltb-false 65535 set s in
    let w : version ≤ version_limit = ltb-false version_limit version v in
    record { set-lt = omega arith; holds = not-false (has set n.id) h; low = omega arith }

-- what an event of the kind k that takes the node n to m keeps: the state rules, the table of legal changes, id and chunk count
pub record Keeps (k : Kind) (n m : Node) : Type 0 where
  pub rules : valid m ≡ true
  pub lawful : legal k n.state m.state ≡ true
  pub same_id : m.id ≡ n.id
  pub same-chunks : m.chunks ≡ n.chunks
  pub size : length m.kept ≡ length n.kept

-- an event that leaves the node as it is
pub unchanged : (k : Kind) (n : Node) → Valid n → legal k n.state n.state ≡ true → Keeps k n n
unchanged k n v l = record { rules = valid-of n v; lawful = l; same_id = refl; same-chunks = refl; size = refl }
