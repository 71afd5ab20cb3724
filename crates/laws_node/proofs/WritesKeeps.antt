-- Write, synced, POOL_INFO: what an accepted one knows, and that it keeps the state rules and the table of legal changes. Assumes nothing.
use mathlib.Core.Path.{◌≡◌, refl, sym}
use mathlib.Core.Bool.{true, ◌&&◌}
use mathlib.Core.List.{List, [], ◌∷◌, ◌++◌}
use Prim.Native.Nat.{ℕ, ◌+◌, ◌≤◌, max}
use native.Mathlib.Omega.{arith}
use lib.Dec.{eqb, ltb}
use lib.ListN.{length, drop}
use borrow.Author.Tests.{not-false, ltb-false, ltb-true, eqb-false}
use Rattle.laws_words.specs.Tests.{and_both}
use Rattle.rules_base.specs.Limits.{version_top}
use Rattle.rules_base.specs.Refusals.{Test}
use Rattle.rules_base.specs.Sets.{has}
use Rattle.rules_base.proofs.Sets.{has-with-other, has-without-other, with-lt, without-lt}
use Rattle.rules_base.proofs.Order.{none-applies}
use Rattle.rules_node.specs.declared.Node.{Node}
use Rattle.rules_node.specs.States.{is_normal, is_joined}
use Rattle.rules_node.specs.Change.{taken_over, member_entered, member_dropped, stored_version, kept_chunk}
use Rattle.rules_node.specs.StateRules.{kept_ok, standing}
use Rattle.rules_node.specs.Table.{Kind, legal}
use Rattle.laws_node.proofs.Tables.{gives, given}
use Rattle.laws_node.proofs.Valid.{valid-of, at-node, kept_chunk-keeps}
use Rattle.laws_node.proofs.Passed.{or-false, Passed, passes, Keeps, unchanged}
use mathlib.Core.Logic.{◌≢◌}
use Rattle.rules_base.specs.declared.Op.{Op}
use Rattle.rules_node.specs.Write.{write_tests, write_refusal, written, synced_tests, synced_refusal}
use Rattle.rules_node.specs.Info.{lacks, pool_info_tests, pool_info_refusal, informed}

-- ---- write

pub write-passed : (n : Node) (lent : ℕ) (chunk : ℕ) (set : ℕ) (version : ℕ) → write_refusal n lent chunk set version ≡ 0 → Passed n lent (is_normal n.state)
unfolding write_refusal
write-passed n lent chunk set version e =
    let ts : List Test = write_tests n lent chunk set version in
    passes n lent (is_normal n.state) (none-applies ts e 1 refl) (none-applies ts e 2 refl) (or-false (ltb 15 n.id) _ (none-applies ts e 3 refl)).0 (none-applies ts e 9 refl)

-- the chunk is below the chunk count
pub write-chunk : (n : Node) (lent : ℕ) (chunk set version : ℕ) → write_refusal n lent chunk set version ≡ 0 → ltb chunk n.chunks ≡ true
unfolding write_refusal
write-chunk n lent chunk set version e =
    let ts : List Test = write_tests n lent chunk set version in
    not-false _ (none-applies ts e 4 refl)

-- the version is within the bound of the state rules
pub write-version : (n : Node) (lent : ℕ) (chunk set version : ℕ) → write_refusal n lent chunk set version ≡ 0 → version ≤ version_top
unfolding write_refusal
write-version n lent chunk set version e =
    let ts : List Test = write_tests n lent chunk set version in
    ltb-false version_top version (none-applies ts e 14 refl)

shifted-size : (k : List ℕ) (c : ℕ) → length k ≡ 16 → length (drop 1 k ++ (c ∷ [])) ≡ length k
shifted-size [] c h = absurd (let z : ⊥ = omega arith in z)
shifted-size (x ∷ k) c h = one_more k
  where
    one_more : (l : List ℕ) → length (l ++ (c ∷ [])) ≡ length (x ∷ l)
    one_more [] = refl
    one_more (y ∷ l) = let q = one_more l in omega arith

pub write_keeps : (n : Node) (lent : ℕ) (chunk : ℕ) (set : ℕ) (version : ℕ) → length n.kept ≡ 16 → write_refusal n lent chunk set version ≡ 0 → Keeps Kind.write n (written n chunk version)
unfolding written kept_chunk stored_version kept_ok
write_keeps n lent chunk set version h e =
    let p = write-passed n lent chunk set version e in
    let v = p.rules in
    record {
      rules = valid-of (written n chunk version) (record { some = v.some; few = v.few; stand = given _ _ (at-node (λ s store create hand own. gives (standing s store create hand own && (is_normal s)) (standing s store create hand own)) refl n) (and_both v.stand p.from); ids = v.ids; top = omega (arith, v.top, write-version n lent chunk set version e); keeps = kept_chunk-keeps (stored_version n (max n.version version)) chunk h v.keeps (ltb-true _ _ (write-chunk n lent chunk set version e)); part = v.part });
      lawful = given _ _ (at-node (λ s store create hand own. gives (standing s store create hand own && (is_normal s)) (legal Kind.write s (s))) refl n) (and_both v.stand p.from);
      same_id = refl;
      same-chunks = refl;
      size = shifted-size n.kept chunk h;
    }

-- ---- synced

pub synced-passed : (n : Node) (lent : ℕ) (member : ℕ) (chunk : ℕ) → synced_refusal n lent member chunk ≡ 0 → Passed n lent (is_normal n.state)
unfolding synced_refusal
synced-passed n lent member chunk e =
    let ts : List Test = synced_tests n lent member chunk in
    passes n lent (is_normal n.state) (none-applies ts e 1 refl) (none-applies ts e 2 refl) (or-false (ltb 15 n.id) _ (none-applies ts e 3 refl)).0 (none-applies ts e 9 refl)

pub synced-keeps : (n : Node) (lent : ℕ) (member : ℕ) (chunk : ℕ) → synced_refusal n lent member chunk ≡ 0 → Keeps Kind.synced n n
synced-keeps n lent member chunk e =
    let p = synced-passed n lent member chunk e in
    unchanged Kind.synced n p.rules (given _ _ (at-node (λ s store create hand own. gives (standing s store create hand own && (is_normal s)) (legal Kind.synced s s)) refl n) (and_both p.rules.stand p.from))

-- ---- POOL_INFO

pub pool_info-passed : (n : Node) (lent : ℕ) (op : Op) (member : ℕ) → pool_info_refusal n lent op member ≡ 0 → Passed n lent (is_joined n.state)
unfolding pool_info_refusal
pool_info-passed n lent op member e =
    let ts : List Test = pool_info_tests n lent op member in
    passes n lent (is_joined n.state) (none-applies ts e 1 refl) (none-applies ts e 2 refl) (or-false (ltb 15 n.id) _ (none-applies ts e 3 refl)).0 (none-applies ts e 9 refl)

-- never about itself
pub pool_info-other : (n : Node) (lent : ℕ) (op : Op) (member : ℕ) → pool_info_refusal n lent op member ≡ 0 → n.id ≢ member
unfolding pool_info_refusal
pool_info-other n lent op member e =
    let ts : List Test = pool_info_tests n lent op member in
    let d : member ≢ n.id = eqb-false member n.id (or-false (eqb member n.id) (lacks op (has n.members member)) (none-applies ts e 10 refl)).0 in
    λ q. d (sym q)

pub pool_info-keeps : (n : Node) (lent : ℕ) (op : Op) (member : ℕ) → pool_info_refusal n lent op member ≡ 0 → Keeps Kind.pool_info n (informed op n member)
unfolding informed member_entered member_dropped taken_over kept_ok
pool_info-keeps n lent Op.AddCreate member e =
    let p = pool_info-passed n lent Op.AddCreate member e in
    let v = p.rules in
    let d = pool_info-other n lent Op.AddCreate member e in
    record {
      rules = valid-of (member_entered n member) (record { some = v.some; few = v.few; stand = rw (has-with-other n.members member n.id d) (given _ _ (at-node (λ s store create hand own. gives (standing s store create hand own && (is_joined s)) (standing s store create hand own)) refl n) (and_both v.stand p.from)); ids = with-lt n.members member v.ids; top = v.top; keeps = v.keeps; part = v.part });
      lawful = given _ _ (at-node (λ s store create hand own. gives (standing s store create hand own && (is_joined s)) (legal Kind.pool_info s (s))) refl n) (and_both v.stand p.from);
      same_id = refl;
      same-chunks = refl;
      size = refl;
    }
pool_info-keeps n lent Op.AddAssemble member e =
    let p = pool_info-passed n lent Op.AddAssemble member e in
    unchanged Kind.pool_info n p.rules (given _ _ (at-node (λ s store create hand own. gives (standing s store create hand own && (is_joined s)) (legal Kind.pool_info s s)) refl n) (and_both p.rules.stand p.from))
pool_info-keeps n lent Op.RemoveDelete member e =
    let p = pool_info-passed n lent Op.RemoveDelete member e in
    let v = p.rules in
    let d = pool_info-other n lent Op.RemoveDelete member e in
    record {
      rules = valid-of (member_dropped n member) (record { some = v.some; few = v.few; stand = rw (has-without-other n.members member n.id d) (given _ _ (at-node (λ s store create hand own. gives (standing s store create hand own && (is_joined s)) (standing s store create hand own)) refl n) (and_both v.stand p.from)); ids = without-lt n.members member v.ids; top = v.top; keeps = v.keeps; part = v.part });
      lawful = given _ _ (at-node (λ s store create hand own. gives (standing s store create hand own && (is_joined s)) (legal Kind.pool_info s (s))) refl n) (and_both v.stand p.from);
      same_id = refl;
      same-chunks = refl;
      size = refl;
    }
pool_info-keeps n lent Op.RemoveDisassemble member e =
    let p = pool_info-passed n lent Op.RemoveDisassemble member e in
    unchanged Kind.pool_info n p.rules (given _ _ (at-node (λ s store create hand own. gives (standing s store create hand own && (is_joined s)) (legal Kind.pool_info s s)) refl n) (and_both p.rules.stand p.from))
