-- The state rules taken apart and put together, and what keeps the rule of the kept chunks. Assumes nothing.
use mathlib.Core.Path.{◌≡◌, refl}
use mathlib.Core.Bool.{Bool, true, false}
use mathlib.Core.List.{List, [], ◌∷◌, ◌++◌}
use Prim.Native.Nat.{ℕ, zero, suc, ◌+◌, ◌-◌, ◌≤◌, ◌<◌}
use native.Mathlib.Decide.{ℕ_discrete}
use native.Mathlib.Omega.{arith}
use lib.Dec.{leb, ltb}
use lib.ListN.{length, get_or, drop}
use borrow.Author.Tests.{leb-true, le-leb, ltb-true, ltb-false, lt-ltb}
use Rattle.laws_words.specs.Words.{pick}
use Rattle.laws_words.specs.Tests.{by_cases, and_left, and_right, and_both, all-at}
use Rattle.laws_words.specs.Bits.{upto}
use Rattle.rules_base.specs.Limits.{chunk_limit, version_top}
use Rattle.rules_base.specs.Sets.{has}
use Rattle.rules_node.specs.declared.State.{State}
use Rattle.rules_node.specs.States.{in_hand, taken}
use Rattle.rules_node.specs.declared.Node.{Node}
use Rattle.rules_node.specs.Change.{kept_chunk}
use Rattle.laws_node.proofs.Tables.{every, every-at}
use Rattle.rules_node.specs.StateRules.{is_kept, place_ok, kept_ok, standing, rules, valid}

-- how a node stands, by its own fields
abbrev pub stands : Node → Bool
stands n = standing n.state n.store n.create (in_hand n.transfer) (has n.members n.id)

-- every rule, as a fact
pub record Valid (n : Node) : Type 0 where
  pub some : 1 ≤ n.chunks
  pub few : n.chunks ≤ 4096
  pub stand : stands n ≡ true
  pub ids : n.members < 65536
  pub top : n.version ≤ version_top
  pub keeps : kept_ok n ≡ true
  pub part : taken n.transfer ≤ 8192

pub valid-facts : (n : Node) → valid n ≡ true → Valid n
unfolding valid
valid-facts n e =
    let c = all-at (rules n) 0 e in
    let i = leb-true n.members 65535 (all-at (rules n) 2 e) in
    record {
      some = leb-true _ _ (and_left (leb 1 n.chunks) (leb n.chunks chunk_limit) c);
      few = leb-true _ _ (and_right (leb 1 n.chunks) (leb n.chunks chunk_limit) c);
      stand = all-at (rules n) 1 e;
      ids = omega arith;
      top = leb-true _ _ (all-at (rules n) 3 e);
      keeps = all-at (rules n) 4 e;
      part = leb-true _ _ (all-at (rules n) 5 e);
    }

pub valid-of : (n : Node) → Valid n → valid n ≡ true
unfolding valid
valid-of n v =
    let i : n.members ≤ 65535 = omega (arith, v.ids) in
    and_both (and_both (le-leb _ _ v.some) (le-leb _ _ v.few))
    (and_both v.stand (and_both (le-leb _ _ i) (and_both (le-leb _ _ v.top) (and_both v.keeps (le-leb _ _ v.part)))))

-- ---- the kept chunks

-- a test of all numbers below n, at one of them, and from all of them
pub upto-one : (n : ℕ) (f : ℕ → Bool) → upto n f ≡ true → (k : ℕ) → k < n → f k ≡ true
upto-one zero f e k h = absurd (let z : ⊥ = omega arith in z)
upto-one (suc n) f e k h = elim (ℕ_discrete k n) [
  | yes q ↦ rw q (and_left (f n) (upto n f) e)
  | no d ↦ upto-one n f (and_right (f n) (upto n f) e) k (omega arith)
]

pub upto_all : (n : ℕ) (f : ℕ → Bool) → ((k : ℕ) → k < n → f k ≡ true) → upto n f ≡ true
upto_all zero f h = refl
upto_all (suc n) f h = and_both (h n (omega arith)) (upto_all n f (λ k l. h k (omega arith)))

-- each kept chunk is below the chunk count
pub kept-below : (n : Node) → kept_ok n ≡ true → (i : ℕ) → i < 16 → is_kept n i ≡ true → get_or n.kept i 0 < n.chunks
unfolding kept_ok
kept-below n e i h k = ltb-true _ _ (rw k at (upto-one 16 (place_ok n) (and_right (leb n.held 16) (upto 16 (place_ok n)) e) i h))

get_d_front : (xs : List ℕ) (c i : ℕ) → i < length xs → get_or (xs ++ (c ∷ [])) i 0 ≡ get_or xs i 0
get_d_front [] c i h = absurd (let z : ⊥ = omega arith in z)
get_d_front (x ∷ xs) c zero h = refl
get_d_front (x ∷ xs) c (suc i) h = get_d_front xs c i (omega arith)

get_d-last : (xs : List ℕ) (c i : ℕ) → i ≡ length xs → get_or (xs ++ (c ∷ [])) i 0 ≡ c
get_d-last [] c zero h = refl
get_d-last [] c (suc i) h = absurd (let z : ⊥ = omega arith in z)
get_d-last (x ∷ xs) c zero h = absurd (let z : ⊥ = omega arith in z)
get_d-last (x ∷ xs) c (suc i) h = get_d-last xs c i (omega arith)

-- after the shift, place i holds what stood at i + 1, and the last place the new one
pub shift-front : (k : List ℕ) (c i : ℕ) → length k ≡ 16 → i < 15 → get_or (drop 1 k ++ (c ∷ [])) i 0 ≡ get_or k (i + 1) 0
shift-front [] c i h l = absurd (let z : ⊥ = omega arith in z)
shift-front (x ∷ k) c i h l = let q : i + 1 ≡ suc i = omega arith in rw q (get_d_front k c i (omega arith))

pub shift-last : (k : List ℕ) (c : ℕ) → length k ≡ 16 → get_or (drop 1 k ++ (c ∷ [])) 15 0 ≡ c
shift-last [] c h = absurd (let z : ⊥ = omega arith in z)
shift-last (x ∷ k) c h = get_d-last k c 15 (omega arith)

-- a chunk below the count is kept: the rule holds after it
pub kept_chunk-keeps : (n : Node) (c : ℕ) → length n.kept ≡ 16 → kept_ok n ≡ true → c < n.chunks → kept_ok (kept_chunk n c) ≡ true
unfolding kept_ok kept_chunk
kept_chunk-keeps n c h e l = and_both (few (ltb n.held 16) refl) (upto_all 16 (place_ok (kept_chunk n c)) place)
  where
    held-le : n.held ≤ 16
    held-le = leb-true n.held 16 (and_left (leb n.held 16) (upto 16 (place_ok n)) e)

    few : (b : Bool) → ltb n.held 16 ≡ b → leb (pick b (n.held + 1) 16) 16 ≡ true
    few true q = let r : n.held < 16 = ltb-true n.held 16 q in le-leb (n.held + 1) 16 (omega arith)
    few false q = refl

    more : (b : Bool) → ltb n.held 16 ≡ b → pick b (n.held + 1) 16 ≤ n.held + 1
    more true q = omega arith
    more false q = let r : 16 ≤ n.held = ltb-false n.held 16 q in omega arith

    -- a place that holds a kept chunk now held one before, one place further
    before : (i : ℕ) → i < 15 → is_kept (kept_chunk n c) i ≡ true → is_kept n (i + 1) ≡ true
    before i b k = let r : 16 - i ≤ pick (ltb n.held 16) (n.held + 1) 16 = leb-true (16 - i) (pick (ltb n.held 16) (n.held + 1) 16) k in le-leb (16 - (i + 1)) n.held (omega (arith, more (ltb n.held 16) refl))

    place : (i : ℕ) → i < 16 → place_ok (kept_chunk n c) i ≡ true
    place i b = by_cases (is_kept (kept_chunk n c) i)
        (λ k. rw k (elim (ℕ_discrete i 15) [
          | yes q ↦ rw (q, shift-last n.kept c h) (lt-ltb _ _ l)
          | no d ↦ let s : i < 15 = omega arith in rw (shift-front n.kept c i h s) (lt-ltb _ _ (kept-below n e (i + 1) (omega arith) (before i s k)))
        ]))
        (λ k. rw k refl)

-- a rule of the standing that holds of every standing, at this node's
pub at-node : (f : State → Bool → Bool → Bool → Bool → Bool) → every f ≡ true → (n : Node) → f n.state n.store n.create (in_hand n.transfer) (has n.members n.id) ≡ true
at-node f e n = every-at f e n.state n.store n.create (in_hand n.transfer) (has n.members n.id)
