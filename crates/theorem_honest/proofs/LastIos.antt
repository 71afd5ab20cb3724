-- LAST_IO_TO_MAP, seen at any chunk: what was dirty stays so, and the node's kept chunks that are clean for the chosen are marked for its members but the chosen.
use mathlib.Core.Path.{◌≡◌, refl, ◌∙◌}
use mathlib.Core.Bool.{Bool, true, false, not, ◌&&◌, ◌||◌}
use mathlib.Core.Logic.{◌≢◌}
use mathlib.Core.List.{List}
use Prim.Native.Nat.{ℕ, zero, suc, ◌+◌, ◌-◌, ◌≤◌, ◌<◌, min, max}
use native.Mathlib.Omega.{arith}
use native.Mathlib.Decide.{ℕ_discrete}
use lib.Dec.{eqb}
use lib.ListN.{get_or}
use borrow.Author.Tests.{eq-eqb, ne_eqb, eqb-true, eqb-false}
use Rattle.laws_words.specs.Words.{pick, one}
use Rattle.laws_words.specs.Loops.{run_at}
use Rattle.laws_words.specs.Tests.{by_cases, clash}
use Rattle.rules_base.specs.Sets.{has, without}
use Rattle.rules_base.proofs.Sets.{has-without-same}
use Rattle.rules_base.specs.Chunk.{dirty, marked_for}
use Rattle.rules_base.proofs.Chunk.{dirty-lt}
use Rattle.rules_base.proofs.Chunks.{same, same-yes, same-no, dirty-marked_for}
use Rattle.rules_base.proofs.Sound.{Sound}
use Rattle.rules_node.specs.declared.Node.{Node}
use Rattle.rules_node.specs.StateRules.{is_kept}
use Rattle.laws_node.proofs.Valid.{kept-below}
use Rattle.rules_node.specs.Carry.{last_ios, last_io_at, last_io}
use Rattle.theorem_honest.specs.Demand.{any, is_dirty, keeps}
use Rattle.theorem_honest.proofs.Stations.{Core, sound-place}

-- ---- some number below n passes a test

pub any_at : (n : ℕ) (t : ℕ → Bool) (k : ℕ) → k < n → t k ≡ true → any n t ≡ true
any_at zero t k h e = absurd (let z : ⊥ = omega arith in z)
any_at (suc n) t k h e = go (ℕ_discrete k n) (any_at n t k)
  where
    right : (a b : Bool) → b ≡ true → (a || b) ≡ true
    right true b q = refl
    right false b q = q

    go : Dec (k ≡ n) → (k < n → t k ≡ true → any n t ≡ true) → any (suc n) t ≡ true
    go (yes p) rec = let q : t n ≡ true = rw p at e in rw q refl
    go (no p) rec = right (t n) (any n t) (rec (omega arith) e)

pub any_none : (n : ℕ) (t : ℕ → Bool) → ((k : ℕ) → k < n → t k ≡ false) → any n t ≡ false
any_none zero t h = refl
any_none (suc n) t h = rw (h n (omega arith)) (any_none n t (λ k l. h k (omega arith)))

-- one that passes
pub any-one : (n : ℕ) (t : ℕ → Bool) (P : Type 0) → any n t ≡ true → ((k : ℕ) → k < n → t k ≡ true → P) → P
any-one zero t P e f = clash e refl
any-one (suc n) t P e f = by_cases (t n) (λ q. f n (omega arith) q) (λ q. any-one n t P (rw q at e) (λ k l r. f k (omega arith) r))

pub none-at : (n : ℕ) (t : ℕ → Bool) → any n t ≡ false → (k : ℕ) → k < n → t k ≡ false
none-at n t e k h = by_cases (t k) (λ q. clash (any_at n t k h q) e) (λ q. q)

-- ---- a chunk is dirty or clean

pub dirty-yes : (xs : List ℕ) (m c : ℕ) → is_dirty xs m c ≡ true → dirty xs m c ≡ 1
dirty-yes xs m c e = eqb-true (dirty xs m c) 1 e

pub dirty-no : (xs : List ℕ) (m c : ℕ) → is_dirty xs m c ≡ false → dirty xs m c ≡ 0
dirty-no xs m c e = let d : dirty xs m c ≢ 1 = eqb-false (dirty xs m c) 1 e in omega (arith, d, dirty-lt xs m c)

-- ---- the kept chunks, one place after another

module _ (c j x : ℕ) (n : Node) (k : Core c j n) (h : x < 16) (i ch : ℕ) (hi : i < 16) (hc : ch < 4096) where
  -- place p holds the chunk
  abbrev here : ℕ → Bool
  here p = is_kept n p && eqb (get_or n.kept p 0) ch

  -- 1 where i is to be marked: a member but the chosen
  abbrev among : ℕ
  among = one (has (without n.members x) i)

  -- what a place does to the chunk of i
  place-law : (p : ℕ) (xs : List ℕ) → p < 16 → Sound c xs → dirty (last_io_at n x p xs) i ch ≡ max (dirty xs i ch) (min among (min (1 - dirty xs x ch) (one (here p))))
  unfolding last_io_at last_io
  place-law p xs b s = outer (is_kept n p) refl
    where
      q : ℕ
      q = get_or n.kept p 0

      outer : (t : Bool) → is_kept n p ≡ t
          → dirty (pick t (pick (eqb (dirty xs x (get_or n.kept p 0)) 1) xs (marked_for xs (without n.members x) (get_or n.kept p 0))) xs) i ch
          ≡ max (dirty xs i ch) (min (one (has (without n.members x) i)) (min (1 - dirty xs x ch) (one (t && eqb (get_or n.kept p 0) ch))))
      outer false e = omega arith
      outer true e = by_cases (is_dirty xs x q)
          (λ d. rw d (other (ℕ_discrete q ch) (dirty-yes xs x q d)))
          (λ d. rw d (dirty-marked_for xs (without n.members x) q i ch s.len hi q-in hc ∙ mine (ℕ_discrete q ch) (dirty-no xs x q d)))
        where
          q-in : q < 4096
          q-in = let l : get_or n.kept p 0 < n.chunks = kept-below n k.keeps p b e in omega (arith, l, k.few)

          other : Dec (q ≡ ch) → dirty xs x q ≡ 1 → dirty xs i ch ≡ max (dirty xs i ch) (min among (min (1 - dirty xs x ch) (one (eqb q ch))))
          other (yes w) d = let d' : dirty xs x ch ≡ 1 = rw w at d in omega arith
          other (no w) d = rw (ne_eqb q ch w) (omega arith)

          mine : Dec (q ≡ ch) → dirty xs x q ≡ 0 → max (dirty xs i ch) (min among (same q ch)) ≡ max (dirty xs i ch) (min among (min (1 - dirty xs x ch) (one (eqb q ch))))
          mine (yes w) d = let d' : dirty xs x ch ≡ 0 = rw w at d in rw (eq-eqb q ch w, same-yes q ch w, d') (omega arith)
          mine (no w) d = rw (ne_eqb q ch w, same-no q ch w) (omega arith)

module _ (c j x : ℕ) (n : Node) (k : Core c j n) (h : x < 16) (ch : ℕ) (hc : ch < 4096) where
  -- the chosen's own row stays
  own-stays : (p : ℕ) (xs : List ℕ) → p < 16 → Sound c xs → dirty (last_io_at n x p xs) x ch ≡ dirty xs x ch
  own-stays p xs b s = place-law c j x n k h x ch h hc p xs b s ∙ rw (has-without-same n.members x) (omega arith)

  module _ (i : ℕ) (hi : i < 16) where
    -- what is dirty stays so
    run-held : (l p : ℕ) (xs : List ℕ) → p + l ≤ 16 → Sound c xs → dirty xs i ch ≤ dirty (run_at (last_io_at n x) l p xs) i ch
    run-held zero p xs b s = omega arith
    run-held (suc l) p xs b s =
        let a = place-law c j x n k h i ch hi hc p xs (omega arith) s in
        let r = run-held l (suc p) (last_io_at n x p xs) (omega arith) (sound-place c j x n p xs k (omega arith) s) in
        omega arith

    -- a chunk that is kept at one of the places is marked
    run-marks : (l p q : ℕ) (xs : List ℕ) → p + l ≤ 16 → p ≤ q → q < p + l → Sound c xs → here c j x n k h i ch hi hc q ≡ true → dirty xs x ch ≡ 0 → has (without n.members x) i ≡ true
        → dirty (run_at (last_io_at n x) l p xs) i ch ≡ 1
    run-marks zero p q xs b lo hi' s e d m = absurd (let z : ⊥ = omega arith in z)
    run-marks (suc l) p q xs b lo hi' s e d m = go (ℕ_discrete q p) (run-marks l (suc p) q ys)
      where
        ys : List ℕ
        ys = last_io_at n x p xs

        snd : Sound c ys
        snd = sound-place c j x n p xs k (omega arith) s

        law : dirty ys i ch ≡ max (dirty xs i ch) (min (one (has (without n.members x) i)) (min (1 - dirty xs x ch) (one (here c j x n k h i ch hi hc p))))
        law = place-law c j x n k h i ch hi hc p xs (omega arith) s

        own : dirty ys x ch ≡ dirty xs x ch
        own = own-stays p xs (omega arith) s

        go : Dec (q ≡ p)
            → (suc p + l ≤ 16 → suc p ≤ q → q < suc p + l → Sound c ys → here c j x n k h i ch hi hc q ≡ true → dirty ys x ch ≡ 0 → has (without n.members x) i ≡ true → dirty (run_at (last_io_at n x) l (suc p) ys) i ch ≡ 1)
            → dirty (run_at (last_io_at n x) l (suc p) ys) i ch ≡ 1
        go (yes w) rec =
            let e' : here c j x n k h i ch hi hc p ≡ true = rw w at e in
            let a : dirty ys i ch ≡ 1 = law ∙ rw (e', m, d) (omega (arith, dirty-lt xs i ch)) in
            let r = run-held l (suc p) ys (omega arith) snd in
            omega (arith, a, r, dirty-lt (run_at (last_io_at n x) l (suc p) ys) i ch)
        go (no w) rec = rec (omega arith) (omega arith) (omega arith) snd e (own ∙ d) m

    -- nothing else is
    run_only : (l p : ℕ) (xs : List ℕ) → p + l ≤ 16 → Sound c xs → ((q : ℕ) → q < 16 → (here c j x n k h i ch hi hc q && (not (is_dirty xs x ch) && has (without n.members x) i)) ≡ false)
        → dirty (run_at (last_io_at n x) l p xs) i ch ≡ dirty xs i ch
    run_only zero p xs b s e = refl
    run_only (suc l) p xs b s e =
        run_only l (suc p) (last_io_at n x p xs) (omega arith) (sound-place c j x n p xs k (omega arith) s)
        (λ q r. rw (own-stays p xs (omega arith) s) (e q r))
        ∙ (place-law c j x n k h i ch hi hc p xs (omega arith) s ∙ unmarked (here c j x n k h i ch hi hc p) (has (without n.members x) i) (e p (omega arith)))
      where
        unmarked : (a b : Bool) → (a && (not (is_dirty xs x ch) && b)) ≡ false → max (dirty xs i ch) (min (one b) (min (1 - dirty xs x ch) (one a))) ≡ dirty xs i ch
        unmarked false b q = omega arith
        unmarked true false q = omega arith
        unmarked true true q = by_cases (is_dirty xs x ch)
            (λ d. let y = dirty-yes xs x ch d in omega arith)
            (λ d. clash (rw d refl) q)

    -- ---- LAST_IO_TO_MAP whole

    pub last-held : (xs : List ℕ) → Sound c xs → dirty xs i ch ≤ dirty (last_ios n x xs) i ch
    unfolding last_ios
    last-held xs s = run-held 16 0 xs (omega arith) s

    pub last-marks : (xs : List ℕ) → Sound c xs → keeps n ch ≡ true → dirty xs x ch ≡ 0 → has (without n.members x) i ≡ true → dirty (last_ios n x xs) i ch ≡ 1
    unfolding last_ios keeps
    last-marks xs s e d m = any-one 16 (here c j x n k h i ch hi hc) (dirty (last_ios n x xs) i ch ≡ 1) e (λ q l r. run-marks 16 0 q xs (omega arith) (omega arith) (omega arith) s r d m)

    pub last-only : (xs : List ℕ) → Sound c xs → (keeps n ch && (not (is_dirty xs x ch) && has (without n.members x) i)) ≡ false → dirty (last_ios n x xs) i ch ≡ dirty xs i ch
    unfolding last_ios keeps
    last-only xs s e = run_only 16 0 xs (omega arith) s (λ q l. not-here q l (not (is_dirty xs x ch) && has (without n.members x) i) e)
      where
        not-here : (q : ℕ) → q < 16 → (b : Bool) → (any 16 (here c j x n k h i ch hi hc) && b) ≡ false → (here c j x n k h i ch hi hc q && b) ≡ false
        not-here q l b r = by_cases (here c j x n k h i ch hi hc q)
            (λ y. rw y (rw (any_at 16 (here c j x n k h i ch hi hc) q l y) at r))
            (λ y. rw y refl)
