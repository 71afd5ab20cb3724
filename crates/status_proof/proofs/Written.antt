-- What the descriptors that are written come to: how many bytes they are, that they cover the volume, that none is empty, that neighbours differ; and what the lent bytes
-- are afterwards. Assumes nothing.
use mathlib.Core.Path.{◌≡◌, refl, ◌∙◌}
use mathlib.Core.Bool.{Bool, true, false, not, ◌&&◌, ◌||◌}
use mathlib.Core.List.{List, [], ◌∷◌, ◌++◌}
use Prim.Native.Nat.{ℕ, zero, suc, ◌+◌, ◌-◌, ◌*◌, ◌^◌, ◌≤◌, ◌<◌}
use native.Mathlib.Nat.{zero-add, suc-mul, one-mul}
use native.Mathlib.Omega.{arith}
use borrow.Author.Tests.{eq-eqb, ne_eqb, le-leb, ltb-true, ltb-false}
use lib.Dec.{eqb, ltb}
use lib.ListN.{length, drop}
use lib.Seq.{sets, sets-eq, take_at, drop_at}
use Rattle.laws_words.specs.Tests.{by_cases, and_right}
use Rattle.rules_base.specs.Chunk.{dirty}
use Rattle.status_row.specs.Volume.{flags_from, row_sound, size_good, volume_good}
use Rattle.status_row.specs.Descriptors.{total}
use Rattle.status_row.proofs.DescriptorsLaws.{size-cases, volume}
use Rattle.status_row.specs.Writing.{joins, runs_from, status_of, write_refusal, write_answer, write_leaves}
use Rattle.status_proof.specs.Laws.{none_empty, follow, neighbours_differ, Written}
use Rattle.status_proof.proofs.Back.{runs-start, length-bytes, descs-written, status-whole}

-- ---- how many
runs-most : (s : ℕ) (xs : List ℕ) (f b c m : ℕ) → length (runs_from s f b (flags_from xs c m)) ≤ suc m
unfolding runs_from flags_from
runs-most s xs f b c zero = omega arith
runs-most s xs f b c (suc m) =
    by_cases (joins f (dirty xs 0 c) (b + s))
    (λ e. rw e (omega (arith, runs-most s xs f (b + s) (suc c) m)))
    (λ e. rw e (omega (arith, runs-most s xs (dirty xs 0 c) s (suc c) m)))

-- at most a descriptor for each chunk
status-most : (n s : ℕ) (xs : List ℕ) → 0 < n → length (status_of n s xs) ≤ 8 * n
unfolding status_of
status-most n s xs h = rw (runs-start n s xs h) (omega (arith, length-bytes (runs_from s (dirty xs 0 0) (1 * s) (flags_from xs 1 (n - 1))), runs-most s xs (dirty xs 0 0) (1 * s) 1 (n - 1)))

-- ---- how much
total_runs : (s : ℕ) (xs : List ℕ) (f b c m : ℕ) → total (runs_from s f b (flags_from xs c m)) ≡ b + m * s
unfolding runs_from flags_from total
total_runs s xs f b c zero = omega arith
total_runs s xs f b c (suc m) =
    by_cases (joins f (dirty xs 0 c) (b + s))
    (λ e. rw (e, suc-mul m s) (omega (arith, total_runs s xs f (b + s) (suc c) m)))
    (λ e. rw (e, suc-mul m s) (omega (arith, total_runs s xs (dirty xs 0 c) s (suc c) m)))

covered : (n s : ℕ) → 0 < n → 1 * s + (n - 1) * s ≡ n * s
covered zero s h = absurd (let z : ⊥ = omega arith in z)
covered (suc n) s h = let q : suc n - 1 ≡ n = omega arith in rw (q, suc-mul n s) (omega arith)

-- ---- none is empty
runs-none-empty : (s : ℕ) (xs : List ℕ) (f b c m : ℕ) → 0 < s → 0 < b → none_empty (runs_from s f b (flags_from xs c m)) ≡ true
unfolding runs_from flags_from none_empty
runs-none-empty s xs f b c zero h l = rw (ne_eqb b 0 (λ e. let z : ⊥ = omega arith in z))
runs-none-empty s xs f b c (suc m) h l =
    by_cases (joins f (dirty xs 0 c) (b + s))
    (λ e. rw e (runs-none-empty s xs f (b + s) (suc c) m h (omega arith)))
    (λ e. rw (e, ne_eqb b 0 (λ e. let z : ⊥ = omega arith in z)) (runs-none-empty s xs (dirty xs 0 c) s (suc c) m h h))

-- ---- neighbours
-- a whole number of chunks below 2^32 that has no room for one more is 2^32 less one chunk
cut-exact : (s : ℕ) → size_good s ≡ true → (k : ℕ) → k * s < 4294967296 → 4294967296 ≤ k * s + s → k * s + s ≡ 4294967296
cut-exact = size-cases (λ s. (k : ℕ) → k * s < 4294967296 → 4294967296 ≤ k * s + s → k * s + s ≡ 4294967296)
    (λ k a b. omega arith) (λ k a b. omega arith) (λ k a b. omega arith) (λ k a b. omega arith) (λ k a b. omega arith) (λ k a b. omega arith) (λ k a b. omega arith) (λ k a b. omega arith) (λ k a b. omega arith)

module _ (s : ℕ) (good : size_good s ≡ true) (low : s < 4294967296) where
  apart : (f g k : ℕ) → k * s < 4294967296 → joins f g (k * s + s) ≡ false → (not (eqb f g) || eqb (k * s + s) (2 ^ 32)) ≡ true
  apart f g k h e = go (eqb f g) e
    where
      go : (t : Bool) → (t && ltb (k * s + s) 4294967296) ≡ false → (not t || eqb (k * s + s) (2 ^ 32)) ≡ true
      go true q = eq-eqb (k * s + s) 4294967296 (cut-exact s good k h (ltb-false (k * s + s) 4294967296 q))
      go false q = refl

  room : (f g next : ℕ) → joins f g next ≡ true → next < 4294967296
  room f g next e = ltb-true next 4294967296 (and_right (eqb f g) _ e)

  follow-runs : (b f g k : ℕ) (gs : List ℕ) → k * s < 4294967296 → (not (eqb f g) || eqb (b + s) (2 ^ 32)) ≡ true → follow s b f (runs_from s g (k * s) gs) ≡ true
  unfolding follow runs_from
  follow-runs b f g k [] h e = rw e
  follow-runs b f g k (x ∷ gs) h e =
      by_cases (joins g x (k * s + s))
      (λ q. rw (q, ← suc-mul k s) (follow-runs b f g (suc k) gs (rw (suc-mul k s) (room g x (k * s + s) q)) e))
      (λ q. rw (q, e) (rw one-mul at (follow-runs (k * s) g x 1 gs (rw one-mul low) (apart g x k h q))))

  runs-differ : (f k : ℕ) (gs : List ℕ) → k * s < 4294967296 → neighbours_differ s (runs_from s f (k * s) gs) ≡ true
  unfolding neighbours_differ runs_from
  runs-differ f k [] h = unfold follow in refl
  runs-differ f k (x ∷ gs) h =
      by_cases (joins f x (k * s + s))
      (λ q. rw (q, ← suc-mul k s) (runs-differ f (suc k) gs (rw (suc-mul k s) (room f x (k * s + s) q))))
      (λ q. rw q (rw one-mul at (follow-runs (k * s) f x 1 gs (rw one-mul low) (apart f x k h q))))

-- ---- the lent bytes
laid : (bs out : List ℕ) → length bs ≤ length out → sets out 0 bs ≡ bs ++ drop (length bs) out
laid bs out h = sets-eq bs out 0 (rw zero-add h) ∙ rw zero-add

accepted : (n s : ℕ) (xs out : List ℕ) → row_sound n xs ≡ true → volume_good n s ≡ true → 32768 ≤ length out → write_refusal n s xs out ≡ 0
unfolding write_refusal
accepted n s xs out e g h = rw (e, g, le-leb 32768 (length out) h)

pub written : (n s : ℕ) (xs out : List ℕ) → row_sound n xs ≡ true → volume_good n s ≡ true → 32768 ≤ length out → Written n s xs out
unfolding write_answer write_leaves
written n s xs out e g h =
    let v = volume n s g in
    let a = accepted n s xs out e g h in
    let ds = descs-written n s xs g in
    let m : length (status_of n s xs) ≤ 32768 = omega (arith, status-most n s xs v.from, v.upto) in
    let l = laid (status_of n s xs) out (omega arith) in
    record {
      answer = rw a;
      front = rw (a, l) (take_at (status_of n s xs) _ _ refl);
      rest = rw (a, l) (drop_at (status_of n s xs) _ _ refl);
      most = m;
      whole = status-whole n s xs;
      covers = rw ds (total_runs s xs (dirty xs 0 0) (1 * s) 1 (n - 1) ∙ covered n s v.from);
      none-empty = rw ds (runs-none-empty s xs (dirty xs 0 0) (1 * s) 1 (n - 1) (omega (arith, v.least)) (omega (arith, v.least)));
      neighbours = rw ds (runs-differ s v.size (omega (arith, v.most)) (dirty xs 0 0) 1 (flags_from xs 1 (n - 1)) (omega (arith, v.most)));
    }
