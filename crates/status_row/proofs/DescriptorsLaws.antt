-- Laws of what is lent: a row's chunks as flags, and what the tests say. Assumes nothing.
use mathlib.Core.Path.{◌≡◌, refl}
use mathlib.Core.Bool.{Bool, true, false, ◌||◌}
use mathlib.Core.List.{List, [], ◌∷◌}
use Prim.Native.Nat.{ℕ, zero, suc, ◌+◌, ◌-◌, ◌≤◌, ◌<◌}
use native.Mathlib.Numerals.{add-one}
use native.Mathlib.Decide.{ℕ_discrete}
use native.Mathlib.Omega.{arith}
use borrow.Author.Tests.{eq-eqb, ne_eqb, eqb-true, eqb-false, ltb-true, leb-true}
use lib.Dec.{eqb, leb, ltb}
use lib.ListN.{length}
use Rattle.laws_words.specs.Tests.{and_left, and_right}
use Rattle.rules_base.specs.Limits.{chunk_limit}
use Rattle.rules_base.specs.Chunk.{dirty}
use Rattle.rules_base.proofs.Chunk.{dirty-lt}
use Rattle.status_row.specs.Volume.{flags_from, all_clean, row_sound, size_good, volume_good}

-- ---- flags
pub dirty-zero : (xs : List ℕ) (m c : ℕ) → eqb (dirty xs m c) 1 ≡ false → 0 ≡ dirty xs m c
dirty-zero xs m c e = let d = eqb-false (dirty xs m c) 1 e in let l = dirty-lt xs m c in omega arith

pub flags-more : (xs : List ℕ) (c n : ℕ) → c < n → flags_from xs c (n - c) ≡ dirty xs 0 c ∷ flags_from xs (c + 1) (n - (c + 1))
unfolding flags_from
flags-more xs c n h = let q : n - c ≡ suc (n - suc c) = omega arith in rw (add-one c, q)

pub flags-end : (xs : List ℕ) (c n : ℕ) → n ≤ c → flags_from xs c (n - c) ≡ []
unfolding flags_from
flags-end xs c n h = let q : n - c ≡ 0 = omega arith in rw q

-- ---- a row's test
pub row-short : (n : ℕ) (xs : List ℕ) → (length xs ≡ 512 → ⊥) → false ≡ row_sound n xs
unfolding row_sound
row-short n xs d = rw (ne_eqb (length xs) 512 d)

pub row-clean : (n : ℕ) (xs : List ℕ) → length xs ≡ 512 → all_clean xs n (4096 - n) ≡ row_sound n xs
unfolding row_sound
row-clean n xs l = rw (eq-eqb (length xs) 512 l)

pub clean-no : (xs : List ℕ) (c : ℕ) (t : Bool) → c < 4096 → (dirty xs 0 c ≡ 0 → ⊥) → all_clean xs c (4096 - c) ≡ t → false ≡ t
unfolding all_clean
clean-no xs c t h d e = let q : 4096 - c ≡ suc (4095 - c) = omega arith in rw (q, ne_eqb (dirty xs 0 c) 0 d) at e

pub clean-more : (xs : List ℕ) (c : ℕ) (t : Bool) → c < 4096 → dirty xs 0 c ≡ 0 → all_clean xs c (4096 - c) ≡ t → all_clean xs (c + 1) (4096 - (c + 1)) ≡ t
unfolding all_clean
clean-more xs c t h d e =
    let q : 4096 - c ≡ suc (4095 - c) = omega arith in
    let p : 4096 - suc c ≡ 4095 - c = omega arith in
    rw (add-one c, p) (rw (q, eq-eqb (dirty xs 0 c) 0 d) at e)

pub clean_end : (xs : List ℕ) (c : ℕ) (t : Bool) → 4096 ≤ c → all_clean xs c (4096 - c) ≡ t → true ≡ t
unfolding all_clean
clean_end xs c t h e = let q : 4096 - c ≡ 0 = omega arith in rw q at e

-- ---- what the tests say
clean_at : (xs : List ℕ) (a m : ℕ) → all_clean xs a m ≡ true → (c : ℕ) → a ≤ c → c < a + m → dirty xs 0 c ≡ 0
unfolding all_clean
clean_at xs a zero e c l u = absurd (let z : ⊥ = omega arith in z)
clean_at xs a (suc m) e c l u = elim (ℕ_discrete c a) [
  | yes q ↦ rw q (eqb-true (dirty xs 0 a) 0 (and_left (eqb (dirty xs 0 a) 0) (all_clean xs (suc a) m) e))
  | no d ↦ clean_at xs (suc a) m (and_right (eqb (dirty xs 0 a) 0) (all_clean xs (suc a) m) e) c (omega arith) (omega arith)
]

-- past its chunk count a sound row is clean
pub row-past : (n : ℕ) (xs : List ℕ) → row_sound n xs ≡ true → (c : ℕ) → n ≤ c → c < 4096 → dirty xs 0 c ≡ 0
unfolding row_sound
row-past n xs e c l u = clean_at xs n (4096 - n) (and_right (eqb (length xs) 512) _ e) c l (omega arith)

either : (a b : Bool) (P : Type 0) → (a || b) ≡ true → (a ≡ true → P) → (b ≡ true → P) → P
either true b P e f g = f refl
either false b P e f g = g e

-- a fact of each chunk size
pub size-cases : (P : ℕ → Type 0) → P 4096 → P 8192 → P 16384 → P 32768 → P 65536 → P 131072 → P 262144 → P 524288 → P 1048576 → (s : ℕ) → size_good s ≡ true → P s
unfolding size_good
size-cases P p₁ p₂ p₃ p₄ p₅ p₆ p₇ p₈ p₉ s e =
    either _ _ _ e (λ e. either _ _ _ e (λ e. either _ _ _ e (λ e. either _ _ _ e (λ e. either _ _ _ e (λ e. either _ _ _ e (λ e. either _ _ _ e (λ e. either _ _ _ e
    (at 4096 p₁) (at 8192 p₂)) (at 16384 p₃)) (at 32768 p₄)) (at 65536 p₅)) (at 131072 p₆)) (at 262144 p₇)) (at 524288 p₈)) (at 1048576 p₉)
  where
    at : (k : ℕ) → P k → eqb s k ≡ true → P s
    at k p q = rw (eqb-true s k q) p

size-range : (s : ℕ) → size_good s ≡ true → (4096 ≤ s) × (s ≤ 1048576)
size-range =
    size-cases (λ s. (4096 ≤ s) × (s ≤ 1048576)) (omega arith, omega arith) (omega arith, omega arith) (omega arith, omega arith) (omega arith, omega arith) (omega arith, omega arith) (omega arith, omega arith) (omega arith, omega arith) (omega arith, omega arith) (omega arith, omega arith)

-- the numbers of a good volume
pub record Volume (n s : ℕ) : Type 0 where
  pub from : 0 < n
  pub upto : n ≤ 4096
  pub size : size_good s ≡ true
  pub least : 4096 ≤ s
  pub most : s ≤ 1048576

pub volume : (n s : ℕ) → volume_good n s ≡ true → Volume n s
unfolding volume_good
volume n s e =
    let r = and_right (ltb 0 n) _ e in
    let g = and_right (leb n chunk_limit) (size_good s) r in
    record {
      from = ltb-true 0 n (and_left (ltb 0 n) _ e);
      upto = leb-true n 4096 (and_left (leb n chunk_limit) (size_good s) r);
      size = g;
      least = (size-range s g).0;
      most = (size-range s g).1;
    }
