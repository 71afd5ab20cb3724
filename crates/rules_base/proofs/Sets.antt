-- Laws of sets: what has says after with and without, size and lowest, equal sets, induction over a set by its lowest id.
-- Assumes nothing.
use mathlib.Core.Path.{◌≡◌, refl, sym, ap, ◌∙◌}
use mathlib.Core.Bool.{Bool, true, false, ◌&&◌}
use mathlib.Core.Logic.{◌≢◌}
use Prim.Native.Nat.{ℕ, zero, suc, ◌+◌, ◌-◌, ◌*◌, ◌%◌, ◌^◌, ◌≤◌, ◌<◌, min, max}
use native.Mathlib.Nat.{mod-eq_of_lt, one-mul, lt_of_le_of_lt}
use native.Mathlib.Numerals.{add-one}
use native.Mathlib.Decide.{ℕ_discrete, dec_lt}
use native.Mathlib.Omega.{arith}
use lib.Bits.{or_lt, and_le_l}
use lib.Dec.{eqb, ltb}
use lib.Pow.{pow-lt}
use borrow.Author.Tests.{eqb-true, eqb-false, eq-eqb, ne_eqb, lt-ltb, le-ltb, ltb-true}
use Rattle.laws_words.specs.Words.{pick, one, bit}
use Rattle.laws_words.specs.Tests.{clash, and_left, one-le}
use Rattle.laws_words.specs.Bits.{bit-or, bit-and, bit-lt, bit-none, table2, bits-same}
use Rattle.rules_base.specs.Sets.{has, with, without, count_to, size, lowest_to, lowest}

-- what `1 << i` computes
pub shifted : {i : ℕ} → i < 16 → (1 * 2 ^ i) % 2 ^ 64 ≡ 2 ^ i
shifted {i} h =
    let b : 2 ^ i < 65536 = pow-lt h in
    mod-eq_of_lt {n = 1 * 2 ^ i} {m = 2 ^ 64} (omega arith) ∙ one-mul (2 ^ i)

-- ---- has, seen as a bit
pub has-bit : (s i : ℕ) → i < 16 → has s i ≡ eqb (bit s i) 1
unfolding has
has-bit s i h = rw (lt-ltb i 16 h)

pub has-out : (s i : ℕ) → 16 ≤ i → has s i ≡ false
unfolding has
has-out s i h = rw (le-ltb i 16 h)

pub has-below : (s i : ℕ) → has s i ≡ true → i < 16
unfolding has
has-below s i e = ltb-true i 16 (and_left (ltb i 16) (eqb (bit s i) 1) e)

pub bit-has : (s i : ℕ) → i < 16 → bit s i ≡ one (has s i)
bit-has s i h = rw (has-bit s i h) (go (eqb (bit s i) 1) refl)
  where
    go : (b : Bool) → eqb (bit s i) 1 ≡ b → bit s i ≡ one b
    go true e = eqb-true (bit s i) 1 e
    go false e = let d : bit s i ≢ 1 = eqb-false (bit s i) 1 e in omega (arith, d, bit-lt s i)

-- a set whose bit at i is that of a test has i where the test holds
pub has_one : (s i : ℕ) (b : Bool) → i < 16 → bit s i ≡ one b → has s i ≡ b
has_one s i b h e = has-bit s i h ∙ (rw e (ones b))
  where
    ones : (b : Bool) → eqb (one b) 1 ≡ b
    ones true = refl
    ones false = refl

-- ---- with and without
power-bit : (i j : ℕ) → i < 16 → j < 16 → bit (2 ^ i) j ≡ pick (eqb i j) 1 0
unfolding bit
power-bit = table2 16 16 (λ i j. bit (2 ^ i) j) (λ i j. pick (eqb i j) 1 0) tt

mask-bit : (i j : ℕ) → i < 16 → j < 16 → bit (18446744073709551615 - 2 ^ i) j ≡ pick (eqb i j) 0 1
unfolding bit
mask-bit = table2 16 16 (λ i j. bit (18446744073709551615 - 2 ^ i) j) (λ i j. pick (eqb i j) 0 1) tt

with-bit : (s i j : ℕ) → i < 16 → j < 16 → bit (with s i) j ≡ max (bit s j) (pick (eqb i j) 1 0)
unfolding with
with-bit s i j h l = rw (lt-ltb i 16 h) (bit-or s (2 ^ i) j ∙ ap (max (bit s j)) (power-bit i j h l))

without-bit : (s i j : ℕ) → i < 16 → j < 16 → bit (without s i) j ≡ min (bit s j) (pick (eqb i j) 0 1)
unfolding without
without-bit s i j h l = rw (lt-ltb i 16 h) (bit-and s (18446744073709551615 - 2 ^ i) j ∙ ap (min (bit s j)) (mask-bit i j h l))

pub has-with-same : (s i : ℕ) → i < 16 → has (with s i) i ≡ true
has-with-same s i h = has_one (with s i) i true h (with-bit s i i h h ∙ (rw (eq-eqb i i refl) (omega (arith, bit-lt s i))))

pub has-with-other : (s i j : ℕ) → j ≢ i → has (with s i) j ≡ has s j
has-with-other s i j d = elim (dec_lt j 16) [
  | no g ↦ has-out (with s i) j (omega arith) ∙ sym (has-out s j (omega arith))
  | yes l ↦ elim (dec_lt i 16) [
    | no g ↦ unfold with in rw (le-ltb i 16 (omega arith))
    | yes h ↦ has_one (with s i) j (has s j) l (with-bit s i j h l ∙ (rw (ne_eqb i j (λ e. d (sym e))) (let m : max (bit s j) 0 ≡ bit s j = omega arith in m ∙ bit-has s j l)))
  ]
]

pub has-without-same : (s i : ℕ) → has (without s i) i ≡ false
has-without-same s i = elim (dec_lt i 16) [
  | no g ↦ has-out (without s i) i (omega arith)
  | yes h ↦ has_one (without s i) i false h (without-bit s i i h h ∙ (rw (eq-eqb i i refl) (omega arith)))
]

pub has-without-other : (s i j : ℕ) → j ≢ i → has (without s i) j ≡ has s j
has-without-other s i j d = elim (dec_lt j 16) [
  | no g ↦ has-out (without s i) j (omega arith) ∙ sym (has-out s j (omega arith))
  | yes l ↦ elim (dec_lt i 16) [
    | no g ↦ unfold without in rw (le-ltb i 16 (omega arith))
    | yes h ↦ has_one (without s i) j (has s j) l (without-bit s i j h l ∙ (rw (ne_eqb i j (λ e. d (sym e))) (let m : min (bit s j) 1 ≡ bit s j = omega (arith, bit-lt s j) in m ∙ bit-has s j l)))
  ]
]

pub has-none : (i : ℕ) → has 0 i ≡ false
has-none i = elim (dec_lt i 16) [
  | no g ↦ has-out 0 i (omega arith)
  | yes l ↦ has_one 0 i false l (bit-none i)
]

-- what is left in a set without i was in it, and is not i
pub still : (s i j : ℕ) → has (without s i) j ≡ true → (has s j ≡ true) × (j ≢ i)
still s i j h = elim (ℕ_discrete j i) [
  | yes e ↦ clash h (rw e (has-without-same s i))
  | no d ↦ (sym (has-without-other s i j d) ∙ h, d)
]

-- both stay below 2^16
pub with-lt : (s i : ℕ) → s < 65536 → with s i < 65536
with-lt s i h = elim (dec_lt i 16) [
  | yes l ↦ unfold with in rw (lt-ltb i 16 l) (or_lt 16 s (2 ^ i) h (pow-lt l))
  | no g ↦ unfold with in rw (le-ltb i 16 (omega arith)) h
]

pub without-lt : (s i : ℕ) → s < 65536 → without s i < 65536
without-lt s i h = elim (dec_lt i 16) [
  | yes l ↦ unfold without in rw (lt-ltb i 16 l) (lt_of_le_of_lt (and_le_l s (18446744073709551615 - 2 ^ i)) h)
  | no g ↦ unfold without in rw (le-ltb i 16 (omega arith)) h
]

-- sets that hold the same ids are the same
pub same_set : (a b : ℕ) → a < 65536 → b < 65536 → ((i : ℕ) → i < 16 → has a i ≡ has b i) → a ≡ b
same_set a b ha hb h = bits-same 16 a b ha hb (λ k l. bit-has a k l ∙ (ap one (h k l) ∙ sym (bit-has b k l)))

-- ---- counting and searching by the test alone
-- what holds below n and at n holds below suc n
up_to {ℓ} : (P : ℕ → Type ℓ) (n : ℕ) → ((k : ℕ) → k < n → P k) → P n → (k : ℕ) → k < suc n → P k
up_to P n f t k h = elim (ℕ_discrete k n) [ yes e ↦ rw e t | no d ↦ f k (omega arith) ]

pub count_to-same : (p q : ℕ → Bool) (n : ℕ) → ((j : ℕ) → j < n → p j ≡ q j) → count_to p n ≡ count_to q n
count_to-same p q zero h = refl
count_to-same p q (suc n) h = rw (count_to-same p q n (λ j l. h j (omega arith)), h n (omega arith))

pub count_to-none : (p : ℕ → Bool) (n : ℕ) → ((j : ℕ) → j < n → p j ≡ false) → count_to p n ≡ 0
count_to-none p zero h = refl
count_to-none p (suc n) h = rw (count_to-none p n (λ j l. h j (omega arith)), h n (omega arith))

pub count_to-le : (p : ℕ → Bool) (n : ℕ) → count_to p n ≤ n
count_to-le p zero = omega arith
count_to-le p (suc n) = omega (arith, count_to-le p n, one-le (p n))

-- one fewer: q is p but for k, which passes p only
count_to-less : (p q : ℕ → Bool) (n k : ℕ) → k < n → p k ≡ true → q k ≡ false → ((j : ℕ) → j ≢ k → q j ≡ p j) → count_to p n ≡ suc (count_to q n)
count_to-less p q zero k l hp hq h = absurd (let z : ⊥ = omega arith in z)
count_to-less p q (suc n) k l hp hq h = go (ℕ_discrete k n) (count_to-less p q n k)
  where
    go : Dec (k ≡ n) → (k < n → p k ≡ true → q k ≡ false → ((j : ℕ) → j ≢ k → q j ≡ p j) → count_to p n ≡ suc (count_to q n)) → count_to p (suc n) ≡ suc (count_to q (suc n))
    go (yes e) rec =
        let c : count_to q n ≡ count_to p n = count_to-same q p n (λ j l. h j (omega arith)) in
        let a : p n ≡ true = rw e at hp in
        let b : q n ≡ false = rw e at hq in
        rw (a, b) (omega arith)
    go (no e) rec =
        let b : q n ≡ p n = h n (omega arith) in
        rw b (omega (arith, rec (omega arith) hp hq h))

lowest_to-le : (p : ℕ → Bool) (n : ℕ) → n ≤ 16 → lowest_to p n ≤ 16
lowest_to-le p zero h = omega arith
lowest_to-le p (suc n) h = go (p n && eqb (lowest_to p n) 16) (lowest_to-le p n (omega arith))
  where
    go : (b : Bool) → lowest_to p n ≤ 16 → pick b n (lowest_to p n) ≤ 16
    go true r = omega arith
    go false r = r

-- nobody below n, or the lowest of them
record Lowest (p : ℕ → Bool) (n k : ℕ) : Type 0 where
  holds : k < 16 → (k < n) × (p k ≡ true)
  first : (j : ℕ) → j < n → j < k → p j ≡ false

lowest_to-is : (p : ℕ → Bool) (n : ℕ) → n ≤ 16 → Lowest p n (lowest_to p n)
lowest_to-is p zero h = record { holds = λ l. absurd (let z : ⊥ = omega arith in z); first = λ j l m. absurd (let z : ⊥ = omega arith in z) }
lowest_to-is p (suc n) h = go (p n) (eqb (lowest_to p n) 16) refl refl (lowest_to-is p n (omega arith)) (lowest_to-le p n (omega arith))
  where
    go : (a b : Bool) → p n ≡ a → eqb (lowest_to p n) 16 ≡ b → Lowest p n (lowest_to p n) → lowest_to p n ≤ 16 → Lowest p (suc n) (pick (a && b) n (lowest_to p n))
    go true true ea eb r le = record {
      holds = λ l. (omega arith, ea);
      first = λ j l m. r.first j m (omega (arith, eqb-true (lowest_to p n) 16 eb));
    }
    go true false ea eb r le = record {
      holds = λ l. let z = r.holds l in (omega (arith, z.0), z.1);
      first = λ j l m. let d : lowest_to p n ≢ 16 = eqb-false (lowest_to p n) 16 eb in let q = r.holds (omega (arith, d, le)) in r.first j (omega (arith, q.0)) m;
    }
    go false b ea eb r le = record {
      holds = λ l. let z = r.holds l in (omega (arith, z.0), z.1);
      first = λ j l m. up_to (λ k. k < lowest_to p n → p k ≡ false) n (λ k l'. r.first k l') (λ _. ea) j l m;
    }

-- ---- lowest
pub lowest-le : (s : ℕ) → lowest s ≤ 16
unfolding lowest
lowest-le s = lowest_to-le (has s) 16 (omega arith)

-- the lowest id is in the set
pub lowest-in : (s : ℕ) → lowest s < 16 → has s (lowest s) ≡ true
unfolding lowest
lowest-in s l = ((lowest_to-is (has s) 16 (omega arith)).holds l).1

-- no id below it is
pub lowest-first : (s j : ℕ) → j < lowest s → has s j ≡ false
unfolding lowest
lowest-first s j l = (lowest_to-is (has s) 16 (omega arith)).first j (omega (arith, lowest_to-le (has s) 16 (omega arith))) l

-- nobody: no id is in the set
pub lowest-nobody : (s : ℕ) → lowest s ≡ 16 → (j : ℕ) → has s j ≡ false
lowest-nobody s e j = elim (dec_lt j 16) [
  | yes l ↦ lowest-first s j (omega arith)
  | no g ↦ has-out s j (omega arith)
]

pub lowest-zero : lowest 0 ≡ 16
lowest-zero = elim (dec_lt (lowest 0) 16) [
  | yes l ↦ clash (lowest-in 0 l) (has-none (lowest 0))
  | no g ↦ omega (arith, lowest-le 0)
]

-- a set with nobody is 0
pub empty-set : (s : ℕ) → s < 65536 → lowest s ≡ 16 → s ≡ 0
empty-set s h e = same_set s 0 h (omega arith) (λ i l. lowest-nobody s e i ∙ sym (has-none i))

-- ---- size
pub size-le : (s : ℕ) → size s ≤ 16
unfolding size
size-le s = count_to-le (has s) 16

pub size-zero : size 0 ≡ 0
unfolding size
size-zero = count_to-none (has 0) 16 (λ j l. has-none j)

pub size-without : (s i : ℕ) → has s i ≡ true → size s ≡ size (without s i) + 1
unfolding size
size-without s i h = count_to-less (has s) (has (without s i)) 16 i (has-below s i h) h (has-without-same s i) (λ j d. has-without-other s i j d) ∙ sym (add-one _)

pub size-with : (s i : ℕ) → i < 16 → has s i ≡ false → size (with s i) ≡ size s + 1
unfolding size
size-with s i l h = count_to-less (has (with s i)) (has s) 16 i l (has-with-same s i l) h (λ j d. sym (has-with-other s i j d)) ∙ sym (add-one _)

pub size-some : (s i : ℕ) → has s i ≡ true → 1 ≤ size s
size-some s i h = omega (arith, size-without s i h)

-- ---- induction
below : (P : ℕ → Type 0) (m : ℕ → ℕ) → ((x : ℕ) → ((y : ℕ) → m y < m x → P y) → P x) → (n x : ℕ) → m x < n → P x
below P m step zero x h = absurd (let z : ⊥ = omega arith in z)
below P m step (suc n) x h = step x (λ y l. below P m step n y (omega arith))

-- What holds of a set with nobody, and of a set where it holds of the set without its lowest id, holds of every set.
pub by-lowest : (P : ℕ → Type 0) → ((s : ℕ) → lowest s ≡ 16 → P s) → ((s : ℕ) → lowest s < 16 → P (without s (lowest s)) → P s) → (s : ℕ) → P s
by-lowest P none more s = below P size step (suc (size s)) s (omega arith)
  where
    step : (s : ℕ) → ((y : ℕ) → size y < size s → P y) → P s
    step s rec = elim (dec_lt (lowest s) 16) [
      | yes l ↦ more s l (rec (without s (lowest s)) (omega (arith, size-without s (lowest s) (lowest-in s l))))
      | no g ↦ none s (omega (arith, lowest-le s))
    ]
