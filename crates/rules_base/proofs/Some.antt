-- Laws of "one of them passes the test": of a range, of two ranges joined, of the places below a place, of the chunks of a byte and of a group. Assumes nothing.
use mathlib.Core.Path.{◌≡◌, refl, sym, ap, ◌∙◌}
use mathlib.Core.Bool.{Bool, true, false, not, ◌&&◌, ◌||◌}
use mathlib.Core.List.{List}
use Prim.Native.Nat.{ℕ, zero, suc, ◌+◌, ◌*◌, ◌/◌, ◌%◌, ◌^◌, ◌≤◌, ◌<◌}
use native.Mathlib.Nat.{not-suc-le-zero, zero-add, add-zero, add-suc, mul-suc, mul-add, mul_assoc, pow-suc}
use native.Mathlib.Numerals.{add-one}
use native.Mathlib.Decide.{ℕ_discrete}
use native.Mathlib.Omega.{arith}
use borrow.Author.Tests.{eqb-true, eqb-false, eq-eqb, ne_eqb}
use lib.Bits.{bit_or, bit_and, or_add_and, or_zero_l, and_le_l, and_le_r}
use lib.Dec.{eqb}
use lib.ListN.{get_or}
use Rattle.laws_words.specs.Words.{pick, one, bit}
use Rattle.laws_words.specs.Tests.{by_cases, clash}
use Rattle.laws_words.specs.Bits.{table2}
use Rattle.rules_base.specs.Chunk.{byte_of, dirty}
use Rattle.rules_base.proofs.Chunk.{dirty-there}
use Rattle.rules_base.specs.Summary.{some, is_dirty, under}

-- ---- one more, none at all, the same tests
pub some-start : (t : ℕ → Bool) (a : ℕ) → some t a 0 ≡ false
unfolding some
some-start t a = refl

pub some_more : (t : ℕ → Bool) (a n : ℕ) → some t a (n + 1) ≡ (some t a n || t (a + n))
unfolding some
some_more t a n = rw add-one

or-false : (p q : Bool) → (p || q) ≡ false → (p ≡ false) × (q ≡ false)
or-false true q e = clash refl e
or-false false q e = (refl, e)

or_assoc : (p q r : Bool) → (p || (q || r)) ≡ ((p || q) || r)
or_assoc true q r = refl
or_assoc false q r = refl

pub or-none : (p : Bool) → (p || false) ≡ p
or-none true = refl
or-none false = refl

pub or_some : (p : Bool) → (p || true) ≡ true
or_some true = refl
or_some false = refl

pub some-none : (t : ℕ → Bool) (a n k : ℕ) → some t a n ≡ false → k < n → t (a + k) ≡ false
unfolding some
some-none t a zero k e h = absurd (not-suc-le-zero h)
some-none t a (suc n) k e h =
    elim (ℕ_discrete k n) [
      | yes q ↦ rw q (or-false (some t a n) (t (a + n)) e).1
      | no d ↦ some-none t a n k (or-false (some t a n) (t (a + n)) e).0 (omega arith)
    ]

pub some-no : (t : ℕ → Bool) (a n : ℕ) → ((k : ℕ) → k < n → t (a + k) ≡ false) → some t a n ≡ false
unfolding some
some-no t a zero h = refl
some-no t a (suc n) h = rw (some-no t a n (λ k l. h k (omega arith)), h n (omega arith))

pub some-yes : (t : ℕ → Bool) (a n k : ℕ) → k < n → t (a + k) ≡ true → some t a n ≡ true
unfolding some
some-yes t a zero k h e = absurd (not-suc-le-zero h)
some-yes t a (suc n) k h e =
    elim (ℕ_discrete k n) [
      | yes q ↦ rw (← q, e) (or_some (some t a k))
      | no d ↦ rw (some-yes t a n k (omega arith) e)
    ]

pub some_same : (t u : ℕ → Bool) (a b n : ℕ) → ((k : ℕ) → k < n → t (a + k) ≡ u (b + k)) → some t a n ≡ some u b n
unfolding some
some_same t u a b zero h = refl
some_same t u a b (suc n) h = rw (some_same t u a b n (λ k l. h k (omega arith)), h n (omega arith))

-- ---- ranges joined
pub some-joint : (t : ℕ → Bool) (a n m : ℕ) → some t a (n + m) ≡ (some t a n || some t (a + n) m)
unfolding some
some-joint t a n zero = rw add-zero (sym (or-none (some t a n)))
some-joint t a n (suc m) =
    let q : a + (n + m) ≡ a + n + m = omega arith in
    rw (add-suc n m, some-joint t a n m, q) (sym (or_assoc (some t a n) (some t (a + n) m) (t (a + n + m))))

-- n ranges of width w one after the other are one
pub some-parts : (f t : ℕ → Bool) (w a n : ℕ) → ((k : ℕ) → k < n → f (a + k) ≡ some t (w * (a + k)) w) → some f a n ≡ some t (w * a) (w * n)
unfolding some
some-parts f t w a zero h = let q : w * 0 ≡ 0 = omega arith in rw q
some-parts f t w a (suc n) h =
    let q : w * suc n ≡ w * n + w = mul-suc w n in
    let r : w * (a + n) ≡ w * a + w * n = mul-add w a n in
    rw (some-parts f t w a n (λ k l. h k (omega arith)), h n (omega arith), q, some-joint t (w * a) (w * n) w, r)

-- a place by the sixteen below it
pub under_up : (xs : List ℕ) (m l i : ℕ) → under xs m (suc l) i ≡ some (under xs m l) (16 * i) 16
unfolding under
under_up xs m l i =
    let p : 16 ^ suc l * i ≡ 16 ^ l * (16 * i) = rw (pow-suc 16 l, mul_assoc (16 ^ l) 16 i) in
    rw (p, pow-suc 16 l) (sym (some-parts (under xs m l) (is_dirty xs m) (16 ^ l) (16 * i) 16 (λ k b. unfold under in refl)))

-- ---- a byte's eight chunks
pub or_nothing : (a b : ℕ) → not (eqb (bit_or a b) 0) ≡ (not (eqb a 0) || not (eqb b 0))
or_nothing a b = elim (ℕ_discrete a 0) [
  | yes p ↦ rw (p, or_zero_l b)
  | no d ↦ rw (ne_eqb a 0 d, ne_eqb (bit_or a b) 0 (λ e. d (let z = or_add_and a b in let y = and_le_r a b in omega arith)))
]

one_same : (p q : Bool) → one p ≡ one q → p ≡ q
one_same true true e = refl
one_same true false e = absurd (let z : ◌≡◌ {A = ℕ} 1 0 = e in omega arith)
one_same false true e = absurd (let z : ◌≡◌ {A = ℕ} 0 1 = e in omega arith)
one_same false false e = refl

-- a table of all bytes
byte-some : (x : ℕ) → x < 256 → some (λ k. eqb (bit x k) 1) 0 8 ≡ not (eqb x 0)
unfolding some bit
byte-some x h = one_same (some (λ k. eqb (bit x k) 1) 0 8) (not (eqb x 0)) (table2 256 1 (λ v j. one (some (λ k. eqb (bit v k) 1) 0 8)) (λ v j. one (not (eqb v 0))) tt x 0 h (omega arith))

-- bit k of byte i is chunk 8i + k
byte-chunk : (xs : List ℕ) (m i k : ℕ) → m < 16 → i < 512 → k < 8 → is_dirty xs m (8 * i + k) ≡ eqb (bit (get_or xs (512 * m + i) 0) (0 + k)) 1
unfolding is_dirty byte_of
byte-chunk xs m i k hm hi hk =
    let q : (8 * i + k) / 8 ≡ i = omega arith in
    let r : (8 * i + k) % 8 ≡ k = omega arith in
    rw (zero-add k, dirty-there xs m (8 * i + k) hm (omega arith), q, r)

byte-dirty : (xs : List ℕ) (m i : ℕ) → m < 16 → i < 512 → get_or xs (512 * m + i) 0 < 256 → some (is_dirty xs m) (8 * i) 8 ≡ not (eqb (get_or xs (512 * m + i) 0) 0)
byte-dirty xs m i hm hi hx = some_same (is_dirty xs m) (λ j. eqb (bit (get_or xs (512 * m + i) 0) j) 1) (8 * i) 0 8 (λ j l. byte-chunk xs m i j hm hi l) ∙ byte-some (get_or xs (512 * m + i) 0) hx

-- ---- a group's two bytes, of which x is the OR
pub group-dirty : (xs : List ℕ) (m k i x : ℕ) → m < 16 → k < 4 → i < 64 → x < 256 → x ≡ bit_or (get_or xs (512 * m + 128 * k + 2 * i) 0) (get_or xs (512 * m + 128 * k + 2 * i + 1) 0) → not (eqb x 0) ≡ under xs m 1 (64 * k + i)
unfolding under
group-dirty xs m k i x hm hk hi hx e =
    let a : ℕ = 128 * k + 2 * i in
    let u : ℕ = get_or xs (512 * m + a) 0 in
    let v : ℕ = get_or xs (512 * m + (a + 1)) 0 in
    let p : 512 * m + 128 * k + 2 * i ≡ 512 * m + a = omega arith in
    let q : 512 * m + a + 1 ≡ 512 * m + (a + 1) = omega arith in
    let r : 16 * (64 * k + i) ≡ 8 * a = omega arith in
    let o : 8 * a + 8 ≡ 8 * (a + 1) = omega arith in
    let z : x ≡ bit_or u v = rw (p, q) at e in
    let y = or_add_and u v in
    let l = and_le_l u v in
    let n = and_le_r u v in
    rw (z, r, some-joint (is_dirty xs m) (8 * a) 8 8, o, byte-dirty xs m a hm (omega arith) (omega arith), byte-dirty xs m (a + 1) hm (omega arith) (omega arith)) (or_nothing u v)
