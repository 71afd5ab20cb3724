-- Laws of descriptors that are taken and of chunks given flags, that the functions' proofs cite. Assumes nothing.
use mathlib.Core.Path.{◌≡◌, refl, sym, ap, ◌∙◌}
use mathlib.Core.Bool.{Bool, true, false, not, ◌&&◌}
use mathlib.Core.List.{List, [], ◌∷◌, ◌++◌}
use Prim.Native.Nat.{ℕ, suc, ◌+◌, ◌-◌, ◌*◌, ◌/◌, ◌%◌, ◌≤◌, ◌<◌}
use native.Mathlib.Nat.{sub-zero, add-zero, add-suc, suc-add, add-mul, div-add-mod', eq_of_mul-eq-mul_right}
use native.Mathlib.Numerals.{add-one}
use native.Mathlib.Decide.{dec_lt}
use native.Mathlib.Omega.{arith}
use borrow.Author.Tests.{eq-eqb, ne_eqb, eqb-true}
use lib.Dec.{eqb, ltb}
use lib.ListN.{length, replicate, length-set, length-replicate}
use Rattle.laws_words.specs.Tests.{by_cases, clash, and_left, and_right, and-false, same_test}
use Rattle.rules_base.specs.Chunk.{there, byte_of, cleared}
use Rattle.rules_base.proofs.Chunk.{length_marked}
use Rattle.status_row.specs.Descriptors.{Desc, desc, total, word_at, descs_from, descs_of}
use Rattle.status_row.specs.Reading.{desc_good, every_good, status_good, flags_of, stored, painted}

-- ---- the test as it is computed: each descriptor is good, and with c chunks before them they come to n chunks
unfoldable pub good_from : ℕ → ℕ → ℕ → List Desc → Bool
good_from s n c [] = eqb c n
good_from s n c (d ∷ ds) = desc_good s d.bytes d.flags && good_from s n (c + d.bytes / s) ds

whole : (s b f : ℕ) → desc_good s b f ≡ true → b ≡ b / s * s
unfolding desc_good
whole s b f e =
    let z : b % s ≡ 0 = eqb-true (b % s) 0 (and_left (eqb (b % s) 0) (ltb f 2) (and_right (not (eqb b 0)) _ e)) in
    omega (arith, z, div-add-mod' b s)

good-total : (s n c : ℕ) (ds : List Desc) → 0 < s → good_from s n c ds ≡ (every_good s ds && eqb (c * s + total ds) (n * s))
unfolding good_from every_good total
good-total s n c [] h = rw add-zero (same_test (eqb c n) (eqb (c * s) (n * s)) (λ e. eq-eqb (c * s) (n * s) (ap (λ (k : ℕ). k * s) (eqb-true c n e))) (λ e. eq-eqb c n (eq_of_mul-eq-mul_right s h c n (eqb-true (c * s) (n * s) e))))
good-total s n c (d ∷ ds) h =
    by_cases (desc_good s d.bytes d.flags)
    (λ e. let q : (c + d.bytes / s) * s + total ds ≡ c * s + (d.bytes + total ds) = rw (add-mul c (d.bytes / s) s) (omega (arith, whole s d.bytes d.flags e)) in
    rw (e, good-total s n (c + d.bytes / s) ds h, q))
    (λ e. rw e)

-- it is that of the lengths in bytes
pub good-same : (n s : ℕ) (bs : List ℕ) → 0 < s → status_good n s bs ≡ (eqb (length bs % 8) 0 && good_from s n 0 (descs_of bs))
unfolding status_good
good-same n s bs h = rw (good-total s n 0 (descs_of bs) h) (let z : 0 * s + total (descs_of bs) ≡ total (descs_of bs) = omega arith in rw z)

-- ---- descriptors, one on
descs-more : (bs : List ℕ) (i m : ℕ) → i < m → descs_from bs i (m - i) ≡ desc (word_at bs (8 * i)) (word_at bs (8 * i + 4)) ∷ descs_from bs (i + 1) (m - (i + 1))
unfolding descs_from
descs-more bs i m h = let q : m - i ≡ suc (m - suc i) = omega arith in rw (add-one i, q)

descs-end : (bs : List ℕ) (i m : ℕ) → m ≤ i → descs_from bs i (m - i) ≡ []
unfolding descs_from
descs-end bs i m h = let q : m - i ≡ 0 = omega arith in rw q

good-over : (s n c : ℕ) (ds : List Desc) → n < c → good_from s n c ds ≡ false
unfolding good_from
good-over s n c [] h = ne_eqb c n (λ e. let z : ⊥ = omega arith in z)
good-over s n c (d ∷ ds) h = rw (good-over s n (c + d.bytes / s) ds (omega arith)) (and-false (desc_good s d.bytes d.flags))

pub good-le : (s n c : ℕ) (ds : List Desc) → good_from s n c ds ≡ true → c ≤ n
good-le s n c ds e = elim (dec_lt n c) [ yes h ↦ clash e (good-over s n c ds h) | no g ↦ omega arith ]

-- the reader's first pass at descriptor i, with c chunks before it
pub record Checking (s n : ℕ) (bs : List ℕ) (c i : ℕ) : Type 0 where
  pub upto : i ≤ length bs / 8
  pub low : c ≤ n
  pub rest : good_from s n c (descs_from bs i (length bs / 8 - i)) ≡ status_good n s bs

pub good-odd : (s n : ℕ) (bs : List ℕ) → (length bs % 8 ≡ 0 → ⊥) → false ≡ status_good n s bs
unfolding status_good
good-odd s n bs d = rw (ne_eqb (length bs % 8) 0 d)

pub checking-start : (s n : ℕ) (bs : List ℕ) → 0 < s → length bs % 8 ≡ 0 → Checking s n bs 0 0
unfolding descs_of
checking-start s n bs h e = record { upto = omega arith; low = omega arith; rest = rw (good-same n s bs h, eq-eqb (length bs % 8) 0 e, sub-zero) }

good-cons : (s n c : ℕ) (bs : List ℕ) (i b f : ℕ) (t : Bool) → i < length bs / 8 → b ≡ word_at bs (8 * i) → f ≡ word_at bs (8 * i + 4) → good_from s n c (descs_from bs i (length bs / 8 - i)) ≡ t → (desc_good s b f && good_from s n (c + b / s) (descs_from bs (i + 1) (length bs / 8 - (i + 1)))) ≡ t
unfolding good_from
good-cons s n c bs i b f t h p q e = rw (p, q) (rw (descs-more bs i (length bs / 8) h) at e)

pub checking-bad : (s n : ℕ) (bs : List ℕ) (c i b f : ℕ) → Checking s n bs c i → i < length bs / 8 → b ≡ word_at bs (8 * i) → f ≡ word_at bs (8 * i + 4) → desc_good s b f ≡ false → false ≡ status_good n s bs
checking-bad s n bs c i b f w h p q e = rw e at (good-cons s n c bs i b f _ h p q w.rest)

pub checking-over : (s n : ℕ) (bs : List ℕ) (c i b f : ℕ) → Checking s n bs c i → i < length bs / 8 → b ≡ word_at bs (8 * i) → f ≡ word_at bs (8 * i + 4) → n < c + b / s → false ≡ status_good n s bs
checking-over s n bs c i b f w h p q l = sym (and-false (desc_good s b f)) ∙ (rw (good-over s n (c + b / s) (descs_from bs (i + 1) (length bs / 8 - (i + 1))) l) at (good-cons s n c bs i b f _ h p q w.rest))

pub checking-more : (s n : ℕ) (bs : List ℕ) (c i b f : ℕ) → Checking s n bs c i → i < length bs / 8 → b ≡ word_at bs (8 * i) → f ≡ word_at bs (8 * i + 4) → desc_good s b f ≡ true → c + b / s ≤ n → Checking s n bs (c + b / s) (i + 1)
checking-more s n bs c i b f w h p q e l = record { upto = omega arith; low = l; rest = rw e at (good-cons s n c bs i b f _ h p q w.rest) }

pub checking-done : (s n : ℕ) (bs : List ℕ) (c i : ℕ) → Checking s n bs c i → length bs / 8 ≤ i → eqb c n ≡ status_good n s bs
unfolding good_from
checking-done s n bs c i w h = rw (descs-end bs i (length bs / 8) h) at w.rest

-- ---- chunks painted
painted-append : (c : ℕ) (fs gs xs : List ℕ) → painted c (fs ++ gs) xs ≡ painted (c + length fs) gs (painted c fs xs)
unfolding painted
painted-append c [] gs xs = rw (add-zero c)
painted-append c (f ∷ fs) gs xs = rw (add-suc c (length fs), ← suc-add c (length fs)) (painted-append (suc c) fs gs (stored c f xs))

length-cleared : (xs : List ℕ) (m c : ℕ) → length (cleared xs m c) ≡ length xs
unfolding cleared
length-cleared xs m c = by_cases (there m c) (λ e. rw e (length-set xs (byte_of m c) _)) (λ e. rw e)

length-stored : (c f : ℕ) (xs : List ℕ) → length (stored c f xs) ≡ length xs
unfolding stored
length-stored c f xs = by_cases (eqb f 1) (λ e. rw e (length_marked xs 0 c)) (λ e. rw e (length-cleared xs 0 c))

-- the painter at chunk i of c .. c + k - 1
pub record Painting (c k f : ℕ) (row₀ : List ℕ) (i : ℕ) (row : List ℕ) : Type 0 where
  pub from : c ≤ i
  pub upto : i ≤ c + k
  pub len : length row ≡ length row₀
  pub rest : painted i (replicate (c + k - i) f) row ≡ painted c (replicate k f) row₀

pub painting-start : (c k f : ℕ) (row : List ℕ) → Painting c k f row c row
painting-start c k f row = let q : c + k - c ≡ k = omega arith in record { from = omega arith; upto = omega arith; len = refl; rest = rw q }

pub painting-more : (c k f : ℕ) (row₀ : List ℕ) (i : ℕ) (row row' : List ℕ) → Painting c k f row₀ i row → i < c + k → row' ≡ stored i f row → Painting c k f row₀ (i + 1) row'
unfolding painted
painting-more c k f row₀ i row row' w h e =
    let q : c + k - i ≡ suc (c + k - suc i) = omega arith in
    record {
      from = omega (arith, w.from);
      upto = omega arith;
      len = rw e (length-stored i f row) ∙ w.len;
      rest = rw (e, add-one i) (rw q at w.rest);
    }

pub painting-done : (c k f : ℕ) (row₀ : List ℕ) (i : ℕ) (row : List ℕ) → Painting c k f row₀ i row → c + k ≤ i → row ≡ painted c (replicate k f) row₀
unfolding painted
painting-done c k f row₀ i row w h = let q : c + k - i ≡ 0 = omega arith in rw q at w.rest

-- the reader's second pass at descriptor i, with c chunks before it
pub record Filling (s n : ℕ) (bs row₀ : List ℕ) (c i : ℕ) (row : List ℕ) : Type 0 where
  pub upto : i ≤ length bs / 8
  pub len : length row ≡ length row₀
  pub good : good_from s n c (descs_from bs i (length bs / 8 - i)) ≡ true
  pub rest : painted c (flags_of s (descs_from bs i (length bs / 8 - i))) row ≡ painted 0 (flags_of s (descs_of bs)) row₀

pub good-descs : (s n : ℕ) (bs : List ℕ) → 0 < s → status_good n s bs ≡ true → good_from s n 0 (descs_of bs) ≡ true
good-descs s n bs h e = and_right (eqb (length bs % 8) 0) (good_from s n 0 (descs_of bs)) (sym (good-same n s bs h) ∙ e)

pub filling-start : (s n : ℕ) (bs row : List ℕ) → 0 < s → status_good n s bs ≡ true → Filling s n bs row 0 0 row
unfolding descs_of
filling-start s n bs row h e = record { upto = omega arith; len = refl; good = rw sub-zero (good-descs s n bs h e); rest = rw sub-zero }

-- the descriptor's chunks lie within the count
pub filling-room : (s n : ℕ) (bs row₀ : List ℕ) (c i : ℕ) (row : List ℕ) (b : ℕ) → Filling s n bs row₀ c i row → i < length bs / 8 → b ≡ word_at bs (8 * i) → c + b / s ≤ n
filling-room s n bs row₀ c i row b w h p =
    let ds = descs_from bs (i + 1) (length bs / 8 - (i + 1)) in
    good-le s n (c + b / s) ds (and_right (desc_good s b (word_at bs (8 * i + 4))) (good_from s n (c + b / s) ds) (good-cons s n c bs i b (word_at bs (8 * i + 4)) true h p refl w.good))

length-painted : (c : ℕ) (fs xs : List ℕ) → length (painted c fs xs) ≡ length xs
unfolding painted
length-painted c [] xs = refl
length-painted c (f ∷ fs) xs = length-painted (suc c) fs (stored c f xs) ∙ length-stored c f xs

pub filling-more : (s n : ℕ) (bs row₀ : List ℕ) (c i : ℕ) (row : List ℕ) (b f : ℕ) (row' : List ℕ) → Filling s n bs row₀ c i row → i < length bs / 8 → b ≡ word_at bs (8 * i) → f ≡ word_at bs (8 * i + 4) → row' ≡ painted c (replicate (b / s) f) row → Filling s n bs row₀ (c + b / s) (i + 1) row'
unfolding flags_of
filling-more s n bs row₀ c i row b f row' w h p q e =
    let ds = descs_from bs (i + 1) (length bs / 8 - (i + 1)) in
    let step : painted c (replicate (b / s) f ++ flags_of s ds) row ≡ painted 0 (flags_of s (descs_of bs)) row₀ = rw (p, q) (rw (descs-more bs i (length bs / 8) h) at w.rest) in
    record {
      upto = omega arith;
      len = rw e (length-painted c (replicate (b / s) f) row) ∙ w.len;
      good = and_right (desc_good s b f) _ (good-cons s n c bs i b f true h p q w.good);
      rest = rw e (rw (painted-append c (replicate (b / s) f) (flags_of s ds) row, length-replicate) at step);
    }

painted-none : (s c : ℕ) (row : List ℕ) → painted c (flags_of s []) row ≡ row
unfolding flags_of painted
painted-none s c row = refl

pub filling-done : (s n : ℕ) (bs row₀ : List ℕ) (c i : ℕ) (row : List ℕ) → Filling s n bs row₀ c i row → length bs / 8 ≤ i → row ≡ painted 0 (flags_of s (descs_of bs)) row₀
filling-done s n bs row₀ c i row w h = sym (painted-none s c row) ∙ (rw (descs-end bs i (length bs / 8) h) at w.rest)
