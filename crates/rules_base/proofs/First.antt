-- Where the summaries agree with the map, going down the levels finds what reading the row finds: by induction on the level. Assumes nothing.
use Rattle.std.specs.Prelude.{Option, Some, None}
use mathlib.Core.Path.{◌≡◌, refl, sym, ap, ◌∙◌}
use mathlib.Core.Bool.{Bool, true, false, ◌&&◌}
use mathlib.Core.List.{List}
use Prim.Native.Nat.{ℕ, zero, suc, ◌+◌, ◌-◌, ◌*◌, ◌^◌, ◌≤◌, ◌<◌}
use native.Mathlib.Nat.{add-zero, zero-add, suc-add, mul-zero, mul-suc, mul_assoc, mul_comm, add_comm, pow-suc}
use native.Mathlib.Numerals.{add-one}
use native.Mathlib.Decide.{ℕ_discrete}
use native.Mathlib.Omega.{arith}
use borrow.Author.Tests.{ltb-true, ltb-false, lt-leb, le-leb}
use lib.Dec.{leb, ltb}
use Rattle.laws_words.specs.Tests.{by_cases, and_left, and_right, and-false}
use Rattle.rules_base.specs.Summary.{is_dirty, under, summaries_of, size, lit}
use Rattle.rules_base.proofs.Some.{some-none}
use Rattle.rules_base.proofs.Places.{size-up}
use Rattle.rules_base.proofs.Summaries.{summaries-mean}
use Rattle.rules_base.specs.declared.Sought.{Sought}
use Rattle.rules_base.specs.Search.{first_in, sought, plus, or_else, among, opens, searched}
use Rattle.rules_base.proofs.Among.{search-shut, search-leaf, search-suc}

-- the first finding, or else the second
abbrev pub either : Option ℕ → Option ℕ → Option ℕ
either (Some c) y = Some c
either None y = y

-- ---- reading on
pub first-none : (t : ℕ → Bool) (a n : ℕ) → ((k : ℕ) → k < n → t (a + k) ≡ false) → first_in t a n ≡ None
unfolding first_in
first-none t a zero h = refl
first-none t a (suc n) h =
    let z : t a ≡ false = rw add-zero at (h 0 (omega arith)) in
    rw z (first-none t (suc a) n (λ k l. let q : suc a + k ≡ a + suc k = omega arith in rw q (h (suc k) (omega arith))))

pub first-joint : (t : ℕ → Bool) (a n m : ℕ) → first_in t a (n + m) ≡ either (first_in t a n) (first_in t (a + n) m)
unfolding first_in
first-joint t a zero m = rw (zero-add, add-zero)
first-joint t a (suc n) m =
    let q : suc a + n ≡ a + suc n = omega arith in
    by_cases (t a)
    (λ e. rw (suc-add, e))
    (λ e. rw (suc-add, e) (rw q at (first-joint t (suc a) n m)))

pub first-same : (t u : ℕ → Bool) (a n : ℕ) → ((k : ℕ) → k < n → t (a + k) ≡ u (a + k)) → first_in t a n ≡ first_in u a n
unfolding first_in
first-same t u a zero h = refl
first-same t u a (suc n) h =
    let z : t a ≡ u a = rw add-zero at (h 0 (omega arith)) in
    rw (z, first-same t u (suc a) n (λ k l. let q : suc a + k ≡ a + suc k = omega arith in rw q (h (suc k) (omega arith))))

-- where nothing is found no number passes
pub first-nothing : (t : ℕ → Bool) (a n : ℕ) → first_in t a n ≡ None → (j : ℕ) → a ≤ j → j < a + n → t j ≡ false
unfolding first_in
first-nothing t a zero e j l h = absurd (let z : ⊥ = omega arith in z)
first-nothing t a (suc n) e j l h =
    by_cases (t a)
    (λ q. let p : Some a ≡ None = rw q at e in absurd (let z : ◌≡◌ {A = ℕ} 0 1 = cc in omega arith))
    (λ q. elim (ℕ_discrete j a) [ yes p ↦ rw p q | no d ↦ first-nothing t (suc a) n (rw q at e) j (omega arith) (omega arith) ])

-- what is found among places, each of width w, one after the other
either-found : (x : Option ℕ) (v : ℕ) (s : Sought) → (or_else x v s).found ≡ either x s.found
either-found (Some c) v s = refl
either-found None v s = refl

first-parts : (f : ℕ → Sought) (t : ℕ → Bool) (w a n : ℕ) → ((k : ℕ) → k < n → (f (a + k)).found ≡ first_in t (w * (a + k)) w) → (among f a n).found ≡ first_in t (w * a) (w * n)
unfolding among
first-parts f t w a zero h = rw mul-zero (sym (first-none t (w * a) 0 (λ k l. absurd (let z : ⊥ = omega arith in z))))
first-parts f t w a (suc n) h =
    let z : (f a).found ≡ first_in t (w * a) w = rw add-zero at (h 0 (omega arith)) in
    let r : (among f (suc a) n).found ≡ first_in t (w * suc a) (w * n) = first-parts f t w (suc a) n (λ k l. let q : suc a + k ≡ a + suc k = omega arith in rw q (h (suc k) (omega arith))) in
    let p : w * suc n ≡ w + w * n = mul-suc w n ∙ add_comm (w * n) w in
    rw (either-found (f a).found (f a).looked (among f (suc a) n), z, r, p, mul-suc w a) (sym (first-joint t (w * a) w (w * n)))

-- ---- by induction on the level
-- chunk c is dirty and not before the start
unfoldable pub wanted : List ℕ → ℕ → ℕ → ℕ → Bool
wanted xs m start c = leb start c && is_dirty xs m c

module _ (xs : List ℕ) (m start : ℕ) (member : m < 16) where
  -- a clear bit: no chunk under it is dirty
  clear_none : (l i k : ℕ) → i < size l → lit (summaries_of xs) xs m l i ≡ false → k < 16 ^ l → is_dirty xs m (16 ^ l * i + k) ≡ false
  unfolding under
  clear_none l i k h e b = some-none (is_dirty xs m) (16 ^ l * i) (16 ^ l) k (sym (summaries-mean xs m l i member h) ∙ e) b

  -- where the search does not go down there is nothing to find
  shut_none : (l i : ℕ) → i < size l → opens (summaries_of xs) xs m start l i ≡ false → (k : ℕ) → k < 16 ^ l → wanted xs m start (16 ^ l * i + k) ≡ false
  unfolding opens wanted
  shut_none l i h e k b =
      by_cases (lit (summaries_of xs) xs m l i)
      (λ q.
      let z : 16 ^ l * (i + 1) ≡ 16 ^ l * i + 16 ^ l = rw add-one (mul-suc (16 ^ l) i) in
      let g : 16 ^ l * (i + 1) ≤ start = ltb-false start (16 ^ l * (i + 1)) (rw q at e) in
      rw (lt-leb start (16 ^ l * i + k) (omega arith)))
      (λ q. rw (clear_none l i k h q b) (and-false (leb start (16 ^ l * i + k))))

  leaf-wanted : (i : ℕ) → opens (summaries_of xs) xs m start 0 i ≡ true → wanted xs m start i ≡ true
  unfolding opens wanted lit
  leaf-wanted i e =
      let d = and_left (is_dirty xs m i) (ltb start (1 * (i + 1))) e in
      let g = ltb-true start (1 * (i + 1)) (and_right (is_dirty xs m i) (ltb start (1 * (i + 1))) e) in
      rw (le-leb start i (omega arith), d)

  first_one : (t : ℕ → Bool) (a : ℕ) → t a ≡ true → first_in t a 1 ≡ Some a
  unfolding first_in
  first_one t a e = rw e

  leaf_first : (i : ℕ) → opens (summaries_of xs) xs m start 0 i ≡ true → first_in (wanted xs m start) (16 ^ 0 * i) (16 ^ 0) ≡ Some i
  leaf_first i e = let q : 1 * i ≡ i = omega arith in rw q (first_one (wanted xs m start) i (leaf-wanted i e))

  pub search-first : (l i : ℕ) → i < size l → (searched (summaries_of xs) xs m start l i).found ≡ first_in (wanted xs m start) (16 ^ l * i) (16 ^ l)
  search-first zero i h =
      by_cases (opens (summaries_of xs) xs m start 0 i)
      (λ e. ap (λ (s : Sought). s.found) (search-leaf (summaries_of xs) xs m start 0 i e refl) ∙ sym (leaf_first i e))
      (λ e. ap (λ (s : Sought). s.found) (search-shut (summaries_of xs) xs m start 0 i e) ∙ sym (first-none (wanted xs m start) (16 ^ 0 * i) (16 ^ 0) (shut_none 0 i h e)))
  search-first (suc l) i h =
      by_cases (opens (summaries_of xs) xs m start (suc l) i)
      (λ e.
      let p : 16 ^ suc l * i ≡ 16 ^ l * (16 * i) = rw (pow-suc 16 l, mul_assoc (16 ^ l) 16 i) in
      ap (λ (s : Sought). s.found) (search-suc (summaries_of xs) xs m start l i e) ∙
      rw (p, pow-suc 16 l) (first-parts (searched (summaries_of xs) xs m start l) (wanted xs m start) (16 ^ l) (16 * i) 16 (λ k b. search-first l (16 * i + k) (omega (arith, size-up l i h)))))
      (λ e. ap (λ (s : Sought). s.found) (search-shut (summaries_of xs) xs m start (suc l) i e) ∙ sym (first-none (wanted xs m start) (16 ^ suc l * i) (16 ^ suc l) (shut_none (suc l) i h e)))
