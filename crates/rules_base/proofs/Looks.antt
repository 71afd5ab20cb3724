-- At how many places the search looks where the summaries agree with the map: by induction on the level. Assumes nothing.
use Rattle.std.specs.Prelude.{Option, Some, None}
use mathlib.Core.Path.{◌≡◌, refl, sym, ap, ◌∙◌}
use mathlib.Core.Bool.{Bool, true, false, ◌&&◌}
use mathlib.Core.List.{List}
use Prim.Native.Nat.{ℕ, zero, suc, ◌+◌, ◌-◌, ◌*◌, ◌^◌, ◌≤◌, ◌<◌}
use native.Mathlib.Nat.{add-zero, mul-suc, mul_assoc, mul-zero, pow-suc}
use native.Mathlib.Numerals.{add-one}
use native.Mathlib.Decide.{ℕ_discrete, dec_lt}
use native.Mathlib.Omega.{arith}
use borrow.Author.Tests.{le-ltb, le-leb}
use lib.Dec.{leb, ltb}
use Rattle.laws_words.specs.Tests.{by_cases, clash, and_left, and-false}
use Rattle.rules_base.specs.Summary.{some, is_dirty, under, summaries_of, size, lit}
use Rattle.rules_base.proofs.Some.{some-no}
use Rattle.rules_base.proofs.Places.{size-up}
use Rattle.rules_base.proofs.Summaries.{summaries-mean}
use Rattle.rules_base.specs.declared.Sought.{Sought}
use Rattle.rules_base.specs.Search.{first_in, sought, plus, or_else, among, opens, searched}
use Rattle.rules_base.proofs.Among.{search-shut, search-leaf, search-suc, opens-lit}
use Rattle.rules_base.proofs.First.{first-nothing, wanted, search-first}

-- a finding, or none
cases : {P : Type 0} (x : Option ℕ) → ((c : ℕ) → x ≡ Some c → P) → (x ≡ None → P) → P
cases (Some c) f g = f c refl
cases None f g = g refl

never : {P : Type 0} {x : Option ℕ} {c : ℕ} → x ≡ Some c → x ≡ None → P
never p q = absurd (let z : ◌≡◌ {A = ℕ} 0 1 = cc in omega arith)

-- ---- the first of n + 1 places: it finds a chunk, or the others are looked at too
module _ (f : ℕ → Sought) (a n : ℕ) where
  hit-looked : (c : ℕ) → (f a).found ≡ Some c → (among f a (suc n)).looked ≡ (f a).looked
  unfolding among
  hit-looked c e = rw e

  hit-found : (c : ℕ) → (f a).found ≡ Some c → (among f a (suc n)).found ≡ Some c
  unfolding among
  hit-found c e = rw e

  miss-looked : (f a).found ≡ None → (among f a (suc n)).looked ≡ (f a).looked + (among f (suc a) n).looked
  unfolding among
  miss-looked e = rw e

  miss-found : (f a).found ≡ None → (among f a (suc n)).found ≡ (among f (suc a) n).found
  unfolding among
  miss-found e = rw e

none-looked : (f : ℕ → Sought) (a : ℕ) → (among f a 0).looked ≡ 0
unfolding among
none-looked f a = refl

module _ (xs : List ℕ) (m start : ℕ) (member : m < 16) where
  at : ℕ → ℕ → Sought
  at l i = searched (summaries_of xs) xs m start l i

  down : ℕ → ℕ → Bool
  down l i = opens (summaries_of xs) xs m start l i

  shut-found : (l i : ℕ) → down l i ≡ false → (at l i).found ≡ None
  unfolding at down
  shut-found l i e = ap (λ (s : Sought). s.found) (search-shut (summaries_of xs) xs m start l i e)

  shut-looked : (l i : ℕ) → down l i ≡ false → (at l i).looked ≡ 1
  unfolding at down
  shut-looked l i e = ap (λ (s : Sought). s.looked) (search-shut (summaries_of xs) xs m start l i e)

  open-looked : (l i : ℕ) → down (suc l) i ≡ true → (at (suc l) i).looked ≡ 1 + (among (at l) (16 * i) 16).looked
  unfolding at down
  open-looked l i e = ap (λ (s : Sought). s.looked) (search-suc (summaries_of xs) xs m start l i e)

  open-found : (l i : ℕ) → down (suc l) i ≡ true → (at (suc l) i).found ≡ (among (at l) (16 * i) 16).found
  unfolding at down
  open-found l i e = ap (λ (s : Sought). s.found) (search-suc (summaries_of xs) xs m start l i e)

  -- a place wholly before the start
  past-shut : (l i : ℕ) → 16 ^ l * suc i ≤ start → down l i ≡ false
  unfolding down opens
  past-shut l i h = rw (add-one i, le-ltb start (16 ^ l * suc i) h) (and-false (lit (summaries_of xs) xs m l i))

  -- a marked place that is not before the start has a chunk to find
  open-finds : {P : Type 0} (l i : ℕ) → i < size l → start ≤ 16 ^ l * i → down l i ≡ true → (at l i).found ≡ None → P
  unfolding at down under wanted
  open-finds l i h s e q =
      let r : lit (summaries_of xs) xs m l i ≡ true = opens-lit (summaries_of xs) xs m start l i e in
      let z : first_in (wanted xs m start) (16 ^ l * i) (16 ^ l) ≡ None = sym (search-first xs m start member l i h) ∙ q in
      let n : some (is_dirty xs m) (16 ^ l * i) (16 ^ l) ≡ false =
      some-no (is_dirty xs m) (16 ^ l * i) (16 ^ l) (λ k b. rw (le-leb start (16 ^ l * i + k) (omega arith)) at (first-nothing (wanted xs m start) (16 ^ l * i) (16 ^ l) z (16 ^ l * i + k) (omega arith) (omega arith))) in
      clash r (summaries-mean xs m l i member h ∙ n)

  -- what is known of a place: however the start lies; where nothing is found; where the start is not after its first chunk
  record Few (l i : ℕ) : Type 0 where
    any : (at l i).looked ≤ 32 * l + 1
    vain : (at l i).found ≡ None → (at l i).looked ≤ 16 * l + 1
    clean : start ≤ 16 ^ l * i → (at l i).looked ≤ 16 * l + 1

  -- ---- among n places of a level
  module _ (l : ℕ) (few : (i : ℕ) → i < size l → Few l i) where
    next : (a : ℕ) → start ≤ 16 ^ l * a → start ≤ 16 ^ l * suc a
    next a h = let q = mul-suc (16 ^ l) a in omega arith

    clean-among : (n a : ℕ) → a + n ≤ size l → start ≤ 16 ^ l * a → (among (at l) a n).looked ≤ n + 16 * l
    clean-among zero a h s = rw (none-looked (at l) a) (omega arith)
    clean-among (suc n) a h s =
        cases (at l a).found
        (λ c e. rw (hit-looked (at l) a n c e) (omega (arith, (few a (omega arith)).clean s)))
        (λ e. by_cases (down l a)
        (λ d. open-finds l a (omega arith) s d e)
        (λ d. rw (miss-looked (at l) a n e, shut-looked l a d) (omega (arith, clean-among n (suc a) (omega arith) (next a s)))))

    clean-vain : (n a : ℕ) → a + n ≤ size l → start ≤ 16 ^ l * a → (among (at l) a n).found ≡ None → (among (at l) a n).looked ≤ n
    clean-vain zero a h s v = rw (none-looked (at l) a) (omega arith)
    clean-vain (suc n) a h s v =
        cases (at l a).found
        (λ c e. never (hit-found (at l) a n c e) v)
        (λ e. by_cases (down l a)
        (λ d. open-finds l a (omega arith) s d e)
        (λ d. rw (miss-looked (at l) a n e, shut-looked l a d) (omega (arith, clean-vain n (suc a) (omega arith) (next a s) (sym (miss-found (at l) a n e) ∙ v)))))

    -- the place wholly before the start, the one in which it lies, or one that it is not after
    lies : {P : Type 0} (a : ℕ) → (16 ^ l * suc a ≤ start → P) → (start ≤ 16 ^ l * suc a → P) → (start ≤ 16 ^ l * a → P) → P
    lies a f g h = elim (dec_lt start (16 ^ l * suc a)) [
      | no d ↦ f (omega arith)
      | yes b ↦ elim (dec_lt (16 ^ l * a) start) [
        | yes k ↦ g (omega arith)
        | no k ↦ h (omega arith)
      ]
    ]

    any-among : (n a : ℕ) → a + n ≤ size l → (among (at l) a n).looked ≤ n + 32 * l
    any-among zero a h = rw (none-looked (at l) a) (omega arith)
    any-among (suc n) a h =
        lies a
        (λ b. let d = past-shut l a b in rw (miss-looked (at l) a n (shut-found l a d), shut-looked l a d) (omega (arith, any-among n (suc a) (omega arith))))
        (λ b. cases (at l a).found
        (λ c e. rw (hit-looked (at l) a n c e) (omega (arith, (few a (omega arith)).any)))
        (λ e. rw (miss-looked (at l) a n e) (omega (arith, (few a (omega arith)).vain e, clean-among n (suc a) (omega arith) b))))
        (λ b. omega (arith, clean-among (suc n) a h b))

    vain-among : (n a : ℕ) → a + n ≤ size l → (among (at l) a n).found ≡ None → (among (at l) a n).looked ≤ n + 16 * l
    vain-among zero a h v = rw (none-looked (at l) a) (omega arith)
    vain-among (suc n) a h v =
        lies a
        (λ b. let d = past-shut l a b in let e = shut-found l a d in rw (miss-looked (at l) a n e, shut-looked l a d) (omega (arith, vain-among n (suc a) (omega arith) (sym (miss-found (at l) a n e) ∙ v))))
        (λ b. cases (at l a).found
        (λ c e. never (hit-found (at l) a n c e) v)
        (λ e. rw (miss-looked (at l) a n e) (omega (arith, (few a (omega arith)).vain e, clean-vain n (suc a) (omega arith) b (sym (miss-found (at l) a n e) ∙ v)))))
        (λ b. omega (arith, clean-vain (suc n) a h b v))

  leaf-looked : (i : ℕ) → (at 0 i).looked ≡ 1
  unfolding at searched
  leaf-looked i = refl

  -- ---- level by level
  few : (l i : ℕ) → i < size l → Few l i
  few zero i h = record { any = omega (arith, leaf-looked i); vain = λ v. omega (arith, leaf-looked i); clean = λ s. omega (arith, leaf-looked i) }
  few (suc l) i h =
      let b = size-up l i h in
      by_cases (down (suc l) i)
      (λ d.
      record {
        any = omega (arith, open-looked l i d, any-among l (few l) 16 (16 * i) b);
        vain = λ v. omega (arith, open-looked l i d, vain-among l (few l) 16 (16 * i) b (sym (open-found l i d) ∙ v));
        clean = λ s.
            let p : 16 ^ suc l * i ≡ 16 ^ l * (16 * i) = rw (pow-suc 16 l, mul_assoc (16 ^ l) 16 i) in
            omega (arith, open-looked l i d, clean-among l (few l) 16 (16 * i) b (rw p at s));
      })
      (λ d. record { any = omega (arith, shut-looked (suc l) i d); vain = λ v. omega (arith, shut-looked (suc l) i d); clean = λ s. omega (arith, shut-looked (suc l) i d) })

  -- the root
  pub any-looks : (searched (summaries_of xs) xs m start 3 0).looked ≤ 81
  unfolding size at
  any-looks =
      by_cases (down 3 0)
      (λ d. omega (arith, open-looked 2 0 d, any-among 2 (few 2) 16 (16 * 0) (omega arith)))
      (λ d. omega (arith, shut-looked 3 0 d))

  pub clean-looks : start ≡ 0 → (searched (summaries_of xs) xs m start 3 0).looked ≤ 49
  unfolding size at
  clean-looks e = (few 3 0 (omega arith)).clean (omega arith)
