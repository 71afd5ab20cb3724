-- What each operation does to any member's chunk, as a law of 0 and 1 that `omega` reads: marking is `max`, clearing and zeroing `min`.
-- Assumes nothing.
use mathlib.Core.Path.{◌≡◌, refl, sym, ap, ◌∙◌}
use mathlib.Core.Logic.{◌≢◌}
use mathlib.Core.Bool.{Bool, true, false, not}
use mathlib.Core.List.{List}
use Prim.Native.Nat.{ℕ, zero, suc, ◌+◌, ◌-◌, ◌*◌, ◌/◌, ◌%◌, ◌^◌, ◌≤◌, ◌<◌, min, max}
use native.Mathlib.Nat.{lt_irrefl, not-suc-le-zero}
use native.Mathlib.Decide.{ℕ_discrete, dec_lt}
use native.Mathlib.Omega.{arith}
use borrow.Author.Tests.{eq-eqb, ne_eqb, lt-ltb}
use lib.Bits.{bit_and, bit_or}
use lib.Dec.{eqb}
use lib.ListN.{length, get_or, set}
use lib.Seq.{get_or-set_same, get_or-set_other}
use Rattle.laws_words.specs.Tests.{either}
use Rattle.laws_words.specs.Words.{pick, one, bit}
use Rattle.laws_words.specs.Bits.{bit-or, bit-and, bit-none}
use Rattle.rules_base.specs.Sets.{has}
use Rattle.rules_base.specs.Chunk.{byte_of, dirty, chunk_marked, cleared, marked_for, each}
use Rattle.rules_base.specs.Map.{within, replaced, zero_from, zero_row, zeroed, or_from, or_in, rows_kept}
use Rattle.rules_base.proofs.Bytes.{bit-pow, bit_mask}
use Rattle.rules_base.proofs.Over.{get_d_over, in-yes, in-low, in-high}
use Rattle.rules_base.proofs.Chunk.{there-yes, dirty-there, dirty-lt, length_marked}
use Rattle.rules_base.proofs.Maps.{length-zero_row}

-- 1 where a is b, else 0
pub same : ℕ → ℕ → ℕ
same a b = pick (eqb a b) 1 0

pub same-yes : (a b : ℕ) → a ≡ b → same a b ≡ 1
unfolding same
same-yes a b e = rw (eq-eqb a b e)

pub same-no : (a b : ℕ) → (a ≡ b → ⊥) → same a b ≡ 0
unfolding same
same-no a b d = rw (ne_eqb a b d)

pub same-lt : (a b : ℕ) → same a b < 2
same-lt a b = elim (ℕ_discrete a b) [ yes e ↦ rw (same-yes a b e) (omega arith) | no d ↦ rw (same-no a b d) (omega arith) ]

-- 1 where member m's chunk c is member m''s chunk c'
pub hit : ℕ → ℕ → ℕ → ℕ → ℕ
hit m c m' c' = min (same m m') (same c c')

pub hit-yes : (m c m' c' : ℕ) → m ≡ m' → c ≡ c' → hit m c m' c' ≡ 1
unfolding hit
hit-yes m c m' c' p q = rw (same-yes m m' p, same-yes c c' q)

pub hit-no : (m c m' c' : ℕ) → (m ≡ m' → c ≡ c' → ⊥) → hit m c m' c' ≡ 0
unfolding hit
hit-no m c m' c' d = elim (ℕ_discrete m m') [
  | yes p ↦ let z : same c c' ≡ 0 = same-no c c' (d p) in omega arith
  | no q ↦ let z : same m m' ≡ 0 = same-no m m' q in omega arith
]

-- in a map of 8,192 bytes every member's every chunk has its place
pub placed : (xs : List ℕ) (m c : ℕ) → length xs ≡ 8192 → m < 16 → c < 4096 → byte_of m c < length xs
unfolding byte_of
placed xs m c e h l = omega arith

-- ---- one chunk marked or cleared
-- a byte stored where member m's chunk c is, read at member m''s chunk c'
dirty-set : (xs : List ℕ) (m c v m' c' x : ℕ) → byte_of m c < length xs → m' < 16 → c' < 4096 → (byte_of m' c' ≡ byte_of m c → bit v (c' % 8) ≡ x) → (byte_of m' c' ≢ byte_of m c → dirty xs m' c' ≡ x) → dirty (set xs (byte_of m c) v) m' c' ≡ x
dirty-set xs m c v m' c' x l hm hc here there =
    dirty-there (set xs (byte_of m c) v) m' c' hm hc ∙
    (elim (ℕ_discrete (byte_of m' c') (byte_of m c)) [
      | yes e ↦ rw (e, get_or-set_same xs (byte_of m c) v 0 l) (here e)
      | no d ↦ rw (get_or-set_other xs (byte_of m c) (byte_of m' c') v 0 d) (sym (dirty-there xs m' c' hm hc) ∙ there d)
    ])

-- in one byte two chunks are the same where their bits are
hit-bit : (m c m' c' : ℕ) → c < 4096 → c' < 4096 → byte_of m' c' ≡ byte_of m c → pick (eqb (c % 8) (c' % 8)) 1 0 ≡ hit m c m' c'
unfolding byte_of
hit-bit m c m' c' l l' e = elim (ℕ_discrete (c % 8) (c' % 8)) [
  | yes q ↦ rw (eq-eqb (c % 8) (c' % 8) q, hit-yes m c m' c' (omega arith) (omega arith))
  | no d ↦ rw (ne_eqb (c % 8) (c' % 8) d, hit-no m c m' c' (λ p q. d (ap (λ (n : ℕ). n % 8) q)))
]

hit-apart : (m c m' c' : ℕ) → byte_of m' c' ≢ byte_of m c → hit m c m' c' ≡ 0
hit-apart m c m' c' d = hit-no m c m' c' (λ p q. d (rw (p, q)))

pub dirty-marked : (xs : List ℕ) (m c m' c' : ℕ) → length xs ≡ 8192 → m < 16 → c < 4096 → m' < 16 → c' < 4096 → dirty (chunk_marked xs m c) m' c' ≡ max (dirty xs m' c') (hit m c m' c')
unfolding chunk_marked
dirty-marked xs m c m' c' len hm hc hm' hc' =
    rw (there-yes m c hm hc) (dirty-set xs m c (bit_or (get_or xs (byte_of m c) 0) (2 ^ (c % 8))) m' c' (max (dirty xs m' c') (hit m c m' c')) (placed xs m c len hm hc) hm' hc'
    (λ e. rw (bit-or, bit-pow (c % 8) (c' % 8) (omega arith) (omega arith), hit-bit m c m' c' hc hc' e, dirty-there xs m' c' hm' hc', e))
    (λ d. let z : hit m c m' c' ≡ 0 = hit-apart m c m' c' d in omega arith))

pub dirty-cleared : (xs : List ℕ) (m c m' c' : ℕ) → length xs ≡ 8192 → m < 16 → c < 4096 → m' < 16 → c' < 4096 → dirty (cleared xs m c) m' c' ≡ min (dirty xs m' c') (1 - hit m c m' c')
unfolding cleared
dirty-cleared xs m c m' c' len hm hc hm' hc' =
    rw (there-yes m c hm hc) (dirty-set xs m c (bit_and (get_or xs (byte_of m c) 0) (255 - 2 ^ (c % 8))) m' c' (min (dirty xs m' c') (1 - hit m c m' c')) (placed xs m c len hm hc) hm' hc'
    (λ e. rw (bit-and, bit_mask (c % 8) (c' % 8) (omega arith) (omega arith), ← hit-bit m c m' c' hc hc' e, dirty-there xs m' c' hm' hc', e) (flip (eqb (c % 8) (c' % 8))))
    (λ d. let z : hit m c m' c' ≡ 0 = hit-apart m c m' c' d in omega (arith, dirty-lt xs m' c')))
  where
    flip : (t : Bool) → min (bit (get_or xs (byte_of m c) 0) (c' % 8)) (pick t 0 1) ≡ min (bit (get_or xs (byte_of m c) 0) (c' % 8)) (1 - pick t 1 0)
    flip true = refl
    flip false = refl

-- ---- bytes rewritten in a range
-- read at a chunk: inside the range and outside
dirty-over : (a e : ℕ) (f : ℕ → ℕ → ℕ) (xs : List ℕ) (m c : ℕ) → length xs ≡ 8192 → m < 16 → c < 4096 → dirty (replaced a e f xs) m c ≡ pick (within a e (byte_of m c)) (bit (f (byte_of m c) (get_or xs (byte_of m c) 0)) (c % 8)) (dirty xs m c)
dirty-over a e f xs m c len hm hc =
    dirty-there (replaced a e f xs) m c hm hc ∙ (rw (get_d_over a e f xs (byte_of m c) (placed xs m c len hm hc), dirty-there xs m c hm hc) (picks (within a e (byte_of m c))))
  where
    picks : (t : Bool) → bit (pick t (f (byte_of m c) (get_or xs (byte_of m c) 0)) (get_or xs (byte_of m c) 0)) (c % 8) ≡ pick t (bit (f (byte_of m c) (get_or xs (byte_of m c) 0)) (c % 8)) (bit (get_or xs (byte_of m c) 0) (c % 8))
    picks true = refl
    picks false = refl

pub dirty-zero_row : (xs : List ℕ) (m m' c : ℕ) → length xs ≡ 8192 → m < 16 → m' < 16 → c < 4096 → dirty (zero_row m xs) m' c ≡ min (dirty xs m' c) (1 - same m m')
unfolding zero_row zero_from byte_of
dirty-zero_row xs m m' c len hm hm' hc =
    rw (lt-ltb m 16 hm) (dirty-over (512 * m) (512 * m + 512) (λ k x. 0) xs m' c len hm' hc ∙
    (elim (ℕ_discrete m m') [
      | yes p ↦ rw (in-yes (512 * m) (512 * m + 512) (512 * m' + c / 8) (omega arith) (omega arith), bit-none (c % 8), same-yes m m' p) (omega arith)
      | no d ↦ elim (dec_lt m' m) [
        | yes k ↦ rw (in-low (512 * m) (512 * m + 512) (512 * m' + c / 8) (omega arith), same-no m m' d) (omega (arith, dirty-lt xs m' c))
        | no k ↦ rw (in-high (512 * m) (512 * m + 512) (512 * m' + c / 8) (omega arith), same-no m m' d) (omega (arith, dirty-lt xs m' c))
      ]
    ]))

pub dirty-zeroed : (xs : List ℕ) (m c : ℕ) → length xs ≡ 8192 → m < 16 → c < 4096 → dirty (zeroed xs) m c ≡ 0
unfolding zeroed zero_from
dirty-zeroed xs m c len hm hc = dirty-over 0 (length xs) (λ k x. 0) xs m c len hm hc ∙ rw (in-yes 0 (length xs) (byte_of m c) (omega arith) (placed xs m c len hm hc)) (bit-none (c % 8))

-- a bit of an OR is set where it is in either
pub dirty-or : (xs ys : List ℕ) (m c : ℕ) → length xs ≡ 8192 → length ys ≡ 8192 → m < 16 → c < 4096 → dirty (or_in xs ys) m c ≡ max (dirty xs m c) (dirty ys m c)
unfolding or_in or_from
dirty-or xs ys m c len len' hm hc =
    let n : min (length xs) (length ys) ≡ 8192 = omega arith in
    rw n (dirty-over 0 8192 (λ k x. bit_or x (get_or ys k 0)) xs m c len hm hc ∙
    (rw (in-yes 0 8192 (byte_of m c) (omega arith) (omega (arith, placed xs m c len hm hc)), bit-or, dirty-there xs m c hm hc, dirty-there ys m c hm hc) refl))

-- ---- a fold over a set, seen at one member: the members before and after it do not matter
module _ (view : List ℕ → ℕ) (g : ℕ → ℕ) (P : List ℕ → Type 0) (f : ℕ → List ℕ → List ℕ) (m : ℕ)
    (keeps : (k : ℕ) (ys : List ℕ) → P ys → P (f k ys))
    (other : (k : ℕ) (ys : List ℕ) → k < 16 → P ys → k ≢ m → view (f k ys) ≡ view ys)
    (own : (ys : List ℕ) → P ys → view (f m ys) ≡ g (view ys)) where
  each-P : (t : ℕ → Bool) (n : ℕ) (xs : List ℕ) → P xs → P (each t f n xs)
  unfolding each
  each-P t zero xs p = p
  each-P t (suc n) xs p = either P (t n) _ _ (keeps n (each t f n xs) (each-P t n xs p)) (each-P t n xs p)

  each-miss : (t : ℕ → Bool) (n : ℕ) (xs : List ℕ) → P xs → n ≤ m → n ≤ 16 → view (each t f n xs) ≡ view xs
  unfolding each
  each-miss t zero xs p l b = refl
  each-miss t (suc n) xs p l b =
      either (λ a. view a ≡ view xs) (t n) _ _ (other n (each t f n xs) (omega arith) (each-P t n xs p) (λ e. lt_irrefl m (omega arith)) ∙ each-miss t n xs p (omega arith) (omega arith)) (each-miss t n xs p (omega arith) (omega arith))

  each_at : (t : ℕ → Bool) (n : ℕ) (xs : List ℕ) → P xs → m < n → n ≤ 16 → view (each t f n xs) ≡ pick (t m) (g (view xs)) (view xs)
  unfolding each
  each_at t zero xs p l b = absurd (not-suc-le-zero l)
  each_at t (suc n) xs p l b = elim (ℕ_discrete n m) [
    | yes e ↦ rw e (mine (t m))
    | no d ↦ theirs (t n) (other n (each t f n xs) (omega arith) (each-P t n xs p) d) ∙ each_at t n xs p (omega arith) (omega arith)
  ]
    where
      mine : (b : Bool) → view (pick b (f m (each t f m xs)) (each t f m xs)) ≡ pick b (g (view xs)) (view xs)
      mine true = own (each t f m xs) (each-P t m xs p) ∙ ap g (each-miss t m xs p (omega arith) (omega arith))
      mine false = each-miss t m xs p (omega arith) (omega arith)

      theirs : (b : Bool) {a z : List ℕ} → view a ≡ view z → view (pick b a z) ≡ view z
      theirs true q = q
      theirs false q = refl

pub dirty-marked_for : (xs : List ℕ) (s c m c' : ℕ) → length xs ≡ 8192 → m < 16 → c < 4096 → c' < 4096 → dirty (marked_for xs s c) m c' ≡ max (dirty xs m c') (min (one (has s m)) (same c c'))
unfolding marked_for
dirty-marked_for xs s c m c' e h l l' =
    each_at (λ ys. dirty ys m c') (λ v. max v (same c c')) (λ ys. length ys ≡ 8192) (λ k ys. chunk_marked ys k c) m
    (λ k ys p. length_marked ys k c ∙ p)
    (λ k ys b p d. let z : hit k c m c' ≡ 0 = hit-no k c m c' (λ q _. d q) in omega (arith, dirty-marked ys k c m c' p b l h l'))
    (λ ys p. unfold hit in dirty-marked ys m c m c' p h l h l' ∙ rw (same-yes m m refl) (ap (max (dirty ys m c')) (omega (arith, same-lt c c'))))
    (has s) 16 xs e h (omega arith)
    ∙ picks (has s m)
  where
    picks : (t : Bool) → pick t (max (dirty xs m c') (same c c')) (dirty xs m c') ≡ max (dirty xs m c') (min (one t) (same c c'))
    picks true = omega (arith, same-lt c c')
    picks false = omega arith

pub dirty-kept : (xs : List ℕ) (s m c : ℕ) → length xs ≡ 8192 → m < 16 → c < 4096 → dirty (rows_kept s xs) m c ≡ min (dirty xs m c) (one (has s m))
unfolding rows_kept
dirty-kept xs s m c e h l =
    each_at (λ ys. dirty ys m c) (λ v. 0) (λ ys. length ys ≡ 8192) zero_row m
    (λ k ys p. length-zero_row k ys ∙ p)
    (λ k ys b p d. dirty-zero_row ys k m c p b h l ∙ rw (same-no k m d) (omega (arith, dirty-lt ys m c)))
    (λ ys p. dirty-zero_row ys m m c p h h l ∙ rw (same-yes m m refl) (omega arith))
    (λ k. not (has s k)) 16 xs e h (omega arith)
    ∙ picks (has s m)
  where
    picks : (t : Bool) → pick (not t) 0 (dirty xs m c) ≡ min (dirty xs m c) (one t)
    picks true = omega (arith, dirty-lt xs m c)
    picks false = omega arith
