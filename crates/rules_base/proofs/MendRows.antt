-- A row's summary followed through the change of one chunk: group, group of groups, root. Assumes nothing.
use mathlib.Core.Path.{◌≡◌, refl, sym, ap, ◌∙◌}
use mathlib.Core.Logic.{◌≢◌}
use mathlib.Core.Bool.{Bool, true, false}
use mathlib.Core.List.{List}
use Prim.Native.Nat.{ℕ, zero, suc, ◌+◌, ◌-◌, ◌*◌, ◌/◌, ◌%◌, ◌^◌, ◌≤◌, ◌<◌}
use native.Mathlib.Nat.{add-zero, add_assoc, mul-add-div, div-eq_of_lt}
use native.Mathlib.Decide.{ℕ_discrete, dec_lt}
use native.Mathlib.Omega.{arith}
use lib.ListN.{length, get_or}
use Rattle.laws_words.specs.Tests.{by_cases}
use Rattle.rules_base.specs.Summary.{some, is_dirty, under, base, size, bit_of, is_set, is_place, lit}
use Rattle.rules_base.proofs.Some.{some_same, under_up}
use Rattle.rules_base.proofs.Places.{place-yes, base-low, lit-chunk, lit-place}
use Rattle.rules_base.proofs.Meaning.{meant, meant-group, meant-over, meant-root, meant-none, RowTrue}
use Rattle.rules_base.specs.Mend.{put, renewed}
use Rattle.rules_base.proofs.Puts.{put-length, put_same, put_other, put_small}

-- ---- what a place's mark says, by the places below and by the chunks
-- two maps that agree in the chunks under a place
under_same : (xs ys : List ℕ) (m l i : ℕ) → ((k : ℕ) → k < 16 ^ l → is_dirty xs m (16 ^ l * i + k) ≡ is_dirty ys m (16 ^ l * i + k)) → under xs m l i ≡ under ys m l i
unfolding under
under_same xs ys m l i h = some_same (is_dirty xs m) (is_dirty ys m) (16 ^ l * i) (16 ^ l * i) (16 ^ l) h

pub meant-same : (xs ys : List ℕ) (m : ℕ) → ((c : ℕ) → is_dirty xs m c ≡ is_dirty ys m c) → (r : ℕ) → meant xs m r ≡ meant ys m r
meant-same xs ys m h r = elim (dec_lt r 256) [
  | yes l ↦ meant-group xs m r l ∙ (under_same xs ys m 1 r (λ k b. h (16 ^ 1 * r + k)) ∙ sym (meant-group ys m r l))
  | no g ↦ elim (dec_lt r 272) [
    | yes l ↦ meant-over xs m r (omega arith) l ∙ (under_same xs ys m 2 (r - 256) (λ k b. h (16 ^ 2 * (r - 256) + k)) ∙ sym (meant-over ys m r (omega arith) l))
    | no f ↦ elim (ℕ_discrete r 320) [
      | yes e ↦ meant-root xs m r e ∙ (under_same xs ys m 3 0 (λ k b. h (16 ^ 3 * 0 + k)) ∙ sym (meant-root ys m r e))
      | no d ↦ meant-none xs m r (omega arith) d ∙ sym (meant-none ys m r (omega arith) d)
    ]
  ]
]

-- ---- one place marked anew
module _ (xs : List ℕ) (m l i : ℕ) (ws : List ℕ) (len : length ws ≡ 96) (member : m < 16) (above : l ≡ 0 → ⊥) (place : i < size l) where
  at_place : bit_of m l i ≡ 384 * m + (base l + i)
  unfolding bit_of
  at_place = add_assoc (384 * m) (base l) i

  in_words : (384 * m + (base l + i)) / 64 < length ws
  in_words = omega (arith, base-low l i above place)

  renew-length : length (renewed xs m l i ws) ≡ 96
  unfolding renewed
  renew-length = put-length ws (bit_of m l i) _ ∙ len

  renew-small : ((j : ℕ) → j < 96 → get_or ws j 0 < 2 ^ 64) → (j : ℕ) → j < 96 → get_or (renewed xs m l i ws) j 0 < 2 ^ 64
  unfolding renewed
  renew-small s = rw at_place (put_small ws (384 * m + (base l + i)) (some (lit ws xs m (l - 1)) (16 * i) 16) in_words s)

  renew-here : is_set (renewed xs m l i ws) (384 * m + (base l + i)) ≡ some (lit ws xs m (l - 1)) (16 * i) 16
  unfolding renewed
  renew-here = rw at_place (put_same ws (384 * m + (base l + i)) (some (lit ws xs m (l - 1)) (16 * i) 16) in_words)

  renew-there : (b : ℕ) → 384 * m + (base l + i) ≢ b → is_set (renewed xs m l i ws) b ≡ is_set ws b
  unfolding renewed
  renew-there b d = rw at_place (put_other ws (384 * m + (base l + i)) (some (lit ws xs m (l - 1)) (16 * i) 16) b in_words d)

  renew-row : (k r : ℕ) → m ≢ k → r < 384 → is_set (renewed xs m l i ws) (384 * k + r) ≡ is_set ws (384 * k + r)
  renew-row k r d h = renew-there (384 * k + r) (λ e. d (omega (arith, base-low l i above place)))

-- ---- the places above a chunk that changed: xs is the map before, ys the map after
module _ (xs ys : List ℕ) (m c : ℕ) (member : m < 16) (chunk : c < 4096) (others : (d : ℕ) → d ≢ c → is_dirty xs m d ≡ is_dirty ys m d) where
  -- a place that the chunk is not under
  apart : (l i : ℕ) → c / 16 ^ l ≢ i → under xs m l i ≡ under ys m l i
  apart l i d = under_same xs ys m l i (λ k b. others (16 ^ l * i + k) (λ e. d (rw (← e, mul-add-div {m = 16 ^ l} (omega arith) i k, div-eq_of_lt b) (add-zero i))))

  module _ (ws : List ℕ) (len : length ws ≡ 96) (before : RowTrue ws xs m) where
    first : List ℕ
    first = renewed ys m 1 (c / 16) ws

    second : List ℕ
    second = renewed ys m 2 (c / 256) first

    third : List ℕ
    third = renewed ys m 3 0 second

    group_at : c / 16 < size 1
    unfolding size
    group_at = omega arith

    over-at : c / 256 < size 2
    unfolding size
    over-at = omega arith

    root-at : 0 < size 3
    unfolding size
    root-at = omega arith

    first-length : length first ≡ 96
    unfolding first
    first-length = renew-length ys m 1 (c / 16) ws len member (λ p. omega arith) group_at

    second-length : length second ≡ 96
    unfolding second
    second-length = renew-length ys m 2 (c / 256) first first-length member (λ p. omega arith) over-at

    -- ---- the groups
    group-chunks : some (lit ws ys m 0) (16 * (c / 16)) 16 ≡ under ys m 1 (c / 16)
    unfolding under
    group-chunks = some_same (lit ws ys m 0) (is_dirty ys m) (16 * (c / 16)) (16 * (c / 16)) 16 (λ k b. lit-chunk ws ys m 0 (16 * (c / 16) + k) refl)

    first_group : (i : ℕ) → i < 256 → is_set first (384 * m + i) ≡ under ys m 1 i
    unfolding first base
    first_group i h = elim (ℕ_discrete (c / 16) i) [
      | yes e ↦ let q : 384 * m + (0 + c / 16) ≡ 384 * m + i = omega arith in rw (← q) (renew-here ys m 1 (c / 16) ws len member (λ p. omega arith) group_at ∙ (group-chunks ∙ rw e))
      | no d ↦ renew-there ys m 1 (c / 16) ws len member (λ p. omega arith) group_at (384 * m + i) (λ q. d (omega arith)) ∙ (before i (omega arith) ∙ (meant-group xs m i h ∙ apart 1 i d))
    ]

    -- a place of level 1 or 2 read back
    lit-group : (i : ℕ) → i < 256 → lit first ys m 1 i ≡ under ys m 1 i
    unfolding base size
    lit-group i h = let q : 384 * m + 0 + i ≡ 384 * m + i = omega arith in lit-place first ys m 1 i (λ p. omega arith) (place-yes m 1 i member h) ∙ rw q (first_group i h)

    -- ---- the groups of groups
    over-groups : some (lit first ys m 1) (16 * (c / 256)) 16 ≡ under ys m 2 (c / 256)
    over-groups = some_same (lit first ys m 1) (under ys m 1) (16 * (c / 256)) (16 * (c / 256)) 16 (λ k b. lit-group (16 * (c / 256) + k) (omega arith)) ∙ sym (under_up ys m 1 (c / 256))

    second_group : (i : ℕ) → i < 256 → is_set second (384 * m + i) ≡ under ys m 1 i
    unfolding second base
    second_group i h = renew-there ys m 2 (c / 256) first first-length member (λ p. omega arith) over-at (384 * m + i) (λ q. omega arith) ∙ first_group i h

    second-over : (i : ℕ) → i < 16 → is_set second (384 * m + (256 + i)) ≡ under ys m 2 i
    unfolding first second base
    second-over i h = elim (ℕ_discrete (c / 256) i) [
      | yes e ↦ let q : 384 * m + (256 + c / 256) ≡ 384 * m + (256 + i) = omega arith in rw (← q) (renew-here ys m 2 (c / 256) first first-length member (λ p. omega arith) over-at ∙ (over-groups ∙ rw e))
      | no d ↦
          let w : 256 + i - 256 ≡ i = omega arith in
          renew-there ys m 2 (c / 256) first first-length member (λ p. omega arith) over-at (384 * m + (256 + i)) (λ q. d (omega arith)) ∙
          (renew-there ys m 1 (c / 16) ws len member (λ p. omega arith) group_at (384 * m + (256 + i)) (λ q. omega arith) ∙
          (before (256 + i) (omega arith) ∙ (rw w at (meant-over xs m (256 + i) (omega arith) (omega arith)) ∙ apart 2 i d)))
    ]

    lit-over : (i : ℕ) → i < 16 → lit second ys m 2 i ≡ under ys m 2 i
    unfolding base size
    lit-over i h = let q : 384 * m + 256 + i ≡ 384 * m + (256 + i) = omega arith in lit-place second ys m 2 i (λ p. omega arith) (place-yes m 2 i member h) ∙ rw q (second-over i h)

    -- ---- the root
    root-overs : some (lit second ys m 2) (16 * 0) 16 ≡ under ys m 3 0
    root-overs = some_same (lit second ys m 2) (under ys m 2) (16 * 0) (16 * 0) 16 (λ k b. lit-over (16 * 0 + k) (omega arith)) ∙ sym (under_up ys m 2 0)

    third-root : is_set third (384 * m + 320) ≡ under ys m 3 0
    unfolding third base
    third-root = renew-here ys m 3 0 second second-length member (λ p. omega arith) root-at ∙ root-overs

    third-there : (r : ℕ) → r ≢ 320 → is_set third (384 * m + r) ≡ is_set second (384 * m + r)
    unfolding third base
    third-there r d = renew-there ys m 3 0 second second-length member (λ p. omega arith) root-at (384 * m + r) (λ q. d (omega arith))

    spare-there : (r : ℕ) → 272 ≤ r → r < 384 → r ≢ 320 → is_set third (384 * m + r) ≡ false
    unfolding first second base
    spare-there r h l d =
        third-there r d ∙
        (renew-there ys m 2 (c / 256) first first-length member (λ p. omega arith) over-at (384 * m + r) (λ q. omega arith) ∙
        (renew-there ys m 1 (c / 16) ws len member (λ p. omega arith) group_at (384 * m + r) (λ q. omega arith) ∙
        (before r l ∙ meant-none xs m r h d)))

    -- ---- the row
    pub row-mended : RowTrue (renewed ys m 3 0 (renewed ys m 2 (c / 256) (renewed ys m 1 (c / 16) ws))) ys m
    unfolding first second third
    row-mended r b = elim (dec_lt r 256) [
      | yes l ↦ third-there r (λ e. omega arith) ∙ (second_group r l ∙ sym (meant-group ys m r l))
      | no g ↦ elim (dec_lt r 272) [
        | yes l ↦ let q : 256 + (r - 256) ≡ r = omega arith in third-there r (λ e. omega arith) ∙ (rw q at (second-over (r - 256) (omega arith)) ∙ sym (meant-over ys m r (omega arith) l))
        | no f ↦ elim (ℕ_discrete r 320) [
          | yes e ↦ rw e (third-root ∙ sym (meant-root ys m 320 refl))
          | no d ↦ spare-there r (omega arith) b d ∙ sym (meant-none ys m r (omega arith) d)
        ]
      ]
    ]

    pub mended-length : length (renewed ys m 3 0 (renewed ys m 2 (c / 256) (renewed ys m 1 (c / 16) ws))) ≡ 96
    unfolding first second third
    mended-length = renew-length ys m 3 0 second second-length member (λ p. omega arith) root-at

    pub mended-small : ((j : ℕ) → j < 96 → get_or ws j 0 < 2 ^ 64) → (j : ℕ) → j < 96 → get_or (renewed ys m 3 0 (renewed ys m 2 (c / 256) (renewed ys m 1 (c / 16) ws))) j 0 < 2 ^ 64
    unfolding first second third
    mended-small s =
        renew-small ys m 3 0 second second-length member (λ p. omega arith) root-at
        (renew-small ys m 2 (c / 256) first first-length member (λ p. omega arith) over-at
        (renew-small ys m 1 (c / 16) ws len member (λ p. omega arith) group_at s))

    -- no other row's words change
    pub mended-row : (k r : ℕ) → m ≢ k → r < 384 → is_set (renewed ys m 3 0 (renewed ys m 2 (c / 256) (renewed ys m 1 (c / 16) ws))) (384 * k + r) ≡ is_set ws (384 * k + r)
    unfolding first second third
    mended-row k r d h =
        renew-row ys m 3 0 second second-length member (λ p. omega arith) root-at k r d h ∙
        (renew-row ys m 2 (c / 256) first first-length member (λ p. omega arith) over-at k r d h ∙
        renew-row ys m 1 (c / 16) ws len member (λ p. omega arith) group_at k r d h)
