-- What a node's events mean for one chunk of one member: rows that stay, rows that go, and the chosen of LAST_IO_TO_MAP. Assumes nothing.
use mathlib.Core.Path.{◌≡◌, refl, sym, ap, ◌∙◌}
use mathlib.Core.Logic.{◌≢◌}
use mathlib.Core.Bool.{Bool, true, false}
use mathlib.Core.List.{List}
use Prim.Native.Nat.{ℕ, zero, suc, ◌+◌, ◌-◌, ◌<◌, ◌≤◌, min, max}
use native.Mathlib.Decide.{ℕ_discrete, dec_lt}
use native.Mathlib.Omega.{arith}
use borrow.Author.Tests.{eqb-true, eqb-false}
use lib.Dec.{eqb}
use lib.ListN.{length, get_or}
use Rattle.laws_words.specs.Words.{pick, one}
use Rattle.laws_words.specs.Loops.{run_at}
use Rattle.laws_words.specs.Tests.{by_cases}
use Rattle.rules_base.specs.Sets.{has, with, without}
use Rattle.rules_base.proofs.Sets.{has-with-same, has-with-other, has-without-same, has-none}
use Rattle.rules_base.specs.Chunk.{there, dirty, marked_for}
use Rattle.rules_base.specs.Map.{rows_kept}
use Rattle.rules_base.proofs.Chunks.{same, same-yes, same-no, same-lt, dirty-marked_for, dirty-kept}
use Rattle.rules_base.proofs.Chunk.{there-no-member, dirty-lt}
use Rattle.rules_base.proofs.Rows.{copied_all}
use Rattle.rules_base.proofs.Sound.{Sound}
use Rattle.rules_node.specs.declared.OnMap.{OnMap}
use Rattle.rules_node.specs.declared.Node.{Node}
use Rattle.rules_node.specs.StateRules.{is_kept}
use Rattle.laws_node.proofs.Valid.{Valid, kept-below}
use Rattle.rules_node.specs.Carry.{last_io, last_io_at, last_ios, map_after}
use Rattle.laws_node.proofs.Sound.{sound-last_io_at}

-- leave with delete, join create: the own row stays
pub own-row-stays : (n : Node) (ys xs : List ℕ) (c : ℕ) → length xs ≡ 8192 → n.id < 16 → c < 4096 → dirty (map_after (OnMap.KeepRows (with 0 n.id)) n ys xs) n.id c ≡ dirty xs n.id c
unfolding map_after
own-row-stays n ys xs c h i l =
    dirty-kept xs (with 0 n.id) n.id c h i l ∙ (rw (has-with-same 0 n.id i) (omega (arith, dirty-lt xs n.id c)))

-- and every other is zeroed
pub other-rows-zeroed : (n : Node) (ys xs : List ℕ) (m c : ℕ) → length xs ≡ 8192 → m < 16 → c < 4096 → m ≢ n.id → dirty (map_after (OnMap.KeepRows (with 0 n.id)) n ys xs) m c ≡ 0
unfolding map_after
other-rows-zeroed n ys xs m c h i l d =
    dirty-kept xs (with 0 n.id) m c h i l ∙ (rw (has-with-other 0 n.id m d, has-none m) (omega arith))

-- MAP_DONE: a chunk is dirty where staging had it dirty, for a member of the set alone
pub committed-chunk : (n : Node) (set : ℕ) (ys xs : List ℕ) (m c : ℕ) → length xs ≡ 8192 → length ys ≡ 8192 → m < 16 → c < 4096 → dirty (map_after (OnMap.Commit set) n ys xs) m c ≡ min (dirty ys m c) (one (has set m))
unfolding map_after
committed-chunk n set ys xs m c h k i l = rw (copied_all xs ys (h ∙ sym k)) (dirty-kept ys set m c k i l)

-- ---- LAST_IO_TO_MAP

-- a member or chunk without a bit reads clean
pub dirty-nowhere : (xs : List ℕ) (m c : ℕ) → there m c ≡ false → dirty xs m c ≡ 0
unfolding dirty
dirty-nowhere xs m c e = rw e

joined : (d a b z : ℕ) → max (max d (min a z)) (min b z) ≡ max d (min (max a b) z)
joined d a b z = let e : max (min a z) (min b z) ≡ min (max a b) z = omega arith in rw (← e) (all_of d (min a z) (min b z))
  where
    all_of : (d x y : ℕ) → max (max d x) y ≡ max d (max x y)
    all_of d x y = omega arith

-- 1 where place i of kept holds the kept chunk c, and where one of the m places from i on does
abbrev pub kept_at : Node → ℕ → ℕ → ℕ
kept_at n i c = min (one (is_kept n i)) (same (get_or n.kept i 0) c)

pub kept_in : Node → ℕ → ℕ → ℕ → ℕ
kept_in n zero i c = 0
kept_in n (suc m) i c = max (kept_at n i c) (kept_in n m (suc i) c)

kept_in-le : (n : Node) (m i c : ℕ) → kept_in n m i c ≤ 1
unfolding kept_in
kept_in-le n zero i c = omega arith
kept_in-le n (suc m) i c = omega (arith, same-lt (get_or n.kept i 0) c, kept_in-le n m (suc i) c)

pub kept-yes : (n : Node) (m i c j : ℕ) → i ≤ j → j < i + m → is_kept n j ≡ true → get_or n.kept j 0 ≡ c → kept_in n m i c ≡ 1
unfolding kept_in
kept-yes n zero i c j a b k e = absurd (let z : ⊥ = omega arith in z)
kept-yes n (suc m) i c j a b k e = elim (ℕ_discrete i j) [
  | yes q ↦ rw (q, k, same-yes (get_or n.kept j 0) c e) (omega (arith, kept_in-le n m (suc j) c))
  | no d ↦ let r = kept-yes n m (suc i) c j (omega arith) (omega arith) k e in omega (arith, same-lt (get_or n.kept i 0) c)
]

pub kept-no : (n : Node) (m i c : ℕ) → ((j : ℕ) → i ≤ j → j < i + m → is_kept n j ≡ true → get_or n.kept j 0 ≢ c) → kept_in n m i c ≡ 0
unfolding kept_in
kept-no n zero i c f = refl
kept-no n (suc m) i c f =
    let r = kept-no n m (suc i) c (λ j a b. f j (omega arith) (omega arith)) in
    by_cases (is_kept n i)
    (λ k. rw (k, same-no (get_or n.kept i 0) c (f i (omega arith) (omega arith) k)) (omega arith))
    (λ k. rw k (omega arith))

-- what may be marked for member q in chunk c: q is a member and not the chosen, and the chunk is not dirty for the chosen
abbrev pub due : Node → ℕ → List ℕ → ℕ → ℕ → ℕ
due n chosen xs q c = min (1 - dirty xs chosen c) (one (has (without n.members chosen) q))

module _ (n : Node) (chosen : ℕ) (v : Valid n) where
  -- one place: its chunk is marked where that is due
  place-chunk : (i : ℕ) (xs : List ℕ) (q c : ℕ) → Sound n.chunks xs → i < 16 → q < 16 → c < 4096 → dirty (last_io_at n chosen i xs) q c ≡ max (dirty xs q c) (min (kept_at n i c) (due n chosen xs q c))
  unfolding last_io_at last_io
  place-chunk i xs q c s b h l = outer (is_kept n i) refl
    where
      k : ℕ
      k = get_or n.kept i 0

      -- where the place's chunk is c, the chosen's bit there is the one that is tested
      inner : (t : Bool) → eqb (dirty xs chosen k) 1 ≡ t → k < 4096 → Dec (k ≡ c) → dirty (pick t xs (marked_for xs (without n.members chosen) k)) q c ≡ max (dirty xs q c) (min (min 1 (same k c)) (due n chosen xs q c))
      inner true e o (yes p) =
          let z : dirty xs chosen c ≡ 1 = ap (dirty xs chosen) (sym p) ∙ eqb-true (dirty xs chosen k) 1 e in
          omega arith
      inner false e o (yes p) =
          let z : dirty xs chosen c ≢ 1 = λ y. eqb-false (dirty xs chosen k) 1 e (ap (dirty xs chosen) p ∙ y) in
          let y : 1 - dirty xs chosen c ≡ 1 = omega (arith, dirty-lt xs chosen c) in
          dirty-marked_for xs (without n.members chosen) k q c s.len h o l ∙ rw (same-yes k c p, y) (omega arith)
      inner true e o (no d) = rw (same-no k c d) (omega arith)
      inner false e o (no d) = dirty-marked_for xs (without n.members chosen) k q c s.len h o l ∙ rw (same-no k c d) (omega arith)

      outer : (t : Bool) → is_kept n i ≡ t → dirty (pick t (pick (eqb (dirty xs chosen k) 1) xs (marked_for xs (without n.members chosen) k)) xs) q c ≡ max (dirty xs q c) (min (min (one t) (same k c)) (due n chosen xs q c))
      outer true e = let o : k < n.chunks = kept-below n v.keeps i b e in inner (eqb (dirty xs chosen k) 1) refl (omega (arith, v.few)) (ℕ_discrete k c)
      outer false e = omega arith

  -- so the chosen itself is not marked
  place-chosen : (i : ℕ) (xs : List ℕ) (c : ℕ) → Sound n.chunks xs → i < 16 → c < 4096 → dirty (last_io_at n chosen i xs) chosen c ≡ dirty xs chosen c
  place-chosen i xs c s b l = elim (dec_lt chosen 16) [
    | yes h ↦ place-chunk i xs chosen c s b h l ∙ rw (has-without-same n.members chosen) (omega arith)
    | no h ↦ let w : there chosen c ≡ false = there-no-member chosen c (omega arith) in dirty-nowhere (last_io_at n chosen i xs) chosen c w ∙ sym (dirty-nowhere xs chosen c w)
  ]

  -- the places from i on
  places-chunk : (m i : ℕ) (xs : List ℕ) (q c : ℕ) → Sound n.chunks xs → i + m ≤ 16 → q < 16 → c < 4096 → dirty (run_at (last_io_at n chosen) m i xs) q c ≡ max (dirty xs q c) (min (kept_in n m i c) (due n chosen xs q c))
  unfolding kept_in
  places-chunk zero i xs q c s b h l = omega arith
  places-chunk (suc m) i xs q c s b h l =
      places-chunk m (suc i) (last_io_at n chosen i xs) q c (sound-last_io_at n chosen i xs v.keeps (omega arith) s) (omega arith) h l
      ∙ (rw (place-chosen i xs c s (omega arith) l, place-chunk i xs q c s (omega arith) h l) (joined (dirty xs q c) (kept_at n i c) (kept_in n m (suc i) c) (due n chosen xs q c)))

-- LAST_IO_TO_MAP: a chunk that is kept is marked where that is due, and no bit is cleared
pub last_ios-chunk : (n : Node) (chosen : ℕ) (ys xs : List ℕ) (q c : ℕ) → Valid n → Sound n.chunks xs → q < 16 → c < 4096 → dirty (map_after (OnMap.LastIos chosen) n ys xs) q c ≡ max (dirty xs q c) (min (kept_in n 16 0 c) (due n chosen xs q c))
unfolding map_after last_ios
last_ios-chunk n chosen ys xs q c v s h l = places-chunk n chosen v 16 0 xs q c s (omega arith) h l

-- it never marks the chosen
pub chosen-not-marked : (n : Node) (chosen : ℕ) (ys xs : List ℕ) (c : ℕ) → Valid n → Sound n.chunks xs → chosen < 16 → c < 4096 → dirty (map_after (OnMap.LastIos chosen) n ys xs) chosen c ≡ dirty xs chosen c
chosen-not-marked n chosen ys xs c v s h l = last_ios-chunk n chosen ys xs chosen c v s h l ∙ rw (has-without-same n.members chosen) (omega arith)
