-- A row set for every chunk, seen from what a loop has, from a map's length, from a byte and from a chunk. Assumes nothing.
use mathlib.Core.Path.{◌≡◌, refl, sym, ◌∙◌}
use mathlib.Core.Logic.{◌≢◌}
use mathlib.Core.Bool.{Bool, true, false}
use mathlib.Core.List.{List}
use Prim.Native.Nat.{ℕ, zero, suc, ◌+◌, ◌-◌, ◌*◌, ◌/◌, ◌%◌, ◌^◌, ◌≤◌, ◌<◌, min, max}
use native.Mathlib.Numerals.{add-one}
use native.Mathlib.Decide.{ℕ_discrete, dec_lt}
use native.Mathlib.Omega.{arith}
use borrow.Author.Tests.{lt-ltb, le-ltb, ltb-true}
use lib.Bits.{bit_or}
use lib.Dec.{ltb}
use lib.ListN.{length, get_or, set, replicate}
use lib.Seq.{get_or-set_other}
use Rattle.laws_words.specs.Words.{pick, one}
use Rattle.laws_words.specs.Tests.{and_left, and_right}
use Rattle.rules_base.specs.Chunk.{there, byte_of, dirty, chunk_marked}
use Rattle.rules_base.proofs.Chunk.{there-no-chunk, length_marked, dirty-lt}
use Rattle.rules_base.proofs.Chunks.{same, same-yes, same-no, same-lt, hit, hit-yes, hit-no, dirty-marked}
use Rattle.rules_base.proofs.Sound.{Sound, sound-marked}
use Rattle.rules_base.specs.Fill.{row_filled}

-- ---- one chunk more: d is what the loop has, d' what it then has
pub filled_none : (m : ℕ) (xs : List ℕ) → xs ≡ row_filled m 0 xs
unfolding row_filled
filled_none m xs = refl

pub filled_more : (m n : ℕ) (xs d d' : List ℕ) → d ≡ row_filled m n xs → d' ≡ chunk_marked d m n → d' ≡ row_filled m (n + 1) xs
unfolding row_filled
filled_more m n xs d d' e e' = rw (add-one n) (rw (← e) e')

pub filled-done : (m n e : ℕ) (xs d : List ℕ) → d ≡ row_filled m n xs → n ≡ e → d ≡ row_filled m e xs
filled-done m n e xs d h q = rw (← q) h

-- ---- the length stays, and a sound map stays sound
pub length-filled : (m n : ℕ) (xs : List ℕ) → length (row_filled m n xs) ≡ length xs
unfolding row_filled
length-filled m zero xs = refl
length-filled m (suc n) xs = length_marked (row_filled m n xs) m n ∙ length-filled m n xs

pub sound-filled : (n m k : ℕ) (xs : List ℕ) → Sound n xs → k ≤ n → Sound n (row_filled m k xs)
unfolding row_filled
sound-filled n m zero xs s h = s
sound-filled n m (suc k) xs s h = sound-marked n (row_filled m k xs) m k (sound-filled n m k xs s (omega arith)) h

-- ---- every byte outside the row stays, in a map of any length
marked-byte : (xs : List ℕ) (m c i : ℕ) → i / 512 ≢ m → get_or (chunk_marked xs m c) i 0 ≡ get_or xs i 0
unfolding chunk_marked byte_of
marked-byte xs m c i d = go (there m c) refl (bit_or (get_or xs (byte_of m c) 0) (2 ^ (c % 8)))
  where
    apart : c < 4096 → i ≢ byte_of m c
    apart l q = d (omega arith)

    go : (t : Bool) → there m c ≡ t → (v : ℕ) → get_or (pick t (set xs (byte_of m c) v) xs) i 0 ≡ get_or xs i 0
    go true e v = get_or-set_other xs (byte_of m c) i v 0 (apart (ltb-true c 4096 (and_right (ltb m 16) (ltb c 4096) e)))
    go false e v = refl

pub filled-byte : (m n : ℕ) (xs : List ℕ) (i : ℕ) → i / 512 ≢ m → get_or (row_filled m n xs) i 0 ≡ get_or xs i 0
unfolding row_filled
filled-byte m zero xs i d = refl
filled-byte m (suc n) xs i d = marked-byte (row_filled m n xs) m n i d ∙ filled-byte m n xs i d

-- ---- a chunk: 1 where c is below n
pub below : ℕ → ℕ → ℕ
below c n = one (ltb c n)

pub below-yes : (c n : ℕ) → c < n → below c n ≡ 1
unfolding below
below-yes c n h = rw (lt-ltb c n h)

pub below-no : (c n : ℕ) → n ≤ c → below c n ≡ 0
unfolding below
below-no c n h = rw (le-ltb c n h)

below_more : (c n : ℕ) → below c (suc n) ≡ max (below c n) (same n c)
below_more c n = elim (dec_lt c n) [
  | yes l ↦ rw (below-yes c n l, below-yes c (suc n) (omega arith)) (omega (arith, same-lt n c))
  | no g ↦ elim (ℕ_discrete n c) [
    | yes e ↦ rw (below-no c n (omega arith), below-yes c (suc n) (omega arith), same-yes n c e)
    | no d ↦ rw (below-no c n (omega arith), below-no c (suc n) (omega arith), same-no n c d)
  ]
]

hit_same : (m c k d : ℕ) → hit m c k d ≡ min (same m k) (same c d)
hit_same m c k d = elim (ℕ_discrete m k) [
  | no g ↦ rw (hit-no m c k d (λ p _. g p), same-no m k g) (omega arith)
  | yes p ↦ elim (ℕ_discrete c d) [
    | yes q ↦ rw (hit-yes m c k d p q, same-yes m k p, same-yes c d q)
    | no g ↦ rw (hit-no m c k d (λ _ q. g q), same-no c d g) (omega arith)
  ]
]

min-max : (s b q : ℕ) → min s (max b q) ≡ max (min s b) (min s q)
min-max s b q = omega arith

max-max : (x y z : ℕ) → max (max x y) z ≡ max x (max y z)
max-max x y z = omega arith

-- Of the row's member every chunk below n is dirty; every other chunk is as it was.
pub dirty-filled : (xs : List ℕ) (m n k c : ℕ) → length xs ≡ 8192 → m < 16 → k < 16 → c < 4096 → dirty (row_filled m n xs) k c ≡ max (dirty xs k c) (min (same m k) (below c n))
unfolding row_filled chunk_marked
dirty-filled xs m zero k c len hm hk hc = rw (below-no c 0 (omega arith)) (omega arith)
dirty-filled xs m (suc n) k c len hm hk hc = elim (dec_lt n 4096) [
  | yes l ↦ dirty-marked (row_filled m n xs) m n k c (length-filled m n xs ∙ len) hm l hk hc ∙ rw (dirty-filled xs m n k c len hm hk hc, hit_same m n k c, below_more c n, min-max (same m k) (below c n) (same n c)) (max-max _ _ _)
  | no g ↦ rw (there-no-chunk m n (omega arith), below-yes c (suc n) (omega arith), ← below-yes c n (omega arith)) (dirty-filled xs m n k c len hm hk hc)
]

pub filled-own : (xs : List ℕ) (m n c : ℕ) → length xs ≡ 8192 → m < 16 → c < n → c < 4096 → dirty (row_filled m n xs) m c ≡ 1
filled-own xs m n c len hm h hc = dirty-filled xs m n m c len hm hm hc ∙ rw (same-yes m m refl, below-yes c n h) (omega (arith, dirty-lt xs m c))

pub filled-other : (xs : List ℕ) (m n k c : ℕ) → length xs ≡ 8192 → m < 16 → k < 16 → c < 4096 → m ≢ k → dirty (row_filled m n xs) k c ≡ dirty xs k c
filled-other xs m n k c len hm hk hc d = dirty-filled xs m n k c len hm hk hc ∙ rw (same-no m k d) (omega arith)

pub filled-past : (xs : List ℕ) (m n k c : ℕ) → length xs ≡ 8192 → m < 16 → k < 16 → c < 4096 → n ≤ c → dirty (row_filled m n xs) k c ≡ dirty xs k c
filled-past xs m n k c len hm hk hc g = dirty-filled xs m n k c len hm hk hc ∙ rw (below-no c n g) (omega arith)

-- ---- nine chunks for member 3, computed: byte 0 of its row full, of byte 1 the lowest bit
pub nine-chunks : (get_or (row_filled 3 9 (replicate 8192 0)) 1536 0 ≡ 255) × (get_or (row_filled 3 9 (replicate 8192 0)) 1537 0 ≡ 1)
unfolding row_filled chunk_marked byte_of
nine-chunks = (refl, refl)
