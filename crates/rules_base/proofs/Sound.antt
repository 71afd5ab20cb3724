-- Soundness of maps, each law for any chunk count n: what it says of bytes and chunks, what keeps it, and that sound maps with the same chunks are the same.
-- Assumes nothing.
use mathlib.Core.Path.{◌≡◌, refl, sym, ◌∙◌}
use mathlib.Core.Bool.{Bool, true, false}
use mathlib.Core.List.{List}
use Prim.Native.Nat.{ℕ, ◌+◌, ◌-◌, ◌*◌, ◌/◌, ◌%◌, ◌^◌, ◌≤◌, ◌<◌, min, max, suc-le-suc}
use native.Mathlib.Nat.{div-eq_of_lt, div-lt_iff_lt-mul, lt_of_lt_of_le, le_trans}
use native.Mathlib.Decide.{ℕ_discrete, dec_lt}
use native.Mathlib.Omega.{arith}
use borrow.Author.Tests.{ltb-true}
use lib.Bits.{bit_and, bit_or, or_shr, and_shr}
use lib.Dec.{ltb, lit<}
use lib.ListN.{length, get_or, set, length-set, get_or-eq_default}
use lib.Pow.{pow-lt, pow_mono, pow_pos, shr-shr, shr_le}
use lib.Seq.{ext_get_or, get_or-set_same, get_or-set_other, set_out}
use Rattle.laws_words.specs.Words.{pick, bit}
use Rattle.laws_words.specs.Tests.{and_right}
use Rattle.laws_words.specs.Bits.{bits-same, bit-none}
use Rattle.rules_base.specs.Sets.{has}
use Rattle.rules_base.specs.Chunk.{there, byte_of, dirty, chunk_marked, cleared, marked_for}
use Rattle.rules_base.specs.Map.{within, replaced, zero_from, zero_row, zeroed, or_from, or_in, copied, rows_kept, room, spare, sound}
use Rattle.rules_base.proofs.Over.{length_over, get_d_over}
use Rattle.rules_base.proofs.Chunk.{each_keeps, dirty-there}
use Rattle.rules_base.proofs.Maps.{sound-yes, sound-length, sound-clean, spare-none}
use Rattle.rules_base.proofs.Chunks.{hit, dirty-marked}

-- a map of 8,192 bytes, none of which holds anything past the chunk count
pub record Sound (n : ℕ) (xs : List ℕ) : Type 0 where
  pub len : length xs ≡ 8192
  pub clean : (k : ℕ) → spare n k (get_or xs k 0) ≡ 0

-- ---- the test of specs/ and the fact
pub sound-fact : (n : ℕ) (xs : List ℕ) → sound n xs ≡ true → Sound n xs
sound-fact n xs e = record { len = sound-length n xs e; clean = sound-clean n xs e }

pub sound-test : (n : ℕ) (xs : List ℕ) → Sound n xs → sound n xs ≡ true
sound-test n xs s = sound-yes n xs s.len (λ k l. s.clean k)

-- ---- what a byte holds past the chunk count, after each operation on it
pub spare-or : (n k x y : ℕ) → spare n k x ≡ 0 → spare n k y ≡ 0 → spare n k (bit_or x y) ≡ 0
unfolding spare
spare-or n k x y p q = rw (or_shr x y (room n (k % 512)), p, q)

spare-and : (n k x y : ℕ) → spare n k x ≡ 0 → spare n k (bit_and x y) ≡ 0
unfolding spare
spare-and n k x y p = rw (and_shr x y (room n (k % 512)), p)

spare-pow : (n k j : ℕ) → j < room n (k % 512) → spare n k (2 ^ j) ≡ 0
unfolding spare
spare-pow n k j h = div-eq_of_lt (pow-lt h)

in-room : (n m c : ℕ) → c < n → c < 4096 → c % 8 < room n (byte_of m c % 512)
unfolding room byte_of
in-room n m c h l = omega arith

-- ---- what keeps soundness
sound-set : (n : ℕ) (xs : List ℕ) (i v : ℕ) → Sound n xs → spare n i v ≡ 0 → Sound n (set xs i v)
sound-set n xs i v s h = record {
  len = length-set xs i v ∙ s.len;
  clean = λ k. elim (ℕ_discrete k i) [
    | yes e ↦ elim (dec_lt i (length xs)) [
      | yes l ↦ rw (e, get_or-set_same xs i v 0 l) h
      | no g ↦ rw (set_out xs i v (omega arith)) (s.clean k)
    ]
    | no d ↦ rw (get_or-set_other xs i k v 0 d) (s.clean k)
  ];
}

pub sound-marked : (n : ℕ) (xs : List ℕ) (m c : ℕ) → Sound n xs → c < n → Sound n (chunk_marked xs m c)
unfolding chunk_marked
sound-marked n xs m c s h = go (there m c) refl
  where
    go : (t : Bool) → there m c ≡ t → Sound n (pick t (set xs (byte_of m c) (bit_or (get_or xs (byte_of m c) 0) (2 ^ (c % 8)))) xs)
    go true e = sound-set n xs (byte_of m c) _ s (spare-or n (byte_of m c) _ _ (s.clean (byte_of m c)) (spare-pow n (byte_of m c) (c % 8) (in-room n m c h (ltb-true c 4096 (and_right (ltb m 16) (ltb c 4096) e)))))
    go false e = s

pub sound-cleared : (n : ℕ) (xs : List ℕ) (m c : ℕ) → Sound n xs → Sound n (cleared xs m c)
unfolding cleared
sound-cleared n xs m c s = go (there m c)
  where
    go : (t : Bool) → Sound n (pick t (set xs (byte_of m c) (bit_and (get_or xs (byte_of m c) 0) (255 - 2 ^ (c % 8)))) xs)
    go true = sound-set n xs (byte_of m c) _ s (spare-and n (byte_of m c) _ _ (s.clean (byte_of m c)))
    go false = s

sound-over : (n a e : ℕ) (f : ℕ → ℕ → ℕ) (xs : List ℕ) → ((k x : ℕ) → spare n k x ≡ 0 → spare n k (f k x) ≡ 0) → Sound n xs → Sound n (replaced a e f xs)
sound-over n a e f xs h s = record {
  len = length_over a e f xs ∙ s.len;
  clean = λ k. elim (dec_lt k (length xs)) [
    | yes l ↦ rw (get_d_over a e f xs k l) (picks k (within a e k))
    | no g ↦ rw (get_or-eq_default (replaced a e f xs) 0 {n = k} (rw length_over (omega arith))) (spare-none n k)
  ];
}
  where
    picks : (k : ℕ) (t : Bool) → spare n k (pick t (f k (get_or xs k 0)) (get_or xs k 0)) ≡ 0
    picks k true = h k (get_or xs k 0) (s.clean k)
    picks k false = s.clean k

pub sound-or : (n : ℕ) (xs ys : List ℕ) → Sound n xs → Sound n ys → Sound n (or_in xs ys)
unfolding or_in or_from
sound-or n xs ys s r = sound-over n 0 (min (length xs) (length ys)) (λ k x. bit_or x (get_or ys k 0)) xs (λ k x p. spare-or n k x (get_or ys k 0) p (r.clean k)) s

pub sound-copied : (n : ℕ) (xs ys : List ℕ) → Sound n xs → Sound n ys → Sound n (copied xs ys)
unfolding copied
sound-copied n xs ys s r = sound-over n 0 (min (length xs) (length ys)) (λ k x. get_or ys k 0) xs (λ k x p. r.clean k) s

sound-zero_from : (n a e : ℕ) (xs : List ℕ) → Sound n xs → Sound n (zero_from a e xs)
unfolding zero_from
sound-zero_from n a e xs s = sound-over n a e (λ k x. 0) xs (λ k x p. spare-none n k) s

pub sound-zero_row : (n m : ℕ) (xs : List ℕ) → Sound n xs → Sound n (zero_row m xs)
unfolding zero_row
sound-zero_row n m xs s = go (ltb m 16)
  where
    go : (t : Bool) → Sound n (pick t (zero_from (512 * m) (512 * m + 512) xs) xs)
    go true = sound-zero_from n (512 * m) (512 * m + 512) xs s
    go false = s

pub sound-zeroed : (n : ℕ) (xs : List ℕ) → Sound n xs → Sound n (zeroed xs)
unfolding zeroed
sound-zeroed n xs s = sound-zero_from n 0 (length xs) xs s

pub sound-kept : (n s : ℕ) (xs : List ℕ) → Sound n xs → Sound n (rows_kept s xs)
unfolding rows_kept
sound-kept n s xs p = each_keeps (Sound n) _ zero_row 16 xs (λ k ys q. sound-zero_row n k ys q) p

pub sound-marked_for : (n s c : ℕ) (xs : List ℕ) → Sound n xs → c < n → Sound n (marked_for xs s c)
unfolding marked_for
sound-marked_for n s c xs p h = each_keeps (Sound n) (has s) (λ m ys. chunk_marked ys m c) 16 xs (λ k ys q. sound-marked n ys k c q h) p

-- ---- a sound map's bytes and chunks
pub spare-lt : (n k x : ℕ) → spare n k x ≡ 0 → x < 2 ^ room n (k % 512)
unfolding spare
spare-lt n k x e = let l : x / 2 ^ room n (k % 512) < 1 = omega arith in omega (arith, (div-lt_iff_lt-mul (pow_pos (room n (k % 512)))).0 l)

room-le : (n j : ℕ) → room n j ≤ 8
unfolding room
room-le n j = omega arith

pub sound-byte : (n : ℕ) (xs : List ℕ) → Sound n xs → (k : ℕ) → get_or xs k 0 < 2 ^ 8
sound-byte n xs s k = lt_of_lt_of_le (spare-lt n k (get_or xs k 0) (s.clean k)) (pow_mono (room-le n (k % 512)))

out-of-room : (n m c : ℕ) → n ≤ c → c < 4096 → room n (byte_of m c % 512) ≤ c % 8
unfolding room byte_of
out-of-room n m c h l = omega arith

-- no chunk past the count is dirty
pub bit_past : (x r k : ℕ) → x < 2 ^ r → r ≤ k → bit x k ≡ 0
unfolding bit
bit_past x r k h l = rw (div-eq_of_lt (lt_of_lt_of_le h (pow_mono l)))

pub sound-past : (n : ℕ) (xs : List ℕ) → Sound n xs → (m c : ℕ) → m < 16 → n ≤ c → c < 4096 → dirty xs m c ≡ 0
sound-past n xs s m c hm h l = dirty-there xs m c hm l ∙ bit_past _ (room n (byte_of m c % 512)) (c % 8) (spare-lt n (byte_of m c) _ (s.clean (byte_of m c))) (out-of-room n m c h l)

-- ---- two sound maps with the same chunks are the same
pub dirty-at : (xs : List ℕ) (i k : ℕ) → i < 8192 → k < 8 → dirty xs (i / 512) (8 * (i % 512) + k) ≡ bit (get_or xs i 0) k
unfolding byte_of
dirty-at xs i k l h =
    let p : 512 * (i / 512) + (8 * (i % 512) + k) / 8 ≡ i = omega arith in
    let q : (8 * (i % 512) + k) % 8 ≡ k = omega arith in
    dirty-there xs (i / 512) (8 * (i % 512) + k) (omega arith) (omega arith) ∙ (rw (p, q) refl)

pub same-chunks : (n : ℕ) (xs ys : List ℕ) → Sound n xs → Sound n ys → ((m c : ℕ) → m < 16 → c < n → c < 4096 → dirty xs m c ≡ dirty ys m c) → xs ≡ ys
same-chunks n xs ys s r h =
    ext_get_or 0 xs ys (s.len ∙ sym r.len) (λ i l. bits-same 8 (get_or xs i 0) (get_or ys i 0) (sound-byte n xs s i) (sound-byte n ys r i) (λ k b.
    let i-in : i < 8192 = omega (arith, s.len) in
    sym (dirty-at xs i k i-in b) ∙ (at (i / 512) (8 * (i % 512) + k) (omega arith) (omega arith) ∙ dirty-at ys i k i-in b)))
  where
    at : (m c : ℕ) → m < 16 → c < 4096 → dirty xs m c ≡ dirty ys m c
    at m c a b = elim (dec_lt c n) [ yes l ↦ h m c a l b | no g ↦ sound-past n xs s m c a (omega arith) b ∙ sym (sound-past n ys r m c a (omega arith) b) ]

-- ---- marks: twice is once, and the order does not matter
sees : {n : ℕ} {xs : List ℕ} → Sound n xs → (m c m' c' : ℕ) → m < 16 → c < 4096 → m' < 16 → c' < 4096 → dirty (chunk_marked xs m c) m' c' ≡ max (dirty xs m' c') (hit m c m' c')
sees {n} {xs} s m c m' c' a l a' l' = dirty-marked xs m c m' c' s.len a l a' l'

pub mark-twice : (n : ℕ) (xs : List ℕ) (m c : ℕ) → Sound n xs → m < 16 → c < n → c < 4096 → chunk_marked (chunk_marked xs m c) m c ≡ chunk_marked xs m c
mark-twice n xs m c s a h l =
    let s₁ : Sound n (chunk_marked xs m c) = sound-marked n xs m c s h in
    same-chunks n (chunk_marked (chunk_marked xs m c) m c) (chunk_marked xs m c) (sound-marked n (chunk_marked xs m c) m c s₁ h) s₁ (λ m' c' a' h' l'.
    omega (arith, sees s₁ m c m' c' a l a' l', sees s m c m' c' a l a' l'))

pub mark-swap : (n : ℕ) (xs : List ℕ) (m c m₁ c₁ : ℕ) → Sound n xs → m < 16 → m₁ < 16 → c < n → c < 4096 → c₁ < n → c₁ < 4096 → chunk_marked (chunk_marked xs m c) m₁ c₁ ≡ chunk_marked (chunk_marked xs m₁ c₁) m c
mark-swap n xs m c m₁ c₁ s a a₁ h l h₁ l₁ =
    let s₀ : Sound n (chunk_marked xs m c) = sound-marked n xs m c s h in
    let s₁ : Sound n (chunk_marked xs m₁ c₁) = sound-marked n xs m₁ c₁ s h₁ in
    same-chunks n (chunk_marked (chunk_marked xs m c) m₁ c₁) (chunk_marked (chunk_marked xs m₁ c₁) m c) (sound-marked n (chunk_marked xs m c) m₁ c₁ s₀ h₁) (sound-marked n (chunk_marked xs m₁ c₁) m c s₁ h) (λ m' c' a' h' l'.
    omega (arith, sees s₀ m₁ c₁ m' c' a₁ l₁ a' l', sees s m c m' c' a l a' l', sees s₁ m c m' c' a l a' l', sees s m₁ c₁ m' c' a₁ l₁ a' l'))

-- ---- soundness is what the document says: 8192 bytes, and no chunk past the count dirty
bit-shift : (x r j : ℕ) → bit (x / 2 ^ r) j ≡ bit x (r + j)
unfolding bit
bit-shift x r j = rw (shr-shr x r j)

short-room : (n k j : ℕ) → room n (k % 512) + j < 8 → n ≤ 8 * (k % 512) + (room n (k % 512) + j)
unfolding room
short-room n k j h = omega arith

pub sound-of-chunks : (n : ℕ) (xs : List ℕ) → length xs ≡ 8192 → ((k : ℕ) → get_or xs k 0 < 2 ^ 8) → ((m c : ℕ) → m < 16 → n ≤ c → c < 4096 → dirty xs m c ≡ 0) → Sound n xs
sound-of-chunks n xs e byte none = record { len = e; clean = λ k. unfold spare in bits-same 8 (get_or xs k 0 / 2 ^ room n (k % 512)) 0 (le_trans (suc-le-suc (shr_le (get_or xs k 0) (room n (k % 512)))) (byte k)) (lit< tt) (λ j b. bit-shift (get_or xs k 0) (room n (k % 512)) j ∙ (past k (room n (k % 512) + j) (short-room n k j) ∙ sym (bit-none j))) }
  where
    past : (k i : ℕ) → (i < 8 → n ≤ 8 * (k % 512) + i) → bit (get_or xs k 0) i ≡ 0
    past k i h = elim (dec_lt i 8) [
      | no g ↦ bit_past (get_or xs k 0) 8 i (byte k) (omega arith)
      | yes l ↦ elim (dec_lt k 8192) [
        | yes b ↦ sym (dirty-at xs k i b l) ∙ none (k / 512) (8 * (k % 512) + i) (omega arith) (h l) (omega arith)
        | no g ↦ rw (get_or-eq_default xs 0 {n = k} (omega arith)) (bit-none i)
      ]
    ]
