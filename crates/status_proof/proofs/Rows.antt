-- A row painted with the flags of another row is that row. Assumes nothing.
use mathlib.Core.Path.{◌≡◌, refl, sym, ◌∙◌}
use mathlib.Core.Logic.{◌≢◌}
use mathlib.Core.Bool.{true}
use mathlib.Core.List.{List}
use Prim.Native.Nat.{ℕ, zero, suc, ◌+◌, ◌-◌, ◌*◌, ◌/◌, ◌%◌, ◌^◌, ◌≤◌, ◌<◌}
use native.Mathlib.Nat.{lt_of_le_of_lt}
use native.Mathlib.Decide.{ℕ_discrete, dec_lt}
use native.Mathlib.Omega.{arith}
use borrow.Author.Tests.{eq-eqb, ne_eqb, eqb-true, eqb-false}
use lib.Bits.{bit_and, bit_or, or_lt, and_le_l}
use lib.Dec.{eqb}
use lib.ListN.{length, get_or, set, length-set}
use lib.Pow.{pow-lt}
use lib.Seq.{ext_get_or, get_or-set_same, get_or-set_other, set_out}
use Rattle.laws_words.specs.Words.{bit}
use Rattle.laws_words.specs.Tests.{by_cases}
use Rattle.laws_words.specs.Bits.{bits-same, bit-or, bit-and, bit-lt}
use Rattle.rules_base.specs.Chunk.{byte_of, dirty, chunk_marked, cleared}
use Rattle.rules_base.proofs.Bytes.{bit-pow, bit_mask}
use Rattle.rules_base.proofs.Chunk.{there-yes, dirty-there, dirty-lt}
use Rattle.status_row.specs.Volume.{row_sound, flags_from}
use Rattle.status_row.proofs.DescriptorsLaws.{row-past}
use Rattle.status_row.specs.Reading.{stored, painted}
use Rattle.status_proof.specs.Laws.{Row}

row-set : (xs : List ℕ) (i v : ℕ) → Row xs → v < 2 ^ 8 → Row (set xs i v)
row-set xs i v r h = record {
  len = length-set xs i v ∙ r.len;
  byte = λ k. elim (ℕ_discrete k i) [
    | yes e ↦ elim (dec_lt i (length xs)) [
      | yes l ↦ rw (e, get_or-set_same xs i v 0 l) h
      | no g ↦ rw (set_out xs i v (omega arith)) (r.byte k)
    ]
    | no d ↦ rw (get_or-set_other xs i k v 0 d) (r.byte k)
  ];
}

placed : (xs : List ℕ) (c : ℕ) → Row xs → c < 4096 → byte_of 0 c < length xs
unfolding byte_of
placed xs c r l = omega (arith, r.len)

-- ---- one chunk stored
row-stored : (c f : ℕ) (xs : List ℕ) → c < 4096 → Row xs → Row (stored c f xs)
unfolding stored chunk_marked cleared
row-stored c f xs l r =
    let h : c % 8 < 8 = omega arith in
    let x = get_or xs (byte_of 0 c) 0 in
    by_cases (eqb f 1)
    (λ e. rw (e, there-yes 0 c (omega arith) l) (row-set xs (byte_of 0 c) (bit_or x (2 ^ (c % 8))) r (or_lt 8 x (2 ^ (c % 8)) (r.byte (byte_of 0 c)) (pow-lt h))))
    (λ e. rw (e, there-yes 0 c (omega arith) l) (row-set xs (byte_of 0 c) (bit_and x (255 - 2 ^ (c % 8))) r (lt_of_le_of_lt (and_le_l x (255 - 2 ^ (c % 8))) (r.byte (byte_of 0 c)))))

set_here : (xs : List ℕ) (c v c' : ℕ) → Row xs → c < 4096 → c' < 4096 → byte_of 0 c' ≡ byte_of 0 c → dirty (set xs (byte_of 0 c) v) 0 c' ≡ bit v (c' % 8)
set_here xs c v c' r l l' e = dirty-there (set xs (byte_of 0 c) v) 0 c' (omega arith) l' ∙ rw (e, get_or-set_same xs (byte_of 0 c) v 0 (placed xs c r l))

set_apart : (xs : List ℕ) (c v c' : ℕ) → c' < 4096 → byte_of 0 c' ≢ byte_of 0 c → dirty (set xs (byte_of 0 c) v) 0 c' ≡ dirty xs 0 c'
set_apart xs c v c' l' d = dirty-there (set xs (byte_of 0 c) v) 0 c' (omega arith) l' ∙ (rw (get_or-set_other xs (byte_of 0 c) (byte_of 0 c') v 0 d) (sym (dirty-there xs 0 c' (omega arith) l')))

stored_same : (c f : ℕ) (xs : List ℕ) → c < 4096 → f < 2 → Row xs → dirty (stored c f xs) 0 c ≡ f
unfolding stored chunk_marked cleared
stored_same c f xs l h r =
    let k = c % 8 in
    let x = get_or xs (byte_of 0 c) 0 in
    by_cases (eqb f 1)
    (λ e. rw (e, there-yes 0 c (omega arith) l) (set_here xs c (bit_or x (2 ^ k)) c r l l refl ∙ (rw (bit-or x (2 ^ k) k, bit-pow k k (omega arith) (omega arith), eq-eqb k k refl) (omega (arith, bit-lt x k, eqb-true f 1 e)))))
    (λ e. let d = eqb-false f 1 e in rw (e, there-yes 0 c (omega arith) l) (set_here xs c (bit_and x (255 - 2 ^ k)) c r l l refl ∙ (rw (bit-and x (255 - 2 ^ k) k, bit_mask k k (omega arith) (omega arith), eq-eqb k k refl) (omega arith))))

other-bit : (c c' : ℕ) → c' ≢ c → byte_of 0 c' ≡ byte_of 0 c → c % 8 ≡ c' % 8 → ⊥
unfolding byte_of
other-bit c c' d e q = d (omega arith)

stored_other : (c f : ℕ) (xs : List ℕ) (c' : ℕ) → c < 4096 → c' < 4096 → c' ≢ c → Row xs → dirty (stored c f xs) 0 c' ≡ dirty xs 0 c'
unfolding stored chunk_marked cleared
stored_other c f xs c' l l' d r =
    let k = c % 8 in
    let k' = c' % 8 in
    let x = get_or xs (byte_of 0 c) 0 in
    elim (ℕ_discrete (byte_of 0 c') (byte_of 0 c)) [
      | no q ↦ by_cases (eqb f 1)
          (λ e. rw (e, there-yes 0 c (omega arith) l) (set_apart xs c (bit_or x (2 ^ k)) c' l' q))
          (λ e. rw (e, there-yes 0 c (omega arith) l) (set_apart xs c (bit_and x (255 - 2 ^ k)) c' l' q))
      | yes q ↦
          let here : dirty xs 0 c' ≡ bit x k' = dirty-there xs 0 c' (omega arith) l' ∙ rw q in
          let z = ne_eqb k k' (other-bit c c' d q) in
          by_cases (eqb f 1)
          (λ e. rw (e, there-yes 0 c (omega arith) l) (set_here xs c (bit_or x (2 ^ k)) c' r l l' q ∙ (rw (bit-or x (2 ^ k) k', bit-pow k k' (omega arith) (omega arith), z, here) (omega (arith, bit-lt x k')))))
          (λ e. rw (e, there-yes 0 c (omega arith) l) (set_here xs c (bit_and x (255 - 2 ^ k)) c' r l l' q ∙ (rw (bit-and x (255 - 2 ^ k) k', bit_mask k k' (omega arith) (omega arith), z, here) (omega (arith, bit-lt x k')))))
    ]

-- ---- chunks a, .., a + m - 1 painted with the flags of another row
module _ (xs : List ℕ) where
  row-painted : (a m : ℕ) (ys : List ℕ) → a + m ≤ 4096 → Row ys → Row (painted a (flags_from xs a m) ys)
  unfolding painted flags_from
  row-painted a zero ys h r = r
  row-painted a (suc m) ys h r = row-painted (suc a) m (stored a (dirty xs 0 a) ys) (omega arith) (row-stored a (dirty xs 0 a) ys (omega arith) r)

  painted-out : (a m : ℕ) (ys : List ℕ) (c : ℕ) → a + m ≤ 4096 → Row ys → c < 4096 → (a ≤ c → a + m ≤ c) → dirty (painted a (flags_from xs a m) ys) 0 c ≡ dirty ys 0 c
  unfolding painted flags_from
  painted-out a zero ys c h r l o = refl
  painted-out a (suc m) ys c h r l o =
      let d : c ≢ a = λ e. let w : a + suc m ≤ c = o (omega arith) in let z : ⊥ = omega arith in z in
      painted-out (suc a) m (stored a (dirty xs 0 a) ys) c (omega arith) (row-stored a (dirty xs 0 a) ys (omega arith) r) l (λ q. let w : a + suc m ≤ c = o (omega arith) in omega arith)
      ∙ stored_other a (dirty xs 0 a) ys c (omega arith) l d r

  painted-in : (a m : ℕ) (ys : List ℕ) (c : ℕ) → a + m ≤ 4096 → Row ys → a ≤ c → c < a + m → dirty (painted a (flags_from xs a m) ys) 0 c ≡ dirty xs 0 c
  unfolding painted flags_from
  painted-in a zero ys c h r l u = absurd (let z : ⊥ = omega arith in z)
  painted-in a (suc m) ys c h r l u =
      let ys' = stored a (dirty xs 0 a) ys in
      let r' : Row ys' = row-stored a (dirty xs 0 a) ys (omega arith) r in
      elim (ℕ_discrete c a) [
        | yes e ↦ painted-out (suc a) m ys' c (omega arith) r' (omega arith) (λ q. absurd (let z : ⊥ = omega arith in z)) ∙ rw e (stored_same a (dirty xs 0 a) ys (omega arith) (dirty-lt xs 0 a) r)
        | no d ↦ painted-in (suc a) m ys' c (omega arith) r' (omega arith) (omega arith)
      ]

-- ---- two rows with the same chunks are the same
dirty-at : (xs : List ℕ) (i k : ℕ) → i < 512 → k < 8 → dirty xs 0 (8 * i + k) ≡ bit (get_or xs i 0) k
unfolding byte_of
dirty-at xs i k l h =
    let p : 512 * 0 + (8 * i + k) / 8 ≡ i = omega arith in
    let q : (8 * i + k) % 8 ≡ k = omega arith in
    dirty-there xs 0 (8 * i + k) (omega arith) (omega arith) ∙ rw (p, q)

same_bytes : (xs ys : List ℕ) → Row xs → Row ys → ((c : ℕ) → c < 4096 → dirty xs 0 c ≡ dirty ys 0 c) → xs ≡ ys
same_bytes xs ys r t h =
    ext_get_or 0 xs ys (r.len ∙ sym t.len) (λ i l. bits-same 8 (get_or xs i 0) (get_or ys i 0) (r.byte i) (t.byte i) (λ k b.
    let j : i < 512 = omega (arith, r.len) in
    sym (dirty-at xs i k j b) ∙ (h (8 * i + k) (omega arith) ∙ dirty-at ys i k j b)))

-- A sound row painted with the flags of another is that other.
pub painted-whole : (n : ℕ) (xs ys : List ℕ) → n ≤ 4096 → Row xs → Row ys → row_sound n xs ≡ true → row_sound n ys ≡ true → painted 0 (flags_from xs 0 n) ys ≡ xs
painted-whole n xs ys u r t p q =
    same_bytes (painted 0 (flags_from xs 0 n) ys) xs (row-painted xs 0 n ys (omega arith) t) r (λ c l. elim (dec_lt c n) [
      | yes h ↦ painted-in xs 0 n ys c (omega arith) t (omega arith) (omega arith)
      | no g ↦ painted-out xs 0 n ys c (omega arith) t l (λ w. omega arith) ∙ (row-past n ys q c (omega arith) l ∙ sym (row-past n xs p c (omega arith) l))
    ])
