-- What was written reads back: the bytes give the descriptors, the descriptors pass the test, and their flags are the row's. Assumes nothing.
use mathlib.Core.Path.{◌≡◌, refl, sym, ap, ◌∙◌}
use mathlib.Core.Bool.{true}
use mathlib.Core.List.{List, [], ◌∷◌, ◌++◌, append_assoc}
use Prim.Native.Nat.{ℕ, zero, suc, ◌+◌, ◌-◌, ◌*◌, ◌/◌, ◌%◌, ◌≤◌, ◌<◌}
use native.Mathlib.Nat.{add-zero, add_assoc, suc-mul, one-mul, sub-zero, mul-div_cancel, mul-mod_left, mul-pos, div-div-eq-div-mul}
use native.Mathlib.Omega.{arith}
use borrow.Author.Tests.{eq-eqb, ne_eqb, eqb-true, lt-ltb, ltb-true}
use lib.Dec.{eqb}
use lib.ListN.{length, replicate, length-append}
use lib.Seq.{get_or-append-add}
use Rattle.laws_words.specs.Tests.{by_cases, and_left, and_right}
use Rattle.rules_base.specs.Chunk.{dirty}
use Rattle.rules_base.proofs.Chunk.{dirty-lt}
use Rattle.status_row.specs.Volume.{flags_from, row_sound, volume_good}
use Rattle.status_row.specs.Descriptors.{Desc, desc, word, bytes_of, word_at, descs_from, descs_of}
use Rattle.status_row.proofs.DescriptorsLaws.{flags-more, volume}
use Rattle.status_row.specs.Writing.{joins, runs_from, runs, status_of}
use Rattle.status_row.specs.Reading.{desc_good, status_good, flags_of, read_refusal, read_leaves}
use Rattle.status_row.proofs.ReaderLaws.{good_from, good-same}
use Rattle.status_proof.specs.Laws.{Row}
use Rattle.status_proof.proofs.Rows.{painted-whole}

-- ---- 32 bits
-- its four bytes put together
linear : (v a b c p q r t : ℕ) → v ≡ a * 256 + p → a ≡ b * 256 + q → b ≡ c * 256 + r → t ≡ c → t * 16777216 + r * 65536 + q * 256 + p ≡ v
linear v a b c p q r t e f g h = omega arith

top : (b : ℕ) → b < 65536 → b / 256 % 256 ≡ b / 256
top b h = omega arith

digits : (v : ℕ) → v < 4294967296 → v / 16777216 % 256 * 16777216 + v / 65536 % 256 * 65536 + v / 256 % 256 * 256 + v % 256 ≡ v
digits v h =
    let p : v / 65536 ≡ v / 256 / 256 = sym (div-div-eq-div-mul v 256 256) in
    let q : v / 16777216 ≡ v / 256 / 256 / 256 = sym (div-div-eq-div-mul v 65536 256) ∙ ap (λ (n : ℕ). n / 256) p in
    let l : v / 256 / 256 < 65536 = rw (← p) (omega arith) in
    rw (q, p) (linear v (v / 256) (v / 256 / 256) (v / 256 / 256 / 256) (v % 256) (v / 256 % 256) (v / 256 / 256 % 256) (v / 256 / 256 / 256 % 256) (omega arith) (omega arith) (omega arith) (top (v / 256 / 256) l))

word_first : (v : ℕ) (ys : List ℕ) → v < 4294967296 → word_at (word v ++ ys) 0 ≡ v
unfolding word word_at
word_first v ys h = digits v h

word-second : (u v : ℕ) (ys : List ℕ) → v < 4294967296 → word_at (word u ++ (word v ++ ys)) 4 ≡ v
unfolding word word_at
word-second u v ys h = digits v h

word-append : (pre ys : List ℕ) (i : ℕ) → word_at (pre ++ ys) (length pre + i) ≡ word_at ys i
unfolding word_at
word-append pre ys i =
    rw (add_assoc (length pre) i 1, add_assoc (length pre) i 2, add_assoc (length pre) i 3, get_or-append-add pre ys i 0, get_or-append-add pre ys (i + 1) 0, get_or-append-add pre ys (i + 2) 0, get_or-append-add pre ys (i + 3) 0)

-- ---- descriptors whose numbers have 32 bits
data Small : List Desc → Type 0 where
  none : Small []
  one : {d : Desc} {ds : List Desc} → d.bytes < 4294967296 → d.flags < 4294967296 → Small ds → Small (d ∷ ds)

pub length-bytes : (ds : List Desc) → length (bytes_of ds) ≡ 8 * length ds
unfolding bytes_of word
length-bytes [] = refl
length-bytes (d ∷ ds) = omega (arith, length-bytes ds)

descs-back : (pre : List ℕ) (ds : List Desc) (i : ℕ) → length pre ≡ 8 * i → Small ds → descs_from (pre ++ bytes_of ds) i (length ds) ≡ ds
unfolding descs_from bytes_of
descs-back pre [] i h s = refl
descs-back pre (d ∷ ds) i h (one a b s) =
    let u = word d.bytes in
    let v = word d.flags in
    let ys = u ++ (v ++ bytes_of ds) in
    let first : word_at (pre ++ ys) (8 * i) ≡ d.bytes = rw (← h, ← add-zero (length pre)) (word-append pre ys 0 ∙ word_first d.bytes (v ++ bytes_of ds) a) in
    let second : word_at (pre ++ ys) (8 * i + 4) ≡ d.flags = rw (← h) (word-append pre ys 4 ∙ word-second d.bytes d.flags (bytes_of ds) b) in
    let shift : pre ++ ys ≡ (pre ++ (u ++ v)) ++ bytes_of ds = rw (append_assoc pre (u ++ v) (bytes_of ds), append_assoc u v (bytes_of ds)) in
    let size : length (pre ++ (u ++ v)) ≡ 8 * suc i = unfold word in rw (length-append pre) (omega arith) in
    rw (first, second) (ap (λ (r : List Desc). d ∷ r) (ap (λ (xs : List ℕ). descs_from xs (suc i) (length ds)) shift ∙ descs-back (pre ++ (u ++ v)) ds (suc i) size s))

descs-of-bytes : (ds : List Desc) → Small ds → descs_of (bytes_of ds) ≡ ds
unfolding descs_of
descs-of-bytes ds s =
    let q : length (bytes_of ds) / 8 ≡ length ds = omega (arith, length-bytes ds) in
    rw q (descs-back [] ds 0 refl s)

-- ---- the descriptors that are written
module _ (s : ℕ) (xs : List ℕ) (pos : 0 < s) (low : s ≤ 1048576) where
  runs-small : (f b c m : ℕ) → f < 2 → b < 4294967296 → Small (runs_from s f b (flags_from xs c m))
  unfolding runs_from flags_from
  runs-small f b c zero h l = one {d = desc b f} l (omega arith) none
  runs-small f b c (suc m) h l =
      by_cases (joins f (dirty xs 0 c) (b + s))
      (λ e. rw e (runs-small f (b + s) (suc c) m h (ltb-true (b + s) 4294967296 (and_right (eqb f (dirty xs 0 c)) _ e))))
      (λ e. rw e (one {d = desc b f} l (omega arith) (runs-small (dirty xs 0 c) s (suc c) m (dirty-lt xs 0 c) (omega arith))))

  more : (k f : ℕ) (gs : List ℕ) → replicate (suc k) f ++ gs ≡ replicate k f ++ (f ∷ gs)
  more zero f gs = refl
  more (suc k) f gs = ap (λ (r : List ℕ). f ∷ r) (more k f gs)

  -- the flags under the runs are the flags of the row
  flags-back : (f k c m : ℕ) → flags_of s (runs_from s f (k * s) (flags_from xs c m)) ≡ replicate k f ++ flags_from xs c m
  unfolding runs_from flags_from flags_of
  flags-back f k c zero = rw (mul-div_cancel k pos)
  flags-back f k c (suc m) =
      by_cases (joins f (dirty xs 0 c) (k * s + s))
      (λ e. rw (e, ← suc-mul k s) (flags-back f (suc k) (suc c) m ∙ (more k f (flags_from xs (suc c) m) ∙ rw (← eqb-true f (dirty xs 0 c) (and_left (eqb f (dirty xs 0 c)) _ e)))))
      (λ e. rw (e, mul-div_cancel k pos) (ap (λ (r : List ℕ). replicate k f ++ r) (rw one-mul at (flags-back (dirty xs 0 c) 1 (suc c) m))))

  desc-yes : (k f : ℕ) → 0 < k → f < 2 → desc_good s (k * s) f ≡ true
  unfolding desc_good
  desc-yes k f h l = let p : 0 < k * s = mul-pos h pos in rw (ne_eqb (k * s) 0 (λ e. let z : ⊥ = omega arith in z), eq-eqb (k * s % s) 0 (mul-mod_left k s), lt-ltb f 2 l)

  good-back : (n t f k c m : ℕ) → 0 < k → f < 2 → t + k + m ≡ n → good_from s n t (runs_from s f (k * s) (flags_from xs c m)) ≡ true
  unfolding runs_from flags_from good_from
  good-back n t f k c zero h l e = rw (desc-yes k f h l, mul-div_cancel k pos) (eq-eqb (t + k) n (omega arith))
  good-back n t f k c (suc m) h l e =
      by_cases (joins f (dirty xs 0 c) (k * s + s))
      (λ q. rw (q, ← suc-mul k s) (good-back n t f (suc k) (suc c) m (omega arith) l (omega arith)))
      (λ q. rw (q, desc-yes k f h l, mul-div_cancel k pos) (rw one-mul at (good-back n (t + k) (dirty xs 0 c) 1 (suc c) m (omega arith) (dirty-lt xs 0 c) (omega arith))))

-- ---- the row's descriptors as one list
flags-start : (n : ℕ) (xs : List ℕ) → 0 < n → flags_from xs 0 n ≡ dirty xs 0 0 ∷ flags_from xs 1 (n - 1)
flags-start n xs h = rw (sub-zero n) at (flags-more xs 0 n h)

pub runs-start : (n s : ℕ) (xs : List ℕ) → 0 < n → runs s (flags_from xs 0 n) ≡ runs_from s (dirty xs 0 0) (1 * s) (flags_from xs 1 (n - 1))
unfolding runs
runs-start n s xs h = rw (flags-start n xs h, one-mul)

-- the descriptors that are written, as the bytes say them
pub descs-written : (n s : ℕ) (xs : List ℕ) → volume_good n s ≡ true → descs_of (status_of n s xs) ≡ runs_from s (dirty xs 0 0) (1 * s) (flags_from xs 1 (n - 1))
unfolding status_of
descs-written n s xs g =
    let v = volume n s g in
    rw (runs-start n s xs v.from) (descs-of-bytes _ (runs-small s xs (omega (arith, v.least)) v.most (dirty xs 0 0) (1 * s) 1 (n - 1) (dirty-lt xs 0 0) (omega (arith, v.most))))

pub status-whole : (n s : ℕ) (xs : List ℕ) → length (status_of n s xs) % 8 ≡ 0
unfolding status_of
status-whole n s xs = omega (arith, length-bytes (runs s (flags_from xs 0 n)))

-- they pass the reader's test
status-good : (n s : ℕ) (xs : List ℕ) → volume_good n s ≡ true → status_good n s (status_of n s xs) ≡ true
status-good n s xs g =
    let v = volume n s g in
    good-same n s (status_of n s xs) (omega (arith, v.least))
    ∙ rw (eq-eqb (length (status_of n s xs) % 8) 0 (status-whole n s xs), descs-written n s xs g) (good-back s xs (omega (arith, v.least)) v.most n 0 (dirty xs 0 0) 1 1 (n - 1) (omega arith) (dirty-lt xs 0 0) (omega (arith, v.from)))

-- their flags are the row's
status-flags : (n s : ℕ) (xs : List ℕ) → volume_good n s ≡ true → flags_of s (descs_of (status_of n s xs)) ≡ flags_from xs 0 n
status-flags n s xs g =
    let v = volume n s g in
    rw (descs-written n s xs g, flags-start n xs v.from) (flags-back s xs (omega (arith, v.least)) v.most (dirty xs 0 0) 1 1 (n - 1))

-- the row's descriptors are taken, and leave the row, whatever sound row of the same count was lent
pub back : (n s : ℕ) (xs ys : List ℕ) → Row xs → Row ys → row_sound n xs ≡ true → row_sound n ys ≡ true → volume_good n s ≡ true → (read_refusal n s (status_of n s xs) ys ≡ 0) × (read_leaves n s (status_of n s xs) ys ≡ xs)
unfolding read_leaves read_refusal
back n s xs ys a b p q g =
    let t = status-good n s xs g in
    (rw (q, g, t), rw (q, g, t) (rw (status-flags n s xs g) (painted-whole n xs ys (volume n s g).upto a b p q)))
