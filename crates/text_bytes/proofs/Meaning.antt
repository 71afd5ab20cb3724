-- What the definitions of text mean: with room enough nothing is cut, and a number that was written is read back.
use Prim.Native.Nat.{ℕ, zero, suc, ◌+◌, ◌-◌, ◌*◌, ◌/◌, ◌%◌, ◌^◌, ◌≤◌, ◌<◌}
use mathlib.Core.Path.{◌≡◌, refl, sym, ap, ◌∙◌}
use mathlib.Core.List.{List, [], ◌∷◌, ◌++◌, append_assoc, append-nil}
use native.Mathlib.Omega.{arith}
use native.Mathlib.Numerals.{add-one}
use native.Mathlib.Nat.{pow-suc}
use borrow.Author.Tests.{lt-ltb, le-leb, ltb-true}
use lib.ListN.{length, take, set, length-set, length-append}
use lib.Seq.{take-suc-set}
use lib.Dec.{ltb}
use Rattle.std.specs.Prelude.{Some}
use Rattle.laws_words.specs.Tests.{by_cases}
use Rattle.text_bytes.specs.Bytes.{bytes}
use Rattle.text_bytes.specs.Numbers.{digit_of, num_from, num_of, most}
use Rattle.text_bytes.specs.Ink.{Ink, ink, emit, emits, dec_from, decimal, joined}
use Rattle.text_bytes.proofs.Laws.{num-more, num-end, num-of, emits-more, emits-end}

-- The bytes of a text are its ASCII codes.
pub bytes-pool : bytes "pool" ≡ 112 ∷ 111 ∷ 111 ∷ 108 ∷ []
bytes-pool = refl

-- With room enough, what is written is what was written before and then the text, and the place is behind it.
pub record Written (k : Ink) (s : List ℕ) : Type 0 where
  pub all : take (emits k s).at (emits k s).buf ≡ take k.at k.buf ++ s
  pub place : (emits k s).at ≡ k.at + length s

emit-room : (k : Ink) (b : ℕ) → k.at < length k.buf → emit k b ≡ ink (set k.buf k.at b) (k.at + 1)
unfolding emit
emit-room k b h = rw (lt-ltb k.at (length k.buf) h) refl

pub nothing-cut : (k : Ink) (s : List ℕ) → k.at + length s ≤ length k.buf → Written k s
nothing-cut k [] h = record { all = rw (emits-end k) (sym (append-nil (take k.at k.buf))); place = rw (emits-end k) (omega arith) }
nothing-cut k (b ∷ s) h =
    let r : k.at < length k.buf = omega arith in
    let k' = ink (set k.buf k.at b) (k.at + 1) in
    let e : emits k (b ∷ s) ≡ emits k' s = emits-more k k' b (sym (emit-room k b r)) s in
    let q : k'.at + length s ≤ length k'.buf = rw (length-set k.buf k.at b) (omega arith) in
    let w = nothing-cut k' s q in
    let t : take (k.at + 1) (set k.buf k.at b) ≡ take k.at k.buf ++ (b ∷ []) = rw add-one (take-suc-set k.buf k.at b r) in
    record {
      all = rw e (w.all ∙ ap (λ x. x ++ s) t ∙ append_assoc (take k.at k.buf) (b ∷ []) s);
      place = rw e (w.place ∙ omega arith);
    }

digit-is : (acc d : ℕ) → d < 10 → acc * 10 + d ≤ most → digit_of acc (48 + d) ≡ Some (acc * 10 + d)
unfolding digit_of
digit-is acc d h k =
    let e : 48 + d - 48 ≡ d = omega arith in
    let q : 48 ≤ 48 + d = omega arith in
    let r : 48 + d ≤ 57 = omega arith in
    rw (le-leb 48 (48 + d) q, le-leb (48 + d) 57 r, e, le-leb (acc * 10 + d) most k) refl

read_back : (f n : ℕ) (rest : List ℕ) → n < 10 ^ f → n ≤ most → num_from 0 (dec_from f n rest) ≡ num_from n rest
unfolding dec_from
read_back zero n rest h k = let e : n ≡ 0 = omega arith in rw e refl
read_back (suc f) n rest h k =
    by_cases (ltb n 10)
    (λ e. let q : n < 10 = ltb-true n 10 e in
    let z : 0 * 10 + n ≡ n = omega arith in
    let g : digit_of 0 (48 + n) ≡ Some n = rw z at (digit-is 0 n q (omega arith)) in
    rw e (num-more 0 (48 + n) n g rest))
    (λ e. let o : n < 10 ^ f * 10 = rw pow-suc at h in
    let x : n / 10 < 10 ^ f = omega arith in
    let m : n % 10 < 10 = omega arith in
    let z : n / 10 * 10 + n % 10 ≡ n = omega arith in
    let g : digit_of (n / 10) (48 + n % 10) ≡ Some n = rw z at (digit-is (n / 10) (n % 10) m (omega arith)) in
    rw e (read_back f (n / 10) ((48 + n % 10) ∷ rest) x (omega arith) ∙ num-more (n / 10) (48 + n % 10) n g rest))

dec_some : (f n b : ℕ) (rest : List ℕ) → 0 < length (dec_from f n (b ∷ rest))
unfolding dec_from
dec_some zero n b rest = omega arith
dec_some (suc f) n b rest =
    by_cases (ltb n 10)
    (λ e. rw e (omega arith))
    (λ e. rw e (dec_some f (n / 10) (48 + n % 10) (b ∷ rest)))

decimal-some : (n : ℕ) → 0 < length (decimal n)
unfolding decimal dec_from
decimal-some n =
    by_cases (ltb n 10)
    (λ e. rw e (omega arith))
    (λ e. rw e (dec_some 19 (n / 10) (48 + n % 10) []))

-- A number of 64 bits that was written in decimal is read back as itself.
pub decimal-read : (n : ℕ) → n ≤ most → num_of (decimal n) ≡ Some n
unfolding decimal
decimal-read n h =
    sym (num-of (decimal n) (decimal-some n)) ∙ read_back 20 n [] (omega arith) h ∙ num-end n

-- how long several texts are together
abbrev pub lengths : List (List ℕ) → ℕ
lengths [] = 0
lengths (s ∷ ss) = length s + lengths ss

pub joined_length : (ss : List (List ℕ)) → length (joined ss) ≡ lengths ss
unfolding joined
joined_length [] = refl
joined_length (s ∷ ss) = length-append s (joined ss) ∙ ap (λ n. length s + n) (joined_length ss)

dec-length : (f n : ℕ) (rest : List ℕ) → length (dec_from f n rest) ≤ f + length rest
unfolding dec_from
dec-length zero n rest = omega arith
dec-length (suc f) n rest =
    by_cases (ltb n 10)
    (λ e. rw e (omega arith))
    (λ e. rw e (omega (arith, dec-length f (n / 10) ((48 + n % 10) ∷ rest))))

-- A number in decimal has at most 20 digits.
pub decimal-length : (n : ℕ) → length (decimal n) ≤ 20
unfolding decimal
decimal-length n = dec-length 20 n []
