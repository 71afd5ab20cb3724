-- Laws of a member's chunk: when it has a bit, what counting comes to, what doing something for each member of a set comes to. Assumes nothing.
use mathlib.Core.Path.{◌≡◌, refl, ◌∙◌}
use mathlib.Core.Bool.{Bool, true, false}
use mathlib.Core.List.{List}
use Prim.Native.Nat.{ℕ, zero, suc, ◌+◌, ◌-◌, ◌%◌, ◌≤◌, ◌<◌}
use native.Mathlib.Numerals.{add-one}
use native.Mathlib.Omega.{arith}
use borrow.Author.Tests.{lt-ltb, le-ltb}
use lib.ListN.{length, get_or, set, length-set}
use Rattle.laws_words.specs.Words.{pick, bit}
use Rattle.laws_words.specs.Tests.{and-false, either}
use Rattle.laws_words.specs.Bits.{bit-lt}
use Rattle.rules_base.specs.Chunk.{there, byte_of, dirty, each, count_to, chunk_marked}

-- ---- a fold over a set, one member more: d is what the loop has, d' what it then has
pub each_in : (t : ℕ → Bool) (f : ℕ → List ℕ → List ℕ) (n : ℕ) (xs d d' : List ℕ) → t n ≡ true → d ≡ each t f n xs → d' ≡ f n d → d' ≡ each t f (n + 1) xs
unfolding each
each_in t f n xs d d' q e e' = rw (add-one n, q) (rw (← e) e')

pub each-out : (t : ℕ → Bool) (f : ℕ → List ℕ → List ℕ) (n : ℕ) (xs d : List ℕ) → t n ≡ false → d ≡ each t f n xs → d ≡ each t f (n + 1) xs
unfolding each
each-out t f n xs d q e = rw (add-one n, q) e

-- what each step keeps the fold keeps
pub each_keeps : (P : List ℕ → Type 0) (t : ℕ → Bool) (f : ℕ → List ℕ → List ℕ) (n : ℕ) (xs : List ℕ) → ((k : ℕ) (ys : List ℕ) → P ys → P (f k ys)) → P xs → P (each t f n xs)
unfolding each
each_keeps P t f zero xs h p = p
each_keeps P t f (suc n) xs h p = either P (t n) _ _ (h n (each t f n xs) (each_keeps P t f n xs h p)) (each_keeps P t f n xs h p)

-- ---- where a bit is
pub there-yes : (m c : ℕ) → m < 16 → c < 4096 → there m c ≡ true
there-yes m c h l = simp (lt-ltb m 16 h, lt-ltb c 4096 l)

pub there-no-member : (m c : ℕ) → 16 ≤ m → there m c ≡ false
there-no-member m c h = simp (le-ltb m 16 h)

pub there-no-chunk : (m c : ℕ) → 4096 ≤ c → there m c ≡ false
there-no-chunk m c h = simp (le-ltb c 4096 h, and-false)

pub dirty-there : (xs : List ℕ) (m c : ℕ) → m < 16 → c < 4096 → dirty xs m c ≡ bit (get_or xs (byte_of m c) 0) (c % 8)
unfolding dirty
dirty-there xs m c h l = rw (there-yes m c h l)

pub dirty-lt : (xs : List ℕ) (m c : ℕ) → dirty xs m c < 2
unfolding dirty
dirty-lt xs m c = go (there m c)
  where
    go : (t : Bool) → pick t (bit (get_or xs (byte_of m c) 0) (c % 8)) 0 < 2
    go true = bit-lt (get_or xs (byte_of m c) 0) (c % 8)
    go false = omega arith

-- ---- counts
pub count_none : (xs : List ℕ) (m : ℕ) → count_to xs m 0 ≡ 0
unfolding count_to
count_none xs m = refl

pub count-le : (xs : List ℕ) (m n : ℕ) → count_to xs m n ≤ n
unfolding count_to
count-le xs m zero = omega arith
count-le xs m (suc n) = omega (arith, count-le xs m n, dirty-lt xs m n)

-- ---- the fold's start, its end, and the length
pub each_none : (t : ℕ → Bool) (f : ℕ → List ℕ → List ℕ) (xs : List ℕ) → xs ≡ each t f 0 xs
unfolding each
each_none t f xs = refl

pub each-done : (t : ℕ → Bool) (f : ℕ → List ℕ → List ℕ) (n e : ℕ) (xs d : List ℕ) → d ≡ each t f n xs → n ≡ e → d ≡ each t f e xs
each-done t f n e xs d h q = rw (← q) h

pub each-length : (t : ℕ → Bool) (f : ℕ → List ℕ → List ℕ) (n : ℕ) (xs d : List ℕ) → ((k : ℕ) (ys : List ℕ) → length (f k ys) ≡ length ys) → d ≡ each t f n xs → length d ≡ length xs
each-length t f n xs d h e = rw e (each_keeps (λ (ys : List ℕ). length ys ≡ length xs) t f n xs (λ k ys p. h k ys ∙ p) refl)

-- ---- no operation changes a map's length
length-picked : (t : Bool) (xs : List ℕ) (i v : ℕ) → length (pick t (set xs i v) xs) ≡ length xs
length-picked true xs i v = length-set xs i v
length-picked false xs i v = refl

pub length_marked : (xs : List ℕ) (m c : ℕ) → length (chunk_marked xs m c) ≡ length xs
unfolding chunk_marked
length_marked xs m c = length-picked (there m c) xs (byte_of m c) _
