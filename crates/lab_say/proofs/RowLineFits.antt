-- How long a row's line can be: a buffer with this much room cuts nothing of it.
use Prim.Native.Nat.{ℕ, zero, suc, ◌+◌, ◌-◌, ◌*◌, ◌/◌, ◌%◌, ◌^◌, ◌≤◌, ◌<◌}
use mathlib.Core.Path.{◌≡◌, refl, ◌∙◌}
use mathlib.Core.Bool.{Bool}
use mathlib.Core.List.{List, [], ◌∷◌}
use native.Mathlib.Omega.{arith}
use native.Mathlib.Nat.{pow-suc}
use borrow.Author.Tests.{lt-ltb}
use lib.ListN.{length}
use lib.Dec.{ltb, eqb}
use Rattle.laws_words.specs.Tests.{by_cases}
use Rattle.text_bytes.specs.Ink.{dec_from, decimal, joined}
use Rattle.text_bytes.proofs.Meaning.{joined_length}
use Rattle.std.specs.Prelude.{Option, Some, None, unwrap_or}
use Rattle.map_row_view.specs.Row.{row_count}
use Rattle.lab_say.specs.Row.{range_text, begun_text, ranges, is_dirty, count_text, row_text}

dec-length : (k f n : ℕ) (rest : List ℕ) → n < 10 ^ suc k → k < f → length (dec_from f n rest) ≤ suc k + length rest
unfolding dec_from
dec-length k zero n rest h g = absurd (omega arith)
dec-length zero (suc f) n rest h g = let q : n < 10 = h in rw (lt-ltb n 10 q) (omega arith)
dec-length (suc k) (suc f) n rest h g =
    by_cases (ltb n 10)
    (λ e. rw e (omega arith))
    (λ e. let o : n < 10 ^ suc k * 10 = rw (pow-suc 10 (suc k)) at h in
    let x : n / 10 < 10 ^ suc k = omega arith in
    let r = dec-length k f (n / 10) ((48 + n % 10) ∷ rest) x (omega arith) in
    rw e (omega (arith, r)))

four : (n : ℕ) → n < 4096 → length (decimal n) ≤ 4
unfolding decimal
four n h = let q : n < 10 ^ 4 = omega arith in dec-length 3 20 n [] q (omega arith)

joined-two : (s t : List ℕ) → length (joined (s ∷ t ∷ [])) ≡ length s + length t
joined-two s t = joined_length (s ∷ t ∷ []) ∙ omega arith

range_length : (a b : ℕ) → a < 4096 → b < 4096 → length (range_text a b) ≤ 10
unfolding range_text
range_length a b h g =
    let p = four a h in
    let q = four b g in
    by_cases (eqb a b)
    (λ e. rw e (omega (arith, p)))
    (λ e. rw (e, joined-two (32 ∷ decimal a) (45 ∷ decimal b)) (omega (arith, p, q)))

-- a range that was begun is at a chunk
abbrev Low : Option ℕ → Type 0
Low begun = (a : ℕ) → begun ≡ Some a → a < 4096

begun-length : (begun : Option ℕ) (c : ℕ) → Low begun → c < 4097 → length (begun_text begun c) ≤ 10
begun-length None c h g = omega arith
begun-length (Some a) c h g = range_length a (c - 1) (h a refl) (omega arith)

abbrev one_of : Option ℕ → ℕ
one_of None = 0
one_of (Some a) = 1

start-low : (begun : Option ℕ) (c : ℕ) → Low begun → c < 4096 → Low (Some (unwrap_or begun c))
start-low None c h g a e = let z : c ≡ a = cc in omega arith
start-low (Some b) c h g a e = h a e

none-low : Low None
none-low a e = absurd cc

-- Each range takes at least two chunks, its own and the clean one behind it.
ranges-length : (d : ℕ → Bool) (begun : Option ℕ) (n c : ℕ) → Low begun → c + n ≤ 4096 → length (ranges d begun n c) ≤ 5 * (n + 1 + one_of begun)
unfolding ranges
ranges-length d (Some a) zero c h g = omega (arith, begun-length (Some a) c h (omega arith))
ranges-length d None zero c h g = omega arith
ranges-length d (Some a) (suc n) c h g =
    by_cases (d c)
    (λ e. rw e (omega (arith, ranges-length d (Some a) n (suc c) h (omega arith))))
    (λ e. rw (e, joined-two (begun_text (Some a) c) (ranges d None n (suc c)))
    (omega (arith, begun-length (Some a) c h (omega arith), ranges-length d None n (suc c) none-low (omega arith))))
ranges-length d None (suc n) c h g =
    by_cases (d c)
    (λ e. rw e (omega (arith, ranges-length d (Some c) n (suc c) (start-low None c h (omega arith)) (omega arith))))
    (λ e. rw (e, joined-two (begun_text None c) (ranges d None n (suc c))) (omega (arith, ranges-length d None n (suc c) none-low (omega arith))))

-- A row's line is at most 20,490 bytes.
count-length : (r : Option ℕ) (xs : List ℕ) (m : ℕ) → length (count_text r xs m) ≤ 20490
count-length None xs m = omega arith
count-length (Some n) xs m =
    by_cases (eqb n 0)
    (λ e. rw e (omega arith))
    (λ e. rw (e, joined-two _ _) (omega (arith, ranges-length (is_dirty xs m) None 4096 0 none-low (omega arith))))

pub row-length : (xs : List ℕ) (m : ℕ) → length (row_text xs m) ≤ 20490
unfolding row_text
row-length xs m = count-length (row_count xs m) xs m
