-- The laws of specs/Laws.antt. Assumes nothing.
use mathlib.Core.Path.{◌≡◌, refl, sym, ap, ◌∙◌}
use mathlib.Core.Logic.{◌⊎◌, inl, inr}
use mathlib.Core.Bool.{false}
use mathlib.Core.List.{List, [], ◌∷◌, ◌++◌, append_assoc, append-nil}
use Prim.Native.Nat.{ℕ, zero, suc, ◌+◌, ◌*◌, ◌/◌, ◌%◌, ◌≤◌, ◌<◌}
use native.Mathlib.Omega.{arith}
use lib.Dec.{eqb, ltb, leb, leb→le}
use lib.ListN.{length, length-append}
use borrow.Author.Tests.{eq-eqb, eqb-true, eqb-false, ltb-true, ltb-false}
use Rattle.laws_words.specs.Bits.{upto-at}
use Rattle.laws_words.specs.Tests.{by_cases, and-false}
use Rattle.text_bytes.specs.Ink.{dec_from, decimal, joined}
use Rattle.text_bytes.proofs.Meaning.{joined_length, decimal-length}
use Rattle.rules_base.specs.Refusals.{number}
use Rattle.compare_walk.specs.Dumps.{dumps_refusal}
use Rattle.std.specs.Prelude.{Result, Ok, Err, Option, Some, None}
use Rattle.compare_walk.proofs.DumpsLaws.{short, taken, good}
use Rattle.compare_walk.specs.declared.differences.Difference.{Difference}
use Rattle.compare_walk.specs.declared.differences.Dump.{Dump}
use Rattle.rules_base.specs.declared.Refusal.{Refusal}
use Rattle.compare_walk.specs.Differences.{dump_number, difference_at, first_place, next_difference, list_from, differences}
use Rattle.compare_walk.proofs.Places.{list_on, list-here, at_place, hop-none, hop-found, is_found, is-over, next-taken, next-refused}
use Rattle.compare_say.specs.Said.{line_text, lines_text, member_text, head_of, head_text, both_whole, answer_text}
use Rattle.compare_say.specs.Laws.{member_texts, Printed, Fits}

-- ---- the list in parts, and its lines
list-split : (xs ys : List ℕ) (k n p : ℕ) → list_from xs ys p (k + n) ≡ list_from xs ys p k ++ list_from xs ys (p + k) n
unfolding list_from
list-split xs ys zero n p = let a : 0 + n ≡ n = omega arith in let b : p + 0 ≡ p = omega arith in rw (a, b)
list-split xs ys (suc k) n p =
    let a : suc k + n ≡ suc (k + n) = omega arith in
    let b : p + suc k ≡ suc p + k = omega arith in
    let r = list-split xs ys k n (suc p) in
    at_place xs ys p
    (λ e. rw (a, b, list_on xs ys p (k + n) e, list_on xs ys p k e) r)
    (λ e. rw (a, b, list-here xs ys p (k + n) e, list-here xs ys p k e) (ap (λ ds. difference_at xs ys p ∷ ds) r))

lines_cons : (d : Difference) (ds : List Difference) → lines_text (d ∷ ds) ≡ line_text d ++ lines_text ds
unfolding lines_text joined
lines_cons d ds = ap (λ s. line_text d ++ s) (append-nil (lines_text ds))

lines-append : (ds es : List Difference) → lines_text (ds ++ es) ≡ lines_text ds ++ lines_text es
unfolding lines_text
lines-append [] es = refl
lines-append (d ∷ ds) es = lines_cons d (ds ++ es) ∙ ap (λ s. line_text d ++ s) (lines-append ds es) ∙ sym (append_assoc (line_text d) (lines_text ds) (lines_text es)) ∙ ap (λ s. s ++ lines_text es) (sym (lines_cons d ds))

-- ---- all members
member-lines : (xs ys : List ℕ) (m : ℕ) → dumps_refusal xs ys m ≡ 0 → member_text xs ys m ≡ lines_text (list_from xs ys (4096 * m) 4096)
unfolding member_text
member-lines xs ys m e = rw (eq-eqb (dumps_refusal xs ys m) 0 e)

member-refused : (xs ys : List ℕ) (m : ℕ) → dumps_refusal xs ys m ≡ 2 → member_text xs ys m ≡ []
unfolding member_text
member-refused xs ys m e = rw e

lines_none : (xs ys : List ℕ) (p : ℕ) → lines_text (list_from xs ys p 0) ≡ []
unfolding lines_text list_from
lines_none xs ys p = refl

members-lines : (xs ys : List ℕ) (n m : ℕ) → length xs ≡ 8192 → length ys ≡ 8192 → m + n ≤ 16 → joined (member_texts xs ys m n) ≡ lines_text (list_from xs ys (4096 * m) (4096 * n))
unfolding joined
members-lines xs ys zero m h g l = sym (lines_none xs ys (4096 * m))
members-lines xs ys (suc n) m h g l =
    let a : 4096 * suc n ≡ 4096 + 4096 * n = omega arith in
    let b : 4096 * suc m ≡ 4096 * m + 4096 = omega arith in
    let r : joined (member_texts xs ys (suc m) n) ≡ lines_text (list_from xs ys (4096 * m + 4096) (4096 * n)) = rw b at (members-lines xs ys n (suc m) h g (omega arith)) in
    rw (a, list-split xs ys 4096 (4096 * n) (4096 * m), lines-append (list_from xs ys (4096 * m) 4096) (list_from xs ys (4096 * m + 4096) (4096 * n)), member-lines xs ys m (taken xs ys m h g (omega arith)), r) refl

members-refused : (xs ys : List ℕ) (n m : ℕ) → ((k : ℕ) → dumps_refusal xs ys k ≡ 2) → joined (member_texts xs ys m n) ≡ []
unfolding joined
members-refused xs ys zero m f = refl
members-refused xs ys (suc n) m f = rw (member-refused xs ys m (f m), members-refused xs ys n (suc m) f) refl

-- ---- the whole answer
refused-text : (xs ys : List ℕ) → both_whole xs ys ≡ false → ((length xs ≡ 8192 → ⊥) ⊎ (length ys ≡ 8192 → ⊥)) → joined (head_text xs ys ∷ member_texts xs ys 0 16) ≡ answer_text xs ys
unfolding joined head_text answer_text decimal dec_from
refused-text xs ys e h = rw (e, next-refused xs ys 0 0 2 (λ k. omega arith) (short xs ys 0 h), members-refused xs ys 16 0 (λ k. short xs ys k h)) refl

whole-text : (xs ys : List ℕ) → length xs ≡ 8192 → length ys ≡ 8192 → joined (head_text xs ys ∷ member_texts xs ys 0 16) ≡ answer_text xs ys
unfolding joined head_text answer_text differences lines_text
whole-text xs ys h g =
    let q = first_place xs ys 0 65536 in
    let t = next-taken xs ys 0 0 (taken xs ys 0 h g (omega arith)) in
    let a = eq-eqb (length xs) 8192 h in
    let b = eq-eqb (length ys) 8192 g in
    let r = members-lines xs ys 16 0 h g (omega arith) in
    by_cases (ltb q 65536)
    (λ e. let l : q < 65536 = ltb-true q 65536 e in rw (a, b, t, is_found xs ys q l, r, hop-found xs ys 65536 65536 0 (omega arith) l) refl)
    (λ e. let l : 65536 ≤ q = ltb-false q 65536 e in rw (a, b, t, is-over xs ys q l, r, hop-none xs ys 65536 65536 0 (omega arith) l) refl)

pub printed : Printed
printed xs ys =
    by_cases (eqb (length xs) 8192)
    (λ a. by_cases (eqb (length ys) 8192)
    (λ b. whole-text xs ys (eqb-true (length xs) 8192 a) (eqb-true (length ys) 8192 b))
    (λ b. refused-text xs ys (rw (b, and-false (eqb (length xs) 8192))) (inr (eqb-false (length ys) 8192 b))))
    (λ a. refused-text xs ys (rw a) (inl (eqb-false (length xs) 8192 a)))

-- ---- how long it can be
-- a number's digits, by a table of all numbers below 4,096
four : (n : ℕ) → n < 4096 → length (decimal n) ≤ 4
unfolding decimal dec_from
four n h = leb→le (length (decimal n)) 4 (upto-at 4096 (λ k. leb (length (decimal k)) 4) tt n h)

two : (n : ℕ) → n < 16 → length (decimal n) ≤ 2
unfolding decimal dec_from
two n h = leb→le (length (decimal n)) 2 (upto-at 16 (λ k. leb (length (decimal k)) 2) tt n h)

one : (n : ℕ) → n < 3 → length (decimal n) ≤ 1
unfolding decimal dec_from
one n h = leb→le (length (decimal n)) 1 (upto-at 3 (λ k. leb (length (decimal k)) 1) tt n h)

number-lt : (w : Dump) → dump_number w < 3
number-lt Dump.First = omega arith
number-lt Dump.Second = omega arith

line-length : (xs ys : List ℕ) (p : ℕ) → p < 65536 → length (line_text (difference_at xs ys p)) ≤ 10
line-length xs ys p h =
    rw (joined_length (decimal (p / 4096) ∷ (32 ∷ []) ∷ decimal (p % 4096) ∷ (32 ∷ []) ∷ decimal (dump_number (difference_at xs ys p).which) ∷ (10 ∷ []) ∷ []))
    (omega (arith, two (p / 4096) (omega arith), four (p % 4096) (omega arith), one (dump_number (difference_at xs ys p).which) (number-lt _)))

lines-length : (xs ys : List ℕ) (n p : ℕ) → p + n ≤ 65536 → length (lines_text (list_from xs ys p n)) ≤ 10 * n
unfolding list_from lines_text
lines-length xs ys zero p h = omega arith
lines-length xs ys (suc n) p h =
    let r = lines-length xs ys n (suc p) (omega arith) in
    at_place xs ys p
    (λ e. rw (list_on xs ys p n e) (omega arith))
    (λ e. rw (list-here xs ys p n e, lines_cons (difference_at xs ys p) (list_from xs ys (suc p) n), length-append (line_text (difference_at xs ys p)) (lines_text (list_from xs ys (suc p) n)))
    (omega (arith, line-length xs ys p (omega arith))))

head-length : (a : Result (Option Difference) Refusal) → length (head_of a) ≤ 40960
unfolding joined
head-length (Err r) = rw (joined_length (_ ∷ decimal (number r) ∷ (10 ∷ []) ∷ [])) (omega (arith, decimal-length (number r)))
head-length (Ok (Some d)) = omega arith
head-length (Ok None) = omega arith

pub fits : Fits
unfolding head_text member_text
fits =
    record {
      head = λ xs ys. head-length (next_difference xs ys 0 0);
      member = λ xs ys m. by_cases (eqb (dumps_refusal xs ys m) 0)
          (λ e. let g : m < 16 = (good xs ys m (eqb-true (dumps_refusal xs ys m) 0 e)).member in rw e (lines-length xs ys 4096 (4096 * m) (omega arith)))
          (λ e. rw e (omega arith));
    }
