-- The loop over a line.
use Prim.Native.Nat.{ℕ, suc, ◌+◌, ◌-◌, ◌≤◌, ◌<◌}
use mathlib.Core.Path.{◌≡◌, refl, ◌∙◌}
use mathlib.Core.List.{List, [], ◌∷◌, ◌++◌}
use native.Mathlib.Omega.{arith}
use borrow.Author.Tests.{eq-eqb, ne_eqb}
use lib.ListN.{length, get_or, take, drop, length-drop}
use lib.Seq.{take-suc, get_or-drop}
use Rattle.text_bytes.proofs.Laws.{Rest, rest-start, rest_more, rest-done}
use Rattle.text_words.specs.Lines.{line_from, line_of, pushed, tok_of, empty}
use Rattle.text_words.specs.declared.lines.Line.{Line}
use Rattle.text_words.specs.declared.lines.Token.{Token}

-- the bytes of s from a up to e
abbrev pub part : List ℕ → ℕ → ℕ → List ℕ
part s a e = take (e - a) (drop a s)

pub part_none : (s : List ℕ) (i : ℕ) → part s i i ≡ []
part_none s i = let e : i - i ≡ 0 = omega arith in rw e refl

pub part-more : (s : List ℕ) (a i : ℕ) → a ≤ i → i < length s → part s a (i + 1) ≡ part s a i ++ (get_or s i 0 ∷ [])
part-more s a i h k =
    let e : i + 1 - a ≡ suc (i - a) = omega arith in
    let q : i - a < length (drop a s) = rw length-drop (omega arith) in
    let r : a + (i - a) ≡ i = omega arith in
    rw (e, take-suc (drop a s) (i - a) 0 q, get_or-drop a s (i - a) 0, r) refl

-- the loop over a line: l has the words before a, and the word from a up to i is begun
pub record Begun : Type 0 where
  pub line : Line
  pub word : List ℕ

unfoldable pub line_goes : Begun → List ℕ → Line
line_goes k bs = line_from k.line k.word bs

pub record Cuts (s : List ℕ) (l : Line) (a i : ℕ) : Type 0 where
  pub low : a ≤ i
  pub goes : Rest line_goes s (line_of s) (record { line = l; word = part s a i }) i

pub cuts-start : (s : List ℕ) (l : Line) → l ≡ empty → Cuts s l 0 0
unfolding line_of line_goes
cuts-start s l e = record { low = omega arith; goes = rest-start (rw e refl) }

pub cuts-more : {s : List ℕ} {l : Line} {a i : ℕ} → Cuts s l a i → i < length s → (get_or s i 0 ≡ 32 → ⊥) → Cuts s l a (i + 1)
unfolding line_from line_goes
cuts-more {s} {l} {a} {i} v h n =
    record { low = omega (arith, v.low); goes = rest_more 0 v.goes h (λ ys. rw (ne_eqb _ _ n, part-more s a i v.low h) refl) }

pub cuts-cut : {s : List ℕ} {l l' : Line} {a i : ℕ} (t : Token) → Cuts s l a i → i < length s → get_or s i 0 ≡ 32 → t ≡ tok_of (part s a i) → l' ≡ pushed l t → Cuts s l' (i + 1) (i + 1)
unfolding line_from line_goes
cuts-cut {s} {l} {l'} {a} {i} t v h n e f =
    record { low = omega arith; goes = rest_more 0 v.goes h (λ ys. rw (eq-eqb _ _ n, part_none s (i + 1), f, e) refl) }

pub cuts-done : {s : List ℕ} {l l' : Line} {a i : ℕ} (t : Token) → Cuts s l a i → length s ≤ i → t ≡ tok_of (part s a (length s)) → l' ≡ pushed l t → l' ≡ line_of s
unfolding line_from line_goes
cuts-done {s} {l} {l'} {a} {i} t v h e f =
    let q : length s ≡ i = omega (arith, v.goes.at) in f ∙ rw (e, q) (rest-done v.goes h)
