-- The loop over a member's row: what is left to write at chunk c still makes the member's text. Assumes nothing.
use mathlib.Core.Path.{◌≡◌, refl, sym, ap, ◌∙◌}
use mathlib.Core.List.{List, [], ◌∷◌}
use Prim.Native.Nat.{ℕ, suc, ◌+◌, ◌-◌, ◌*◌, ◌/◌, ◌%◌, ◌≤◌, ◌<◌, min}
use native.Mathlib.Omega.{arith}
use lib.Dec.{eqb, ltb}
use borrow.Author.Tests.{eq-eqb, eqb-true, eqb-false, ltb-true, ltb-false}
use Rattle.laws_words.specs.Tests.{by_cases}
use Rattle.laws_words.specs.Words.{pick}
use Rattle.text_bytes.specs.Ink.{Ink, emits}
use Rattle.text_bytes.proofs.Laws.{emits-all, emits-end}
use Rattle.compare_walk.specs.Dumps.{dumps_refusal}
use Rattle.std.specs.Prelude.{Result, Ok, Err, Option, Some, None}
use Rattle.compare_walk.proofs.DumpsLaws.{good}
use Rattle.compare_walk.specs.declared.differences.Difference.{Difference}
use Rattle.rules_base.specs.declared.Refusal.{Refusal}
use Rattle.compare_walk.specs.Differences.{difference_at, first_place, place_of, next_difference, list_from}
use Rattle.compare_walk.proofs.Places.{place-from, hop-none, hop-found, is_found, is-over, next-taken, next-refused}
use Rattle.compare_say.specs.Said.{line_text, lines_text, member_text}

-- the place at which a search from member m's chunk c ends
abbrev stop : List ℕ → List ℕ → ℕ → ℕ → ℕ
stop xs ys m c = first_place xs ys (place_of m c) (65536 - place_of m c)

-- ---- what each answer says
record At (xs ys : List ℕ) (m c : ℕ) (d : Difference) : Type 0 where
  none : dumps_refusal xs ys m ≡ 0
  low : stop xs ys m c < 65536
  is : d ≡ difference_at xs ys (stop xs ys m c)

-- two different answers
not_found : {P : Type 0} {a : Result (Option Difference) Refusal} {n : Refusal} {d : Difference} → a ≡ Err n → a ≡ Ok (Some d) → P
not_found p q = let z : ◌≡◌ {A = ℕ} 0 1 = cc in absurd (omega arith)

not-over : {P : Type 0} {a : Result (Option Difference) Refusal} {n : Refusal} → a ≡ Err n → a ≡ Ok None → P
not-over p q = let z : ◌≡◌ {A = ℕ} 0 1 = cc in absurd (omega arith)

over-not-found : {P : Type 0} {a : Result (Option Difference) Refusal} {d : Difference} → a ≡ Ok None → a ≡ Ok (Some d) → P
over-not-found p q = let z : ◌≡◌ {A = ℕ} 0 1 = cc in absurd (omega arith)

at : (xs ys : List ℕ) (m c : ℕ) (d : Difference) → next_difference xs ys m c ≡ Ok (Some d) → At xs ys m c d
at xs ys m c d e =
    by_cases (eqb (dumps_refusal xs ys m) 0)
    (λ a. let n : dumps_refusal xs ys m ≡ 0 = eqb-true (dumps_refusal xs ys m) 0 a in
    let t = next-taken xs ys m c n in
    by_cases (ltb (stop xs ys m c) 65536)
    (λ b. let l = ltb-true (stop xs ys m c) 65536 b in record { none = n; low = l; is = cc (e, t, is_found xs ys (stop xs ys m c) l) })
    (λ b. over-not-found (t ∙ ap Ok (is-over xs ys (stop xs ys m c) (ltb-false (stop xs ys m c) 65536 b))) e))
    (λ a. not_found (next-refused xs ys m c _ (eqb-false (dumps_refusal xs ys m) 0 a) refl) e)

-- ---- the loop
-- what is left of member m's text at chunk c
abbrev left : List ℕ → List ℕ → ℕ → ℕ → List ℕ
left xs ys m c = pick (eqb (dumps_refusal xs ys m) 0) (lines_text (list_from xs ys (4096 * m + c) (4096 - c))) []

pub record Lined (xs ys : List ℕ) (m : ℕ) (r k : Ink) (c : ℕ) : Type 0 where
  pub at : c ≤ 4096
  pub rest : emits k (left xs ys m c) ≡ r

pub lined-start : (xs ys : List ℕ) (m : ℕ) (k : Ink) → Lined xs ys m (emits k (member_text xs ys m)) k 0
unfolding member_text
lined-start xs ys m k = let a : 4096 * m + 0 ≡ 4096 * m = omega arith in record { at = omega arith; rest = rw a refl }

-- nothing is left
ended : {xs ys : List ℕ} {m c : ℕ} {r k : Ink} → Lined xs ys m r k c → left xs ys m c ≡ [] → k ≡ r
ended {k = k} v e = sym (emits-end k) ∙ (rw e at v.rest)

pub lined-refused : {xs ys : List ℕ} {m c : ℕ} {n : Refusal} {r k : Ink} → Lined xs ys m r k c → next_difference xs ys m c ≡ Err n → k ≡ r
lined-refused {xs} {ys} {m} {c} v e =
    by_cases (eqb (dumps_refusal xs ys m) 0)
    (λ a. let t = next-taken xs ys m c (eqb-true (dumps_refusal xs ys m) 0 a) in
    by_cases (ltb (stop xs ys m c) 65536)
    (λ b. not_found e (t ∙ ap Ok (is_found xs ys (stop xs ys m c) (ltb-true (stop xs ys m c) 65536 b))))
    (λ b. not-over e (t ∙ ap Ok (is-over xs ys (stop xs ys m c) (ltb-false (stop xs ys m c) 65536 b)))))
    (λ a. ended v (rw a))

-- the search found nothing in this row
row-over : {xs ys : List ℕ} {m c : ℕ} {r k : Ink} → Lined xs ys m r k c → dumps_refusal xs ys m ≡ 0 → 4096 * m + 4096 ≤ stop xs ys m c → k ≡ r
unfolding lines_text
row-over {xs} {ys} {m} {c} v n h =
    let l = v.at in
    let g : m < 16 = (good xs ys m n).member in
    let q : min c 4096 ≡ c = omega arith in
    let h' : 4096 * m + 4096 ≤ first_place xs ys (4096 * m + c) (65536 - (4096 * m + c)) = rw q at h in
    ended v (rw (eq-eqb (dumps_refusal xs ys m) 0 n, hop-none xs ys (65536 - (4096 * m + c)) (4096 - c) (4096 * m + c) (omega arith) (omega arith)))

pub lined-over : {xs ys : List ℕ} {m c : ℕ} {r k : Ink} → Lined xs ys m r k c → next_difference xs ys m c ≡ Ok None → k ≡ r
lined-over {xs} {ys} {m} {c} v e =
    by_cases (eqb (dumps_refusal xs ys m) 0)
    (λ a. let n = eqb-true (dumps_refusal xs ys m) 0 a in
    let g : m < 16 = (good xs ys m n).member in
    let t = next-taken xs ys m c n in
    by_cases (ltb (stop xs ys m c) 65536)
    (λ b. over-not-found e (t ∙ ap Ok (is_found xs ys (stop xs ys m c) (ltb-true (stop xs ys m c) 65536 b))))
    (λ b. let h : 65536 ≤ stop xs ys m c = ltb-false (stop xs ys m c) 65536 b in row-over v n (omega arith)))
    (λ a. not-over (next-refused xs ys m c _ (eqb-false (dumps_refusal xs ys m) 0 a) refl) e)

pub lined-past : {xs ys : List ℕ} {m c : ℕ} {r k : Ink} {d : Difference} → Lined xs ys m r k c → next_difference xs ys m c ≡ Ok (Some d) → m < d.member → k ≡ r
lined-past {xs} {ys} {m} {c} {r} {k} {d} v e h =
    let w = at xs ys m c d e in
    let h' : m < stop xs ys m c / 4096 = rw w.is at h in
    row-over v w.none (omega arith)

-- one line more
pub record More (xs ys : List ℕ) (m : ℕ) (r k : Ink) (c : ℕ) (d : Difference) : Type 0 where
  pub from : c ≤ d.chunk
  pub low : d.chunk < 4096
  pub then : Lined xs ys m r k (d.chunk + 1)

pub lined-more : {xs ys : List ℕ} {m c : ℕ} {r k k' : Ink} {d : Difference} → Lined xs ys m r k c → next_difference xs ys m c ≡ Ok (Some d) → d.member ≤ m → k' ≡ emits k (line_text d) → More xs ys m r k' c d
unfolding lines_text
lined-more {xs} {ys} {m} {c} {r} {k} {k'} {d} v e h f =
    let w = at xs ys m c d e in
    let l = v.at in
    let g : m < 16 = (good xs ys m w.none).member in
    let i : min c 4096 ≡ c = omega arith in
    let p = 4096 * m + c in
    let q = first_place xs ys p (65536 - p) in
    let s : d ≡ difference_at xs ys q = rw i at w.is in
    let a : d.member ≡ q / 4096 = ap (λ (x : Difference). x.member) s in
    let b : d.chunk ≡ q % 4096 = ap (λ (x : Difference). x.chunk) s in
    let u : p ≤ q = place-from xs ys (65536 - p) p in
    let o : q < p + (4096 - c) = omega arith in
    let x : suc q ≡ 4096 * m + (d.chunk + 1) = omega arith in
    let y : p + (4096 - c) - suc q ≡ 4096 - (d.chunk + 1) = omega arith in
    let z : list_from xs ys p (4096 - c) ≡ d ∷ list_from xs ys (4096 * m + (d.chunk + 1)) (4096 - (d.chunk + 1)) = hop-found xs ys (65536 - p) (4096 - c) p (omega arith) o ∙ rw (y, x, ← s) refl in
    let n = eq-eqb (dumps_refusal xs ys m) 0 w.none in
    record {
      from = omega arith;
      low = omega arith;
      then = record {
        at = omega arith;
        rest = rw (f, n) (emits-all k (line_text d ∷ lines_text (list_from xs ys (4096 * m + (d.chunk + 1)) (4096 - (d.chunk + 1))) ∷ []) ∙ (rw (n, z) at v.rest));
      };
    }

pub lined-done : {xs ys : List ℕ} {m c : ℕ} {r k : Ink} → Lined xs ys m r k c → 4096 ≤ c → k ≡ r
unfolding lines_text list_from
lined-done {xs} {ys} {m} {c} v h =
    let z : 4096 - c ≡ 0 = omega arith in
    by_cases (eqb (dumps_refusal xs ys m) 0) (λ a. ended v (rw (a, z))) (λ a. ended v (rw a))
