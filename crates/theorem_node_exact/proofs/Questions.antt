-- The two questions.
use Rattle.std.specs.Prelude.{Option, Some, None}
use mathlib.Core.Path.{◌≡◌, refl, sym, ap, ◌∙◌}
use mathlib.Core.Bool.{Bool, true, false, ◌&&◌, ◌||◌}
use mathlib.Core.List.{List}
use Prim.Native.Nat.{ℕ, ◌≤◌, ◌<◌}
use native.Mathlib.Decide.{dec_lt}
use native.Mathlib.Omega.{arith}
use lib.Dec.{ltb}
use borrow.Author.Tests.{ltb-true, ltb-false, le-ltb}
use Rattle.laws_words.specs.Words.{pick}
use Rattle.laws_words.specs.Tests.{by_cases, clash, and_left, and_right, and_both}
use Rattle.rules_base.specs.Chunk.{dirty}
use Rattle.rules_base.specs.Empty.{row_empty}
use Rattle.rules_base.proofs.EmptyRows.{empty-clean, clean-empty}
use Rattle.rules_base.specs.Search.{first_dirty}
use Rattle.rules_base.proofs.Searching.{reads, as-reading-chunks}
use Rattle.rules_node.specs.declared.State.{State}
use Rattle.rules_node.specs.declared.Checked.{Checked}
use Rattle.rules_node.specs.declared.Next.{Next}
use Rattle.rules_node.specs.States.{is_normal}
use Rattle.rules_node.specs.Check.{check_refusal, map_check}
use Rattle.rules_node.specs.Next.{next_refusal, next_dirty}
use Rattle.rules_node.specs.Face.{checked, next_at}
use Rattle.rules_node.specs.Held.{Held}
use Rattle.laws_node.proofs.Passed.{or-false}
use Rattle.laws_node.proofs.Rows.{dirty-nowhere}
use Rattle.theorem_node_exact.specs.Words.{Iff, AnId, InOrder}
use Rattle.theorem_node_exact.specs.Questions.{OwnRowClean, CheckSaid, MapCheck, CleanFrom, NextSaid, NextDirtyChunk}
use Rattle.theorem_node_exact.proofs.Rules.{rules-hold, map-sound}
use Rattle.theorem_node_exact.proofs.Ties.{is-normal}
use Rattle.theorem_node_exact.proofs.Known.{not-lent}

-- ---- map check

-- what is answered, by two tests
check-is : (w : Held) → InOrder w
    → (checked w.at w.map w.staging).answer ≡ pick (ltb 15 w.at.node.id) (Checked.Refused 3) (Checked.Empty (is_normal w.at.node.state && row_empty w.map w.at.node.id))
unfolding map_check check_refusal
check-is w g = at (ltb 15 w.at.node.id) refl
  where
    at : (b : Bool) → ltb 15 w.at.node.id ≡ b → (checked w.at w.map w.staging).answer ≡ pick b (Checked.Refused 3) (Checked.Empty (is_normal w.at.node.state && row_empty w.map w.at.node.id))
    at true e = rw (rules-hold w.at.node g.rules, not-lent w g, e) refl
    at false e = rw (rules-hold w.at.node g.rules, not-lent w g, e) refl

-- a row is empty exactly where every chunk of it is clean
row-clean : (xs : List ℕ) (m : ℕ) → row_empty xs m ≡ true → (c : ℕ) → dirty xs m c ≡ 0
row-clean xs m e c = elim (dec_lt c 4096) [ yes l ↦ empty-clean xs m e c l | no g ↦ dirty-nowhere xs m c (past c (omega arith)) ]
  where
    past : (c : ℕ) → 4096 ≤ c → (ltb m 16 && ltb c 4096) ≡ false
    past c h = by_cases (ltb m 16) (λ t. rw t (le-ltb-not c h)) (λ t. rw t refl)
      where
        le-ltb-not : (c : ℕ) → 4096 ≤ c → ltb c 4096 ≡ false
        le-ltb-not c h = by_cases (ltb c 4096) (λ t. let l : c < 4096 = ltb-true c 4096 t in absurd (let z : ⊥ = omega arith in z)) (λ f. f)

own-clean : (w : Held) → Iff ((is_normal w.at.node.state && row_empty w.map w.at.node.id) ≡ true) ((w.at.node.state ≡ State.Normal) × OwnRowClean w)
own-clean w = (
  λ e. (is-normal w.at.node.state (and_left (is_normal w.at.node.state) _ e), row-clean w.map w.at.node.id (and_right (is_normal w.at.node.state) _ e)),
  λ (q, c). and_both (ap is_normal q) (clean-empty w.map w.at.node.id (λ k l. c k)),
)

empty_of : Checked → Bool
empty_of (Checked.Refused k) = false
empty_of (Checked.Empty b) = b

is-answer : Checked → Bool
is-answer (Checked.Refused k) = false
is-answer (Checked.Empty b) = true

pub map-check : MapCheck
unfolding empty_of is-answer
map-check w g = at (ltb 15 w.at.node.id) (is_normal w.at.node.state && row_empty w.map w.at.node.id) refl refl (check-is w g)
  where
    at : (b c : Bool) → ltb 15 w.at.node.id ≡ b → (is_normal w.at.node.state && row_empty w.map w.at.node.id) ≡ c
        → (checked w.at w.map w.staging).answer ≡ pick b (Checked.Refused 3) (Checked.Empty c)
        → CheckSaid w
    at true c e f v =
        let no : ¬ (AnId w.at.node.id) = λ i. clash e (le-ltb 15 w.at.node.id i) in
        record {
          empty = (λ q. clash (ap is-answer (sym v ∙ q)) refl, λ (i, _, _). absurd (no i));
          full = (λ q. clash (ap is-answer (sym v ∙ q)) refl, λ (i, _). absurd (no i));
          three = (λ q. no, λ d. v);
          stays = refl;
        }
    at false true e f v =
        let i : AnId w.at.node.id = ltb-false 15 w.at.node.id e in
        record {
          empty = (λ q. let o = (own-clean w).0 f in (i, o.0, o.1), λ (_, s, c). v);
          full = (λ q. clash refl (ap empty_of (sym v ∙ q)), λ (_, d). absurd (d ((own-clean w).0 f)));
          three = (λ q. clash refl (ap is-answer (sym v ∙ q)), λ d. absurd (d i));
          stays = refl;
        }
    at false false e f v =
        let i : AnId w.at.node.id = ltb-false 15 w.at.node.id e in
        record {
          empty = (λ q. clash (ap empty_of (sym v ∙ q)) refl, λ (_, s, c). clash ((own-clean w).1 (s, c)) f);
          full = (λ q. (i, λ o. clash ((own-clean w).1 o) f), λ (_, d). v);
          three = (λ q. clash refl (ap is-answer (sym v ∙ q)), λ d. absurd (d i));
          stays = refl;
        }

-- ---- the next dirty chunk

next-is : (member start : ℕ) (w : Held) → InOrder w → (b c : Bool) → (ltb 15 w.at.node.id || ltb 15 member) ≡ b → ltb start w.at.node.chunks ≡ c
    → (next_at w.at w.map w.staging member start).answer ≡ pick b (Next.Refused 3) (pick c (Next.Is (first_dirty w.map member start w.at.node.chunks)) (Next.Refused 4))
unfolding next_dirty next_refusal
next-is member start w g true c e f = rw (rules-hold w.at.node g.rules, not-lent w g, e) refl
next-is member start w g false false e f = rw (rules-hold w.at.node g.rules, not-lent w g, e, f) refl
next-is member start w g false true e f =
    rw (rules-hold w.at.node g.rules, not-lent w g, e, f)
    (ap Next.Is (as-reading-chunks w.at.summaries w.map g.summaries w.at.node.chunks (map-sound w.at.node.chunks w.map g.map) member start))

abbrev number : Next → ℕ
number (Next.Refused k) = k
number (Next.Is f) = 0

abbrev place : Next → ℕ
place (Next.Refused k) = 0
place (Next.Is None) = 0
place (Next.Is (Some c)) = c

abbrev is-there : Next → Bool
is-there (Next.Refused k) = false
is-there (Next.Is None) = false
is-there (Next.Is (Some c)) = true

pub next-dirty-chunk : NextDirtyChunk
next-dirty-chunk member start w g =
    at (ltb 15 w.at.node.id || ltb 15 member) (ltb start w.at.node.chunks) (first_dirty w.map member start w.at.node.chunks) refl refl refl
    (next-is member start w g _ _ refl refl)
  where
    -- two chunks that are both the first dirty one
    first : (c k : ℕ) → start ≤ c → dirty w.map member c ≡ 1 → CleanFrom member start c w → start ≤ k → dirty w.map member k ≡ 1 → CleanFrom member start k w → c ≡ k
    first c k a d f a' d' f' = elim (dec_lt c k) [
      | yes l ↦ absurd (let z = f' c a l in let y : ⊥ = omega (arith, z, d) in y)
      | no g ↦ elim (dec_lt k c) [
        | yes l ↦ absurd (let z = f k a' l in let y : ⊥ = omega (arith, z, d') in y)
        | no h ↦ omega arith
      ]
    ]

    ids : (ltb 15 w.at.node.id || ltb 15 member) ≡ false → AnId w.at.node.id × AnId member
    ids e = let r = or-false (ltb 15 w.at.node.id) (ltb 15 member) e in (ltb-false 15 w.at.node.id r.0, ltb-false 15 member r.1)

    no-ids : (ltb 15 w.at.node.id || ltb 15 member) ≡ true → ¬ (AnId w.at.node.id × AnId member)
    no-ids e (i, m) = clash e (rw (le-ltb 15 w.at.node.id i, le-ltb 15 member m) refl)

    late : ltb start w.at.node.chunks ≡ false → w.at.node.chunks ≤ start
    late e = ltb-false start w.at.node.chunks e

    at : (b c : Bool) (f : Option ℕ) → (ltb 15 w.at.node.id || ltb 15 member) ≡ b → ltb start w.at.node.chunks ≡ c → first_dirty w.map member start w.at.node.chunks ≡ f
        → (next_at w.at w.map w.staging member start).answer ≡ pick b (Next.Refused 3) (pick c (Next.Is (first_dirty w.map member start w.at.node.chunks)) (Next.Refused 4))
        → NextSaid member start w
    at true c f e _ _ v =
        record {
          three = (λ q. no-ids e, λ d. v);
          four = (λ q. absurd (let z : ◌≡◌ {A = ℕ} 3 4 = ap number (sym v ∙ q) in let y : ⊥ = omega (arith, z) in y), λ (i, m, _). absurd (no-ids e (i, m)));
          found = λ k. (λ q. clash (ap is-there (sym v ∙ q)) refl, λ (i, m, _, _, _, _). absurd (no-ids e (i, m)));
          nothing = (λ q. absurd (let z : ◌≡◌ {A = ℕ} 3 0 = ap number (sym v ∙ q) in let y : ⊥ = omega (arith, z) in y), λ (i, m, _, _). absurd (no-ids e (i, m)));
          stays = refl;
        }
    at false false f e l _ v =
        let (i, m) = ids e in
        record {
          three = (λ q. absurd (let z : ◌≡◌ {A = ℕ} 4 3 = ap number (sym v ∙ q) in let y : ⊥ = omega (arith, z) in y), λ d. absurd (d (i, m)));
          four = (λ q. (i, m, late l), λ _. v);
          found = λ k. (λ q. clash (ap is-there (sym v ∙ q)) refl, λ (_, _, a, b, _, _). absurd (let h : w.at.node.chunks ≤ start = late l in let y : ⊥ = omega arith in y));
          nothing = (λ q. absurd (let z : ◌≡◌ {A = ℕ} 4 0 = ap number (sym v ∙ q) in let y : ⊥ = omega (arith, z) in y), λ (_, _, a, _). absurd (let h : w.at.node.chunks ≤ start = late l in let y : ⊥ = omega arith in y));
          stays = refl;
        }
    at false true None e l r v =
        let (i, m) = ids e in
        let s : start < w.at.node.chunks = ltb-true start w.at.node.chunks l in
        let u : (next_at w.at w.map w.staging member start).answer ≡ Next.Is None = v ∙ ap Next.Is r in
        record {
          three = (λ q. absurd (let z : ◌≡◌ {A = ℕ} 0 3 = ap number (sym u ∙ q) in let y : ⊥ = omega (arith, z) in y), λ d. absurd (d (i, m)));
          four = (λ q. absurd (let z : ◌≡◌ {A = ℕ} 0 4 = ap number (sym u ∙ q) in let y : ⊥ = omega (arith, z) in y), λ (_, _, h). absurd (let y : ⊥ = omega arith in y));
          found = λ k. (λ q. clash (ap is-there (sym u ∙ q)) refl, λ (_, _, a, b, d, _). absurd (let z = reads.nothing w.map member start w.at.node.chunks r k a b in let y : ⊥ = omega (arith, z, d) in y));
          nothing = (λ q. (i, m, s, λ k a b. reads.nothing w.map member start w.at.node.chunks r k a b), λ _. u);
          stays = refl;
        }
    at false true (Some c) e l r v =
        let (i, m) = ids e in
        let s : start < w.at.node.chunks = ltb-true start w.at.node.chunks l in
        let u : (next_at w.at w.map w.staging member start).answer ≡ Next.Is (Some c) = v ∙ ap Next.Is r in
        let p = reads.at w.map member start w.at.node.chunks c r in
        record {
          three = (λ q. absurd (let z : ◌≡◌ {A = ℕ} 0 3 = ap number (sym u ∙ q) in let y : ⊥ = omega (arith, z) in y), λ d. absurd (d (i, m)));
          four = (λ q. absurd (let z : ◌≡◌ {A = ℕ} 0 4 = ap number (sym u ∙ q) in let y : ⊥ = omega (arith, z) in y), λ (_, _, h). absurd (let y : ⊥ = omega arith in y));
          found = λ k. (λ q. let z : c ≡ k = ap place (sym u ∙ q) in rw (← z) (i, m, p.0, p.1.0, p.1.1.0, p.1.1.1), λ (_, _, a, b, d, f). u ∙ ap (λ (j : ℕ). Next.Is (Some j)) (first c k p.0 p.1.1.0 p.1.1.1 a d f));
          nothing = (λ q. clash refl (ap is-there (sym u ∙ q)), λ (_, _, _, f). absurd (let z = f c p.0 p.1.0 in let y : ⊥ = omega (arith, z, p.1.1.0) in y));
          stays = refl;
        }
