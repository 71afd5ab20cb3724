use mathlib.Core.Path.{◌≡◌, sym, ◌∙◌}
use Prim.Native.Nat.{ℕ, ◌+◌, ◌*◌, ◌/◌}
use lib.Dec.{eqb}
use lib.ListN.{get_or}
use borrow.Author.Tests.{eqb-true, eqb-false}
use Rattle.laws_words.specs.Tests.{by_cases}
use native.Mathlib.Omega.{arith}
use Rattle.rules_base.proofs.Words.{at-groups}
use Rattle.rules_base.proofs.Meaning.{over-is, root-clear, root-set}
use Rattle.map_summary.proofs.summaries.word_at.Goals as goal

pub returns-then-k-lt4 : goal.returns-then-k-lt4
returns-then-k-lt4 c = let s = c.args in rw (at-groups s.map.now s.j c.if-k-lt4.true) c.groups.ensures

pub returns-then-k-eq4 : goal.returns-then-k-eq4
returns-then-k-eq4 c = let s = c in c.over.ensures ∙ over-is s.args.words.now s.args.map.now s.args.j s.requires.1 c.if-k-eq4.true

pub returns : goal.returns
returns c =
    let s = c.args in
    let x : ℕ = get_or s.words.now (6 * (s.j / 6) + 4) 0 in
    by_cases (eqb x 0)
    (λ e. let z : c.from.result ≡ 0 = rw e at c.from.ensures in z ∙ sym (root-clear s.words.now s.map.now s.j c.requires.1 (omega arith) (eqb-true x 0 e)))
    (λ e. let z : c.from.result ≡ 1 = rw e at c.from.ensures in z ∙ sym (root-set s.words.now s.map.now s.j c.requires.1 (omega arith) (eqb-false x 0 e)))
