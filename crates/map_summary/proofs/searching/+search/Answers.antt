use Rattle.std.proofs.Common.{rules, arith, sym, ◌∙◌}
use Rattle.rules_base.proofs.Among.{among-start, among-hit, among-miss, among-end, search-shut, search-leaf, search-down, opens-low, below-low}
use Rattle.map_summary.proofs.searching.+search.Goals as goal

pub returns-then-not-opens : goal.returns-then-not-opens
returns-then-not-opens t c = sym (search-shut _ _ _ _ _ _ (sym c.opens.ensures ∙ c.if-not-opens.true))

pub returns-then-level-eq0 : goal.returns-then-level-eq0
returns-then-level-eq0 t c = sym (search-leaf _ _ _ _ _ _ (sym c.opens.ensures ∙ c.if-not-opens.false) c.if-level-eq0.true)

pub loop-k-init : goal.loop-k-init
loop-k-init t c = (search rules, among-start _ _ 16 1 ∙ sym (search-down _ _ _ _ _ _ (sym c.opens.ensures ∙ c.if-not-opens.false) c.if-level-eq0.false))

pub overflow_mul-i : goal.overflow_mul-i
overflow_mul-i t c = omega (arith, opens-low _ _ _ _ _ _ (sym c.opens.ensures ∙ c.if-not-opens.false))

pub overflow_add-i : goal.overflow_add-i
overflow_add-i t c = omega (arith, opens-low _ _ _ _ _ _ (sym c.opens.ensures ∙ c.if-not-opens.false))

pub overflow_add-looked : goal.overflow_add-looked
overflow_add-looked t c =
    let e = sym c.opens.ensures ∙ c.if-not-opens.false in
    omega (arith, below-low _ _ _ _ _ _ _ c.search-below.result e c.search-below.ensures, c.loop-k.invariant.0)

pub returns-in-Some : goal.returns-in-Some
returns-in-Some t c = sym (among-hit _ _ 16 _ _ _ _ (omega arith) c.search-below.ensures c.in-Some.is) ∙ c.loop-k.invariant.1

pub loop-k-preserved : goal.loop-k-preserved
loop-k-preserved t c =
    let e = sym c.opens.ensures ∙ c.if-not-opens.false in (
      omega (arith, below-low _ _ _ _ _ _ _ c.search-below.result e c.search-below.ensures, c.loop-k.invariant.0),
      sym (among-miss _ _ 16 _ _ _ (omega arith) c.search-below.ensures c.in_default.is) ∙ c.loop-k.invariant.1,
    )

pub returns : goal.returns
returns t c = sym (among-end _ _ 16 _ _ c.loop-k-test.false) ∙ c.loop-k.invariant.1
