use Rattle.rules_base.proofs.Places.{size_low, size-most}
use Rattle.rules_base.proofs.Spans.{lit-low, span_fits}
use Rattle.rules_base.specs.Search.{opens}
use native.Mathlib.Omega.{arith}
use mathlib.Core.Path.{sym, ◌∙◌}
use Rattle.map_summary.proofs.searching.opens.Goals as goal

pub returns-then-not-lit : goal.returns-then-not-lit
unfolding opens
returns-then-not-lit c = rw (sym c.lit.ensures ∙ c.if-not-lit.true)

pub span-requires : goal.span-requires
span-requires c = size_low _ _ (lit-low _ _ _ _ _ (sym c.lit.ensures ∙ c.if-not-lit.false))

pub overflow_add-result : goal.overflow_add-result
overflow_add-result c = omega (arith, size-most _ _ (lit-low _ _ _ _ _ (sym c.lit.ensures ∙ c.if-not-lit.false)))

pub overflow_mul-result : goal.overflow_mul-result
overflow_mul-result c =
    let h = span_fits c.args.level c.args.i (lit-low _ _ _ _ _ (sym c.lit.ensures ∙ c.if-not-lit.false)) in
    rw c.span.ensures (omega arith)

pub returns : goal.returns
unfolding opens
returns c = rw (sym c.lit.ensures ∙ c.if-not-lit.false, c.span.ensures)
