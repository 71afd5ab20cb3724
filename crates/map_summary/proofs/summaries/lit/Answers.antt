use borrow.Author.Tests.{eq-eqb}
use Rattle.rules_base.proofs.Places.{is_member, bit-low, lit-none, lit-place}
use Rattle.rules_base.specs.Summary.{lit, is_dirty}
use native.Mathlib.Omega.{arith}
use mathlib.Core.Path.{sym, ◌∙◌}
use Rattle.map_summary.proofs.summaries.lit.Goals as goal

pub returns-then-level-eq0 : goal.returns-then-level-eq0
unfolding lit is_dirty
returns-then-level-eq0 c = rw (eq-eqb _ 0 c.if-level-eq0.true) c.test.ensures

pub returns-then-not-is_place : goal.returns-then-not-is_place
returns-then-not-is_place c = sym (lit-none _ _ _ _ _ c.if-level-eq0.false (sym c.is_place.ensures ∙ c.if-not-is_place.true))

pub overflow_mul-m : goal.overflow_mul-m
overflow_mul-m c = omega (arith, is_member _ _ _ (sym c.is_place.ensures ∙ c.if-not-is_place.false))

pub overflow_add-m : goal.overflow_add-m
overflow_add-m c = omega (arith, bit-low _ _ _ c.if-level-eq0.false (sym c.is_place.ensures ∙ c.if-not-is_place.false), c.base.ensures)

pub overflow_add-m-2 : goal.overflow_add-m-2
overflow_add-m-2 c = omega (arith, bit-low _ _ _ c.if-level-eq0.false (sym c.is_place.ensures ∙ c.if-not-is_place.false), c.base.ensures)

pub is_set-requires : goal.is_set-requires
is_set-requires c = omega (arith, bit-low _ _ _ c.if-level-eq0.false (sym c.is_place.ensures ∙ c.if-not-is_place.false), c.base.ensures)

pub returns : goal.returns
returns c = rw (lit-place _ _ _ _ _ c.if-level-eq0.false (sym c.is_place.ensures ∙ c.if-not-is_place.false), ← c.base.ensures) c.is_set.ensures
