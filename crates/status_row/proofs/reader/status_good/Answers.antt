use Rattle.std.proofs.Common.{rules, arith, sym, ◌∙◌}
use native.Mathlib.Nat.{div-le_self}
use Rattle.status_row.proofs.ReaderLaws.{good-odd, checking-start, checking-bad, checking-over, checking-more, checking-done}
use Rattle.status_row.proofs.reader.status_good.Goals as goal

pub returns-then-bytes-ne0 : goal.returns-then-bytes-ne0
returns-then-bytes-ne0 c = good-odd _ _ _ c.if-bytes-ne0.true

pub loop-i-init : goal.loop-i-init
loop-i-init c = checking-start _ _ _ (search rules) c.if-bytes-ne0.false

pub returns-then-not-desc_good : goal.returns-then-not-desc_good
returns-then-not-desc_good c = checking-bad _ _ _ _ _ _ _ c.loop-i.invariant c.loop-i-test.true c.desc_at-b.ensures.0.0 c.desc_at-b.ensures.1 (sym c.desc_good.ensures ∙ c.if-not-desc_good.true)

pub overflow_add-next : goal.overflow_add-next
overflow_add-next c = omega (arith, c.desc_at-b.ensures.0.1, c.loop-i.invariant.low, div-le_self c.desc_at-b.result.0 c.args.v.size)

pub returns-then-v-next : goal.returns-then-v-next
returns-then-v-next c = checking-over _ _ _ _ _ _ _ c.loop-i.invariant c.loop-i-test.true c.desc_at-b.ensures.0.0 c.desc_at-b.ensures.1 (omega arith)

pub loop-i-preserved : goal.loop-i-preserved
loop-i-preserved c = checking-more _ _ _ _ _ _ _ c.loop-i.invariant c.loop-i-test.true c.desc_at-b.ensures.0.0 c.desc_at-b.ensures.1 (sym c.desc_good.ensures ∙ c.if-not-desc_good.false) (omega arith)

pub returns : goal.returns
returns c = checking-done _ _ _ _ _ c.loop-i.invariant c.loop-i-test.false
