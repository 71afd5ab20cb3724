use Rattle.rules_base.proofs.Chunk.{each_in, each-out, each_none, each-done}
use Rattle.rules_base.specs.Mend.{mended_for}
use native.Mathlib.Omega.{arith}
use mathlib.Core.Path.{sym, ◌∙◌}
use Rattle.map_summary.proofs.mending.mend_for.Goals as goal
use Rattle.map_summary.proofs.mending.mend_for.Goals.{then-has, else-has}

pub loop-m-init : goal.loop-m-init
loop-m-init c = each_none _ _ _

pub loop-m-preserved : goal.loop-m-preserved
loop-m-preserved c =
    elim c.if-has.branch [
      | then-has w ↦ w.words-is ∙ each_in _ _ _ _ _ _ (sym c.has.ensures ∙ w.if-has.true) c.loop-m.invariant w.mend.ensures
      | else-has w ↦ w.words-is ∙ each-out _ _ _ _ _ (sym c.has.ensures ∙ w.if-has.false) c.loop-m.invariant
    ]

pub returns : goal.returns
unfolding mended_for
returns c = each-done _ _ _ _ _ _ c.loop-m.invariant (omega arith)
