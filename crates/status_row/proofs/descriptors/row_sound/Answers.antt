use Rattle.std.proofs.Common.{arith, sym, ◌∙◌}
use Rattle.status_row.proofs.DescriptorsLaws.{row-short, row-clean, clean-no, clean-more, clean_end}
use Rattle.status_row.proofs.descriptors.row_sound.Goals as goal

pub returns-then-row-ne512 : goal.returns-then-row-ne512
returns-then-row-ne512 c = row-short _ _ c.if-row-ne512.true

pub loop-c-init : goal.loop-c-init
loop-c-init c = row-clean _ _ c.if-row-ne512.false

pub returns-then-flag-ne0 : goal.returns-then-flag-ne0
returns-then-flag-ne0 c = clean-no _ _ _ (omega arith) (λ e. c.if-flag-ne0.true (c.flag.ensures ∙ e)) c.loop-c.invariant

pub loop-c-preserved : goal.loop-c-preserved
loop-c-preserved c = clean-more _ _ _ (omega arith) (sym c.flag.ensures ∙ c.if-flag-ne0.false) c.loop-c.invariant

pub returns : goal.returns
returns c = clean_end _ _ _ (omega arith) c.loop-c.invariant
