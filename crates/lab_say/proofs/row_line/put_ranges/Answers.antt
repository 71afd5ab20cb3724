use mathlib.Core.Path.{sym, ap, ◌∙◌}
use borrow.Author.Rules.{rules}
use Rattle.std.specs.Prelude.{Some}
use Rattle.lab_say.proofs.RowLineLaws.{ranged-dirty, ranged-clean, ranged-done}
use Rattle.lab_say.proofs.row_line.put_ranges.Goals.{then-test, else-test}
use Rattle.lab_say.proofs.row_line.put_ranges.Goals as goal

pub loop-c-preserved : goal.loop-c-preserved
loop-c-preserved c =
    elim c.if-test.branch [
      | then-test w ↦ rw w.page-is (c.loop-c.invariant.0, ranged-dirty c.loop-c.invariant.1 (search rules) (sym c.test.ensures ∙ w.if-test.true) (w.begun-is ∙ ap Some w.unwrap_or.ensures))
      | else-test w ↦ rw (w.page-is, w.begun-is) (w.put_begun.ensures.same_reference ∙ c.loop-c.invariant.0, ranged-clean c.loop-c.invariant.1 (search rules) (sym c.test.ensures ∙ w.if-test.false) w.put_begun.ensures.value)
    ]

pub returns-clause-value : goal.returns-clause-value
returns-clause-value c = ranged-done c.loop-c.invariant.1 (search rules) c.put_begun-2.ensures.value
