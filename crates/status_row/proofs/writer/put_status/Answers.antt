use Rattle.std.proofs.Common.{sym, ◌∙◌}
use Rattle.status_row.proofs.WriterLaws.{writing_start, writing-join, writing-part, writing-done}
use Rattle.status_row.proofs.writer.put_status.Goals as goal
use Rattle.status_row.proofs.writer.put_status.Goals.{then-joins, else-joins}

pub loop-c-init : goal.loop-c-init
loop-c-init c = writing_start _ _ _ _ _ c.requires.0 c.requires.1.1.0 c.flag-f.ensures

pub loop-c-preserved : goal.loop-c-preserved
loop-c-preserved c =
    let l = c.loop-c.invariant in
    let h = c.loop-c-test.true in
    let g = c.flag-g.ensures in
    elim c.if-joins.branch [
      | then-joins w ↦ rw (w.out-is, w.f-is, w.b-is, w.at-is) (writing-join _ _ _ _ _ _ _ _ _ _ l h g (sym c.joins.ensures ∙ w.if-joins.true))
      | else-joins w ↦ rw (w.out-is, w.f-is, w.b-is, w.at-is) (writing-part _ _ _ _ _ _ _ _ _ _ _ l h c.requires.1.1.0 g (sym c.joins.ensures ∙ w.if-joins.false) w.put_desc.ensures)
    ]

pub returns : goal.returns
returns c = writing-done _ _ _ _ _ _ _ _ _ _ c.loop-c.invariant c.loop-c-test.false c.put_desc-2.ensures
