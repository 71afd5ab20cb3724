use Rattle.std.proofs.Common.{Ok, sym, ap, ◌∙◌}
use borrow.Author.Tests.{le-leb, lt-leb}
use Rattle.status_row.proofs.DescriptorsLaws.{volume}
use Rattle.status_row.specs.Writing.{write_refusal, write_answer, write_leaves}
use Rattle.status_row.proofs.writer.write.Goals as goal
use Rattle.status_row.proofs.writer.write.Goals.{then-not-good-via-then-not-good, then-not-good-via-else-not-good+then-out-lt32768}

pub returns-then-not-row_sound : goal.returns-then-not-row_sound
unfolding write_refusal write_answer write_leaves
returns-then-not-row_sound c = let e = sym c.row_sound.ensures ∙ c.if-not-row_sound.true in (rw e, rw e)

pub returns-then-not-good : goal.returns-then-not-good
unfolding write_refusal write_answer write_leaves
returns-then-not-good c =
    let e = sym c.row_sound.ensures ∙ c.if-not-row_sound.false in
    elim c.then-not-good.branch [
      | then-not-good-via-then-not-good w ↦ let q = sym c.good.ensures ∙ w.if-not-good.true in (rw (e, q), rw (e, q))
      | then-not-good-via-else-not-good+then-out-lt32768 w ↦
          let q = sym c.good.ensures ∙ w.if-not-good.false in
          let l = lt-leb 32768 _ w.if-out-lt32768.true in
          (rw (e, q, l), rw (e, q, l))
    ]

pub put_status-requires : goal.put_status-requires
put_status-requires c =
    let v = volume _ _ (sym c.good.ensures ∙ c.if-not-good.false) in
    (v.from, (v.upto, (v.most, c.if-out-lt32768.false)))

pub returns : goal.returns
unfolding write_refusal write_answer write_leaves
returns c =
    let e = sym c.row_sound.ensures ∙ c.if-not-row_sound.false in
    let q = sym c.good.ensures ∙ c.if-not-good.false in
    let l = le-leb 32768 _ c.if-out-lt32768.false in
    (rw (e, q, l) (ap Ok c.put_status.ensures.0), rw (e, q, l) c.put_status.ensures.1)
