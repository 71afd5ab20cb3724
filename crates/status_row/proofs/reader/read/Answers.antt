use Rattle.std.proofs.Common.{arith, sym, ◌∙◌}
use Rattle.status_row.proofs.DescriptorsLaws.{volume}
use Rattle.status_row.specs.Reading.{read_refusal, read_answer, read_leaves}
use Rattle.status_row.proofs.reader.read.Goals as goal
use Rattle.status_row.proofs.reader.read.Goals.{then-not-good-via-then-not-good, then-not-good-via-else-not-good+then-not-status_good}

pub returns-then-not-row_sound : goal.returns-then-not-row_sound
unfolding read_refusal read_answer read_leaves
returns-then-not-row_sound c = let e = sym c.row_sound.ensures ∙ c.if-not-row_sound.true in (rw e, rw e)

pub returns-then-not-good : goal.returns-then-not-good
unfolding read_refusal read_answer read_leaves
returns-then-not-good c =
    let e = sym c.row_sound.ensures ∙ c.if-not-row_sound.false in
    elim c.then-not-good.branch [
      | then-not-good-via-then-not-good w ↦ let q = sym c.good.ensures ∙ w.if-not-good.true in (rw (e, q), rw (e, q))
      | then-not-good-via-else-not-good+then-not-status_good w ↦
          let q = sym c.good.ensures ∙ w.if-not-good.false in
          let l = sym w.status_good.ensures ∙ w.if-not-status_good.true in
          (rw (e, q, l), rw (e, q, l))
    ]

pub status_good-requires : goal.status_good-requires
status_good-requires c =
    let v = volume _ _ (sym c.good.ensures ∙ c.if-not-good.false) in
    (omega (arith, v.least), v.upto)

pub fill-requires : goal.fill-requires
fill-requires c =
    let v = volume _ _ (sym c.good.ensures ∙ c.if-not-good.false) in
    (omega (arith, v.least), (v.upto, sym c.status_good.ensures ∙ c.if-not-status_good.false))

pub returns : goal.returns
unfolding read_refusal read_answer read_leaves
returns c =
    let e = sym c.row_sound.ensures ∙ c.if-not-row_sound.false in
    let q = sym c.good.ensures ∙ c.if-not-good.false in
    let l = sym c.status_good.ensures ∙ c.if-not-status_good.false in
    (rw (e, q, l), rw (e, q, l) c.fill.ensures)
