use Rattle.std.proofs.Common.{arith}
use Rattle.status_row.proofs.ReaderLaws.{filling-start, filling-room, filling-more, filling-done}
use Rattle.status_row.proofs.reader.fill.Goals as goal

pub loop-i-init : goal.loop-i-init
loop-i-init c = filling-start _ _ _ _ c.requires.0 c.requires.1.1

pub paint-requires : goal.paint-requires
paint-requires c =
    let r = filling-room _ _ _ _ _ _ _ _ c.loop-i.invariant c.loop-i-test.true c.desc_at-b.ensures.0.0 in
    omega (arith, r, c.requires.1.0)

pub overflow_add-c : goal.overflow_add-c
overflow_add-c c =
    let r = filling-room _ _ _ _ _ _ _ _ c.loop-i.invariant c.loop-i-test.true c.desc_at-b.ensures.0.0 in
    omega (arith, r, c.requires.1.0)

pub loop-i-preserved : goal.loop-i-preserved
loop-i-preserved c = filling-more _ _ _ _ _ _ _ _ _ _ c.loop-i.invariant c.loop-i-test.true c.desc_at-b.ensures.0.0 c.desc_at-b.ensures.1 c.paint.ensures

pub returns : goal.returns
returns c = filling-done _ _ _ _ _ _ _ c.loop-i.invariant c.loop-i-test.false
