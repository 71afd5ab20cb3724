use Rattle.std.proofs.Common.{arith}
use Rattle.event_ask.proofs.Parts.{part-is}
use Rattle.lab_lend.proofs.node_event.fetch.Goals as goal

pub returns : goal.returns
returns c =
    let n = c.min-n.ensures in
    (omega (arith, n), rw (c.in-TakePart.is, ← part-is c.args.maps.now c.find-s.ensures, ← n) c.pick_out.ensures)
