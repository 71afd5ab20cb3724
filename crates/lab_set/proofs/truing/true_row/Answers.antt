use Rattle.std.proofs.Common.{refl}
use Rattle.event_ask.proofs.Parts.{part-is}
use Rattle.lab_set.specs.Truing.{trued}
use Rattle.lab_set.proofs.truing.true_row.Goals as goal

pub returns : goal.returns
unfolding trued
returns c =
    rw (c.put.ensures, c.row_trued-node.ensures, part-is c.args.maps.now c.find-s.ensures, c.node_in-node.ensures) refl
