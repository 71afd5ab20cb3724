use Rattle.lab_lend.proofs.NodeLent.{lent-meets}
use Rattle.lab_lend.proofs.node_event.node_event.Goals as goal

pub returns : goal.returns
returns c =
    let a = c.args in
    let w =
    lent-meets a.lent a.e a.maps.now a.stagings.now
    (rw c.size.ensures at c.find-s.ensures)
    (rw c.size-2.ensures at c.find-t.ensures)
    c.fetch-size.ensures.1
    c.call.ensures
    in record { value = w.0; maps_after = w.1.0; stagings_after = w.1.1 }
