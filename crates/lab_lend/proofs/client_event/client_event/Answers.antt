use Rattle.std.proofs.Common.{refl, [], ◌≡◌, ◌-◌, take, drop}
use Rattle.event_ask.proofs.Parts.{part-is}
use Rattle.lab_lend.specs.Client.{lender, read_of}
use Rattle.lab_lend.proofs.ClientLent.{lent-meets}
use Rattle.lab_lend.proofs.client_event.client_event.Goals as goal

pub returns-in-None : goal.returns-in-None
returns-in-None c =
    let a = c.args in
    let xs = a.maps.now in
    let read : [] ≡ read_of a.lent (lender a.e) xs = rw (← c.read_from.ensures, c.in-None.is) refl in
    let w = lent-meets a.lent a.e a.own.now xs (rw c.cut.ensures at c.find-s.ensures) read c.call.ensures.meets c.call.ensures.own_after in
    record { value = w.0; own_after = w.1 }

pub returns-in-Some : goal.returns-in-Some
returns-in-Some c =
    let a = c.args in
    let xs = a.maps.now in
    let t = c.find-t.result in
    let read : take (t.to - t.from) (drop t.from xs) ≡ read_of a.lent (lender a.e) xs =
    rw (← c.read_from.ensures, c.in-Some.is, ← c.size.ensures) (part-is xs c.find-t.ensures)
    in
    let w = lent-meets a.lent a.e a.own.now xs (rw c.cut.ensures at c.find-s.ensures) read c.call-in-Some.ensures.meets c.call-in-Some.ensures.own_after in
    record { value = w.0; own_after = w.1 }
