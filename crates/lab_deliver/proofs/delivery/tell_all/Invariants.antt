use Rattle.std.proofs.Common.{◌≡◌}
use Rattle.lab_deliver.specs.Delivery.{whole, SameLoans, told_below}
use Rattle.lab_deliver.proofs.delivery.tell_all.Given as goal

abbrev pub invariant-loop-i : goal.invariant-loop-i
invariant-loop-i l =
    record {
      after : whole l.places ≡ told_below l.t l.i l.lent (whole l.initial.places);
      loans : SameLoans l.initial.places l.places;
    }
