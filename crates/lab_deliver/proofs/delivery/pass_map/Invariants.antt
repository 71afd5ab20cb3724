use Rattle.std.proofs.Common.{◌≡◌, ◌-◌, ◌≤◌}
use Rattle.rules_base.specs.Limits.{map_bytes}
use Rattle.lab_deliver.specs.Delivery.{whole, SameLoans, outcome, parts_from, map_passed}
use Rattle.lab_deliver.proofs.delivery.pass_map.Given as goal

abbrev pub invariant-loop-part : goal.invariant-loop-part
invariant-loop-part l =
    record {
      inside : l.offset ≤ map_bytes;
      rest : parts_from (map_bytes - l.part) l.w l.offset l.lent (outcome l.a (whole l.places)) ≡ map_passed l.w l.lent (whole l.initial.places);
      loans : SameLoans l.initial.places l.places;
    }
