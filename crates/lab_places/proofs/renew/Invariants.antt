use Rattle.std.proofs.Common.{◌≡◌, length, take}
use Rattle.lab_places.specs.Fresh.{fresh_nodes}
use Rattle.lab_places.proofs.renew.Given as goal

abbrev pub invariant-loop-i : goal.invariant-loop-i
invariant-loop-i l =
    record { many : length l.nodes ≡ length l.initial.nodes; made : take l.i l.nodes ≡ fresh_nodes l.chunks l.i }
