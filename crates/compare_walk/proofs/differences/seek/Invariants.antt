use Rattle.std.proofs.Common.{◌≡◌, ◌-◌}
use Rattle.compare_walk.specs.Differences.{first_place}
use Rattle.compare_walk.proofs.differences.seek.Given as goal

abbrev pub invariant-loop-p : goal.invariant-loop-p
invariant-loop-p l = first_place l.first l.second l.p (65536 - l.p) ≡ first_place l.first l.second l.from (65536 - l.from)
