use Rattle.std.proofs.Common.{◌-◌, ◌≡◌, ◌+◌, ◌*◌, ◌≤◌}
use Rattle.rules_base.specs.Search.{plus, among, searched}
use Rattle.map_summary.proofs.searching.+search.Given as goal

abbrev pub decreases-search : goal.decreases-search
decreases-search l = l.level

abbrev pub invariant-loop-k : goal.invariant-loop-k
invariant-loop-k l =
    (l.looked ≤ 1 + 4913 * l.k) × (plus l.looked (among (searched l.words l.map l.m l.start (l.level - 1)) (16 * l.i + l.k) (16 - l.k)) ≡ searched l.words l.map l.m l.start l.level l.i)
