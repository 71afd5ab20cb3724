use Rattle.std.specs.Prelude.{◌+◌}
use Rattle.rules_node.specs.Carry.{last_io_at}
use Rattle.laws_words.specs.Loops.{Runs}
use Rattle.node_bytes.proofs.maps.last_ios.Given as goal

abbrev pub invariant-loop-chunk : goal.invariant-loop-chunk
invariant-loop-chunk l = Runs 16 (last_io_at l.fn.n l.chosen) l.initial.map l.map (l.from + l.chunk-index)
