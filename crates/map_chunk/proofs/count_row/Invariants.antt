use Rattle.rules_base.specs.Chunk.{count_to}
use Prim.Native.Nat.{◌*◌}
use mathlib.Core.Path.{◌≡◌}
use Rattle.map_chunk.proofs.count_row.Given as goal

abbrev pub invariant-loop-i : goal.invariant-loop-i
invariant-loop-i l = l.got ≡ count_to l.map l.m (8 * l.i)
