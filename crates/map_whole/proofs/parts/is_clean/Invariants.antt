use Rattle.rules_base.specs.Map.{clean_from}
use lib.ListN.{drop}
use Prim.Native.Nat.{◌+◌}
use mathlib.Core.Bool.{◌&&◌}
use mathlib.Core.Path.{◌≡◌}
use Rattle.map_whole.proofs.parts.is_clean.Given as goal

abbrev pub invariant-loop-i : goal.invariant-loop-i
invariant-loop-i l = (l.ok && clean_from l.n (l.offset + l.i) (drop l.i l.part)) ≡ clean_from l.n l.offset l.part
