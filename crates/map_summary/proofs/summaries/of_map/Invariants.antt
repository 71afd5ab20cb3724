use mathlib.Core.Path.{◌≡◌}
use Rattle.rules_base.specs.Summary.{word_at}
use Prim.Native.Nat.{ℕ, ◌<◌}
use lib.ListN.{length, get_or}
use Rattle.map_summary.proofs.summaries.of_map.Given as goal

abbrev pub invariant-loop-j : goal.invariant-loop-j
invariant-loop-j l = (length l.words ≡ 96) × ((k : ℕ) → k < l.j → get_or l.words k 0 ≡ word_at l.map k)
