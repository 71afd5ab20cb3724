use Rattle.rules_base.specs.Fill.{row_filled}
use mathlib.Core.Path.{◌≡◌}
use Rattle.map_whole.proofs.fills.fill_row.Given as goal

abbrev pub invariant-loop-c : goal.invariant-loop-c
invariant-loop-c l = l.map ≡ row_filled l.member l.c l.initial.map
