use Rattle.std.proofs.Common.{◌≡◌, ◌-◌}
use Rattle.status_row.specs.Volume.{all_clean, row_sound}
use Rattle.status_row.proofs.descriptors.row_sound.Given as goal

abbrev pub invariant-loop-c : goal.invariant-loop-c
invariant-loop-c l = all_clean l.row l.c (4096 - l.c) ≡ row_sound l.n l.row
