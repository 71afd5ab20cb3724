use mathlib.Core.Path.{◌≡◌}
use Rattle.std.specs.Prelude.{None}
use Rattle.text_bytes.specs.Ink.{emits}
use Rattle.text_bytes.specs.Pages.{page_ink, lender}
use Rattle.lab_say.specs.Row.{ranges, is_dirty}
use Rattle.lab_say.proofs.RowLineLaws.{Ranged}
use Rattle.lab_say.proofs.row_line.put_ranges.Given as goal

abbrev pub invariant-loop-c : goal.invariant-loop-c
invariant-loop-c l = (lender l.page ≡ lender l.initial.page) × Ranged 4096 (is_dirty l.map l.m) (emits (page_ink l.initial.page) (ranges (is_dirty l.map l.m) None 4096 0)) (page_ink l.page) l.begun l.c
