use mathlib.Core.Path.{◌≡◌}
use Rattle.text_bytes.specs.Pages.{page_ink, lender}
use Rattle.lab_say.proofs.NodeLineLaws.{commas_from}
use Rattle.text_bytes.proofs.Laws.{Rest}
use Rattle.lab_say.proofs.node_line.put_kept.Given as goal

abbrev pub invariant-loop-n : goal.invariant-loop-n
invariant-loop-n l = (lender l.page ≡ lender l.initial.page) × Rest commas_from l.n-items (commas_from (page_ink l.initial.page) l.n-items) (page_ink l.page) l.n-index
