use mathlib.Core.Path.{◌≡◌}
use Rattle.text_bytes.specs.Ink.{emits}
use Rattle.text_bytes.specs.Pages.{page_ink, lender}
use Rattle.text_bytes.proofs.Laws.{Rest}
use Rattle.text_bytes.proofs.page.Page.put_bytes.Given as goal

abbrev pub invariant-loop-b : goal.invariant-loop-b
invariant-loop-b l = (lender l.self ≡ lender l.initial.self) × Rest emits l.s (emits (page_ink l.initial.self) l.s) (page_ink l.self) l.b-index
