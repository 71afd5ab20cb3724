use mathlib.Core.Path.{◌≡◌}
use Rattle.text_bytes.specs.Pages.{page_ink, lender}
use Rattle.text_bytes.proofs.Laws.{Rest}
use Rattle.lab_say_client.proofs.Laws.{letters_from}
use Rattle.lab_say_client.proofs.put_letters.Given as goal

abbrev pub invariant-loop-s : goal.invariant-loop-s
invariant-loop-s l = (lender l.page ≡ lender l.initial.page) × Rest letters_from l.s-items (letters_from (page_ink l.initial.page) l.s-items) (page_ink l.page) l.s-index
