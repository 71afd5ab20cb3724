use mathlib.Core.Path.{◌≡◌}
use Rattle.text_bytes.specs.Pages.{page_ink, lender}
use Rattle.text_bytes.proofs.Laws.{Rest}
use Rattle.lab_say.proofs.SayLaws.{numbers_from}
use Rattle.lab_say.proofs.say.put_numbers.Given as goal

abbrev pub invariant-loop-n : goal.invariant-loop-n
invariant-loop-n l = (lender l.page ≡ lender l.initial.page) × Rest numbers_from l.numbers (numbers_from (page_ink l.initial.page) l.numbers) (page_ink l.page) l.n-index
