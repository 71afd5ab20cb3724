use mathlib.Core.Path.{◌≡◌}
use Rattle.text_bytes.specs.Pages.{page_ink, lender}
use Rattle.lab_say.specs.Say.{told_to}
use Rattle.lab_say.proofs.SayLaws.{puts_of}
use Rattle.laws_words.specs.Loops.{Runs}
use Rattle.lab_say.proofs.say.put_each.Given as goal

abbrev pub invariant-loop-i : goal.invariant-loop-i
invariant-loop-i l = (lender l.page ≡ lender l.initial.page) × Runs 16 (puts_of (told_to l.t)) (page_ink l.initial.page) (page_ink l.page) l.i
