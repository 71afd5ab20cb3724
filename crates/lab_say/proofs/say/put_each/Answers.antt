use borrow.Author.Rules.{rules}
use Rattle.lab_say.specs.Say.{told_to}
use Rattle.lab_say.proofs.SayLaws.{puts-each}
use Rattle.laws_words.specs.Loops.{runs_done}
use mathlib.Core.Path.{◌∙◌}
use Rattle.lab_say.proofs.say.put_each.Goals as goal

pub returns-clause-value : goal.returns-clause-value
returns-clause-value c = runs_done c.loop-i.invariant.1 (search rules) ∙ puts-each (told_to c.args.t) 16 0 _
