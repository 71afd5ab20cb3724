use Rattle.lab_say_client.proofs.Laws.{letters-more}
use Rattle.text_bytes.proofs.Laws.{emits-end, rest-done, rest_more}
use borrow.Author.Rules.{rules}
use mathlib.Core.Path.{sym, ◌∙◌}
use Rattle.lab_say_client.proofs.put_letters.Goals as goal

pub loop-s-preserved : goal.loop-s-preserved
loop-s-preserved c = (c.put.ensures.same_reference ∙ c.loop-s.invariant.0, rest_more _ c.loop-s.invariant.1 (search rules) (letters-more _ _ _ _ c.letter_of.ensures c.put.ensures.value))

pub returns-clause-value : goal.returns-clause-value
returns-clause-value c = sym (emits-end _) ∙ rest-done c.loop-s.invariant.1 (search rules)
