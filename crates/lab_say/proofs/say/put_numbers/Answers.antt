use mathlib.Core.Path.{sym, ◌∙◌}
use borrow.Author.Rules.{rules}
use Rattle.text_bytes.proofs.Laws.{rest_more, rest-done}
use Rattle.lab_say.proofs.SayLaws.{numbers-more, numbers-end, numbers-of}
use Rattle.lab_say.proofs.say.put_numbers.Goals as goal

pub loop-n-preserved : goal.loop-n-preserved
loop-n-preserved c = (c.put_sign.ensures.same_reference ∙ c.loop-n.invariant.0, rest_more _ c.loop-n.invariant.1 (search rules) (numbers-more _ _ _ c.put_sign.ensures.value))

pub returns-clause-value : goal.returns-clause-value
returns-clause-value c = sym (numbers-end _) ∙ rest-done c.loop-n.invariant.1 (search rules) ∙ numbers-of _ _ _ _ c.put_bytes.ensures.value
