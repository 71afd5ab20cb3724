use mathlib.Core.Path.{sym, ◌∙◌}
use borrow.Author.Rules.{rules}
use Rattle.text_bytes.proofs.Laws.{rest_more, rest-done, emits-more, emits-end}
use Rattle.text_bytes.proofs.page.Page.put_bytes.Goals as goal

pub loop-b-preserved : goal.loop-b-preserved
loop-b-preserved c = (c.put.ensures.same_reference ∙ c.loop-b.invariant.0, rest_more _ c.loop-b.invariant.1 (search rules) (emits-more _ _ _ c.put.ensures.value))

pub returns-clause-value : goal.returns-clause-value
returns-clause-value c = sym (emits-end _) ∙ rest-done c.loop-b.invariant.1 (search rules)
