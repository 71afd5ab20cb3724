use mathlib.Core.Path.{sym, ◌∙◌}
use borrow.Author.Rules.{rules}
use Rattle.text_bytes.proofs.Laws.{rest-start, rest_more, rest-stop, rest-done, num-more, num-bad, num-end, num-of, num-none}
use Rattle.text_bytes.proofs.number.Goals as goal

pub returns-then-is_empty : goal.returns-then-is_empty
returns-then-is_empty c = num-none _ (search rules)

pub loop-b-init : goal.loop-b-init
loop-b-init c = rest-start (num-of _ (search rules))

pub returns-in_err-acc : goal.returns-in_err-acc
returns-in_err-acc c = c.from_residual.ensures ∙ rest-stop _ c.loop-b.invariant (search rules) (num-bad _ _ (sym c.digit.ensures ∙ c.in_err-acc.was))

pub loop-b-preserved : goal.loop-b-preserved
loop-b-preserved c = rest_more _ c.loop-b.invariant (search rules) (num-more _ _ _ (sym c.digit.ensures ∙ c.in_ok-acc.was))

pub returns : goal.returns
returns c = sym (num-end _) ∙ rest-done c.loop-b.invariant (search rules)
