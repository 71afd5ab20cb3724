use Rattle.std.proofs.Common.{rules, Ok, arith, refl, sym, ap, ◌∙◌}
use Rattle.compare_say.proofs.Lines.{lined-start, lined-refused, lined-over, lined-past, lined-more, lined-done}
use Rattle.compare_say.proofs.put_member.Goals as goal

pub loop-c-init : goal.loop-c-init
loop-c-init c = (refl, lined-start _ _ _ _)

pub returns-then-member-d-clause-value : goal.returns-then-member-d-clause-value
returns-then-member-d-clause-value c = lined-past c.loop-c.invariant.1 (sym c.next_difference.ensures ∙ c.in-Ok-Some.is ∙ ap Ok c.in-Ok-Some.field-0-is) (search rules)

pub overflow_add-c : goal.overflow_add-c
overflow_add-c c =
    let v = lined-more c.loop-c.invariant.1 (sym c.next_difference.ensures ∙ c.in-Ok-Some.is ∙ ap Ok c.in-Ok-Some.field-0-is) (search rules) c.put_line.ensures.value in
    omega (arith, v.low)

pub loop-c-smaller : goal.loop-c-smaller
loop-c-smaller c =
    let v = lined-more c.loop-c.invariant.1 (sym c.next_difference.ensures ∙ c.in-Ok-Some.is ∙ ap Ok c.in-Ok-Some.field-0-is) (search rules) c.put_line.ensures.value in
    omega (arith, v.from, v.low)

pub loop-c-preserved : goal.loop-c-preserved
loop-c-preserved c =
    let v = lined-more c.loop-c.invariant.1 (sym c.next_difference.ensures ∙ c.in-Ok-Some.is ∙ ap Ok c.in-Ok-Some.field-0-is) (search rules) c.put_line.ensures.value in
    (c.put_line.ensures.same_reference ∙ c.loop-c.invariant.0, v.then)

pub returns-clause-value : goal.returns-clause-value
returns-clause-value c = lined-done c.loop-c.invariant.1 (search rules)

pub returns-in-Err-clause-value : goal.returns-in-Err-clause-value
returns-in-Err-clause-value c = lined-refused c.loop-c.invariant.1 (sym c.next_difference.ensures ∙ c.in-Err.is)

pub returns-in-Ok-None-clause-value : goal.returns-in-Ok-None-clause-value
returns-in-Ok-None-clause-value c = lined-over c.loop-c.invariant.1 (sym c.next_difference.ensures ∙ c.in-Ok-None.is ∙ ap Ok c.in-Ok-None.field-0-is)
