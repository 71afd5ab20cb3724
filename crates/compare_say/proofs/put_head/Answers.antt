use Rattle.std.proofs.Common.{sym}
use Rattle.text_bytes.specs.Ink.{emits, joined}
use Rattle.text_bytes.proofs.Laws.{emits-parts, emits-end}
use Rattle.compare_say.specs.Said.{head_text}
use Rattle.compare_say.proofs.put_head.Goals as goal

pub returns-in-Err-clause-value : goal.returns-in-Err-clause-value
unfolding head_text emits
returns-in-Err-clause-value c =
    rw (← c.next_difference.ensures, c.in-Err.is)
    (emits-parts _ _ (rw (c.put.ensures.value, c.put_number.ensures.value, c.number.ensures, c.put_bytes.ensures.value)))

pub returns-in-Ok-Some-clause-value : goal.returns-in-Ok-Some-clause-value
unfolding head_text
returns-in-Ok-Some-clause-value c = rw (← c.next_difference.ensures, c.in-Ok-Some.is, c.in-Ok-Some.field-0-is) (sym (emits-end _))

pub returns-in-Ok-None-clause-value : goal.returns-in-Ok-None-clause-value
unfolding head_text joined
returns-in-Ok-None-clause-value c = rw (← c.next_difference.ensures, c.in-Ok-None.is, c.in-Ok-None.field-0-is) c.put_bytes-in-Ok-None.ensures.value
