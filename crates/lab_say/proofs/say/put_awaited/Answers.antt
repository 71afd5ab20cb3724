use Rattle.lab_say.specs.Say.{awaited_text}
use Rattle.text_bytes.proofs.Laws.{emits-end}
use Rattle.lab_say.proofs.SayLaws.{awaited-of}
use mathlib.Core.Path.{sym}
use Rattle.lab_say.proofs.say.put_awaited.Goals as goal

pub returns-then-is_nothing-clause-value : goal.returns-then-is_nothing-clause-value
unfolding awaited_text
returns-then-is_nothing-clause-value c = rw (← c.is_nothing.ensures, c.if-is_nothing.true) (sym (emits-end _))

pub returns-clause-value : goal.returns-clause-value
unfolding awaited_text
returns-clause-value c = rw (← c.is_nothing.ensures, c.if-is_nothing.false) (awaited-of _ _ _ _ c.put_message.ensures.value c.put_pair.ensures.value)
