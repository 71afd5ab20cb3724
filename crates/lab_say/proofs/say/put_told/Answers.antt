use Rattle.lab_say.specs.Say.{told_text, told_to, each}
use Rattle.rules_pool.specs.declared.Told.{Told}
use Rattle.rules_base.specs.declared.Op.{Op}
use Rattle.lab_say.proofs.SayLaws.{emits_two, told-plain}
use Rattle.lab_say.proofs.say.put_told.Goals as goal

pub returns-in-Disable-clause-value : goal.returns-in-Disable-clause-value
unfolding told_text
returns-in-Disable-clause-value c = rw c.in-Disable.is c.put_numbers.ensures.value

pub returns-in-Off-clause-value : goal.returns-in-Off-clause-value
unfolding told_text
returns-in-Off-clause-value c = rw c.in-Off.is c.put_numbers-in-Off.ensures.value

pub returns-in-Extended-clause-value : goal.returns-in-Extended-clause-value
unfolding told_text
returns-in-Extended-clause-value c = let w = c.in-Extended in
    rw w.is (emits_two _ (each (told_to (Told.Infos w.others Op.AddCreate w.member)) 16 0) (each (told_to (Told.Extended w.others w.field-1 w.member w.field-3)) 16 0) c.put_each.ensures.value c.put_each-in-Extended.ensures.value)

pub returns-in_default-clause-value : goal.returns-in_default-clause-value
returns-in_default-clause-value c = rw (← told-plain c.args.t c.in_default.not-Disable c.in_default.not-Off c.in_default.not-Extended) c.put_each-in_default.ensures.value
