use Rattle.text_bytes.proofs.Laws.{emits-end}
use mathlib.Core.Path.{sym}
use Rattle.lab_say.proofs.say.put_message.Goals as goal

pub returns-in-Nothing-clause-value : goal.returns-in-Nothing-clause-value
returns-in-Nothing-clause-value c = rw c.in-Nothing.is (sym (emits-end _))

pub returns-in-GetVersion-clause-value : goal.returns-in-GetVersion-clause-value
returns-in-GetVersion-clause-value c = rw c.in-GetVersion.is c.put_numbers.ensures.value

pub returns-in-Send-clause-value : goal.returns-in-Send-clause-value
returns-in-Send-clause-value c = rw c.in-Send.is c.put_numbers-in-Send.ensures.value

pub returns-in-Done-clause-value : goal.returns-in-Done-clause-value
returns-in-Done-clause-value c = rw (c.in-Done.is, ← c.from-in-Done.ensures) c.put_numbers-in-Done.ensures.value

pub returns-in-LastIo-clause-value : goal.returns-in-LastIo-clause-value
returns-in-LastIo-clause-value c = rw c.in-LastIo.is c.put_numbers-in-LastIo.ensures.value

pub returns-in-Info-clause-value : goal.returns-in-Info-clause-value
returns-in-Info-clause-value c = rw (c.in-Info.is, ← c.op_number.ensures) c.put_numbers-in-Info.ensures.value
