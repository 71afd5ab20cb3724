use Rattle.text_bytes.proofs.Laws.{emits-end}
use mathlib.Core.Path.{sym}
use mathlib.Core.Logic.{⊎_elim}
use Rattle.lab_say.proofs.say.put_to.Goals as goal

pub returns-in-Nothing-clause-value : goal.returns-in-Nothing-clause-value
returns-in-Nothing-clause-value c =
    ⊎_elim (λ e. rw e (sym (emits-end _))) (λ r. ⊎_elim (λ d. rw d.1 (sym (emits-end _))) (λ o. rw o.1 (sym (emits-end _))) r) c.in-Nothing.is

pub returns-in-Infos-clause-value : goal.returns-in-Infos-clause-value
returns-in-Infos-clause-value c = rw (c.in-Infos.is, ← c.op_number.ensures) c.put_in-in-Infos.ensures.value

pub returns-in-Checks-clause-value : goal.returns-in-Checks-clause-value
returns-in-Checks-clause-value c = rw c.in-Checks.is c.put_in-in-Checks.ensures.value
