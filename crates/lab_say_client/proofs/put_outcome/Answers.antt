use Rattle.text_bytes.proofs.Laws.{emits-end, emits-parts}
use mathlib.Core.Path.{sym}
use Rattle.lab_say_client.proofs.put_outcome.Goals as goal

pub returns-in-Plain-clause-value : goal.returns-in-Plain-clause-value
returns-in-Plain-clause-value c = rw c.in-Plain.is (sym (emits-end _))

pub returns-in-Written-clause-value : goal.returns-in-Written-clause-value
returns-in-Written-clause-value c = rw c.in-Written.is (emits-parts _ _ cc)
