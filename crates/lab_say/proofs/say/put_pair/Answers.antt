use Rattle.text_bytes.proofs.Laws.{emits-parts}
use Rattle.lab_say.proofs.say.put_pair.Goals as goal

pub returns-clause-value : goal.returns-clause-value
returns-clause-value c = emits-parts _ _ cc
