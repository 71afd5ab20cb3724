use Rattle.lab_say_client.specs.Client.{roster_text}
use Rattle.text_bytes.proofs.Laws.{emits-parts}
use Rattle.lab_say_client.proofs.put_roster.Goals as goal

pub returns-clause-value : goal.returns-clause-value
unfolding roster_text
returns-clause-value c = emits-parts _ _ cc
