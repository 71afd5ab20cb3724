use Rattle.lab_say_client.specs.Client.{look_text}
use Rattle.text_bytes.proofs.Laws.{emits-parts, emits_then}
use mathlib.Core.Path.{refl}
use Rattle.lab_say_client.proofs.put_look.Goals as goal

pub returns-clause-value : goal.returns-clause-value
unfolding look_text
returns-clause-value c = emits-parts _ _ (emits_then (emits_then (emits_then refl refl c.put_past.ensures.value) refl c.put_check.ensures.value) refl c.put_causes.ensures.value)
