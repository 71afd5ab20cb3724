use Rattle.lab_say.specs.Say.{awaited_text}
use Rattle.lab_say_client.specs.Client.{client_text}
use Rattle.text_bytes.proofs.Laws.{emits-parts, emits_then}
use mathlib.Core.Path.{ap, refl}
use Rattle.lab_say_client.proofs.put_client.Goals as goal

pub returns-clause-value : goal.returns-clause-value
unfolding client_text
returns-clause-value c = emits-parts _ _ (emits_then (emits_then (emits_then (emits_then (emits_then (emits_then refl refl c.put_roster.ensures.value) refl c.put_flags.ensures.value) refl c.put_job.ensures.value) refl c.put_outcome.ensures.value) refl c.put_told.ensures.value) (ap (awaited_text _) c.from.ensures) c.put_awaited.ensures.value)
