use Rattle.lab_say.specs.Say.{paired}
use Rattle.lab_say_client.specs.Client.{check_text}
use Rattle.text_bytes.proofs.Laws.{emits-parts, emits_then}
use mathlib.Core.Path.{ap, refl}
use Rattle.lab_say_client.proofs.put_check.Goals as goal

pub returns-clause-value : goal.returns-clause-value
unfolding check_text
returns-clause-value c =
    emits-parts _ _
    (emits_then (emits_then (emits_then refl (ap (paired _) c.from.ensures) c.put_pair.ensures.value) (ap (paired _) c.from-2.ensures) c.put_pair-2.ensures.value) (ap (paired _) c.from-3.ensures) c.put_pair-3.ensures.value)
