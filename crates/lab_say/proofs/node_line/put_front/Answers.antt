use Rattle.lab_say.specs.NodeLine.{front_text}
use Rattle.lab_say.specs.Say.{paired}
use Rattle.text_bytes.proofs.Laws.{emits-parts, emits_then}
use mathlib.Core.Path.{ap, refl}
use Rattle.lab_say.proofs.node_line.put_front.Goals as goal

pub returns-clause-value : goal.returns-clause-value
unfolding front_text
returns-clause-value c = emits-parts _ _ (emits_then (emits_then (emits_then (emits_then refl refl c.put_pair.ensures.value) refl c.put_state.ensures.value) (ap (paired _) c.from.ensures) c.put_pair-2.ensures.value) (ap (paired _) c.from-2.ensures) c.put_pair-3.ensures.value)
