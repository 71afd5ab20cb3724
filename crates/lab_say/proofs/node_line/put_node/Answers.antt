use Rattle.lab_say.specs.NodeLine.{node_text}
use Rattle.lab_say.specs.Say.{paired}
use Rattle.text_bytes.proofs.Laws.{emits-parts, emits_then}
use mathlib.Core.Path.{ap, refl}
use Rattle.lab_say.proofs.node_line.put_node.Goals as goal

pub returns-clause-value : goal.returns-clause-value
unfolding node_text
returns-clause-value c = emits-parts _ _ (emits_then (emits_then (emits_then (emits_then (emits_then (emits_then refl refl c.put_front.ensures.value) refl c.put_pair.ensures.value) refl c.put_pair-2.ensures.value) refl c.put_bytes.ensures.value) refl c.put_kept.ensures.value) (ap (paired _) c.transfer_number.ensures) c.put_pair-3.ensures.value)
