use Rattle.lab_say.specs.Say.{paired}
use Rattle.lab_say_line.specs.Lines.{asked_text}
use Rattle.text_bytes.proofs.Laws.{emits-parts, emits_then}
use mathlib.Core.Path.{ap, refl}
use Rattle.lab_say_line.proofs.put_asked.Goals as goal

pub returns-clause-value : goal.returns-clause-value
unfolding asked_text
returns-clause-value c = emits-parts _ _ (emits_then (emits_then refl refl c.put_node.ensures.value) (ap (paired _) c.from.ensures) c.put_pair.ensures.value)
