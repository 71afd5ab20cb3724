use Rattle.lab_say_line.specs.Lines.{next_text}
use Rattle.text_bytes.proofs.Laws.{emits-parts, emits_then}
use mathlib.Core.Path.{refl}
use Rattle.lab_say_line.proofs.put_next.Goals as goal

pub returns-clause-value : goal.returns-clause-value
unfolding next_text
returns-clause-value c = emits-parts _ _ (emits_then (emits_then refl refl c.put_node.ensures.value) refl c.put_found.ensures.value)
