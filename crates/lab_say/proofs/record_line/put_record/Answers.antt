use Rattle.lab_say.specs.Text.{record_text}
use Rattle.text_bytes.proofs.Laws.{emits-parts, emits_then}
use mathlib.Core.Path.{refl}
use Rattle.lab_say.proofs.record_line.put_record.Goals as goal

pub returns-clause-value : goal.returns-clause-value
unfolding record_text
returns-clause-value c = emits-parts _ _ (emits_then (emits_then refl refl c.put_numbers.ensures.value) refl c.put_numbers-2.ensures.value)
