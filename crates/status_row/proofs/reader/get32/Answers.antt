use Rattle.std.proofs.Common.{rules, ◌∙◌}
use Rattle.status_row.specs.Descriptors.{word_at}
use Rattle.status_row.proofs.reader.get32.Goals as goal

pub returns : goal.returns
unfolding word_at
returns c = (c.from.ensures ∙ c.from_be_bytes.ensures, search rules)
