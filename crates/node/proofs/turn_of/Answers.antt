use Rattle.rules_base.specs.Map.{clean_from}
use Rattle.node.proofs.turn_of.Goals as goal

pub returns-in-TakePart : goal.returns-in-TakePart
unfolding clean_from
returns-in-TakePart c = simp (c.take_part.ensures, c.in-TakePart.is)
