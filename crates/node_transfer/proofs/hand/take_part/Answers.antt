use Rattle.std.proofs.Common.{sym, ap, ◌∙◌}
use Rattle.rules_base.specs.Refusals.{number_of}
use Rattle.laws_node.proofs.HandKeeps.{take_part-passed}
use Rattle.node_transfer.proofs.hand.take_part.Goals as goal

pub part_taken-requires : goal.part_taken-requires
part_taken-requires c = (take_part-passed _ _ _ _ _ (sym c.take_part_allowed.ensures ∙ ap number_of c.in-Ok.is)).1.part.within
