use Rattle.rules_base.proofs.Over.{over_none, over-step, over-end}
use Rattle.rules_base.specs.Parts.{or_part}
use lib.ListN.{length-set}
use native.Mathlib.Omega.{arith}
use mathlib.Core.Path.{refl, sym}
use Rattle.map_whole.proofs.parts.or_part.Goals as goal

pub loop-i-init : goal.loop-i-init
loop-i-init c = record { ored = sym (over_none _ _ _); most = omega arith; long = refl }

pub loop-i-preserved : goal.loop-i-preserved
loop-i-preserved c = record { ored = over-step _ _ _ _ _ _ _ (omega arith) c.loop-i.invariant.ored refl refl; most = omega arith; long = simp length-set c.loop-i.invariant.long }

pub returns : goal.returns
unfolding or_part
returns c = over-end _ _ _ _ _ _ c.loop-i.invariant.ored (omega arith) (omega arith) (omega arith)
