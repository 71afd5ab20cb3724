use borrow.Author.Rules.{rules}
use Rattle.rules_base.proofs.Over.{over_none, over-step, over_done}
use Rattle.rules_base.specs.Map.{copied}
use lib.ListN.{length-set}
use native.Mathlib.Omega.{arith}
use mathlib.Core.Path.{◌≡◌, refl, sym, ◌∙◌}
use Rattle.map_whole.proofs.maps.copy.Goals as goal

pub loop-i-init : goal.loop-i-init
loop-i-init c = (sym (over_none _ _ _), refl)

pub loop-i-preserved : goal.loop-i-preserved
loop-i-preserved c = (over-step _ _ _ _ _ _ _ (search rules) c.loop-i.invariant.0 refl refl, simp length-set c.loop-i.invariant.1)

pub returns : goal.returns
unfolding copied
returns c = over_done _ _ _ _ _ _ c.loop-i.invariant.0 (let q : c.loop-i.i ≡ c.min-n.result = omega arith in q ∙ c.min-n.ensures)
