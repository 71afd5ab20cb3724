use Rattle.rules_base.proofs.Places.{size-most, base-low}
use Rattle.rules_base.specs.Summary.{bit_of}
use Rattle.rules_base.specs.Mend.{renewed}
use native.Mathlib.Omega.{arith}
use borrow.Author.Rules.{rules}
use Rattle.map_summary.proofs.mending.renew.Goals as goal

pub below-on-requires : goal.below-on-requires
below-on-requires c = (search rules, size-most _ _ c.requires.1.1)

pub overflow_add-m : goal.overflow_add-m
overflow_add-m c = omega (arith, base-low _ _ (λ p. omega arith) c.requires.1.1, c.base.ensures)

pub overflow_add-m-2 : goal.overflow_add-m-2
overflow_add-m-2 c = omega (arith, base-low _ _ (λ p. omega arith) c.requires.1.1, c.base.ensures)

pub put-requires : goal.put-requires
put-requires c = omega (arith, base-low _ _ (λ p. omega arith) c.requires.1.1, c.base.ensures)

pub returns : goal.returns
unfolding renewed bit_of
returns c = rw (← c.base.ensures, ← c.below-on.ensures) c.put.ensures
