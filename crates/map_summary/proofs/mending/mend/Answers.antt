use Prim.Native.Nat.{◌/◌}
use Rattle.rules_base.proofs.Chunk.{there-yes, there-no-member, there-no-chunk}
use Rattle.rules_base.specs.Summary.{size}
use Rattle.rules_base.specs.Mend.{mended, renewed}
use native.Mathlib.Omega.{arith}
use mathlib.Core.Path.{ap, ◌∙◌}
use borrow.Author.Rules.{rules}
use Rattle.map_summary.proofs.mending.mend.Goals as goal
use Rattle.map_summary.proofs.mending.mend.Goals.{then-m-gt15-via-then-m-gt15, then-m-gt15-via-else-m-gt15+then-c-gt4095}

pub returns-then-m-gt15 : goal.returns-then-m-gt15
unfolding mended
returns-then-m-gt15 c = elim c.then-m-gt15.branch [
  | then-m-gt15-via-then-m-gt15 w ↦ rw (there-no-member _ _ w.if-m-gt15.true)
  | then-m-gt15-via-else-m-gt15+then-c-gt4095 w ↦ rw (there-no-chunk _ _ w.if-c-gt4095.true)
]

pub renew-requires : goal.renew-requires
unfolding size
renew-requires c = search rules

pub renew-requires-2 : goal.renew-requires-2
unfolding size
renew-requires-2 c = search rules

pub renew-requires-3 : goal.renew-requires-3
unfolding size
renew-requires-3 c = search rules

pub returns : goal.returns
unfolding mended
returns c = let s = c.args in rw (there-yes s.m s.c (omega arith) (omega arith)) (c.renew-3.ensures ∙ ap (renewed s.map.now s.m 3 0) (c.renew-2.ensures ∙ ap (renewed s.map.now s.m 2 (s.c / 256)) c.renew.ensures))
