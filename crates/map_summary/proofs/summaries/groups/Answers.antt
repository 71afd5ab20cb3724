use borrow.Author.Rules.{rules}
use mathlib.Core.Path.{sym}
use Rattle.rules_base.specs.Summary.{under}
use Rattle.rules_base.proofs.Bits.{bits-start}
use Rattle.rules_base.proofs.Some.{group-dirty}
use Rattle.map_summary.proofs.Digits.{bits_down}
use Prim.Native.Nat.{◌+◌, ◌-◌, ◌*◌}
use Rattle.map_summary.proofs.summaries.groups.Goals as goal

pub loop-i-init : goal.loop-i-init
loop-i-init c = sym (bits-start _)

pub loop-i-preserved : goal.loop-i-preserved
loop-i-preserved c =
    let s = c.args in
    let k = c.loop-i in
    let e = group-dirty s.map.now s.m s.k (k.i - 1) c.pair.result (search rules) (search rules) (search rules) (search rules) c.pair.ensures in
    bits_down (λ j. under s.map.now s.m 1 (64 * s.k + j)) (k.i - 1) k.i k.got c.from.result (search rules) k.auto.i k.invariant (search rules)
