use borrow.Author.Rules.{rules}
use Rattle.rules_base.proofs.ChunkCounts.{count-byte, count-nobody}
use Rattle.rules_base.proofs.Chunk.{count_none, count-le}
use Rattle.rules_base.specs.Chunk.{count}
use Prim.Native.Nat.{◌*◌}
use native.Mathlib.Omega.{arith}
use mathlib.Core.Path.{◌≡◌, sym}
use lib.Count.{ones-le}
use Rattle.map_chunk.proofs.count_row.Goals as goal

pub returns-then-m-gt15 : goal.returns-then-m-gt15
unfolding count
returns-then-m-gt15 c = sym (count-nobody _ _ 4096 c.if-m-gt15.true)

pub loop-i-init : goal.loop-i-init
loop-i-init c = sym (count_none _ _)

pub overflow_add-got : goal.overflow_add-got
overflow_add-got c = omega (arith, count-le c.args.map.now c.args.m (8 * c.loop-i.i), ones-le 8 c.get.result (search rules))

pub loop-i-preserved : goal.loop-i-preserved
loop-i-preserved c = grind (arith, count-byte)

pub returns : goal.returns
unfolding count
returns c = let q : c.loop-i.i ≡ 512 = omega arith in rw q at c.loop-i.invariant
