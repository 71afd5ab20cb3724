use Rattle.std.proofs.Common.{rules, ◌≡◌, ◌+◌, ◌-◌, ◌<◌, length, drop, length-drop, arith}
use Rattle.std.proofs.lemmas.List.{take_all}
use Rattle.rules_node.specs.Carry.{last_ios}
use Rattle.laws_words.specs.Loops.{runs_done}
use Rattle.node_bytes.proofs.Kept.{walk-start, walk-more}
use Rattle.node_bytes.proofs.maps.last_ios.Goals as goal

pub loop-chunk-init : goal.loop-chunk-init
loop-chunk-init c = walk-start c.args.n c.args.chosen (c.saturating_sub-from.result + 0) c.args.map.now (omega (arith, c.saturating_sub-from.ensures))

pub loop-chunk-preserved : goal.loop-chunk-preserved
loop-chunk-preserved c =
    let n = c.args.n in
    let from = c.saturating_sub-from.result in
    let i = c.loop-chunk.chunk-index in
    let h : length n.kept ≡ 16 = search rules in
    let t = take_all (length n.kept - from) (drop from n.kept) (omega (arith, length-drop from n.kept)) in
    let k : i < length (drop from n.kept) = rw t at c.loop-chunk-test.true in
    let e = rw t at c.last_io.ensures in
    walk-more n c.args.chosen from i c.saturating_sub-from.ensures (omega (arith, k, length-drop from n.kept, h)) c.loop-chunk.invariant e

pub returns : goal.returns
unfolding last_ios
returns c = runs_done c.loop-chunk.invariant (search rules)
