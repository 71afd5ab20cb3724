use Rattle.std.proofs.Common.{rules, ◌≡◌, drop, length, length-drop, arith}
use Rattle.std.proofs.lemmas.List.{take_all}
use Rattle.node_state.proofs.change.shifted.Goals as goal

pub returns : goal.returns
returns c =
    let h : length c.args.k ≡ 16 = search rules in
    rw (c.copy_from_slice.ensures.after, take_all 15 (drop 1 c.args.k) (omega (arith, length-drop 1 c.args.k)))
