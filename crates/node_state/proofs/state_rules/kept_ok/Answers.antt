use Rattle.std.proofs.Common.{rules, ◌≡◌, ◌-◌, length, drop, length-drop, sym, arith}
use Rattle.std.proofs.lemmas.List.{take_all}
use Rattle.node_state.proofs.Kept.{kept-are}
use Rattle.node_state.proofs.state_rules.kept_ok.Goals as goal

pub returns-then-n-le16 : goal.returns-then-n-le16
returns-then-n-le16 c =
    let n = c.args.n in
    let h : length n.kept ≡ 16 = search rules in
    let from = 16 - n.held in
    rw (c.all_below.ensures, take_all (length n.kept - from) (drop from n.kept) (omega (arith, length-drop from n.kept))) (sym (kept-are n (search rules) h))
