use Rattle.std.proofs.Common.{rules, refl, add-one, ◌≡◌, ◌∙◌, sym, ◌<◌, ◌≤◌, length, arith}
use Rattle.std.proofs.Math.Seq.{take-suc-set}
use Rattle.std.proofs.lemmas.List.{take_all}
use Rattle.lab_places.specs.Fresh.{fresh_nodes}
use Rattle.lab_places.proofs.renew.Goals as goal

pub loop-i-init : goal.loop-i-init
unfolding fresh_nodes
loop-i-init c = record { many = refl; made = refl }

pub loop-i-preserved : goal.loop-i-preserved
unfolding fresh_nodes
loop-i-preserved c =
    let v = c.loop-i in
    let h : v.i < length v.nodes = omega arith in
    record {
      many = search rules;
      made = rw (add-one, take-suc-set v.nodes v.i c.fresh.result h, v.invariant.made, c.fresh.ensures) refl;
    }

pub returns : goal.returns
returns c =
    let v = c.loop-i in
    let end : v.i ≡ length c.args.nodes.now = omega arith in
    let all : length v.nodes ≤ length c.args.nodes.now = omega arith in
    sym (take_all (length c.args.nodes.now) v.nodes all) ∙ (rw end at v.invariant.made)
