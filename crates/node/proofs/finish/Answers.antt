use Rattle.laws_node.proofs.Lent.{words-by}
use Rattle.rules_node.specs.Face.{map_by, staging_by}
use Rattle.node.proofs.finish.Goals as goal

pub returns : goal.returns
unfolding map_by staging_by
returns c =
    let s = c.args in
    let k = c.carry.ensures in
    let e = words-by s.lent s.t s.words s.map.now s.staging.now c.requires in
    record {
      value = rw (c.after.ensures, k.map_after, e);
      map_after = k.map_after;
      staging_after = k.staging_after;
    }
