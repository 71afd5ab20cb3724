use mathlib.Core.Path.{◌≡◌, ap}
use Rattle.laws_node.proofs.Lent.{lent-clear}
use Rattle.rules_node.specs.Events.{Event}
use Rattle.node.specs.Face.{came, answers}
use Rattle.node.proofs.StorageNode.take_part.Goals as goal

pub finish-out-requires : goal.finish-out-requires
finish-out-requires c = lent-clear _ _ _ _ _ c.lent_number-lent.ensures

pub returns : goal.returns
returns c =
    let a = c.args in
    let k = c.take_in.ensures in
    let f = c.finish-out.ensures in
    let w = c.take_part-t.ensures in
    let i = c.is_clean-clean.ensures in
    let b = c.lent_number-lent.ensures in
    let p : c.finish-out.result ≡ answers (Event.take_part a.offset a.part.now) a.self a.map.now a.staging.now = rw (f.value, w, b, i) in
    record {
      answer = ap came p;
      map_is = rw (f.map_after, w, b, i);
      staging_is = rw (k, f.staging_after, w, b, i);
    }
