use mathlib.Core.Path.{◌≡◌, sym, ap}
use mathlib.Core.List.{[]}
use Rattle.laws_node.proofs.Lent.{lent-clear}
use Rattle.event.specs.OfNode.{event_of}
use Rattle.node.specs.Face.{came, answers}
use Rattle.node.proofs.NoPart.{no_part}
use Rattle.node.proofs.event.Goals as goal

pub finish-requires : goal.finish-requires
finish-requires c = lent-clear _ _ _ _ _ c.lent_number-lent.ensures

pub returns : goal.returns
returns c =
    let a = c.args in
    let f = c.finish.ensures in
    let w = c.turn_of-t.ensures in
    let s = c.lent_number-lent.ensures in
    let p : c.finish.result ≡ answers (event_of a.e []) a.s a.map.now a.staging.now = rw (f.value, w, s) in
    record {
      answer = ap came p;
      map_is = rw (f.map_after, w, s);
      staging_is = rw (f.staging_after, w, s) (sym (no_part a.e _ _));
    }
