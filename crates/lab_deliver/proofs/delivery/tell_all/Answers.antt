use Rattle.std.proofs.Common.{refl, ◌∙◌, add-one}
use Rattle.lab_deliver.specs.Delivery.{told_below}
use Rattle.lab_deliver.proofs.delivery.tell_all.Goals as goal

pub loop-i-init : goal.loop-i-init
unfolding told_below
loop-i-init c = record { after = refl; loans = record { nodes = refl; maps = refl; stagings = refl } }

pub loop-i-preserved : goal.loop-i-preserved
unfolding told_below
loop-i-preserved c =
    let before = c.loop-i.invariant.loans in
    let first = c.tell.ensures.loans in
    let second = c.tell-in-loop-i.ensures.loans in
    record {
      after = rw (add-one, ← c.loop-i.invariant.after, ← c.told_to-first.ensures, ← c.tell.ensures.after) c.tell-in-loop-i.ensures.after;
      loans = record { nodes = second.nodes ∙ first.nodes ∙ before.nodes; maps = second.maps ∙ first.maps ∙ before.maps; stagings = second.stagings ∙ first.stagings ∙ before.stagings };
    }
