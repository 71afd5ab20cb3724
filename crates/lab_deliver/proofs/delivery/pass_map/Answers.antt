use Rattle.std.proofs.Common.{refl, sym, arith, ◌≡◌, ◌∙◌, ◌+◌, ◌-◌, ◌<◌}
use Rattle.rules_base.specs.Limits.{map_bytes}
use Rattle.lab_deliver.specs.Delivery.{whole, outcome, parts_from, map_passed}
use Rattle.lab_deliver.proofs.Parts.{parts-end, parts-more}
use Rattle.lab_deliver.proofs.delivery.pass_map.Goals as goal

pub loop-part-init : goal.loop-part-init
unfolding map_passed
loop-part-init c =
    record { inside = omega arith; rest = refl; loans = record { nodes = refl; maps = refl; stagings = refl } }

pub loop-part-preserved : goal.loop-part-preserved
loop-part-preserved c =
    let a = c.args in
    let v = c.loop-part in
    let passed = c.pass_part-a.ensures in
    let left : 0 < map_bytes - v.part = omega arith in
    let less : map_bytes - (v.part + 1) ≡ map_bytes - v.part - 1 = omega arith in
    let more = parts-more (map_bytes - v.part) a.w v.offset a.lent (outcome v.a (whole v.places)) left (sym c.goes_on.ensures ∙ c.if-not-goes_on.false) in
    record {
      inside = omega (arith, c.length_at-offset.ensures);
      rest = rw (passed.after, c.length_at-offset.ensures, less) more ∙ v.invariant.rest;
      loans =
          record {
            nodes = passed.loans.nodes ∙ v.invariant.loans.nodes;
            maps = passed.loans.maps ∙ v.invariant.loans.maps;
            stagings = passed.loans.stagings ∙ v.invariant.loans.stagings;
          };
    }

pub returns-after-loop-part : goal.returns-after-loop-part
unfolding parts_from
returns-after-loop-part c =
    let v = c.loop-part in
    let none : map_bytes - v.part ≡ 0 = omega arith in
    record { after = rw none at v.invariant.rest; loans = v.invariant.loans }

pub returns-then-not-goes_on : goal.returns-then-not-goes_on
returns-then-not-goes_on c =
    let a = c.args in
    let v = c.loop-part in
    record {
      after = sym (parts-end (map_bytes - v.part) a.w v.offset a.lent (outcome v.a (whole v.places)) (sym c.goes_on.ensures ∙ c.if-not-goes_on.true)) ∙ v.invariant.rest;
      loans = v.invariant.loans;
    }
