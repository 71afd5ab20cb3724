use Rattle.std.proofs.Common.{rules, arith, sym, ◌≡◌, ◌∙◌, Some}
use Rattle.compare_walk.specs.Differences.{which_at}
use Rattle.compare_walk.proofs.Places.{seek-here, seek-on, seek-end, is_found, is-over, some-none, is-difference}
use Rattle.compare_walk.proofs.differences.seek.Goals as goal

pub returns-in-Some : goal.returns-in-Some
returns-in-Some c =
    let e : which_at c.args.first.now c.args.second.now c.loop-p.p ≡ Some c.in-Some.which = sym c.which.ensures ∙ c.in-Some.is in
    let h = seek-here c.args.first.now c.args.second.now c.loop-p.p (omega arith) (some-none e) in
    rw (← c.loop-p.invariant, h, is_found c.args.first.now c.args.second.now c.loop-p.p (omega arith), is-difference _ _ _ _ e)

pub loop-p-preserved : goal.loop-p-preserved
loop-p-preserved c = sym (seek-on _ _ _ (search rules) (sym c.which.ensures ∙ c.in_default.is)) ∙ c.loop-p.invariant

pub returns : goal.returns
returns c = rw (← c.loop-p.invariant, seek-end c.args.first.now c.args.second.now c.loop-p.p (omega arith), is-over c.args.first.now c.args.second.now c.loop-p.p (omega arith))
