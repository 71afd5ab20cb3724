use native.Mathlib.Numerals.{add-one}
use native.Mathlib.Omega.{arith}
use Prim.Native.Nat.{◌<◌}
use lib.ListN.{length}
use Rattle.audit_list.proofs.AuditorLaws.{walk_more, walk-done}
use Rattle.audit_list.proofs.auditor.audit.Goals as goal

pub loop-r-preserved : goal.loop-r-preserved
loop-r-preserved c =
    let v = c.loop-r in
    let small : v.r-index < length c.args.log.now = omega arith in
    rw (c.turn-w.ensures, add-one) (walk_more v.w _ c.args.log.now v.r-index _ small v.invariant)

pub returns : goal.returns
returns c =
    let v = c.loop-r in
    walk-done v.w _ c.args.log.now v.r-index (omega arith) v.invariant
