use Rattle.std.proofs.Common.{arith}
use borrow.Author.Tests.{eq-eqb, ne_eqb, lt-ltb, le-ltb}
use Rattle.rules_base.specs.Limits.{map_bytes}
use Rattle.status_row.specs.Writing.{member_answer, member_leaves}
use Rattle.status_row.proofs.writer.write_member.Goals as goal

pub returns-then-map-ne-MAP_BYTES : goal.returns-then-map-ne-MAP_BYTES
unfolding member_answer member_leaves
returns-then-map-ne-MAP_BYTES c = let e = ne_eqb _ map_bytes c.if-map-ne-MAP_BYTES.true in (rw e, rw e)

pub returns-then-m-gt15 : goal.returns-then-m-gt15
unfolding member_answer member_leaves
returns-then-m-gt15 c =
    let e = eq-eqb _ map_bytes c.if-map-ne-MAP_BYTES.false in
    let l = le-ltb _ 16 c.if-m-gt15.true in
    (rw (e, l), rw (e, l))

pub returns : goal.returns
unfolding member_answer member_leaves
returns c =
    let e = eq-eqb _ map_bytes c.if-map-ne-MAP_BYTES.false in
    let l = lt-ltb c.args.m 16 (omega arith) in
    let r = c.row.ensures in
    (rw (e, l, ← r) c.write.ensures.0, rw (e, l, ← r) c.write.ensures.1)
