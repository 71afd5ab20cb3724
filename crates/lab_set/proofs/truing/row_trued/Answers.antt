use Rattle.std.proofs.Common.{refl, arith, ◌≡◌, ◌≤◌, ◌+◌, ◌-◌, ◌*◌, length}
use borrow.Author.Tests.{lt-ltb, le-ltb}
use Rattle.std.proofs.Math.Seq.{drop-drop}
use Rattle.rules_base.specs.Summary.{summaries_of}
use Rattle.lab_set.specs.Truing.{row_trued}
use Rattle.lab_set.proofs.Row.{row-put}
use Rattle.lab_set.proofs.truing.row_trued.Goals as goal

pub returns-then-m-gt15 : goal.returns-then-m-gt15
unfolding row_trued
returns-then-m-gt15 c = rw (le-ltb c.args.m 16 (omega arith)) refl

pub returns : goal.returns
unfolding row_trued
returns c =
    let m = c.args.m in
    let six : 6 * m + 6 - 6 * m ≡ 6 = omega arith in
    let first : 6 * m + 0 ≡ 6 * m = omega arith in
    let words : 6 * m + 0 + 6 ≤ length c.args.words = omega arith in
    let all : 6 * m + 0 + 6 ≤ length (summaries_of c.args.map.now) = rw (← c.of_map-all.ensures) (omega arith) in
    rw (lt-ltb m 16 (omega arith), row-put 6 (6 * m) 0 (summaries_of c.args.map.now) c.args.words words all, first, c.copy_from_slice.ensures.after, six, drop-drop, c.of_map-all.ensures) refl
