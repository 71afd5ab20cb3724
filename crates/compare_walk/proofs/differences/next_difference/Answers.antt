use Rattle.std.proofs.Common.{◌≡◌, ◌+◌, ◌*◌, ◌<◌, sym, ap, ◌∙◌, arith, Err}
use Rattle.std.proofs.lemmas.Result.{err_from_is_err_and}
use Rattle.compare_walk.specs.Differences.{place_of}
use Rattle.compare_walk.specs.Dumps.{dumps_refusal}
use Rattle.compare_walk.proofs.DumpsLaws.{good, is-taken}
use Rattle.compare_walk.proofs.Places.{next-taken, next-err}
use Rattle.compare_walk.proofs.differences.next_difference.Goals as goal

pub returns-in_err-refusal : goal.returns-in_err-refusal
returns-in_err-refusal c =
    let p = err_from_is_err_and c.from_residual.result c.from_residual.ensures.1 in
    p.1 ∙ ap Err p.2 ∙ sym (next-err _ _ _ _ _ (sym c.refusal.ensures ∙ c.in_err-refusal.was))

pub overflow_mul-member : goal.overflow_mul-member
overflow_mul-member c =
    let g : c.args.member < 16 = (good _ _ _ (is-taken _ _ _ _ (sym c.refusal.ensures ∙ c.in_ok-refusal.was))).member in
    omega arith

pub overflow_add-member : goal.overflow_add-member
overflow_add-member c =
    let g : c.args.member < 16 = (good _ _ _ (is-taken _ _ _ _ (sym c.refusal.ensures ∙ c.in_ok-refusal.was))).member in
    omega (arith, c.min.ensures)

pub returns : goal.returns
returns c =
    let b = c.args in
    let e : dumps_refusal b.first.now b.second.now b.member ≡ 0 = is-taken _ _ _ _ (sym c.refusal.ensures ∙ c.in_ok-refusal.was) in
    let a : place_of b.member b.chunk ≡ 4096 * b.member + c.min.result = omega (arith, c.min.ensures) in
    rw (next-taken _ _ _ b.chunk e, a, ← c.seek.ensures)
