use Prim.Native.Nat.{◌*◌, ◌+◌, ◌-◌}
use Rattle.text_bytes.specs.Ink.{emit}
use borrow.Author.Tests.{le-ltb}
use mathlib.Core.Path.{ap, ◌∙◌, ◌≡◌}
use native.Mathlib.Omega.{arith}
use Rattle.lab_say_line.proofs.row_line.Goals as goal

pub returns-clause-value : goal.returns-clause-value
returns-clause-value c = let n = c.args.n in
    let h : n * 8192 + 8192 - n * 8192 ≡ 8192 = omega arith in
    rw (le-ltb _ _ c.if-n-gt15.false, le-ltb _ _ c.if-all-e.false)
    (c.put.ensures.value ∙ ap (λ k. emit k 10) (rw h at c.put_row.ensures.value))
