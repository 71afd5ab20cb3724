use mathlib.Core.Path.{◌≡◌, sym, ap, ◌∙◌}
use native.Mathlib.Omega.{arith}
use Rattle.rules_base.specs.Summary.{some, is_set}
use Rattle.rules_base.proofs.Places.{sixteen-set}
use Rattle.rules_base.proofs.Bits.{shl_one, bits-start, bits_in, bits_out}
use borrow.Author.Tests.{eq-eqb, ne_eqb}
use mathlib.Core.Bool.{Bool, not}
use Prim.Native.Nat.{ℕ, ◌+◌, ◌*◌}
use Rattle.map_summary.proofs.summaries.over.Goals as goal
use Rattle.map_summary.proofs.summaries.over.Goals.{then-words-m-ne0, else-words-m-ne0}

pub loop-i-init : goal.loop-i-init
loop-i-init c = sym (bits-start _)

pub loop-i-preserved : goal.loop-i-preserved
loop-i-preserved c =
    let s = c.args in
    let k = c.loop-i in
    let t : ℕ → Bool = λ j. some (is_set s.words.now) (384 * s.m + 16 * j) 16 in
    let e = sixteen-set s.words.now s.m k.i in
    elim c.if-words-m-ne0.branch [
      | then-words-m-ne0 w ↦ bits_in t k.i k.got c.if-words-m-ne0.got (sym e ∙ ap not (ne_eqb _ 0 w.if-words-m-ne0.true)) k.invariant (rw (← shl_one k.i (omega arith)) w.got-is)
      | else-words-m-ne0 w ↦ w.got-is ∙ bits_out t k.i k.got (sym e ∙ ap not (eq-eqb _ 0 w.if-words-m-ne0.false)) k.invariant
    ]

pub returns : goal.returns
returns c = let q : c.loop-i.i ≡ 16 = omega arith in rw q at c.loop-i.invariant
