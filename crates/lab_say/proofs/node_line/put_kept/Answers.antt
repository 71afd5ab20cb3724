use Prim.Native.Nat.{◌+◌}
use mathlib.Core.Path.{sym, ap, ◌∙◌}
use native.Mathlib.Omega.{arith}
use borrow.Author.Rules.{rules}
use Rattle.lab_say.specs.NodeLine.{commas, kept_text}
use Rattle.lab_say.proofs.NodeLineLaws.{commas-more, commas-end, kept-rest, chunks-none, chunks-some}
use Rattle.text_bytes.proofs.Laws.{emits-parts, emits_then, rest_more, rest-done}
use Rattle.lab_say.proofs.node_line.put_kept.Goals as goal

pub returns-then-from-eq16-clause-value : goal.returns-then-from-eq16-clause-value
unfolding kept_text
returns-then-from-eq16-clause-value c = let i = c.saturating_sub-from.result in
    rw (← c.saturating_sub-from.ensures, chunks-none c.args.kept i (omega arith)) c.put_bytes.ensures.value

pub loop-n-preserved : goal.loop-n-preserved
loop-n-preserved c = (c.put_sign.ensures.same_reference ∙ c.loop-n.invariant.0, rest_more _ c.loop-n.invariant.1 (search rules) (commas-more _ _ _ c.put_sign.ensures.value))

pub returns-clause-value : goal.returns-clause-value
unfolding kept_text
returns-clause-value c = let i = c.saturating_sub-from.result in
    let e = sym (commas-end _) ∙ rest-done c.loop-n.invariant.1 (search rules) in
    rw (← c.saturating_sub-from.ensures, chunks-some c.args.kept i (omega arith))
    (emits-parts _ _ (emits_then c.put_number.ensures.value (ap commas (kept-rest c.args.kept (i + 1) (search rules))) e))
