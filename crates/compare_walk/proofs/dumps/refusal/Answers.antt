use Rattle.std.proofs.Common.{arith, sym}
use mathlib.Core.Logic.{inl, inr}
use Rattle.compare_walk.proofs.DumpsLaws.{short, no_member, taken, taken-none, taken-no}
use Rattle.compare_walk.proofs.dumps.refusal.Goals as goal
use Rattle.compare_walk.proofs.dumps.refusal.Goals.{then-first-ne-MAP_BYTES-via-then-first-ne-MAP_BYTES, then-first-ne-MAP_BYTES-via-else-first-ne-MAP_BYTES+then-second-ne-MAP_BYTES}

pub returns-then-first-ne-MAP_BYTES : goal.returns-then-first-ne-MAP_BYTES
returns-then-first-ne-MAP_BYTES c = elim c.then-first-ne-MAP_BYTES.branch [
  | then-first-ne-MAP_BYTES-via-then-first-ne-MAP_BYTES w ↦ sym (taken-no _ _ _ 2 (λ k. omega arith) (short _ _ _ (inl w.if-first-ne-MAP_BYTES.true)))
  | then-first-ne-MAP_BYTES-via-else-first-ne-MAP_BYTES+then-second-ne-MAP_BYTES w ↦ sym (taken-no _ _ _ 2 (λ k. omega arith) (short _ _ _ (inr w.if-second-ne-MAP_BYTES.true)))
]

pub returns-then-member-gt15 : goal.returns-then-member-gt15
returns-then-member-gt15 c = sym (taken-no _ _ _ 3 (λ k. omega arith) (no_member _ _ _ c.if-first-ne-MAP_BYTES.false c.if-second-ne-MAP_BYTES.false c.if-member-gt15.true))

pub returns : goal.returns
returns c = sym (taken-none _ _ _ (taken _ _ _ c.if-first-ne-MAP_BYTES.false c.if-second-ne-MAP_BYTES.false (omega arith)))
