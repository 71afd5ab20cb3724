use borrow.Author.Rules.{rules}
use native.Mathlib.Omega.{arith}
use Rattle.laws_words.specs.Loops.{unmapped}
use Rattle.audit_record.proofs.Failures.{sums-start, sums-more, sums-low}
use Rattle.audit_record.proofs.records.causes.Goals as goal

pub loop-i-init : goal.loop-i-init
loop-i-init c = sums-start _ (search (rules, unmapped))

pub loop-i-preserved : goal.loop-i-preserved
loop-i-preserved c = rw c.cause_number.ensures (sums-more _ c.loop-i.invariant c.loop-i-test.true)

pub overflow_mul-n : goal.overflow_mul-n
overflow_mul-n c = omega (arith, sums-low c.loop-i.invariant)

pub overflow_add-n : goal.overflow_add-n
overflow_add-n c = omega (arith, sums-low (loop-i-preserved c))
