use Rattle.laws_words.specs.Loops.{Maps}
use Rattle.rules_pool.specs.Changes.{unmarked}
use Rattle.client_state.proofs.changes.unmark_all.Given as goal

abbrev pub invariant-loop-s : goal.invariant-loop-s
invariant-loop-s l = Maps 16 unmarked l.initial.s-items l.s-items l.s-index
