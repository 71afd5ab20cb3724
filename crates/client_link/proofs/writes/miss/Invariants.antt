use Rattle.laws_words.specs.Loops.{Runs}
use Rattle.rules_client.specs.Writes.{miss_step}
use Rattle.client_link.proofs.writes.miss.Given as goal

abbrev pub invariant-loop-i : goal.invariant-loop-i
invariant-loop-i l = Runs 16 (miss_step l.reached) l.initial.next l.next l.i
