use Rattle.laws_words.specs.Gather.{Gathers}
use Rattle.rules_pool.specs.Sessions.{is_kind}
use Rattle.client_state.proofs.roster.ids.Given as goal

abbrev pub invariant-loop-i : goal.invariant-loop-i
invariant-loop-i l = Gathers 16 (is_kind l.k l.fn.ro.sync l.fn.ro.members) l.s-items l.n l.i
