use Rattle.library_client_words.specs.PoolWords.{session_in}
use Rattle.library_client_words.proofs.Fills.{Fills}
use Rattle.library_client_words.proofs.pool_words.sessions_in.Given as goal

abbrev pub invariant-loop-i : goal.invariant-loop-i
invariant-loop-i l = Fills 16 session_in l.ws l.initial.ss l.ss l.i
