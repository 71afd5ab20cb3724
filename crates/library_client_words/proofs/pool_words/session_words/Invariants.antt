use Rattle.library_client_words.specs.PoolWords.{session_word}
use Rattle.library_client_words.proofs.Fills.{Fills}
use Rattle.library_client_words.proofs.pool_words.session_words.Given as goal

abbrev pub invariant-loop-i : goal.invariant-loop-i
invariant-loop-i l = Fills 16 session_word l.ss l.initial.ws l.ws l.i
