use Rattle.std.proofs.Common.{rules}
use Rattle.rules_pool.specs.Session.{free}
use Rattle.library_client_words.proofs.Fills.{fills-start, fills-more, fills-done}
use Rattle.library_client_words.proofs.pool_words.session_words.Goals as goal

pub loop-i-init : goal.loop-i-init
loop-i-init c = fills-start (search rules) (search rules)

pub loop-i-preserved : goal.loop-i-preserved
loop-i-preserved c = fills-more free 0 c.loop-i.invariant (search rules) c.session_word.ensures

pub returns : goal.returns
returns c = fills-done c.loop-i.invariant (search rules)
