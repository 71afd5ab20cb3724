use Rattle.std.proofs.Common.{rules, refl}
use Rattle.rules_pool.specs.Session.{free}
use Rattle.library_client_words.proofs.Fills.{fills-start, fills-more, fills-done}
use Rattle.library_client_words.proofs.pool_words.sessions_in.Goals as goal

pub loop-i-init : goal.loop-i-init
loop-i-init c = fills-start (search rules) refl

pub loop-i-preserved : goal.loop-i-preserved
loop-i-preserved c = fills-more 0 free c.loop-i.invariant (search rules) c.session_in.ensures

pub returns : goal.returns
returns c = fills-done c.loop-i.invariant (search rules)
