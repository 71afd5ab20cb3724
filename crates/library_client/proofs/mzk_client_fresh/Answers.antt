use borrow.Author.Tests.{lt-ltb, le-ltb}
use Rattle.library_client.specs.Library.{fresh_left}
use Rattle.library_client.proofs.mzk_client_fresh.Goals as goal

pub returns-then-sync-gt1-clause-state_after : goal.returns-then-sync-gt1-clause-state_after
unfolding fresh_left
returns-then-sync-gt1-clause-state_after c = rw (lt-ltb 1 c.args.sync c.if-sync-gt1.true)

pub returns-clause-state_after : goal.returns-clause-state_after
unfolding fresh_left
returns-clause-state_after c = rw (le-ltb 1 c.args.sync c.if-sync-gt1.false, c.pack.ensures.value, c.fresh.ensures)
