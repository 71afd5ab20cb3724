use Rattle.rules_base.proofs.Bits.{shl_one}
use Rattle.rules_base.specs.Mend.{bit_put}
use Rattle.map_summary.proofs.mending.bit_put.Goals as goal

pub returns-then-on : goal.returns-then-on
unfolding bit_put
returns-then-on c = rw (shl_one c.args.k c.requires, c.if-on.true)

pub returns-else-on : goal.returns-else-on
unfolding bit_put
returns-else-on c = rw (shl_one c.args.k c.requires, c.if-on.false)
