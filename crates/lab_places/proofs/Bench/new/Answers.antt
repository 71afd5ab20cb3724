use Rattle.std.proofs.Common.{refl}
use Rattle.lab_places.proofs.Bench.new.Goals as goal

pub returns : goal.returns
returns c = rw c.renew.ensures refl
