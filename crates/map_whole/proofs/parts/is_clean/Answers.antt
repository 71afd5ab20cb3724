use Rattle.rules_base.proofs.PartsClean.{clean-more, clean-none}
use Rattle.rules_base.specs.Map.{clean_from}
use Rattle.std.proofs.Math.Bool.{and_assoc, and-true}
use native.Mathlib.Omega.{arith}
use native.Mathlib.Numerals.{add-one}
use lib.ListN.{length}
use mathlib.Core.Path.{◌≡◌}
use Rattle.map_whole.proofs.parts.is_clean.Goals as goal

pub loop-i-preserved : goal.loop-i-preserved
loop-i-preserved c = let a = c.args in rw (c.byte_ok-ok.ensures, add-one c.loop-i.i, and_assoc, ← clean-more a.n a.offset a.part.now c.loop-i.i (omega arith)) c.loop-i.invariant

pub returns : goal.returns
unfolding clean_from
returns c = let q : c.loop-i.i ≡ length c.args.part.now = omega arith in rw (q, clean-none, and-true) at c.loop-i.invariant
