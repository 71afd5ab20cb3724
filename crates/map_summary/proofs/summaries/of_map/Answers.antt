use mathlib.Core.Path.{◌≡◌}
use native.Mathlib.Omega.{arith}
use Rattle.rules_base.proofs.Words.{all_words}
use Rattle.map_summary.proofs.summaries.of_map.Goals as goal

pub returns : goal.returns
returns c = let k = c.loop-j in let q : k.j ≡ 96 = omega arith in all_words k.words c.args.map.now k.invariant.0 (rw q at k.invariant.1)
