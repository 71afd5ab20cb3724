-- C-17, the stronger sentence: when the client zeroes a row, the member's own node still has an empty row for itself.
use Rattle.std.specs.Prelude.{◌≡◌, Bool, List, ℕ, ◌<◌}
use Rattle.rules_base.specs.Chunk.{dirty}
use Rattle.theorem_map_check.specs.Checks.{Zeroes}
use Rattle.theorem_forgotten.specs.Premises.{Kept}
use Rattle.theorem_map_check.specs.Watched.{Watched, client_of, Watching, unchecked}

-- Assumed: C-15's premises, and that the answer which zeroes the row is what the member's own node answered to the last tick (of no other answer is anything asked). Between that answer and its coming to the
-- client anything may happen. With one answer in place of two in a row it would be false: a leg may answer, be lost, miss a write and be back by a run before its answer is taken.
abbrev pub StillEmpty : Type 0
StillEmpty = (v : Watched) (h : Watching v) → Kept (unchecked h) → (xs : List ℕ) (number m : ℕ) (empty : Bool) → Zeroes (client_of v) xs number m empty m → v.found m ≡ empty
    → (k : ℕ) → k < 4096 → dirty (v.world.nodes m).map m k ≡ 0
