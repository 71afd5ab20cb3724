-- What an event leaves of a node is a node with the summaries of its map.
use mathlib.Core.Path.{◌≡◌, ap}
use mathlib.Core.List.{List}
use Prim.Native.Nat.{ℕ}
use Rattle.rules_base.proofs.Summaries.{one-summary}
use Rattle.rules_node.specs.Face.{StorageNode}
use Rattle.rules_node.specs.Face.{answers}
use Rattle.laws_node.proofs.Theorems.{stays-true}
use Rattle.rules_world.specs.Station.{face, does, FaceStays}

pub face-stays : FaceStays
unfolding does
face-stays s e = ap (λ (ws : List ℕ). holding ws) (stays-true e (face s) s.map s.staging (one-summary.agrees s.map))
  where
    holding : List ℕ → StorageNode
    holding ws = record { node = (answers e (face s) s.map s.staging).node.node; summaries = ws }
