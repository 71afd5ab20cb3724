-- What is met on the parts that were cut out is met on the node's maps, and put back there.
use mathlib.Core.Path.{◌≡◌, ap}
use mathlib.Core.List.{List}
use Prim.Native.Nat.{ℕ, ◌-◌}
use lib.ListN.{length, take, drop}
use borrow.Rule.Slice.PartMut.{put_mid}
use Rattle.event.specs.declared.NodeEvent.{NodeEvent}
use Rattle.rules_node.specs.declared.Answer.{Answer}
use Rattle.node.specs.declared.StorageNode.{StorageNode}
use Rattle.node.specs.declared.Out.{Out}
use Rattle.node.specs.Face.{held, came, given}
use Rattle.rules_node.specs.Unique.{Meets}
use Rattle.event_ask.specs.declared.lending.Lent.{Lent}
use Rattle.event_ask.specs.declared.lending.Span.{Span}
use Rattle.event_ask.specs.Lending.{size_of, Stands}
use Rattle.event_ask.proofs.Parts.{part-is, put_is}
use Rattle.event.specs.OfNode.{event_of}
use Rattle.lab_lend.specs.Node.{part_taken, node_answers, maps_left, stagings_left}

module _ (lent : Lent) (e : NodeEvent) (xs ys : List ℕ) {n : StorageNode} {k : ℕ} {zs map staging : List ℕ} {r : Out Answer} {s t : Span} where
  pub lent-meets : Stands (length xs) k (size_of lent.maps k) s
      → Stands (length ys) k (size_of lent.stagings k) t
      → zs ≡ part_taken e xs
      → Meets (event_of e zs) (held n) (take (s.to - s.from) (drop s.from xs)) (take (t.to - t.from) (drop t.from ys)) (came r) map staging
      → (r ≡ node_answers n k lent e xs ys)
      × ((put_mid s.from (s.to - s.from) xs map ≡ maps_left n k lent e xs ys)
      × (put_mid t.from (t.to - t.from) ys staging ≡ stagings_left n k lent e xs ys))
  lent-meets x y z p =
      let q = rw (part-is xs x, part-is ys y, z) at p in
      (ap given q.answer, (put_is xs x q.map_is, put_is ys y q.staging_is))
