-- What is met on the parts that were cut out is met on the lent maps, and put back there.
use mathlib.Core.Path.{◌≡◌, ap}
use mathlib.Core.List.{List}
use Prim.Native.Nat.{ℕ, ◌-◌}
use lib.ListN.{length, take, drop}
use borrow.Rule.Slice.PartMut.{put_mid}
use Rattle.event.specs.declared.Event as value
use Rattle.client.specs.declared.Client.{Client}
use Rattle.client.specs.declared.Out.{Out}
use Rattle.client.specs.Client.{held, came, given}
use Rattle.rules_client.specs.Events.{Lent as LentMap}
use Rattle.rules_client.specs.ClientEvents.{Meets}
use Rattle.event_ask.specs.declared.lending.Lent.{Lent}
use Rattle.event_ask.specs.declared.lending.Span.{Span}
use Rattle.event_ask.specs.Lending.{cut, Stands}
use Rattle.event_ask.proofs.Parts.{part-is, put_is}
use Rattle.event.specs.OfClient.{event_of, own_left}
use Rattle.lab_lend.specs.Client.{lender, read_of, client_hands, own_after}

module _ (lent : Lent) (e : value.Event) (own xs : List ℕ) {c : Client} {map read : List ℕ} {left : LentMap} {r : Out} {s : Span} where
  pub lent-meets : Stands (length own) 0 (cut lent.own) s
      → read ≡ read_of lent (lender e) xs
      → Meets (event_of e (take (s.to - s.from) (drop s.from own)) read) (held c) (came r) left
      → map ≡ own_left e (held c) (take (s.to - s.from) (drop s.from own))
      → (r ≡ client_hands c lent e own xs) × (put_mid s.from (s.to - s.from) own map ≡ own_after c lent e own)
  lent-meets x y p q =
      (ap given (rw (part-is own x, y) at p).answer, put_is own x (rw (part-is own x) at q))
