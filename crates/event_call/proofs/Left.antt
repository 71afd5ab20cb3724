-- The map that a call leaves in the lent one's place is the one that the rules leave.
use mathlib.Core.Path.{◌≡◌, refl}
use mathlib.Core.List.{List}
use Prim.Native.Nat.{ℕ}
use Rattle.rules_client.specs.Client.{Client}
use Rattle.rules_client.specs.ClientEvents.{map_left}
use Rattle.event.specs.declared.Event.{Event}
use Rattle.event.specs.OfClient.{event_of, lent_of, own_left}

pub lent-left : (e : Event) (c : Client) (xs zs : List ℕ) → lent_of e (own_left e c xs) zs ≡ map_left (event_of e xs zs) c
lent-left (Event.JoinCreate id) c xs zs = refl
lent-left (Event.JoinAssemble id set version) c xs zs = refl
lent-left (Event.Enable id) c xs zs = refl
lent-left (Event.Maintenance id) c xs zs = refl
lent-left (Event.LinkDown id) c xs zs = refl
lent-left (Event.StoreCheck id) c xs zs = refl
lent-left (Event.Rejoin id) c xs zs = refl
lent-left Event.Try c xs zs = refl
lent-left (Event.Remove id mode) c xs zs = refl
lent-left (Event.Write chunk reached) c xs zs = refl
lent-left (Event.Synced member chunk n) c xs zs = refl
lent-left (Event.Answer number a) c xs zs = refl
lent-left Event.Extend c xs zs = refl
lent-left Event.Tick c xs zs = refl
lent-left (Event.CheckAnswer number m empty) c xs zs = refl
