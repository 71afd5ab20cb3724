-- A client's event, its maps lent as far as the lab lends them. own is the client's map, xs holds the maps of all nodes.
use Rattle.std.specs.Prelude.{List, [], ℕ, Option, Some, None}
use Rattle.event.specs.declared.Event as value
use Rattle.client.specs.declared.Client.{Client}
use Rattle.client.specs.declared.Out.{Out}
use Rattle.client.specs.Client.{held, given}
use Rattle.rules_client.specs.ClientEvents.{Event, out_of}
use Rattle.event_ask.specs.declared.lending.Lent.{Lent}
use Rattle.event_ask.specs.Lending.{cut, size_of, part, put_back}
use Rattle.event.specs.OfClient.{event_of, own_left}

-- whose map is lent to synced; nobody's at any other event
abbrev pub lender : value.Event → Option ℕ
lender (value.Event.JoinCreate id) = None
lender (value.Event.JoinAssemble id set version) = None
lender (value.Event.Enable id) = None
lender (value.Event.Maintenance id) = None
lender (value.Event.LinkDown id) = None
lender (value.Event.StoreCheck id) = None
lender (value.Event.Rejoin id) = None
lender value.Event.Try = None
lender (value.Event.Remove id mode) = None
lender (value.Event.Write chunk reached) = None
lender (value.Event.Synced member chunk n) = Some n
lender (value.Event.Answer number a) = None
lender value.Event.Extend = None
lender value.Event.Tick = None
lender (value.Event.CheckAnswer number m empty) = None

-- the lent part of the client's map
abbrev pub own_of : Lent → List ℕ → List ℕ
own_of lent own = part own 0 (cut lent.own)

-- what is lent of a node's map, of the maps of all nodes
abbrev pub read_of : Lent → Option ℕ → List ℕ → List ℕ
read_of lent None xs = []
read_of lent (Some n) xs = part xs n (size_of lent.maps n)

-- the event of the theorems: what is read is the lent part of that node's map
abbrev pub lent_event : value.Event → Lent → List ℕ → List ℕ → Event
lent_event e lent own xs = event_of e (own_of lent own) (read_of lent (lender e) xs)

-- what the client hands back, and its map after the event: the lent part as the event leaves it, all other bytes as they were
abbrev pub client_hands : Client → Lent → value.Event → List ℕ → List ℕ → Out
client_hands c lent e own xs = given (out_of (lent_event e lent own xs) (held c))

abbrev pub own_after : Client → Lent → value.Event → List ℕ → List ℕ
own_after c lent e own = put_back own 0 (cut lent.own) (own_left e (held c) (own_of lent own))
