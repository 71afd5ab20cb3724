-- What a value is among the events of the rules. xs is the client's map, zs the map that synced reads.
use Rattle.std.specs.Prelude.{◌≡◌, List, ℕ}
use Rattle.event.specs.declared.Event as value
use Rattle.rules_client.specs.Client.{Client, carried, extend_turn, remove_turn, write_turn, answer_turn, check_turn}
use Rattle.rules_client.specs.Events as pool
use Rattle.rules_client.specs.ClientEvents.{Event}

abbrev pub event_of : value.Event → List ℕ → List ℕ → Event
event_of (value.Event.JoinCreate id) xs zs = Event.of_pool (pool.Event.join_create id)
event_of (value.Event.JoinAssemble id set version) xs zs = Event.of_pool (pool.Event.join_assemble id set version)
event_of (value.Event.Enable id) xs zs = Event.of_pool (pool.Event.enable id)
event_of (value.Event.Maintenance id) xs zs = Event.of_pool (pool.Event.maintenance id)
event_of (value.Event.LinkDown id) xs zs = Event.of_pool (pool.Event.link_down id)
event_of (value.Event.StoreCheck id) xs zs = Event.of_pool (pool.Event.store_check id)
event_of (value.Event.Rejoin id) xs zs = Event.of_pool (pool.Event.rejoin id)
event_of value.Event.Try xs zs = Event.of_pool pool.Event.try_run
event_of (value.Event.Remove id mode) xs zs = Event.of_pool (pool.Event.remove xs id mode)
event_of (value.Event.Write chunk reached) xs zs = Event.of_pool (pool.Event.write xs chunk reached)
event_of (value.Event.Synced member chunk n) xs zs = Event.of_pool (pool.Event.synced zs member chunk)
event_of (value.Event.Answer number a) xs zs = Event.of_pool (pool.Event.answer xs number a)
event_of value.Event.Extend xs zs = Event.of_pool (pool.Event.extend xs)
event_of value.Event.Tick xs zs = Event.tick xs
event_of (value.Event.CheckAnswer number m empty) xs zs = Event.check_answer xs number m empty

-- which of the two maps is lent
abbrev pub lent_of : value.Event → List ℕ → List ℕ → pool.Lent
lent_of (value.Event.JoinCreate id) own other = pool.Lent.none
lent_of (value.Event.JoinAssemble id set version) own other = pool.Lent.none
lent_of (value.Event.Enable id) own other = pool.Lent.none
lent_of (value.Event.Maintenance id) own other = pool.Lent.none
lent_of (value.Event.LinkDown id) own other = pool.Lent.none
lent_of (value.Event.StoreCheck id) own other = pool.Lent.none
lent_of (value.Event.Rejoin id) own other = pool.Lent.none
lent_of value.Event.Try own other = pool.Lent.none
lent_of (value.Event.Remove id mode) own other = pool.Lent.some own
lent_of (value.Event.Write chunk reached) own other = pool.Lent.some own
lent_of (value.Event.Synced member chunk n) own other = pool.Lent.some other
lent_of (value.Event.Answer number a) own other = pool.Lent.some own
lent_of value.Event.Extend own other = pool.Lent.some own
lent_of value.Event.Tick own other = pool.Lent.some own
lent_of (value.Event.CheckAnswer number m empty) own other = pool.Lent.some own

-- the client's map after the event: as it was where it is not lent, and where it is only read
abbrev pub own_left : value.Event → Client → List ℕ → List ℕ
own_left (value.Event.JoinCreate id) c xs = xs
own_left (value.Event.JoinAssemble id set version) c xs = xs
own_left (value.Event.Enable id) c xs = xs
own_left (value.Event.Maintenance id) c xs = xs
own_left (value.Event.LinkDown id) c xs = xs
own_left (value.Event.StoreCheck id) c xs = xs
own_left (value.Event.Rejoin id) c xs = xs
own_left value.Event.Try c xs = xs
own_left (value.Event.Remove id mode) c xs = carried (remove_turn c.pool xs id mode).effect xs
own_left (value.Event.Write chunk reached) c xs = carried (write_turn c.pool xs chunk reached).effect xs
own_left (value.Event.Synced member chunk n) c xs = xs
own_left (value.Event.Answer number a) c xs = carried (answer_turn c.pool xs number a).effect xs
own_left value.Event.Extend c xs = carried (extend_turn c.pool xs).effect xs
own_left value.Event.Tick c xs = xs
own_left (value.Event.CheckAnswer number m empty) c xs = carried (check_turn c xs number m empty).effect xs

-- every event of the theorems is that of a call
pub record Called (e : Event) : Type 0 where
  pub call : value.Event
  pub xs : List ℕ
  pub zs : List ℕ
  pub is : event_of call xs zs ≡ e
