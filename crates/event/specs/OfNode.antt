-- What a value is among the events of the rules: the part that is taken is the lent one.
use Rattle.std.specs.Prelude.{◌≡◌, List, ℕ}
use Rattle.event.specs.declared.NodeEvent.{NodeEvent}
use Rattle.rules_node.specs.Events.{Event}

abbrev pub event_of : NodeEvent → List ℕ → Event
event_of NodeEvent.RegisterCreate zs = Event.register_create
event_of (NodeEvent.RegisterAdd set version) zs = Event.register_add set version
event_of (NodeEvent.Unregister delete) zs = Event.unregister delete
event_of (NodeEvent.JoinCreate set) zs = Event.join_create set
event_of NodeEvent.JoinAssemble zs = Event.assemble
event_of (NodeEvent.Leave delete) zs = Event.leave delete
event_of (NodeEvent.Enable1 version set) zs = Event.enable1 version set
event_of NodeEvent.Enable0 zs = Event.enable0
event_of NodeEvent.Fault zs = Event.fault
event_of (NodeEvent.Write chunk set version) zs = Event.write chunk set version
event_of (NodeEvent.Synced member chunk) zs = Event.synced member chunk
event_of (NodeEvent.PoolInfo op member) zs = Event.pool_info op member
event_of (NodeEvent.LastIo chosen) zs = Event.last_io_to_map chosen
event_of (NodeEvent.MapReady keep) zs = Event.map_ready keep
event_of (NodeEvent.GivePart offset length) zs = Event.give_part offset length
event_of (NodeEvent.TakePart offset length m) zs = Event.take_part offset zs
event_of (NodeEvent.MapDone enabling version set) zs = Event.map_done enabling version set
event_of NodeEvent.MapDisable zs = Event.map_disable
event_of NodeEvent.MapGetVer zs = Event.map_get_ver
event_of (NodeEvent.Fill member version) zs = Event.fill member version

-- every event of the theorems is that of a call
pub record Called (e : Event) : Type 0 where
  pub call : NodeEvent
  pub zs : List ℕ
  pub is : event_of call zs ≡ e
