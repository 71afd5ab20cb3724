-- Every event that the theorems speak of is that of a call.
use mathlib.Core.Path.{refl}
use mathlib.Core.List.{[]}
use Rattle.event.specs.declared.NodeEvent.{NodeEvent}
use Rattle.rules_node.specs.Events.{Event}
use Rattle.event.specs.OfNode.{Called}

pub called : (e : Event) → Called e
called Event.register_create = record { call = NodeEvent.RegisterCreate; zs = []; is = refl }
called (Event.register_add set version) = record { call = NodeEvent.RegisterAdd set version; zs = []; is = refl }
called (Event.unregister delete) = record { call = NodeEvent.Unregister delete; zs = []; is = refl }
called (Event.join_create set) = record { call = NodeEvent.JoinCreate set; zs = []; is = refl }
called Event.assemble = record { call = NodeEvent.JoinAssemble; zs = []; is = refl }
called (Event.leave delete) = record { call = NodeEvent.Leave delete; zs = []; is = refl }
called (Event.enable1 version set) = record { call = NodeEvent.Enable1 version set; zs = []; is = refl }
called Event.enable0 = record { call = NodeEvent.Enable0; zs = []; is = refl }
called Event.fault = record { call = NodeEvent.Fault; zs = []; is = refl }
called (Event.write chunk set version) = record { call = NodeEvent.Write chunk set version; zs = []; is = refl }
called (Event.synced member chunk) = record { call = NodeEvent.Synced member chunk; zs = []; is = refl }
called (Event.pool_info op member) = record { call = NodeEvent.PoolInfo op member; zs = []; is = refl }
called (Event.last_io_to_map chosen) = record { call = NodeEvent.LastIo chosen; zs = []; is = refl }
called (Event.map_ready keep) = record { call = NodeEvent.MapReady keep; zs = []; is = refl }
called (Event.give_part offset length) = record { call = NodeEvent.GivePart offset length; zs = []; is = refl }
called (Event.take_part offset zs) = record { call = NodeEvent.TakePart offset 0 0; zs = zs; is = refl }
called (Event.map_done enabling version set) = record { call = NodeEvent.MapDone enabling version set; zs = []; is = refl }
called Event.map_disable = record { call = NodeEvent.MapDisable; zs = []; is = refl }
called Event.map_get_ver = record { call = NodeEvent.MapGetVer; zs = []; is = refl }
called (Event.fill member version) = record { call = NodeEvent.Fill member version; zs = []; is = refl }
