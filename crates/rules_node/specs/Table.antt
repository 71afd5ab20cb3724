-- Source document 003 as the rules condense it: which event may take a node from which state to which.
use Rattle.std.specs.Prelude.{Bool, ◌&&◌, ◌||◌}
use Rattle.rules_node.specs.declared.State.{State}
use Rattle.rules_node.specs.States.{is_empty, is_registered, is_created, is_normal, is_no_io, is_joined}

-- the events of a node, by name
pub data Kind : Type 0 where
  register_create : Kind
  register_add : Kind
  unregister : Kind
  join_create : Kind
  assemble : Kind
  leave : Kind
  enable1 : Kind
  enable0 : Kind
  fault : Kind
  write : Kind
  synced : Kind
  pool_info : Kind
  map_ready : Kind
  give_part : Kind
  take_part : Kind
  map_done : Kind
  map_disable : Kind
  map_get_ver : Kind
  last_io_to_map : Kind
  fill : Kind

-- the same state, one with a session
abbrev pub stays : State → State → Bool
stays from to = (is_created from && is_created to) || ((is_normal from && is_normal to) || (is_no_io from && is_no_io to))

-- the table: event, from, to
abbrev pub legal : Kind → State → State → Bool
legal register_create from to = is_empty from && is_registered to
legal register_add from to = (is_empty from && is_registered to) || (is_no_io from && is_no_io to)
legal unregister from to = (is_registered from && is_empty to) || (is_no_io from && is_no_io to)
legal join_create from to = is_registered from && is_created to
legal assemble from to = (is_registered from || (is_normal from || is_no_io from)) && is_no_io to
legal leave from to = (is_joined from && is_registered to) || (is_no_io from && is_empty to)
legal enable1 from to = is_joined from && is_normal to
legal enable0 from to = (is_normal from || is_no_io from) && is_no_io to
legal fault from to = (is_normal from || is_no_io from) && is_no_io to
legal write from to = is_normal from && is_normal to
legal synced from to = is_normal from && is_normal to
legal pool_info from to = stays from to
legal map_ready from to = is_joined from && is_no_io to
legal give_part from to = stays from to
legal take_part from to = is_no_io from && is_no_io to
legal map_done from to = is_no_io from && (is_normal to || is_no_io to)
legal map_disable from to = is_no_io from && is_no_io to
legal map_get_ver from to = stays from to
legal last_io_to_map from to = stays from to
legal fill from to = stays from to
