-- One session record: the tests on its state, and the ways to change it; the test on a message.
use Rattle.std.specs.Prelude.{Bool, true, false, ◌&&◌, ◌||◌, not}
use Rattle.rules_pool.specs.declared.Mode.{Mode}
use Rattle.rules_pool.specs.declared.Cause.{Cause}
use Rattle.rules_pool.specs.declared.State.{State}
use Rattle.rules_pool.specs.declared.Session.{Session}
use Rattle.rules_pool.specs.declared.Message.{Message}

-- the id has no session
abbrev pub is_free : State → Bool
is_free State.Free = true
is_free State.Created = false
is_free State.Normal = false
is_free (State.Failed cause) = false
is_free State.Reconnecting = false
is_free (State.Removing m owed) = false

abbrev pub is_created : State → Bool
is_created State.Free = false
is_created State.Created = true
is_created State.Normal = false
is_created (State.Failed cause) = false
is_created State.Reconnecting = false
is_created (State.Removing m owed) = false

abbrev pub is_normal : State → Bool
is_normal State.Free = false
is_normal State.Created = false
is_normal State.Normal = true
is_normal (State.Failed cause) = false
is_normal State.Reconnecting = false
is_normal (State.Removing m owed) = false

abbrev pub is_failed : State → Bool
is_failed State.Free = false
is_failed State.Created = false
is_failed State.Normal = false
is_failed (State.Failed cause) = true
is_failed State.Reconnecting = false
is_failed (State.Removing m owed) = false

abbrev pub is_link : Cause → Bool
is_link Cause.Link = true
is_link Cause.Io = false

-- FAILED with cause link
abbrev pub is_cut : State → Bool
is_cut State.Free = false
is_cut State.Created = false
is_cut State.Normal = false
is_cut (State.Failed cause) = is_link cause
is_cut State.Reconnecting = false
is_cut (State.Removing m owed) = false

abbrev pub is_reconnecting : State → Bool
is_reconnecting State.Free = false
is_reconnecting State.Created = false
is_reconnecting State.Normal = false
is_reconnecting (State.Failed cause) = false
is_reconnecting State.Reconnecting = true
is_reconnecting (State.Removing m owed) = false

abbrev pub is_removing : State → Bool
is_removing State.Free = false
is_removing State.Created = false
is_removing State.Normal = false
is_removing (State.Failed cause) = false
is_removing State.Reconnecting = false
is_removing (State.Removing m owed) = true

abbrev pub is_delete : Mode → Bool
is_delete Mode.Delete = true
is_delete Mode.Disassemble = false

-- being deleted: REMOVING in delete mode, its removal in hand or halted
abbrev pub is_deleting : State → Bool
is_deleting State.Free = false
is_deleting State.Created = false
is_deleting State.Normal = false
is_deleting (State.Failed cause) = false
is_deleting State.Reconnecting = false
is_deleting (State.Removing m owed) = is_delete m

-- REMOVING, and LEAVE_POOL is still owed
abbrev pub is_owed : State → Bool
is_owed State.Free = false
is_owed State.Created = false
is_owed State.Normal = false
is_owed (State.Failed cause) = false
is_owed State.Reconnecting = false
is_owed (State.Removing m owed) = owed

-- a session that POOL_INFO goes to: there is one, and it is not FAILED or REMOVING
abbrev pub is_told : State → Bool
is_told State.Free = false
is_told State.Created = true
is_told State.Normal = true
is_told (State.Failed cause) = false
is_told State.Reconnecting = true
is_told (State.Removing m owed) = false

-- candidate: RECONNECTING, not in maintenance
abbrev pub candidate : Session → Bool
candidate s = is_reconnecting s.state && not s.maintenance

-- the record of a session that begins in this state
abbrev pub new_session : State → Session
new_session st = record { state = st; maintenance = false; mark = false }

-- no session
abbrev pub free : Session
free = new_session State.Free

-- The record in another state. The maintenance flag and the mark stand on FAILED and RECONNECTING only.
abbrev pub moved : Session → State → Session
moved s to =
    record {
      state = to;
      maintenance = s.maintenance && (is_failed to || is_reconnecting to);
      mark = s.mark && (is_failed to || is_reconnecting to);
    }

abbrev pub flagged : Session → Bool → Session
flagged s on = record { state = s.state; maintenance = on; mark = s.mark }

abbrev pub marked : Session → Bool → Session
marked s on = record { state = s.state; maintenance = s.maintenance; mark = on }

-- nothing is awaited
abbrev pub is_nothing : Message → Bool
is_nothing Message.Nothing = true
is_nothing (Message.GetVersion to) = false
is_nothing (Message.Ready to keep) = false
is_nothing (Message.Send to receiver) = false
is_nothing (Message.Done to enable version members) = false
is_nothing (Message.LastIo to chosen) = false
is_nothing (Message.Enable to version members) = false
is_nothing (Message.Leave to mode) = false
is_nothing (Message.Info to op member) = false
