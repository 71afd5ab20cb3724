-- Source document 001's table of legal changes of a session's state.
use Rattle.std.specs.Prelude.{Bool, false, ◌&&◌, ◌||◌, not}
use Rattle.rules_pool.specs.declared.State.{State}
use Rattle.rules_pool.specs.Session.{is_normal, is_failed, is_reconnecting, is_removing}

-- In a pool that is sync or not, a session may go from the first state to the second. A session that is not there goes nowhere, and REMOVING is the last state.
abbrev pub legal : Bool → State → State → Bool
legal sync State.Free to = false
legal sync State.Created to = is_normal to || ((is_reconnecting to && not sync) || (is_failed to || is_removing to))
legal sync State.Normal to = is_failed to || ((is_reconnecting to && not sync) || is_removing to)
legal sync (State.Failed cause) to = (is_reconnecting to && not sync) || ((is_normal to && sync) || is_removing to)
legal sync State.Reconnecting to = (is_normal to && not sync) || (is_failed to || is_removing to)
legal sync (State.Removing m owed) to = false
