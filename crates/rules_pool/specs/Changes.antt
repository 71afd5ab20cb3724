-- The named changes of the sixteen sessions and of the numbers that follow them. Every definition has a meaning at any id.
use Rattle.std.specs.Prelude.{Bool, true, false, not, map, ℕ, ◌+◌, ◌-◌, max, eqb, ltb}
use Rattle.laws_words.specs.Words.{pick}
use Rattle.rules_base.specs.Limits.{version_top}
use Rattle.rules_base.specs.Sets.{with, without}
use Rattle.rules_pool.specs.declared.Cause.{Cause}
use Rattle.rules_pool.specs.declared.Mode.{Mode}
use Rattle.rules_pool.specs.declared.State.{State}
use Rattle.rules_pool.specs.declared.Session.{Session}
use Rattle.rules_pool.specs.declared.Past.{Past}
use Rattle.rules_pool.specs.declared.Roster.{Roster}
use Rattle.rules_pool.specs.Past.{past_kept, past_taken_over, past_written}
use Rattle.rules_pool.specs.Session.{is_normal, free, new_session, moved, flagged, marked}
use Rattle.rules_pool.specs.declared.Way.{Way}
use Rattle.rules_pool.specs.Sessions.{session_at, stored}

-- ---- numbers

-- One more. A number at the top of the state rules, which has no room to rise, stays.
abbrev pub more : ℕ → ℕ
more n = pick (ltb n version_top) (n + 1) n

-- the same records with this NORMAL count and this version
abbrev pub numbered : Roster → ℕ → ℕ → Roster
numbered ro n v =
    record {
      sessions = ro.sessions;
      count = n;
      version = v;
      members = ro.members;
      sync = ro.sync;
      past = ro.past;
    }

-- The version raised: the view of the pool changes.
abbrev pub raised : Roster → Roster
raised ro = numbered ro ro.count (more ro.version)

-- ---- marks

abbrev pub unmarked : Session → Session
unmarked s = marked s false

-- the mark gone from every session
abbrev pub all_unmarked : Roster → Roster
all_unmarked ro =
    record {
      sessions = map unmarked ro.sessions;
      count = ro.count;
      version = ro.version;
      members = ro.members;
      sync = ro.sync;
      past = ro.past;
    }

-- ---- the named changes

-- A session enters NORMAL: one more in the count, and the mark goes from every session. A sync pool has neither.
unfoldable pub entered : Roster → ℕ → Roster
entered ro id =
    pick ro.sync
    (stored ro id (moved (session_at ro id) State.Normal))
    (numbered (stored (all_unmarked ro) id (moved (session_at ro id) State.Normal)) (more ro.count) ro.version)

-- The record after leaving NORMAL: `last` says that nobody else is NORMAL. Removal marks nobody.
abbrev pub arrived : Session → Way → Bool → Session
arrived s (Way.Failed cause) last = marked (moved s (State.Failed cause)) last
arrived s Way.Maintenance last = marked (flagged (moved s State.Reconnecting) true) last
arrived s (Way.Removing mode owed) last = moved s (State.Removing mode owed)

-- A session leaves NORMAL: one less in the count; the version rises; if the count comes to 0 on a way to FAILED or maintenance, it is marked.
-- A sync pool has no count, version change or mark.
unfoldable pub left : Roster → ℕ → Way → Roster
left ro id w =
    pick ro.sync
    (stored ro id (arrived (session_at ro id) w false))
    (raised (numbered (stored ro id (arrived (session_at ro id) w (eqb (ro.count - 1) 0))) (ro.count - 1) ro.version))

-- a session enters FAILED, with its cause
unfoldable pub failed : Roster → ℕ → Cause → Roster
failed ro id cause =
    pick (is_normal (session_at ro id).state)
    (left ro id (Way.Failed cause))
    (stored ro id (moved (session_at ro id) (State.Failed cause)))

-- a session that is not NORMAL goes to a state in which no number or mark is settled
unfoldable pub went : Roster → ℕ → State → Roster
went ro id to = stored ro id (moved (session_at ro id) to)

-- LEAVE_POOL is owed on the way from this state to REMOVING
abbrev pub owes : State → Bool
owes State.Free = true
owes State.Created = true
owes State.Normal = true
owes (State.Failed cause) = false
owes State.Reconnecting = true
owes (State.Removing m owed) = owed

-- A session enters REMOVING; mark and flag go.
unfoldable pub removing : Roster → ℕ → Mode → Roster
removing ro id mode =
    pick (is_normal (session_at ro id).state)
    (left ro id (Way.Removing mode true))
    (went ro id (State.Removing mode (owes (session_at ro id).state)))

-- a new session begins
abbrev pub enrolled : Roster → ℕ → State → Roster
enrolled ro id st = stored ro id (new_session st)

-- the session is freed
abbrev pub freed : Roster → ℕ → Roster
freed ro id = stored ro id free

-- the maintenance flag of a session put on or off
abbrev pub flagged_at : Roster → ℕ → Bool → Roster
flagged_at ro id on = stored ro id (flagged (session_at ro id) on)

-- this membership
abbrev pub with_members : Roster → ℕ → Roster
with_members ro members =
    record {
      sessions = ro.sessions;
      count = ro.count;
      version = ro.version;
      members = members;
      sync = ro.sync;
      past = ro.past;
    }

-- this past
abbrev pub with_past : Roster → Past → Roster
with_past ro past =
    record {
      sessions = ro.sessions;
      count = ro.count;
      version = ro.version;
      members = ro.members;
      sync = ro.sync;
      past = past;
    }

-- a member entered, a member dropped
abbrev pub member_entered : Roster → ℕ → Roster
member_entered ro id = with_members ro (with ro.members id)

-- the last one dropped clears the past
abbrev pub member_dropped : Roster → ℕ → Roster
member_dropped ro id =
    with_past (with_members ro (without ro.members id)) (past_kept ro.past (not (eqb (without ro.members id) 0)))

-- a node's member set taken over, where the membership is empty: the pool was assembled; the larger version
abbrev pub taken_over : Roster → ℕ → ℕ → Roster
taken_over ro members version =
    with_past
    (with_members (numbered ro ro.count (max ro.version version)) (pick (eqb ro.members 0) members ro.members))
    (past_taken_over ro.past (eqb ro.members 0))

-- a write ended, acknowledged or not
abbrev pub written : Roster → Bool → Roster
written ro acknowledged = with_past ro (past_written ro.past acknowledged)
