-- The sixteen session records as one thing: reading and storing one, the sets read off them, and the named changes.
-- Every definition has a meaning at any id: past 15 there is no session, and storing changes nothing.
use Rattle.std.specs.Prelude.{Bool, ◌&&◌, ◌||◌, not, ℕ, ltb, get_or, set}
use Rattle.laws_words.specs.Gather.{gather}
use Rattle.rules_base.specs.Sets.{has}
use Rattle.rules_pool.specs.declared.Session.{Session}
use Rattle.rules_pool.specs.declared.Roster.{Roster}
use Rattle.rules_pool.specs.Session.{is_free, is_normal, is_failed, is_cut, is_reconnecting, is_removing, is_deleting, is_owed, is_told, candidate, free}
use Rattle.rules_pool.specs.declared.Kind.{Kind}

-- ---- one record

-- the record of an id
abbrev pub session_at : Roster → ℕ → Session
session_at ro id = get_or ro.sessions id free

-- one record rewritten, all else as it was
abbrev pub stored : Roster → ℕ → Session → Roster
stored ro id s =
    record {
      sessions = set ro.sessions id s;
      count = ro.count;
      version = ro.version;
      members = ro.members;
      sync = ro.sync;
      past = ro.past;
    }

-- ---- sets of ids

-- a mark or a maintenance flag on a session that is neither FAILED nor RECONNECTING
abbrev pub misplaced : Session → Bool
misplaced s = (s.mark || s.maintenance) && not (is_failed s.state || is_reconnecting s.state)

-- a session that is not REMOVING and no member
abbrev pub outside : ℕ → ℕ → Session → Bool
outside members i s = not (is_free s.state || is_removing s.state) && not (has members i)

-- what no session of a sync pool is: marked, flagged, RECONNECTING
abbrev pub unsynced : Session → Bool
unsynced s = s.mark || (s.maintenance || is_reconnecting s.state)

-- the record alone breaks a state rule
abbrev pub odd : Bool → ℕ → ℕ → Session → Bool
odd sync members i s = misplaced s || ((sync && unsynced s) || (not sync && outside members i s))

-- whether the record s of the id i is of the kind
abbrev pub is_kind : Kind → Bool → ℕ → ℕ → Session → Bool
is_kind Kind.Present sync members i s = not (is_free s.state)
is_kind Kind.Normals sync members i s = is_normal s.state
is_kind Kind.Candidates sync members i s = candidate s
is_kind Kind.Marked sync members i s = s.mark
is_kind Kind.Maintained sync members i s = s.maintenance
is_kind Kind.Deleting sync members i s = is_deleting s.state
is_kind Kind.Owed sync members i s = is_owed s.state
is_kind Kind.Told sync members i s = is_told s.state
is_kind (Kind.Later last) sync members i s = is_told s.state && ltb last i
is_kind (Kind.Strays ids) sync members i s = has ids i && not (candidate s)
is_kind (Kind.Reached ids) sync members i s = is_normal s.state && has ids i
is_kind (Kind.Unreached ids) sync members i s = is_normal s.state && not (has ids i)
is_kind (Kind.Abnormal ids) sync members i s = has ids i && not (is_normal s.state)
is_kind Kind.Listed sync members i s = has members i && (not (is_normal s.state) && not (is_deleting s.state))
is_kind Kind.Odd sync members i s = odd sync members i s
is_kind Kind.Link sync members i s = is_cut s.state
is_kind Kind.Io sync members i s = is_failed s.state && not (is_cut s.state)
is_kind Kind.Unused sync members i s = is_free s.state && not (has members i)

-- the set of the ids whose record is of the kind
unfoldable pub ids_of : Kind → Roster → ℕ
ids_of k ro = gather (is_kind k ro.sync ro.members) 0 ro.sessions
