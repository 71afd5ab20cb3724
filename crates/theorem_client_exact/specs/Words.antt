-- The words of the statements about the client's events, said over the fields of its state. None of the events' own tests, guards and changes is cited.
use Rattle.std.specs.Prelude.{◌≡◌, ◌≢◌, ◌⊎◌, true, false, List, ℕ, ◌-◌, ◌^◌, ◌≤◌, ◌<◌, length, get_or}
use Rattle.rules_base.specs.Sets.{has}
use Rattle.rules_base.specs.Chunk.{dirty}
use Rattle.rules_pool.specs.declared.Cause.{Cause}
use Rattle.rules_pool.specs.declared.Mode.{Mode}
use Rattle.rules_pool.specs.declared.State.{State}
use Rattle.rules_pool.specs.declared.Session.{Session}
use Rattle.rules_pool.specs.declared.Stage.{Stage}
use Rattle.rules_pool.specs.declared.Run.{Run}
use Rattle.rules_pool.specs.declared.Job.{Job}
use Rattle.rules_pool.specs.declared.Pool.{Pool}
use Rattle.rules_pool.specs.declared.Sent.{Sent}
use Rattle.rules_pool.specs.declared.Answer.{Answer}
use Rattle.rules_pool.specs.Sessions.{session_at}
use Rattle.rules_pool.specs.StateRules.{valid_pool}

-- ---- numbers, sets, maps

-- "member ids 0..15"
abbrev pub AnId : ℕ → Type 0
AnId id = id ≤ 15

-- a set has no bit above 15
abbrev pub ASet : ℕ → Type 0
ASet set = set ≤ 65535

abbrev pub In : ℕ → ℕ → Type 0
In set id = has set id ≡ true

-- "a version above 2^63 - 33", which document 02 makes 2^63 - 34, is too high
abbrev pub Low : ℕ → Type 0
Low version = version ≤ 2 ^ 63 - 34

-- a lent map is 8,192 bytes, with no bit set past the chunk count
pub record SoundMap (chunks : ℕ) (xs : List ℕ) : Type 0 where
  pub long : length xs ≡ 8192
  pub bytes : (k : ℕ) → get_or xs k 0 < 2 ^ 8
  pub clean : (m k : ℕ) → m < 16 → chunks ≤ k → k < 4096 → dirty xs m k ≡ 0

-- ---- sessions

abbrev pub session_of : Pool → ℕ → Session
session_of p id = session_at p.roster id

abbrev pub state_of : Pool → ℕ → State
state_of p id = (session_of p id).state

abbrev pub NoSession : Pool → ℕ → Type 0
NoSession p id = state_of p id ≡ State.Free

abbrev pub HasSession : Pool → ℕ → Type 0
HasSession p id = state_of p id ≢ State.Free

abbrev pub Created : Pool → ℕ → Type 0
Created p id = state_of p id ≡ State.Created

abbrev pub Normal : Pool → ℕ → Type 0
Normal p id = state_of p id ≡ State.Normal

abbrev pub Reconnecting : Pool → ℕ → Type 0
Reconnecting p id = state_of p id ≡ State.Reconnecting

abbrev pub Cut : Pool → ℕ → Type 0
Cut p id = state_of p id ≡ State.Failed Cause.Link

-- FAILED, of whatever cause
abbrev pub Failed : Pool → ℕ → Type 0
Failed p id = Cut p id ⊎ (state_of p id ≡ State.Failed Cause.Io)

-- REMOVING in this mode, LEAVE_POOL owed or not; in either
abbrev pub RemovingIn : Mode → Pool → ℕ → Type 0
RemovingIn mode p id = (state_of p id ≡ State.Removing mode true) ⊎ (state_of p id ≡ State.Removing mode false)

abbrev pub Removing : Pool → ℕ → Type 0
Removing p id = RemovingIn Mode.Delete p id ⊎ RemovingIn Mode.Disassemble p id

abbrev pub InMaintenance : Pool → ℕ → Type 0
InMaintenance p id = (session_of p id).maintenance ≡ true

pub record SomeNormal (p : Pool) : Type 0 where
  pub who : ℕ
  pub normal : Normal p who

-- ---- the pool

abbrev pub Sync : Pool → Type 0
Sync p = p.roster.sync ≡ true

abbrev pub NotSync : Pool → Type 0
NotSync p = p.roster.sync ≡ false

abbrev pub members_of : Pool → ℕ
members_of p = p.roster.members

abbrev pub version_of : Pool → ℕ
version_of p = p.roster.version

abbrev pub Member : Pool → ℕ → Type 0
Member p id = In (members_of p) id

-- "neither a member nor held by a session"
pub record Unused (p : Pool) (id : ℕ) : Type 0 where
  pub below : AnId id
  pub member : ¬ (Member p id)
  pub held : NoSession p id

pub record SomeUnused (p : Pool) : Type 0 where
  pub who : ℕ
  pub unused : Unused p who

-- no write was acknowledged since a delete last emptied the membership; no node's member set taken over
abbrev pub NotWritten : Pool → Type 0
NotWritten p = p.roster.past.written ≡ false

abbrev pub NotAssembled : Pool → Type 0
NotAssembled p = p.roster.past.assembled ≡ false

-- ---- jobs

abbrev pub NoJob : Pool → Type 0
NoJob p = p.job ≡ Job.Idle

abbrev pub NoRun : Pool → Type 0
NoRun p = (r : Run) → p.job ≢ Job.Running r

-- the awaited peer of the removal in hand: the session itself for LEAVE_POOL, the one that POOL_INFO went to
pub data AwaitedPeer (id : ℕ) : Job → Type 0 where
  leaves : AwaitedPeer id (Job.Removing (record { id = id; stage = Stage.Leave }))
  informed : (removed : ℕ) → AwaitedPeer id (Job.Removing (record { id = removed; stage = Stage.Info id }))

-- ---- answers

pub record Accepted (a : Answer) : Type 0 where
  pub sent : Sent
  pub is : a ≡ Answer.Done sent

-- A pool that keeps the state rules, its array whole: 1 is not given there, and every reached client's is one (`ReachedInOrder`).
pub record InOrder (p : Pool) : Type 0 where
  pub rules : valid_pool p ≡ true
  pub whole : length p.roster.sessions ≡ 16
