-- What document 01 says of the client's events, in its own words and not by the rules' definitions, so that a misreading can't stand in rule and code alike. With each
-- statement: the wrong rules that it refuses.
use Rattle.std.specs.Prelude.{◌≡◌, ◌≢◌, Bool, true, false, ◌&&◌, ◌||◌, not, List, ℕ, ◌+◌, ◌<◌, max, eqb, ltb, Option, Some, None}
use Rattle.laws_words.specs.Words.{pick, one}
use Rattle.rules_base.specs.Sets.{has, count_to}
use Rattle.rules_base.specs.Chunk.{marked_for, dirty}
use Rattle.rules_base.specs.Map.{sound, zero_row, zeroed}
use Rattle.rules_base.specs.Fill.{row_filled}
use Rattle.rules_pool.specs.declared.Mode.{Mode}
use Rattle.rules_pool.specs.declared.Cause.{Cause}
use Rattle.rules_pool.specs.declared.State.{State}
use Rattle.rules_pool.specs.declared.Stage.{Stage}
use Rattle.rules_pool.specs.declared.Removal.{Removal}
use Rattle.rules_pool.specs.declared.Run.{Run}
use Rattle.rules_pool.specs.declared.Job.{Job}
use Rattle.rules_pool.specs.declared.Message.{Message}
use Rattle.rules_pool.specs.declared.Told.{Told}
use Rattle.rules_pool.specs.declared.Outcome.{Outcome}
use Rattle.rules_pool.specs.declared.Sent.{Sent}
use Rattle.rules_pool.specs.declared.Answer.{Answer}
use Rattle.rules_pool.specs.declared.Reply.{Reply}
use Rattle.rules_pool.specs.Session.{is_free, is_created, is_normal, is_failed, is_reconnecting, is_removing, is_delete, is_deleting, is_owed, is_told}
use Rattle.rules_pool.specs.Run.{awaited_in}
use Rattle.rules_pool.specs.Cases.{begun}
use Rattle.rules_pool.specs.Jobs.{is_running, peer_at}
use Rattle.rules_pool.specs.declared.Pool.{Pool}
use Rattle.rules_pool.specs.Breaking.{is_accepted}
use Rattle.rules_client.specs.Events.{Event, turn_of, next, Lent, map_left, record_of, state_of, is_sync, job_of}
use Rattle.theorem_client.specs.Reading.{nobody_left, Part, part_of, is_down}
use Rattle.theorem_client.specs.Demand2.{Reached}

-- ---- words

-- an accepted event at a reached client
pub record Accepts (c : Pool) (e : Event) : Type 0 where
  pub reached : Reached c
  pub done : is_accepted (turn_of e c).answer ≡ true

abbrev pub count_of : Pool → ℕ
count_of c = c.roster.count

abbrev pub version_of : Pool → ℕ
version_of c = c.roster.version

abbrev pub members_of : Pool → ℕ
members_of c = c.roster.members

-- the last authoritative mark and the maintenance flag of a session, and the states that bear them
abbrev pub mark_of : Pool → ℕ → Bool
mark_of c id = (record_of c id).mark

abbrev pub flag_of : Pool → ℕ → Bool
flag_of c id = (record_of c id).maintenance

abbrev pub bears : State → Bool
bears st = is_failed st || is_reconnecting st

-- the answer that reports this and sends these messages, nothing awaited
abbrev pub sends : Outcome → Told → Answer
sends outcome told = Answer.Done (record { outcome = outcome; told = told; awaited = Message.Nothing; number = 0 })

-- the job in hand once recovery was tried with the sessions of c: the run that one of the three cases begins, if any
abbrev pub begins : Option Run → Job
begins None = Job.Idle
begins (Some r) = Job.Running r

abbrev pub recovery_in : Pool → Job
recovery_in c = begins (begun c.roster)

-- ---- sessions

-- "Join, create: new session CREATED"; "Join, assemble: .. The pool version becomes the larger one. CREATED, then RECONNECTING"; in a sync pool "join (create) gives
-- NORMAL". Refused: a session that begins in another state, the node's version taken over though it is lower.
abbrev pub JoinBegins : Type 0
JoinBegins = (c : Pool) (id : ℕ)
    → (Accepts c (Event.join_create id) → state_of (next (Event.join_create id) c) id ≡ pick (is_sync c) State.Normal State.Created)
    × ((set version : ℕ) → Accepts c (Event.join_assemble id set version)
    → (state_of (next (Event.join_assemble id set version) c) id ≡ State.Reconnecting) × (version_of (next (Event.join_assemble id set version) c) ≡ max (version_of c) version))

-- "Store check good: FAILED or CREATED to RECONNECTING." Refused: FAILED straight to NORMAL.
abbrev pub StoreCheck : Type 0
StoreCheck = (c : Pool) (id : ℕ) → Accepts c (Event.store_check id) → is_sync c ≡ false → state_of (next (Event.store_check id) c) id ≡ State.Reconnecting

-- id's enabling message: ENABLE_POOL to it, or the MAP_DONE of a spread with enable
abbrev pub enabling : Message → ℕ → Bool
enabling Message.Nothing id = false
enabling (Message.GetVersion to) id = false
enabling (Message.Ready to keep) id = false
enabling (Message.Send to receiver) id = false
enabling (Message.Done to enable version members) id = enable && eqb to id
enabling (Message.LastIo to chosen) id = false
enabling (Message.Enable to version members) id = eqb to id
enabling (Message.Leave to mode) id = false
enabling (Message.Info to op member) id = false

pub data Becomes (c : Pool) (id : ℕ) : Event → Type 0 where
  enabled : is_created (state_of c id) ≡ true → Becomes c id (Event.enable id)
  answered : (xs : List ℕ) (number : ℕ) (b : Option ℕ) (r : Run) → job_of c ≡ Job.Running r → enabling (awaited_in (members_of c) (version_of c) r) id ≡ true → Becomes c id (Event.answer xs number (Reply.Good b))

-- "Enable: from CREATED to NORMAL"; "A session becomes NORMAL when its enabling message is answered well": in a pool that is not sync, in no other way. Refused: a store
-- check, the end of maintenance or a MAP_DONE without enable that makes NORMAL; a session that becomes so for another's message.
abbrev pub NormalOnly : Type 0
NormalOnly = (c : Pool) → Reached c → is_sync c ≡ false → (e : Event) (id : ℕ) → is_normal (state_of c id) ≡ false → is_normal (state_of (next e c) id) ≡ true → Becomes c id e

-- ---- the version

-- NORMAL before, and not after: for FAILED, maintenance or removal
abbrev pub leaves_normal : Pool → Pool → ℕ → Bool
leaves_normal c c' id = is_normal (state_of c id) && not (is_normal (state_of c' id))

-- the event ends the run in hand: after it none is, or it is an accepted link down, after which another may have begun
abbrev pub ends_run : Event → Pool → Bool
ends_run e c = is_running (job_of c) && ((is_down e && is_accepted (turn_of e c).answer) || not (is_running (job_of (next e c))))

-- "Leaving NORMAL for FAILED raises the pool version by one"; C-13: "Leaving NORMAL for maintenance or removal must raise the pool version too, and so must the end of
-- every run, however it ends". They add up; but for join assemble nothing else changes it, and "a sync pool has no version change". Refused: a link down, a write, a
-- maintenance or a removal that does not raise it, a write that raises it once for all; a run that ends well, by a failed answer or by a link down and does not raise it;
-- an answer within a run, a repeated removal or any other event that raises it.
abbrev pub VersionRises : Type 0
VersionRises = (c : Pool) → Reached c → (e : Event) → ((id set version : ℕ) → e ≢ Event.join_assemble id set version)
    → version_of (next e c) ≡ version_of c + pick (is_sync c) 0 (count_to (leaves_normal c (next e c)) 16 + one (ends_run e c))

-- ---- writes

-- the awaited peer of the removal in hand is NORMAL and was not reached
abbrev pub misses_peer : Job → Pool → ℕ → Bool
misses_peer Job.Idle c reached = false
misses_peer (Job.Running r) c reached = false
misses_peer (Job.Removing m) c reached = is_normal (state_of c (peer_at m.stage m.id)) && not (has reached (peer_at m.stage m.id))

-- the sessions and the job after a write
pub record Wrote (c : Pool) (reached : ℕ) (c' : Pool) : Type 0 where
  pub fails : (id : ℕ) → is_normal (state_of c id) ≡ true → state_of c' id ≡ pick (has reached id) State.Normal (State.Failed Cause.Io)
  pub halts : job_of c' ≡ pick (misses_peer (job_of c) c reached) Job.Idle (job_of c)

-- what a write that reached any marks, and whom it tells
pub record Marks (c : Pool) (xs : List ℕ) (chunk reached : ℕ) (e : Event) : Type 0 where
  pub list : ℕ
  pub listed : (id : ℕ) → has list id ≡ (has (members_of (next e c)) id && (not (is_normal (state_of (next e c) id)) && not (is_deleting (state_of (next e c) id))))
  pub spared : (id : ℕ) → has reached id ≡ true → has list id ≡ false
  pub answer : (turn_of e c).answer ≡ sends (Outcome.Written true list) (Told.Marks reached chunk list (version_of (next e c)))
  pub map : map_left e c ≡ Lent.some (marked_for xs list chunk)

-- one that reached none
pub record MarksNone (c : Pool) (xs : List ℕ) (e : Event) : Type 0 where
  pub answer : (turn_of e c).answer ≡ sends (Outcome.Written false 0) Told.Nothing
  pub map : map_left e c ≡ Lent.some xs

-- "NORMAL sessions not reached become FAILED .. If any was reached, the write is acknowledged and the mark list is every member that is not NORMAL, save one being
-- deleted; client map and each reached node mark it, the node being sent the version after these changes. Reached by none: neither"; "a write that did not reach [the
-- awaited peer of a removal] is its failed answer." Refused: a reached member marked, one that just failed not marked; the version before the changes; marks sent to
-- others than the reached; a write acknowledged that reached none; a removal that goes on without its peer.
abbrev pub WriteMarks : Type 0
WriteMarks = (c : Pool) (xs : List ℕ) (chunk reached : ℕ) → Accepts c (Event.write xs chunk reached)
    → Wrote c reached (next (Event.write xs chunk reached) c)
    × (reached ≢ 0 → Marks c xs chunk reached (Event.write xs chunk reached))
    × (reached ≡ 0 → MarksNone c xs (Event.write xs chunk reached))

-- ---- the last authoritative mark

-- id is NORMAL, and nobody above it is
abbrev pub last_normal : Pool → ℕ → Bool
last_normal c id = is_normal (state_of c id) && eqb (count_to (λ j. is_normal (state_of c j) && ltb id j) 16) 0

-- "If leaving for FAILED or maintenance brings the count to 0, that session is marked last authoritative; the mark goes from every session when any enters NORMAL, and
-- from a session entering REMOVING." So, after any event: while the count is above 0, nobody is marked; if it came to 0, the last that left NORMAL is (the highest,
-- since a write takes them ascending), unless it is being removed or gone; if it was 0, the mark is where it was, save on one that is REMOVING or gone. Refused: a
-- mark that appears elsewhere, stays beside a NORMAL session or is given to nobody; a removal that marks.
abbrev pub LastAuthoritative : Type 0
LastAuthoritative = (c : Pool) → Reached c → is_sync c ≡ false → (e : Event) (id : ℕ)
    → mark_of (next e c) id ≡ (eqb (count_of (next e c)) 0 && (bears (state_of (next e c) id) && pick (eqb (count_of c) 0) (mark_of c id) (last_normal c id)))

-- ---- maintenance, enable

-- "Maintenance: NORMAL to RECONNECTING, flagged; node told by enable 0 .. The flag outlasts a later failure and ends on removal": but for maintenance and enable of the
-- session itself, it stays while the session is FAILED or RECONNECTING. Refused: no flag, or no message; a link down, a store check or a write that ends maintenance,
-- a removal that does not.
abbrev pub Maintenance : Type 0
Maintenance =
    ((c : Pool) (id : ℕ) → Accepts c (Event.maintenance id)
    → (state_of (next (Event.maintenance id) c) id ≡ State.Reconnecting)
    × (flag_of (next (Event.maintenance id) c) id ≡ true)
    × ((turn_of (Event.maintenance id) c).answer ≡ sends Outcome.Plain (Told.Off id)))
    × ((c : Pool) → Reached c → (e : Event) (id : ℕ) → e ≢ Event.maintenance id → e ≢ Event.enable id → flag_of (next e c) id ≡ (flag_of c id && bears (state_of (next e c) id)))

-- "Enable: from CREATED to NORMAL .. On RECONNECTING in maintenance: maintenance ends and recovery is tried, without 001's enable"; from CREATED it is not tried.
-- Refused: the end of maintenance that makes NORMAL or leaves the flag; a run that begins after enable from CREATED, or none after the end of maintenance.
abbrev pub EnableDoes : Type 0
EnableDoes = (c : Pool) (id : ℕ) → Accepts c (Event.enable id)
    → (is_created (state_of c id) ≡ true
    → (state_of (next (Event.enable id) c) id ≡ State.Normal) × (job_of (next (Event.enable id) c) ≡ Job.Idle) × ((turn_of (Event.enable id) c).answer ≡ sends Outcome.Plain Told.Nothing))
    × (is_created (state_of c id) ≡ false
    → (state_of (next (Event.enable id) c) id ≡ State.Reconnecting) × (flag_of (next (Event.enable id) c) id ≡ false) × (job_of (next (Event.enable id) c) ≡ recovery_in (next (Event.enable id) c)))

-- ---- link down

-- what an accepted event reports
abbrev pub reported : Answer → Outcome
reported (Answer.Refused n) = Outcome.Plain
reported (Answer.Done s) = s.outcome

-- the session, the run and the removal after a link down
pub record Dropped (c : Pool) (id : ℕ) (e : Event) : Type 0 where
  pub fails : state_of (next e c) id ≡ pick (is_removing (state_of c id)) (state_of c id) (State.Failed Cause.Link)
  pub idle : job_of c ≡ Job.Idle → job_of (next e c) ≡ Job.Idle
  pub ends : (r : Run) → job_of c ≡ Job.Running r → (reported (turn_of e c).answer ≡ Outcome.Taken r.taken) × (job_of (next e c) ≡ recovery_in (next e c))
  pub halts : (m : Removal) → job_of c ≡ Job.Removing m → (job_of (next e c) ≡ pick (eqb (peer_at m.stage m.id) id) Job.Idle (Job.Removing m)) × (record_of (next e c) m.id ≡ record_of c m.id)

-- "Link down: CREATED, NORMAL, RECONNECTING to FAILED"; "An accepted link down during a run ends it .. recovery is tried. The result counts awaited answers taken so far
-- in the run"; "link down of the awaited peer (a REMOVING one stays so) .. is its failed answer." Refused: a run that survives, or whose count is lost; recovery tried
-- where there was no run; a removal that goes on without its peer, or a LEAVE_POOL no longer owed.
abbrev pub LinkDown : Type 0
LinkDown = (c : Pool) (id : ℕ) → Accepts c (Event.link_down id) → Dropped c id (Event.link_down id)

-- ---- why a session failed

-- the event that brings a cause to id's session: a link down of it, if it is not REMOVING; a write that did not reach it, if it is NORMAL
pub data Brings (c : Pool) (id : ℕ) : Event → Cause → Type 0 where
  link : is_removing (state_of c id) ≡ false → Brings c id (Event.link_down id) Cause.Link
  io : (xs : List ℕ) (chunk reached : ℕ) → is_normal (state_of c id) ≡ true → has reached id ≡ false → Brings c id (Event.write xs chunk reached) Cause.Io

-- "Link down sets link; a write that did not reach it sets IO." Refused: another cause, or a cause that was forgotten.
abbrev pub CauseSet : Type 0
CauseSet = (c : Pool) (e : Event) → Accepts c e → (id : ℕ) (cause : Cause) → Brings c id e cause → state_of (next e c) id ≡ State.Failed cause

-- Where id's session is FAILED after an event: it was, with this cause; or it was not, and the event, accepted, brought this cause.
pub data Caused (c : Pool) (e : Event) (id : ℕ) (cause : Cause) : Type 0 where
  stood : state_of c id ≡ State.Failed cause → Caused c e id cause
  brought : is_failed (state_of c id) ≡ false → is_accepted (turn_of e c).answer ≡ true → Brings c id e cause → Caused c e id cause

-- From any reached client, by any event. Refused: a cause that changes while it stands, or that another event brings.
abbrev pub CauseOnly : Type 0
CauseOnly = (c : Pool) → Reached c → (e : Event) (id : ℕ) (cause : Cause) → state_of (next e c) id ≡ State.Failed cause → Caused c e id cause

-- How id's session got its cause: an accepted event brought it, and in each event since the session stayed FAILED.
pub data Got (id : ℕ) (cause : Cause) : Pool → Type 0 where
  brought : (c : Pool) (e : Event) → Accepts c e → Brings c id e cause → Got id cause (next e c)
  kept : (c : Pool) (e : Event) → Reached c → Got id cause c → is_failed (state_of (next e c) id) ≡ true → Got id cause (next e c)

-- "A cause stands exactly while the session is FAILED": FAILED has one, no other state has. At every reached client it is link exactly where a link down brought the
-- session there, IO exactly where a write did. Refused: a cause that is left from an earlier fall.
abbrev pub CauseTells : Type 0
CauseTells = (c : Pool) → Reached c → (id : ℕ) (cause : Cause) → (state_of c id ≡ State.Failed cause → Got id cause c) × (Got id cause c → state_of c id ≡ State.Failed cause)

-- "A good rejoin .. brings back, exactly as a good store check does in either kind of pool, a session with cause link only; a good store check serves both, as before. A
-- rejoin on cause IO, or of a session that is not FAILED, is refusal 9." Refused: a rejoin that does less or more than a store check, one from CREATED; a store check that
-- looks at the cause.
pub record Rejoins (c : Pool) (id : ℕ) : Type 0 where
  pub taken : job_of c ≡ Job.Idle → state_of c id ≡ State.Failed Cause.Link → is_accepted (turn_of (Event.rejoin id) c).answer ≡ true
  pub only : is_accepted (turn_of (Event.rejoin id) c).answer ≡ true → (job_of c ≡ Job.Idle) × (state_of c id ≡ State.Failed Cause.Link)
  pub same : is_accepted (turn_of (Event.rejoin id) c).answer ≡ true → turn_of (Event.rejoin id) c ≡ turn_of (Event.store_check id) c
  pub nine : job_of c ≡ Job.Idle → is_free (state_of c id) ≡ false → state_of c id ≢ State.Failed Cause.Link → (turn_of (Event.rejoin id) c).answer ≡ Answer.Refused 9
  pub both : (cause : Cause) → job_of c ≡ Job.Idle → state_of c id ≡ State.Failed cause → is_accepted (turn_of (Event.store_check id) c).answer ≡ true

abbrev pub Rejoin : Type 0
Rejoin = (c : Pool) → Reached c → (id : ℕ) → Rejoins c id

-- ---- removal

abbrev pub is_good : Reply → Bool
is_good Reply.Failed = false
is_good (Reply.Good b) = true

abbrev pub is_leave : Stage → Bool
is_leave Stage.Leave = true
is_leave (Stage.Info peer) = false

-- LEAVE_POOL is not owed: the session was FAILED, or is REMOVING and owes it no longer
abbrev pub not_owed : State → Bool
not_owed st = is_failed st || (is_removing st && not (is_owed st))

-- above the last one told
abbrev pub is_later : Stage → ℕ → Bool
is_later Stage.Leave j = true
is_later (Stage.Info peer) j = ltb peer j

-- no POOL_INFO is due any more: no other session above the last one told is there and not FAILED or REMOVING; a sync pool sends none
abbrev pub nothing_due : Pool → ℕ → Stage → Bool
nothing_due c id st = is_sync c || eqb (count_to (λ j. is_told (state_of c j) && (is_later st j && not (eqb j id))) 16) 0

-- the event frees id's session
abbrev pub frees : Part → Pool → ℕ → Bool
frees Part.none c id = false
frees (Part.remove i mode) c id = eqb id i && (not_owed (state_of c id) && nothing_due c id Stage.Leave)
frees (Part.answer m a) c id = eqb id m.id && (is_good a && nothing_due c id m.stage)

-- "Remove (delete or disassemble): any state to REMOVING. Awaited in turn: LEAVE_POOL to it (not owed if it was FAILED)": in this mode, LEAVE_POOL owed or not; unless it
-- is freed at once. Refused: a session that is not REMOVING, or in the other mode; LEAVE_POOL owed by a FAILED one, or once more after it was done.
abbrev pub RemoveBegins : Type 0
RemoveBegins = (c : Pool) (xs : List ℕ) (id : ℕ) (mode : Mode) → Accepts c (Event.remove xs id mode)
    → state_of (next (Event.remove xs id mode) c) id ≡ pick (frees (Part.remove id mode) c id) State.Free (State.Removing mode (not (not_owed (state_of c id))))

-- "After the last success (at once if none is due) the session is freed." Refused: a session freed before its last message is answered, by a failed answer or by
-- another event; or not freed then.
abbrev pub Freed : Type 0
Freed = (c : Pool) (e : Event) → Accepts c e → (id : ℕ) → is_free (state_of c id) ≡ false → is_free (state_of (next e c) id) ≡ frees (part_of e c) c id

-- the event takes the member out: a deletion, once LEAVE_POOL is done or not owed
abbrev pub takes_out : Part → Pool → ℕ → Bool
takes_out Part.none c id = false
takes_out (Part.remove i mode) c id = eqb id i && (is_delete mode && not_owed (state_of c id))
takes_out (Part.answer m a) c id = eqb id m.id && (is_deleting (state_of c id) && (is_good a && is_leave m.stage))

-- the client map after the event
abbrev pub rows_after : Part → Pool → Pool → ℕ → List ℕ → List ℕ
rows_after s c c' id xs = pick (frees s c id && nobody_left c'.roster) (zeroed xs) (pick (takes_out s c id) (zero_row id xs) xs)

-- "When LEAVE is done or not owed, delete takes out member entry and client row .. if none is left the client map is zeroed": exactly then, and no other event takes a
-- member out. Refused: a member taken out by disassemble, before LEAVE_POOL is answered or by its failed answer; a row zeroed at another time, or of another member; a
-- map zeroed while a session is left.
abbrev pub DeleteTakesOut : Type 0
DeleteTakesOut =
    ((c : Pool) (e : Event) → Accepts c e → (id : ℕ) → has (members_of c) id ≡ true → has (members_of (next e c)) id ≡ not (takes_out (part_of e c) c id))
    × ((c : Pool) (xs : List ℕ) (id : ℕ) (mode : Mode) → Accepts c (Event.remove xs id mode) → is_sync c ≡ false
    → map_left (Event.remove xs id mode) c ≡ Lent.some (rows_after (Part.remove id mode) c (next (Event.remove xs id mode) c) id xs))
    × ((c : Pool) (xs : List ℕ) (number : ℕ) (a : Reply) (m : Removal) → Accepts c (Event.answer xs number a) → is_sync c ≡ false → job_of c ≡ Job.Removing m
    → map_left (Event.answer xs number a) c ≡ Lent.some (rows_after (Part.answer m a) c (next (Event.answer xs number a) c) m.id xs))

-- ---- extend (document 02, C-20)

-- id is neither a member nor held by a session
abbrev pub is_unused : Pool → ℕ → Bool
is_unused c id = is_free (state_of c id) && not (has (members_of c) id)

-- "Joining by create becomes refusal 17 once a write has been acknowledged": where nothing of an earlier place refuses it, and before 10; never in a sync pool. Refused: a join that
-- goes on after a write; 10 given for a member then.
abbrev pub CreateEnds : Type 0
CreateEnds = (c : Pool) → Reached c → (id : ℕ) → id < 16 → job_of c ≡ Job.Idle → is_free (state_of c id) ≡ true → is_sync c ≡ false → c.roster.past.written ≡ true
    → (turn_of (Event.join_create id) c).answer ≡ Answer.Refused 17

-- an accepted extend, and the id that it picks
pub record Extended (c : Pool) (xs : List ℕ) (e : Event) : Type 0 where
  pub id : ℕ
  pub below : id < 16
  pub unused : is_unused c id ≡ true
  pub lowest : (j : ℕ) → j < id → is_unused c j ≡ false
  pub begins : state_of (next e c) id ≡ State.Reconnecting
  pub members : (j : ℕ) → has (members_of (next e c)) j ≡ (has (members_of c) j || eqb j id)
  pub told : ℕ
  pub others : (j : ℕ) → has told j ≡ is_told (state_of c j)
  pub fills : ℕ
  pub normals : (j : ℕ) → has fills j ≡ is_normal (state_of c j)
  pub sent : Sent
  pub answer : (turn_of e c).answer ≡ Answer.Done sent
  pub reports : sent.outcome ≡ Outcome.Picked id
  pub messages : sent.told ≡ Told.Extended told fills id (version_of c)
  pub tries : job_of (next e c) ≡ recovery_in (next e c)
  pub map : map_left e c ≡ Lent.some (row_filled id c.chunks xs)
  pub row : (m k : ℕ) → m < 16 → k < 4096 → dirty (row_filled id c.chunks xs) m k ≡ pick (eqb m id && ltb k c.chunks) 1 (dirty xs m k)

-- "Extend picks the lowest id that is neither a member nor held by a session .. POOL_INFO goes out as at a join by create; then .. the new member's row is set for every chunk in the
-- client map and on every NORMAL node .. its session is RECONNECTING, and recovery is tried .. Extend is logged with its id": the answer reports it. Refused: the highest such id,
-- or one that is held; a NORMAL node that gets no fill, a fill with another version; the row of another member, a chunk left out, a chunk set past the count.
abbrev pub ExtendAdds : Type 0
ExtendAdds = (c : Pool) (xs : List ℕ) → Accepts c (Event.extend xs) → Extended c xs (Event.extend xs)

-- "It is refused (number 19) exactly when no such id exists"; where a session is NORMAL ("with no NORMAL session it is refusal 11, checked before 19"), no job is in hand, and the map
-- is sound. Refused: 19 while an id is unused, an id above 15.
abbrev pub ExtendNone : Type 0
ExtendNone = (c : Pool) (xs : List ℕ) → Reached c → is_sync c ≡ false → job_of c ≡ Job.Idle → sound c.chunks xs ≡ true
    → ((n : ℕ) → is_normal (state_of c n) ≡ true → ((j : ℕ) → j < 16 → is_unused c j ≡ false) → (turn_of (Event.extend xs) c).answer ≡ Answer.Refused 19)
    × ((turn_of (Event.extend xs) c).answer ≡ Answer.Refused 19 → (j : ℕ) → j < 16 → is_unused c j ≡ false)
    × (((n : ℕ) → is_normal (state_of c n) ≡ false) → (turn_of (Event.extend xs) c).answer ≡ Answer.Refused 11)
