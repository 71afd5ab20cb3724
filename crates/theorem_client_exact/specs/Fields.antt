-- What becomes of every field where an event of the pool is accepted, sentence by sentence as documents 01 and 02 have it. A field that a clause does not name stays.
-- Where recovery is tried or a removal goes on its way, the fields are those of the pool in which it is; what that leads to is said in theorem_runs.
use Rattle.std.specs.Prelude.{◌≡◌, ◌≢◌, ◌⊎◌, ◌↔◌, Bool, true, false, ◌&&◌, ◌||◌, not, List, ℕ, ◌+◌, ◌-◌, ◌<◌, max, eqb, ltb, Option, Some, None}
use Rattle.laws_words.specs.Words.{pick, one}
use Rattle.rules_base.specs.Sets.{has, size, count_to, lowest_to}
use Rattle.rules_base.specs.Chunk.{dirty}
use Rattle.rules_base.specs.declared.Op.{Op}
use Rattle.rules_pool.specs.declared.Cause.{Cause}
use Rattle.rules_pool.specs.declared.Mode.{Mode}
use Rattle.rules_pool.specs.declared.State.{State}
use Rattle.rules_pool.specs.declared.Session.{Session}
use Rattle.rules_pool.specs.declared.Past.{Past}
use Rattle.rules_pool.specs.declared.Stage.{Stage}
use Rattle.rules_pool.specs.declared.Removal.{Removal}
use Rattle.rules_pool.specs.declared.Job.{Job}
use Rattle.rules_pool.specs.declared.Pool.{Pool}
use Rattle.rules_pool.specs.declared.Message.{Message}
use Rattle.rules_pool.specs.declared.Told as messages
use Rattle.rules_pool.specs.declared.Posted.{Posted}
use Rattle.rules_pool.specs.declared.Effect.{Effect}
use Rattle.rules_pool.specs.declared.Outcome.{Outcome}
use Rattle.rules_pool.specs.declared.Sent.{Sent}
use Rattle.rules_pool.specs.declared.Answer.{Answer}
use Rattle.rules_pool.specs.declared.Reply.{Reply}
use Rattle.rules_pool.specs.Session.{is_free, is_created, is_normal, is_removing, is_deleting, is_nothing}
use Rattle.rules_pool.specs.Run.{receiver}
use Rattle.rules_pool.specs.Recovery.{tried}
use Rattle.rules_client.specs.Removal.{started}
use Rattle.rules_client.specs.Answers.{answered}
use Rattle.rules_client.specs.Client.{carried}
use Rattle.rules_client.specs.Events.{Event, Lent, turn_of, lent_to, map_left}
use Rattle.theorem_client_exact.specs.Words.{ASet, In, SoundMap, session_of, state_of, NoSession, Normal, Failed, RemovingIn, Removing, members_of, version_of, Member, Accepted, InOrder}

-- ---- what is said of an accepted event

-- what it reports. replied: what the job in hand makes of an answer (theorem_runs).
pub data Reports : Type 1 where
  plain : Reports
  taken : ℕ → Reports
  written : Bool → (ℕ → Type 0) → Reports
  picked : ℕ → Reports
  replied : Reports

-- the messages that are not awaited: to whom, and what they carry
pub data Tells : Type 1 where
  nothing : Tells
  marks : (ℕ → Type 0) → ℕ → (ℕ → Type 0) → ℕ → Tells
  clears : (ℕ → Type 0) → ℕ → ℕ → Tells
  infos : (ℕ → Type 0) → Op → ℕ → Tells
  fills : (ℕ → Type 0) → (ℕ → Type 0) → ℕ → ℕ → Tells
  off : ℕ → Tells
  disable : ℕ → Tells
  replied : Tells

-- what comes then: nothing more; recovery is tried; the removal of an id goes on its way; the job in hand takes a reply
pub data Then : Type 0 where
  nothing : Then
  recovery : Then
  removal : ℕ → Then
  reply : Reply → Then

-- session: each id's state with its cause, maintenance flag and mark. members: who is one. past: whether a write was acknowledged, a node's set taken over. chunk: the bit of a member's chunk in
-- what is left of a lent map.
pub record Left : Type 1 where
  pub session : ℕ → Session
  pub members : ℕ → Type 0
  pub count : ℕ
  pub version : ℕ
  pub past : Past
  pub job : Job
  pub reports : Reports
  pub tells : Tells
  pub chunk : List ℕ → ℕ → ℕ → ℕ
  pub then : Then

abbrev pub stays : Pool → Left
stays p =
    record {
      session = session_of p;
      members = Member p;
      count = p.roster.count;
      version = version_of p;
      past = p.roster.past;
      job = p.job;
      reports = Reports.plain;
      tells = Tells.nothing;
      chunk = dirty;
      then = Then.nothing;
    }

-- ---- all but one field

abbrev pub sessions : (ℕ → Session) → Left → Left
sessions f l = record { session = f; members = l.members; count = l.count; version = l.version; past = l.past; job = l.job; reports = l.reports; tells = l.tells; chunk = l.chunk; then = l.then }

-- id's record
abbrev pub session : ℕ → Session → Left → Left
session id s l = sessions (λ j. pick (eqb j id) s (l.session j)) l

abbrev pub members : (ℕ → Type 0) → Left → Left
members m l = record { session = l.session; members = m; count = l.count; version = l.version; past = l.past; job = l.job; reports = l.reports; tells = l.tells; chunk = l.chunk; then = l.then }

abbrev pub count : ℕ → Left → Left
count n l = record { session = l.session; members = l.members; count = n; version = l.version; past = l.past; job = l.job; reports = l.reports; tells = l.tells; chunk = l.chunk; then = l.then }

abbrev pub version : ℕ → Left → Left
version v l = record { session = l.session; members = l.members; count = l.count; version = v; past = l.past; job = l.job; reports = l.reports; tells = l.tells; chunk = l.chunk; then = l.then }

abbrev pub past : Past → Left → Left
past x l = record { session = l.session; members = l.members; count = l.count; version = l.version; past = x; job = l.job; reports = l.reports; tells = l.tells; chunk = l.chunk; then = l.then }

abbrev pub job : Job → Left → Left
job j l = record { session = l.session; members = l.members; count = l.count; version = l.version; past = l.past; job = j; reports = l.reports; tells = l.tells; chunk = l.chunk; then = l.then }

abbrev pub reports : Reports → Left → Left
reports r l = record { session = l.session; members = l.members; count = l.count; version = l.version; past = l.past; job = l.job; reports = r; tells = l.tells; chunk = l.chunk; then = l.then }

abbrev pub tells : Tells → Left → Left
tells t l = record { session = l.session; members = l.members; count = l.count; version = l.version; past = l.past; job = l.job; reports = l.reports; tells = t; chunk = l.chunk; then = l.then }

abbrev pub chunk : (List ℕ → ℕ → ℕ → ℕ) → Left → Left
chunk f l = record { session = l.session; members = l.members; count = l.count; version = l.version; past = l.past; job = l.job; reports = l.reports; tells = l.tells; chunk = f; then = l.then }

abbrev pub and_then : Then → Left → Left
and_then t l = record { session = l.session; members = l.members; count = l.count; version = l.version; past = l.past; job = l.job; reports = l.reports; tells = l.tells; chunk = l.chunk; then = t }

-- ---- words

-- a record without flag and mark
abbrev pub plainly : State → Session
plainly st = record { state = st; maintenance = false; mark = false }

-- "each other session not FAILED or REMOVING"
pub record Told (p : Pool) (id j : ℕ) : Type 0 where
  pub other : j ≢ id
  pub held : ¬ (NoSession p j)
  pub failed : ¬ (Failed p j)
  pub removing : ¬ (Removing p j)

-- "every member that is not NORMAL, save one being deleted"
pub record Listed (p : Pool) (j : ℕ) : Type 0 where
  pub member : Member p j
  pub normal : ¬ (Normal p j)
  pub deleted : ¬ (RemovingIn Mode.Delete p j)

-- id's session is NORMAL, and counts: "The NORMAL count counts non-sync NORMAL sessions"
abbrev pub counts : Pool → ℕ → Bool
counts p id = is_normal (state_of p id) && not p.roster.sync

-- it is the only one: leaving NORMAL, it brings the count to 0
abbrev pub alone : Pool → ℕ → Bool
alone p id = counts p id && eqb p.roster.count 1

-- "Leaving NORMAL .. raises the pool version by one", and there is one less
abbrev pub leaving : Pool → ℕ → Left → Left
leaving p id l = count (p.roster.count - one (counts p id)) (version (version_of p + one (counts p id)) l)

-- "the mark goes from every session when any enters NORMAL"
abbrev pub unmarked : Session → Session
unmarked s = record { state = s.state; maintenance = s.maintenance; mark = false }

-- ---- the events

-- "Join, create: new session CREATED, member entered .. sends POOL_INFO, not awaited, to each other session not FAILED or REMOVING"; "A sync pool has no members ..: join (create) gives NORMAL
-- without POOL_INFO"
abbrev pub creates : Bool → Pool → ℕ → Left
creates true p id = session id (plainly State.Normal) (stays p)
creates false p id = session id (plainly State.Created) (members (λ j. (j ≡ id) ⊎ Member p j) (tells (Tells.infos (Told p id) Op.AddCreate id) (stays p)))

-- "Enable: from CREATED to NORMAL .. On RECONNECTING in maintenance: maintenance ends and recovery is tried"; "created" says which
abbrev pub enables : Bool → Pool → ℕ → Left
enables true p id = session id (plainly State.Normal) (sessions (λ j. unmarked (session_of p j)) (count (p.roster.count + 1) (stays p)))
enables false p id = session id (record { state = state_of p id; maintenance = false; mark = (session_of p id).mark }) (and_then Then.recovery (stays p))

-- "Link down: CREATED, NORMAL, RECONNECTING to FAILED", cause link; a REMOVING one stays so. "If leaving for FAILED .. brings the count to 0, that session is marked last authoritative"; the flag
-- "outlasts a later failure".
abbrev pub fallen : Pool → ℕ → Session
fallen p id =
    pick (is_removing (state_of p id)) (session_of p id)
    (record { state = State.Failed Cause.Link; maintenance = (session_of p id).maintenance; mark = (session_of p id).mark || alone p id })

abbrev pub falls : Pool → ℕ → Left
falls p id = session id (fallen p id) (leaving p id (stays p))

-- who is awaited in a removal: the session itself for LEAVE_POOL, the peer for POOL_INFO
abbrev pub peer_at : Stage → ℕ → ℕ
peer_at Stage.Leave id = id
peer_at (Stage.Info peer) id = peer

abbrev pub peer_of : Removal → ℕ
peer_of m = peer_at m.stage m.id

-- MAP_DISABLE to the receiver in hand, not to that session
abbrev pub not_to : Bool → ℕ → Tells
not_to true x = Tells.nothing
not_to false x = Tells.disable x

abbrev pub disable_but : ℕ → Option ℕ → Tells
disable_but id None = Tells.nothing
disable_but id (Some x) = not_to (eqb x id) x

-- "An accepted link down during a run ends it too (no MAP_DISABLE to that session); recovery is tried. The result counts awaited answers taken so far in the run"; "so must the end of every run"
-- raise the version. "Link down of the awaited peer .. is its failed answer": the removal halts.
abbrev pub down_in : Job → Pool → ℕ → Left
down_in Job.Idle p id = falls p id
down_in (Job.Running r) p id =
    version (version_of p + one (counts p id) + 1)
    (job Job.Idle (reports (Reports.taken r.taken) (tells (disable_but id (receiver r)) (and_then Then.recovery (falls p id)))))
down_in (Job.Removing m) p id = job (pick (eqb (peer_of m) id) Job.Idle (Job.Removing m)) (falls p id)

-- "Store check good: FAILED or CREATED to RECONNECTING, then recovery is tried"; in a sync pool "FAILED to NORMAL". A good rejoin "brings back, exactly as a good store check does in either kind of
-- pool".
abbrev pub brings : Bool → Pool → ℕ → Left
brings true p id = session id (plainly State.Normal) (stays p)
brings false p id = session id (record { state = State.Reconnecting; maintenance = (session_of p id).maintenance; mark = (session_of p id).mark }) (and_then Then.recovery (stays p))

-- LEAVE_POOL is "not owed if it was FAILED"; at a repeat "only if still owed"
abbrev pub owes : State → Bool
owes State.Free = true
owes State.Created = true
owes State.Normal = true
owes (State.Failed cause) = false
owes State.Reconnecting = true
owes (State.Removing mode owed) = owed

-- id's session is NORMAL, and the write did not reach it
abbrev pub misses : Pool → ℕ → ℕ → Bool
misses p reached id = is_normal (state_of p id) && not (has reached id)

-- the highest NORMAL id: the last to leave where all do, ascending
abbrev pub highest : Pool → ℕ → Bool
highest p id = eqb (count_to (λ j. is_normal (state_of p j) && ltb id j) 16) 0

-- "the mark list is every member that is not NORMAL, save one being deleted": the reached are those that are NORMAL then
abbrev pub listed : Pool → ℕ → ℕ → Bool
listed p reached id = has (members_of p) id && (not (has reached id) && not (is_deleting (state_of p id)))

-- "a write that did not reach" the awaited peer of a removal halts it
abbrev pub halted_by : Job → Pool → ℕ → Job
halted_by Job.Idle p reached = Job.Idle
halted_by (Job.Running r) p reached = Job.Running r
halted_by (Job.Removing m) p reached = pick (misses p reached (peer_of m)) Job.Idle (Job.Removing m)

-- "NORMAL sessions not reached become FAILED, ascending", cause IO; each raises the version; "If leaving for FAILED .. brings the count to 0, that session is marked"
abbrev pub writes : Pool → ℕ → Left
writes p reached =
    sessions (λ j. pick (misses p reached j) (record { state = State.Failed Cause.Io; maintenance = false; mark = eqb reached 0 && highest p j }) (session_of p j))
    (count (size reached) (version (version_of p + count_to (misses p reached) 16) (job (halted_by p.job p reached) (stays p))))

-- "If any was reached, the write is acknowledged ..; client map and each reached node mark it, the node being sent the version after these changes. Reached by none: neither"; "none" says which
abbrev pub acknowledges : Bool → Pool → ℕ → ℕ → Left
acknowledges true p k reached = reports (Reports.written false (λ j. ⊥)) (writes p reached)
acknowledges false p k reached =
    past (record { written = true; assembled = p.roster.past.assembled })
    (reports (Reports.written true (λ j. listed p reached j ≡ true))
    (tells (Tells.marks (In reached) k (λ j. listed p reached j ≡ true) (version_of p + count_to (misses p reached) 16))
    (chunk (λ xs m n. pick (listed p reached m && eqb n k) 1 (dirty xs m n)) (writes p reached))))

-- "picks the lowest id that is neither a member nor held by a session"
abbrev pub lowest_unused : Pool → ℕ
lowest_unused p = lowest_to (λ j. is_free (state_of p j) && not (has (members_of p) j)) 16

-- "POOL_INFO goes out as at a join by create; then, before any message of a run, the new member's row is set for every chunk in the client map and on every NORMAL node .., its session is
-- RECONNECTING, and recovery is tried"; "it also stores the pool's version": the fill carries it. "Extend is logged with its id": it reports it.
abbrev pub extends : Pool → ℕ → Left
extends p id =
    session id (plainly State.Reconnecting) (members (λ j. (j ≡ id) ⊎ Member p j) (reports (Reports.picked id)
    (tells (Tells.fills (Told p id) (Normal p) id (version_of p))
    (chunk (λ xs m k. pick (eqb m id && ltb k p.chunks) 1 (dirty xs m k)) (and_then Then.recovery (stays p))))))

abbrev pub leaves : Event → Pool → Left
leaves (Event.join_create id) p = creates p.roster.sync p id
-- "Join, assemble: .. an empty membership takes it over instead. The pool version becomes the larger one. CREATED, then RECONNECTING, then recovery is tried. Either join sends POOL_INFO"
leaves (Event.join_assemble id set v) p =
    session id (plainly State.Reconnecting) (members (In set) (version (max (version_of p) v)
    (past (record { written = p.roster.past.written; assembled = p.roster.past.assembled || eqb (members_of p) 0 })
    (tells (Tells.infos (Told p id) Op.AddAssemble id) (and_then Then.recovery (stays p))))))
leaves (Event.enable id) p = enables (is_created (state_of p id)) p id
-- "Maintenance: NORMAL to RECONNECTING, flagged; node told by enable 0"; "If leaving for .. maintenance brings the count to 0, that session is marked"
leaves (Event.maintenance id) p =
    session id (record { state = State.Reconnecting; maintenance = true; mark = alone p id }) (tells (Tells.off id) (leaving p id (stays p)))
leaves (Event.link_down id) p = down_in p.job p id
leaves (Event.store_check id) p = brings p.roster.sync p id
leaves (Event.rejoin id) p = brings p.roster.sync p id
leaves Event.try_run p = and_then Then.recovery (stays p)
-- "Remove (delete or disassemble): any state to REMOVING"; mark and flag end there; "leaving NORMAL for .. removal must raise the pool version too"
leaves (Event.remove xs id mode) p = session id (plainly (State.Removing mode (owes (state_of p id)))) (leaving p id (and_then (Then.removal id) (stays p)))
leaves (Event.write xs k reached) p = acknowledges (eqb reached 0) p k reached
-- "NORMAL nodes clear it; the client map keeps it"
leaves (Event.synced xs member k) p = tells (Tells.clears (Normal p) member k) (stays p)
leaves (Event.answer xs number a) p = reports Reports.replied (tells Tells.replied (and_then (Then.reply a) (stays p)))
leaves (Event.extend xs) p = extends p (lowest_unused p)

-- ---- that it is so

-- a set of ids: who is in it
pub record Holds (set : ℕ) (who : ℕ → Type 0) : Type 0 where
  pub ids : ASet set
  pub are : (id : ℕ) → In set id ↔ who id

-- a set of which this is so
pub record SomeSet (is : ℕ → Type 0) : Type 0 where
  pub set : ℕ
  pub so : is set

-- what is reported, what is told: as said; by the job in hand, which the trial below has whole
abbrev pub IsReported : Reports → Outcome → Type 0
IsReported Reports.plain o = o ≡ Outcome.Plain
IsReported (Reports.taken n) o = o ≡ Outcome.Taken n
IsReported (Reports.written acknowledged list) o = SomeSet (λ s. (o ≡ Outcome.Written acknowledged s) × Holds s list)
IsReported (Reports.picked id) o = o ≡ Outcome.Picked id
IsReported Reports.replied o = Unit

abbrev pub IsTold : Tells → messages.Told → Type 0
IsTold Tells.nothing t = t ≡ messages.Told.Nothing
IsTold (Tells.marks who k list v) t = SomeSet (λ s. SomeSet (λ l. (t ≡ messages.Told.Marks s k l v) × Holds s who × Holds l list))
IsTold (Tells.clears who member k) t = SomeSet (λ s. (t ≡ messages.Told.Clears s member k) × Holds s who)
IsTold (Tells.infos who op member) t = SomeSet (λ s. (t ≡ messages.Told.Infos s op member) × Holds s who)
IsTold (Tells.fills who normals member v) t = SomeSet (λ s. SomeSet (λ n. (t ≡ messages.Told.Extended s n member v) × Holds s who × Holds n normals))
IsTold (Tells.off id) t = t ≡ messages.Told.Off id
IsTold (Tells.disable id) t = t ≡ messages.Told.Disable id
IsTold Tells.replied t = Unit

-- what is left of a lent map, bit by bit
abbrev pub IsLeft : (List ℕ → ℕ → ℕ → ℕ) → ℕ → Lent → Lent → Type 0
IsLeft f chunks Lent.none left = left ≡ Lent.none
IsLeft f chunks (Lent.some xs) Lent.none = ⊥
IsLeft f chunks (Lent.some xs) (Lent.some ys) = SoundMap chunks ys × ((m k : ℕ) → m < 16 → k < 4096 → dirty ys m k ≡ f xs m k)

-- what is done to a lent map
abbrev pub done : Effect → Lent → Lent
done ef Lent.none = Lent.none
done ef (Lent.some xs) = Lent.some (carried ef xs)

-- the awaited message goes out with the pool's number, nothing with 0
abbrev pub numbered : Posted → Sent → Type 0
numbered w s = (s.awaited ≡ w.awaited) × (s.number ≡ pick (is_nothing w.awaited) 0 w.pool.number)

-- What comes then, in the pool that the event left: the next pool, the awaited message with its number, and what is left of the lent map. A trial changes no session and no number of theirs.
abbrev pub Comes : Then → (List ℕ → ℕ → ℕ → ℕ) → Pool → Pool → Sent → Lent → Lent → Type 0
Comes Then.nothing f after next s lent left = (next ≡ after) × (s.awaited ≡ Message.Nothing) × (s.number ≡ 0) × IsLeft f after.chunks lent left
Comes Then.recovery f after next s lent left = (next ≡ (tried after).pool) × (next.roster ≡ after.roster) × numbered (tried after) s × IsLeft f after.chunks lent left
Comes (Then.removal id) f after next s lent left = (next ≡ (started after id).posted.pool) × numbered (started after id).posted s × (left ≡ done (started after id).effect lent)
Comes (Then.reply a) f after next s lent left =
    (next ≡ (answered after.job after a).pool) × (Answer.Done s ≡ (answered after.job after a).answer) × (left ≡ done (answered after.job after a).effect lent)

-- after: the pool that the event leaves, before what comes then. The pool's kind, the chunk count and the number of the last awaited message stay in every event.
pub record Became (l : Left) (e : Event) (p : Pool) : Type 0 where
  pub after : Pool
  pub session : (id : ℕ) → session_of after id ≡ l.session id
  pub members : Holds (members_of after) l.members
  pub count : after.roster.count ≡ l.count
  pub version : version_of after ≡ l.version
  pub past : after.roster.past ≡ l.past
  pub kind : after.roster.sync ≡ p.roster.sync
  pub job : after.job ≡ l.job
  pub number : after.number ≡ p.number
  pub chunks : after.chunks ≡ p.chunks
  pub sent : Sent
  pub answer : (turn_of e p).answer ≡ Answer.Done sent
  pub reports : IsReported l.reports sent.outcome
  pub tells : IsTold l.tells sent.told
  pub then : Comes l.then l.chunk after (turn_of e p).pool sent (lent_to e) (map_left e p)

-- Of every event that is accepted, in a pool in order.
abbrev pub FieldsAsSaid : Type 0
FieldsAsSaid = (e : Event) (p : Pool) → InOrder p → Accepted (turn_of e p).answer → Became (leaves e p) e p
