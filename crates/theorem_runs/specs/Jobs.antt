-- What a job bars and what it lets by; how awaited messages are numbered (document 01, "Jobs", "Recovery runs"; document 02, C-17).
use Rattle.std.specs.Prelude.{◌≡◌, ◌≢◌, Bool, true, false, List, ℕ, ◌+◌, ◌%◌, ◌^◌, ◌≤◌, ◌<◌}
use Rattle.rules_base.specs.Map.{sound}
use Rattle.rules_pool.specs.declared.Mode.{Mode}
use Rattle.rules_pool.specs.declared.State.{State}
use Rattle.rules_pool.specs.declared.Run.{Run}
use Rattle.rules_pool.specs.declared.Removal.{Removal}
use Rattle.rules_pool.specs.declared.Job.{Job}
use Rattle.rules_pool.specs.declared.Pool.{Pool}
use Rattle.rules_pool.specs.declared.Message.{Message}
use Rattle.rules_pool.specs.declared.Reply.{Reply}
use Rattle.rules_pool.specs.declared.Sent.{Sent}
use Rattle.rules_pool.specs.declared.Answer.{Answer}
use Rattle.rules_pool.specs.Breaking.{is_accepted}
use Rattle.rules_client.specs.Client.{Client, fresh_pool}
use Rattle.rules_client.specs.Events.{Event, turn_of, next, state_of, is_sync}
use Rattle.rules_client.specs.ClientEvents as client
use Rattle.theorem_runs.specs.Words.{Iff, InOrder, Hands}
use Rattle.theorem_runs.specs.Removals.{Peer}

-- ---- what a job bars

-- "a run bars all but link down and answers"
abbrev pub RunBars : Event → Type 0
RunBars (Event.join_create id) = Unit {0}
RunBars (Event.join_assemble id set version) = Unit {0}
RunBars (Event.enable id) = Unit {0}
RunBars (Event.maintenance id) = Unit {0}
RunBars (Event.link_down id) = ⊥
RunBars (Event.store_check id) = Unit {0}
RunBars (Event.rejoin id) = Unit {0}
RunBars Event.try_run = Unit {0}
RunBars (Event.remove xs id mode) = Unit {0}
RunBars (Event.write xs chunk reached) = Unit {0}
RunBars (Event.synced xs member chunk) = Unit {0}
RunBars (Event.answer xs number a) = ⊥
RunBars (Event.extend xs) = Unit {0}

-- "A removal also lets writes and syncs by"
abbrev pub RemovalBars : Event → Type 0
RemovalBars (Event.join_create id) = Unit {0}
RemovalBars (Event.join_assemble id set version) = Unit {0}
RemovalBars (Event.enable id) = Unit {0}
RemovalBars (Event.maintenance id) = Unit {0}
RemovalBars (Event.link_down id) = ⊥
RemovalBars (Event.store_check id) = Unit {0}
RemovalBars (Event.rejoin id) = Unit {0}
RemovalBars Event.try_run = Unit {0}
RemovalBars (Event.remove xs id mode) = Unit {0}
RemovalBars (Event.write xs chunk reached) = ⊥
RemovalBars (Event.synced xs member chunk) = ⊥
RemovalBars (Event.answer xs number a) = ⊥
RemovalBars (Event.extend xs) = Unit {0}

abbrev pub Bars : Job → Event → Type 0
Bars Job.Idle e = ⊥
Bars (Job.Running r) e = RunBars e
Bars (Job.Removing m) e = RemovalBars e

-- No number of an earlier place applies: the lent map is sound (2), ids and sets are (3), the chunk is below the count (4), the event is for this kind of pool (5).
abbrev pub Fits : Event → Pool → Type 0
Fits (Event.join_create id) c = id ≤ 15
Fits (Event.join_assemble id set version) c = (id ≤ 15) × (set ≤ 65535) × (is_sync c ≡ false)
Fits (Event.enable id) c = (id ≤ 15) × (is_sync c ≡ false)
Fits (Event.maintenance id) c = (id ≤ 15) × (is_sync c ≡ false)
Fits (Event.link_down id) c = id ≤ 15
Fits (Event.store_check id) c = id ≤ 15
Fits (Event.rejoin id) c = id ≤ 15
Fits Event.try_run c = is_sync c ≡ false
Fits (Event.remove xs id mode) c = (sound c.chunks xs ≡ true) × (id ≤ 15)
Fits (Event.write xs chunk reached) c = (sound c.chunks xs ≡ true) × (reached ≤ 65535) × (chunk < c.chunks) × (is_sync c ≡ false)
Fits (Event.synced xs member chunk) c = (sound c.chunks xs ≡ true) × (member ≤ 15) × (chunk < c.chunks) × (is_sync c ≡ false)
Fits (Event.answer xs number a) c = sound c.chunks xs ≡ true
Fits (Event.extend xs) c = (sound c.chunks xs ≡ true) × (is_sync c ≡ false)

-- "6: a job is in hand that bars the event": it is never accepted, whatever it brings, and changes nothing; and where no number of an earlier place applies, it is 6.
abbrev pub Barred : Type 0
Barred = (c : Pool) (e : Event) → Bars c.job e → (is_accepted (turn_of e c).answer ≡ false) × (next e c ≡ c)

abbrev pub BarredBySix : Type 0
BarredBySix = (c : Pool) (e : Event) → InOrder c → Bars c.job e → Fits e c → (turn_of e c).answer ≡ Answer.Refused 6

-- "Checks and their answers are barred during any job (refusal 6)" (C-17)
abbrev pub ChecksBarred : Type 0
ChecksBarred = (c : Client) (xs : List ℕ) → InOrder c.pool → c.pool.job ≢ Job.Idle → is_sync c.pool ≡ false → sound c.pool.chunks xs ≡ true
    → ((client.out_of (client.Event.tick xs) c).answer ≡ Answer.Refused 6)
    × ((number m : ℕ) (empty : Bool) → m ≤ 15 → (client.out_of (client.Event.check_answer xs number m empty) c).answer ≡ Answer.Refused 6)

-- ---- what it lets by

-- the pool without the job
abbrev pub idle : Pool → Pool
idle c = record { roster = c.roster; job = Job.Idle; number = c.number; chunks = c.chunks }

-- Link down, while a job is in hand, is accepted just where it is with none; but that of a REMOVING session, else refused, is let by where it is the awaited peer. Writes and syncs are answered during a
-- removal as with no job.
pub record LetBy (c : Pool) : Type 0 where
  pub down : (id : ℕ) → ((mode : Mode) (owed : Bool) → state_of c id ≢ State.Removing mode owed) → is_accepted (turn_of (Event.link_down id) c).answer ≡ is_accepted (turn_of (Event.link_down id) (idle c)).answer
  pub peer : (id : ℕ) (mode : Mode) (owed : Bool) (m : Removal) → c.job ≡ Job.Removing m → state_of c id ≡ State.Removing mode owed → id ≤ 15
      → Iff (is_accepted (turn_of (Event.link_down id) c).answer ≡ true) (Peer m id)
  pub run : (id : ℕ) (mode : Mode) (owed : Bool) (r : Run) → c.job ≡ Job.Running r → state_of c id ≡ State.Removing mode owed → is_accepted (turn_of (Event.link_down id) c).answer ≡ false
  pub write : (xs : List ℕ) (chunk reached : ℕ) (m : Removal) → c.job ≡ Job.Removing m → (turn_of (Event.write xs chunk reached) c).answer ≡ (turn_of (Event.write xs chunk reached) (idle c)).answer
  pub synced : (xs : List ℕ) (member chunk : ℕ) (m : Removal) → c.job ≡ Job.Removing m → (turn_of (Event.synced xs member chunk) c).answer ≡ (turn_of (Event.synced xs member chunk) (idle c)).answer

abbrev pub LetsBy : Type 0
LetsBy = (c : Pool) → InOrder c → LetBy c

-- "13: the answer's number is not that of the awaited message, or nothing is awaited": an answer is taken exactly when a job is in hand and it carries the number of the last awaited message
pub record AnswerTaken (c : Pool) (xs : List ℕ) (number : ℕ) (a : Reply) : Type 0 where
  pub taken : c.job ≢ Job.Idle → number ≡ c.number → is_accepted (turn_of (Event.answer xs number a) c).answer ≡ true
  pub nothing : c.job ≡ Job.Idle → (turn_of (Event.answer xs number a) c).answer ≡ Answer.Refused 13
  pub another : number ≢ c.number → (turn_of (Event.answer xs number a) c).answer ≡ Answer.Refused 13

abbrev pub AnswersTaken : Type 0
AnswersTaken = (c : Pool) (xs : List ℕ) (number : ℕ) (a : Reply) → InOrder c → sound c.chunks xs ≡ true → AnswerTaken c xs number a

-- ---- numbers of awaited messages

-- "awaited messages are numbered from 1, modulo 2^32": an event that sends one gives it the next number, any other gives none; a fresh pool has given none
pub record NumberedBy (c c' : Pool) (s : Sent) : Type 0 where
  pub next : s.awaited ≢ Message.Nothing → (c'.number ≡ (c.number + 1) % 2 ^ 32) × (s.number ≡ c'.number)
  pub none : s.awaited ≡ Message.Nothing → (c'.number ≡ c.number) × (s.number ≡ 0)

abbrev pub Numbered : Type 0
Numbered = ((c : Pool) (e : Event) (s : Sent) → InOrder c → Hands e c s → NumberedBy c (next e c) s) × ((sync : Bool) (chunks : ℕ) → (fresh_pool sync chunks).number ≡ 0)

-- "One message is awaited at a time": one is sent only where nothing was awaited, or what was awaited is answered, or its run is cut off by a link down
pub data NothingElse (c : Pool) : Event → Type 0 where
  free : (e : Event) → c.job ≡ Job.Idle → NothingElse c e
  answered : (xs : List ℕ) (a : Reply) → NothingElse c (Event.answer xs c.number a)
  cut : (id : ℕ) (r : Run) → c.job ≡ Job.Running r → NothingElse c (Event.link_down id)

abbrev pub OneAtATime : Type 0
OneAtATime = (c : Pool) (e : Event) (s : Sent) → InOrder c → Hands e c s → s.awaited ≢ Message.Nothing → NothingElse c e
