-- A removal: which message goes to whom, what halts it, what a repeat sends, what it takes out (document 01, "Remove", "Jobs").
use Rattle.std.specs.Prelude.{◌≡◌, ◌≢◌, ◌⊎◌, Bool, true, false, List, ℕ, ◌+◌, ◌%◌, ◌^◌, ◌≤◌, ◌<◌}
use Rattle.rules_base.specs.Sets.{has}
use Rattle.rules_base.specs.Map.{sound, zero_row, zeroed}
use Rattle.rules_base.specs.declared.Op.{Op}
use Rattle.rules_pool.specs.declared.Mode.{Mode}
use Rattle.rules_pool.specs.declared.Cause.{Cause}
use Rattle.rules_pool.specs.declared.State.{State}
use Rattle.rules_pool.specs.declared.Session.{Session}
use Rattle.rules_pool.specs.declared.Stage.{Stage}
use Rattle.rules_pool.specs.declared.Removal.{Removal}
use Rattle.rules_pool.specs.declared.Job.{Job}
use Rattle.rules_pool.specs.declared.Pool.{Pool}
use Rattle.rules_pool.specs.declared.Message.{Message}
use Rattle.rules_pool.specs.declared.Told.{Told}
use Rattle.rules_pool.specs.declared.Outcome.{Outcome}
use Rattle.rules_pool.specs.declared.Reply.{Reply}
use Rattle.rules_pool.specs.declared.Sent.{Sent}
use Rattle.rules_pool.specs.declared.Answer.{Answer}
use Rattle.rules_pool.specs.Breaking.{is_accepted}
use Rattle.rules_client.specs.Events.{Event, turn_of, next, Lent, map_left, record_of, state_of, is_sync}
use Rattle.theorem_runs.specs.Words.{Iff, InOrder, Hands, Normal, Member, version_of, Nobody, But, InTurn, Quiet}

-- ---- words. An event leads from c to c' and hands s back; xs is the client map before it, `left` what it leaves of it; id is the session that is removed.

-- the record of a session that is REMOVING, LEAVE_POOL owed or not: mark and maintenance end on removal; and of none
abbrev pub removing : Mode → Bool → Session
removing mode owed = record { state = State.Removing mode owed; maintenance = false; mark = false }

abbrev pub nobody : Session
nobody = record { state = State.Free; maintenance = false; mark = false }

-- "LEAVE_POOL to it (not owed if it was FAILED)"; "LEAVE only if still owed": it is not, once it was done
pub data NotOwed : State → Type 0 where
  failed : (cause : Cause) → NotOwed (State.Failed cause)
  done : (mode : Mode) → NotOwed (State.Removing mode false)

-- what POOL_INFO says of the member
abbrev pub op : Mode → Op
op Mode.Delete = Op.RemoveDelete
op Mode.Disassemble = Op.RemoveDisassemble

-- a session, and not FAILED or REMOVING
abbrev pub Hears : State → Type 0
Hears st = (st ≡ State.Created) ⊎ (st ≡ State.Normal) ⊎ (st ≡ State.Reconnecting)

-- "POOL_INFO to each other session not FAILED or REMOVING"; "A sync pool .. removal is LEAVE only"
abbrev pub Due : Pool → ℕ → ℕ → Type 0
Due c id j = (is_sync c ≡ false) × Hears (state_of c j) × (j ≢ id)

-- the removal awaits this message, sent under the next number
pub record Asks (c c' : Pool) (s : Sent) (id : ℕ) (stage : Stage) (m : Message) : Type 0 where
  pub job : c'.job ≡ Job.Removing (record { id = id; stage = stage })
  pub message : s.awaited ≡ m
  pub number : c'.number ≡ (c.number + 1) % 2 ^ 32
  pub under : s.number ≡ c'.number

-- POOL_INFO goes to y: ys is then the client map
pub record Tells (c c' : Pool) (s : Sent) (left : Lent) (id : ℕ) (mode : Mode) (ys : List ℕ) (y : ℕ) : Type 0 where
  pub asks : Asks c c' s id (Stage.Info y) (Message.Info y (op mode) id)
  pub own : record_of c' id ≡ removing mode false
  pub map : left ≡ Lent.some ys

-- "After the last success (at once if none is due) the session is freed; if none is left the client map is zeroed." A sync pool has no map.
pub record Frees (c c' : Pool) (s : Sent) (left : Lent) (id : ℕ) (xs ys : List ℕ) : Type 0 where
  pub quiet : Quiet c c' s
  pub own : record_of c' id ≡ nobody
  pub none : is_sync c ≡ false → ((j : ℕ) → state_of c' j ≡ State.Free) → left ≡ Lent.some (zeroed xs)
  pub some : (j : ℕ) → state_of c' j ≢ State.Free → left ≡ Lent.some ys
  pub sync : is_sync c ≡ true → left ≡ Lent.some ys

-- "Awaited in turn: .. POOL_INFO to each other session ..., ascending"; "Whether a POOL_INFO is due is judged when its turn comes": by the sessions as they are at this event
abbrev pub Onward : Pool → Pool → Sent → Lent → ℕ → Mode → (ℕ → Type 0) → List ℕ → List ℕ → Type 0
Onward c c' s left id mode who xs ys = InTurn who (λ y. Tells c c' s left id mode ys y) (Frees c c' s left id xs ys)

-- member entry and client row taken out; "Deleting the last member clears this" (C-12): that a write was acknowledged, that the pool was assembled
pub record TakenOut (c c' : Pool) (id : ℕ) (xs ys : List ℕ) : Type 0 where
  pub members : (j : ℕ) → Iff (Member c' j) (But (Member c) id j)
  pub row : ys ≡ zero_row id xs
  pub last : Nobody (Member c') → (c'.roster.past.written ≡ false) × (c'.roster.past.assembled ≡ false)
  pub others : (j : ℕ) → Member c' j → c'.roster.past ≡ c.roster.past

pub record KeptIn (c c' : Pool) (xs ys : List ℕ) : Type 0 where
  pub members : c'.roster.members ≡ c.roster.members
  pub past : c'.roster.past ≡ c.roster.past
  pub map : ys ≡ xs

-- "When LEAVE is done or not owed, delete takes out member entry and client row." A sync pool has neither. Then the first POOL_INFO goes out, or the session is freed.
pub record Departs (c c' : Pool) (s : Sent) (left : Lent) (id : ℕ) (mode : Mode) (xs : List ℕ) : Type 0 where
  pub ys : List ℕ
  pub out : mode ≡ Mode.Delete → is_sync c ≡ false → TakenOut c c' id xs ys
  pub stays : mode ≡ Mode.Disassemble → KeptIn c c' xs ys
  pub sync : is_sync c ≡ true → KeptIn c c' xs ys
  pub then : Onward c c' s left id mode (Due c id) xs ys

-- what every event of a removal leaves: the other sessions, kind and chunk count; nothing but its awaited message is sent or reported
pub record Alone (c c' : Pool) (s : Sent) (id : ℕ) : Type 0 where
  pub others : (j : ℕ) → j ≢ id → record_of c' j ≡ record_of c j
  pub kind : is_sync c' ≡ is_sync c
  pub chunks : c'.chunks ≡ c.chunks
  pub told : s.told ≡ Told.Nothing
  pub outcome : s.outcome ≡ Outcome.Plain

-- ---- remove

-- "Remove (delete or disassemble): any state to REMOVING. Awaited in turn: LEAVE_POOL to it .., then POOL_INFO ..; a repeat in the same mode .. starts over, LEAVE only if still owed." C-13: "Leaving NORMAL for
-- .. removal must raise the pool version too."
pub record Removes (c c' : Pool) (s : Sent) (left : Lent) (xs : List ℕ) (id : ℕ) (mode : Mode) : Type 0 where
  pub leave : (NotOwed (state_of c id) → ⊥) → Asks c c' s id Stage.Leave (Message.Leave id mode) × (record_of c' id ≡ removing mode true) × (left ≡ Lent.some xs) × KeptIn c c' xs xs
  pub departs : NotOwed (state_of c id) → Departs c c' s left id mode xs
  pub alone : Alone c c' s id
  pub normal : Normal c id → is_sync c ≡ false → (version_of c' ≡ version_of c + 1) × (c'.roster.count + 1 ≡ c.roster.count)
  pub another : (Normal c id → ⊥) → (version_of c' ≡ version_of c) × (c'.roster.count ≡ c.roster.count)
  pub uncounted : is_sync c ≡ true → (version_of c' ≡ version_of c) × (c'.roster.count ≡ c.roster.count)

abbrev pub RemoveDoes : Type 0
RemoveDoes = (c : Pool) (xs : List ℕ) (id : ℕ) (mode : Mode) (s : Sent) → InOrder c → Hands (Event.remove xs id mode) c s
    → Removes c (next (Event.remove xs id mode) c) s (map_left (Event.remove xs id mode) c) xs id mode

-- It is taken of every session while no job is in hand, in any state; but of one that is REMOVING in the same mode only ("another mode: 9").
pub data OtherMode : State → Mode → Type 0 where
  deleting : (owed : Bool) → OtherMode (State.Removing Mode.Delete owed) Mode.Disassemble
  disassembling : (owed : Bool) → OtherMode (State.Removing Mode.Disassemble owed) Mode.Delete

pub record RemoveTaken (c : Pool) (xs : List ℕ) (id : ℕ) (mode : Mode) : Type 0 where
  pub taken : (state_of c id ≢ State.Free) → (OtherMode (state_of c id) mode → ⊥) → is_accepted (turn_of (Event.remove xs id mode) c).answer ≡ true
  pub nine : OtherMode (state_of c id) mode → (turn_of (Event.remove xs id mode) c).answer ≡ Answer.Refused 9
  pub seven : state_of c id ≡ State.Free → (turn_of (Event.remove xs id mode) c).answer ≡ Answer.Refused 7

abbrev pub RemoveWhen : Type 0
RemoveWhen = (c : Pool) (xs : List ℕ) (id : ℕ) (mode : Mode) → InOrder c → sound c.chunks xs ≡ true → id ≤ 15 → c.job ≡ Job.Idle → RemoveTaken c xs id mode

-- ---- its answers

-- "A failed answer halts": no job is in hand, and nothing else changes
pub record Halts (c c' : Pool) (s : Sent) : Type 0 where
  pub quiet : Quiet c c' s
  pub sessions : c'.roster ≡ c.roster

-- after a good one the next peer, above the last one told, gets its POOL_INFO
pub record GoesOn (c c' : Pool) (s : Sent) (left : Lent) (xs : List ℕ) (id : ℕ) (mode : Mode) (peer : ℕ) : Type 0 where
  pub then : InTurn (λ j. Due c id j × (peer < j)) (λ y. Asks c c' s id (Stage.Info y) (Message.Info y (op mode) id) × (record_of c' id ≡ record_of c id) × (left ≡ Lent.some xs)) (Frees c c' s left id xs xs)
  pub kept : KeptIn c c' xs xs

abbrev pub Answers : Stage → Reply → Pool → Pool → Sent → Lent → List ℕ → ℕ → Mode → Type 0
Answers stage Reply.Failed c c' s left xs id mode = Halts c c' s × (left ≡ Lent.some xs)
Answers Stage.Leave (Reply.Good b) c c' s left xs id mode = Departs c c' s left id mode xs
Answers (Stage.Info peer) (Reply.Good b) c c' s left xs id mode = GoesOn c c' s left xs id mode peer

-- an answer changes neither version nor NORMAL count
pub record RemovalStep (a : Reply) (stage : Stage) (c c' : Pool) (s : Sent) (left : Lent) (xs : List ℕ) (id : ℕ) (mode : Mode) : Type 0 where
  pub does : Answers stage a c c' s left xs id mode
  pub alone : Alone c c' s id
  pub version : version_of c' ≡ version_of c
  pub count : c'.roster.count ≡ c.roster.count

abbrev pub RemovalAnswered : Type 0
RemovalAnswered = (c : Pool) (xs : List ℕ) (number : ℕ) (a : Reply) (s : Sent) (m : Removal) (mode : Mode) (owed : Bool) → InOrder c → c.job ≡ Job.Removing m → state_of c m.id ≡ State.Removing mode owed
    → Hands (Event.answer xs number a) c s
    → RemovalStep a m.stage c (next (Event.answer xs number a) c) s (map_left (Event.answer xs number a) c) xs m.id mode

-- ---- what else halts it

-- the awaited peer: itself for LEAVE_POOL, else the one that POOL_INFO went to
abbrev pub PeerAt : Stage → ℕ → ℕ → Type 0
PeerAt Stage.Leave id x = x ≡ id
PeerAt (Stage.Info peer) id x = x ≡ peer

abbrev pub Peer : Removal → ℕ → Type 0
Peer m x = PeerAt m.stage m.id x

-- "link down of the awaited peer (a REMOVING one stays so), or a write that did not reach it, is its failed answer"; another link down or write leaves the removal in hand. No recovery is tried, no number changes.
pub record LosesPeer (c c' : Pool) (s : Sent) (m : Removal) (lost : ℕ → Type 0) : Type 0 where
  pub halts : (x : ℕ) → Peer m x → lost x → c'.job ≡ Job.Idle
  pub stays : (x : ℕ) → Peer m x → (lost x → ⊥) → c'.job ≡ c.job
  pub own : record_of c' m.id ≡ record_of c m.id
  pub message : s.awaited ≡ Message.Nothing
  pub number : c'.number ≡ c.number

abbrev pub PeerDown : Type 0
PeerDown = (c : Pool) (id : ℕ) (s : Sent) (m : Removal) → InOrder c → c.job ≡ Job.Removing m → Hands (Event.link_down id) c s → LosesPeer c (next (Event.link_down id) c) s m (λ x. x ≡ id)

abbrev pub PeerMissed : Type 0
PeerMissed = (c : Pool) (xs : List ℕ) (chunk reached : ℕ) (s : Sent) (m : Removal) → InOrder c → c.job ≡ Job.Removing m → Hands (Event.write xs chunk reached) c s
    → LosesPeer c (next (Event.write xs chunk reached) c) s m (λ x. Normal c x × (has reached x ≡ false))
