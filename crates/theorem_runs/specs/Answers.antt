-- Which message comes after which answer, good or failed, phase by phase; what a link down leaves of a run (document 01, "Recovery runs").
use Rattle.std.specs.Prelude.{◌≡◌, ◌≢◌, true, List, ℕ, ◌+◌, ◌≤◌, ◌<◌, Option, Some, None}
use Rattle.rules_pool.specs.declared.Cause.{Cause}
use Rattle.rules_pool.specs.declared.State.{State}
use Rattle.rules_pool.specs.declared.Step.{Step}
use Rattle.rules_pool.specs.declared.Phase.{Phase}
use Rattle.rules_pool.specs.declared.Run.{Run}
use Rattle.rules_pool.specs.declared.Job.{Job}
use Rattle.rules_pool.specs.declared.Pool.{Pool}
use Rattle.rules_pool.specs.declared.Told.{Told}
use Rattle.rules_pool.specs.declared.Outcome.{Outcome}
use Rattle.rules_pool.specs.declared.Reply.{Reply}
use Rattle.rules_pool.specs.declared.Sent.{Sent}
use Rattle.rules_client.specs.Events.{Event, next, Lent, map_left, record_of, state_of, is_sync}
use Rattle.theorem_runs.specs.Words.{InOrder, Hands, Normal, Marked, Member, version_of, Nobody, Lowest, But, InTurn, Left, Awaits, Quiet}

-- ---- words. An event leads from c to c' and hands s back; r is the run that was in hand, x the one whose turn it was.

-- Whose turn it is: while ENABLE_POOL is awaited the source's, else that of the lowest left.
abbrev pub Whose : Phase → Run → ℕ → Type 0
Whose (Phase.Versions best) r x = Lowest (Left r) x
Whose (Phase.Base step) r x = Lowest (Left r) x
Whose Phase.LastIo r x = Lowest (Left r) x
Whose (Phase.Gather step) r x = Lowest (Left r) x
Whose (Phase.Enable every) r x = x ≡ r.source
Whose (Phase.Spread step) r x = Lowest (Left r) x

-- The receiver in hand: in a spread the one whose turn it is, in a gather the chosen; while MAP_GET_VER, LAST_IO_TO_MAP or ENABLE_POOL is awaited, nobody.
abbrev pub Receiver : Phase → Run → ℕ → Type 0
Receiver (Phase.Versions best) r x = ⊥
Receiver (Phase.Base step) r x = Lowest (Left r) x
Receiver Phase.LastIo r x = ⊥
Receiver (Phase.Gather step) r x = x ≡ r.source
Receiver (Phase.Enable every) r x = ⊥
Receiver (Phase.Spread step) r x = Lowest (Left r) x

-- no session changes
pub record Stay (c c' : Pool) : Type 0 where
  pub sessions : (id : ℕ) → record_of c' id ≡ record_of c id
  pub count : c'.roster.count ≡ c.roster.count

-- x becomes NORMAL, no other session changes but that "the mark goes from every session when any enters NORMAL"
pub record Enters (c c' : Pool) (x : ℕ) : Type 0 where
  pub own : Normal c' x
  pub states : (id : ℕ) → id ≢ x → state_of c' id ≡ state_of c id
  pub flags : (id : ℕ) → id ≢ x → (record_of c' id).maintenance ≡ (record_of c id).maintenance
  pub unmarked : Nobody (Marked c')
  pub count : c'.roster.count ≡ c.roster.count + 1

-- the run goes on, with one more answer taken and the same version
pub record Goes (c c' : Pool) (s : Sent) (r : Run) (p : Phase) (from : ℕ) (who : ℕ → Type 0) (x : ℕ) : Type 0 where
  pub awaits : Awaits c c' s p from who (r.taken + 1) x
  pub version : version_of c' ≡ version_of c

-- the run ends: "[it] must raise the pool version too .. the end of every run, however it ends" (C-13)
pub record Ends (c c' : Pool) (s : Sent) : Type 0 where
  pub quiet : Quiet c c' s
  pub version : version_of c' ≡ version_of c + 1

-- ---- the phases in their order. `who` are those that are left in the phase; where nobody is, the next one follows.

-- the spread with enable; then the run is over
abbrev pub ToSpread : Pool → Pool → Sent → Run → ℕ → (ℕ → Type 0) → Type 0
ToSpread c c' s r source who = InTurn who (λ y. Goes c c' s r (Phase.Spread Step.Ready) source who y) (Ends c c' s)

-- "gather, a spread from each other member to the chosen ..; ENABLE_POOL to the chosen"; the other members receive then
abbrev pub ToGather : Pool → Pool → Sent → Run → ℕ → (ℕ → Type 0) → Type 0
ToGather c c' s r source who =
    InTurn who (λ y. Goes c c' s r (Phase.Gather Step.Ready) source who y) (Goes c c' s r (Phase.Enable true) source (But (Member c) source) source)

-- "LAST_IO_TO_MAP (naming the chosen) to all; gather"
abbrev pub ToLast : Pool → Pool → Sent → Run → ℕ → (ℕ → Type 0) → Type 0
ToLast c c' s r source who = InTurn who (λ y. Goes c c' s r Phase.LastIo source who y) (ToGather c c' s r source (But (Member c) source))

-- "spread without enable; LAST_IO_TO_MAP"
abbrev pub ToBase : Pool → Pool → Sent → Run → ℕ → (ℕ → Type 0) → Type 0
ToBase c c' s r source who = InTurn who (λ y. Goes c c' s r (Phase.Base Step.Ready) source who y) (ToLast c c' s r source (Member c))

-- "MAP_GET_VER to all, highest chosen ..; spread without enable": to every member but the chosen
abbrev pub ToVersions : ℕ → Pool → Pool → Sent → Run → ℕ → (ℕ → Type 0) → Type 0
ToVersions best c c' s r source who = InTurn who (λ y. Goes c c' s r (Phase.Versions best) source who y) (ToBase c c' s r source (But (Member c) source))

-- ---- a failed answer

-- MAP_DISABLE to the receiver in hand, if one was
pub record Disables (p : Phase) (r : Run) (s : Sent) : Type 0 where
  pub to : (y : ℕ) → Receiver p r y → s.told ≡ Told.Disable y
  pub nobody : Nobody (Receiver p r) → s.told ≡ Told.Nothing

-- "Failed answer in an enabling spread: MAP_DISABLE to the receiver, not awaited; it is passed over. Anywhere else the run ends, with that MAP_DISABLE if a receiver was in hand."
abbrev pub GoesOrEnds : Phase → Pool → Pool → Sent → Run → ℕ → Type 0
GoesOrEnds (Phase.Versions best) c c' s r x = Ends c c' s
GoesOrEnds (Phase.Base step) c c' s r x = Ends c c' s
GoesOrEnds Phase.LastIo c c' s r x = Ends c c' s
GoesOrEnds (Phase.Gather step) c c' s r x = Ends c c' s
GoesOrEnds (Phase.Enable every) c c' s r x = Ends c c' s
GoesOrEnds (Phase.Spread step) c c' s r x = ToSpread c c' s r r.source (But (Left r) x)

pub record Fails (p : Phase) (c c' : Pool) (s : Sent) (r : Run) (x : ℕ) : Type 0 where
  pub then : GoesOrEnds p c c' s r x
  pub disables : Disables p r s
  pub stay : Stay c c'

-- ---- a good answer

-- of one that makes nobody NORMAL
pub record Plain (c c' : Pool) (s : Sent) (comes : Type 0) : Type 0 where
  pub then : comes
  pub told : s.told ≡ Told.Nothing
  pub stay : Stay c c'

-- of the enabling message of x: "A session becomes NORMAL when its enabling message is answered well"
pub record Enabling (c c' : Pool) (s : Sent) (x : ℕ) (comes : Type 0) : Type 0 where
  pub then : comes
  pub told : s.told ≡ Told.Nothing
  pub enters : Enters c c' x

-- "Success without a version, or with one above the pool's, is a failed answer to MAP_GET_VER"; "highest chosen, ties to the lowest id": a version above the highest so far makes its bringer the chosen, and
-- they are asked ascending
abbrev pub Brings : ℕ → Pool → Pool → Sent → Run → ℕ → Option ℕ → Type 0
Brings best c c' s r x None = Fails (Phase.Versions best) c c' s r x
Brings best c c' s r x (Some v) =
    (version_of c < v → Fails (Phase.Versions best) c c' s r x)
    × (v ≤ version_of c → best < v → Plain c c' s (ToVersions v c c' s r x (But (Left r) x)))
    × (v ≤ version_of c → v ≤ best → Plain c c' s (ToVersions best c c' s r r.source (But (Left r) x)))

-- "elsewhere a version in a good answer is passed over": what is brought is looked at in no other phase
abbrev pub Good : Phase → Pool → Pool → Sent → Run → ℕ → Option ℕ → Type 0
Good (Phase.Versions best) c c' s r x b = Brings best c c' s r x b
-- "A spread to r is MAP_READY .., MAP_SEND .., MAP_DONE .., receivers ascending"
Good (Phase.Base Step.Ready) c c' s r x b = Plain c c' s (Goes c c' s r (Phase.Base Step.Send) r.source (Left r) x)
Good (Phase.Base Step.Send) c c' s r x b = Plain c c' s (Goes c c' s r (Phase.Base Step.Done) r.source (Left r) x)
Good (Phase.Base Step.Done) c c' s r x b = Plain c c' s (ToBase c c' s r r.source (But (Left r) x))
Good Phase.LastIo c c' s r x b = Plain c c' s (ToLast c c' s r r.source (But (Left r) x))
Good (Phase.Gather Step.Ready) c c' s r x b = Plain c c' s (Goes c c' s r (Phase.Gather Step.Send) r.source (Left r) x)
Good (Phase.Gather Step.Send) c c' s r x b = Plain c c' s (Goes c c' s r (Phase.Gather Step.Done) r.source (Left r) x)
Good (Phase.Gather Step.Done) c c' s r x b = Plain c c' s (ToGather c c' s r r.source (But (Left r) x))
Good (Phase.Enable every) c c' s r x b = Enabling c c' s r.source (ToSpread c c' s r r.source (Left r))
Good (Phase.Spread Step.Ready) c c' s r x b = Plain c c' s (Goes c c' s r (Phase.Spread Step.Send) r.source (Left r) x)
Good (Phase.Spread Step.Send) c c' s r x b = Plain c c' s (Goes c c' s r (Phase.Spread Step.Done) r.source (Left r) x)
Good (Phase.Spread Step.Done) c c' s r x b = Enabling c c' s x (ToSpread c c' s r r.source (But (Left r) x))

abbrev pub Does : Reply → Pool → Pool → Sent → Run → ℕ → Type 0
Does Reply.Failed c c' s r x = Fails r.phase c c' s r x
Does (Reply.Good b) c c' s r x = Good r.phase c c' s r x b

-- What every answer in a run leaves: "The result counts awaited answers taken so far in the run"; members, past, kind, chunk count and the client map stay.
pub record Counts (c c' : Pool) (s : Sent) (r : Run) : Type 0 where
  pub count : s.outcome ≡ Outcome.Taken (r.taken + 1)
  pub members : c'.roster.members ≡ c.roster.members
  pub past : c'.roster.past ≡ c.roster.past
  pub kind : is_sync c' ≡ is_sync c
  pub chunks : c'.chunks ≡ c.chunks

abbrev pub RunAnswered : Type 0
RunAnswered = (c : Pool) (xs : List ℕ) (number : ℕ) (a : Reply) (s : Sent) (r : Run) (x : ℕ) → InOrder c → c.job ≡ Job.Running r → Hands (Event.answer xs number a) c s → Whose r.phase r x
    → Does a c (next (Event.answer xs number a) c) s r x
    × Counts c (next (Event.answer xs number a) c) s r
    × (map_left (Event.answer xs number a) c ≡ Lent.some xs)

-- It is somebody's turn while a run is in hand.
pub record Someones (r : Run) : Type 0 where
  pub who : ℕ
  pub turn : Whose r.phase r who

abbrev pub SomebodysTurn : Type 0
SomebodysTurn = (c : Pool) (r : Run) → InOrder c → c.job ≡ Job.Running r → Someones r

-- ---- a link down

-- "An accepted link down during a run ends it too (no MAP_DISABLE to that session); recovery is tried [BeginsWhen]. The result counts awaited answers taken so far in the run." The version rises for the end of the
-- run, and once more if the session was NORMAL.
pub record Cut (c c' : Pool) (s : Sent) (r : Run) (id : ℕ) : Type 0 where
  pub count : s.outcome ≡ Outcome.Taken r.taken
  pub disables : (y : ℕ) → Receiver r.phase r y → y ≢ id → s.told ≡ Told.Disable y
  pub spared : Receiver r.phase r id → s.told ≡ Told.Nothing
  pub nobody : Nobody (Receiver r.phase r) → s.told ≡ Told.Nothing
  pub own : state_of c' id ≡ State.Failed Cause.Link
  pub others : (j : ℕ) → j ≢ id → record_of c' j ≡ record_of c j
  pub once : (Normal c id → ⊥) → version_of c' ≡ version_of c + 1
  pub twice : Normal c id → version_of c' ≡ version_of c + 2
  pub members : c'.roster.members ≡ c.roster.members

abbrev pub CutOff : Type 0
CutOff = (c : Pool) (id : ℕ) (s : Sent) (r : Run) → InOrder c → c.job ≡ Job.Running r → Hands (Event.link_down id) c s → Cut c (next (Event.link_down id) c) s r id
