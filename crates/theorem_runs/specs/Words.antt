-- Words of the statements on runs and removals, in terms of the sessions and of the job in hand. None of the rules' own tests is cited for what it is to decide.
use Rattle.std.specs.Prelude.{◌≡◌, ◌≢◌, Bool, true, false, ℕ, ◌+◌, ◌%◌, ◌^◌, ◌≤◌, ◌<◌, length}
use Rattle.rules_base.specs.Sets.{has}
use Rattle.rules_pool.specs.declared.State.{State}
use Rattle.rules_pool.specs.declared.Step.{Step}
use Rattle.rules_pool.specs.declared.Phase.{Phase}
use Rattle.rules_pool.specs.declared.Run.{Run}
use Rattle.rules_pool.specs.declared.Job.{Job}
use Rattle.rules_pool.specs.declared.Pool.{Pool}
use Rattle.rules_pool.specs.declared.Message.{Message}
use Rattle.rules_pool.specs.declared.Sent.{Sent}
use Rattle.rules_pool.specs.declared.Answer.{Answer}
use Rattle.rules_pool.specs.StateRules.{valid_pool}
use Rattle.rules_client.specs.Client.{fresh_pool}
use Rattle.rules_client.specs.Events.{Event, turn_of, next, record_of, state_of}

abbrev pub Iff : Type 0 → Type 0 → Type 0
Iff a b = (a → b) × (b → a)

-- The pool is in order: it keeps the state rules, with sixteen session records.
pub record InOrder (c : Pool) : Type 0 where
  pub rules : valid_pool c ≡ true
  pub sixteen : length c.roster.sessions ≡ 16

-- So is every pool that is reached: a fresh one of 1 to 4,096 chunks, and what any event makes of one in order, be it accepted or refused.
abbrev pub OrderKept : Type 0
OrderKept =
    ((sync : Bool) (chunks : ℕ) → 1 ≤ chunks → chunks ≤ 4096 → InOrder (fresh_pool sync chunks))
    × ((c : Pool) (e : Event) → InOrder c → InOrder (next e c))

-- the event is accepted, and hands this back
abbrev pub Hands : Event → Pool → Sent → Type 0
Hands e c s = (turn_of e c).answer ≡ Answer.Done s

-- ---- sessions

abbrev pub Normal : Pool → ℕ → Type 0
Normal c id = state_of c id ≡ State.Normal

-- "candidate": RECONNECTING, not in maintenance
abbrev pub Candidate : Pool → ℕ → Type 0
Candidate c id = (state_of c id ≡ State.Reconnecting) × ((record_of c id).maintenance ≡ false)

-- marked last authoritative
abbrev pub Marked : Pool → ℕ → Type 0
Marked c id = (record_of c id).mark ≡ true

abbrev pub Member : Pool → ℕ → Type 0
Member c id = has c.roster.members id ≡ true

abbrev pub version_of : Pool → ℕ
version_of c = c.roster.version

-- ---- one after the other, ascending

abbrev pub Nobody : (ℕ → Type 0) → Type 0
Nobody who = (id : ℕ) → who id → ⊥

-- x is the lowest of them
abbrev pub Lowest : (ℕ → Type 0) → ℕ → Type 0
Lowest who x = who x × ((j : ℕ) → j < x → who j → ⊥)

-- them but x
abbrev pub But : (ℕ → Type 0) → ℕ → ℕ → Type 0
But who x id = who id × (id ≢ x)

-- The next in turn is the lowest of them, and this is said of it; where there is none, that.
abbrev pub InTurn : (ℕ → Type 0) → (ℕ → Type 0) → Type 0 → Type 0
InTurn who this that = ((y : ℕ) → Lowest who y → this y) × (Nobody who → that)

-- ---- the run in hand

-- left in its phase
abbrev pub Left : Run → ℕ → Type 0
Left r id = has r.left id ≡ true

-- What a run says in each phase, x being whose turn it is. The phases: MAP_GET_VER to all (with the highest version so far); Base, the spread without enable; LAST_IO_TO_MAP to all; the gather;
-- ENABLE_POOL; Spread, the one with enable.
abbrev pub says : Pool → Phase → ℕ → ℕ → Message
-- "MAP_GET_VER to all"
says c (Phase.Versions best) source x = Message.GetVersion x
-- "A spread to r is MAP_READY (r, start empty), MAP_SEND (source, for r), MAP_DONE (r)"; "spread without enable". MAP_DONE carries the pool's version and member set.
says c (Phase.Base Step.Ready) source x = Message.Ready x false
says c (Phase.Base Step.Send) source x = Message.Send source x
says c (Phase.Base Step.Done) source x = Message.Done x false (version_of c) c.roster.members
-- "LAST_IO_TO_MAP (naming the chosen) to all"
says c Phase.LastIo source x = Message.LastIo x source
-- "gather, a spread from each other member to the chosen, starting from what it holds"
says c (Phase.Gather Step.Ready) source x = Message.Ready source true
says c (Phase.Gather Step.Send) source x = Message.Send x source
says c (Phase.Gather Step.Done) source x = Message.Done source false (version_of c) c.roster.members
-- "ENABLE_POOL to the source", "ENABLE_POOL to the chosen", with the pool's version and member set
says c (Phase.Enable every) source x = Message.Enable source (version_of c) c.roster.members
-- "spread with enable"
says c (Phase.Spread Step.Ready) source x = Message.Ready x false
says c (Phase.Spread Step.Send) source x = Message.Send source x
says c (Phase.Spread Step.Done) source x = Message.Done x true (version_of c) c.roster.members

-- A run is in hand after the event that led from c to c' and handed s back: its phase, its source, those left in it, the awaited answers taken so far; it awaits what it says to x, sent under
-- the next number: "One message is awaited at a time; awaited messages are numbered from 1, modulo 2^32."
pub record Awaits (c c' : Pool) (s : Sent) (p : Phase) (from : ℕ) (who : ℕ → Type 0) (taken x : ℕ) : Type 0 where
  pub run : Run
  pub job : c'.job ≡ Job.Running run
  pub phase : run.phase ≡ p
  pub source : run.source ≡ from
  pub left : (id : ℕ) → Iff (Left run id) (who id)
  pub count : run.taken ≡ taken
  pub message : s.awaited ≡ says c' p from x
  pub number : c'.number ≡ (c.number + 1) % 2 ^ 32
  pub under : s.number ≡ c'.number

-- No job is in hand, and nothing was sent that is awaited.
pub record Quiet (c c' : Pool) (s : Sent) : Type 0 where
  pub job : c'.job ≡ Job.Idle
  pub message : s.awaited ≡ Message.Nothing
  pub number : c'.number ≡ c.number
  pub under : s.number ≡ 0
