-- When a run begins, which case it is, whom it asks first (document 01, "Recovery runs").
use Rattle.std.specs.Prelude.{◌≡◌, ◌⊎◌, false, List, ℕ, ◌-◌, ◌^◌, ◌≤◌}
use Rattle.rules_pool.specs.declared.State.{State}
use Rattle.rules_pool.specs.declared.Step.{Step}
use Rattle.rules_pool.specs.declared.Phase.{Phase}
use Rattle.rules_pool.specs.declared.Run.{Run}
use Rattle.rules_pool.specs.declared.Job.{Job}
use Rattle.rules_pool.specs.declared.Pool.{Pool}
use Rattle.rules_pool.specs.declared.Reply.{Reply}
use Rattle.rules_pool.specs.declared.Told.{Told}
use Rattle.rules_pool.specs.declared.Outcome.{Outcome}
use Rattle.rules_pool.specs.declared.Sent.{Sent}
use Rattle.rules_client.specs.Events.{Event, next, state_of, is_sync}
use Rattle.theorem_runs.specs.Words.{Iff, InOrder, Hands, Normal, Candidate, Marked, Member, version_of, Nobody, Lowest, But, Awaits, Quiet}

-- ---- the three cases

-- "1. some session NORMAL and a candidate exists."
pub record Case1 (c : Pool) : Type 0 where
  pub normal : ℕ
  pub some : Normal c normal
  pub candidate : ℕ
  pub exists : Candidate c candidate

-- "2. none NORMAL, and the last authoritative session is a candidate."
pub record Case2 (c : Pool) : Type 0 where
  pub none : Nobody (Normal c)
  pub last : ℕ
  pub marked : Marked c last
  pub candidate : Candidate c last

-- "3. none NORMAL, none marked, membership not empty, every member's session a candidate."
pub record Case3 (c : Pool) : Type 0 where
  pub none : Nobody (Normal c)
  pub unmarked : Nobody (Marked c)
  pub member : ℕ
  pub nonempty : Member c member
  pub every : (id : ℕ) → Member c id → Candidate c id

-- "A run begins exactly when the version is at most 2^63 - 33 and one case holds"; C-13: "Each limit of 2^63 - 33 in document 01 becomes 2^63 - 34".
abbrev pub MayRun : Pool → Type 0
MayRun c = (version_of c ≤ 2 ^ 63 - 34) × (Case1 c ⊎ Case2 c ⊎ Case3 c)

pub record Runs (c : Pool) : Type 0 where
  pub run : Run
  pub job : c.job ≡ Job.Running run

-- ---- recovery tried, by an event that led from c to c' and handed s back

pub record Tried (c c' : Pool) (s : Sent) : Type 0 where
  pub begins : Iff (Runs c') (MayRun c')
  -- "1. .. Source: lowest NORMAL id; receivers: the candidates"; "Case 1: spread with enable to each", "receivers ascending"
  pub one : (source x : ℕ) → MayRun c' → Lowest (Normal c') source → Lowest (Candidate c') x → Awaits c c' s (Phase.Spread Step.Ready) source (Candidate c') 0 x
  -- "2. .. It is the source; the other candidates receive"; "Case 2: ENABLE_POOL to the source first"
  pub two : (source : ℕ) → MayRun c' → Nobody (Normal c') → Marked c' source → Awaits c c' s (Phase.Enable false) source (But (Candidate c') source) 0 source
  -- "Case 3 (000): MAP_GET_VER to all": the lowest member first, and until a higher version comes the lowest is the chosen
  pub three : (x : ℕ) → MayRun c' → Nobody (Normal c') → Nobody (Marked c') → Lowest (Member c') x → Awaits c c' s (Phase.Versions 0) x (Member c') 0 x
  -- "the event stands if none begins"
  pub none : (MayRun c' → ⊥) → Quiet c c' s

-- "Tried after the events named, on request (try), and after a link drop ended a run": join assemble; enable on RECONNECTING; a good store check or rejoin, in a pool that is not sync; extend (C-20).
pub data Tries (c : Pool) : Event → Type 0 where
  assemble : (id set version : ℕ) → Tries c (Event.join_assemble id set version)
  enable : (id : ℕ) → state_of c id ≡ State.Reconnecting → Tries c (Event.enable id)
  store_check : (id : ℕ) → is_sync c ≡ false → Tries c (Event.store_check id)
  rejoin : (id : ℕ) → is_sync c ≡ false → Tries c (Event.rejoin id)
  try : Tries c Event.try_run
  extend : (xs : List ℕ) → Tries c (Event.extend xs)
  link_down : (id : ℕ) (r : Run) → c.job ≡ Job.Running r → Tries c (Event.link_down id)

-- After each of these, accepted, recovery is tried with the sessions as the event leaves them.
abbrev pub BeginsWhen : Type 0
BeginsWhen = (c : Pool) (e : Event) (s : Sent) → InOrder c → Hands e c s → Tries c e → Tried c (next e c) s

-- And after no other: a run that is in hand after an event was begun by one of these, or an answer went on with it.
pub data GoesOn (c : Pool) : Event → Type 0 where
  answer : (xs : List ℕ) (number : ℕ) (a : Reply) (r : Run) → c.job ≡ Job.Running r → GoesOn c (Event.answer xs number a)

abbrev pub BeginsOnly : Type 0
BeginsOnly = (c : Pool) (e : Event) (s : Sent) → InOrder c → Hands e c s → Runs (next e c) → Tries c e ⊎ GoesOn c e

-- Try does nothing else: no session, member or number changes but for the awaited message's, and no other message goes out.
pub record TryOnly (c : Pool) (s : Sent) : Type 0 where
  pub sessions : (next Event.try_run c).roster ≡ c.roster
  pub chunks : (next Event.try_run c).chunks ≡ c.chunks
  pub told : s.told ≡ Told.Nothing
  pub outcome : s.outcome ≡ Outcome.Plain

abbrev pub TryDoes : Type 0
TryDoes = (c : Pool) (s : Sent) → InOrder c → Hands Event.try_run c s → TryOnly c s
