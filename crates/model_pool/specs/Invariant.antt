-- The invariant of a pool in which no missed chunk is forgotten.
use Rattle.std.specs.Prelude.{◌≡◌, Bool, true, false, ℕ, ◌≤◌, ◌<◌, T}
use Rattle.model_pool.specs.Model.{Session, up, dying, active, there, Kind, Base, Gather, Spread, Step, Ready, Send, Done, Job, Idle, Get, LastIo, Enable, Leave, Info, Move, Fate, taken, receiver, running, still, asks, sourced, removes, informs, Map, Transfer, opened, got, World}

-- at least every version that is owed
abbrev pub Over : (ℕ → ℕ → ℕ) → ℕ → Type 0
Over owe n = (m c : ℕ) → owe m c ≤ n

-- all that is owed is dirty in the map
abbrev pub Full : (ℕ → ℕ → ℕ) → Map → Type 0
Full owe f = (m c : ℕ) → 0 < owe m c → f m c ≡ true

-- a member that was in session and is not being deleted
pub record Party (ses : ℕ → Session) (mem been : ℕ → Bool) (j : ℕ) : Type 0 where
  pub member : mem j ≡ true
  pub joined : been j ≡ true
  pub lives : dying (ses j) ≡ false

-- how it stands while some member was never in session
pub record Outside (ses : ℕ → Session) (mark : ℕ → Bool) (owe : ℕ → ℕ → ℕ) (closed : Bool) : Type 0 where
  pub none-up : (k : ℕ) → up (ses k) ≡ false
  pub none-marked : (k : ℕ) → mark k ≡ false
  pub none-owed : (m c : ℕ) → owe m c ≡ 0
  pub shut : closed ≡ true

pub record Core (ses : ℕ → Session) (mark mem been : ℕ → Bool) (version : ℕ) (closed : Bool) (owe : ℕ → ℕ → ℕ) (ver : ℕ → ℕ) (map : ℕ → Map) : Type 0 where
  -- A
  pub positive : 1 ≤ version
  pub closes : (m c : ℕ) → 0 < owe m c → closed ≡ true
  pub below : Over owe version
  pub owed-member : (m c : ℕ) → 0 < owe m c → mem m ≡ true
  pub owed-lives : (m c : ℕ) → 0 < owe m c → dying (ses m) ≡ false
  -- B, and the state rule that every session but a REMOVING one is a member
  pub member : (j : ℕ) → active (ses j) ≡ true → mem j ≡ true
  pub joined : (j : ℕ) → there (ses j) ≡ true → been j ≡ true
  pub some : (j : ℕ) → been j ≡ true → (k : ℕ) × (mem k ≡ true) × (dying (ses k) ≡ false)
  pub outside : (j : ℕ) → mem j ≡ true → been j ≡ false → Outside ses mark owe closed
  -- C
  pub behind : (j : ℕ) → mem j ≡ true → been j ≡ true → ver j ≤ version
  -- D
  pub knows : (j : ℕ) → Party ses mem been j → (m c : ℕ) → 0 < owe m c → owe m c ≤ ver j → map j m c ≡ true
  -- E
  pub normal : (j : ℕ) → up (ses j) ≡ true → Over owe (ver j)
  -- F, and the state rules of marks
  pub marked : (j : ℕ) → mark j ≡ true → Over owe (ver j)
  pub marked-active : (j : ℕ) → mark j ≡ true → active (ses j) ≡ true
  pub marked-alone : (j : ℕ) → mark j ≡ true → (k : ℕ) → up (ses k) ≡ false
  -- G
  pub holder : (m c : ℕ) → 0 < owe m c → (j : ℕ) × Party ses mem been j × Over owe (ver j)

-- C'
pub record Quiet (ses : ℕ → Session) (mem been : ℕ → Bool) (version : ℕ) (closed : Bool) (ver : ℕ → ℕ) : Type 0 where
  pub beside : (k j : ℕ) → up (ses k) ≡ true → mem j ≡ true → been j ≡ true → up (ses j) ≡ false → ver j < version
  pub before : closed ≡ false → (j : ℕ) → mem j ≡ true → been j ≡ true → up (ses j) ≡ false → ver j < version

-- B, of nodes that were never in session
pub record Life (been ever wait : ℕ → Bool) (ver : ℕ → ℕ) : Type 0 where
  pub known : (j : ℕ) → been j ≡ true → ever j ≡ true
  pub fresh : (j : ℕ) → wait j ≡ true → ver j ≡ 0
  pub first : (j : ℕ) → wait j ≡ true → been j ≡ false
  pub came : (j : ℕ) → ever j ≡ false → wait j ≡ false

-- ---- runs

-- the receiver, or whom the message enables
abbrev pub lander : Job → ℕ → ℕ → ℕ
lander Idle src to = to
lander Get src to = to
lander LastIo src to = to
lander Enable src to = src
lander Leave src to = to
lander Info src to = to
lander (Move k s) src to = receiver k src to

abbrev pub done_by : Step → Fate → Bool
done_by Ready f = false
done_by Send f = false
done_by Done f = taken f

-- a MAP_DONE or ENABLE_POOL that was accepted
abbrev pub lands : Job → Fate → Bool
lands Idle f = false
lands Get f = false
lands LastIo f = false
lands Enable f = taken f
lands Leave f = false
lands Info f = false
lands (Move k s) f = done_by s f

abbrev pub given_by : Step → Fate → Bool
given_by Ready f = false
given_by Send f = taken f
given_by Done f = true

-- the source's map was given
abbrev pub given : Job → Fate → Bool
given Idle f = false
given Get f = false
given LastIo f = false
given Enable f = false
given Leave f = false
given Info f = false
given (Move k s) f = given_by s f

abbrev pub begun_by : Step → Fate → Bool
begun_by Ready f = taken f
begun_by Send f = true
begun_by Done f = true

abbrev pub kept_by : Kind → Step → Fate → Bool
kept_by Base s f = false
kept_by Gather s f = begun_by s f
kept_by Spread s f = false

-- a gather past MAP_READY
abbrev pub kept : Job → Fate → Bool
kept Idle f = false
kept Get f = false
kept LastIo f = false
kept Enable f = false
kept Leave f = false
kept Info f = false
kept (Move k s) f = kept_by k s f

-- H1
pub record Asked (fate : Fate) (src to : ℕ) (left : ℕ → Bool) (best : ℕ) (chosen : Bool) (says : ℕ) (ses : ℕ → Session) (mem : ℕ → Bool) (ver : ℕ → ℕ) : Type 0 where
  pub lives : (j : ℕ) → mem j ≡ true → dying (ses j) ≡ false
  pub most : (j : ℕ) → mem j ≡ true → left j ≡ false → ver j ≤ best
  pub nobody : chosen ≡ false → (j : ℕ) → mem j ≡ true → left j ≡ true
  pub its-member : chosen ≡ true → mem src ≡ true
  pub its : chosen ≡ true → ver src ≡ best
  pub carries : T (taken fate) → says ≡ ver to

-- B, H2 to H5
pub record Run (job : Job) (fate : Fate) (src to : ℕ) (left : ℕ → Bool) (best : ℕ) (chosen : Bool) (says : ℕ) (ses : ℕ → Session) (mem been : ℕ → Bool) (owe : ℕ → ℕ → ℕ) (ver : ℕ → ℕ) (stg : ℕ → Map) (tr : ℕ → Transfer) : Type 0 where
  pub all : (j : ℕ) → mem j ≡ true → been j ≡ true
  pub other : Party ses mem been to
  pub asked : T (asks job) → Asked fate src to left best chosen says ses mem ver
  pub source : T (sourced job) → Party ses mem been src
  pub top : T (sourced job) → Over owe (ver src)
  pub landed : T (lands job fate) → Over owe (ver (lander job src to))
  pub staged : T (given job fate) → T (got (tr (lander job src to))) → Full owe (stg (lander job src to))
  pub gathers : T (kept job fate) → T (opened (tr src)) → Full owe (stg src)

-- K, and the state rule that the session of a removal is REMOVING
pub record Removing (job : Job) (src : ℕ) (ses : ℕ → Session) (mem : ℕ → Bool) : Type 0 where
  pub parts : active (ses src) ≡ false
  pub past : T (informs job) → dying (ses src) ≡ true → mem src ≡ false

pub record Inv (w : World) : Type 0 where
  pub core : Core w.pool.ses w.pool.mark w.pool.mem w.past.been w.pool.version w.pool.closed w.past.owe w.nodes.ver w.nodes.map
  pub quiet : T (still w.hand.job) → Quiet w.pool.ses w.pool.mem w.past.been w.pool.version w.pool.closed w.nodes.ver
  pub life : Life w.past.been w.past.ever w.past.wait w.nodes.ver
  pub run : T (running w.hand.job) → Run w.hand.job w.hand.fate w.hand.src w.hand.to w.hand.left w.hand.best w.hand.chosen w.hand.says w.pool.ses w.pool.mem w.past.been w.past.owe w.nodes.ver w.nodes.stg w.nodes.tr
  pub acked : (c : ℕ) → w.past.acked c ≡ true → w.pool.closed ≡ true
  pub out : T (removes w.hand.job) → Removing w.hand.job w.hand.src w.pool.ses w.pool.mem

-- the claim: what is owed is dirty on every NORMAL session's node
pub record Claim (w : World) : Type 0 where
  pub holds : (j : ℕ) → up (w.pool.ses j) ≡ true → (m c : ℕ) → 0 < w.past.owe m c → w.nodes.map j m c ≡ true
