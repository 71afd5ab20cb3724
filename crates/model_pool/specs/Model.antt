-- A pool with its nodes, simplified to what "no missed chunk is forgotten" hangs on. It allows more than the rules do, so what holds of it is the stronger: no node states and stores (a
-- message may be refused at any time), no kept chunks, no maintenance flag, any number of ids and chunks. The maps are what the nodes hold at least.
use Rattle.std.specs.Prelude.{◌≡◌, Bool, true, false, not, ◌&&◌, ◌||◌, cond, ℕ, eqb}

-- a function with its value at one id changed
unfoldable pub upd {ℓ} : {A : Type ℓ} → (ℕ → A) → ℕ → A → ℕ → A
upd f k a j = cond (eqb j k) a (f j)

-- ---- the client

-- no session, CREATED, NORMAL, FAILED, RECONNECTING, REMOVING by delete, REMOVING by disassemble
pub data Session : Type 0 where
  Gone Made Up Down Again Dying Parting : Session

abbrev pub up : Session → Bool
up Gone = false
up Made = false
up Up = true
up Down = false
up Again = false
up Dying = false
up Parting = false

abbrev pub dying : Session → Bool
dying Gone = false
dying Made = false
dying Up = false
dying Down = false
dying Again = false
dying Dying = true
dying Parting = false

-- neither absent nor REMOVING
abbrev pub active : Session → Bool
active Gone = false
active Made = true
active Up = true
active Down = true
active Again = true
active Dying = false
active Parting = false

abbrev pub there : Session → Bool
there Gone = false
there Made = true
there Up = true
there Down = true
there Again = true
there Dying = true
there Parting = true

-- a spread without enable, a gather (the source receives), a spread with enable
pub data Kind : Type 0 where
  Base Gather Spread : Kind

pub data Step : Type 0 where
  Ready Send Done : Step

-- what is awaited: nothing, MAP_GET_VER, a message of a spread, LAST_IO_TO_MAP, ENABLE_POOL, LEAVE_POOL, POOL_INFO
pub data Job : Type 0 where
  Idle Get LastIo Enable Leave Info : Job
  Move : Kind → Step → Job

abbrev pub running : Job → Bool
running Idle = false
running Get = true
running LastIo = true
running Enable = true
running Leave = false
running Info = false
running (Move k s) = true

abbrev pub still : Job → Bool
still j = not (running j)

abbrev pub asks : Job → Bool
asks Idle = false
asks Get = true
asks LastIo = false
asks Enable = false
asks Leave = false
asks Info = false
asks (Move k s) = false

-- a run whose source is chosen
abbrev pub sourced : Job → Bool
sourced Idle = false
sourced Get = false
sourced LastIo = true
sourced Enable = true
sourced Leave = false
sourced Info = false
sourced (Move k s) = true

abbrev pub removes : Job → Bool
removes Idle = false
removes Get = false
removes LastIo = false
removes Enable = false
removes Leave = true
removes Info = true
removes (Move k s) = false

abbrev pub informs : Job → Bool
informs Idle = false
informs Get = false
informs LastIo = false
informs Enable = false
informs Leave = false
informs Info = true
informs (Move k s) = false

-- what became of the awaited message: under way, arrived and accepted, arrived and refused
pub data Fate : Type 0 where
  Under Taken Refused : Fate

abbrev pub taken : Fate → Bool
taken Under = false
taken Taken = true
taken Refused = false

-- of source and the other: who receives a map, who gives it
abbrev pub receiver : Kind → ℕ → ℕ → ℕ
receiver Base src to = to
receiver Gather src to = src
receiver Spread src to = to

abbrev pub giver : Kind → ℕ → ℕ → ℕ
giver Base src to = src
giver Gather src to = to
giver Spread src to = src

abbrev pub keeps : Kind → Bool
keeps Base = false
keeps Gather = true
keeps Spread = false

-- ---- the nodes

-- member, chunk: dirty
abbrev pub Map : Type 0
Map = ℕ → ℕ → Bool

abbrev pub none : Map
none m c = false

abbrev pub within : (ℕ → Bool) → Map → Map
within s a m c = s m && a m c

abbrev pub merge : Map → Map → Map
merge a b m c = a m c || b m c

-- no transfer in hand, in hand with bytes missing, in hand with all bytes taken
pub data Transfer : Type 0 where
  Shut Begun Got : Transfer

abbrev pub opened : Transfer → Bool
opened Shut = false
opened Begun = true
opened Got = true

abbrev pub got : Transfer → Bool
got Shut = false
got Begun = false
got Got = true

-- ---- the world

-- the client's pool; closed: C-12 shuts the hand enable
pub record View : Type 0 where
  pub ses : ℕ → Session
  pub mark : ℕ → Bool
  pub mem : ℕ → Bool
  pub version : ℕ
  pub closed : Bool

-- The job in hand: what is awaited, what became of that message, the source, the other one. For MAP_GET_VER: who is left to answer, the highest version so far, whether somebody has
-- answered, the version that the answer under way carries.
pub record Hand : Type 0 where
  pub job : Job
  pub fate : Fate
  pub src : ℕ
  pub to : ℕ
  pub left : ℕ → Bool
  pub best : ℕ
  pub chosen : Bool
  pub says : ℕ

-- the nodes: stored versions, maps, staging, transfers
pub record Nodes : Type 0 where
  pub ver : ℕ → ℕ
  pub map : ℕ → Map
  pub stg : ℕ → Map
  pub tr : ℕ → Transfer

-- What is remembered of the events so far, and no side holds. owe m c is 0, or the version sent with the earliest acknowledged write of chunk c that missed m and stands; acked: the chunks of
-- acknowledged writes; been: the client took the node's join; ever: the node joined; wait: it joined by create, and the client has not taken that join.
pub record Past : Type 0 where
  pub owe : ℕ → ℕ → ℕ
  pub acked : ℕ → Bool
  pub been : ℕ → Bool
  pub ever : ℕ → Bool
  pub wait : ℕ → Bool

pub record World : Type 0 where
  pub pool : View
  pub hand : Hand
  pub nodes : Nodes
  pub past : Past

pub record Fresh (w : World) : Type 0 where
  pub ses : (j : ℕ) → w.pool.ses j ≡ Gone
  pub mark : (j : ℕ) → w.pool.mark j ≡ false
  pub mem : (j : ℕ) → w.pool.mem j ≡ false
  pub version : w.pool.version ≡ 1
  pub job : w.hand.job ≡ Idle
  pub owe : (m c : ℕ) → w.past.owe m c ≡ 0
  pub acked : (c : ℕ) → w.past.acked c ≡ false
  pub been : (j : ℕ) → w.past.been j ≡ false
  pub wait : (j : ℕ) → w.past.wait j ≡ false
