-- The client's pool seen as the simplified one: sessions, members and version as they are, and of the job in hand what is awaited.
use Rattle.std.specs.Prelude.{◌≡◌, true, not, ℕ}
use Rattle.rules_base.specs.Sets.{has, lowest}
use Rattle.rules_pool.specs.declared.Mode.{Mode}
use Rattle.rules_pool.specs.declared.State.{State}
use Rattle.rules_pool.specs.declared.Step.{Step}
use Rattle.rules_pool.specs.declared.Phase.{Phase}
use Rattle.rules_pool.specs.declared.Run.{Run}
use Rattle.rules_pool.specs.declared.Stage.{Stage}
use Rattle.rules_pool.specs.declared.Removal.{Removal}
use Rattle.rules_pool.specs.declared.Job.{Job}
use Rattle.rules_pool.specs.declared.Message.{Message}
use Rattle.rules_pool.specs.declared.Roster.{Roster}
use Rattle.rules_pool.specs.declared.Pool.{Pool}
use Rattle.rules_pool.specs.declared.Answer.{Answer}
use Rattle.rules_pool.specs.declared.Turn.{Turn}
use Rattle.rules_pool.specs.Past.{in_service}
use Rattle.rules_pool.specs.Sessions.{session_at}
use Rattle.rules_pool.specs.Jobs.{peer_at}
use Rattle.rules_pool.specs.Run.{awaited_in}
use Rattle.rules_client.specs.Removal.{state_of, mode_of, op_of}
use Rattle.model_pool.specs.Model as m
use Rattle.model_pool.specs.Steps as s

-- ---- sessions

abbrev pub ses_of : State → m.Session
ses_of State.Free = m.Session.Gone
ses_of State.Created = m.Session.Made
ses_of State.Normal = m.Session.Up
ses_of (State.Failed cause) = m.Session.Down
ses_of State.Reconnecting = m.Session.Again
ses_of (State.Removing Mode.Delete owed) = m.Session.Dying
ses_of (State.Removing Mode.Disassemble owed) = m.Session.Parting

pub record Sees (ro : Roster) (v : m.View) : Type 0 where
  pub ses : (j : ℕ) → ses_of (session_at ro j).state ≡ v.ses j
  pub mark : (j : ℕ) → (session_at ro j).mark ≡ v.mark j
  pub mem : (j : ℕ) → has ro.members j ≡ v.mem j
  pub version : ro.version ≡ v.version
  pub closed : in_service ro.past ≡ v.closed

-- ---- the job in hand

abbrev pub step_of : Step → m.Step
step_of Step.Ready = m.Step.Ready
step_of Step.Send = m.Step.Send
step_of Step.Done = m.Step.Done

abbrev pub phase_of : Phase → m.Job
phase_of (Phase.Versions best) = m.Job.Get
phase_of (Phase.Base s) = m.Job.Move m.Kind.Base (step_of s)
phase_of Phase.LastIo = m.Job.LastIo
phase_of (Phase.Gather s) = m.Job.Move m.Kind.Gather (step_of s)
phase_of (Phase.Enable every) = m.Job.Enable
phase_of (Phase.Spread s) = m.Job.Move m.Kind.Spread (step_of s)

-- the other one: whose turn it is, the source itself while it is enabled
abbrev pub other_in : Phase → Run → ℕ
other_in (Phase.Versions best) r = lowest r.left
other_in (Phase.Base s) r = lowest r.left
other_in Phase.LastIo r = lowest r.left
other_in (Phase.Gather s) r = lowest r.left
other_in (Phase.Enable every) r = r.source
other_in (Phase.Spread s) r = lowest r.left

-- MAP_GET_VER: somebody has answered once the source is none of those left; before that it is the first to be asked
pub record Choosing (most : ℕ) (r : Run) (h : m.Hand) : Type 0 where
  pub left : (k : ℕ) → has r.left k ≡ h.left k
  pub best : most ≡ h.best
  pub chosen : h.chosen ≡ not (has r.left r.source)
  pub first : has r.left r.source ≡ true → (r.source ≡ lowest r.left) × (most ≡ 0)

abbrev pub AsksIn : Phase → Run → m.Hand → Type 0
AsksIn (Phase.Versions best) r h = Choosing best r h
AsksIn (Phase.Base s) r h = Unit {0}
AsksIn Phase.LastIo r h = Unit {0}
AsksIn (Phase.Gather s) r h = Unit {0}
AsksIn (Phase.Enable every) r h = Unit {0}
AsksIn (Phase.Spread s) r h = Unit {0}

pub record Runs (r : Run) (h : m.Hand) : Type 0 where
  pub job : phase_of r.phase ≡ h.job
  pub src : r.source ≡ h.src
  pub to : other_in r.phase r ≡ h.to
  pub asks : AsksIn r.phase r h

abbrev pub stage_of : Stage → m.Job
stage_of Stage.Leave = m.Job.Leave
stage_of (Stage.Info peer) = m.Job.Info

pub record Removes (d : Removal) (h : m.Hand) : Type 0 where
  pub job : stage_of d.stage ≡ h.job
  pub src : d.id ≡ h.src
  pub to : peer_at d.stage d.id ≡ h.to

abbrev pub Works : Job → m.Hand → Type 0
Works Job.Idle h = m.Job.Idle ≡ h.job
Works (Job.Running r) h = Runs r h
Works (Job.Removing d) h = Removes d h

-- ---- the message that it awaits

abbrev pub stage_awaits : Stage → Pool → ℕ → Message
stage_awaits Stage.Leave p id = Message.Leave id (mode_of (state_of p id))
stage_awaits (Stage.Info peer) p id = Message.Info peer (op_of (state_of p id)) id

abbrev pub job_awaits : Job → Pool → Message
job_awaits Job.Idle p = Message.Nothing
job_awaits (Job.Running r) p = awaited_in p.roster.members p.roster.version r
job_awaits (Job.Removing d) p = stage_awaits d.stage p d.id

abbrev pub awaited_of : Pool → Message
awaited_of p = job_awaits p.job p

-- ---- a course of steps after which the pool q is seen

-- What is awaited after an event that sent a message: that message, which is under way; or none was sent, and no job is in hand.
pub data Posts (q : Pool) (sent : Message) (h : m.Hand) : Type 0 where
  posts : sent ≡ awaited_of q → h.fate ≡ m.Fate.Under → Posts q sent h
  rests : sent ≡ Message.Nothing → q.job ≡ Job.Idle → Posts q sent h

-- the client's part of the world goes on, to the pool q, with the message that was sent; nodes and past stay
pub record Goes (q : Pool) (sent : Message) (w : m.World) : Type 0 where
  pub to : m.World
  pub course : s.Course w to
  pub sees : Sees q.roster to.pool
  pub works : Works q.job to.hand
  pub sends : Posts q sent to.hand
  pub nodes : to.nodes ≡ w.nodes
  pub past : to.past ≡ w.past

-- the same where nothing is sent, and what was awaited in the pool p still is
pub record Stands (p q : Pool) (w : m.World) : Type 0 where
  pub to : m.World
  pub course : s.Course w to
  pub sees : Sees q.roster to.pool
  pub job : q.job ≡ p.job
  pub awaits : awaited_of q ≡ awaited_of p
  pub hand : to.hand ≡ w.hand
  pub nodes : to.nodes ≡ w.nodes
  pub past : to.past ≡ w.past

-- an event moves the pool p so, or is refused
pub data Moves (p q : Pool) (sent : Message) (w : m.World) : Type 0 where
  goes : Goes q sent w → Moves p q sent w
  stands : sent ≡ Message.Nothing → Stands p q w → Moves p q sent w

abbrev pub MovesAt : Answer → Pool → Pool → m.World → Type 0
MovesAt (Answer.Refused n) p q w = Unit {0}
MovesAt (Answer.Done s) p q w = Moves p q s.awaited w

abbrev pub MovesBy : Pool → Turn → m.World → Type 0
MovesBy p t w = MovesAt t.answer p t.pool w

-- the pool and its job are seen
pub record Shows (p : Pool) (w : m.World) : Type 0 where
  pub sees : Sees p.roster w.pool
  pub works : Works p.job w.hand
