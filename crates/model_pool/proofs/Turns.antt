-- An event is refused, or moves the pool; a session falls, with a job in hand or not; a run ends.
use mathlib.Core.Path.{◌≡◌, refl, sym, ◌∙◌, subst}
use mathlib.Core.Bool.{true}
use Prim.Native.Nat.{ℕ, ◌+◌, ◌<◌}
use native.Mathlib.Omega.{arith}
use lib.Dec.{T, eqb}
use borrow.Author.Tests.{eqb-true}
use Rattle.laws_words.specs.Words.{pick}
use Rattle.laws_words.specs.Tests.{picked, clash}
use Rattle.rules_base.specs.Limits.{version_top}
use Rattle.rules_pool.specs.declared.Phase.{Phase}
use Rattle.rules_pool.specs.declared.Run.{Run}
use Rattle.rules_pool.specs.declared.Job.{Job}
use Rattle.rules_pool.specs.declared.Message.{Message}
use Rattle.rules_pool.specs.declared.Roster.{Roster}
use Rattle.rules_pool.specs.declared.Pool.{Pool}
use Rattle.rules_pool.specs.declared.Turn.{Turn}
use Rattle.rules_pool.specs.Sessions.{session_at}
use Rattle.rules_pool.specs.Changes.{raised}
use Rattle.rules_pool.specs.Recovery.{with_roster, run_ended, tried}
use Rattle.rules_pool.specs.Exit.{refused}
use Rattle.rules_pool.specs.Jobs.{is_idle}
use Rattle.laws_client.proofs.Rosters.{Ok, below_top}
use Rattle.laws_client.proofs.Links.{is_live}
use Rattle.model_pool.specs.Model as m
use Rattle.model_pool.specs.Steps as s
use Rattle.model_pool.specs.Mirror.{Sees, phase_of, Runs, Works, rests, Goes, MovesBy}
use Rattle.model_pool.proofs.Shifts.{Shifted, target, shift-sees, shift-step}
use Rattle.model_pool.proofs.Tries.{tries, after}

-- a refusal moves nothing
pub moves : (p : Pool) (why : ℕ) (done : Turn) (w : m.World) → (why ≡ 0 → MovesBy p done w) → MovesBy p (pick (eqb why 0) done (refused p why)) w
moves p why done w f = picked (λ (t : Turn). MovesBy p t w) (eqb why 0) done (refused p why) (λ e. f (eqb-true why 0 e)) (λ e. tt)

pub idle-is : (j : Job) → is_idle j ≡ true → j ≡ Job.Idle
idle-is Job.Idle e = refl
idle-is (Job.Running r) e = clash e refl
idle-is (Job.Removing d) e = clash e refl

-- the hand of a pool with no job
pub idle-hand : (p : Pool) (h : m.Hand) → p.job ≡ Job.Idle → Works p.job h → m.Job.Idle ≡ h.job
idle-hand p h e k = subst (λ (j : Job). Works j h) e k

-- ---- the sessions change, and what is in hand does not
pub record Falls (ro : Roster) (w : m.World) : Type 0 where
  pub to : m.World
  pub course : s.Course w to
  pub sees : Sees ro to.pool
  pub hand : to.hand ≡ w.hand
  pub nodes : to.nodes ≡ w.nodes
  pub past : to.past ≡ w.past

pub falls-none : (ro : Roster) (w : m.World) → Sees ro w.pool → Falls ro w
falls-none ro w e = record { to = w; course = s.here w; sees = e; hand = refl; nodes = refl; past = refl }

pub falls-one : (ro ro' : Roster) (id : ℕ) (w : m.World) → Sees ro w.pool → Shifted ro ro' id → is_live (session_at ro id).state ≡ true → Falls ro' w
falls-one ro ro' id w e h l = record {
  to = target ro' id w;
  course = s.more (s.here w) (shift-step ro ro' id w e h l);
  sees = shift-sees ro ro' id w e h;
  hand = refl;
  nodes = refl;
  past = refl;
}

-- with no job in hand nothing is sent
pub falls-idle : (p : Pool) (ro : Roster) (w : m.World) → p.job ≡ Job.Idle → Works p.job w.hand → Falls ro w → Goes (with_roster p ro) Message.Nothing w
falls-idle p ro w idle k f = record {
  to = f.to;
  course = f.course;
  sees = f.sees;
  works = subst (λ (h : m.Hand). Works p.job h) (sym f.hand) k;
  sends = rests refl idle;
  nodes = f.nodes;
  past = f.past;
}

-- then recovery is tried
pub falls-tried : (p : Pool) (ro : Roster) (w : m.World) → p.job ≡ Job.Idle → Works p.job w.hand → Ok ro → Falls ro w → Goes (tried (with_roster p ro)).pool (tried (with_roster p ro)).awaited w
falls-tried p ro w idle k v f =
    after f.course f.nodes f.past
    (tries (with_roster p ro) f.to v f.sees (idle-hand p f.to.hand idle (subst (λ (h : m.Hand). Works p.job h) (sym f.hand) k)) idle)

-- ---- a run ends: its version rises

running : (r : Run) (h : m.Hand) → Runs r h → T (m.running h.job)
running r h k = subst (λ (j : m.Job). T (m.running j)) k.job (at r.phase)
  where
    at : (x : Phase) → T (m.running (phase_of x))
    at (Phase.Versions best) = tt
    at (Phase.Base x) = tt
    at Phase.LastIo = tt
    at (Phase.Gather x) = tt
    at (Phase.Enable every) = tt
    at (Phase.Spread x) = tt

pub ended-sees : (ro : Roster) (w : m.World) → Sees ro w.pool → ro.version + ro.count < version_top → Sees (raised ro) (s.ended w).pool
ended-sees ro w e room = record {
  ses = e.ses;
  mark = e.mark;
  mem = e.mem;
  version = below_top ro.version (omega arith) ∙ (let x = e.version in omega arith);
  closed = e.closed;
}

-- sessions fall in a run, and it ends
pub ends : (r : Run) (p : Pool) (ro : Roster) (w : m.World) → Runs r w.hand → ro.version + ro.count < version_top → Falls ro w → Goes (run_ended (with_roster p ro)) Message.Nothing w
ends r p ro w k room f = record {
  to = s.ended f.to;
  course = s.more f.course (s.Next.Over (running r f.to.hand (subst (λ (h : m.Hand). Runs r h) (sym f.hand) k)));
  sees = ended-sees ro f.to f.sees room;
  works = refl;
  sends = rests refl refl;
  nodes = f.nodes;
  past = f.past;
}

-- and recovery is tried
pub goes-tried : (p : Pool) (w : m.World) → p.job ≡ Job.Idle → Ok p.roster → Goes p Message.Nothing w → Goes (tried p).pool (tried p).awaited w
goes-tried p w idle v g = after g.course g.nodes g.past (tries p g.to v g.sees (idle-hand p g.to.hand idle g.works) idle)
