-- Sessions change while a removal is in hand: it stays in hand, or halts.
use mathlib.Core.Path.{◌≡◌, refl, sym, ap, ◌∙◌, subst}
use mathlib.Core.Bool.{Bool, true, false}
use Prim.Native.Nat.{ℕ}
use lib.Dec.{T}
use Rattle.rules_pool.specs.declared.Session.{Session}
use Rattle.rules_pool.specs.declared.Stage.{Stage}
use Rattle.rules_pool.specs.declared.Removal.{Removal}
use Rattle.rules_pool.specs.declared.Job.{Job}
use Rattle.rules_pool.specs.declared.Message.{Message}
use Rattle.rules_pool.specs.declared.Roster.{Roster}
use Rattle.rules_pool.specs.declared.Pool.{Pool}
use Rattle.rules_pool.specs.Sessions.{session_at}
use Rattle.rules_pool.specs.Recovery.{with_roster, removal_ended}
use Rattle.rules_pool.specs.Exit.{halted_if}
use Rattle.rules_client.specs.Removal.{mode_of, op_of}
use Rattle.model_pool.specs.Model as m
use Rattle.model_pool.specs.Steps as s
use Rattle.model_pool.specs.Mirror.{Sees, stage_of, Removes, stage_awaits, job_awaits, rests, Goes, Moves, goes, stands}
use Rattle.model_pool.proofs.Tries.{after}
use Rattle.model_pool.proofs.Turns.{Falls}

same-awaits : (st : Stage) (p q : Pool) (id : ℕ) → session_at q.roster id ≡ session_at p.roster id → stage_awaits st q id ≡ stage_awaits st p id
same-awaits Stage.Leave p q id e = ap (λ (x : Session). Message.Leave id (mode_of x.state)) e
same-awaits (Stage.Info peer) p q id e = ap (λ (x : Session). Message.Info peer (op_of x.state) id) e

pub removes : (st : Stage) → T (m.removes (stage_of st))
removes Stage.Leave = tt
removes (Stage.Info peer) = tt

pub halts : (d : Removal) (p : Pool) (w : m.World) → Removes d w.hand → Sees p.roster w.pool → Goes (removal_ended p) Message.Nothing w
halts d p w k e = record {
  to = s.awaits w m.Job.Idle w.hand.src w.hand.to;
  course = s.more (s.here w) (s.Next.Halted (subst (λ (j : m.Job). T (m.removes j)) k.job (removes d.stage)));
  sees = e;
  works = refl;
  sends = rests refl refl;
  nodes = refl;
  past = refl;
}

-- `lost`: the awaited peer fell
pub falls-removal : (d : Removal) (p : Pool) (ro : Roster) (w : m.World) (lost : Bool) → p.job ≡ Job.Removing d → Removes d w.hand → Falls ro w → session_at ro d.id ≡ session_at p.roster d.id
    → Moves p (halted_if lost (with_roster p ro)) Message.Nothing w
falls-removal d p ro w true j k f e = goes (after f.course f.nodes f.past (halts d (with_roster p ro) f.to (subst (λ (h : m.Hand). Removes d h) (sym f.hand) k) f.sees))
falls-removal d p ro w false j k f e = stands refl (record {
  to = f.to;
  course = f.course;
  sees = f.sees;
  job = refl;
  awaits = ap (λ (x : Job). job_awaits x (with_roster p ro)) j ∙ (same-awaits d.stage p (with_roster p ro) d.id e ∙ sym (ap (λ (x : Job). job_awaits x p) j));
  hand = f.hand;
  nodes = f.nodes;
  past = f.past;
})
