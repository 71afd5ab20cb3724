-- Maintenance, and its end.
use mathlib.Core.Path.{◌≡◌, refl, sym, subst}
use mathlib.Core.Bool.{Bool, true, false, ◌&&◌, ◌||◌}
use Prim.Native.Nat.{ℕ, ◌<◌}
use Rattle.laws_words.specs.Words.{pick}
use Rattle.laws_words.specs.Tests.{clash, and_left}
use Rattle.rules_pool.specs.declared.Told.{Told}
use Rattle.rules_pool.specs.declared.Outcome.{Outcome}
use Rattle.rules_pool.specs.declared.Roster.{Roster}
use Rattle.rules_pool.specs.declared.Pool.{Pool}
use Rattle.rules_pool.specs.Session.{is_created, is_reconnecting, flagged}
use Rattle.rules_pool.specs.Sessions.{session_at}
use Rattle.rules_pool.specs.declared.Way.{Way}
use Rattle.rules_pool.specs.Changes.{entered, left, flagged_at}
use Rattle.rules_pool.specs.Recovery.{with_roster}
use Rattle.rules_pool.specs.Exit.{changed, tried_after}
use Rattle.rules_client.specs.Enables.{enables, enable_refusal, enable_done, enable, maintenance_refusal, maintenance_done, maintenance}
use Rattle.laws_client.proofs.EnablesKept.{enable-passed, maintenance-passed}
use Rattle.laws_client.proofs.Ids.{stored_same, stored_other}
use Rattle.laws_client.proofs.Rosters.{Ok}
use Rattle.laws_client.proofs.Links.{normal-live, unflagged-keeps}
use Rattle.laws_client.proofs.Pools.{Valid}
use Rattle.model_pool.specs.Model as m
use Rattle.model_pool.proofs.Ground.{split}
use Rattle.model_pool.specs.Mirror.{Sees, goes, MovesBy, Shows}
use Rattle.model_pool.proofs.Shifts.{maintained-shifted}
use Rattle.model_pool.proofs.Turns.{moves, idle-is, falls-none, falls-one, falls-idle, falls-tried}

pub maintained : (p : Pool) (id : ℕ) (w : m.World) → Valid p → p.roster.sync ≡ false → Shows p w → MovesBy p (maintenance p id) w
unfolding maintenance maintenance_done
maintained p id w v y k = moves p (maintenance_refusal p id) (maintenance_done p id) w (λ e.
    let h = maintenance-passed p id e in
    goes (falls-idle p (left p.roster id Way.Maintenance) w (idle-is p.job h.idle) k.works
    (falls-one p.roster (left p.roster id Way.Maintenance) id w k.sees (maintained-shifted p.roster v.ok y id h.below h.normal) (normal-live (session_at p.roster id).state h.normal))))

-- the flag is no part of what is seen
unflagged : (ro : Roster) (u : m.View) (id : ℕ) → Ok ro → id < 16 → Sees ro u → Sees (flagged_at ro id false) u
unflagged ro u id v h e = record {
  ses = λ j. split j id (λ q. rw (q, stored_same ro id (flagged (session_at ro id) false) v.long h) (e.ses id)) (λ q. rw (stored_other ro id (flagged (session_at ro id) false) j q) (e.ses j));
  mark = λ j. split j id (λ q. rw (q, stored_same ro id (flagged (session_at ro id) false) v.long h) (e.mark id)) (λ q. rw (stored_other ro id (flagged (session_at ro id) false) j q) (e.mark j));
  mem = e.mem;
  version = e.version;
  closed = e.closed;
}

in-maintenance : (b c d : Bool) → (b || (c && d)) ≡ true → b ≡ false → c ≡ true
in-maintenance true c d e f = clash refl f
in-maintenance false c d e f = and_left c d e

-- enable of a session that is not CREATED
pub maintenance-ends : (p : Pool) (id : ℕ) (w : m.World) → Valid p → p.roster.sync ≡ false → Shows p w → is_created (session_at p.roster id).state ≡ false → MovesBy p (enable p id) w
unfolding enable enable_done enables
maintenance-ends p id w v y k c = moves p (enable_refusal p id) (enable_done p id) w (λ e.
    let h = enable-passed p id e in
    let r = in-maintenance (is_created (session_at p.roster id).state) (is_reconnecting (session_at p.roster id).state) (session_at p.roster id).maintenance h.may c in
    subst (λ (b : Bool). MovesBy p (pick b (changed p (entered p.roster id) Told.Nothing) (tried_after p (with_roster p (flagged_at p.roster id false)) Outcome.Plain Told.Nothing)) w) (sym c)
    (goes (falls-tried p (flagged_at p.roster id false) w (idle-is p.job h.idle) k.works (unflagged-keeps p.roster id v.ok h.below y r)
    (falls-none (flagged_at p.roster id false) w (unflagged p.roster w.pool id v.ok h.below k.sees)))))
