-- ENABLE_POOL to the source and the enabling spread after it: the end of cases 2 and 3.
use Rattle.std.specs.Prelude.{Some}
use mathlib.Core.Path.{◌≡◌, refl, ap, ◌∙◌}
use mathlib.Core.Bool.{Bool, true}
use mathlib.Core.Logic.{◌≢◌}
use Prim.Native.Nat.{ℕ, ◌+◌, ◌*◌, ◌≤◌, ◌<◌}
use native.Mathlib.Omega.{arith}
use Rattle.laws_words.specs.Tests.{clash}
use Rattle.rules_base.specs.Limits.{answer_limit, version_limit}
use Rattle.rules_base.specs.Sets.{has, size}
use Rattle.rules_pool.specs.declared.State.{State}
use Rattle.rules_pool.specs.declared.Phase.{Phase}
use Rattle.rules_pool.specs.declared.Roster.{Roster}
use Rattle.rules_node.specs.Change as change
use Rattle.rules_pool.specs.Sessions.{session_at}
use Rattle.rules_pool.specs.Changes.{entered}
use Rattle.rules_pool.specs.Run.{awaited_in, good}
use Rattle.laws_client.proofs.Ids.{Long}
use Rattle.rules_node.specs.Enable.{enabled}
use Rattle.rules_world.specs.Station.{Station}
use Rattle.rules_world.specs.Together.{upd}
use Rattle.theorem_honest.proofs.Ground.{upd_same, upd_other}
use Rattle.theorem_honest.proofs.Stations.{Fine, enabled_to, enables-law, fine-enabled}
use Rattle.laws_client.proofs.RunBound.{counted-one}
use Rattle.theorem_honest.proofs.Course.{Cutting, Course, course, step, steps, steps-one, at, spread_head}
use Rattle.theorem_honest.proofs.Spread.{CanSpread, Served, Spreads, spreads, entered-long, entered-normal}

-- the enabling spread is done, and its source was enabled before it
pub record Enabled (m v c src l t : ℕ) (ro : Roster) (f : ℕ → Station) (e : Course) : Type 0 where
  pub spread : Spreads m v c src l (t + 1) (entered ro src) (upd f src (enabled_to v m (f src))) e
  pub source-entered : (session_at e.roster src).state ≡ State.Normal
  pub source-served : Served m v (f src).map (e.nodes src)

module _ (cut : Cutting) (m v c : ℕ) (hv : v ≤ version_limit) (hm : m < 65536) (src : ℕ) (own : has m src ≡ true) where
  enable-step : (every : Bool) (ro : Roster) (l t u : ℕ) (f : ℕ → Station) → t < answer_limit → Fine c src (f src)
      → step cut m v (course ro (Some (at (Phase.Enable every) src l t)) u f) ≡ course (entered ro src) (spread_head src l (t + 1)) (t + 1) (upd f src (enabled_to v m (f src)))
  unfolding step awaited_in good
  enable-step every ro l t u f h a = rw (enables-law c src v m (f src) a hv hm own, counted-one t h)

  enabled-served : (s : Station) → Served m v s.map (enabled_to v m s)
  unfolding enabled change.instructed change.stored_version change.taken_over change.ended_transfer change.transferred change.went_to
  enabled-served s = record { normal = refl; version = refl; members = refl; map = refl }

  can-after : (l : ℕ) (f : ℕ → Station) → CanSpread m c src l f → CanSpread m c src l (upd f src (enabled_to v m (f src)))
  can-after l f can = record {
    source = rw (upd_same f src (enabled_to v m (f src))) (fine-enabled c src v m (f src) can.source hv hm own);
    apart = can.apart;
    fines = λ j q. rw (upd_other f src j (enabled_to v m (f src)) (apart j q)) (can.fines j q);
    members = can.members;
  }
    where
      apart : (j : ℕ) → has l j ≡ true → j ≢ src
      apart j q p = clash q (ap (λ (k : ℕ). has l k) p ∙ can.apart)

  pub enable-spread : (every : Bool) (ro : Roster) (l t : ℕ) (f : ℕ → Station) → Long ro → l < 65536 → t + (3 * size l + 1) ≤ answer_limit → CanSpread m c src l f
      → Enabled m v c src l t ro f (steps cut m v (3 * size l + 1) (course ro (Some (at (Phase.Enable every) src l t)) t f))
  enable-spread every ro l t f long small few can =
      rw (steps-one cut m v (3 * size l) (course ro (Some (at (Phase.Enable every) src l t)) t f), enable-step every ro l t t f (omega arith) can.source)
      (ends _ (spreads cut m v c hv hm src l small (entered ro src) (t + 1) (upd f src (enabled_to v m (f src))) (entered-long ro src long) (omega arith) (can-after l f can)))
    where
      ends : (e : Course) → Spreads m v c src l (t + 1) (entered ro src) (upd f src (enabled_to v m (f src))) e → Enabled m v c src l t ro f e
      ends e s = record {
        spread = s;
        source-entered = s.same-session src can.apart ∙ entered-normal ro src long can.source.core.below;
        source-served = rw (s.same-node src can.apart, upd_same f src (enabled_to v m (f src))) (enabled-served (f src));
      }
