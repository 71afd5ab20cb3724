-- The world in which the client hears an event that begins a run: what is asked of the world that an event leaves holds of it, and honest nodes stay so, since the one
-- message that reaches a node there is MAP_DISABLE.
use mathlib.Core.Path.{◌≡◌, refl, ap}
use mathlib.Core.Bool.{Bool, true, false}
use Prim.Native.Nat.{ℕ, ◌≤◌}
use lib.Dec.{eqb}
use borrow.Author.Tests.{eqb-true}
use Rattle.laws_words.specs.Tests.{by_cases, and_left, and_right, and_both}
use Rattle.rules_base.specs.Map.{sound, zeroed}
use Rattle.rules_base.proofs.Sound.{sound-fact, sound-test, sound-zeroed}
use Rattle.rules_pool.specs.declared.Told.{Told}
use Rattle.rules_pool.specs.declared.Answer.{Answer}
use Rattle.rules_pool.specs.declared.Turn.{Turn}
use Rattle.rules_pool.specs.Jobs.{is_running}
use Rattle.rules_pool.specs.declared.Pool.{Pool}
use Rattle.rules_pool.specs.Breaking.{is_accepted}
use Rattle.rules_client.specs.Events.{turn_of}
use Rattle.theorem_client.proofs.Demand2.{sound-stays}
use Rattle.theorem_bounds.specs.Demand3.{New}
use Rattle.theorem_client.proofs.Law.{law}
use Rattle.theorem_client.proofs.Sound.{left-sound}
use Rattle.theorem_client.proofs.Tries.{ByTrial}
use Rattle.theorem_bounds.proofs.Demand3.{afresh}
use Rattle.rules_node.specs.Change.{ended_transfer, transferred}
use Rattle.rules_node.specs.Turns.{settled}
use Rattle.rules_node.specs.Carry.{map_after, staging_after}
use Rattle.rules_node.specs.Hand.{hand_refusal, map_disable}
use Rattle.laws_node.proofs.HandKeeps.{map_disable-keeps}
use Rattle.rules_node.specs.Events as node
use Rattle.rules_node.specs.Face.{lent_to, map_by, staging_by}
use Rattle.rules_world.specs.Station.{Station, face, does}
use Rattle.rules_world.specs.Together.{World, upd, tell, afterward}
use Rattle.theorem_honest.specs.Demand.{Able}
use Rattle.theorem_recovery.specs.Demand.{HeardLeaves}

-- ---- MAP_DISABLE at an honest node

abbrev refuses : Station → ℕ
refuses s = hand_refusal s.node (lent_to (face s) s.map s.staging)

abbrev disabled : Bool → Station → Station
disabled true s = record { node = ended_transfer s.node; map = s.map; staging = zeroed s.staging }
disabled false s = s

disables : (s : Station) → (does s node.Event.map_disable).station ≡ disabled (eqb (refuses s) 0) s
unfolding does map_by staging_by map_disable settled map_after staging_after
disables s = by_cases (eqb (refuses s) 0) (λ e. rw e refl) (λ e. rw e refl)

able-disabled : (c j : ℕ) (s : Station) → Able c j s → (b : Bool) → eqb (refuses s) 0 ≡ b → Able c j (disabled b s)
unfolding ended_transfer transferred
able-disabled c j s a true e = record {
  itself = a.itself;
  rules = (map_disable-keeps s.node _ (eqb-true (refuses s) 0 e)).rules;
  same = a.same;
  sound = and_both (and_left (sound s.node.chunks s.map) _ a.sound)
      (sound-test s.node.chunks (zeroed s.staging) (sound-zeroed s.node.chunks s.staging (sound-fact s.node.chunks s.staging (and_right (sound s.node.chunks s.map) _ a.sound))));
  serves = a.serves;
}
able-disabled c j s a false e = a

disabled-version : (b : Bool) (s : Station) → (disabled b s).node.version ≡ s.node.version
unfolding ended_transfer transferred
disabled-version true s = refl
disabled-version false s = refl

-- ---- what is sent without being awaited

upd-keeps : (P : ℕ → Station → Type 0) (f : ℕ → Station) (k : ℕ) (s : Station) → (P k (f k) → P k s) → (j : ℕ) → P j (f j) → P j (upd f k s j)
unfolding upd
upd-keeps P f k s h j p = by_cases (eqb j k) (λ e. rw (e, eqb-true j k e) (h (rw (eqb-true j k e) at p))) (λ e. rw e p)

tell-keeps : (P : ℕ → Station → Type 0) → ((j : ℕ) (s : Station) → P j s → P j (does s node.Event.map_disable).station) → (t : Told) (f : ℕ → Station) (j : ℕ) → P j (f j) → P j (tell t f j)
tell-keeps P h Told.Nothing f j p = p
tell-keeps P h (Told.Marks to chunk list version) f j p = p
tell-keeps P h (Told.Clears to member chunk) f j p = p
tell-keeps P h (Told.Infos to op member) f j p = p
tell-keeps P h (Told.Disable to) f j p = upd-keeps P f to (does (f to) node.Event.map_disable).station (λ q. h to (f to) q) j p
tell-keeps P h (Told.Off to) f j p = p
tell-keeps P h (Told.Extended others normals member version) f j p = p
tell-keeps P h (Told.Checks to tick) f j p = p

afterward-keeps : (P : ℕ → Station → Type 0) → ((j : ℕ) (s : Station) → P j s → P j (does s node.Event.map_disable).station) → (a : Answer) (f : ℕ → Station) (j : ℕ) → P j (f j) → P j (afterward a f j)
afterward-keeps P h (Answer.Refused n) f j p = p
afterward-keeps P h (Answer.Done s) f j p = tell-keeps P h s.told f j p

able-stays : (c : ℕ) (a : Answer) (f : ℕ → Station) (j : ℕ) → Able c j (f j) → Able c j (afterward a f j)
able-stays c = afterward-keeps (λ j s. Able c j s) (λ j s p. rw (disables s) (able-disabled c j s p (eqb (refuses s) 0) refl))

version-stays : (v : ℕ) (a : Answer) (f : ℕ → Station) (j : ℕ) → (f j).node.version ≤ v → (afterward a f j).node.version ≤ v
version-stays v = afterward-keeps (λ j s. s.node.version ≤ v) (λ j s p. rw (disables s, disabled-version (eqb (refuses s) 0) s) p)

-- ---- the client hears the event

pub heard-leaves : HeardLeaves
heard-leaves w e r b snd = (
  record { pool = refl; sent = rw n.accepted refl; map = rw (effect, (sound-stays w.pool b.reached e).0) (left-sound w.pool.chunks t.effect w.map t.fits snd) },
  λ h. record {
    source = λ k. able-stays _ a w.nodes _ (h.source k);
    others = λ j q. able-stays _ a w.nodes j (h.others j q);
    versions = λ k m j q. version-stays _ a w.nodes j (h.versions k m j q);
    cuts = h.cuts;
  },
)
  where
    a : Answer
    a = (turn_of e w.pool).answer

    n : New w.pool e r
    n = afresh w.pool e r b

    t : ByTrial w.pool (turn_of e w.pool)
    t = (law e w.pool).tries n.event (ap is_accepted n.accepted) (ap is_running b.run)

    effect : (turn_of e w.pool).effect ≡ t.effect
    effect = ap (λ (u : Turn). u.effect) t.turn
