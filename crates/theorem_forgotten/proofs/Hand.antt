-- The hand enable: the node's enable 1, then the client's enable.
use mathlib.Core.Path.{◌≡◌, refl, sym, ap, ◌∙◌, subst}
use mathlib.Core.Bool.{true, false}
use Prim.Native.Nat.{ℕ, ◌<◌}
use Rattle.laws_words.specs.Tests.{picked, and_left, and_right, and_both}
use Rattle.rules_base.specs.Sets.{has}
use Rattle.rules_pool.specs.declared.Message.{Message}
use Rattle.rules_pool.specs.declared.Told.{Told}
use Rattle.rules_pool.specs.declared.Pool.{Pool}
use Rattle.rules_pool.specs.declared.Turn.{Turn}
use Rattle.rules_pool.specs.Session.{is_created}
use Rattle.rules_pool.specs.Changes.{entered}
use Rattle.rules_pool.specs.Recovery.{with_roster}
use Rattle.rules_pool.specs.Exit.{changed}
use Rattle.rules_client.specs.Enables.{enable_refusal, enable_done, enable}
use Rattle.laws_client.proofs.Pools.{Valid}
use Rattle.rules_client.specs.Events.{Event, turn_of}
use Rattle.rules_world.specs.Station.{Station, does}
use Rattle.rules_world.specs.Together.{upd}
use Rattle.model_pool.specs.Model as m
use Rattle.model_pool.proofs.ModelKept.{kept-all}
use Rattle.model_pool.specs.Holds.{Holds, Held, Sane}
use Rattle.model_pool.proofs.Sane.{sane-keeps}
use Rattle.model_pool.proofs.Events.{less, enabled-at}
use Rattle.model_pool.specs.Alters.{Alters, by_hand}
use Rattle.model_pool.proofs.Joins.{enables}
use Rattle.model_pool.specs.Reflects.{Reflects}
use Rattle.model_pool.proofs.Nodes.{held_all}
use Rattle.model_pool.proofs.Every.{arrived, every-upd}
use Rattle.model_pool.proofs.Acts.{reflects-sent}
use Rattle.rules_world.specs.Whole.{World, state_in, Happening, acted, by_client, by_node, enabling, after}
use Rattle.rules_world.specs.History.{History, then}
use Rattle.theorem_forgotten.specs.Premises.{Keeps}
use Rattle.theorem_forgotten.proofs.Tells.{Tells}
use Rattle.theorem_forgotten.proofs.Ground.{still-missed, Unmarked, unmarked-by, message-unmarked}
use Rattle.theorem_forgotten.proofs.Client.{kept-valid, kept-plain, client-chunks, client-unmarked}
use Rattle.theorem_forgotten.proofs.Refused.{zero_of}

module _ (w : World) (h : History w) (t : Tells h) (id : ℕ) (k : Keeps h (Happening.hand_enable id)) where
  abbrev e : Event
  e = Event.enable id

  created : is_created (state_in w id) ≡ true
  created = (k.by_hand id refl).0

  zero : enable_refusal w.pool id ≡ 0
  unfolding enable
  zero = zero_of w.pool (enable_refusal w.pool id) (enable_done w.pool id) (k.by_hand id refl).1

  turn_is : turn_of e w.pool ≡ changed w.pool (entered w.pool.roster id) Told.Nothing
  unfolding enable enable_done
  turn_is = rw (zero, created) refl

  -- the node, enabled
  abbrev s' : Station
  s' = (does (w.nodes id) (enabling w)).station

  abbrev f : ℕ → Station
  f = upd w.nodes id s'

  x : Alters (with_roster w.pool (entered w.pool.roster id)) Message.Nothing t.a (by_hand t.a id) t.a.past
  x = enables w.pool id t.a t.reflects.valid t.reflects.plain t.reflects.shows zero created

  held : Held f (by_hand t.a id)
  held =
      let r = t.reflects in
      held_all w.nodes t.a.nodes id s' t.a.pool.version (m.within t.a.pool.mem (t.a.nodes.map id)) m.none m.Transfer.Shut r.held
      (less (m.within t.a.pool.mem (t.a.nodes.map id)) m.none
      (subst (λ (v : ℕ). Holds s' v (m.within (has w.pool.roster.members) (t.a.nodes.map id)) m.none m.Transfer.Shut) r.shows.sees.version
      (enabled-at w.pool.chunks id (w.nodes id) (r.sane id) _ _ _ _ (r.held.at id) w.pool.roster.version w.pool.roster.members (k.by_hand id refl).2))
      (λ n d z. and_both (r.shows.sees.mem n ∙ and_left (t.a.pool.mem n) (t.a.nodes.map id n d) z) (and_right (t.a.pool.mem n) (t.a.nodes.map id n d) z))
      (λ n d z. z))

  sane : (j : ℕ) → Sane w.pool.chunks j (f j)
  sane = every-upd (Sane w.pool.chunks) (λ j y s m q. sane-keeps w.pool.chunks j y s q) w.nodes id s' t.reflects.sane (sane-keeps w.pool.chunks id (enabling w) (w.nodes id) (t.reflects.sane id))

  -- nothing is told
  untold : (P : ℕ → Station → Type 0) → ((j : ℕ) → P j (f j)) → (j : ℕ) → P j (arrived 0 Told.Nothing f j)
  untold P q j = picked (P j) (has 0 j) (f j) (f j) (λ z. q j) (λ z. q j)

  reflects : Reflects (by_client e 0 (by_node id (enabling w) w)) x.to
  reflects =
      let r = t.reflects in
      let vq = ap (λ (u : Turn). u.pool) turn_is in
      subst (λ (u : Turn). Reflects (acted u.answer u.pool 0 (by_node id (enabling w) w)) x.to) (sym turn_is)
      (reflects-sent (by_node id (enabling w) w) (with_roster w.pool (entered w.pool.roster id)) (arrived 0 Told.Nothing f) Message.Nothing x.to
      (subst Valid vq (kept-valid e w.pool r.valid)) (subst (λ (p : Pool). p.roster.sync ≡ false) vq (kept-plain e w.pool r.valid r.plain)) x.sees x.works x.sends
      (untold (Sane w.pool.chunks) sane)
      (subst (Held (arrived 0 Told.Nothing f)) (sym x.nodes) (record { at = untold (λ j y. Holds y ((by_hand t.a id).ver j) ((by_hand t.a id).map j) ((by_hand t.a id).stg j) ((by_hand t.a id).tr j)) held.at })))

  pub hand-enabled : Tells (then w (Happening.hand_enable id) h)
  unfolding after
  hand-enabled =
      let u = t.remembers in
      record {
        a = x.to;
        inv = kept-all x.course t.inv;
        reflects = reflects;
        remembers = record {
          ever = λ j. u.ever j ∙ ap (λ (y : m.Past). y.ever j) (sym x.past);
          wait = λ j. u.wait j ∙ ap (λ (y : m.Past). y.wait j) (sym x.past);
          acked = λ c z. ap (λ (y : m.Past). y.acked c) x.past ∙ u.acked c z;
          below = λ c z. subst (λ (n : ℕ). c < n) (sym (client-chunks e 0 (by_node id (enabling w) w))) (u.below c (ap (λ (y : m.Past). y.acked c) (sym x.past) ∙ z));
          new = λ j z. u.new j (every-upd (λ i. Unmarked (w.nodes i)) (message-unmarked w.nodes) w.nodes id s' (λ i c. c) (unmarked-by (enabling w) (w.nodes id) refl) j (client-unmarked e 0 (by_node id (enabling w) w) j z));
          owes = λ n c z. subst (λ (y : m.Past). 0 < y.owe n c) (sym x.past) (u.owes n c (still-missed w h (Happening.hand_enable id) refl n c z).0);
        };
      }
