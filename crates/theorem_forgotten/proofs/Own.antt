-- A node's own events.
use mathlib.Core.Path.{◌≡◌, refl, sym, ap, ◌∙◌, subst}
use mathlib.Core.Bool.{Bool, true, false, ◌&&◌}
use mathlib.Core.Logic.{◌≢◌}
use Prim.Native.Nat.{ℕ, ◌<◌}
use lib.Dec.{eqb}
use borrow.Author.Tests.{eq-eqb, ne_eqb, eqb-true, not-false}
use Rattle.laws_words.specs.Tests.{clash, by_cases, and_right, and-false}
use Rattle.rules_base.proofs.Order.{none-applies}
use Rattle.rules_node.specs.declared.Node.{Node}
use Rattle.rules_node.specs.States.{is_registered, is_joined, in_hand}
use Rattle.rules_node.specs.Change.{went_to, equipped, taken_over}
use Rattle.laws_node.proofs.Valid.{valid-facts}
use Rattle.rules_node.specs.Join.{joined_create}
use Rattle.rules_node.specs.Events as storage
use Rattle.rules_node.specs.Events.{tests_at}
use Rattle.laws_node.proofs.Theorems.{law}
use Rattle.rules_node.specs.Turns.{is_accepted}
use Rattle.rules_world.specs.Station.{Station, does}
use Rattle.rules_world.specs.Together.{upd}
use Rattle.theorem_honest.proofs.Ground as real
use Rattle.model_pool.specs.Model as m
use Rattle.model_pool.specs.Steps as s
use Rattle.model_pool.proofs.Ground.{split, upd_same, upd_other}
use Rattle.model_pool.proofs.ModelKept.{kept-all}
use Rattle.model_pool.specs.Mirror.{Sees, Works}
use Rattle.model_pool.specs.Holds.{Holds, Held, Sane}
use Rattle.model_pool.proofs.Did.{lent, took, stays}
use Rattle.model_pool.proofs.Sane.{joined-unmarked, sane-keeps}
use Rattle.model_pool.proofs.Events.{less, assembled, faulted, registered, added, given-up, deleted, created}
use Rattle.model_pool.specs.Reflects.{Reads}
use Rattle.model_pool.proofs.Nodes.{held_same, held-stored, held-staged, held_all}
use Rattle.rules_world.specs.Whole.{World, Happening, after}
use Rattle.rules_world.specs.History.{History, then, origin_of, is_join, is_creation, keeps_store, joined_by, joined, waits_by, waits}
use Rattle.theorem_forgotten.specs.Premises.{Keeps}
use Rattle.theorem_forgotten.proofs.Tells.{Tells}
use Rattle.theorem_forgotten.proofs.Ground.{or-none, still-missed, is_afresh, unmarked-by, or-all}

module _ (w : World) (h : History w) (t : Tells h) (j : ℕ) (e : storage.Event) where
  abbrev x : Happening
  x = Happening.node j e

  abbrev a : m.World
  a = t.a

  abbrev s' : Station
  s' = (does (w.nodes j) e).station

  -- at another id nothing is said
  other-joined : (i : ℕ) → i ≢ j → joined_by w x i (joined h i) ≡ joined h i
  other-joined i q = rw (ne_eqb i j q) (or-none (joined h i))

  other-waits : (i : ℕ) → i ≢ j → waits_by w x i (waits h i) ≡ waits h i
  other-waits i q = rw (ne_eqb i j q) (or-none (waits h i))

  pub tells : (b : m.World) → s.Course t.a b → Held (upd w.nodes j s') b.nodes → b.pool ≡ t.a.pool → b.hand ≡ t.a.hand → b.past.owe ≡ t.a.past.owe → b.past.acked ≡ t.a.past.acked
      → ((i : ℕ) → joined_by w x i (joined h i) ≡ b.past.ever i) → ((i : ℕ) → waits_by w x i (waits h i) ≡ b.past.wait i) → (s'.node.create ≡ true → joined_by w x j (joined h j) ≡ false) → Tells (then w x h)
  unfolding after
  tells b c held p g o k ev wt nw =
      let r = t.reflects in
      let u = t.remembers in
      record {
        a = b;
        inv = kept-all c t.inv;
        reflects = record {
          valid = r.valid;
          plain = r.plain;
          shows = record { sees = subst (Sees w.pool.roster) (sym p) r.shows.sees; works = subst (Works w.pool.job) (sym g) r.shows.works };
          sane = λ i. split i j
              (λ q. subst (λ (n : ℕ). Sane w.pool.chunks n (upd w.nodes j s' n)) (sym q) (subst (Sane w.pool.chunks j) (sym (real.upd_same w.nodes j s')) (sane-keeps w.pool.chunks j e (w.nodes j) (r.sane j))))
              (λ q. subst (Sane w.pool.chunks i) (sym (real.upd_other w.nodes j i s' q)) (r.sane i));
          held = held;
          awaits = r.awaits;
          reads = λ z. subst (Reads w.fate) (sym g) (r.reads z);
        };
        remembers = record {
          ever = ev;
          wait = wt;
          acked = λ d z. ap (λ (f : ℕ → Bool). f d) k ∙ u.acked d z;
          below = λ d z. u.below d (ap (λ (f : ℕ → Bool). f d) (sym k) ∙ z);
          new = λ i. split i j
              (λ q. subst (λ (n : ℕ). (upd w.nodes j s' n).node.create ≡ true → joined_by w x n (joined h n) ≡ false) (sym q) (λ z. nw (ap (λ (y : Station). y.node.create) (sym (real.upd_same w.nodes j s')) ∙ z)))
              (λ q z. other-joined i q ∙ u.new i (ap (λ (y : Station). y.node.create) (sym (real.upd_other w.nodes j i s' q)) ∙ z));
          owes = λ n d z. subst (λ (f : ℕ → ℕ → ℕ). 0 < f n d) (sym o) (u.owes n d (still-missed w h x refl n d z).0);
        };
      }

  -- an event that is no join, or was refused
  quiet-joined : (is_join (origin_of e) && is_accepted (does (w.nodes j) e).answer) ≡ false → (i : ℕ) → joined_by w x i (joined h i) ≡ joined h i
  quiet-joined q i = rw (q, and-false (eqb i j)) (or-none (joined h i))

  quiet-waits : (is_creation (origin_of e) && is_accepted (does (w.nodes j) e).answer) ≡ false → (i : ℕ) → waits_by w x i (waits h i) ≡ waits h i
  quiet-waits q i = rw (q, and-false (eqb i j)) (or-none (waits h i))

  -- with a course that is no part of joining
  pub not-joined : (b : m.World) → s.Course t.a b → Held (upd w.nodes j s') b.nodes → b.pool ≡ t.a.pool → b.hand ≡ t.a.hand → b.past ≡ t.a.past
      → (is_join (origin_of e) && is_accepted (does (w.nodes j) e).answer) ≡ false → (is_creation (origin_of e) && is_accepted (does (w.nodes j) e).answer) ≡ false
      → (s'.node.create ≡ true → joined h j ≡ false) → Tells (then w x h)
  not-joined b c held p g y q r nw =
      tells b c held p g (ap (λ (z : m.Past). z.owe) y) (ap (λ (z : m.Past). z.acked) y)
      (λ i. quiet-joined q i ∙ (t.remembers.ever i ∙ ap (λ (z : m.Past). z.ever i) (sym y)))
      (λ i. quiet-waits r i ∙ (t.remembers.wait i ∙ ap (λ (z : m.Past). z.wait i) (sym y)))
      (λ z. quiet-joined q j ∙ nw z)

  -- refused
  pub refused : is_accepted (does (w.nodes j) e).answer ≡ false → Tells (then w x h)
  refused z =
      not-joined t.a (s.here t.a)
      (held_same w.nodes t.a.nodes j s' t.reflects.held (subst (λ (y : Station). Holds y (t.a.nodes.ver j) (t.a.nodes.map j) (t.a.nodes.stg j) (t.a.nodes.tr j)) (sym (stays e (w.nodes j) z)) (t.reflects.held.at j)))
      refl refl refl (rw z (and-false (is_join (origin_of e)))) (rw z (and-false (is_creation (origin_of e))))
      (λ y. t.remembers.new j (ap (λ (u : Station). u.node.create) (sym (stays e (w.nodes j) z)) ∙ y))

  pub old : is_afresh (origin_of e) ≡ false → s'.node.create ≡ true → joined h j ≡ false
  old f z = t.remembers.new j (unmarked-by e (w.nodes j) f z)

  -- a store that may change is that of a node that never joined
  pub never : (k : Keeps h x) → is_accepted (does (w.nodes j) e).answer ≡ true → keeps_store (origin_of e) (w.nodes j).node ≡ false → joined h j ≡ false
  never k z q = by_cases (joined h j) (λ y. clash (k.stores j e refl y z) q) (λ y. y)

  pub unborn : joined h j ≡ false → t.a.past.ever j ≡ false
  unborn z = sym (t.remembers.ever j) ∙ z

-- ---- each of them
module _ (w : World) (h : History w) (t : Tells h) (j : ℕ) where
  abbrev c : ℕ
  c = w.pool.chunks

  either : (e : storage.Event) → (is_accepted (does (w.nodes j) e).answer ≡ true → Tells (then w (Happening.node j e) h)) → Tells (then w (Happening.node j e) h)
  either e f = by_cases (is_accepted (does (w.nodes j) e).answer) f (refused w h t j e)

  registers : Keeps h (Happening.node j storage.Event.register_create) → Tells (then w (Happening.node j storage.Event.register_create) h)
  registers k = either storage.Event.register_create (λ z.
      let e = storage.Event.register_create in
      let n = never w h t j e k z refl in
      not-joined w h t j e (s.at_nodes t.a (m.upd t.a.nodes.ver j 0) (m.upd t.a.nodes.map j m.none)) (s.more (s.here t.a) (s.Next.Stored j 0 (unborn w h t j e n)))
      (held-stored w.nodes t.a.nodes j (does (w.nodes j) e).station 0 m.none t.reflects.held (registered c j (w.nodes j) (t.reflects.sane j) _ _ _ _ (t.reflects.held.at j) z))
      refl refl refl refl refl (λ y. n))

  adds : (set version : ℕ) → Keeps h (Happening.node j (storage.Event.register_add set version)) → Tells (then w (Happening.node j (storage.Event.register_add set version)) h)
  adds set version k = either (storage.Event.register_add set version) (λ z.
      let e = storage.Event.register_add set version in
      let g = added c j (w.nodes j) (t.reflects.sane j) _ _ _ _ (t.reflects.held.at j) set version z in
      by_cases (eqb version (w.nodes j).node.version)
      (λ q. not-joined w h t j e t.a (s.here t.a)
      (held_same w.nodes t.a.nodes j (does (w.nodes j) e).station t.reflects.held (subst (λ (v : ℕ). Holds (does (w.nodes j) e).station v (t.a.nodes.map j) (t.a.nodes.stg j) (t.a.nodes.tr j)) (eqb-true version (w.nodes j).node.version q ∙ (t.reflects.held.at j).ver) g))
      refl refl refl refl refl (old w h t j e refl))
      (λ q. not-joined w h t j e (s.at_nodes t.a (m.upd t.a.nodes.ver j version) (m.upd t.a.nodes.map j m.none)) (s.more (s.here t.a) (s.Next.Stored j version (unborn w h t j e (never w h t j e k z q))))
      (held-stored w.nodes t.a.nodes j (does (w.nodes j) e).station version m.none t.reflects.held (less m.none (t.a.nodes.stg j) g (λ n d y. clash y refl) (λ n d y. y)))
      refl refl refl refl refl (old w h t j e refl)))

  gives_up : (delete : Bool) → Keeps h (Happening.node j (storage.Event.unregister delete)) → Tells (then w (Happening.node j (storage.Event.unregister delete)) h)
  gives_up true k = either (storage.Event.unregister true) (λ z.
      let e = storage.Event.unregister true in
      not-joined w h t j e (s.transfers (s.at_nodes t.a (m.upd t.a.nodes.ver j 0) (m.upd t.a.nodes.map j m.none)) (m.upd t.a.nodes.stg j m.none) (m.upd t.a.nodes.tr j m.Transfer.Shut))
      (s.more (s.more (s.here t.a) (s.Next.Stored j 0 (unborn w h t j e (never w h t j e k z refl)))) (s.Next.Drop j))
      (held_all w.nodes t.a.nodes j (does (w.nodes j) e).station 0 m.none m.none m.Transfer.Shut t.reflects.held (deleted c j (w.nodes j) (t.reflects.sane j) _ _ _ _ (t.reflects.held.at j) z))
      refl refl refl refl refl (old w h t j e refl))
  gives_up false k = either (storage.Event.unregister false) (λ z.
      let e = storage.Event.unregister false in
      not-joined w h t j e (s.transfers t.a (m.upd t.a.nodes.stg j m.none) (m.upd t.a.nodes.tr j m.Transfer.Shut)) (s.more (s.here t.a) (s.Next.Drop j))
      (held-staged w.nodes t.a.nodes j (does (w.nodes j) e).station m.none m.Transfer.Shut t.reflects.held (given-up c j (w.nodes j) (t.reflects.sane j) _ _ _ _ (t.reflects.held.at j) z))
      refl refl refl refl refl (old w h t j e refl))

  faults : Tells (then w (Happening.node j storage.Event.fault) h)
  faults =
      let e = storage.Event.fault in
      not-joined w h t j e t.a (s.here t.a) (held_same w.nodes t.a.nodes j (does (w.nodes j) e).station t.reflects.held (faulted c j (w.nodes j) (t.reflects.sane j) _ _ _ _ (t.reflects.held.at j)))
      refl refl refl refl refl (old w h t j e refl)

  -- it joins for the first time
  born-joined : (e : storage.Event) → is_join (origin_of e) ≡ true → is_accepted (does (w.nodes j) e).answer ≡ true → (i : ℕ) → joined_by w (Happening.node j e) i (joined h i) ≡ m.upd t.a.past.ever j true i
  born-joined e f z i = split i j
      (λ q. rw (q, eq-eqb j j refl, f, z, upd_same t.a.past.ever j true) (or-all (joined h j)))
      (λ q. other-joined w h t j e i q ∙ (t.remembers.ever i ∙ sym (upd_other t.a.past.ever j i true q)))

  creates : (set : ℕ) → Tells (then w (Happening.node j (storage.Event.join_create set)) h)
  unfolding law joined_create went_to equipped taken_over
  creates set = either (storage.Event.join_create set) (λ z.
      let e = storage.Event.join_create set in
      let o = took (storage.Event.join_create set) (w.nodes j) z in
      let mk : (w.nodes j).node.create ≡ true = and_right (is_registered (w.nodes j).node.state) (w.nodes j).node.create (not-false _ (none-applies (tests_at (storage.Event.join_create set) (w.nodes j).node (lent (w.nodes j))) o.none 9 refl)) in
      let n = t.remembers.new j mk in
      let v : m.upd t.a.nodes.ver j (t.a.nodes.ver j) j ≡ 0 = upd_same t.a.nodes.ver j (t.a.nodes.ver j) ∙ (sym (t.reflects.held.at j).ver ∙ (t.reflects.sane j).new mk) in
      tells w h t j e (s.lived (s.at_nodes t.a (m.upd t.a.nodes.ver j (t.a.nodes.ver j)) (m.upd t.a.nodes.map j m.none)) t.a.past.been (m.upd t.a.past.ever j true) (m.upd t.a.past.wait j true))
      (s.more (s.more (s.here t.a) (s.Next.Stored j (t.a.nodes.ver j) (unborn w h t j e n))) (s.Next.Born j true (unborn w h t j e n) (λ y. v)))
      (held-stored w.nodes t.a.nodes j (does (w.nodes j) e).station (t.a.nodes.ver j) m.none t.reflects.held (created c j (w.nodes j) (t.reflects.sane j) _ _ _ _ (t.reflects.held.at j) set z))
      refl refl refl refl (born-joined e refl z)
      (λ i. split i j
      (λ q. rw (q, eq-eqb j j refl, z, upd_same t.a.past.wait j true) (or-all (waits h j)))
      (λ q. other-waits w h t j e i q ∙ (t.remembers.wait i ∙ sym (upd_other t.a.past.wait j i true q))))
      (λ y. clash (ap (λ (u : Station). u.node.create) (sym o.is) ∙ y) refl))

  assembles : Tells (then w (Happening.node j storage.Event.assemble) h)
  unfolding law went_to
  assembles = either storage.Event.assemble (λ z.
      let e = storage.Event.assemble in
      let held = held_same w.nodes t.a.nodes j (does (w.nodes j) e).station t.reflects.held (assembled c j (w.nodes j) (t.reflects.sane j) _ _ _ _ (t.reflects.held.at j)) in
      by_cases (joined h j)
      (λ y. tells w h t j e t.a (s.here t.a) held refl refl refl refl
      (λ i. split i j (λ q. rw (q, y) (sym y ∙ t.remembers.ever j)) (λ q. other-joined w h t j e i q ∙ t.remembers.ever i))
      (λ i. quiet-waits w h t j e refl i ∙ t.remembers.wait i)
      (λ u. clash u (unmarked z)))
      (λ y. tells w h t j e (s.lived t.a t.a.past.been (m.upd t.a.past.ever j true) (m.upd t.a.past.wait j false))
      (s.more (s.here t.a) (s.Next.Born j false (unborn w h t j e y) (λ q. clash q refl))) held refl refl refl refl (born-joined e refl z)
      (λ i. quiet-waits w h t j e refl i ∙ (t.remembers.wait i ∙ split i j
      (λ q. rw (q, upd_same t.a.past.wait j false) (t.inv.life.came j (unborn w h t j e y)))
      (λ q. sym (upd_other t.a.past.wait j i false q))))
      (λ u. clash u (unmarked z))))
    where
      unmarked : is_accepted (does (w.nodes j) storage.Event.assemble).answer ≡ true → (does (w.nodes j) storage.Event.assemble).station.node.create ≡ false
      unmarked z =
          let n = (sane-keeps w.pool.chunks j storage.Event.assemble (w.nodes j) (t.reflects.sane j)).good.rules in
          let q = ap (λ (u : Station). u.node) (took storage.Event.assemble (w.nodes j) z).is in
          joined-unmarked (does (w.nodes j) storage.Event.assemble).station.node.state _ (does (w.nodes j) storage.Event.assemble).station.node.create (in_hand (does (w.nodes j) storage.Event.assemble).station.node.transfer) _ (valid-facts (does (w.nodes j) storage.Event.assemble).station.node n).stand (ap (λ (u : Node). is_joined u.state) q)

-- every event that is the node's own
pub owns : (w : World) (h : History w) → Tells h → (j : ℕ) (e : storage.Event) → Keeps h (Happening.node j e) → Tells (then w (Happening.node j e) h)
owns w h t j storage.Event.register_create k = registers w h t j k
owns w h t j (storage.Event.register_add set version) k = adds w h t j set version k
owns w h t j (storage.Event.unregister delete) k = gives_up w h t j delete k
owns w h t j (storage.Event.join_create set) k = creates w h t j set
owns w h t j storage.Event.assemble k = assembles w h t j
owns w h t j (storage.Event.leave delete) k = clash refl (k.own j (storage.Event.leave delete) refl)
owns w h t j (storage.Event.enable1 version set) k = clash refl (k.own j (storage.Event.enable1 version set) refl)
owns w h t j storage.Event.enable0 k = clash refl (k.own j storage.Event.enable0 refl)
owns w h t j storage.Event.fault k = faults w h t j
owns w h t j (storage.Event.write chunk set version) k = clash refl (k.own j (storage.Event.write chunk set version) refl)
owns w h t j (storage.Event.synced member chunk) k = clash refl (k.own j (storage.Event.synced member chunk) refl)
owns w h t j (storage.Event.pool_info op member) k = clash refl (k.own j (storage.Event.pool_info op member) refl)
owns w h t j (storage.Event.map_ready keep) k = clash refl (k.own j (storage.Event.map_ready keep) refl)
owns w h t j (storage.Event.give_part offset size) k = clash refl (k.own j (storage.Event.give_part offset size) refl)
owns w h t j (storage.Event.take_part offset part) k = clash refl (k.own j (storage.Event.take_part offset part) refl)
owns w h t j (storage.Event.map_done enable version set) k = clash refl (k.own j (storage.Event.map_done enable version set) refl)
owns w h t j storage.Event.map_disable k = clash refl (k.own j storage.Event.map_disable refl)
owns w h t j storage.Event.map_get_ver k = clash refl (k.own j storage.Event.map_get_ver refl)
owns w h t j (storage.Event.last_io_to_map chosen) k = clash refl (k.own j (storage.Event.last_io_to_map chosen) refl)
owns w h t j (storage.Event.fill member version) k = clash refl (k.own j (storage.Event.fill member version) refl)
