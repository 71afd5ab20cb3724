-- What the client tells without awaiting it arrives at some nodes.
use mathlib.Core.Path.{◌≡◌, refl, sym, ◌∙◌, subst}
use mathlib.Core.Bool.{Bool, true, false}
use mathlib.Core.List.{List, [], ◌∷◌}
use mathlib.Core.Logic.{◌≢◌}
use Prim.Native.Nat.{ℕ}
use lib.Dec.{eqb}
use borrow.Author.Tests.{eq-eqb, ne_eqb}
use Rattle.laws_words.specs.Words.{pick}
use Rattle.laws_words.specs.Tests.{clash, by_cases, picked}
use Rattle.rules_base.specs.Sets.{has}
use Rattle.rules_pool.specs.declared.Told.{Told}
use Rattle.rules_pool.specs.declared.Message.{Message}
use Rattle.rules_node.specs.Events as storage
use Rattle.rules_node.specs.Turns.{is_accepted}
use Rattle.rules_world.specs.Station.{Station, does}
use Rattle.rules_world.specs.Together.{deliver}
use Rattle.model_pool.specs.Model as m
use Rattle.model_pool.specs.Steps as s
use Rattle.model_pool.proofs.Ground.{split, upd_same, upd_other}
use Rattle.model_pool.specs.Holds.{Holds, Held, Sane}
use Rattle.model_pool.proofs.Did.{stays}
use Rattle.model_pool.proofs.Sane.{sane-keeps}
use Rattle.model_pool.proofs.Events.{names, heard-of, disabled-at, stopped}
use Rattle.rules_world.specs.Whole.{when_to, after_all}
use Rattle.model_pool.proofs.Every.{arrived, every-told, every-delivered}

-- a node stays what it is
pub sane-told : (c got : ℕ) (t : Told) (f : ℕ → Station) → ((j : ℕ) → Sane c j (f j)) → (j : ℕ) → Sane c j (arrived got t f j)
sane-told c = every-told (Sane c) (λ j e s m k. sane-keeps c j e s k)

pub sane-delivered : (c : ℕ) (ls : List ℕ) (x : Message) (f : ℕ → Station) → ((j : ℕ) → Sane c j (f j)) → (j : ℕ) → Sane c j ((deliver ls x f).nodes j)
sane-delivered c = every-delivered (Sane c) (λ j e s m k. sane-keeps c j e s k)

-- nothing, MAP_CHECK, MAP_DISABLE, ENABLE 0, POOL_INFO of one that was assembled: at most a transfer is dropped
abbrev pub quiet : Told → Bool
quiet Told.Nothing = true
quiet (Told.Marks to chunk list version) = false
quiet (Told.Clears to member chunk) = false
quiet (Told.Infos to op member) = names op
quiet (Told.Disable to) = true
quiet (Told.Off to) = true
quiet (Told.Extended others normals member version) = false
quiet (Told.Checks to tick) = true

-- the nodes f are seen after a course that leaves the client's part and the past alone
pub record Drops (f : ℕ → Station) (a : m.World) : Type 0 where
  pub to : m.World
  pub course : s.Course a to
  pub held : Held f to.nodes
  pub pool : to.pool ≡ a.pool
  pub hand : to.hand ≡ a.hand
  pub past : to.past ≡ a.past

module _ (c : ℕ) (f : ℕ → Station) (a : m.World) (sane : (j : ℕ) → Sane c j (f j)) (held : Held f a.nodes) (got : ℕ) where
  abbrev Same : (ℕ → Station) → Type 0
  Same g = (j : ℕ) → Holds (g j) (a.nodes.ver j) (a.nodes.map j) (a.nodes.stg j) (a.nodes.tr j)

  seen_same : (g : ℕ → Station) → Same g → Drops g a
  seen_same g h = record { to = a; course = s.here a; held = record { at = h }; pool = refl; hand = refl; past = refl }

  -- at one node, a transfer is dropped if it accepts
  one : (to : ℕ) (e : storage.Event) → (is_accepted (does (f to) e).answer ≡ true → Holds (does (f to) e).station (a.nodes.ver to) (a.nodes.map to) m.none m.Transfer.Shut) → Drops (λ j. pick (has got j) (after_all (when_to (eqb to j) e) (f j)) (f j)) a
  one to e h = by_cases (has got to) (λ g. by_cases (is_accepted (does (f to) e).answer) (did g) (λ z. seen_same _ (λ j. not-did g z j))) (λ g. seen_same _ (λ j. not-got g j))
    where
      -- another node is what it was
      other : (j : ℕ) → j ≢ to → pick (has got j) (after_all (when_to (eqb to j) e) (f j)) (f j) ≡ f j
      other j q = rw (ne_eqb to j (λ x. q (sym x))) (by_cases (has got j) (λ z. rw z refl) (λ z. rw z refl))

      here : has got to ≡ true → pick (has got to) (after_all (when_to (eqb to to) e) (f to)) (f to) ≡ (does (f to) e).station
      here g = rw (g, eq-eqb to to refl) refl

      not-did : has got to ≡ true → is_accepted (does (f to) e).answer ≡ false → Same (λ j. pick (has got j) (after_all (when_to (eqb to j) e) (f j)) (f j))
      not-did g z j = split j to
          (λ q. subst (λ (i : ℕ). Holds (pick (has got i) (after_all (when_to (eqb to i) e) (f i)) (f i)) (a.nodes.ver i) (a.nodes.map i) (a.nodes.stg i) (a.nodes.tr i)) (sym q)
          (subst (λ (x : Station). Holds x (a.nodes.ver to) (a.nodes.map to) (a.nodes.stg to) (a.nodes.tr to)) (sym (here g ∙ stays e (f to) z)) (held.at to)))
          (λ q. subst (λ (x : Station). Holds x (a.nodes.ver j) (a.nodes.map j) (a.nodes.stg j) (a.nodes.tr j)) (sym (other j q)) (held.at j))

      not-got : has got to ≡ false → Same (λ j. pick (has got j) (after_all (when_to (eqb to j) e) (f j)) (f j))
      not-got g j = split j to
          (λ q. subst (λ (i : ℕ). Holds (pick (has got i) (after_all (when_to (eqb to i) e) (f i)) (f i)) (a.nodes.ver i) (a.nodes.map i) (a.nodes.stg i) (a.nodes.tr i)) (sym q)
          (subst (λ (b : Bool). Holds (pick b (after_all (when_to (eqb to to) e) (f to)) (f to)) (a.nodes.ver to) (a.nodes.map to) (a.nodes.stg to) (a.nodes.tr to)) (sym g) (held.at to)))
          (λ q. subst (λ (x : Station). Holds x (a.nodes.ver j) (a.nodes.map j) (a.nodes.stg j) (a.nodes.tr j)) (sym (other j q)) (held.at j))

      did : has got to ≡ true → is_accepted (does (f to) e).answer ≡ true → Drops (λ j. pick (has got j) (after_all (when_to (eqb to j) e) (f j)) (f j)) a
      did g z = record {
        to = s.transfers a (m.upd a.nodes.stg to m.none) (m.upd a.nodes.tr to m.Transfer.Shut);
        course = s.more (s.here a) (s.Next.Drop to);
        held = record {
          at = λ j. split j to
              (λ q. subst (λ (i : ℕ). Holds (pick (has got i) (after_all (when_to (eqb to i) e) (f i)) (f i)) (a.nodes.ver i) (a.nodes.map i) (m.upd a.nodes.stg to m.none i) (m.upd a.nodes.tr to m.Transfer.Shut i)) (sym q)
              (rw (upd_same a.nodes.stg to m.none, upd_same a.nodes.tr to m.Transfer.Shut) (subst (λ (x : Station). Holds x (a.nodes.ver to) (a.nodes.map to) m.none m.Transfer.Shut) (sym (here g)) (h z))))
              (λ q. rw (upd_other a.nodes.stg to j m.none q, upd_other a.nodes.tr to j m.Transfer.Shut q) (subst (λ (x : Station). Holds x (a.nodes.ver j) (a.nodes.map j) (a.nodes.stg j) (a.nodes.tr j)) (sym (other j q)) (held.at j)));
        };
        pool = refl;
        hand = refl;
        past = refl;
      }

  -- nothing comes to any node
  silent : Drops (λ j. pick (has got j) (f j) (f j)) a
  silent = seen_same _ (λ j. picked (λ (x : Station). Holds x (a.nodes.ver j) (a.nodes.map j) (a.nodes.stg j) (a.nodes.tr j)) (has got j) (f j) (f j) (λ e. held.at j) (λ e. held.at j))

  pub drops : (t : Told) → quiet t ≡ true → Drops (arrived got t f) a
  drops Told.Nothing q = silent
  drops (Told.Marks to chunk list version) q = clash q refl
  drops (Told.Clears to member chunk) q = clash q refl
  drops (Told.Infos to op member) q = seen_same _ (λ j. picked (λ (x : Station). Holds x (a.nodes.ver j) (a.nodes.map j) (a.nodes.stg j) (a.nodes.tr j)) (has got j) (after_all (when_to (has to j) (storage.Event.pool_info op member)) (f j)) (f j)
      (λ e. picked (λ (es : List storage.Event). Holds (after_all es (f j)) (a.nodes.ver j) (a.nodes.map j) (a.nodes.stg j) (a.nodes.tr j)) (has to j) (storage.Event.pool_info op member ∷ []) [] (λ z. heard-of c j (f j) (sane j) _ _ _ _ (held.at j) op member q) (λ z. held.at j))
      (λ e. held.at j))
  drops (Told.Disable to) q = one to storage.Event.map_disable (disabled-at c to (f to) (sane to) _ _ _ _ (held.at to))
  drops (Told.Off to) q = one to storage.Event.enable0 (stopped c to (f to) (sane to) _ _ _ _ (held.at to))
  drops (Told.Extended others normals member version) q = clash q refl
  drops (Told.Checks to tick) q = silent
