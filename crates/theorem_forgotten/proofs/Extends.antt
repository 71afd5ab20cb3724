-- Extend.
use mathlib.Core.Path.{◌≡◌, refl, sym, ap, ◌∙◌, subst}
use mathlib.Core.Bool.{Bool, true, false, not, ◌&&◌, ◌||◌, cond}
use mathlib.Core.List.{List, [], ◌++◌}
use mathlib.Core.Logic.{◌⊎◌, inl, inr}
use Prim.Native.Nat.{ℕ, ◌≤◌, ◌<◌, max}
use native.Mathlib.Decide.{dec_lt}
use native.Mathlib.Omega.{arith}
use lib.Dec.{eqb, ltb}
use borrow.Author.Tests.{eq-eqb, ne_eqb, lt-ltb}
use Rattle.laws_words.specs.Words.{pick}
use Rattle.laws_words.specs.Tests.{clash, by_cases, picked, and_left, and_right, and-false}
use Rattle.rules_base.specs.Sets.{has}
use Rattle.rules_base.proofs.Sets.{has-out}
use Rattle.rules_base.specs.declared.Op.{Op}
use Rattle.rules_pool.specs.declared.Outcome.{Outcome}
use Rattle.rules_pool.specs.declared.Effect.{Effect}
use Rattle.rules_pool.specs.declared.State.{State}
use Rattle.rules_pool.specs.declared.Told.{Told}
use Rattle.rules_pool.specs.declared.Pool.{Pool}
use Rattle.rules_pool.specs.declared.Session.{Session}
use Rattle.rules_pool.specs.declared.Turn.{Turn}
use Rattle.rules_pool.specs.Session.{is_normal, is_told}
use Rattle.rules_pool.specs.declared.Kind.{Kind}
use Rattle.rules_pool.specs.Sessions.{ids_of}
use Rattle.rules_pool.specs.Recovery.{with_roster, tried}
use Rattle.rules_pool.specs.Exit.{tried_with}
use Rattle.rules_client.specs.Extend.{picked as picked_in, extend_refusal, extended, extend_done, extend}
use Rattle.rules_client.specs.Client.{sound_for, extend_turn}
use Rattle.laws_client.proofs.Ids.{ids-has}
use Rattle.laws_client.proofs.Records.{normal-below}
use Rattle.laws_client.proofs.Pools.{Valid}
use Rattle.rules_node.specs.Events as storage
use Rattle.rules_node.specs.Turns.{is_accepted}
use Rattle.rules_client.specs.Events.{Event, turn_of}
use Rattle.rules_world.specs.Station.{Station, does}
use Rattle.model_pool.specs.Model as m
use Rattle.model_pool.specs.Steps as s
use Rattle.model_pool.proofs.Ground.{split, upd_same, upd_other}
use Rattle.model_pool.proofs.Sessions.{ups, past}
use Rattle.model_pool.specs.Holds.{Holds, Held, Sane}
use Rattle.model_pool.proofs.Sane.{sane-keeps}
use Rattle.model_pool.proofs.Events.{less, informed-at, filled_at}
use Rattle.model_pool.specs.Alters.{Alters}
use Rattle.model_pool.proofs.Extends.{picks-it, extends}
use Rattle.model_pool.specs.Reflects.{Reflects}
use Rattle.model_pool.proofs.Every.{arrived}
use Rattle.model_pool.proofs.Acts.{reflects-sent, told-sane}
use Rattle.rules_world.specs.Whole.{World, state_in, Happening, accepts, when_to, due_to, after_all, takes_all, told_in, acted}
use Rattle.rules_world.specs.History.{History, then, joined_by, joined, waits_by, waits, acked}
use Rattle.theorem_forgotten.specs.Premises.{Keeps}
use Rattle.theorem_forgotten.specs.Forgotten.{Missed, Passed, Added, Synced}
use Rattle.theorem_forgotten.proofs.Tells.{Tells}
use Rattle.theorem_forgotten.proofs.Ground.{or-none, or-all, and-true}
use Rattle.theorem_forgotten.proofs.Client.{kept-valid, kept-plain, kept-chunks, client-tells}
use Rattle.theorem_forgotten.proofs.Refused.{zero_of, refused-tells}

module _ (w : World) (h : History w) (t : Tells h) (xs : List ℕ) (got : ℕ) (k : Keeps h (Happening.client (Event.extend xs) got)) where
  abbrev e : Event
  e = Event.extend xs

  abbrev x : ℕ
  x = picked_in w.pool.roster

  abbrev others : ℕ
  others = ids_of Kind.Told w.pool.roster

  abbrev normals : ℕ
  normals = ids_of Kind.Normals w.pool.roster

  abbrev told : Told
  told = Told.Extended others normals x w.pool.roster.version

  abbrev new : Pool
  new = with_roster w.pool (extended w.pool.roster x)

  abbrev info : storage.Event
  info = storage.Event.pool_info Op.AddCreate x

  abbrev fill : storage.Event
  fill = storage.Event.fill x w.pool.roster.version

  module _ (z : accepts w e ≡ true) where
    zero : extend_refusal w.pool (sound_for w.pool xs) ≡ 0
    unfolding extend_turn extend
    zero = zero_of w.pool (extend_refusal w.pool (sound_for w.pool xs)) (extend_done w.pool x) z

    turn_is : turn_of e w.pool ≡ tried_with w.pool new (Outcome.Picked x) told (Effect.FillRow x w.pool.chunks)
    unfolding extend_turn extend extend_done
    turn_is = rw zero refl

    none : t.a.nodes.ver x ≡ 0
    none = sym (t.reflects.held.at x).ver ∙ (k.new xs got refl z).0

    a : Alters (tried new).pool (tried new).awaited t.a (s.extended x t.a).nodes (s.extended x t.a).past
    a = extends w.pool (sound_for w.pool xs) t.a t.reflects.valid t.reflects.shows zero none

    -- ---- what is told
    normal-told : (st : State) → is_normal st ≡ true → is_told st ≡ true
    normal-told State.Free q = q
    normal-told State.Created q = refl
    normal-told State.Normal q = refl
    normal-told (State.Failed cause) q = q
    normal-told State.Reconnecting q = refl
    normal-told (State.Removing y owed) q = q

    normal-is : (j : ℕ) → has normals j ≡ is_normal (state_in w j)
    normal-is j = elim (dec_lt j 16) [
      | yes b ↦ ids-has Kind.Normals w.pool.roster t.reflects.valid.ok.long j b
      | no b ↦ has-out normals j (omega arith) ∙ sym (ap (λ (y : Session). is_normal y.state) (past w.pool.roster t.reflects.valid.ok.long j (omega arith)))
    ]

    up_is : (j : ℕ) → m.up (t.a.pool.ses j) ≡ is_normal (state_in w j)
    up_is j = ups w.pool.roster t.a.pool t.reflects.shows.sees j

    abbrev Target : ℕ → Station → Type 0
    Target j y = Holds y ((s.extended x t.a).nodes.ver j) ((s.extended x t.a).nodes.map j) ((s.extended x t.a).nodes.stg j) ((s.extended x t.a).nodes.tr j)

    -- a node that has the row at most
    rowless-target : (j : ℕ) (y : Station) → is_normal (state_in w j) ≡ false → Holds y (t.a.nodes.ver j) (λ n c. not (eqb n x) && t.a.nodes.map j n c) (t.a.nodes.stg j) (t.a.nodes.tr j) → Target j y
    rowless-target j y n g = record {
      ver = g.ver ∙ ap (λ (b : Bool). cond b (max (t.a.nodes.ver j) t.a.pool.version) (t.a.nodes.ver j)) (sym (up_is j ∙ n));
      map = λ i c v. g.map i c (at (eqb i x) (m.up (t.a.pool.ses j)) (t.a.past.acked c) (t.a.nodes.map j i c) (up_is j ∙ n) v);
      stg = g.stg;
      tr = g.tr;
    }
      where
        at : (b u d f : Bool) → u ≡ false → cond b (u && d) f ≡ true → (not b && f) ≡ true
        at true u d f q v = clash (rw q at v) refl
        at false u d f q v = v

    -- a NORMAL one, which got both
    filled-target : (j : ℕ) → is_normal (state_in w j) ≡ true → Target j (arrived got told w.nodes j)
    filled-target j n =
        let y = k.fills xs got refl z j n in
        let o : has others j ≡ true = ids-has Kind.Told w.pool.roster t.reflects.valid.ok.long j (normal-below w.pool.roster j t.reflects.valid.ok.long n) ∙ normal-told (state_in w j) n in
        let f : has normals j ≡ true = normal-is j ∙ n in
        let g : takes_all (when_to (has others j) info ++ when_to (has normals j) fill) (w.nodes j) ≡ true = subst (λ (v : Turn). takes_all (due_to (told_in v.answer) j) (w.nodes j) ≡ true) turn_is y.1 in
        let g' : (is_accepted (does (w.nodes j) info).answer && (is_accepted (does (does (w.nodes j) info).station fill).answer && true)) ≡ true = subst (λ (b : Bool). takes_all (when_to true info ++ when_to b fill) (w.nodes j) ≡ true) f (subst (λ (b : Bool). takes_all (when_to b info ++ when_to (has normals j) fill) (w.nodes j) ≡ true) o g) in
        let p = informed-at w.pool.chunks j (w.nodes j) (t.reflects.sane j) _ _ _ _ (t.reflects.held.at j) Op.AddCreate x in
        let q = filled_at w.pool.chunks j (does (w.nodes j) info).station (sane-keeps w.pool.chunks j info (w.nodes j) (t.reflects.sane j)) _ _ _ _ p x w.pool.roster.version
        (and_left (is_accepted (does (does (w.nodes j) info).station fill).answer) true (and_right (is_accepted (does (w.nodes j) info).answer) _ g')) in
        subst (Target j) (sym (ap (λ (b : Bool). pick b (after_all (when_to (has others j) info ++ when_to (has normals j) fill) (w.nodes j)) (w.nodes j)) y.0
        ∙ (ap (λ (b : Bool). after_all (when_to b info ++ when_to (has normals j) fill) (w.nodes j)) o ∙ ap (λ (b : Bool). after_all (when_to true info ++ when_to b fill) (w.nodes j)) f)))
        (record {
          ver = q.ver ∙ (ap (max (t.a.nodes.ver j)) t.reflects.shows.sees.version ∙ ap (λ (b : Bool). cond b (max (t.a.nodes.ver j) t.a.pool.version) (t.a.nodes.ver j)) (sym (up_is j ∙ n)));
          map = λ i c v. q.map i c (at c (eqb i x) (m.up (t.a.pool.ses j)) (t.a.nodes.map j i c) v);
          stg = q.stg;
          tr = q.tr;
        })
      where
        at : (c : ℕ) (b u f : Bool) → cond b (u && t.a.past.acked c) f ≡ true → ((not b && f) || (b && ltb c w.pool.chunks)) ≡ true
        at c true u f v = lt-ltb c w.pool.chunks (t.remembers.below c (and_right u (t.a.past.acked c) v))
        at c false u f v = rw v refl

    -- any other, which got POOL_INFO or not
    told-target : (j : ℕ) → is_normal (state_in w j) ≡ false → Target j (arrived got told w.nodes j)
    told-target j n =
        subst (λ (b : Bool). Target j (pick (has got j) (after_all (when_to (has others j) info ++ when_to b fill) (w.nodes j)) (w.nodes j))) (sym (normal-is j ∙ n))
        (picked (Target j) (has got j) (after_all (when_to (has others j) info ++ []) (w.nodes j)) (w.nodes j) (λ y. at (has others j)) (λ y. same))
      where
        same : Target j (w.nodes j)
        same = rowless-target j (w.nodes j) n (less _ _ (t.reflects.held.at j) (λ i c v. and_right (not (eqb i x)) (t.a.nodes.map j i c) v) (λ i c v. v))

        at : (b : Bool) → Target j (after_all (when_to b info ++ []) (w.nodes j))
        at true = rowless-target j (does (w.nodes j) info).station n (informed-at w.pool.chunks j (w.nodes j) (t.reflects.sane j) _ _ _ _ (t.reflects.held.at j) Op.AddCreate x)
        at false = same

    held : Held (arrived got told w.nodes) (s.extended x t.a).nodes
    held = record { at = λ j. by_cases (is_normal (state_in w j)) (filled-target j) (told-target j) }

    -- ---- what is remembered
    joins : (j : ℕ) → joined_by w (Happening.client e got) j (joined h j) ≡ m.upd t.a.past.ever x true j
    joins j = split j x
        (λ q. rw (q, z, eq-eqb x x refl, upd_same t.a.past.ever x true) (or-all (joined h x)))
        (λ q. rw (z, ne_eqb j x q, upd_other t.a.past.ever x j true q) (or-none (joined h j) ∙ t.remembers.ever j))

    waiting : (j : ℕ) → waits_by w (Happening.client e got) j (waits h j) ≡ m.upd t.a.past.wait x false j
    waiting j = split j x
        (λ q. rw (q, z, eq-eqb x x refl, upd_same t.a.past.wait x false) (and-false (waits h x)))
        (λ q. rw (z, ne_eqb j x q, upd_other t.a.past.wait x j false q) (and-true (waits h j) ∙ t.remembers.wait j))

    marked : (j : ℕ) → (w.nodes j).node.create ≡ true → joined_by w (Happening.client e got) j (joined h j) ≡ false
    marked j y = split j x
        (λ q. clash y (subst (λ (i : ℕ). (w.nodes i).node.create ≡ false) (sym q) (k.new xs got refl z).1))
        (λ q. rw (z, ne_eqb j x q) (or-none (joined h j) ∙ t.remembers.new j y))

    positive : 1 ≤ t.a.pool.version
    positive = t.inv.core.positive

    not-owed : (c : ℕ) → 0 < t.a.past.owe x c → ⊥
    not-owed c y = clash (t.inv.core.owed-member x c y) (sym (t.reflects.shows.sees.mem x) ∙ outside)
      where
        outside : has w.pool.roster.members x ≡ false
        outside = (picks-it w.pool (sound_for w.pool xs) t.a t.reflects.valid t.reflects.shows zero none).outside

    owed : (n c : ℕ) → Missed n c (then w (Happening.client e got) h) → 0 < (s.extended x t.a).past.owe n c
    owed n c v = at v.0
      where
        new-owed : n ≡ x → acked h c ≡ true → 0 < (s.extended x t.a).past.owe n c
        new-owed q y = rw (eq-eqb n x q, t.remembers.acked c y) positive

        old-owed : 0 < t.a.past.owe n c → 0 < (s.extended x t.a).past.owe n c
        old-owed y = split n x (λ q. absurd (not-owed c (subst (λ (i : ℕ). 0 < t.a.past.owe i c) q y))) (λ q. rw (ne_eqb n x q) y)

        never : {A : Type 0} (ys : List ℕ) (r g : ℕ) → Happening.client (Event.extend xs) got ≡ Happening.client (Event.write ys c r) g → A
        never ys r g q = absurd (let y : ◌≡◌ {A = ℕ} 0 1 = cc in let o : ⊥ = omega arith in o)

        at : Passed w (Happening.client e got) n c ⊎ (Added h (Happening.client e got) n c ⊎ (Missed n c h × ((Synced w (Happening.client e got) n c) → ⊥))) → 0 < (s.extended x t.a).past.owe n c
        at (inl p) = never p.xs p.reached p.got p.wrote
        at (inr (inl p)) = new-owed (sym p.it) p.before
        at (inr (inr p)) = old-owed (t.remembers.owes n c p.0)

    extending : Tells (then w (Happening.client e got) h)
    extending =
        let r = t.reflects in
        let vq = ap (λ (y : Turn). y.pool) turn_is in
        client-tells w h t e got a.to a.course
        (subst (λ (y : Turn). Reflects (acted y.answer y.pool got w) a.to) (sym turn_is)
        (reflects-sent w (tried new).pool (arrived got told w.nodes) (tried new).awaited a.to (subst Valid vq (kept-valid e w.pool r.valid)) (subst (λ (y : Pool). y.roster.sync ≡ false) vq (kept-plain e w.pool r.valid r.plain))
        a.sees a.works a.sends
        (λ j. subst (λ (i : ℕ). Sane i j (arrived got told w.nodes j)) (sym (ap (λ (y : Pool). y.chunks) (sym vq) ∙ kept-chunks e w.pool)) (told-sane w t.a r.sane r.held w.pool got r.valid r.plain refl r.shows.sees told j))
        (subst (Held (arrived got told w.nodes)) (sym a.nodes) held)))
        (λ j. joins j ∙ ap (λ (y : m.Past). y.ever j) (sym a.past))
        (λ j. waiting j ∙ ap (λ (y : m.Past). y.wait j) (sym a.past))
        marked
        (λ c y. ap (λ (v : m.Past). v.acked c) a.past ∙ t.remembers.acked c (sym (or-none (acked h c)) ∙ y))
        (λ c y. t.remembers.below c (ap (λ (v : m.Past). v.acked c) (sym a.past) ∙ y))
        (λ n c y. subst (λ (v : m.Past). 0 < v.owe n c) (sym a.past) (owed n c y))

  pub extends-tell : Tells (then w (Happening.client e got) h)
  extends-tell = by_cases (accepts w e) extending (refused-tells w h t e got)
