-- Joins, and the hand enable.
use mathlib.Core.Path.{◌≡◌, refl, sym, ap, ◌∙◌, subst}
use mathlib.Core.Bool.{true, false, not}
use mathlib.Core.List.{List, [], ◌∷◌}
use Prim.Native.Nat.{ℕ, ◌<◌}
use lib.Dec.{eqb}
use borrow.Author.Tests.{eq-eqb, ne_eqb}
use Rattle.laws_words.specs.Tests.{clash, by_cases, picked, and_right, and-false}
use Rattle.rules_base.specs.Sets.{has, without}
use Rattle.rules_base.specs.declared.Op.{Op}
use Rattle.rules_pool.specs.declared.Message.{Message}
use Rattle.rules_pool.specs.declared.Outcome.{Outcome}
use Rattle.rules_pool.specs.declared.Told.{Told}
use Rattle.rules_pool.specs.declared.Sent.{Sent}
use Rattle.rules_pool.specs.declared.Pool.{Pool}
use Rattle.rules_pool.specs.declared.Turn.{Turn}
use Rattle.rules_pool.specs.declared.Kind.{Kind}
use Rattle.rules_pool.specs.Sessions.{ids_of}
use Rattle.rules_pool.specs.Recovery.{with_roster, tried}
use Rattle.rules_pool.specs.Exit.{changed, tried_after, number_of}
use Rattle.rules_client.specs.Joins.{join_told, create_refusal, created, create_done, join_create, assemble_refusal, assembled, assemble_done, join_assemble}
use Rattle.laws_client.proofs.Pools.{Valid}
use Rattle.rules_node.specs.Events as storage
use Rattle.rules_client.specs.Events.{Event, turn_of}
use Rattle.rules_world.specs.Station.{Station}
use Rattle.rules_world.specs.Together.{upd}
use Rattle.model_pool.specs.Model as m
use Rattle.model_pool.specs.Steps as s
use Rattle.model_pool.proofs.Ground.{split, upd_same, upd_other}
use Rattle.model_pool.proofs.Tries.{joined as then-course}
use Rattle.model_pool.specs.Holds.{Holds, Held}
use Rattle.model_pool.proofs.Events.{less, informed-at}
use Rattle.model_pool.specs.Alters.{join_taken, row_gone}
use Rattle.model_pool.proofs.Joins.{creates, assembles}
use Rattle.model_pool.specs.Reflects.{Reflects}
use Rattle.model_pool.proofs.Every.{arrived}
use Rattle.model_pool.proofs.Acts.{reflects-sent, told-sane, goes_on}
use Rattle.rules_world.specs.Whole.{World, Happening, accepts, after_all, when_to, acted}
use Rattle.rules_world.specs.History.{History, then, takes_in, joined_by, joined, waits_by, waits}
use Rattle.theorem_forgotten.specs.Premises.{Keeps}
use Rattle.theorem_forgotten.proofs.Tells.{Tells}
use Rattle.theorem_forgotten.proofs.Ground.{or-none, still-missed, or-all, and-true}
use Rattle.theorem_forgotten.proofs.Client.{kept-valid, kept-plain, kept-chunks, client-tells}
use Rattle.theorem_forgotten.proofs.Refused.{zero_of, refused-tells}

-- what the answer of an accepted turn hands back
abbrev pub sent_in : Message → Told → ℕ → Sent
sent_in awaited told n = record { outcome = Outcome.Plain; told = told; awaited = awaited; number = number_of awaited n }

-- the client took the join of a node that had joined
module _ (w : World) (h : History w) (t : Tells h) (e : Event) (got id : ℕ) (z : accepts w e ≡ true) (is : (j : ℕ) → takes_in e w j ≡ eqb j id) (ever : t.a.past.ever id ≡ true) where
  pub taken-joined : (j : ℕ) → joined_by w (Happening.client e got) j (joined h j) ≡ t.a.past.ever j
  taken-joined j = split j id
      (λ q. rw (q, is id, z, eq-eqb id id refl) (or-all (joined h id) ∙ sym ever))
      (λ q. rw (is j, z, ne_eqb j id q) (or-none (joined h j) ∙ t.remembers.ever j))

  pub taken-waits : (j : ℕ) → waits_by w (Happening.client e got) j (waits h j) ≡ m.upd t.a.past.wait id false j
  taken-waits j = split j id
      (λ q. rw (q, is id, z, eq-eqb id id refl, upd_same t.a.past.wait id false) (and-false (waits h id)))
      (λ q. rw (is j, z, ne_eqb j id q, upd_other t.a.past.wait id j false q) (and-true (waits h j) ∙ t.remembers.wait j))

  pub taken-new : (j : ℕ) → (w.nodes j).node.create ≡ true → joined_by w (Happening.client e got) j (joined h j) ≡ false
  taken-new j y = split j id
      (λ q. clash (t.remembers.ever j ∙ subst (λ (i : ℕ). t.a.past.ever i ≡ true) (sym q) ever) (t.remembers.new j y))
      (λ q. rw (is j, z, ne_eqb j id q) (or-none (joined h j) ∙ t.remembers.new j y))

-- ---- by create
module _ (w : World) (h : History w) (t : Tells h) (id got : ℕ) (k : Keeps h (Happening.client (Event.join_create id) got)) where
  abbrev e : Event
  e = Event.join_create id

  abbrev to : ℕ
  to = without (ids_of Kind.Told w.pool.roster) id

  turn_is : create_refusal w.pool id ≡ 0 → turn_of e w.pool ≡ changed w.pool (created w.pool.roster id) (Told.Infos to Op.AddCreate id)
  unfolding join_create create_done join_told
  turn_is q = rw (q, t.reflects.plain) refl

  rows : (n : m.Nodes) → Held w.nodes n → Held (arrived got (Told.Infos to Op.AddCreate id) w.nodes) (row_gone n id)
  rows n g = record {
    at = λ j. picked (λ (x : Station). Holds x (n.ver j) (s.rowless id n.map j) (n.stg j) (n.tr j)) (has got j) (after_all (when_to (has to j) (storage.Event.pool_info Op.AddCreate id)) (w.nodes j)) (w.nodes j)
        (λ y. picked (λ (es : List storage.Event). Holds (after_all es (w.nodes j)) (n.ver j) (s.rowless id n.map j) (n.stg j) (n.tr j)) (has to j) (storage.Event.pool_info Op.AddCreate id ∷ []) []
        (λ u. informed-at w.pool.chunks j (w.nodes j) (t.reflects.sane j) (n.ver j) (n.map j) (n.stg j) (n.tr j) (g.at j) Op.AddCreate id) (λ u. plain j))
        (λ y. plain j);
  }
    where
      plain : (j : ℕ) → Holds (w.nodes j) (n.ver j) (s.rowless id n.map j) (n.stg j) (n.tr j)
      plain j = less (s.rowless id n.map j) (n.stg j) (g.at j) (λ i d u. and_right (not (eqb i id)) (n.map j i d) u) (λ i d u. u)

  pub creating : Tells (then w (Happening.client e got) h)
  unfolding join_create
  creating = by_cases (accepts w e) yes-so (refused-tells w h t e got)
    where
      yes-so : accepts w e ≡ true → Tells (then w (Happening.client e got) h)
      yes-so z =
          let q = zero_of w.pool (create_refusal w.pool id) (create_done w.pool id) z in
          let wait = sym (t.remembers.wait id) ∙ k.follows id got refl z in
          let ever : t.a.past.ever id ≡ true = by_cases (t.a.past.ever id) (λ y. y) (λ y. clash wait (t.inv.life.came id y)) in
          let r = t.reflects in
          let x = creates w.pool id t.a r.valid r.plain r.shows q wait in
          let ti = turn_is q in
          let vq = ap (λ (u : Turn). u.pool) ti in
          let held : Held (arrived got (Told.Infos to Op.AddCreate id) w.nodes) x.to.nodes = subst (Held (arrived got (Told.Infos to Op.AddCreate id) w.nodes)) (sym x.nodes) (rows t.a.nodes r.held) in
          let v = kept-valid e w.pool r.valid in
          let y = kept-plain e w.pool r.valid r.plain in
          let g = subst (λ (u : Turn). Reflects (acted u.answer u.pool got w) x.to) (sym ti)
          (reflects-sent w (with_roster w.pool (created w.pool.roster id)) (arrived got (Told.Infos to Op.AddCreate id) w.nodes) Message.Nothing x.to
          (subst Valid vq v) (subst (λ (p : Pool). p.roster.sync ≡ false) vq y) x.sees x.works x.sends
          (told-sane w t.a r.sane r.held w.pool got r.valid r.plain refl r.shows.sees (Told.Infos to Op.AddCreate id)) held) in
          client-tells w h t e got x.to x.course g
          (λ j. taken-joined w h t e got id z (λ i. refl) ever j ∙ ap (λ (u : m.Past). u.ever j) (sym x.past))
          (λ j. taken-waits w h t e got id z (λ i. refl) ever j ∙ ap (λ (u : m.Past). u.wait j) (sym x.past))
          (taken-new w h t e got id z (λ i. refl) ever)
          (λ c u. ap (λ (v : m.Past). v.acked c) x.past ∙ t.remembers.acked c (sym (or-none _) ∙ u))
          (λ c u. t.remembers.below c (ap (λ (v : m.Past). v.acked c) (sym x.past) ∙ u))
          (λ n c u. subst (λ (v : m.Past). 0 < v.owe n c) (sym x.past) (t.remembers.owes n c (still-missed w h (Happening.client e got) refl n c u).0))

-- ---- by assemble
module _ (w : World) (h : History w) (t : Tells h) (id set version got : ℕ) (k : Keeps h (Happening.client (Event.join_assemble id set version) got)) where
  abbrev e₂ : Event
  e₂ = Event.join_assemble id set version

  abbrev to₂ : ℕ
  to₂ = without (ids_of Kind.Told w.pool.roster) id

  abbrev new : Pool
  new = with_roster w.pool (assembled w.pool.roster id set version)

  turn-is₂ : assemble_refusal w.pool id set version ≡ 0 → turn_of e₂ w.pool ≡ tried_after w.pool new Outcome.Plain (Told.Infos to₂ Op.AddAssemble id)
  unfolding join_assemble assemble_done join_told
  turn-is₂ q = rw (q, t.reflects.plain) refl

  pub assembling : Tells (then w (Happening.client e₂ got) h)
  unfolding join_assemble
  assembling = by_cases (accepts w e₂) yes-so (refused-tells w h t e₂ got)
    where
      yes-so : accepts w e₂ ≡ true → Tells (then w (Happening.client e₂ got) h)
      yes-so z =
          let q = zero_of w.pool (assemble_refusal w.pool id set version) (assemble_done w.pool id set version) z in
          let ever = sym (t.remembers.ever id) ∙ k.assembles id set version got refl z in
          let r = t.reflects in
          let x = assembles w.pool id set version t.a r.valid r.shows q ever (k.brings id set version got refl z ∙ (r.held.at id).ver) in
          let ti = turn-is₂ q in
          let vq = ap (λ (u : Turn). u.pool) ti in
          let n = goes_on w x.to r.sane (subst (Held w.nodes) (sym x.nodes) r.held) (tried new).pool got
          (subst Valid vq (kept-valid e₂ w.pool r.valid)) (subst (λ (p : Pool). p.roster.sync ≡ false) vq (kept-plain e₂ w.pool r.valid r.plain)) (ap (λ (p : Pool). p.chunks) (sym vq) ∙ kept-chunks e₂ w.pool) x.sees
          (sent_in (tried new).awaited (Told.Infos to₂ Op.AddAssemble id) (tried new).pool.number) x.works x.sends refl in
          let y : n.to.past ≡ join_taken t.a.past id = n.past ∙ x.past in
          client-tells w h t e₂ got n.to (then-course x.course n.course) (subst (λ (u : Turn). Reflects (acted u.answer u.pool got w) n.to) (sym ti) n.reflects)
          (λ j. taken-joined w h t e₂ got id z (λ i. refl) ever j ∙ ap (λ (u : m.Past). u.ever j) (sym y))
          (λ j. taken-waits w h t e₂ got id z (λ i. refl) ever j ∙ ap (λ (u : m.Past). u.wait j) (sym y))
          (taken-new w h t e₂ got id z (λ i. refl) ever)
          (λ c u. ap (λ (v : m.Past). v.acked c) y ∙ t.remembers.acked c (sym (or-none _) ∙ u))
          (λ c u. t.remembers.below c (ap (λ (v : m.Past). v.acked c) (sym y) ∙ u))
          (λ i c u. subst (λ (v : m.Past). 0 < v.owe i c) (sym y) (t.remembers.owes i c (still-missed w h (Happening.client e₂ got) refl i c u).0))
