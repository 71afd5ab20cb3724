-- Remove: what is owed to a member that is deleted is owed no more.
use mathlib.Core.Path.{◌≡◌, refl, sym, ap, ◌∙◌, subst}
use mathlib.Core.Bool.{Bool, true, false}
use mathlib.Core.List.{List}
use mathlib.Core.Logic.{◌≢◌, ◌⊎◌, ⊎_elim}
use Prim.Native.Nat.{ℕ, ◌<◌}
use Rattle.laws_words.specs.Tests.{clash, by_cases}
use Rattle.rules_base.specs.Sets.{has}
use Rattle.rules_pool.specs.declared.Mode.{Mode}
use Rattle.rules_pool.specs.declared.Told.{Told}
use Rattle.rules_pool.specs.declared.Pool.{Pool}
use Rattle.rules_pool.specs.declared.Turn.{Turn}
use Rattle.rules_pool.specs.Session.{is_deleting}
use Rattle.rules_pool.specs.Sessions.{session_at}
use Rattle.rules_client.specs.Remove.{remove_refusal, remove_begun, gone, remove}
use Rattle.rules_client.specs.Client.{sound_for, remove_turn}
use Rattle.laws_client.proofs.Pools.{Valid}
use Rattle.rules_client.specs.Events.{Event, turn_of}
use Rattle.model_pool.specs.Model as m
use Rattle.model_pool.proofs.Ground.{upd_other}
use Rattle.model_pool.specs.Mirror.{goes, MovesBy}
use Rattle.model_pool.proofs.Tries.{joined as then-course}
use Rattle.model_pool.specs.Holds.{Held}
use Rattle.model_pool.specs.Removed.{Removed, same, deletes}
use Rattle.model_pool.proofs.Removal.{removes, deleted-out}
use Rattle.model_pool.specs.Reflects.{Reflects}
use Rattle.model_pool.proofs.Acts.{goes_on}
use Rattle.model_pool.proofs.Told.{quiet}
use Rattle.rules_world.specs.Whole.{World, state_in, Happening, accepts, told_in, acted, after}
use Rattle.rules_world.specs.History.{History, then}
use Rattle.theorem_forgotten.specs.Premises.{Keeps}
use Rattle.theorem_forgotten.specs.Forgotten.{In}
use Rattle.theorem_forgotten.proofs.Tells.{Tells}
use Rattle.theorem_forgotten.proofs.Ground.{still-missed}
use Rattle.theorem_forgotten.proofs.Client.{kept-valid, kept-plain, kept-chunks, same-tells, moved-tells}
use Rattle.theorem_forgotten.proofs.Refused.{zero_of, refused-tells}
use Rattle.theorem_forgotten.proofs.Joins.{sent_in}

module _ (w : World) (h : History w) (t : Tells h) (xs : List ℕ) (id : ℕ) (mode : Mode) (got : ℕ) (k : Keeps h (Happening.client (Event.remove xs id mode) got)) where
  abbrev e : Event
  e = Event.remove xs id mode

  abbrev sound : Bool
  sound = sound_for w.pool xs

  module _ (z : accepts w e ≡ true) where
    zero : remove_refusal w.pool sound id mode ≡ 0
    unfolding remove_turn remove
    zero = zero_of w.pool (remove_refusal w.pool sound id mode) (gone w.pool (remove_begun w.pool id mode)) z

    turn_is : turn_of e w.pool ≡ gone w.pool (remove_begun w.pool id mode)
    unfolding remove_turn remove
    turn_is = rw zero refl

    came : Removed (remove_begun w.pool id mode).posted.pool (remove_begun w.pool id mode).posted.awaited id mode t.a
    unfolding remove
    came = rw zero at (removes w.pool sound id mode t.a t.reflects.valid t.reflects.plain t.reflects.shows
        (λ q d r. k.deletes xs id got (ap (λ (y : Mode). Happening.client (Event.remove xs id y) got) d) (subst (λ (y : Mode). accepts w (Event.remove xs id y) ≡ true) d z) r))

    -- a member that is deleted is not in the pool any more, or being deleted
    not_in : mode ≡ Mode.Delete → (n : ℕ) → In (after w (Happening.client e got)) n → n ≢ id
    unfolding after remove_turn
    not_in d n i q =
        let o = deleted-out w.pool sound id t.reflects.valid t.reflects.plain (subst (λ (y : Mode). remove_refusal w.pool sound id y ≡ 0) d zero) in
        let p : (after w (Happening.client e got)).pool ≡ (remove w.pool sound id Mode.Delete).pool = left-pool ∙ ap (λ (y : Mode). (remove w.pool sound id y).pool) d in
        ⊎_elim
        (λ u. clash (subst (λ (y : Pool). is_deleting (session_at y.roster id).state ≡ true) (sym p) u) (subst (λ (j : ℕ). is_deleting (state_in (after w (Happening.client e got)) j) ≡ false) q i.stays))
        (λ u. clash (subst (λ (j : ℕ). has (after w (Happening.client e got)).pool.roster.members j ≡ true) q i.member) (subst (λ (y : Pool). has y.roster.members id ≡ false) (sym p) u))
        o
      where
        left-pool : (acted (turn_of e w.pool).answer (turn_of e w.pool).pool got w).pool ≡ (turn_of e w.pool).pool
        left-pool = subst (λ (y : Turn). (acted y.answer y.pool got w).pool ≡ y.pool) (sym turn_is) refl

    removing : Removed (remove_begun w.pool id mode).posted.pool (remove_begun w.pool id mode).posted.awaited id mode t.a → Tells (then w (Happening.client e got) h)
    removing (same g) = moved-tells w h t e got (λ j. refl) (subst (λ (y : Turn). MovesBy w.pool y t.a) (sym turn_is) (goes g)) (subst (λ (y : Turn). quiet (told_in y.answer) ≡ true) (sym turn_is) refl) (λ c. refl) refl
    removing (deletes d mid c n p g) =
        let r = t.reflects in
        let vq = ap (λ (y : Turn). y.pool) turn_is in
        let b = goes_on w g.to r.sane (subst (Held w.nodes) (sym (g.nodes ∙ n)) r.held) (remove_begun w.pool id mode).posted.pool got
        (subst Valid vq (kept-valid e w.pool r.valid)) (subst (λ (y : Pool). y.roster.sync ≡ false) vq (kept-plain e w.pool r.valid r.plain)) (ap (λ (y : Pool). y.chunks) (sym vq) ∙ kept-chunks e w.pool) g.sees
        (sent_in (remove_begun w.pool id mode).posted.awaited Told.Nothing (remove_begun w.pool id mode).posted.pool.number) g.works g.sends refl in
        let o = b.past ∙ (g.past ∙ p) in
        same-tells w h t e got (λ j. refl) b.to (then-course c (then-course g.course b.course)) (subst (λ (y : Turn). Reflects (acted y.answer y.pool got w) b.to) (sym turn_is) b.reflects)
        (ap (λ (y : m.Past). y.ever) o) (ap (λ (y : m.Past). y.wait) o) (ap (λ (y : m.Past). y.acked) o) (λ q. refl)
        (λ i q u. subst (λ (y : m.Past). 0 < y.owe i q) (sym o)
        (subst (λ (f : ℕ → ℕ). 0 < f q) (sym (upd_other t.a.past.owe id i (λ x. 0) (not_in d i u.1))) (t.remembers.owes i q (still-missed w h (Happening.client e got) refl i q u).0)))

  pub removed : Tells (then w (Happening.client e got) h)
  removed = by_cases (accepts w e) (λ z. removing z (came z)) (refused-tells w h t e got)
