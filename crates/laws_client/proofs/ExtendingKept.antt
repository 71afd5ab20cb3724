-- Extend, accepted or refused, keeps the state rules; what it leaves of the sessions; and which id it picks.
use mathlib.Core.Path.{◌≡◌, refl, sym, ◌∙◌}
use mathlib.Core.Bool.{Bool, true, false, not, ◌&&◌}
use mathlib.Core.Logic.{◌≢◌}
use Prim.Native.Nat.{ℕ, ◌<◌}
use native.Mathlib.Decide.{dec_lt}
use native.Mathlib.Omega.{arith}
use lib.Dec.{eqb}
use borrow.Author.Tests.{eqb-false, not-false}
use Rattle.laws_words.specs.Tests.{passed, and_left, and_right}
use Rattle.rules_base.specs.Sets.{has, with, lowest}
use Rattle.rules_base.proofs.Sets.{has-with-same, lowest-le, lowest-in, lowest-first, empty-set}
use Rattle.rules_pool.specs.declared.State.{State}
use Rattle.rules_pool.specs.declared.Roster.{Roster}
use Rattle.rules_pool.specs.declared.Pool.{Pool}
use Rattle.rules_pool.specs.Session.{is_free, new_session}
use Rattle.rules_pool.specs.declared.Kind.{Kind}
use Rattle.rules_pool.specs.Sessions.{session_at, ids_of}
use Rattle.rules_pool.specs.Changes.{member_entered}
use Rattle.rules_pool.specs.Recovery.{with_roster}
use Rattle.laws_client.proofs.Exit.{turned}
use Rattle.rules_pool.specs.StateRules.{valid_pool}
use Rattle.rules_pool.specs.Jobs.{is_idle}
use Rattle.laws_client.proofs.Ids.{Long, stored_same, stored_other, ids-has, ids-lt}
use Rattle.laws_client.proofs.Rosters.{Ok}
use Rattle.laws_client.proofs.Pools.{Valid}
use Rattle.laws_client.proofs.Joins.{entered-keeps, begun-keeps}
use Rattle.laws_client.proofs.Tried.{idle-valid, tried-keeps}
use Rattle.laws_client.proofs.Records.{Numbers}
use Rattle.rules_client.specs.Extend.{picked, extend_refusal, extended, extend_done, extend}

-- ---- the id

-- the id picked, where one is unused: neither a member nor held by a session, and every lower id is one or the other
pub record Picks (ro : Roster) (id : ℕ) : Type 0 where
  pub below : id < 16
  pub free : is_free (session_at ro id).state ≡ true
  pub outside : has ro.members id ≡ false
  pub lowest : (j : ℕ) → j < id → (is_free (session_at ro j).state && not (has ro.members j)) ≡ false

off : (b : Bool) → not b ≡ true → b ≡ false
off true e = sym e
off false e = refl

pub picks : (ro : Roster) → Long ro → eqb (ids_of Kind.Unused ro) 0 ≡ false → Picks ro (picked ro)
unfolding picked
picks ro l some =
    let b = below in
    let u = sym (ids-has Kind.Unused ro l (lowest (ids_of Kind.Unused ro)) b) ∙ lowest-in (ids_of Kind.Unused ro) b in
    record {
      below = b;
      free = and_left (is_free (session_at ro id).state) (not (has ro.members id)) u;
      outside = off (has ro.members id) (and_right (is_free (session_at ro id).state) (not (has ro.members id)) u);
      lowest = λ j h. sym (ids-has Kind.Unused ro l j (omega (arith, h, b))) ∙ lowest-first (ids_of Kind.Unused ro) j h;
    }
  where
    id : ℕ
    id = lowest (ids_of Kind.Unused ro)

    below : lowest (ids_of Kind.Unused ro) < 16
    below = elim (dec_lt (lowest (ids_of Kind.Unused ro)) 16) [
      | yes h ↦ h
      | no g ↦ absurd (eqb-false (ids_of Kind.Unused ro) 0 some (empty-set (ids_of Kind.Unused ro) (ids-lt Kind.Unused ro l) (omega (arith, lowest-le (ids_of Kind.Unused ro)))))
    ]

-- ---- accepted

pub record Extends (p : Pool) : Type 0 where
  pub plain : p.roster.sync ≡ false
  pub idle : is_idle p.job ≡ true
  pub normal : eqb (ids_of Kind.Normals p.roster) 0 ≡ false
  pub some : eqb (ids_of Kind.Unused p.roster) 0 ≡ false

pub extend-passed : (p : Pool) (sound : Bool) → extend_refusal p sound ≡ 0 → Extends p
unfolding extend_refusal
extend-passed p sound e =
    let a = passed (not (valid_pool p)) 1 _ (λ h. omega arith) e in
    let b = passed (not sound) 2 _ (λ h. omega arith) a.1 in
    let c = passed p.roster.sync 5 _ (λ h. omega arith) b.1 in
    let d = passed (not (is_idle p.job)) 6 _ (λ h. omega arith) c.1 in
    let f = passed (eqb (ids_of Kind.Normals p.roster) 0) 11 _ (λ h. omega arith) d.1 in
    let g = passed (eqb (ids_of Kind.Unused p.roster) 0) 19 _ (λ h. omega arith) f.1 in
    record { plain = c.0; idle = not-false _ d.0; normal = f.0; some = g.0 }

extended-keeps : (ro : Roster) (id : ℕ) → Ok ro → ro.sync ≡ false → Picks ro id → Ok (extended ro id)
unfolding extended
extended-keeps ro id v plain h =
    begun-keeps (member_entered ro id) id State.Reconnecting (entered-keeps ro id v plain h.below) h.below plain h.free refl (has-with-same ro.members id h.below)

extended-sync : (ro : Roster) (id : ℕ) → (extended ro id).sync ≡ ro.sync
unfolding extended
extended-sync ro id = refl

pub extend-keeps : (p : Pool) (sound : Bool) → Valid p → Valid (extend p sound).pool
unfolding extend extend_done
extend-keeps p sound v =
    turned Valid (extend_refusal p sound) (extend_done p (picked p.roster)) p v
    (λ e. let h = extend-passed p sound e in
    let ro = extended p.roster (picked p.roster) in
    tried-keeps (with_roster p (extended p.roster (picked p.roster)))
    (idle-valid p (extended p.roster (picked p.roster)) v h.idle (extended-keeps p.roster (picked p.roster) v.ok h.plain (picks p.roster v.ok.long h.some)))
    (extended-sync p.roster (picked p.roster) ∙ h.plain))

-- ---- what it leaves of the sessions: a new one, RECONNECTING, the others as they were, and one member more

pub extended-at : (ro : Roster) (id : ℕ) → Long ro → id < 16 → session_at (extended ro id) id ≡ new_session State.Reconnecting
unfolding extended
extended-at ro id l h = stored_same ro id (new_session State.Reconnecting) l h

pub extended-other : (ro : Roster) (id j : ℕ) → j ≢ id → session_at (extended ro id) j ≡ session_at ro j
unfolding extended
extended-other ro id j ne = stored_other ro id (new_session State.Reconnecting) j ne

pub extended-numbers : (ro : Roster) (id : ℕ) → Numbers ro (extended ro id) ro.count ro.version (with ro.members id)
unfolding extended
extended-numbers ro id = record { kind = refl; counted = refl; versioned = refl; held = refl }
