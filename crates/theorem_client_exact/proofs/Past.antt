-- The named changes of the sessions leave the past.
use mathlib.Core.Path.{◌≡◌, refl, ◌∙◌}
use mathlib.Core.Bool.{true, not, ◌&&◌}
use Prim.Native.Nat.{ℕ, zero, suc}
use Rattle.laws_words.specs.Loops.{run_at}
use Rattle.laws_words.specs.Tests.{either}
use Rattle.rules_base.specs.Sets.{has}
use Rattle.rules_pool.specs.declared.Cause.{Cause}
use Rattle.rules_pool.specs.declared.Mode.{Mode}
use Rattle.rules_pool.specs.declared.Roster.{Roster}
use Rattle.rules_pool.specs.declared.Way.{Way}
use Rattle.rules_pool.specs.Session.{is_normal, is_removing}
use Rattle.rules_pool.specs.Sessions.{session_at}
use Rattle.rules_pool.specs.Changes.{left, failed, went, removing}
use Rattle.rules_client.specs.Links.{dropped}
use Rattle.rules_client.specs.Writes.{miss_step}

pub left-past : (ro : Roster) (id : ℕ) (w : Way) → (left ro id w).past ≡ ro.past
unfolding left
left-past ro id w = either (λ (q : Roster). q.past ≡ ro.past) ro.sync _ _ refl refl

failed-past : (ro : Roster) (id : ℕ) (cause : Cause) → (failed ro id cause).past ≡ ro.past
unfolding failed
failed-past ro id cause = either (λ (q : Roster). q.past ≡ ro.past) (is_normal (session_at ro id).state) _ _ (left-past ro id (Way.Failed cause)) refl

pub removing-past : (ro : Roster) (id : ℕ) (mode : Mode) → (removing ro id mode).past ≡ ro.past
unfolding removing went
removing-past ro id mode = either (λ (q : Roster). q.past ≡ ro.past) (is_normal (session_at ro id).state) _ _ (left-past ro id (Way.Removing mode true)) refl

pub dropped-past : (ro : Roster) (id : ℕ) → (dropped ro id).past ≡ ro.past
unfolding dropped
dropped-past ro id = either (λ (q : Roster). q.past ≡ ro.past) (is_removing (session_at ro id).state) _ _ refl (failed-past ro id Cause.Link)

pub missed-past : (reached n k : ℕ) (ro : Roster) → (run_at (miss_step reached) n k ro).past ≡ ro.past
unfolding miss_step
missed-past reached zero k ro = refl
missed-past reached (suc n) k ro =
    missed-past reached n (suc k) (miss_step reached k ro)
    ∙ either (λ (q : Roster). q.past ≡ ro.past) (is_normal (session_at ro k).state && not (has reached k)) _ _ (failed-past ro k Cause.Io) refl
