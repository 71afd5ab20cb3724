-- What the named changes leave of each session's record and of the numbers.
use mathlib.Core.Path.{◌≡◌, refl, sym, ap, ◌∙◌}
use mathlib.Core.Bool.{Bool, true, false, not, ◌&&◌, ◌||◌}
use mathlib.Core.Logic.{◌≢◌}
use Prim.Native.Nat.{ℕ, ◌+◌, ◌-◌, ◌≤◌, ◌<◌}
use native.Mathlib.Omega.{arith}
use lib.Dec.{eqb}
use Rattle.laws_words.specs.Words.{pick}
use Rattle.laws_words.specs.Tests.{by_cases, clash, and-false}
use Rattle.rules_pool.specs.declared.Cause.{Cause}
use Rattle.rules_pool.specs.declared.State.{State}
use Rattle.rules_pool.specs.declared.Roster.{Roster}
use Rattle.rules_pool.specs.Session.{is_normal, is_failed, is_reconnecting, new_session, moved, marked}
use Rattle.rules_pool.specs.declared.Way.{Way}
use Rattle.rules_pool.specs.Sessions.{session_at, outside, unsynced}
use Rattle.rules_pool.specs.Changes.{more, numbered, all_unmarked, entered, arrived, left, failed}
use Rattle.laws_client.proofs.Ids.{Long, stored-long, stored_same, stored_other, unmarked-long, below}
use Rattle.laws_client.proofs.Rosters.{Ok, below_top}

and-true : (b : Bool) → (b && true) ≡ b
and-true true = refl
and-true false = refl

-- ---- a record by itself

misplaced-parts : (mark maint bears x y : Bool) → (((mark || maint) && not bears) || (x || y)) ≡ false → (mark ≡ (mark && bears)) × (maint ≡ (maint && bears))
misplaced-parts true maint true x y e = (refl, sym (and-true maint))
misplaced-parts false maint true x y e = (refl, sym (and-true maint))
misplaced-parts true maint false x y e = clash refl e
misplaced-parts false true false x y e = clash refl e
misplaced-parts false false false x y e = (refl, refl)

-- mark and flag stand on FAILED and RECONNECTING only
pub placed : (ro : Roster) → Ok ro → (j : ℕ) → j < 16
    → ((session_at ro j).mark ≡ ((session_at ro j).mark && (is_failed (session_at ro j).state || is_reconnecting (session_at ro j).state)))
    × ((session_at ro j).maintenance ≡ ((session_at ro j).maintenance && (is_failed (session_at ro j).state || is_reconnecting (session_at ro j).state)))
placed ro v j h =
    misplaced-parts (session_at ro j).mark (session_at ro j).maintenance (is_failed (session_at ro j).state || is_reconnecting (session_at ro j).state)
    (ro.sync && unsynced (session_at ro j)) (not ro.sync && outside ro.members j (session_at ro j)) (v.even j h)

-- so in another state the state is all there is
pub bare : (ro : Roster) → Ok ro → (j : ℕ) → j < 16 → (is_failed (session_at ro j).state || is_reconnecting (session_at ro j).state) ≡ false → session_at ro j ≡ new_session (session_at ro j).state
bare ro v j h e =
    let p = placed ro v j h in
    let m : (session_at ro j).mark ≡ false = p.0 ∙ rw e (and-false (session_at ro j).mark) in
    let f : (session_at ro j).maintenance ≡ false = p.1 ∙ rw e (and-false (session_at ro j).maintenance) in
    λ i. record { state = (session_at ro j).state; maintenance = f i; mark = m i }

-- ---- a session enters NORMAL

pub entered_at : (ro : Roster) (id : ℕ) → Long ro → id < 16 → session_at (entered ro id) id ≡ moved (session_at ro id) State.Normal
unfolding entered
entered_at ro id l h =
    by_cases ro.sync
    (λ e. rw e (stored_same ro id (moved (session_at ro id) State.Normal) l h))
    (λ e. rw e (stored_same (all_unmarked ro) id (moved (session_at ro id) State.Normal) (unmarked-long ro l) h))

-- in a sync pool the others stay
pub sync-entered-other : (ro : Roster) (id j : ℕ) → ro.sync ≡ true → j ≢ id → session_at (entered ro id) j ≡ session_at ro j
unfolding entered
sync-entered-other ro id j e p = rw e (stored_other ro id (moved (session_at ro id) State.Normal) j p)

-- What becomes of the kind, the NORMAL count, the version and the membership.
pub record Numbers (ro ro' : Roster) (count version members : ℕ) : Type 0 where
  pub kind : ro'.sync ≡ ro.sync
  pub counted : ro'.count ≡ count
  pub versioned : ro'.version ≡ version
  pub held : ro'.members ≡ members

pub entered-numbers : (ro : Roster) (id : ℕ) (b : Bool) → ro.sync ≡ b → Numbers ro (entered ro id) (pick b ro.count (more ro.count)) ro.version ro.members
unfolding entered
entered-numbers ro id true e = record { kind = rw e refl; counted = rw e refl; versioned = rw e refl; held = rw e refl }
entered-numbers ro id false e = record { kind = rw e refl; counted = rw e refl; versioned = rw e refl; held = rw e refl }

-- ---- a session leaves NORMAL

-- it was the last one, in a pool that counts
abbrev pub is_last : Roster → Bool
is_last ro = not ro.sync && eqb (ro.count - 1) 0

pub left_at : (ro : Roster) (id : ℕ) (w : Way) → Long ro → id < 16 → session_at (left ro id w) id ≡ arrived (session_at ro id) w (is_last ro)
unfolding left
left_at ro id w l h =
    by_cases ro.sync
    (λ e. rw e (stored_same ro id (arrived (session_at ro id) w false) l h))
    (λ e. rw e (stored_same ro id (arrived (session_at ro id) w (eqb (ro.count - 1) 0)) l h))

pub left_other : (ro : Roster) (id : ℕ) (w : Way) (j : ℕ) → j ≢ id → session_at (left ro id w) j ≡ session_at ro j
unfolding left
left_other ro id w j p =
    by_cases ro.sync
    (λ e. rw e (stored_other ro id (arrived (session_at ro id) w false) j p))
    (λ e. rw e (stored_other ro id (arrived (session_at ro id) w (eqb (ro.count - 1) 0)) j p))

pub left-numbers : (ro : Roster) (id : ℕ) (w : Way) (b : Bool) → ro.sync ≡ b
    → Numbers ro (left ro id w) (pick b ro.count (ro.count - 1)) (pick b ro.version (more ro.version)) ro.members
unfolding left
left-numbers ro id w true e = record { kind = rw e refl; counted = rw e refl; versioned = rw e refl; held = rw e refl }
left-numbers ro id w false e = record { kind = rw e refl; counted = rw e refl; versioned = rw e refl; held = rw e refl }

pub left-long : (ro : Roster) (id : ℕ) (w : Way) → Long ro → Long (left ro id w)
unfolding left
left-long ro id w l =
    by_cases ro.sync
    (λ e. rw e (stored-long ro id (arrived (session_at ro id) w false) l))
    (λ e. rw e (stored-long ro id (arrived (session_at ro id) w (eqb (ro.count - 1) 0)) l))

-- ---- a session enters FAILED: it keeps its flag, and its mark unless it was NORMAL; the last NORMAL one is marked

pub failed-at : (ro : Roster) (id : ℕ) (cause : Cause) → Long ro → id < 16
    → session_at (failed ro id cause) id ≡ marked (moved (session_at ro id) (State.Failed cause)) (pick (is_normal (session_at ro id).state) (is_last ro) (session_at ro id).mark)
unfolding failed
failed-at ro id cause l h =
    by_cases (is_normal (session_at ro id).state)
    (λ e. rw e (left_at ro id (Way.Failed cause) l h))
    (λ e. rw e (stored_same ro id (moved (session_at ro id) (State.Failed cause)) l h ∙ ap (λ (b : Bool). marked (moved (session_at ro id) (State.Failed cause)) b) (and-true (session_at ro id).mark)))

pub failed-other : (ro : Roster) (id : ℕ) (cause : Cause) (j : ℕ) → j ≢ id → session_at (failed ro id cause) j ≡ session_at ro j
unfolding failed
failed-other ro id cause j p =
    by_cases (is_normal (session_at ro id).state)
    (λ e. rw e (left_other ro id (Way.Failed cause) j p))
    (λ e. rw e (stored_other ro id (moved (session_at ro id) (State.Failed cause)) j p))

-- in a pool that counts, one that was NORMAL
pub normal-failed : (ro : Roster) (id : ℕ) (cause : Cause) → ro.sync ≡ false → is_normal (session_at ro id).state ≡ true → Numbers ro (failed ro id cause) (ro.count - 1) (more ro.version) ro.members
unfolding failed
normal-failed ro id cause sync was = rw was (left-numbers ro id (Way.Failed cause) false sync)

-- and any other
pub other-failed : (ro : Roster) (id : ℕ) (cause : Cause) → (not ro.sync && is_normal (session_at ro id).state) ≡ false → Numbers ro (failed ro id cause) ro.count ro.version ro.members
unfolding failed
other-failed ro id cause e =
    by_cases (is_normal (session_at ro id).state)
    (λ was. rw was (left-numbers ro id (Way.Failed cause) true (at ro.sync (rw was at e))))
    (λ was. rw was (record { kind = refl; counted = refl; versioned = refl; held = refl }))
  where
    at : (b : Bool) → (not b && true) ≡ false → b ≡ true
    at true q = refl
    at false q = clash refl q

-- there is room for the version to rise while a session is NORMAL
pub rises : (ro : Roster) → Ok ro → 1 ≤ ro.count → more ro.version ≡ ro.version + 1
rises ro v h = below_top ro.version (omega (arith, v.high))

-- the same sessions, with the version raised if a run ended
abbrev pub raised_if : Bool → Roster → Roster
raised_if b ro = numbered ro ro.count (pick b (more ro.version) ro.version)

-- past the end there is no session
pub normal-below : (ro : Roster) (j : ℕ) → Long ro → is_normal (session_at ro j).state ≡ true → j < 16
normal-below ro j l e = below (λ s. is_normal s.state) ro j l refl e
