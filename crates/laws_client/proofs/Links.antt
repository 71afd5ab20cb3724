-- Laws that the named changes of links and writes keep the state rules of the sessions.
use mathlib.Core.Path.{◌≡◌, refl, sym, ap, ◌∙◌, subst}
use mathlib.Core.Bool.{Bool, true, false, not, ◌&&◌, ◌||◌}
use Prim.Native.Nat.{ℕ, ◌+◌, ◌-◌, ◌≤◌, ◌<◌}
use native.Mathlib.Omega.{arith}
use lib.Dec.{eqb}
use borrow.Author.Tests.{eqb-true}
use Rattle.laws_words.specs.Words.{pick}
use Rattle.laws_words.specs.Tests.{by_cases, clash, and_left}
use Rattle.rules_base.specs.Limits.{version_limit, version_top}
use Rattle.rules_base.specs.Sets.{has, with}
use Rattle.rules_base.proofs.Sets.{size-le, size-with, size-some}
use Rattle.rules_pool.specs.declared.Cause.{Cause}
use Rattle.rules_pool.specs.declared.State.{State}
use Rattle.rules_pool.specs.declared.Session.{Session}
use Rattle.rules_pool.specs.declared.Roster.{Roster}
use Rattle.rules_pool.specs.Session.{is_free, is_normal, is_failed, is_reconnecting, is_removing, moved, marked, flagged}
use Rattle.rules_pool.specs.declared.Kind.{Kind}
use Rattle.rules_pool.specs.declared.Way.{Way}
use Rattle.rules_pool.specs.Sessions.{session_at, stored, odd, ids_of}
use Rattle.rules_pool.specs.Changes.{more, numbered, entered, arrived, left, failed, went, flagged_at}
use Rattle.laws_client.proofs.Ids.{ids-has}
use Rattle.laws_client.proofs.Rosters.{Ok, odd_by, plain-even, quiet_keeps, sync-keeps, leave-keeps, count-is, enter-keeps, more-le}
use Rattle.laws_client.proofs.Changes.{moved_plain}

-- ---- what the rule about one record says in a state of a session that is neither none nor REMOVING

-- there is a session, and it is not REMOVING
abbrev pub is_live : State → Bool
is_live st = not (is_free st || is_removing st)

member-parts : (x y member : Bool) → (x || ((false && y) || (not false && (true && not member)))) ≡ false → member ≡ true
member-parts true y true e = refl
member-parts true y false e = sym e
member-parts false y true e = refl
member-parts false y false e = sym e

-- in a non-sync pool it is a member
pub live-member : (st : State) (member maint mark : Bool) → is_live st ≡ true → odd_by false member st maint mark ≡ false → member ≡ true
live-member st member maint mark l e =
    member-parts ((mark || maint) && not (is_failed st || is_reconnecting st)) (mark || (maint || is_reconnecting st)) member
    (rw l at e)

-- FAILED and RECONNECTING bear mark and flag
bear-parts : (x y member : Bool) → member ≡ true → ((x && false) || ((false && y) || (not false && (true && not member)))) ≡ false
bear-parts true y member e = rw e refl
bear-parts false y member e = rw e refl

failed-bears : (cause : Cause) (member maint mark : Bool) → member ≡ true → odd_by false member (State.Failed cause) maint mark ≡ false
failed-bears cause member maint mark e = bear-parts (mark || maint) (mark || (maint || false)) member e

pub reconnecting-bears : (member maint mark : Bool) → member ≡ true → odd_by false member State.Reconnecting maint mark ≡ false
reconnecting-bears member maint mark e = bear-parts (mark || maint) (mark || (maint || true)) member e

-- a sync pool has no mark and no flag
sync-parts : (x r z maint mark : Bool) → (((mark || maint) && x) || ((true && (mark || (maint || r))) || z)) ≡ false → (mark ≡ false) × (maint ≡ false)
sync-parts x r z false false e = (refl, refl)
sync-parts true r z false true e = clash refl e
sync-parts false r z false true e = clash refl e
sync-parts true r z true true e = clash refl e
sync-parts false r z true true e = clash refl e
sync-parts true r z true false e = clash refl e
sync-parts false r z true false e = clash refl e

sync-plain : (st : State) (member maint mark : Bool) → odd_by true member st maint mark ≡ false → (mark ≡ false) × (maint ≡ false)
sync-plain st member maint mark e =
    sync-parts (not (is_failed st || is_reconnecting st)) (is_reconnecting st) (not true && (not (is_free st || is_removing st) && not member)) maint mark e

-- what becomes FAILED keeps its flag and its mark
failed-even : (cause : Cause) (st : State) (sync member maint mark mark' : Bool) → is_live st ≡ true → odd_by sync member st maint mark ≡ false → (sync ≡ true → mark' ≡ false) → odd_by sync member (State.Failed cause) (maint && true) mark' ≡ false
failed-even cause st true member maint mark mark' l e z =
    let q = sync-plain st member maint mark e in
    rw (z refl, q.1) refl
failed-even cause st false member maint mark mark' l e z = failed-bears cause member (maint && true) mark' (live-member st member maint mark l e)

-- ---- numbers

-- one NORMAL session is counted
pub counted : (ro : Roster) (id : ℕ) → Ok ro → id < 16 → ro.sync ≡ false → is_normal (session_at ro id).state ≡ true → (ro.count - 1) + 1 ≡ ro.count
counted ro id v h sync was = omega (arith, count-is ro v sync, size-some (ids_of Kind.Normals ro) id (ids-has Kind.Normals ro v.long id h ∙ was))

-- ---- a session leaves NORMAL for FAILED or maintenance

pub normal-live : (st : State) → is_normal st ≡ true → is_live st ≡ true
normal-live State.Free e = e
normal-live State.Created e = refl
normal-live State.Normal e = refl
normal-live (State.Failed cause) e = refl
normal-live State.Reconnecting e = refl
normal-live (State.Removing m owed) e = e

-- the way does not lead to REMOVING
abbrev pub stays : Way → Bool
stays (Way.Failed cause) = true
stays Way.Maintenance = true
stays (Way.Removing mode owed) = false

arrived-not-normal : (w : Way) (s : Session) (last : Bool) → is_normal (arrived s w last).state ≡ false
arrived-not-normal (Way.Failed cause) s last = refl
arrived-not-normal Way.Maintenance s last = refl
arrived-not-normal (Way.Removing mode owed) s last = refl

arrived-mark : (w : Way) (s : Session) (last : Bool) → stays w ≡ true → (arrived s w last).mark ≡ last
arrived-mark (Way.Failed cause) s last e = refl
arrived-mark Way.Maintenance s last e = refl
arrived-mark (Way.Removing mode owed) s last e = clash refl (sym e)

arrived-even : (w : Way) (members id : ℕ) (s : Session) (last : Bool) → stays w ≡ true → has members id ≡ true → odd false members id (arrived s w last) ≡ false
arrived-even (Way.Failed cause) members id s last e m = failed-bears cause (has members id) (s.maintenance && true) last m
arrived-even Way.Maintenance members id s last e m = reconnecting-bears (has members id) true last m
arrived-even (Way.Removing mode owed) members id s last e m = clash refl (sym e)

pub away-is : (ro : Roster) (id : ℕ) (w : Way) → ro.sync ≡ false
    → left ro id w ≡ numbered (stored ro id (arrived (session_at ro id) w (eqb (ro.count - 1) 0))) (ro.count - 1) (more ro.version)
unfolding left
away-is ro id w e = rw e refl

pub away-keeps : (ro : Roster) (id : ℕ) (w : Way) → Ok ro → id < 16 → ro.sync ≡ false → is_normal (session_at ro id).state ≡ true → stays w ≡ true → Ok (left ro id w)
away-keeps ro id w v h sync was st =
    let e : odd false ro.members id (session_at ro id) ≡ false = rw sync at (v.even id h) in
    let m = live-member (session_at ro id).state (has ro.members id) (session_at ro id).maintenance (session_at ro id).mark (normal-live (session_at ro id).state was) e in
    let r = more-le ro.version in
    subst Ok (sym (away-is ro id w sync))
    (leave-keeps ro id (arrived (session_at ro id) w (eqb (ro.count - 1) 0)) (ro.count - 1) (more ro.version) v h sync was
    (arrived-not-normal w (session_at ro id) (eqb (ro.count - 1) 0))
    (λ k. eqb-true (ro.count - 1) 0 (sym (arrived-mark w (session_at ro id) (eqb (ro.count - 1) 0) st) ∙ k))
    (arrived-even w ro.members id (session_at ro id) (eqb (ro.count - 1) 0) st m)
    (counted ro id v h sync was) r.0 r.1)

-- ---- a session enters FAILED

-- in a sync pool: only the state
sync-away : (ro : Roster) (id : ℕ) (cause : Cause) → ro.sync ≡ true → left ro id (Way.Failed cause) ≡ stored ro id (marked (moved (session_at ro id) (State.Failed cause)) false)
unfolding left
sync-away ro id cause e = rw e refl

normal-fails : (ro : Roster) (id : ℕ) (cause : Cause) → Ok ro → id < 16 → is_normal (session_at ro id).state ≡ true → (b : Bool) → ro.sync ≡ b → Ok (left ro id (Way.Failed cause))
normal-fails ro id cause v h was true sync =
    let e : odd true ro.members id (session_at ro id) ≡ false = rw sync at (v.even id h) in
    subst Ok (sym (sync-away ro id cause sync))
    (sync-keeps ro id (marked (moved (session_at ro id) (State.Failed cause)) false) v h sync
    (failed-even cause (session_at ro id).state true (has ro.members id) (session_at ro id).maintenance (session_at ro id).mark false (normal-live (session_at ro id).state was) e (λ _. refl)))
normal-fails ro id cause v h was false sync = away-keeps ro id (Way.Failed cause) v h sync was refl

other-fails : (ro : Roster) (id : ℕ) (cause : Cause) → Ok ro → id < 16 → is_normal (session_at ro id).state ≡ false → is_live (session_at ro id).state ≡ true → Ok (stored ro id (moved (session_at ro id) (State.Failed cause)))
other-fails ro id cause v h was live =
    quiet_keeps ro id (moved (session_at ro id) (State.Failed cause)) v h was refl
    (λ e. and_left (session_at ro id).mark true e)
    (failed-even cause (session_at ro id).state ro.sync (has ro.members id) (session_at ro id).maintenance (session_at ro id).mark ((session_at ro id).mark && true) live (v.even id h)
    (λ z. let e : odd true ro.members id (session_at ro id) ≡ false = rw z at (v.even id h) in
    rw (sync-plain (session_at ro id).state (has ro.members id) (session_at ro id).maintenance (session_at ro id).mark e).0 refl))

pub failed-keeps : (ro : Roster) (id : ℕ) (cause : Cause) → Ok ro → id < 16 → is_live (session_at ro id).state ≡ true → Ok (failed ro id cause)
unfolding failed
failed-keeps ro id cause v h live =
    by_cases (is_normal (session_at ro id).state)
    (λ e. subst Ok (sym (ap (λ (b : Bool). pick b (left ro id (Way.Failed cause)) (stored ro id (moved (session_at ro id) (State.Failed cause)))) e)) (normal-fails ro id cause v h e ro.sync refl))
    (λ e. subst Ok (sym (ap (λ (b : Bool). pick b (left ro id (Way.Failed cause)) (stored ro id (moved (session_at ro id) (State.Failed cause)))) e)) (other-fails ro id cause v h e live))

-- ---- a session that is not NORMAL enters RECONNECTING, or leaves maintenance

pub reconnects-keeps : (ro : Roster) (id : ℕ) → Ok ro → id < 16 → ro.sync ≡ false → is_normal (session_at ro id).state ≡ false → is_live (session_at ro id).state ≡ true → Ok (went ro id State.Reconnecting)
unfolding went
reconnects-keeps ro id v h sync was live =
    let e : odd false ro.members id (session_at ro id) ≡ false = rw sync at (v.even id h) in
    let m = live-member (session_at ro id).state (has ro.members id) (session_at ro id).maintenance (session_at ro id).mark live e in
    quiet_keeps ro id (moved (session_at ro id) State.Reconnecting) v h was refl
    (λ k. and_left (session_at ro id).mark true k)
    (rw sync (reconnecting-bears (has ro.members id) ((session_at ro id).maintenance && true) ((session_at ro id).mark && true) m))

reconnecting-is : (st : State) → is_reconnecting st ≡ true → (is_normal st ≡ false) × (is_live st ≡ true) × ((is_failed st || is_reconnecting st) ≡ true)
reconnecting-is State.Free e = clash refl (sym e)
reconnecting-is State.Created e = clash refl (sym e)
reconnecting-is State.Normal e = clash refl (sym e)
reconnecting-is (State.Failed cause) e = clash refl (sym e)
reconnecting-is State.Reconnecting e = (refl, refl, refl)
reconnecting-is (State.Removing m owed) e = clash refl (sym e)

unflag-parts : (x y member : Bool) (bears : Bool) → bears ≡ true → member ≡ true → ((x && not bears) || ((false && y) || (not false && (true && not member)))) ≡ false
unflag-parts x y member bears b e = rw b (bear-parts x y member e)

pub unflagged-keeps : (ro : Roster) (id : ℕ) → Ok ro → id < 16 → ro.sync ≡ false → is_reconnecting (session_at ro id).state ≡ true → Ok (flagged_at ro id false)
unflagged-keeps ro id v h sync is =
    let e : odd false ro.members id (session_at ro id) ≡ false = rw sync at (v.even id h) in
    let f = reconnecting-is (session_at ro id).state is in
    let m = live-member (session_at ro id).state (has ro.members id) (session_at ro id).maintenance (session_at ro id).mark f.1 e in
    quiet_keeps ro id (flagged (session_at ro id) false) v h f.0 f.0 (λ k. k)
    (rw (sync, f.1) (unflag-parts ((session_at ro id).mark || false) ((session_at ro id).mark || (false || is_reconnecting (session_at ro id).state)) (has ro.members id) (is_failed (session_at ro id).state || is_reconnecting (session_at ro id).state) f.2 m))

-- ---- a session enters NORMAL

-- a version at the limit leaves room for each session
pub room : (ro : Roster) (id : ℕ) → Ok ro → id < 16 → ro.sync ≡ false → is_normal (session_at ro id).state ≡ false → ro.version ≤ version_limit → ro.version + ro.count < version_top
room ro id v h sync was low =
    omega (arith, low, count-is ro v sync, size-with (ids_of Kind.Normals ro) id h (ids-has Kind.Normals ro v.long id h ∙ was), size-le (with (ids_of Kind.Normals ro) id))

pub enters-keeps : (ro : Roster) (id : ℕ) → Ok ro → id < 16 → ro.sync ≡ false → is_normal (session_at ro id).state ≡ false → is_live (session_at ro id).state ≡ true → ro.version ≤ version_limit → Ok (entered ro id)
enters-keeps ro id v h sync was live low =
    let e : odd false ro.members id (session_at ro id) ≡ false = rw sync at (v.even id h) in
    enter-keeps ro id v h sync was
    (live-member (session_at ro id).state (has ro.members id) (session_at ro id).maintenance (session_at ro id).mark live e)
    (room ro id v h sync was low)

-- in a sync pool: only the state
pub sync-enter-is : (ro : Roster) (id : ℕ) → ro.sync ≡ true → entered ro id ≡ stored ro id (moved (session_at ro id) State.Normal)
unfolding entered
sync-enter-is ro id e = rw e refl

pub sync-enters : (ro : Roster) (id : ℕ) → Ok ro → id < 16 → ro.sync ≡ true → Ok (entered ro id)
sync-enters ro id v h sync =
    subst Ok (sym (sync-enter-is ro id sync))
    (sync-keeps ro id (moved (session_at ro id) State.Normal) v h sync
    (ap (λ (x : Session). odd true ro.members id x) (moved_plain (session_at ro id) State.Normal refl) ∙ plain-even State.Normal true (has ro.members id) refl refl))
