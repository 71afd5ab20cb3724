-- Laws that the named changes of a removal keep the state rules of the sessions.
use mathlib.Core.Path.{◌≡◌, refl, sym, ap, ◌∙◌, subst}
use mathlib.Core.Bool.{Bool, true, false, not, ◌&&◌, ◌||◌}
use Prim.Native.Nat.{ℕ, ◌-◌, ◌<◌}
use native.Mathlib.Decide.{ℕ_discrete}
use native.Mathlib.Omega.{arith}
use lib.Dec.{eqb}
use borrow.Author.Tests.{eqb-true}
use Rattle.laws_words.specs.Words.{pick}
use Rattle.laws_words.specs.Tests.{by_cases, clash}
use Rattle.rules_base.specs.Sets.{has, without, size}
use Rattle.rules_base.proofs.Sets.{has-without-other, without-lt, size-some}
use Rattle.rules_pool.specs.declared.Mode.{Mode}
use Rattle.rules_pool.specs.declared.State.{State}
use Rattle.rules_pool.specs.declared.Session.{Session}
use Rattle.rules_pool.specs.declared.Roster.{Roster}
use Rattle.rules_pool.specs.Session.{is_free, is_normal, is_failed, is_reconnecting, is_removing, free, moved}
use Rattle.rules_pool.specs.declared.Kind.{Kind}
use Rattle.rules_pool.specs.declared.Way.{Way}
use Rattle.rules_pool.specs.Sessions.{session_at, stored, odd, ids_of}
use Rattle.rules_pool.specs.Changes.{more, numbered, left, went, owes, removing, freed, member_dropped}
use Rattle.laws_client.proofs.Ids.{Long, stored_same, ids-has}
use Rattle.laws_client.proofs.Rosters.{Ok, odd_by, plain-even, quiet_keeps, sync-keeps, leave-keeps, count-is, without-none, more-le}

and_none : (b : Bool) → (b && false) ≡ false
and_none true = refl
and_none false = refl

or-all : (b : Bool) → (b || true) ≡ true
or-all true = refl
or-all false = refl

-- ---- to REMOVING, and freed

-- a record that left FAILED and RECONNECTING bears neither mark nor flag
pub moved_plain : (s : Session) (to : State) → (is_failed to || is_reconnecting to) ≡ false → moved s to ≡ record { state = to; maintenance = false; mark = false }
moved_plain s to e = rw (e, and_none s.maintenance, and_none s.mark) refl

moved-removing : (s : Session) (mode : Mode) (owed : Bool) → moved s (State.Removing mode owed) ≡ record { state = State.Removing mode owed; maintenance = false; mark = false }
moved-removing s mode owed = moved_plain s (State.Removing mode owed) refl

pub removing-even : (sync : Bool) (members id : ℕ) (s : Session) (mode : Mode) (owed : Bool) → odd sync members id (moved s (State.Removing mode owed)) ≡ false
removing-even sync members id s mode owed =
    ap (λ (x : Session). odd sync members id x) (moved-removing s mode owed) ∙ (plain-even (State.Removing mode owed) sync (has members id) (and_none sync) (or-all sync))

-- a session that is not NORMAL becomes REMOVING
pub went-keeps : (ro : Roster) (id : ℕ) (mode : Mode) (owed : Bool) → Ok ro → id < 16 → is_normal (session_at ro id).state ≡ false → Ok (went ro id (State.Removing mode owed))
unfolding went
went-keeps ro id mode owed v h was =
    quiet_keeps ro id (moved (session_at ro id) (State.Removing mode owed)) v h was refl
    (λ e. clash e (and_none (session_at ro id).mark))
    (removing-even ro.sync ro.members id (session_at ro id) mode owed)

-- a NORMAL one does
left-keeps : (ro : Roster) (id : ℕ) (mode : Mode) (owed : Bool) → Ok ro → id < 16 → is_normal (session_at ro id).state ≡ true → (b : Bool) → ro.sync ≡ b → Ok (left ro id (Way.Removing mode owed))
unfolding left
left-keeps ro id mode owed v h was true e =
    subst Ok
    (sym (ap (λ (b : Bool). pick b (stored ro id (moved (session_at ro id) (State.Removing mode owed))) (numbered (stored ro id (moved (session_at ro id) (State.Removing mode owed))) (ro.count - 1) (more ro.version))) e))
    (sync-keeps ro id (moved (session_at ro id) (State.Removing mode owed)) v h e (removing-even true ro.members id (session_at ro id) mode owed))
left-keeps ro id mode owed v h was false e =
    subst Ok
    (sym (ap (λ (b : Bool). pick b (stored ro id (moved (session_at ro id) (State.Removing mode owed))) (numbered (stored ro id (moved (session_at ro id) (State.Removing mode owed))) (ro.count - 1) (more ro.version))) e))
    (leave-keeps ro id (moved (session_at ro id) (State.Removing mode owed)) (ro.count - 1) (more ro.version) v h e was refl
    (λ m. clash m (and_none (session_at ro id).mark))
    (removing-even false ro.members id (session_at ro id) mode owed)
    (omega (arith, count-is ro v e, size-some (ids_of Kind.Normals ro) id (ids-has Kind.Normals ro v.long id h ∙ was)))
    (more-le ro.version).0 (more-le ro.version).1)

pub removing-keeps : (ro : Roster) (id : ℕ) (mode : Mode) → Ok ro → id < 16 → Ok (removing ro id mode)
unfolding removing
removing-keeps ro id mode v h =
    by_cases (is_normal (session_at ro id).state)
    (λ e. subst Ok (sym (ap (λ (b : Bool). pick b (left ro id (Way.Removing mode true)) (went ro id (State.Removing mode (owes (session_at ro id).state)))) e)) (left-keeps ro id mode true v h e ro.sync refl))
    (λ e. subst Ok (sym (ap (λ (b : Bool). pick b (left ro id (Way.Removing mode true)) (went ro id (State.Removing mode (owes (session_at ro id).state)))) e)) (went-keeps ro id mode (owes (session_at ro id).state) v h e))

normal-owes : (st : State) → is_normal st ≡ true → owes st ≡ true
normal-owes State.Free e = refl
normal-owes State.Created e = refl
normal-owes State.Normal e = refl
normal-owes (State.Failed cause) e = clash e refl
normal-owes State.Reconnecting e = refl
normal-owes (State.Removing m owed) e = clash e refl

-- the record of the session that became REMOVING, and the others
pub removing-at : (ro : Roster) (id : ℕ) (mode : Mode) → Long ro → id < 16 → session_at (removing ro id mode) id ≡ moved (session_at ro id) (State.Removing mode (owes (session_at ro id).state))
unfolding removing left went
removing-at ro id mode l h =
    by_cases (is_normal (session_at ro id).state)
    (λ e. rw (e, normal-owes (session_at ro id).state e) (by_cases ro.sync (λ z. rw z (stored_same ro id (moved (session_at ro id) (State.Removing mode true)) l h)) (λ z. rw z (stored_same ro id (moved (session_at ro id) (State.Removing mode true)) l h))))
    (λ e. rw e (stored_same ro id (moved (session_at ro id) (State.Removing mode (owes (session_at ro id).state))) l h))

pub freed-keeps : (ro : Roster) (id : ℕ) → Ok ro → id < 16 → is_normal (session_at ro id).state ≡ false → Ok (freed ro id)
freed-keeps ro id v h was =
    quiet_keeps ro id free v h was refl (λ e. clash e refl) (plain-even State.Free ro.sync (has ro.members id) (and_none ro.sync) (or-all ro.sync))

-- ---- a member dropped whose session is REMOVING or none

gone-even : (st : State) (sync a b maint mark : Bool) → (is_free st || is_removing st) ≡ true → odd_by sync a st maint mark ≡ odd_by sync b st maint mark
gone-even st sync a b maint mark e = rw e refl

normals-dropped : (ro : Roster) (id : ℕ) → ids_of Kind.Normals (member_dropped ro id) ≡ ids_of Kind.Normals ro
unfolding ids_of
normals-dropped ro id = refl

marked-dropped : (ro : Roster) (id : ℕ) → ids_of Kind.Marked (member_dropped ro id) ≡ ids_of Kind.Marked ro
unfolding ids_of
marked-dropped ro id = refl

none_dropped : (sync : Bool) (members id : ℕ) → (not sync || eqb members 0) ≡ true → (not sync || eqb (without members id) 0) ≡ true
none_dropped false members id e = refl
none_dropped true members id e = rw (eqb-true members 0 e, without-none id) refl

pub drop_keeps : (ro : Roster) (id : ℕ) → Ok ro → (is_free (session_at ro id).state || is_removing (session_at ro id).state) ≡ true → Ok (member_dropped ro id)
drop_keeps ro id v gone =
    record {
      long = v.long;
      count = v.count ∙ ap (λ (n : ℕ). pick ro.sync 0 (size n)) (sym (normals-dropped ro id));
      one-mark = rw (marked-dropped ro id) v.one-mark;
      no-mark = rw (marked-dropped ro id, normals-dropped ro id) v.no-mark;
      low = v.low;
      high = v.high;
      small = without-lt ro.members id v.small;
      none = none_dropped ro.sync ro.members id v.none;
      even = λ j hj. evens j hj (ℕ_discrete j id);
    }
  where
    evens : (j : ℕ) → j < 16 → Dec (j ≡ id) → odd ro.sync (without ro.members id) j (session_at ro j) ≡ false
    evens j hj (yes p) =
        gone-even (session_at ro j).state ro.sync (has (without ro.members id) j) (has ro.members j) (session_at ro j).maintenance (session_at ro j).mark (rw p gone)
        ∙ v.even j hj
    evens j hj (no p) = rw (has-without-other ro.members id j p) (v.even j hj)
