-- Laws that the named changes of joins keep the state rules of the sessions.
use mathlib.Core.Path.{◌≡◌, refl, sym, ap, ◌∙◌}
use mathlib.Core.Bool.{Bool, true, false, not, ◌&&◌, ◌||◌}
use Prim.Native.Nat.{ℕ, ◌+◌, ◌≤◌, ◌<◌, max}
use native.Mathlib.Omega.{arith}
use lib.Dec.{eqb}
use borrow.Author.Tests.{eqb-true}
use Rattle.laws_words.specs.Words.{pick}
use Rattle.laws_words.specs.Tests.{by_cases, clash}
use Rattle.rules_base.specs.Limits.{version_limit, version_top}
use Rattle.rules_base.specs.Sets.{has, with, size}
use Rattle.rules_base.proofs.Sets.{has-none, has-with-same, has-with-other, with-lt, size-le}
use native.Mathlib.Decide.{ℕ_discrete}
use Rattle.rules_pool.specs.declared.State.{State}
use Rattle.rules_pool.specs.declared.Past.{Past}
use Rattle.rules_pool.specs.declared.Roster.{Roster}
use Rattle.rules_pool.specs.Past.{past_taken_over}
use Rattle.rules_pool.specs.Session.{is_free, is_normal, is_failed, is_reconnecting, is_removing, new_session}
use Rattle.rules_pool.specs.declared.Kind.{Kind}
use Rattle.rules_pool.specs.Sessions.{session_at, odd, ids_of}
use Rattle.rules_pool.specs.Changes.{more, numbered, raised, enrolled, with_members, with_past, member_entered, taken_over}
use Rattle.laws_client.proofs.Rosters.{Ok, odd_by, plain-even, quiet_keeps, sync-keeps, count-is, below_top}

-- ---- a membership that holds every member it held

more_parts : (x y f member : Bool) → (x || (y || (not false && (not f && not member)))) ≡ false → (x || (y || (not false && (not f && not true)))) ≡ false
more_parts true y f member e = e
more_parts false true f member e = e
more_parts false false true member e = refl
more_parts false false false member e = refl

member-more : (st : State) (member member' maint mark : Bool) → (member ≡ true → member' ≡ true) → odd_by false member st maint mark ≡ false → odd_by false member' st maint mark ≡ false
member-more st true true maint mark f e = e
member-more st true false maint mark f e = clash refl (sym (f refl))
member-more st false true maint mark f e = more_parts ((mark || maint) && not (is_failed st || is_reconnecting st)) (false && (mark || (maint || is_reconnecting st))) (is_free st || is_removing st) false e
member-more st false false maint mark f e = e

normals-with : (ro : Roster) (members : ℕ) → ids_of Kind.Normals (with_members ro members) ≡ ids_of Kind.Normals ro
unfolding ids_of
normals-with ro members = refl

marked-with : (ro : Roster) (members : ℕ) → ids_of Kind.Marked (with_members ro members) ≡ ids_of Kind.Marked ro
unfolding ids_of
marked-with ro members = refl

pub members-keep : (ro : Roster) (members : ℕ) → Ok ro → ro.sync ≡ false → members < 65536 → ((j : ℕ) → j < 16 → has ro.members j ≡ true → has members j ≡ true) → Ok (with_members ro members)
members-keep ro members v sync small f =
    record {
      long = v.long;
      count = v.count ∙ ap (λ (n : ℕ). pick ro.sync 0 (size n)) (sym (normals-with ro members));
      one-mark = rw (marked-with ro members) v.one-mark;
      no-mark = rw (marked-with ro members, normals-with ro members) v.no-mark;
      low = v.low;
      high = v.high;
      small = small;
      none = rw sync refl;
      even = λ j hj. let e : odd false ro.members j (session_at ro j) ≡ false = rw sync at (v.even j hj) in
          rw sync (member-more (session_at ro j).state (has ro.members j) (has members j) (session_at ro j).maintenance (session_at ro j).mark (f j hj) e);
    }

with-more : (s id : ℕ) → id < 16 → (j : ℕ) → j < 16 → has s j ≡ true → has (with s id) j ≡ true
with-more s id h j hj e = elim (ℕ_discrete j id) [
  | yes p ↦ rw p (has-with-same s id h)
  | no p ↦ has-with-other s id j p ∙ e
]

pub entered-keeps : (ro : Roster) (id : ℕ) → Ok ro → ro.sync ≡ false → id < 16 → Ok (member_entered ro id)
entered-keeps ro id v sync h = members-keep ro (with ro.members id) v sync (with-lt ro.members id v.small) (with-more ro.members id h)

-- ---- a version that leaves room

normals-at : (ro : Roster) (n v : ℕ) → ids_of Kind.Normals (numbered ro n v) ≡ ids_of Kind.Normals ro
unfolding ids_of
normals-at ro n v = refl

marked-at : (ro : Roster) (n v : ℕ) → ids_of Kind.Marked (numbered ro n v) ≡ ids_of Kind.Marked ro
unfolding ids_of
marked-at ro n v = refl

pub version-keeps : (ro : Roster) (version : ℕ) → Ok ro → 1 ≤ version → version + ro.count ≤ version_top → Ok (numbered ro ro.count version)
version-keeps ro version v low high =
    record {
      long = v.long;
      count = v.count ∙ ap (λ (n : ℕ). pick ro.sync 0 (size n)) (sym (normals-at ro ro.count version));
      one-mark = rw (marked-at ro ro.count version) v.one-mark;
      no-mark = rw (marked-at ro ro.count version, normals-at ro ro.count version) v.no-mark;
      low = low;
      high = high;
      small = v.small;
      none = v.none;
      even = v.even;
    }

-- the version raised
pub raised_keeps : (ro : Roster) → Ok ro → ro.version + ro.count < version_top → Ok (raised ro)
raised_keeps ro v room =
    let r = below_top ro.version (omega (arith, room)) in
    version-keeps ro (more ro.version) v (omega (arith, r)) (omega (arith, r, room))

-- ---- the past, which no rule speaks of

normals-past : (ro : Roster) (past : Past) → ids_of Kind.Normals (with_past ro past) ≡ ids_of Kind.Normals ro
unfolding ids_of
normals-past ro past = refl

marked-past : (ro : Roster) (past : Past) → ids_of Kind.Marked (with_past ro past) ≡ ids_of Kind.Marked ro
unfolding ids_of
marked-past ro past = refl

pub past-keeps : (ro : Roster) (past : Past) → Ok ro → Ok (with_past ro past)
past-keeps ro past v =
    record {
      long = v.long;
      count = v.count ∙ ap (λ (n : ℕ). pick ro.sync 0 (size n)) (sym (normals-past ro past));
      one-mark = rw (marked-past ro past) v.one-mark;
      no-mark = rw (marked-past ro past, normals-past ro past) v.no-mark;
      low = v.low;
      high = v.high;
      small = v.small;
      none = v.none;
      even = v.even;
    }

-- ---- a node's member set and version taken over

taken_more : (members set : ℕ) (j : ℕ) → j < 16 → has members j ≡ true → has (pick (eqb members 0) set members) j ≡ true
taken_more members set j hj e =
    by_cases (eqb members 0)
    (λ z. clash e (rw (eqb-true members 0 z) (has-none j)))
    (λ z. rw z e)

pub taken-keeps : (ro : Roster) (set version : ℕ) → Ok ro → ro.sync ≡ false → set < 65536 → version ≤ version_limit → Ok (taken_over ro set version)
taken-keeps ro set version v sync small low =
    past-keeps (with_members (numbered ro ro.count (max ro.version version)) (pick (eqb ro.members 0) set ro.members)) (past_taken_over ro.past (eqb ro.members 0))
    (members-keep (numbered ro ro.count (max ro.version version)) (pick (eqb ro.members 0) set ro.members)
    (version-keeps ro (max ro.version version) v (omega (arith, v.low)) (omega (arith, v.high, low, count-is ro v sync, size-le (ids_of Kind.Normals ro))))
    sync
    (at (eqb ro.members 0))
    (taken_more ro.members set))
  where
    at : (b : Bool) → pick b set ro.members < 65536
    at true = small
    at false = v.small

-- ---- a session begins

free-plain : (st : State) → is_free st ≡ true → is_normal st ≡ false
free-plain State.Free e = refl
free-plain State.Created e = refl
free-plain State.Normal e = sym e
free-plain (State.Failed cause) e = refl
free-plain State.Reconnecting e = refl
free-plain (State.Removing m owed) e = refl

pub begun-keeps : (ro : Roster) (id : ℕ) (st : State) → Ok ro → id < 16 → ro.sync ≡ false → is_free (session_at ro id).state ≡ true → is_normal st ≡ false → has ro.members id ≡ true → Ok (enrolled ro id st)
begun-keeps ro id st v h sync was is member =
    quiet_keeps ro id (new_session st) v h (free-plain (session_at ro id).state was) is (λ e. clash refl (sym e))
    (rw sync (plain-even st false (has ro.members id) refl (rw member (any (is_free st || is_removing st)))))
  where
    any : (b : Bool) → (b || true) ≡ true
    any true = refl
    any false = refl

-- in a sync pool it begins NORMAL
pub sync-begun : (ro : Roster) (id : ℕ) → Ok ro → id < 16 → ro.sync ≡ true → Ok (enrolled ro id State.Normal)
sync-begun ro id v h sync = sync-keeps ro id (new_session State.Normal) v h sync (plain-even State.Normal true (has ro.members id) refl refl)
