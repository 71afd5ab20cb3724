-- The state rules of a run as facts, and laws that a run goes on by them.
use Rattle.std.specs.Prelude.{Option, Some, None}
use mathlib.Core.Path.{◌≡◌, refl, sym, ap, ◌∙◌}
use mathlib.Core.Bool.{Bool, true, false, not, ◌&&◌}
use mathlib.Core.Logic.{◌≢◌}
use Prim.Native.Nat.{ℕ, ◌+◌, ◌-◌, ◌≤◌, ◌<◌}
use native.Mathlib.Omega.{arith}
use lib.Dec.{eqb}
use borrow.Author.Tests.{eqb-true, eq-eqb, lt-ltb, le-leb, leb-true, ltb-true}
use Rattle.laws_words.specs.Words.{pick}
use Rattle.laws_words.specs.Tests.{clash, all-at, and_left, and_right, and_both, either}
use Rattle.rules_base.specs.Limits.{answer_limit, version_limit, version_top}
use Rattle.rules_base.specs.Sets.{has, with, without}
use Rattle.rules_base.proofs.Sets.{has-below, has-without-same, still, size-le, size-with}
use Rattle.rules_pool.specs.declared.State.{State}
use Rattle.rules_pool.specs.declared.Session.{Session}
use Rattle.rules_pool.specs.declared.Roster.{Roster}
use Rattle.rules_pool.specs.declared.Phase.{Phase}
use Rattle.rules_pool.specs.declared.Step.{Step}
use Rattle.rules_pool.specs.declared.Run.{Run}
use Rattle.rules_pool.specs.Session.{is_normal, is_reconnecting, candidate, moved}
use Rattle.rules_pool.specs.declared.Kind.{Kind}
use Rattle.rules_pool.specs.Sessions.{session_at, ids_of}
use Rattle.rules_pool.specs.Changes.{unmarked, all_unmarked, entered}
use Rattle.rules_pool.specs.Run.{go, to_spread, to_gather, to_last, to_base, to_versions}
use Rattle.rules_pool.specs.Still.{possible}
use Rattle.rules_pool.specs.StateRules.{all_asked, source_ok, hand_ok, run_rules, run_ok}
use Rattle.laws_client.proofs.Ids.{Long, stored_same, stored_other, unmarked-long, unmarked-at, ids-has, ids-none, none-ids}
use Rattle.laws_client.proofs.Rosters.{Ok, odd_by, count-is, entered-is, enter-keeps}

-- every id of the set is a candidate
abbrev pub AllCandidates : Roster → ℕ → Type 0
AllCandidates ro set = (j : ℕ) → has set j ≡ true → candidate (session_at ro j) ≡ true

pub record RunOk (ro : Roster) (r : Run) : Type 0 where
  pub plain : ro.sync ≡ false
  pub limit : ro.version ≤ version_limit
  pub small : r.left < 65536
  pub some : hand_ok r.phase r.left ≡ true
  pub able : AllCandidates ro r.left
  pub source : source_ok r.phase ro r.source r.left ≡ true
  pub most : r.taken + possible ro.members r ≤ answer_limit

-- ---- a set of candidates

stray-not : (a b : Bool) → a ≡ true → (a && not b) ≡ false → b ≡ true
stray-not true true p e = refl
stray-not true false p e = clash refl e
stray-not false b p e = clash p refl

not-stray : (a b : Bool) → (a ≡ true → b ≡ true) → (a && not b) ≡ false
not-stray true true f = refl
not-stray true false f = sym (f refl)
not-stray false b f = refl

pub strays-none : (ro : Roster) (set : ℕ) → Long ro → ids_of (Kind.Strays set) ro ≡ 0 → AllCandidates ro set
strays-none ro set l e j h = stray-not (has set j) (candidate (session_at ro j)) h (ids-none (Kind.Strays set) ro l e j (has-below set j h))

pub none-stray : (ro : Roster) (set : ℕ) → Long ro → AllCandidates ro set → ids_of (Kind.Strays set) ro ≡ 0
none-stray ro set l f = none-ids (Kind.Strays set) ro l (λ j h. not-stray (has set j) (candidate (session_at ro j)) (f j))

pub run-facts : (ro : Roster) (r : Run) → Long ro → run_ok ro r ≡ true → RunOk ro r
unfolding run_ok
run-facts ro r l e =
    record {
      plain = not-false' ro.sync (all-at (run_rules ro r) 0 e);
      limit = leb-true _ _ (all-at (run_rules ro r) 1 e);
      small = ltb-true _ _ (all-at (run_rules ro r) 2 e);
      some = all-at (run_rules ro r) 3 e;
      able = strays-none ro r.left l (eqb-true _ _ (all-at (run_rules ro r) 4 e));
      source = all-at (run_rules ro r) 5 e;
      most = leb-true _ _ (all-at (run_rules ro r) 6 e);
    }
  where
    not-false' : (b : Bool) → not b ≡ true → b ≡ false
    not-false' true q = sym q
    not-false' false q = refl

pub run_of : (ro : Roster) (r : Run) → Long ro → RunOk ro r → run_ok ro r ≡ true
unfolding run_ok
run_of ro r l v =
    let q = none-stray ro r.left l v.able in
    simp (v.plain, le-leb _ _ v.limit, lt-ltb _ _ v.small, v.some, eq-eqb _ _ q, v.source, le-leb _ _ v.most)

-- a version that a run began with has room for its end and for each session
pub run_room : (ro : Roster) → Ok ro → ro.sync ≡ false → ro.version ≤ version_limit → ro.version + ro.count < version_top
run_room ro v sync low = omega (arith, low, count-is ro v sync, size-le (ids_of Kind.Normals ro))

-- ---- who is a candidate

reconnecting-parts : (st : State) (maint mark member : Bool) → (is_reconnecting st && not maint) ≡ true → odd_by false member st maint mark ≡ false → member ≡ true
reconnecting-parts State.Free maint mark member c e = clash c refl
reconnecting-parts State.Created maint mark member c e = clash c refl
reconnecting-parts State.Normal maint mark member c e = clash c refl
reconnecting-parts (State.Failed cause) maint mark member c e = clash c refl
reconnecting-parts State.Reconnecting maint true true c e = refl
reconnecting-parts State.Reconnecting true false true c e = refl
reconnecting-parts State.Reconnecting false false true c e = refl
reconnecting-parts State.Reconnecting true true false c e = sym e
reconnecting-parts State.Reconnecting false true false c e = sym e
reconnecting-parts State.Reconnecting true false false c e = clash c refl
reconnecting-parts State.Reconnecting false false false c e = sym e
reconnecting-parts (State.Removing m owed) maint mark member c e = clash c refl

-- a candidate is a member
pub candidate-member : (ro : Roster) → Ok ro → ro.sync ≡ false → (j : ℕ) → j < 16 → candidate (session_at ro j) ≡ true → has ro.members j ≡ true
candidate-member ro v e j h c =
    reconnecting-parts (session_at ro j).state (session_at ro j).maintenance (session_at ro j).mark (has ro.members j) c
    (sym (ap (λ (b : Bool). odd_by b (has ro.members j) (session_at ro j).state (session_at ro j).maintenance (session_at ro j).mark) e) ∙ v.even j h)

candidate-parts : (st : State) (b : Bool) → (is_reconnecting st && b) ≡ true → is_normal st ≡ false
candidate-parts State.Free b e = refl
candidate-parts State.Created b e = refl
candidate-parts State.Normal b e = clash e refl
candidate-parts (State.Failed cause) b e = refl
candidate-parts State.Reconnecting b e = refl
candidate-parts (State.Removing m owed) b e = refl

pub candidate-normal : (s : Session) → candidate s ≡ true → is_normal s.state ≡ false
candidate-normal s e = candidate-parts s.state (not s.maintenance) e

-- ---- a candidate enters NORMAL

pub entered-same : (ro : Roster) (id : ℕ) → Long ro → ro.sync ≡ false → id < 16 → is_normal (session_at (entered ro id) id).state ≡ true
entered-same ro id l e h =
    ap (λ (q : Roster). is_normal (session_at q id).state) (entered-is ro id e)
    ∙ ap (λ (s : Session). is_normal s.state) (stored_same (all_unmarked ro) id (moved (session_at ro id) State.Normal) (unmarked-long ro l) h)

pub entered-other : (ro : Roster) (id j : ℕ) → ro.sync ≡ false → j ≢ id → session_at (entered ro id) j ≡ unmarked (session_at ro j)
entered-other ro id j e p =
    ap (λ (q : Roster). session_at q j) (entered-is ro id e)
    ∙ (stored_other (all_unmarked ro) id (moved (session_at ro id) State.Normal) j p ∙ unmarked-at ro j)

-- entering NORMAL changes neither membership nor version
pub entered-members : (ro : Roster) (id : ℕ) → (entered ro id).members ≡ ro.members
unfolding entered
entered-members ro id = either (λ (q : Roster). q.members ≡ ro.members) ro.sync _ _ refl refl

pub entered-version : (ro : Roster) (id : ℕ) → (entered ro id).version ≡ ro.version
unfolding entered
entered-version ro id = either (λ (q : Roster). q.version ≡ ro.version) ro.sync _ _ refl refl

pub entered-sync : (ro : Roster) (id : ℕ) → ro.sync ≡ false → (entered ro id).sync ≡ false
entered-sync ro id e = ap (λ (q : Roster). q.sync) (entered-is ro id e) ∙ e

pub candidate-enters : (ro : Roster) (id : ℕ) → Ok ro → ro.sync ≡ false → ro.version ≤ version_limit → id < 16 → candidate (session_at ro id) ≡ true → Ok (entered ro id)
candidate-enters ro id v e limit h c =
    let n : is_normal (session_at ro id).state ≡ false = candidate-normal (session_at ro id) c in
    let more_by = size-with (ids_of Kind.Normals ro) id h (ids-has Kind.Normals ro v.long id h ∙ n) in
    enter-keeps ro id v h e n (candidate-member ro v e id h c)
    (omega (arith, count-is ro v e, more_by, size-le (with (ids_of Kind.Normals ro) id), limit))

-- ---- the facts of case 3 until the enabling spread begins

pub record Asking (ro : Roster) (source : ℕ) : Type 0 where
  pub none : ids_of Kind.Normals ro ≡ 0
  pub all-able : AllCandidates ro ro.members
  pub member : has ro.members source ≡ true

pub asking-facts : (ro : Roster) (source : ℕ) → Long ro → all_asked ro source ≡ true → Asking ro source
unfolding all_asked
asking-facts ro source l e =
    let a = and_left (eqb (ids_of Kind.Normals ro) 0) _ e in
    let b = and_right (eqb (ids_of Kind.Normals ro) 0) _ e in
    record {
      none = eqb-true _ _ a;
      all-able = strays-none ro ro.members l (eqb-true _ _ (and_left (eqb (ids_of (Kind.Strays ro.members) ro) 0) _ b));
      member = and_right (eqb (ids_of (Kind.Strays ro.members) ro) 0) _ b;
    }

pub asking-of : (ro : Roster) (source : ℕ) → Long ro → Asking ro source → all_asked ro source ≡ true
unfolding all_asked
asking-of ro source l v =
    let q = none-stray ro ro.members l v.all-able in
    simp (eq-eqb _ _ v.none, eq-eqb _ _ q, v.member)

-- ---- the runs that come next, with the sessions ro

-- those left are candidates, and the source is what its phase asks
abbrev pub Sound : Roster → Option Run → Type 0
Sound ro None = Unit {0}
Sound ro (Some r) = AllCandidates ro r.left × (source_ok r.phase ro r.source r.left ≡ true)

abbrev pub Within : ℕ → ℕ → Type 0
Within a b = (j : ℕ) → has a j ≡ true → has b j ≡ true

off : (b : Bool) → b ≡ false → not b ≡ true
off b e = rw e refl

others-within : (members source : ℕ) → Within (without members source) members
others-within members source j h = (still members source j h).0

pub spread-sound : (ro : Roster) (r : Run) (left : ℕ) → AllCandidates ro left → is_normal (session_at ro r.source).state ≡ true → Sound ro (to_spread r left)
spread-sound ro r left a n = either (Sound ro) (eqb left 0) None (go r (Phase.Spread Step.Ready) r.source left) tt (a, n)

module _ (ro : Roster) (l : Long ro) (r : Run) (source : ℕ) (v : Asking ro source) where
  pub gather-sound : (left : ℕ) → Within left ro.members → has left source ≡ false → Sound ro (to_gather ro.members r source left)
  gather-sound left w s =
      either (Sound ro) (eqb left 0) (go r (Phase.Enable true) source (without ro.members source)) (go r (Phase.Gather Step.Ready) source left)
      ((λ j h. v.all-able j (others-within ro.members source j h)), and_both (asking-of ro source l v) (off (has (without ro.members source) source) (has-without-same ro.members source)))
      ((λ j h. v.all-able j (w j h)), and_both (asking-of ro source l v) (off (has left source) s))

  pub last-sound : (left : ℕ) → Within left ro.members → Sound ro (to_last ro.members r source left)
  last-sound left w =
      either (Sound ro) (eqb left 0) (to_gather ro.members r source (without ro.members source)) (go r Phase.LastIo source left)
      (gather-sound (without ro.members source) (others-within ro.members source) (has-without-same ro.members source))
      ((λ j h. v.all-able j (w j h)), asking-of ro source l v)

  pub base-sound : (left : ℕ) → Within left ro.members → has left source ≡ false → Sound ro (to_base ro.members r source left)
  base-sound left w s =
      either (Sound ro) (eqb left 0) (to_last ro.members r source ro.members) (go r (Phase.Base Step.Ready) source left)
      (last-sound ro.members (λ j h. h))
      ((λ j h. v.all-able j (w j h)), and_both (asking-of ro source l v) (off (has left source) s))

  pub versions-sound : (best left : ℕ) → Within left ro.members → Sound ro (to_versions ro.members r best source left)
  versions-sound best left w =
      either (Sound ro) (eqb left 0) (to_base ro.members r source (without ro.members source)) (go r (Phase.Versions best) source left)
      (base-sound (without ro.members source) (others-within ro.members source) (has-without-same ro.members source))
      ((λ j h. v.all-able j (w j h)), asking-of ro source l v)
