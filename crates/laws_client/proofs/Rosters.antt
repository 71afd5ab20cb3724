-- Laws that the changes of one session keep the state rules of the sessions.
use mathlib.Core.Path.{◌≡◌, refl, sym, ap, ◌∙◌, subst}
use mathlib.Core.Bool.{Bool, true, false, not, ◌&&◌, ◌||◌}
use mathlib.Core.Logic.{◌≢◌}
use Prim.Native.Nat.{ℕ, ◌+◌, ◌-◌, ◌≤◌, ◌<◌}
use native.Mathlib.Decide.{ℕ_discrete}
use native.Mathlib.Omega.{arith}
use lib.Dec.{eqb, ltb}
use borrow.Author.Tests.{eqb-true, eq-eqb, lt-ltb, le-leb, leb-true, ltb-true}
use Rattle.laws_words.specs.Words.{pick}
use Rattle.laws_words.specs.Tests.{by_cases, clash, all-at}
use Rattle.rules_base.specs.Limits.{version_top}
use Rattle.rules_base.specs.Sets.{has, with, without, size}
use Rattle.rules_base.proofs.Sets.{has-none, same_set, without-lt, size-zero, size-with, size-without, size-some}
use Rattle.rules_pool.specs.declared.State.{State}
use Rattle.rules_pool.specs.declared.Session.{Session}
use Rattle.rules_pool.specs.declared.Roster.{Roster}
use Rattle.rules_pool.specs.Session.{is_free, is_normal, is_failed, is_reconnecting, is_removing, moved}
use Rattle.rules_pool.specs.declared.Kind.{Kind}
use Rattle.rules_pool.specs.Sessions.{session_at, stored, odd, ids_of}
use Rattle.rules_pool.specs.Changes.{more, numbered, unmarked, all_unmarked, entered}
use Rattle.rules_pool.specs.StateRules.{roster_rules, roster_ok}
use Rattle.laws_client.proofs.Ids.{Long, stored-long, stored_same, stored_other, unmarked-long, unmarked-at, ids-has, ids-lt, ids-none, none-ids, ids-same, ids-gain, ids-lose, without-same}

-- The state rules of the sessions as facts.
pub record Ok (ro : Roster) : Type 0 where
  pub long : Long ro
  pub count : ro.count ≡ pick ro.sync 0 (size (ids_of Kind.Normals ro))
  pub one-mark : size (ids_of Kind.Marked ro) ≤ 1
  pub no-mark : (eqb (ids_of Kind.Marked ro) 0 || eqb (ids_of Kind.Normals ro) 0) ≡ true
  pub low : 1 ≤ ro.version
  pub high : ro.version + ro.count ≤ version_top
  pub small : ro.members < 65536
  pub none : (not ro.sync || eqb ro.members 0) ≡ true
  pub even : (j : ℕ) → j < 16 → odd ro.sync ro.members j (session_at ro j) ≡ false

pub ok-facts : (ro : Roster) → Long ro → roster_ok ro ≡ true → Ok ro
unfolding roster_ok
ok-facts ro l e =
    record {
      long = l;
      count = eqb-true _ _ (all-at (roster_rules ro) 0 e);
      one-mark = leb-true _ _ (all-at (roster_rules ro) 1 e);
      no-mark = all-at (roster_rules ro) 2 e;
      low = leb-true _ _ (all-at (roster_rules ro) 3 e);
      high = leb-true _ _ (all-at (roster_rules ro) 4 e);
      small = ltb-true _ _ (all-at (roster_rules ro) 5 e);
      none = all-at (roster_rules ro) 6 e;
      even = ids-none Kind.Odd ro l (eqb-true _ _ (all-at (roster_rules ro) 7 e));
    }

pub ok_of : (ro : Roster) → Ok ro → roster_ok ro ≡ true
unfolding roster_ok
ok_of ro v =
    let q = none-ids Kind.Odd ro v.long v.even in
    simp (eq-eqb _ _ v.count, le-leb _ _ v.one-mark, v.no-mark, le-leb _ _ v.low, le-leb _ _ v.high, lt-ltb _ _ v.small, v.none, eq-eqb _ _ q)

-- ---- small laws

pub more-le : (n : ℕ) → (n ≤ more n) × (more n ≤ n + 1)
more-le n = at (ltb n version_top)
  where
    at : (b : Bool) → (n ≤ pick b (n + 1) n) × (pick b (n + 1) n ≤ n + 1)
    at true = (omega arith, omega arith)
    at false = (omega arith, omega arith)

-- a number below the top of the state rules has room to rise
pub below_top : (n : ℕ) → n < version_top → more n ≡ n + 1
below_top n h = rw (lt-ltb n version_top h) refl

-- taking an id out makes no set larger
pub size_less : (s id : ℕ) → s < 65536 → size (without s id) ≤ size s
size_less s id h = by_cases (has s id) (λ e. omega (arith, size-without s id e)) (λ e. rw (without-same s id h e) (omega arith))

pub without-none : (id : ℕ) → without 0 id ≡ 0
without-none id = without-same 0 id (omega arith) (has-none id)

or-true : (b : Bool) → (b || true) ≡ true
or-true true = refl
or-true false = refl

or_right : (a b : Bool) → a ≡ false → (a || b) ≡ true → b ≡ true
or_right a b e h = rw e at h

-- somebody NORMAL: no mark
pub marks-gone : (ro : Roster) → Ok ro → (id : ℕ) → id < 16 → is_normal (session_at ro id).state ≡ true → ids_of Kind.Marked ro ≡ 0
marks-gone ro v id h e =
    by_cases (eqb (ids_of Kind.Marked ro) 0) (λ z. eqb-true _ _ z)
    (λ z. let n = eqb-true _ _ (or_right (eqb (ids_of Kind.Marked ro) 0) (eqb (ids_of Kind.Normals ro) 0) z v.no-mark) in
    clash e (ids-none Kind.Normals ro v.long n id h))

-- the records of two rosters agree but at one id
abbrev pub Others : Roster → Roster → ℕ → Type 0
Others ro ro' id = (j : ℕ) → j ≢ id → session_at ro' j ≡ session_at ro j

-- ---- a session that is not NORMAL and does not become so, and gets no new mark

pub quiet_keeps : (ro : Roster) (id : ℕ) (s : Session) → Ok ro → id < 16
    → is_normal (session_at ro id).state ≡ false → is_normal s.state ≡ false → (s.mark ≡ true → (session_at ro id).mark ≡ true)
    → odd ro.sync ro.members id s ≡ false → Ok (stored ro id s)
quiet_keeps ro id s v h was is mark even =
    record {
      long = l';
      count = rw normals v.count;
      one-mark = marks.0;
      no-mark = rw normals marks.1;
      low = v.low;
      high = v.high;
      small = v.small;
      none = v.none;
      even = λ j hj. evens j hj (ℕ_discrete j id);
    }
  where
    ro' : Roster
    ro' = stored ro id s

    l' : Long (stored ro id s)
    l' = stored-long ro id s v.long

    here : session_at (stored ro id s) id ≡ s
    here = stored_same ro id s v.long h

    normals : ids_of Kind.Normals (stored ro id s) ≡ ids_of Kind.Normals ro
    normals = ids-same Kind.Normals Kind.Normals ro (stored ro id s) v.long l' (λ j hj. at j (ℕ_discrete j id))
      where
        at : (j : ℕ) → Dec (j ≡ id) → is_normal (session_at (stored ro id s) j).state ≡ is_normal (session_at ro j).state
        at j (yes p) = rw p (rw here (is ∙ sym was))
        at j (no p) = rw (stored_other ro id s j p) refl

    others : (j : ℕ) → j < 16 → j ≢ id → (session_at (stored ro id s) j).mark ≡ (session_at ro j).mark
    others j hj p = rw (stored_other ro id s j p) refl

    marks : (size (ids_of Kind.Marked (stored ro id s)) ≤ 1) × ((eqb (ids_of Kind.Marked (stored ro id s)) 0 || eqb (ids_of Kind.Normals ro) 0) ≡ true)
    marks = by_cases s.mark
        (λ e. let q : ids_of Kind.Marked (stored ro id s) ≡ ids_of Kind.Marked ro = ids-same Kind.Marked Kind.Marked ro (stored ro id s) v.long l' (λ j hj. same j hj e (ℕ_discrete j id)) in
        (rw q v.one-mark, rw q v.no-mark))
        (λ e. let q : ids_of Kind.Marked (stored ro id s) ≡ without (ids_of Kind.Marked ro) id = ids-lose Kind.Marked ro (stored ro id s) id v.long l' h others (rw here e) in (
          rw q (omega (arith, size_less (ids_of Kind.Marked ro) id (ids-lt Kind.Marked ro v.long), v.one-mark)),
          rw q (by_cases (eqb (ids_of Kind.Marked ro) 0)
              (λ z. rw (eqb-true (ids_of Kind.Marked ro) 0 z, without-none id) refl)
              (λ z. rw (or_right (eqb (ids_of Kind.Marked ro) 0) (eqb (ids_of Kind.Normals ro) 0) z v.no-mark) (or-true (eqb (without (ids_of Kind.Marked ro) id) 0)))),
        ))
      where
        same : (j : ℕ) → j < 16 → s.mark ≡ true → Dec (j ≡ id) → (session_at (stored ro id s) j).mark ≡ (session_at ro j).mark
        same j hj e (yes p) = rw p (rw here (e ∙ sym (mark e)))
        same j hj e (no p) = others j hj p

    evens : (j : ℕ) → j < 16 → Dec (j ≡ id) → odd ro.sync ro.members j (session_at (stored ro id s) j) ≡ false
    evens j hj (yes p) = rw p (rw here even)
    evens j hj (no p) = rw (stored_other ro id s j p) (v.even j hj)

-- ---- what the rule about one record says, by its parts
abbrev pub odd_by : Bool → Bool → State → Bool → Bool → Bool
odd_by sync member st maint mark =
    ((mark || maint) && not (is_failed st || is_reconnecting st))
    || ((sync && (mark || (maint || is_reconnecting st))) || (not sync && (not (is_free st || is_removing st) && not member)))

unmark-parts : (maint x sync r z : Bool) → (((true || maint) && x) || ((sync && (true || (maint || r))) || z)) ≡ false → ((maint && x) || ((sync && (maint || r)) || z)) ≡ false
unmark-parts maint true sync r z e = clash refl e
unmark-parts maint false true r z e = clash refl e
unmark-parts true false false r z e = e
unmark-parts false false false r z e = e

-- a mark that goes breaks no rule
pub unmark-even : (st : State) (sync member maint mark : Bool) → odd_by sync member st maint mark ≡ false → odd_by sync member st maint false ≡ false
unmark-even st sync member maint true e = unmark-parts maint (not (is_failed st || is_reconnecting st)) sync (is_reconnecting st) (not sync && (not (is_free st || is_removing st) && not member)) e
unmark-even st sync member maint false e = e

-- a record without mark and flag, in any state that its pool may have
plain-parts : (x sync r f member : Bool) → (sync && r) ≡ false → (sync || (f || member)) ≡ true → ((false && x) || ((sync && (false || (false || r))) || (not sync && (not f && not member)))) ≡ false
plain-parts x true r f member a b = rw a refl
plain-parts x false r true member a b = refl
plain-parts x false r false true a b = refl
plain-parts x false r false false a b = sym b

pub plain-even : (st : State) (sync member : Bool) → (sync && is_reconnecting st) ≡ false → (sync || ((is_free st || is_removing st) || member)) ≡ true → odd_by sync member st false false ≡ false
plain-even st sync member a b = plain-parts (not (is_failed st || is_reconnecting st)) sync (is_reconnecting st) (is_free st || is_removing st) member a b

-- the same rule where the pool's kind is known
even-as : (b : Bool) (ro : Roster) → ro.sync ≡ b → (j : ℕ) (s : Session) → odd b ro.members j s ≡ false → odd ro.sync ro.members j s ≡ false
even-as b ro e j s q = ap (λ (c : Bool). odd c ro.members j s) e ∙ q

even-at : (b : Bool) (ro : Roster) → ro.sync ≡ b → Ok ro → (j : ℕ) → j < 16 → odd b ro.members j (session_at ro j) ≡ false
even-at b ro e v j h = sym (ap (λ (c : Bool). odd c ro.members j (session_at ro j)) e) ∙ v.even j h

pub count-is : (ro : Roster) → Ok ro → ro.sync ≡ false → ro.count ≡ size (ids_of Kind.Normals ro)
count-is ro v e = v.count ∙ ap (λ (b : Bool). pick b 0 (size (ids_of Kind.Normals ro))) e

-- ---- a sync pool: no number or mark to settle

sync-mark : (st : State) (member maint mark : Bool) → odd_by true member st maint mark ≡ false → mark ≡ false
sync-mark st member maint true e = at (not (is_failed st || is_reconnecting st)) e
  where
    at : (x : Bool) → ((true && x) || ((true && (true || (maint || is_reconnecting st))) || false)) ≡ false → true ≡ false
    at true q = q
    at false q = q
sync-mark st member maint false e = refl

pub sync-keeps : (ro : Roster) (id : ℕ) (s : Session) → Ok ro → id < 16 → ro.sync ≡ true → odd true ro.members id s ≡ false → Ok (stored ro id s)
sync-keeps ro id s v h sync even =
    record {
      long = l';
      count = v.count ∙ (ap (λ (b : Bool). pick b 0 (size (ids_of Kind.Normals ro))) sync ∙ sym (ap (λ (b : Bool). pick b 0 (size (ids_of Kind.Normals (stored ro id s)))) sync));
      one-mark = rw (marks, size-zero) (omega arith);
      no-mark = rw marks refl;
      low = v.low;
      high = v.high;
      small = v.small;
      none = v.none;
      even = λ j hj. even-as true ro sync j (session_at (stored ro id s) j) (evens j hj (ℕ_discrete j id));
    }
  where
    l' : Long (stored ro id s)
    l' = stored-long ro id s v.long

    evens : (j : ℕ) → j < 16 → Dec (j ≡ id) → odd true ro.members j (session_at (stored ro id s) j) ≡ false
    evens j hj (yes p) = rw p (rw (stored_same ro id s v.long h) even)
    evens j hj (no p) = rw (stored_other ro id s j p) (even-at true ro sync v j hj)

    marks : ids_of Kind.Marked (stored ro id s) ≡ 0
    marks = none-ids Kind.Marked (stored ro id s) l' (λ j hj. sync-mark (session_at (stored ro id s) j).state (has ro.members j) (session_at (stored ro id s) j).maintenance (session_at (stored ro id s) j).mark (evens j hj (ℕ_discrete j id)))

-- ---- a session leaves NORMAL

size_none : (s : ℕ) → s < 65536 → size s ≡ 0 → s ≡ 0
size_none s h e = same_set s 0 h (omega arith) (λ j hj. by_cases (has s j) (λ z. let n = size-some s j z in absurd (let y : ⊥ = omega arith in y)) (λ z. z ∙ sym (has-none j)))

pub leave-keeps : (ro : Roster) (id : ℕ) (s : Session) (n v' : ℕ) → Ok ro → id < 16 → ro.sync ≡ false
    → is_normal (session_at ro id).state ≡ true → is_normal s.state ≡ false → (s.mark ≡ true → n ≡ 0)
    → odd false ro.members id s ≡ false → n + 1 ≡ ro.count → ro.version ≤ v' → v' ≤ ro.version + 1 → Ok (numbered (stored ro id s) n v')
leave-keeps ro id s n v' v h sync was is mark even less low high =
    record {
      long = l';
      count = (let q : n ≡ size (ids_of Kind.Normals (numbered (stored ro id s) n v')) = rw normals (omega (arith, count-is ro v sync, fewer)) in q) ∙ sym (ap (λ (b : Bool). pick b 0 (size (ids_of Kind.Normals (numbered (stored ro id s) n v')))) sync);
      one-mark = marks.0;
      no-mark = marks.1;
      low = omega (arith, v.low);
      high = omega (arith, v.high);
      small = v.small;
      none = v.none;
      even = λ j hj. even-as false ro sync j (session_at (stored ro id s) j) (evens j hj (ℕ_discrete j id));
    }
  where
    l' : Long (stored ro id s)
    l' = stored-long ro id s v.long

    here : session_at (stored ro id s) id ≡ s
    here = stored_same ro id s v.long h

    evens : (j : ℕ) → j < 16 → Dec (j ≡ id) → odd false ro.members j (session_at (stored ro id s) j) ≡ false
    evens j hj (yes p) = rw p (rw here even)
    evens j hj (no p) = rw (stored_other ro id s j p) (even-at false ro sync v j hj)

    normals : ids_of Kind.Normals (numbered (stored ro id s) n v') ≡ without (ids_of Kind.Normals ro) id
    normals = ids-lose Kind.Normals ro (numbered (stored ro id s) n v') id v.long l' h (λ j hj p. rw (stored_other ro id s j p) refl) (rw here is)

    fewer : size (ids_of Kind.Normals ro) ≡ size (without (ids_of Kind.Normals ro) id) + 1
    fewer = size-without (ids_of Kind.Normals ro) id (ids-has Kind.Normals ro v.long id h ∙ was)

    none_before : ids_of Kind.Marked ro ≡ 0
    none_before = marks-gone ro v id h was

    marks : (size (ids_of Kind.Marked (numbered (stored ro id s) n v')) ≤ 1) × ((eqb (ids_of Kind.Marked (numbered (stored ro id s) n v')) 0 || eqb (ids_of Kind.Normals (numbered (stored ro id s) n v')) 0) ≡ true)
    marks = by_cases s.mark
        (λ e. let q : ids_of Kind.Marked (numbered (stored ro id s) n v') ≡ with (ids_of Kind.Marked ro) id = ids-gain Kind.Marked ro (numbered (stored ro id s) n v') id v.long l' h (λ j hj p. rw (stored_other ro id s j p) refl) (rw here e) in
        let c = count-is ro v sync in
        let z : without (ids_of Kind.Normals ro) id ≡ 0 = size_none (without (ids_of Kind.Normals ro) id) (without-lt (ids_of Kind.Normals ro) id (ids-lt Kind.Normals ro v.long)) (omega (arith, c, fewer, mark e)) in
        (rw (q, none_before) (omega (arith, size-with 0 id h (has-none id), size-zero)), rw (normals, z) (or-true (eqb (ids_of Kind.Marked (numbered (stored ro id s) n v')) 0))))
        (λ e. let q : ids_of Kind.Marked (numbered (stored ro id s) n v') ≡ without (ids_of Kind.Marked ro) id = ids-lose Kind.Marked ro (numbered (stored ro id s) n v') id v.long l' h (λ j hj p. rw (stored_other ro id s j p) refl) (rw here e) in
        let z : ids_of Kind.Marked (numbered (stored ro id s) n v') ≡ 0 = q ∙ (ap (λ (m : ℕ). without m id) none_before ∙ without-none id) in
        (rw (z, size-zero) (omega arith), rw z refl))

-- ---- a session enters NORMAL

and-off : (b x : Bool) → x ≡ false → (b && x) ≡ false
and-off true x e = e
and-off false x e = refl

-- the roster after a session entered NORMAL
abbrev pub entered_plain : Roster → ℕ → Roster
entered_plain ro id = numbered (stored (all_unmarked ro) id (moved (session_at ro id) State.Normal)) (more ro.count) ro.version

pub entered-is : (ro : Roster) (id : ℕ) → ro.sync ≡ false → entered ro id ≡ entered_plain ro id
unfolding entered
entered-is ro id e = ap (λ (b : Bool). pick b (stored ro id (moved (session_at ro id) State.Normal)) (entered_plain ro id)) e

plain-keeps : (ro : Roster) (id : ℕ) → Ok ro → id < 16 → ro.sync ≡ false
    → is_normal (session_at ro id).state ≡ false → has ro.members id ≡ true → ro.version + ro.count < version_top → Ok (entered_plain ro id)
plain-keeps ro id v h sync was member room =
    record {
      long = l';
      count = (let q : more ro.count ≡ size (ids_of Kind.Normals new) = rw (normals, raised) (omega (arith, count-is ro v sync, more_by)) in q) ∙ sym (ap (λ (b : Bool). pick b 0 (size (ids_of Kind.Normals new))) sync);
      one-mark = rw (marks, size-zero) (omega arith);
      no-mark = rw marks refl;
      low = v.low;
      high = (let q : ro.version + more ro.count ≤ version_top = rw raised (omega (arith, room)) in q);
      small = v.small;
      none = v.none;
      even = λ j hj. even-as false ro sync j (session_at new j) (evens j hj (ℕ_discrete j id));
    }
  where
    s : Session
    s = moved (session_at ro id) State.Normal

    new : Roster
    new = numbered (stored (all_unmarked ro) id (moved (session_at ro id) State.Normal)) (more ro.count) ro.version

    raised : more ro.count ≡ ro.count + 1
    raised = below_top ro.count (omega (arith, room, v.low))

    l₁ : Long (all_unmarked ro)
    l₁ = unmarked-long ro v.long

    l' : Long new
    l' = stored-long (all_unmarked ro) id s l₁

    here : session_at new id ≡ s
    here = stored_same (all_unmarked ro) id s l₁ h

    other : (j : ℕ) → j ≢ id → session_at new j ≡ unmarked (session_at ro j)
    other j p = stored_other (all_unmarked ro) id s j p ∙ unmarked-at ro j

    normals : ids_of Kind.Normals new ≡ with (ids_of Kind.Normals ro) id
    normals = ids-gain Kind.Normals ro new id v.long l' h (λ j hj p. rw (other j p) refl) (rw here refl)

    more_by : size (with (ids_of Kind.Normals ro) id) ≡ size (ids_of Kind.Normals ro) + 1
    more_by = size-with (ids_of Kind.Normals ro) id h (ids-has Kind.Normals ro v.long id h ∙ was)

    marks : ids_of Kind.Marked new ≡ 0
    marks = none-ids Kind.Marked new l' (λ j hj. at j (ℕ_discrete j id))
      where
        at : (j : ℕ) → Dec (j ≡ id) → (session_at new j).mark ≡ false
        at j (yes p) = rw p (rw here (and-off (session_at ro id).mark false refl))
        at j (no p) = rw (other j p) refl

    evens : (j : ℕ) → j < 16 → Dec (j ≡ id) → odd false ro.members j (session_at new j) ≡ false
    evens j hj (yes p) = rw p (rw (here, and-off (session_at ro id).mark false refl, and-off (session_at ro id).maintenance false refl, member) refl)
    evens j hj (no p) = rw (other j p) (unmark-even (session_at ro j).state false (has ro.members j) (session_at ro j).maintenance (session_at ro j).mark (even-at false ro sync v j hj))

pub enter-keeps : (ro : Roster) (id : ℕ) → Ok ro → id < 16 → ro.sync ≡ false
    → is_normal (session_at ro id).state ≡ false → has ro.members id ≡ true → ro.version + ro.count < version_top → Ok (entered ro id)
enter-keeps ro id v h sync was member room = subst Ok (sym (entered-is ro id sync)) (plain-keeps ro id v h sync was member room)
