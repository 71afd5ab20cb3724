-- What a test of the rules tells, in the words of the statements.
use mathlib.Core.Path.{◌≡◌, refl, sym, ap, ◌∙◌}
use mathlib.Core.Logic.{◌≢◌, ◌⊎◌, inl, inr}
use mathlib.Core.Bool.{Bool, true, false, not, ◌&&◌, ◌||◌}
use mathlib.Core.List.{List}
use Prim.Native.Nat.{ℕ, ◌<◌, ◌≤◌}
use native.Mathlib.Decide.{ℕ_discrete}
use native.Mathlib.Omega.{arith}
use lib.Dec.{eqb, ltb}
use borrow.Author.Tests.{eqb-true, eqb-false, eq-eqb, ltb-true, ltb-false, le-ltb, lt-ltb, not-true, not-false}
use Rattle.laws_words.specs.Tests.{clash, and_left, and_right, and_both}
use Rattle.rules_base.specs.Sets.{has, lowest}
use Rattle.rules_base.proofs.Sets.{has-below, lowest-in, lowest-le, empty-set}
use Rattle.rules_base.specs.Chunk.{dirty}
use Rattle.rules_base.specs.Map.{sound}
use Rattle.rules_base.proofs.Sound.{sound-fact, sound-test, sound-byte, sound-past, sound-of-chunks}
use Rattle.rules_base.proofs.Maps.{sound-length}
use Rattle.rules_pool.specs.declared.Cause.{Cause}
use Rattle.rules_pool.specs.declared.Mode.{Mode}
use Rattle.rules_pool.specs.declared.State.{State}
use Rattle.rules_pool.specs.declared.Roster.{Roster}
use Rattle.rules_pool.specs.declared.Stage.{Stage}
use Rattle.rules_pool.specs.declared.Job.{Job}
use Rattle.rules_pool.specs.declared.Pool.{Pool}
use Rattle.rules_pool.specs.declared.Kind.{Kind}
use Rattle.rules_pool.specs.Session.{is_free, is_created, is_normal, is_failed, is_cut, is_reconnecting, is_removing}
use Rattle.rules_pool.specs.Sessions.{session_at, ids_of}
use Rattle.rules_pool.specs.Jobs.{is_idle, is_running, is_peer, peer_at}
use Rattle.laws_client.proofs.Ids.{Long, below, kind_at, ids-has, ids-lt, ids-none}
use Rattle.rules_client.specs.Remove.{other_mode}
use Rattle.theorem_client_exact.specs.Words.{SoundMap, Normal, SomeNormal, AwaitedPeer, SomeUnused}

-- a test holds exactly where this does
pub record Tells (b : Bool) (h : Type 0) : Type 0 where
  pub true-then : b ≡ true → h
  pub then-true : h → b ≡ true

-- a test refuses exactly where this does not hold
pub record Fits (b : Bool) (h : Type 0) : Type 0 where
  pub holds : b ≡ false → h
  pub breaks : b ≡ true → ¬ h

-- ---- how they go together

pub itself : (b : Bool) → Tells b (b ≡ true)
itself b = record { true-then = λ e. e; then-true = λ e. e }

pub wants : {b : Bool} {h : Type 0} → Tells b h → Fits (not b) h
wants {b} t = record { holds = λ e. t.true-then (not-false b e); breaks = λ e h. clash (t.then-true h) (not-true b e) }

pub shuns : {b : Bool} {h : Type 0} → Tells b h → Fits b (¬ h)
shuns t = record { holds = λ e h. clash (t.then-true h) e; breaks = λ e n. n (t.true-then e) }

pub shuns-off : (b : Bool) → Fits b (b ≡ false)
shuns-off b = record { holds = λ e. e; breaks = λ e h. clash e h }

-- the other way round
pub tells-not : {b : Bool} {h : Type 0} → Tells b h → Tells (not b) (¬ h)
tells-not {b} {h} t = record { true-then = λ e h. clash (t.then-true h) (not-true b e); then-true = λ n. at b refl n }
  where
    at : (x : Bool) → b ≡ x → (¬ h) → not x ≡ true
    at true e n = absurd (n (t.true-then e))
    at false e n = refl

pub off : (b : Bool) → Tells (not b) (b ≡ false)
off b = record { true-then = not-true b; then-true = λ e. ap not e }

or-one : (a b : Bool) → (a || b) ≡ true → (a ≡ true) ⊎ (b ≡ true)
or-one true b e = inl refl
or-one false b e = inr e

or_left : (a b : Bool) → a ≡ true → (a || b) ≡ true
or_left a b e = rw e refl

or_right : (a b : Bool) → b ≡ true → (a || b) ≡ true
or_right true b e = refl
or_right false b e = e

or_off : (a b : Bool) → (a || b) ≡ false → (a ≡ false) × (b ≡ false)
or_off true b e = clash refl e
or_off false b e = (refl, e)

pub tells-or : {a b : Bool} {h k : Type 0} → Tells a h → Tells b k → Tells (a || b) (h ⊎ k)
tells-or {a} {b} {h} {k} s t = record { true-then = λ e. to (or-one a b e); then-true = from }
  where
    to : (a ≡ true) ⊎ (b ≡ true) → h ⊎ k
    to (inl e) = inl (s.true-then e)
    to (inr e) = inr (t.true-then e)

    from : h ⊎ k → (a || b) ≡ true
    from (inl x) = or_left a b (s.then-true x)
    from (inr x) = or_right a b (t.then-true x)

pub tells-and : {a b : Bool} {h k : Type 0} → Tells a h → Tells b k → Tells (a && b) (h × k)
tells-and {a} {b} s t = record { true-then = λ e. (s.true-then (and_left a b e), t.true-then (and_right a b e)); then-true = λ x. and_both (s.then-true x.0) (t.then-true x.1) }

-- both are refused by one number
pub fits_or : {a b : Bool} {h k : Type 0} → Fits a h → Fits b k → Fits (a || b) (h × k)
fits_or {a} {b} {h} {k} s t = record { holds = λ e. (s.holds (or_off a b e).0, t.holds (or_off a b e).1); breaks = λ e x. no (or-one a b e) x }
  where
    no : (a ≡ true) ⊎ (b ≡ true) → (h × k) → ⊥
    no (inl e) x = s.breaks e x.0
    no (inr e) x = t.breaks e x.1

-- asked only where the first holds
pub fits-then : {a b : Bool} {h k : Type 0} → Tells a h → Fits b k → Fits (a && b) (h → k)
fits-then {a} {b} s t = record { holds = λ e x. t.holds (second a b (s.then-true x) e); breaks = λ e f. t.breaks (and_right a b e) (f (s.true-then (and_left a b e))) }
  where
    second : (a b : Bool) → a ≡ true → (a && b) ≡ false → b ≡ false
    second true b q e = e
    second false b q e = clash q refl

-- ---- numbers

pub at_most : (n x : ℕ) → Fits (ltb n x) (x ≤ n)
at_most n x = record { holds = ltb-false n x; breaks = λ e h. clash e (le-ltb n x h) }

pub below-is : (x n : ℕ) → Tells (ltb x n) (x < n)
below-is x n = record { true-then = ltb-true x n; then-true = lt-ltb x n }

pub equal_is : (a b : ℕ) → Tells (eqb a b) (a ≡ b)
equal_is a b = record { true-then = eqb-true a b; then-true = eq-eqb a b }

-- ---- states

pub free-is : (st : State) → Tells (is_free st) (st ≡ State.Free)
free-is st = record { true-then = at st; then-true = λ e. ap is_free e }
  where
    at : (s : State) → is_free s ≡ true → s ≡ State.Free
    at State.Free e = refl
    at State.Created e = clash e refl
    at State.Normal e = clash e refl
    at (State.Failed cause) e = clash e refl
    at State.Reconnecting e = clash e refl
    at (State.Removing m owed) e = clash e refl

pub created-is : (st : State) → Tells (is_created st) (st ≡ State.Created)
created-is st = record { true-then = at st; then-true = λ e. ap is_created e }
  where
    at : (s : State) → is_created s ≡ true → s ≡ State.Created
    at State.Free e = clash e refl
    at State.Created e = refl
    at State.Normal e = clash e refl
    at (State.Failed cause) e = clash e refl
    at State.Reconnecting e = clash e refl
    at (State.Removing m owed) e = clash e refl

pub normal-is : (st : State) → Tells (is_normal st) (st ≡ State.Normal)
normal-is st = record { true-then = at st; then-true = λ e. ap is_normal e }
  where
    at : (s : State) → is_normal s ≡ true → s ≡ State.Normal
    at State.Free e = clash e refl
    at State.Created e = clash e refl
    at State.Normal e = refl
    at (State.Failed cause) e = clash e refl
    at State.Reconnecting e = clash e refl
    at (State.Removing m owed) e = clash e refl

pub reconnecting-is : (st : State) → Tells (is_reconnecting st) (st ≡ State.Reconnecting)
reconnecting-is st = record { true-then = at st; then-true = λ e. ap is_reconnecting e }
  where
    at : (s : State) → is_reconnecting s ≡ true → s ≡ State.Reconnecting
    at State.Free e = clash e refl
    at State.Created e = clash e refl
    at State.Normal e = clash e refl
    at (State.Failed cause) e = clash e refl
    at State.Reconnecting e = refl
    at (State.Removing m owed) e = clash e refl

pub cut-is : (st : State) → Tells (is_cut st) (st ≡ State.Failed Cause.Link)
cut-is st = record { true-then = at st; then-true = λ e. ap is_cut e }
  where
    at : (s : State) → is_cut s ≡ true → s ≡ State.Failed Cause.Link
    at State.Free e = clash e refl
    at State.Created e = clash e refl
    at State.Normal e = clash e refl
    at (State.Failed Cause.Link) e = refl
    at (State.Failed Cause.Io) e = clash e refl
    at State.Reconnecting e = clash e refl
    at (State.Removing m owed) e = clash e refl

pub failed-is : (st : State) → Tells (is_failed st) ((st ≡ State.Failed Cause.Link) ⊎ (st ≡ State.Failed Cause.Io))
failed-is st = record { true-then = at st; then-true = back }
  where
    at : (s : State) → is_failed s ≡ true → (s ≡ State.Failed Cause.Link) ⊎ (s ≡ State.Failed Cause.Io)
    at State.Free e = clash e refl
    at State.Created e = clash e refl
    at State.Normal e = clash e refl
    at (State.Failed Cause.Link) e = inl refl
    at (State.Failed Cause.Io) e = inr refl
    at State.Reconnecting e = clash e refl
    at (State.Removing m owed) e = clash e refl

    back : (st ≡ State.Failed Cause.Link) ⊎ (st ≡ State.Failed Cause.Io) → is_failed st ≡ true
    back (inl e) = ap is_failed e
    back (inr e) = ap is_failed e

-- REMOVING in this mode; in either
abbrev In : Mode → State → Type 0
In mode st = (st ≡ State.Removing mode true) ⊎ (st ≡ State.Removing mode false)

pub removing-is : (st : State) → Tells (is_removing st) (In Mode.Delete st ⊎ In Mode.Disassemble st)
removing-is st = record { true-then = at st; then-true = back }
  where
    at : (s : State) → is_removing s ≡ true → In Mode.Delete s ⊎ In Mode.Disassemble s
    at State.Free e = clash e refl
    at State.Created e = clash e refl
    at State.Normal e = clash e refl
    at (State.Failed cause) e = clash e refl
    at State.Reconnecting e = clash e refl
    at (State.Removing Mode.Delete true) e = inl (inl refl)
    at (State.Removing Mode.Delete false) e = inl (inr refl)
    at (State.Removing Mode.Disassemble true) e = inr (inl refl)
    at (State.Removing Mode.Disassemble false) e = inr (inr refl)

    back : In Mode.Delete st ⊎ In Mode.Disassemble st → is_removing st ≡ true
    back (inl (inl e)) = ap is_removing e
    back (inl (inr e)) = ap is_removing e
    back (inr (inl e)) = ap is_removing e
    back (inr (inr e)) = ap is_removing e

-- a repeat in the same mode
pub one-mode : (st : State) (mode : Mode) → Fits (other_mode st mode) (In Mode.Delete st ⊎ In Mode.Disassemble st → In mode st)
one-mode st mode = record { holds = at st mode; breaks = no st mode }
  where
    at : (s : State) (m : Mode) → other_mode s m ≡ false → In Mode.Delete s ⊎ In Mode.Disassemble s → In m s
    at s Mode.Delete e (inl x) = x
    at s Mode.Delete e (inr (inl q)) = clash refl (ap (λ (t : State). other_mode t Mode.Delete) (sym q) ∙ e)
    at s Mode.Delete e (inr (inr q)) = clash refl (ap (λ (t : State). other_mode t Mode.Delete) (sym q) ∙ e)
    at s Mode.Disassemble e (inl (inl q)) = clash refl (ap (λ (t : State). other_mode t Mode.Disassemble) (sym q) ∙ e)
    at s Mode.Disassemble e (inl (inr q)) = clash refl (ap (λ (t : State). other_mode t Mode.Disassemble) (sym q) ∙ e)
    at s Mode.Disassemble e (inr x) = x

    -- in the other mode
    differs : (m : Mode) (s : State) → other_mode s m ≡ true → ¬ (In m s)
    differs Mode.Delete s e (inl q) = clash e (ap (λ (t : State). other_mode t Mode.Delete) q)
    differs Mode.Delete s e (inr q) = clash e (ap (λ (t : State). other_mode t Mode.Delete) q)
    differs Mode.Disassemble s e (inl q) = clash e (ap (λ (t : State). other_mode t Mode.Disassemble) q)
    differs Mode.Disassemble s e (inr q) = clash e (ap (λ (t : State). other_mode t Mode.Disassemble) q)

    is : (s : State) (m : Mode) → other_mode s m ≡ true → In Mode.Delete s ⊎ In Mode.Disassemble s
    is State.Free Mode.Delete e = clash e refl
    is State.Free Mode.Disassemble e = clash e refl
    is State.Created Mode.Delete e = clash e refl
    is State.Created Mode.Disassemble e = clash e refl
    is State.Normal Mode.Delete e = clash e refl
    is State.Normal Mode.Disassemble e = clash e refl
    is (State.Failed cause) Mode.Delete e = clash e refl
    is (State.Failed cause) Mode.Disassemble e = clash e refl
    is State.Reconnecting Mode.Delete e = clash e refl
    is State.Reconnecting Mode.Disassemble e = clash e refl
    is (State.Removing Mode.Delete true) m e = inl (inl refl)
    is (State.Removing Mode.Delete false) m e = inl (inr refl)
    is (State.Removing Mode.Disassemble true) m e = inr (inl refl)
    is (State.Removing Mode.Disassemble false) m e = inr (inr refl)

    no : (s : State) (m : Mode) → other_mode s m ≡ true → ¬ (In Mode.Delete s ⊎ In Mode.Disassemble s → In m s)
    no s m e f = differs m s e (f (is s m e))

-- ---- jobs

pub idle-is : (j : Job) → Tells (is_idle j) (j ≡ Job.Idle)
idle-is j = record { true-then = at j; then-true = λ e. ap is_idle e }
  where
    at : (j : Job) → is_idle j ≡ true → j ≡ Job.Idle
    at Job.Idle e = refl
    at (Job.Running r) e = clash e refl
    at (Job.Removing m) e = clash e refl

pub no_run : (j : Job) → Fits (is_running j) ((r : _) → j ≢ Job.Running r)
no_run j = record { holds = λ e r q. clash (ap is_running q) e; breaks = at j }
  where
    at : (j : Job) → is_running j ≡ true → ¬ ((r : _) → j ≢ Job.Running r)
    at Job.Idle e = clash e refl
    at (Job.Running r) e = λ f. f r refl
    at (Job.Removing m) e = clash e refl

pub peer-is : (id : ℕ) (j : Job) → Tells (is_peer j id) (AwaitedPeer id j)
peer-is id j = record { true-then = at j; then-true = back j }
  where
    of-stage : (st : Stage) (i : ℕ) → eqb (peer_at st i) id ≡ true → AwaitedPeer id (Job.Removing (record { id = i; stage = st }))
    of-stage Stage.Leave i e = rw (eqb-true i id e) AwaitedPeer.leaves
    of-stage (Stage.Info peer) i e = rw (eqb-true peer id e) (AwaitedPeer.informed i)

    at : (j : Job) → is_peer j id ≡ true → AwaitedPeer id j
    at Job.Idle e = clash e refl
    at (Job.Running r) e = clash e refl
    at (Job.Removing m) e = of-stage m.stage m.id e

    back : (j : Job) → AwaitedPeer id j → is_peer j id ≡ true
    back _ AwaitedPeer.leaves = eq-eqb id id refl
    back _ (AwaitedPeer.informed removed) = eq-eqb id id refl

-- ---- maps

pub sound-is : (n : ℕ) (xs : List ℕ) → Tells (sound n xs) (SoundMap n xs)
sound-is n xs =
    record {
      true-then = λ e. let s = sound-fact n xs e in record { long = sound-length n xs e; bytes = sound-byte n xs s; clean = sound-past n xs s };
      then-true = λ s. sound-test n xs (sound-of-chunks n xs s.long s.bytes s.clean);
    }

pub dirty-is : (xs : List ℕ) (m k : ℕ) → Tells (eqb (dirty xs m k) 1) (dirty xs m k ≡ 1)
dirty-is xs m k = equal_is (dirty xs m k) 1

-- ---- sets read off the sessions

-- somebody of a kind
pub record Some (k : Kind) (ro : Roster) : Type 0 where
  pub who : ℕ
  pub below : who < 16
  pub is : kind_at k ro who (session_at ro who) ≡ true

pub some_of : (k : Kind) (ro : Roster) → Long ro → eqb (ids_of k ro) 0 ≡ false → Some k ro
some_of k ro l e = at (ℕ_discrete (lowest (ids_of k ro)) 16)
  where
    at : Dec (lowest (ids_of k ro) ≡ 16) → Some k ro
    at (yes q) = absurd (eqb-false (ids_of k ro) 0 e (empty-set (ids_of k ro) (ids-lt k ro l) q))
    at (no d) =
        let h : lowest (ids_of k ro) < 16 = omega (arith, lowest-le (ids_of k ro), d) in
        record { who = lowest (ids_of k ro); below = h; is = sym (ids-has k ro l (lowest (ids_of k ro)) h) ∙ lowest-in (ids_of k ro) h }

pub none_of : (k : Kind) (ro : Roster) → Long ro → eqb (ids_of k ro) 0 ≡ true → ¬ (Some k ro)
none_of k ro l e s = clash s.is (ids-none k ro l (eqb-true (ids_of k ro) 0 e) s.who s.below)

pub some_is : (k : Kind) (ro : Roster) → Long ro → Fits (eqb (ids_of k ro) 0) (Some k ro)
some_is k ro l = record { holds = some_of k ro l; breaks = none_of k ro l }

-- said in other words
pub said-so : {b : Bool} {h k : Type 0} → Fits b h → (h → k) → (k → h) → Fits b k
said-so f to from = record { holds = λ e. to (f.holds e); breaks = λ e x. f.breaks e (from x) }

normal-below : (ro : Roster) (id : ℕ) → Long ro → (session_at ro id).state ≡ State.Normal → id < 16
normal-below ro id l e = below (λ s. is_normal s.state) ro id l refl (ap is_normal e)

pub some-normal : (p : Pool) → Long p.roster → Fits (eqb (ids_of Kind.Normals p.roster) 0) (SomeNormal p)
some-normal p l =
    said-so (some_is Kind.Normals p.roster l)
    (λ s. record { who = s.who; normal = (normal-is (session_at p.roster s.who).state).true-then s.is })
    (λ n. record { who = n.who; below = normal-below p.roster n.who l n.normal; is = ap is_normal n.normal })

pub all-normal : (p : Pool) (reached : ℕ) → Long p.roster → Fits (not (eqb (ids_of (Kind.Abnormal reached) p.roster) 0)) ((id : ℕ) → has reached id ≡ true → Normal p id)
all-normal p reached l = record { holds = λ e. fine (not-false _ e); breaks = λ e f. bad (not-true _ e) f }
  where
    ro : Roster
    ro = p.roster

    fine : eqb (ids_of (Kind.Abnormal reached) p.roster) 0 ≡ true → (id : ℕ) → has reached id ≡ true → Normal p id
    fine e id h =
        let n = ids-none (Kind.Abnormal reached) p.roster l (eqb-true _ 0 e) id (has-below reached id h) in
        (normal-is (session_at p.roster id).state).true-then (at (is_normal (session_at p.roster id).state) (rw h at n))
      where
        at : (b : Bool) → not b ≡ false → b ≡ true
        at true q = refl
        at false q = sym q

    bad : eqb (ids_of (Kind.Abnormal reached) p.roster) 0 ≡ false → ¬ ((id : ℕ) → has reached id ≡ true → Normal p id)
    bad e f =
        let s = some_of (Kind.Abnormal reached) p.roster l e in
        clash (ap is_normal (f s.who (and_left (has reached s.who) _ s.is))) (not-true _ (and_right (has reached s.who) _ s.is))

pub some-unused : (p : Pool) → Long p.roster → Fits (eqb (ids_of Kind.Unused p.roster) 0) (SomeUnused p)
some-unused p l =
    said-so (some_is Kind.Unused p.roster l)
    (λ s. record {
      who = s.who;
      unused = record {
        below = omega (arith, s.below);
        member = λ h. clash h (not-true _ (and_right (is_free (session_at p.roster s.who).state) _ s.is));
        held = (free-is (session_at p.roster s.who).state).true-then (and_left (is_free (session_at p.roster s.who).state) _ s.is);
      };
    })
    (λ u. record {
      who = u.who;
      below = omega (arith, u.unused.below);
      is = and_both (ap is_free u.unused.held) ((tells-not (itself (has p.roster.members u.who))).then-true u.unused.member);
    })
