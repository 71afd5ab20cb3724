-- The leg that extend adds, with honest nodes.
use Rattle.std.specs.Prelude.{Some, None}
use mathlib.Core.Path.{◌≡◌, refl, sym, ap, ◌∙◌, subst}
use mathlib.Core.Logic.{◌≢◌}
use mathlib.Core.Bool.{Bool, true, false, not, ◌||◌}
use mathlib.Core.List.{List}
use Prim.Native.Nat.{ℕ, ◌+◌, ◌*◌, ◌/◌, ◌≤◌, ◌<◌}
use native.Mathlib.Decide.{ℕ_discrete, dec_lt}
use native.Mathlib.Omega.{arith}
use lib.Dec.{eqb, ltb}
use borrow.Author.Tests.{eqb-false, ne_eqb, le-ltb}
use Rattle.laws_words.specs.Words.{pick}
use Rattle.laws_words.specs.Tests.{clash, by_cases, and_both}
use Rattle.rules_base.specs.Limits.{version_limit, version_top}
use Rattle.rules_base.specs.Sets.{has, size, lowest}
use Rattle.rules_base.proofs.Sets.{has-none, has-below, has-with-same, lowest-in, lowest-le, empty-set}
use Rattle.rules_base.specs.Chunk.{dirty, byte_of}
use Rattle.rules_pool.specs.declared.State.{State}
use Rattle.rules_pool.specs.declared.Step.{Step}
use Rattle.rules_pool.specs.declared.Phase.{Phase}
use Rattle.rules_pool.specs.declared.Run.{Run}
use Rattle.rules_pool.specs.declared.Session.{Session}
use Rattle.rules_pool.specs.declared.Roster.{Roster}
use Rattle.rules_pool.specs.declared.Job.{Job}
use Rattle.rules_pool.specs.declared.Pool.{Pool}
use Rattle.rules_pool.specs.declared.Told.{Told}
use Rattle.rules_pool.specs.Session.{is_free, is_normal, is_told, candidate, new_session}
use Rattle.rules_pool.specs.declared.Kind.{Kind}
use Rattle.rules_pool.specs.Sessions.{session_at, ids_of}
use Rattle.rules_pool.specs.Jobs.{is_idle, is_running}
use Rattle.rules_pool.specs.Cases.{start, case2, case3, case_of, begun}
use Rattle.laws_client.proofs.Ids.{Long, stored-long, ids-has, ids-lt, ids-same}
use Rattle.laws_client.proofs.Pools.{Valid}
use Rattle.laws_client.proofs.Runs.{candidate-normal}
use Rattle.rules_client.specs.Extend.{picked, extend_refusal, extended, extend_done, extend}
use Rattle.laws_client.proofs.ExtendingKept.{Extends, Picks, picks, extend-passed, extended-at, extended-other, extended-numbers}
use Rattle.rules_pool.specs.Breaking.{is_accepted}
use Rattle.rules_client.specs.Client.{sound_for, extend_turn}
use Rattle.rules_client.specs.Events.{Event, turn_of, next, job_of, state_of}
use Rattle.rules_client.specs.Events as events
use Rattle.theorem_client.specs.Reading as events_read
use Rattle.theorem_client.specs.Said.{Accepts, version_of, begins, Extended}
use Rattle.theorem_client.specs.Demand2.{Reached}
use Rattle.theorem_client.proofs.Adds.{extend-said}
use Rattle.theorem_client.proofs.Shape.{taken}
use Rattle.theorem_client.proofs.Extends.{added-roster}
use Rattle.theorem_client.proofs.Demand2.{reached-valid}
use Rattle.theorem_bounds.specs.Demand3.{most}
use Rattle.theorem_bounds.specs.Demand3 as bounds
use Rattle.rules_world.specs.Station.{Station}
use Rattle.rules_world.specs.Together.{World, exchanges}
use Rattle.rules_node.specs.Cuts.{Cuts}
use Rattle.theorem_honest.specs.Demand.{Able, Copied, Case1}
use Rattle.theorem_recovery.specs.Demand.{Leaves, normals, candidates, HonestNodes, Exact}
use Rattle.theorem_recovery.proofs.Demand.{demand-3}
use Rattle.theorem_recovery.specs.Added.{told_in, informed_at, filled_at, arrived, told_by, Full, FullOnNormals, pool_of, HonestBefore, Ends, LegAdded}
use Rattle.theorem_recovery.proofs.Messages.{able-informed, knows, able-filled, full-filled}

-- ---- an accepted extend

may-extend : (c : Pool) (xs : List ℕ) → is_accepted (turn_of (Event.extend xs) c).answer ≡ true → Extends c
unfolding extend extend_turn
may-extend c xs =
    taken (λ t. Extends c) (extend_refusal c (sound_for c xs)) (extend_done c (picked c.roster)) c
    (λ e. extend-passed c (sound_for c xs) e)

after-extend : (c : Pool) (xs : List ℕ) → is_accepted (turn_of (Event.extend xs) c).answer ≡ true → (next (Event.extend xs) c).roster ≡ extended c.roster (events_read.picks c)
unfolding extend extend_turn
after-extend c xs =
    taken (λ t. t.pool.roster ≡ extended c.roster (picked c.roster)) (extend_refusal c (sound_for c xs)) (extend_done c (picked c.roster)) c
    (λ e. added-roster c)

long-extended : (ro : Roster) (id : ℕ) → Long ro → Long (extended ro id)
unfolding extended
long-extended ro id l = stored-long ro id (new_session State.Reconnecting) l

idle-job : (j : Job) → is_idle j ≡ true → j ≡ Job.Idle
idle-job Job.Idle e = refl
idle-job (Job.Running r) e = clash e refl
idle-job (Job.Removing m) e = clash e refl

-- case 1 begins where some session is NORMAL and a candidate exists
case-one-of : (normals candidates marked strays members : ℕ) → eqb normals 0 ≡ false → eqb candidates 0 ≡ false
    → case_of normals candidates marked strays members ≡ Some (record { phase = Phase.Spread Step.Ready; source = lowest normals; left = candidates; taken = 0 })
unfolding case_of
case-one-of normals candidates marked strays members = at (eqb normals 0) (eqb candidates 0)
  where
    at : (a b : Bool) → a ≡ false → b ≡ false
        → pick (not a) (pick b None (start (Phase.Spread Step.Ready) (lowest normals) candidates)) (pick (not (eqb marked 0)) (case2 marked candidates) (case3 members strays))
        ≡ Some (record { phase = Phase.Spread Step.Ready; source = lowest normals; left = candidates; taken = 0 })
    at false false e f = refl
    at false true e f = clash refl f
    at true b e f = clash refl e

begun-one : (ro : Roster) → ro.version ≤ version_limit → ids_of Kind.Normals ro ≢ 0 → ids_of Kind.Candidates ro ≢ 0
    → begun ro ≡ Some (record { phase = Phase.Spread Step.Ready; source = lowest (ids_of Kind.Normals ro); left = ids_of Kind.Candidates ro; taken = 0 })
unfolding begun
begun-one ro low n m = at (ltb version_limit ro.version) (le-ltb version_limit ro.version low)
  where
    at : (b : Bool) → b ≡ false
        → pick b None (case_of (ids_of Kind.Normals ro) (ids_of Kind.Candidates ro) (ids_of Kind.Marked ro) (ids_of (Kind.Strays ro.members) ro) ro.members)
        ≡ Some (record { phase = Phase.Spread Step.Ready; source = lowest (ids_of Kind.Normals ro); left = ids_of Kind.Candidates ro; taken = 0 })
    at false e = case-one-of (ids_of Kind.Normals ro) (ids_of Kind.Candidates ro) _ _ _ (ne_eqb (ids_of Kind.Normals ro) 0 n) (ne_eqb (ids_of Kind.Candidates ro) 0 m)
    at true e = clash refl e

-- a chunk of a copied map is the source's
copied-bit : (p : Pool) (source j : ℕ) (w : World) (n : ℕ) → Copied p source j w → j < 16 → has p.roster.members j ≡ true → n < 4096 → dirty (w.nodes j).map j n ≡ dirty (w.nodes source).map j n
unfolding dirty byte_of
copied-bit p source j w n e l m h =
    let q : (512 * j + n / 8) / 512 ≡ j = omega (arith, h) in
    rw (e.equal (512 * j + n / 8) (omega (arith, l, h)) (rw q m)) refl

-- ---- the messages

-- the version lets a fill be taken
version-top : (c : Pool) → Valid c → version_of c ≤ version_top
version-top c v = omega (arith, v.ok.high)

-- what extend told, and to whom it went
told_is : (c : Pool) (xs : List ℕ) (h : Extended c xs (Event.extend xs)) → told_by c xs ≡ Told.Extended h.told h.fills h.id (version_of c)
told_is c xs h = ap told_in h.answer ∙ h.messages

-- a NORMAL node gets both messages; one that is told gets the first; any other gets none
normal-told : (st : State) → is_normal st ≡ true → is_told st ≡ true
normal-told State.Free e = clash e refl
normal-told State.Created e = refl
normal-told State.Normal e = refl
normal-told (State.Failed cause) e = clash e refl
normal-told State.Reconnecting e = refl
normal-told (State.Removing m owed) e = clash e refl

free-state : (st : State) → is_free st ≡ true → (is_normal st ≡ false) × (is_told st ≡ false)
free-state State.Free e = (refl, refl)
free-state State.Created e = clash e refl
free-state State.Normal e = clash e refl
free-state (State.Failed cause) e = clash e refl
free-state State.Reconnecting e = clash e refl
free-state (State.Removing m owed) e = clash e refl

-- the member of another id is honest after POOL_INFO
able-told : (n j others member : ℕ) (s : Station) → Able n j s → j < 16 → member < 16 → (has others j ≡ true → member ≢ j) → Able n j (informed_at others member j s)
able-told n j others member s a h m d = by_cases (has others j) (λ e. rw e (able-informed n j member s a h m (d e))) (λ e. rw e a)

able-arrived : (n j others normals member version : ℕ) (s : Station) → Able n j s → j < 16 → member < 16 → (has others j ≡ true → member ≢ j) → (has normals j ≡ true → has others j ≡ true) → version ≤ version_top
    → Able n j (filled_at normals member version j (informed_at others member j s))
able-arrived n j others normals member version s a h m d both v =
    by_cases (has normals j)
    (λ e. let o = both e in
    rw (e, o) (able-filled n j member version _ (able-informed n j member s a h m (d o)) h m (knows n j member s a h m (d o)) v))
    (λ e. rw e (able-told n j others member s a h m d))

full-arrived : (n j others normals member version : ℕ) (s : Station) → Able n j s → j < 16 → member < 16 → member ≢ j → has normals j ≡ true → has others j ≡ true → version ≤ version_top → n ≤ 4096
    → Full n member (filled_at normals member version j (informed_at others member j s)).map
full-arrived n j others normals member version s a h m d e o v few =
    rw (e, o) (full-filled n j member version _ (able-informed n j member s a h m d) h m (knows n j member s a h m d) v few)

-- ---- where they go

module _ (c : Pool) (xs : List ℕ) (a : Accepts c (Event.extend xs)) where
  v : Valid c
  v = reached-valid c a.reached

  h : Extended c xs (Event.extend xs)
  h = extend-said c xs (reached-valid c a.reached) a.done

  may : Extends c
  may = may-extend c xs a.done

  k : Picks c.roster (events_read.picks c)
  k = picks c.roster (reached-valid c a.reached).ok.long may.some

  -- the id is the one picked
  same_id : h.id ≡ events_read.picks c
  same_id = elim (dec_lt h.id (events_read.picks c)) [
    | yes l ↦ clash h.unused (k.lowest h.id l)
    | no g ↦ elim (dec_lt (events_read.picks c) h.id) [
      | yes l ↦ clash (and_both k.free (ap not k.outside)) (h.lowest (events_read.picks c) l)
      | no d ↦ let z : h.id ≡ events_read.picks c = omega (arith, g, d) in z
    ]
  ]

  other-told : (j : ℕ) → has h.told j ≡ true → events_read.picks c ≢ j
  other-told j e q = clash e (h.others j ∙ (ap (λ (i : ℕ). is_told (state_of c i)) (sym q) ∙ (free-state (state_of c (events_read.picks c)) k.free).1))

  normal-is-told : (j : ℕ) → has h.fills j ≡ true → has h.told j ≡ true
  normal-is-told j e = h.others j ∙ normal-told (state_of c j) (sym (h.normals j) ∙ e)

  arrives : (f : ℕ → Station) (j : ℕ) → arrived (told_by c xs) f j ≡ filled_at h.fills (events_read.picks c) (version_of c) j (informed_at h.told (events_read.picks c) j (f j))
  arrives f j = ap (λ (t : Told). arrived t f j) (told_is c xs h ∙ ap (λ (i : ℕ). Told.Extended h.told h.fills i (version_of c)) same_id)

  -- an honest node is honest afterwards
  able-after : (f : ℕ → Station) (j : ℕ) → j < 16 → Able c.chunks j (f j) → Able c.chunks j (arrived (told_by c xs) f j)
  able-after f j l b =
      subst (Able c.chunks j) (sym (arrives f j))
      (able-arrived c.chunks j h.told h.fills (events_read.picks c) (version_of c) (f j) b l k.below (other-told j) (normal-is-told j) (version-top c v))

  full-after : (f : ℕ → Station) (j : ℕ) → is_normal (state_of c j) ≡ true → Able c.chunks j (f j) → Full c.chunks (events_read.picks c) (arrived (told_by c xs) f j).map
  full-after f j is b =
      let e : has h.fills j ≡ true = h.normals j ∙ is in
      let o = normal-is-told j e in
      subst (λ (s : Station). Full c.chunks (events_read.picks c) s.map) (sym (arrives f j))
      (full-arrived c.chunks j h.told h.fills (events_read.picks c) (version_of c) (f j) b (has-below h.fills j e) k.below (other-told j o) e o (version-top c v) v.most)

  -- ---- the run

  roster : (next (Event.extend xs) c).roster ≡ extended c.roster (events_read.picks c)
  roster = after-extend c xs a.done

  -- the NORMAL ones are as they were
  normals-stay : ids_of Kind.Normals (extended c.roster (events_read.picks c)) ≡ ids_of Kind.Normals c.roster
  normals-stay = ids-same Kind.Normals Kind.Normals c.roster (extended c.roster (events_read.picks c)) v.ok.long (long-extended c.roster (events_read.picks c) v.ok.long)
      (λ j l. elim (ℕ_discrete j (events_read.picks c)) [
        | yes q ↦ rw q (ap (λ (s : Session). is_normal s.state) (extended-at c.roster (events_read.picks c) v.ok.long k.below) ∙ sym (free-state (state_of c (events_read.picks c)) k.free).0)
        | no d ↦ ap (λ (s : Session). is_normal s.state) (extended-other c.roster (events_read.picks c) j d)
      ])

  normals-are : normals (pool_of c xs) ≡ ids_of Kind.Normals c.roster
  normals-are = ap (λ (ro : Roster). ids_of Kind.Normals ro) roster ∙ normals-stay

  some-normal : normals (pool_of c xs) ≢ 0
  some-normal z = eqb-false (ids_of Kind.Normals c.roster) 0 may.normal (sym normals-are ∙ z)

  long : Long (pool_of c xs).roster
  long = (reached-valid (next (Event.extend xs) c) (Reached.then c (Event.extend xs) a.reached)).ok.long

  -- the new leg is a candidate
  is-candidate : has (candidates (pool_of c xs)) (events_read.picks c) ≡ true
  is-candidate = ids-has Kind.Candidates (pool_of c xs).roster long (events_read.picks c) k.below
      ∙ (ap (λ (ro : Roster). candidate (session_at ro (events_read.picks c))) roster ∙ ap candidate (extended-at c.roster (events_read.picks c) v.ok.long k.below))

  some-candidate : candidates (pool_of c xs) ≢ 0
  some-candidate z = clash is-candidate (ap (λ (s : ℕ). has s (events_read.picks c)) z ∙ has-none (events_read.picks c))

  -- the run that begins
  abbrev first : Run
  first = record { phase = Phase.Spread Step.Ready; source = lowest (normals (pool_of c xs)); left = candidates (pool_of c xs); taken = 0 }

  versions-are : (pool_of c xs).roster.version ≡ version_of c
  versions-are = ap (λ (ro : Roster). ro.version) roster ∙ (extended-numbers c.roster (events_read.picks c)).versioned

  starts : version_of c ≤ version_limit → bounds.Begins c (Event.extend xs) first
  starts low =
      record {
        reached = a.reached;
        run = h.tries ∙ ap begins (begun-one (pool_of c xs).roster (omega (arith, low, versions-are)) some-normal some-candidate);
        new = ap (λ (j : Job). not (is_running j) || bounds.cuts_off (Event.extend xs) c) (idle-job (job_of c) may.idle);
      }

  -- ---- what it comes to

  source : ℕ
  source = lowest (normals (pool_of c xs))

  source-below : lowest (normals (pool_of c xs)) < 16
  source-below = elim (dec_lt (lowest (normals (pool_of c xs))) 16) [
    | yes l ↦ l
    | no g ↦ absurd (some-normal (empty-set (normals (pool_of c xs)) (ids-lt Kind.Normals (pool_of c xs).roster long) (omega (arith, lowest-le (normals (pool_of c xs)), g))))
  ]

  source_in : has (normals (pool_of c xs)) (lowest (normals (pool_of c xs))) ≡ true
  source_in = lowest-in (normals (pool_of c xs)) source-below

  source-normal : is_normal (state_of c (lowest (normals (pool_of c xs)))) ≡ true
  source-normal = sym (ids-has Kind.Normals c.roster v.ok.long (lowest (normals (pool_of c xs))) source-below) ∙ (ap (λ (s : ℕ). has s (lowest (normals (pool_of c xs)))) (sym normals-are) ∙ source_in)

  -- the source receives nothing
  not-receiver : has (candidates (pool_of c xs)) (lowest (normals (pool_of c xs))) ≡ false
  not-receiver = by_cases (has (candidates (pool_of c xs)) (lowest (normals (pool_of c xs))))
      (λ e. clash (sym (ids-has Kind.Normals (pool_of c xs).roster long (lowest (normals (pool_of c xs))) source-below) ∙ source_in)
      (candidate-normal (session_at (pool_of c xs).roster (lowest (normals (pool_of c xs)))) (sym (ids-has Kind.Candidates (pool_of c xs).roster long (lowest (normals (pool_of c xs))) source-below) ∙ e)))
      (λ e. e)

  honest-after : (f : ℕ → Station) → HonestBefore c xs f → (w : World) → ((j : ℕ) → w.nodes j ≡ arrived (told_by c xs) f j) → ((t : ℕ) → Cuts (w.cuts t)) → HonestNodes (pool_of c xs) w
  honest-after f b w at cuts =
      record {
        source = λ n. subst (Able c.chunks (lowest (normals (pool_of c xs)))) (sym (at (lowest (normals (pool_of c xs))))) (able-after f (lowest (normals (pool_of c xs))) source-below b.source);
        others = λ j q. subst (Able c.chunks j) (sym (at j)) (able-after f j (has-below (candidates (pool_of c xs)) j q) (b.others j q));
        versions = λ n m j q. absurd (some-normal n);
        cuts = cuts;
      }

  -- the case that it is
  case-one : (n : ℕ) (w : World) → Exact (pool_of c xs) n w → (n ≡ 3 * size (candidates (pool_of c xs))) × Case1 (pool_of c xs) (lowest (normals (pool_of c xs))) (candidates (pool_of c xs)) n w
  case-one n w (Exact.case1 z e r) = (e, r)
  case-one n w (Exact.case2 z m e r) = absurd (some-normal z)
  case-one n w (Exact.case3 z m e r) = absurd (some-normal z)

  ends : version_of c ≤ version_limit → (f : ℕ → Station) → HonestBefore c xs f → (w : World) → Leaves (Event.extend xs) c w → ((j : ℕ) → w.nodes j ≡ arrived (told_by c xs) f j) → ((t : ℕ) → Cuts (w.cuts t))
      → Ends c xs (most (pool_of c xs).roster) w
  ends low f b w l at cuts =
      let r = case-one (most (pool_of c xs).roster) w ((demand-3 c (Event.extend xs) first (starts low)).exact w l (honest-after f b w at cuts)) in
      let g = r.1.recovered in
      record {
        count = r.0;
        over = g.over;
        up = g.up (events_read.picks c) is-candidate;
        map = g.map (events_read.picks c) is-candidate;
        full = λ n m. copied-bit (pool_of c xs) (lowest (normals (pool_of c xs))) (events_read.picks c) (exchanges (most (pool_of c xs).roster) w) n (g.map (events_read.picks c) is-candidate) k.below
            (ap (λ (ro : Roster). has ro.members (events_read.picks c)) roster ∙ (ap (λ (s : ℕ). has s (events_read.picks c)) (extended-numbers c.roster (events_read.picks c)).held ∙ has-with-same c.roster.members (events_read.picks c) k.below))
            (omega (arith, m, v.most))
            ∙ (ap (λ (s : Station). dirty s.map (events_read.picks c) n) (r.1.others (lowest (normals (pool_of c xs))) not-receiver ∙ at (lowest (normals (pool_of c xs)))) ∙ full-after f (lowest (normals (pool_of c xs))) source-normal b.source n m);
      }

pub full-on-normals : FullOnNormals
full-on-normals c xs a f j is b = full-after c xs a f j is b

pub leg-added : LegAdded
leg-added c xs a low f b w l at cuts =
    let e = ends c xs a low f b w l at cuts in
    subst (λ (n : ℕ). Ends c xs n w) e.count e
