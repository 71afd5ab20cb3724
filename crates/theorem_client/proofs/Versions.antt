-- The pool's kind never changes; its version rises by one for each session that left NORMAL and for a run that ended, and at join assemble becomes the larger one.
use Rattle.std.specs.Prelude.{Option, Some, None}
use mathlib.Core.Path.{◌≡◌, refl, ap, ◌∙◌, sym}
use mathlib.Core.Logic.{◌≢◌}
use mathlib.Core.Bool.{Bool, true, false, not, ◌&&◌, ◌||◌}
use mathlib.Core.List.{List}
use Prim.Native.Nat.{ℕ, ◌<◌, ◌≤◌, zero, suc, ◌+◌}
use native.Mathlib.Omega.{arith}
use Rattle.laws_words.specs.Tests.{clash, by_cases, and_left, and_right, and-false}
use Rattle.laws_words.specs.Words.{pick, one}
use Rattle.rules_base.specs.Limits.{version_top}
use Rattle.rules_base.proofs.Sets.{count_to-none, count_to-same}
use Rattle.rules_base.specs.Sets.{has, count_to}
use Rattle.rules_pool.specs.Session.{is_normal, is_removing, is_owed, candidate, free, moved, marked}
use Rattle.rules_pool.specs.declared.Job.{Job}
use Rattle.rules_pool.specs.declared.Mode.{Mode}
use Rattle.rules_pool.specs.declared.Pool.{Pool}
use Rattle.rules_pool.specs.declared.Removal.{Removal}
use Rattle.rules_pool.specs.declared.Reply.{Reply}
use Rattle.rules_pool.specs.declared.Roster.{Roster}
use Rattle.rules_pool.specs.declared.Session.{Session}
use Rattle.rules_pool.specs.declared.Stage.{Stage}
use Rattle.rules_pool.specs.declared.Cause.{Cause}
use Rattle.rules_pool.specs.declared.State.{State}
use Rattle.rules_pool.specs.declared.Turn.{Turn}
use Rattle.rules_pool.specs.Sessions.{session_at}
use Rattle.rules_pool.specs.Changes.{more, owes, removing}
use Rattle.rules_pool.specs.declared.Way.{Way}
use Rattle.rules_pool.specs.Run.{takes}
use Rattle.rules_pool.specs.Recovery.{with_roster}
use Rattle.laws_client.proofs.Exit.{turned, turn-of}
use Rattle.rules_pool.specs.Exit.{refused}
use Rattle.rules_pool.specs.Jobs.{is_running}
use Rattle.rules_pool.specs.StateRules.{job_ok}
use Rattle.laws_client.proofs.Changes.{removing-at}
use Rattle.laws_client.proofs.Ids.{Long}
use Rattle.laws_client.proofs.Links.{counted}
use Rattle.laws_client.proofs.Pools.{Valid, removal-facts}
use Rattle.laws_client.proofs.Records.{is_last, left_at, left_other, left-numbers, entered-numbers, rises, raised_if}
use Rattle.laws_client.proofs.Rosters.{below_top}
use Rattle.laws_client.proofs.Runs.{run-facts, run_room, candidate-normal, entered-other}
use Rattle.laws_client.proofs.Tried.{tried-roster}
use Rattle.laws_client.proofs.JoinsKept.{created-numbers, assembled-numbers}
use Rattle.rules_client.specs.Joins.{create_refusal, create_done, join_create, assemble_refusal, assembled, assemble_done, join_assemble}
use Rattle.laws_client.proofs.EnablesKept.{enable-passed, maintenance-passed, enabled-numbers}
use Rattle.rules_client.specs.Enables.{enable_refusal, enable, maintenance_refusal, maintenance_done, maintenance}
use Rattle.laws_client.proofs.LinksKept.{down-passed, down-roster, dropped-at, dropped-other, dropped-room, normal-dropped, other-dropped, checked-numbers, dropped-sync}
use Rattle.rules_client.specs.Links.{down_refusal, dropped, down_done, link_down, check_refusal, store_check, try_refusal, try_run}
use Rattle.laws_client.proofs.RemovalSteps.{is_due, departed-goes, started-goes, told-goes, paid-long, removing-long, removing-other, remove-passed, paid-numbers, removing-numbers}
use Rattle.rules_client.specs.Removal as removal
use Rattle.rules_client.specs.Remove.{remove_refusal, remove, remove_begun, gone}
use Rattle.laws_client.proofs.WritesKept.{wrote_in, misses, write-passed, write-roster, missed-does, synced-same, Missed}
use Rattle.rules_client.specs.Writes.{missed, write_refusal, write_ended, write_done}
use Rattle.laws_client.proofs.AnswersKept.{run-able, run-roster}
use Rattle.rules_client.specs.Answers.{answer_refusal, entered_by, answered, answer, reported}
use Rattle.rules_pool.specs.Breaking.{is_accepted}
use Rattle.rules_client.specs.Client.{sound_for, remove_turn, write_turn, answer_turn, synced_turn, clean_to}
use Rattle.rules_client.specs.Events.{Event, turn_of, next, record_of, state_of, is_sync, job_of}
use Rattle.theorem_client.specs.Reading.{is_down, raises}
use Rattle.theorem_client.specs.Said.{version_of, leaves_normal, ends_run}
use Rattle.theorem_client.proofs.Fates.{Fate, state-of, kept-stands}
use Rattle.theorem_client.proofs.Others.{removal-other}
use Rattle.theorem_client.proofs.Shape.{down-done, off}
use Rattle.theorem_client.proofs.States.{and-true, normal-lives}
use Rattle.theorem_client.proofs.Tries.{idle-none}
use native.Mathlib.Decide.{ℕ_discrete}

-- ---- events that do not raise the version

-- kind and version are as they were
pub record Level (c : Pool) (q : Pool) : Type 0 where
  pub kind : q.roster.sync ≡ is_sync c
  pub version : q.roster.version ≡ version_of c

pub as-was : (c : Pool) (q : Pool) → q.roster ≡ c.roster → Level c q
as-was c q e = record { kind = ap (λ (ro : Roster). ro.sync) e; version = ap (λ (ro : Roster). ro.version) e }

pub create-level : (id : ℕ) (c : Pool) → Valid c → raises (Event.join_create id) ≡ false → Level c (next (Event.join_create id) c)
unfolding join_create create_done enable store_check try_run synced_turn
create-level id c v f =
    turned (Level c) (create_refusal c id) _ c (as-was c c refl) (λ e. let k = created-numbers c.roster id in record { kind = k.kind; version = k.versioned })

pub enable-level : (id : ℕ) (c : Pool) → Valid c → raises (Event.enable id) ≡ false → Level c (next (Event.enable id) c)
unfolding join_create create_done enable store_check try_run synced_turn
enable-level id c v f =
    turned (Level c) (enable_refusal c id) _ c (as-was c c refl)
    (λ e. let k = enabled-numbers c id (enable-passed c id e).plain in record { kind = k.kind; version = k.versioned })

pub check-level : (id : ℕ) (c : Pool) → Valid c → raises (Event.store_check id) ≡ false → Level c (next (Event.store_check id) c)
unfolding join_create create_done enable store_check try_run synced_turn
check-level id c v f =
    turned (Level c) (check_refusal c id) _ c (as-was c c refl) (λ e. let k = checked-numbers c id in record { kind = k.kind; version = k.versioned })

pub try-level : (c : Pool) → Valid c → raises Event.try_run ≡ false → Level c (next Event.try_run c)
unfolding join_create create_done enable store_check try_run synced_turn
try-level c v f = turned (Level c) (try_refusal c) _ c (as-was c c refl) (λ e. as-was c _ (tried-roster c))

pub synced-level : (xs : List ℕ) (member chunk : ℕ) (c : Pool) → Valid c → raises (Event.synced xs member chunk) ≡ false → Level c (next (Event.synced xs member chunk) c)
unfolding join_create create_done enable store_check try_run synced_turn
synced-level xs member chunk c v f = as-was c _ (ap (λ (p : Pool). p.roster) (synced-same c (sound_for c xs) member chunk (clean_to xs chunk 16)))

-- ---- nobody leaves NORMAL by them

and-not : (b : Bool) → (b && not b) ≡ false
and-not true = refl
and-not false = refl

-- by the states before and after
left_by : (c c' : Pool) (id : ℕ) (st : State) → state_of c' id ≡ st → (is_normal (state_of c id) && not (is_normal st)) ≡ false → leaves_normal c c' id ≡ false
left_by c c' id st e f = rw e f

same-state : (c c' : Pool) (id : ℕ) → state_of c' id ≡ state_of c id → leaves_normal c c' id ≡ false
same-state c c' id e = left_by c c' id (state_of c id) e (and-not (is_normal (state_of c id)))

was-not : (c c' : Pool) (id : ℕ) → is_normal (state_of c id) ≡ false → leaves_normal c c' id ≡ false
was-not c c' id e = rw e refl

removing-not : (st : State) → is_removing st ≡ true → is_normal st ≡ false
removing-not st e = by_cases (is_normal st) (λ n. clash e (normal-lives st n)) (λ n. n)

pub unleft : (c : Pool) (e : Event) (c' : Pool) (id : ℕ) → raises e ≡ false → Fate c e c' id → leaves_normal c c' id ≡ false
unleft c e c' id f (Fate.kept k) = same-state c c' id (kept-stands c c' id k)
unleft c e c' id f (Fate.begins x st r) = was-not c c' id (rw st refl)
unleft c e c' id f (Fate.joins set version x plain st r) = was-not c c' id (rw st refl)
unleft c e c' id f (Fate.goes to l n b w r) = was-not c c' id (by_cases (is_normal (state_of c id)) (λ z. clash (n z).1 f) (λ z. z))
unleft c e c' id f (Fate.fails cause last w x n b r) = clash x f
unleft c e c' id f (Fate.maintained last x plain n b r) = clash (ap raises x) f
unleft c e c' id f (Fate.unflagged x is r) = same-state c c' id (state-of c' id _ r)
unleft c e c' id f (Fate.paid mode st r) = was-not c c' id (rw st refl)
unleft c e c' id f (Fate.freed i m r) = was-not c c' id (removing-not (state_of c id) m)
unleft c e c' id f (Fate.removed xs mode x l r) = clash (ap raises x) f
unleft c e c' id f (Fate.extends xs x plain st r) = was-not c c' id (rw st refl)

-- ---- the version

count_to-one : (p : ℕ → Bool) (id n : ℕ) → p id ≡ true → ((j : ℕ) → j ≢ id → p j ≡ false) → (id < n → count_to p n ≡ 1) × (n ≤ id → count_to p n ≡ 0)
count_to-one p id zero t f = ((λ l. absurd (let z : ⊥ = omega arith in z)), λ l. refl)
count_to-one p id (suc n) t f = at (count_to-one p id n t f) (ℕ_discrete n id)
  where
    at : (id < n → count_to p n ≡ 1) × (n ≤ id → count_to p n ≡ 0) → Dec (n ≡ id) → (id < suc n → count_to p (suc n) ≡ 1) × (suc n ≤ id → count_to p (suc n) ≡ 0)
    at r (yes e) =
        let here : p n ≡ true = rw e t in
        ((λ l. rw here (omega (arith, r.1 (omega arith)))), λ l. absurd (let z : ⊥ = omega arith in z))
    at r (no d) =
        let there = f n d in
        ((λ l. rw there (omega (arith, d, r.0 (omega (arith, d))))), λ l. rw there (omega (arith, r.1 (omega arith))))

-- the version in the pool q that an event leaves, a run having ended or not
abbrev pub RisenBy : Pool → Pool → Bool → Type 0
RisenBy c q ended = q.roster.version ≡ version_of c + pick (is_sync c) 0 (count_to (leaves_normal c (q)) 16 + one ended)

-- the same of a turn
abbrev ended_by : Event → Pool → Turn → Bool
ended_by e c u = is_running (job_of c) && ((is_down e && is_accepted u.answer) || not (is_running u.pool.job))

abbrev pub Risen : Event → Pool → Turn → Type 0
Risen e c u = (u.pool.roster.sync ≡ is_sync c) × RisenBy c u.pool (ended_by e c u)

pick-none : (b : Bool) (n : ℕ) → pick b n n ≡ n
pick-none true n = refl
pick-none false n = refl

pub none-risen : (c : Pool) (q : Pool) → q.roster.version ≡ version_of c → ((j : ℕ) → leaves_normal c (q) j ≡ false) → RisenBy c q false
none-risen c q same none =
    let z = count_to-none (leaves_normal c (q)) 16 (λ j h. none j) in
    same ∙ rw (z, pick-none (is_sync c) 0) (omega arith)

refused-risen : (e : Event) (c : Pool) (n : ℕ) → Risen e c (refused c n)
refused-risen e c n = (refl, rw (and-false (is_down e), and-not (is_running (job_of c))) (none-risen c c refl (λ j. same-state c c j refl)))

-- where no run was in hand, none ended
calm-risen : (e : Event) (c : Pool) (u : Turn) → is_running (job_of c) ≡ false → RisenBy c u.pool false → RisenBy c u.pool (ended_by e c u)
calm-risen e c u calm r = rw calm r

-- an event by which only one session can leave NORMAL, and does if it was so
by_one : (c : Pool) (id : ℕ) (q : Pool) (ended : Bool) → id < 16 → is_normal (state_of (q) id) ≡ false → ((j : ℕ) → j ≢ id → leaves_normal c (q) j ≡ false)
    → q.roster.version ≡ version_of c + pick (is_sync c) 0 (one (is_normal (state_of c id)) + one ended) → RisenBy c q ended
by_one c id q ended h gone others e = e ∙ ap (λ (n : ℕ). version_of c + pick (is_sync c) 0 (n + one ended)) (sym number)
  where
    number : count_to (leaves_normal c (q)) 16 ≡ one (is_normal (state_of c id))
    number =
        by_cases (is_normal (state_of c id))
        (λ n. (count_to-one (leaves_normal c (q)) id 16 (rw (n, gone) refl) others).0 h ∙ rw n refl)
        (λ n. count_to-none (leaves_normal c (q)) 16 (λ j k. elim (ℕ_discrete j id) [ yes p ↦ was-not c (q) j (rw p n) | no d ↦ others j d ]) ∙ rw n refl)

-- the version after one session left NORMAL, if it was so
one_left : (c : Pool) (id : ℕ) (b : Bool) → Valid c → id < 16 → is_sync c ≡ b
    → pick (is_normal (state_of c id)) (pick b (version_of c) (more (version_of c))) (version_of c) ≡ version_of c + pick b 0 (one (is_normal (state_of c id)))
one_left c id true v h sync = pick-none (is_normal (state_of c id)) (version_of c) ∙ omega arith
one_left c id false v h plain =
    by_cases (is_normal (state_of c id))
    (λ n. rw n (rises c.roster v.ok (omega (arith, counted c.roster id v.ok h plain n))))
    (λ n. rw n (omega arith))

-- ---- the events that may raise it

pub maintenance-rises : (id : ℕ) (c : Pool) → Valid c → Risen (Event.maintenance id) c (turn_of (Event.maintenance id) c)
unfolding maintenance maintenance_done
maintenance-rises id c v =
    turn-of (Risen (Event.maintenance id) c) (maintenance_refusal c id) (maintenance_done c id) c (refused-risen (Event.maintenance id) c (maintenance_refusal c id))
    (λ e. let h = maintenance-passed c id e in
    let k = left-numbers c.roster id Way.Maintenance false h.plain in
    let after = left_at c.roster id Way.Maintenance v.ok.long h.below in (
      k.kind,
      calm-risen (Event.maintenance id) c (maintenance_done c id) (idle-none (job_of c) h.idle)
          (by_one c id (maintenance_done c id).pool false h.below
          (ap (λ (s : Session). is_normal s.state) after)
          (λ j d. same-state c (maintenance_done c id).pool j (ap (λ (s : Session). s.state) (left_other c.roster id Way.Maintenance j d)))
          (k.versioned ∙ rw (h.plain, h.normal) (rises c.roster v.ok (omega (arith, counted c.roster id v.ok h.below h.plain h.normal))))),
    ))

-- a session that is removed or gone is not NORMAL
removed-not : (b : Bool) (s r x : Session) (mode : Mode) (owed : Bool) → s ≡ pick b free r → r ≡ moved x (State.Removing mode owed) → is_normal s.state ≡ false
removed-not true s r x mode owed e f = ap (λ (y : Session). is_normal y.state) e
removed-not false s r x mode owed e f = ap (λ (y : Session). is_normal y.state) (e ∙ f)

-- the pool in which a removal has started
abbrev started_in : Pool → ℕ → Mode → Pool
started_in c id mode = (removal.started (with_roster c (removing c.roster id mode)) id).posted.pool

remove-risen : (c : Pool) (id : ℕ) (mode : Mode) → Valid c → id < 16 → ((started_in c id mode).roster.sync ≡ is_sync c) × RisenBy c (started_in c id mode) false
remove-risen c id mode v h =
    let g = started-goes (with_roster c (removing c.roster id mode)) id (removing-long c.roster id mode v.ok.long) h in
    let n = removing-numbers c.roster id mode (is_sync c) refl in (
      g.numbers.kind ∙ n.kind,
      by_one c id (started_in c id mode) false h
          (removed-not (pick (is_owed (session_at (removing c.roster id mode) id).state) false (not (is_due Stage.Leave (removing c.roster id mode))))
          (session_at (started_in c id mode).roster id) (session_at (removing c.roster id mode) id) (record_of c id) mode (owes (state_of c id)) g.own (removing-at c.roster id mode v.ok.long h))
          (λ j d. same-state c (started_in c id mode) j (ap (λ (s : Session). s.state) (g.others j d ∙ removing-other c.roster id j mode d)))
          (g.numbers.versioned ∙ (n.versioned ∙ (one_left c id (is_sync c) v h refl ∙ ap (λ (k : ℕ). version_of c + pick (is_sync c) 0 k) (omega arith)))),
    )

pub remove-rises : (xs : List ℕ) (id : ℕ) (mode : Mode) (c : Pool) → Valid c → Risen (Event.remove xs id mode) c (turn_of (Event.remove xs id mode) c)
unfolding remove remove_turn
remove-rises xs id mode c v =
    turn-of (Risen (Event.remove xs id mode) c) (remove_refusal c (sound_for c xs) id mode) (gone c (remove_begun c id mode)) c
    (refused-risen (Event.remove xs id mode) c (remove_refusal c (sound_for c xs) id mode))
    (λ e. let h = remove-passed c (sound_for c xs) id mode e in
    let r = remove-risen c id mode v h.below in
    (r.0, calm-risen (Event.remove xs id mode) c (gone c (remove_begun c id mode)) (idle-none (job_of c) h.idle) r.1))

-- link down: the version of the session that failed, and of the run that ended
down-version : (j : Job) (c : Pool) (id : ℕ) → job_of c ≡ j → Valid c → id < 16
    → (raised_if (is_running j) (dropped c.roster id)).version ≡ version_of c + pick (is_sync c) 0 (one (is_normal (state_of c id)) + one (is_running j))
down-version j c id job v h = at j job
  where
    first : (dropped c.roster id).version ≡ version_of c + pick (is_sync c) 0 (one (is_normal (state_of c id)))
    first =
        by_cases (not (is_sync c) && is_normal (state_of c id))
        (λ z. let plain = off (is_sync c) (and_left (not (is_sync c)) (is_normal (state_of c id)) z) in
        let n = and_right (not (is_sync c)) (is_normal (state_of c id)) z in
        (normal-dropped c.roster id plain n).versioned ∙ (rises c.roster v.ok (omega (arith, counted c.roster id v.ok h plain n)) ∙ rw (plain, n) refl))
        (λ z. (other-dropped c.roster id z).versioned ∙ none (is_sync c) (is_normal (state_of c id)) z)
      where
        none : (s n : Bool) → (not s && n) ≡ false → version_of c ≡ version_of c + pick s 0 (one n)
        none true n z = omega arith
        none false true z = clash refl z
        none false false z = omega arith

    calm : (k : Job) → is_running k ≡ false → (raised_if (is_running k) (dropped c.roster id)).version ≡ version_of c + pick (is_sync c) 0 (one (is_normal (state_of c id)) + one (is_running k))
    calm k e = rw e (first ∙ ap (λ (n : ℕ). version_of c + pick (is_sync c) 0 n) (omega arith))

    at : (k : Job) → job_of c ≡ k → (raised_if (is_running k) (dropped c.roster id)).version ≡ version_of c + pick (is_sync c) 0 (one (is_normal (state_of c id)) + one (is_running k))
    at Job.Idle e = calm Job.Idle refl
    at (Job.Removing m) e = calm (Job.Removing m) refl
    at (Job.Running r) e =
        let q = run-facts c.roster r v.ok.long (rw e at v.job) in
        let room = dropped-room c.roster id v.ok q.plain h (run_room c.roster v.ok q.plain q.limit) in
        let f : (dropped c.roster id).version ≡ version_of c + one (is_normal (state_of c id)) = first ∙ ap (λ (b : Bool). version_of c + pick b 0 (one (is_normal (state_of c id)))) q.plain in
        below_top (dropped c.roster id).version (omega (arith, room)) ∙ (ap (λ (n : ℕ). n + 1) f ∙ (omega arith ∙ ap (λ (b : Bool). version_of c + pick b 0 (one (is_normal (state_of c id)) + 1)) (sym q.plain)))

pub down-rises : (id : ℕ) (c : Pool) → Valid c → Risen (Event.link_down id) c (turn_of (Event.link_down id) c)
unfolding link_down down_done
down-rises id c v =
    turn-of (Risen (Event.link_down id) c) (down_refusal c id) (down_done c id) c (refused-risen (Event.link_down id) c (down_refusal c id))
    (λ e. let h = (down-passed c id e).below in
    let same = down-roster c.job c id in (
      ap (λ (ro : Roster). ro.sync) same ∙ dropped-sync c.roster id,
      rw (down-done c.job c id, and-true (is_running (job_of c)))
          (by_one c id (down_done c id).pool (is_running (job_of c)) h
          (ap (λ (ro : Roster). is_normal (session_at ro id).state) same ∙ (ap (λ (s : Session). is_normal s.state) (dropped-at c.roster id v.ok.long h) ∙ down-not (record_of c id) (pick (is_normal (state_of c id)) (is_last c.roster) (record_of c id).mark)))
          (λ j d. same-state c (down_done c id).pool j (ap (λ (ro : Roster). (session_at ro j).state) same ∙ ap (λ (s : Session). s.state) (dropped-other c.roster id j d)))
          (ap (λ (ro : Roster). ro.version) same ∙ down-version (job_of c) c id refl v h)),
    ))
  where
    down-not : (s : Session) (b : Bool) → is_normal (pick (is_removing s.state) s (marked (moved s (State.Failed Cause.Link)) b)).state ≡ false
    down-not s b = by_cases (is_removing s.state) (λ z. rw z (removing-not s.state z)) (λ z. rw z refl)

write-risen : (c : Pool) (reached : ℕ) → Valid c → is_sync c ≡ false → (q : Pool) → q.roster ≡ wrote_in c reached → RisenBy c q false
write-risen c reached v plain q same =
    ap (λ (ro : Roster). ro.version) same ∙ (d.version ∙ rw (plain, count_to-same (leaves_normal c (q)) (λ j. misses reached j c.roster) 16 leave) (omega arith))
  where
    d : Missed reached c.roster 16 (missed c.roster reached)
    d = missed-does c.roster reached v.ok plain

    after : (j : ℕ) (s : Session) → session_at (missed c.roster reached) j ≡ s → state_of (q) j ≡ s.state
    after j s e = ap (λ (ro : Roster). (session_at ro j).state) same ∙ ap (λ (s : Session). s.state) e

    leave : (j : ℕ) → j < 16 → leaves_normal c (q) j ≡ misses reached j c.roster
    leave j h =
        by_cases (misses reached j c.roster)
        (λ m. rw (m, and_left (is_normal (state_of c j)) (not (has reached j)) m, after j _ (d.fails j h m)) refl)
        (λ m. rw m (same-state c (q) j (after j _ (d.spares j m))))

pub write-rises : (xs : List ℕ) (chunk reached : ℕ) (c : Pool) → Valid c → Risen (Event.write xs chunk reached) c (turn_of (Event.write xs chunk reached) c)
unfolding write_ended write_turn
write-rises xs chunk reached c v =
    turn-of (Risen (Event.write xs chunk reached) c) (write_refusal c (sound_for c xs) chunk reached) (write_done c chunk reached) c (refused-risen (Event.write xs chunk reached) c (write_refusal c (sound_for c xs) chunk reached))
    (λ e. let same = write-roster c chunk reached in
    let w = write-passed c (sound_for c xs) chunk reached e in (
      ap (λ (ro : Roster). ro.sync) same ∙ ((missed-does c.roster reached v.ok w.plain).plain ∙ sym w.plain),
      calm-risen (Event.write xs chunk reached) c (write_done c chunk reached) w.free (write-risen c reached v w.plain (write_done c chunk reached).pool same),
    ))

-- an answer in a run makes nobody leave NORMAL
run-stays : (c : Pool) (q : Pool) (over : Bool) (w : Option ℕ) → Valid c → is_sync c ≡ false → ((id : ℕ) → w ≡ Some id → candidate (session_at c.roster id) ≡ true)
    → q.roster ≡ raised_if over (entered_by w c.roster) → (j : ℕ) → leaves_normal c (q) j ≡ false
run-stays c q over None v plain able e j = same-state c (q) j (ap (λ (ro : Roster). (session_at ro j).state) e)
run-stays c q over (Some id) v plain able e j = elim (ℕ_discrete j id) [
  | yes p ↦ was-not c (q) j (rw p (candidate-normal (session_at c.roster id) (able id refl)))
  | no d ↦ same-state c (q) j (ap (λ (ro : Roster). (session_at ro j).state) e ∙ ap (λ (s : Session). s.state) (entered-other c.roster id j plain d))
]

-- the one that becomes NORMAL leaves kind and version as they were
pub entered-same : (w : Option ℕ) (c : Pool) → ((entered_by w c.roster).sync ≡ is_sync c) × ((entered_by w c.roster).version ≡ version_of c)
entered-same None c = (refl, refl)
entered-same (Some id) c = let n = entered-numbers c.roster id (is_sync c) refl in (n.kind, n.versioned)

run-version : (over : Bool) (c : Pool) (w : Option ℕ) → is_sync c ≡ false → version_of c < version_top → (raised_if over (entered_by w c.roster)).version ≡ version_of c + one over
run-version true c w plain low = ap more (entered-same w c).1 ∙ below_top (version_of c) low
run-version false c w plain low = (entered-same w c).1 ∙ omega arith

well-same : (st : Stage) (c : Pool) (id : ℕ) → Long c.roster → id < 16
    → ((removal.well_answered st c id).posted.pool.roster.sync ≡ is_sync c) × ((removal.well_answered st c id).posted.pool.roster.version ≡ version_of c)
well-same Stage.Leave c id l h =
    let g = (departed-goes (removal.paid c id) id (paid-long c id l) h).numbers in
    let n = paid-numbers c id in
    (g.kind ∙ n.kind, g.versioned ∙ n.versioned)
well-same (Stage.Info peer) c id l h = let g = (told-goes c id peer l h).numbers in (g.kind, g.versioned)

removal-same : (m : Removal) (c : Pool) (a : Reply) → Long c.roster → m.id < 16
    → ((removal.removal_answered m c a).posted.pool.roster.sync ≡ is_sync c) × ((removal.removal_answered m c a).posted.pool.roster.version ≡ version_of c)
removal-same m c Reply.Failed l h = (refl, refl)
removal-same m c (Reply.Good b) l h = well-same m.stage c m.id l h

answered-risen : (k : Job) (c : Pool) (a : Reply) → job_of c ≡ k → Valid c → job_ok k c.roster ≡ true
    → ((answered k c a).pool.roster.sync ≡ is_sync c) × RisenBy c (answered k c a).pool (is_running k && not (is_running (answered k c a).pool.job))
answered-risen Job.Idle c a job v o = (refl, none-risen c c refl (λ j. same-state c c j refl))
answered-risen (Job.Running r) c a job v o =
    let f = run-facts c.roster r v.ok.long o in
    let m = takes c.roster.members c.roster.version r a in
    let over = not (is_running (reported c m).pool.job) in
    let same = run-roster c m in
    let none = count_to-none (leaves_normal c (reported c m).pool) 16
    (λ j h. run-stays c (reported c m).pool over m.normal v f.plain (λ id. run-able c r a v f id) same j) in (
      ap (λ (ro : Roster). ro.sync) same ∙ (entered-same m.normal c).0,
      ap (λ (ro : Roster). ro.version) same ∙ (run-version over c m.normal f.plain (omega (arith, f.limit))
          ∙ (omega arith ∙ (ap (λ (b : Bool). version_of c + pick b 0 (0 + one over)) (sym f.plain) ∙ ap (λ (n : ℕ). version_of c + pick (is_sync c) 0 (n + one over)) (sym none)))),
    )
answered-risen (Job.Removing m) c a job v o =
    let h = removal-facts c.roster m v.ok.long o in
    let s = removal-same m c a v.ok.long h.below in
    let q = (removal.removal_answered m c a).posted.pool in (
      s.0,
      none-risen c q s.1 (λ j. elim (ℕ_discrete j m.id) [
        | yes p ↦ was-not c (q) j (rw p (removing-not (state_of c m.id) h.removing))
        | no d ↦ same-state c (q) j (ap (λ (x : Session). x.state) (removal-other m c a j v.ok.long h.below d))
      ]),
    )

pub answer-rises : (xs : List ℕ) (number : ℕ) (a : Reply) (c : Pool) → Valid c → Risen (Event.answer xs number a) c (turn_of (Event.answer xs number a) c)
unfolding answer answer_turn
answer-rises xs number a c v =
    turn-of (Risen (Event.answer xs number a) c) (answer_refusal c (sound_for c xs) number) _ c (refused-risen (Event.answer xs number a) c (answer_refusal c (sound_for c xs) number))
    (λ e. answered-risen c.job c a refl v v.job)

-- join assemble: the larger one
assemble-larger : (id set version : ℕ) (c : Pool) → Valid c → (is_sync (next (Event.join_assemble id set version) c) ≡ is_sync c) × (version_of c ≤ version_of (next (Event.join_assemble id set version) c))
unfolding join_assemble assemble_done
assemble-larger id set version c v =
    turned (λ q. (q.roster.sync ≡ is_sync c) × (version_of c ≤ q.roster.version)) (assemble_refusal c id set version) (assemble_done c id set version) c (refl, omega arith)
    (λ e. let same = tried-roster (with_roster c (assembled c.roster id set version)) in
    let n = assembled-numbers c.roster id set version in
    (ap (λ (ro : Roster). ro.sync) same ∙ n.kind, omega (arith, ap (λ (ro : Roster). ro.version) same, n.versioned)))

-- What is known of an event that may raise the version.
abbrev pub Loud : Event → Pool → Type 0
Loud e c = (is_sync (next e c) ≡ is_sync c) × (version_of c ≤ version_of (next e c)) × (((id set version : ℕ) → e ≢ Event.join_assemble id set version) → RisenBy c (next e c) (ends_run e c))

pub loud-of : (e : Event) (c : Pool) → Risen e c (turn_of e c) → Loud e c
loud-of e c r = (r.0, omega (arith, r.1), λ n. r.1)

pub assemble-loud : (id set version : ℕ) (c : Pool) → Valid c → Loud (Event.join_assemble id set version) c
assemble-loud id set version c v = let d = assemble-larger id set version c v in (d.0, d.1, λ n. absurd (n id set version refl))
