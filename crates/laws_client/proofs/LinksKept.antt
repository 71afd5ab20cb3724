-- Link down, store check, rejoin and try, accepted or refused, keep the state rules; and what they leave of the sessions.
use mathlib.Core.Path.{◌≡◌, refl, sym, ap, ◌∙◌, subst}
use mathlib.Core.Bool.{Bool, true, false, not, ◌&&◌, ◌||◌}
use mathlib.Core.Logic.{◌≢◌}
use Prim.Native.Nat.{ℕ, ◌+◌, ◌-◌, ◌<◌}
use native.Mathlib.Decide.{ℕ_discrete}
use native.Mathlib.Omega.{arith}
use lib.Dec.{eqb, ltb}
use borrow.Author.Tests.{eqb-true, eq-eqb, ltb-false, not-false}
use Rattle.laws_words.specs.Words.{pick}
use Rattle.laws_words.specs.Tests.{by_cases, clash, passed, and_left, and_right, all-at}
use Rattle.rules_base.specs.Limits.{version_top}
use Rattle.rules_pool.specs.declared.Cause.{Cause}
use Rattle.rules_pool.specs.declared.State.{State}
use Rattle.rules_pool.specs.declared.Roster.{Roster}
use Rattle.rules_pool.specs.declared.Job.{Job}
use Rattle.rules_pool.specs.declared.Pool.{Pool}
use Rattle.rules_pool.specs.declared.Turn.{Turn}
use Rattle.rules_pool.specs.Session.{is_free, is_created, is_normal, is_failed, is_cut, is_reconnecting, is_removing, moved, marked}
use Rattle.rules_pool.specs.Sessions.{session_at}
use Rattle.rules_pool.specs.Changes.{more, entered, went}
use Rattle.rules_pool.specs.Recovery.{with_roster, run_ended}
use Rattle.rules_pool.specs.Exit.{refused, halted_if}
use Rattle.laws_client.proofs.Exit.{pools, turned, refuses, halts}
use Rattle.rules_pool.specs.StateRules.{valid_pool, run_rules, run_ok}
use Rattle.rules_pool.specs.Jobs.{is_idle, is_running, is_peer}
use Rattle.laws_client.proofs.Ids.{Long, stored_same, stored_other}
use Rattle.laws_client.proofs.Rosters.{Ok, more-le}
use Rattle.laws_client.proofs.Pools.{Valid, removal-stays}
use Rattle.laws_client.proofs.Runs.{run-facts, run_room}
use Rattle.laws_client.proofs.Links.{is_live, counted, failed-keeps, reconnects-keeps, sync-enters}
use Rattle.laws_client.proofs.Tried.{idle-valid, ended-keeps, tried-keeps, tried-roster}
use Rattle.laws_client.proofs.Records.{Numbers, is_last, entered_at, sync-entered-other, entered-numbers, failed-at, failed-other, normal-failed, other-failed, raised_if}
use Rattle.rules_client.specs.Links.{drops, down_refusal, dropped, down_at, down_done, link_down, back_refusal, checks, check_refusal, check_done, store_check, rejoin_refusal, rejoin, try_refusal, try_run}

checks-are : (st : State) (sync : Bool) → (is_failed st || (is_created st && not sync)) ≡ true → (is_normal st ≡ false) × (is_live st ≡ true)
checks-are State.Free sync e = clash refl (sym e)
checks-are State.Created sync e = (refl, refl)
checks-are State.Normal sync e = clash refl (sym e)
checks-are (State.Failed cause) sync e = (refl, refl)
checks-are State.Reconnecting sync e = clash refl (sym e)
checks-are (State.Removing m owed) sync e = clash refl (sym e)

-- ---- link down

pub record Drops (p : Pool) (id : ℕ) : Type 0 where
  pub below : id < 16
  pub some : is_free (session_at p.roster id).state ≡ false
  pub may : drops p.job (session_at p.roster id).state id ≡ true

pub down-passed : (p : Pool) (id : ℕ) → down_refusal p id ≡ 0 → Drops p id
unfolding down_refusal
down-passed p id e =
    let a = passed (not (valid_pool p)) 1 _ (λ h. omega arith) e in
    let b = passed (ltb 15 id) 3 _ (λ h. omega arith) a.1 in
    let c = passed (is_free (session_at p.roster id).state) 7 _ (λ h. omega arith) b.1 in
    let d = passed (not (drops p.job (session_at p.roster id).state id)) 9 _ (λ h. omega arith) c.1 in
    record { below = omega (arith, ltb-false 15 id b.0); some = c.0; may = not-false _ d.0 }

or-false : (a b : Bool) → (a || b) ≡ true → b ≡ false → a ≡ true
or-false true b e f = refl
or-false false b e f = clash e f

and-less : (a b : Bool) → a ≡ false → (a && b) ≡ false
and-less a b e = rw e refl

-- a session that is not REMOVING and may drop
falls : (j : Job) (st : State) (id : ℕ) → drops j st id ≡ true → is_removing st ≡ false → (is_created st || (is_normal st || is_reconnecting st)) ≡ true
unfolding drops
falls j st id e f = or-false (is_created st || (is_normal st || is_reconnecting st)) (is_removing st && is_peer j id) e (and-less (is_removing st) (is_peer j id) f)

normal-lives : (st : State) → is_normal st ≡ true → is_removing st ≡ false
normal-lives State.Free e = refl
normal-lives State.Created e = refl
normal-lives State.Normal e = refl
normal-lives (State.Failed cause) e = refl
normal-lives State.Reconnecting e = refl
normal-lives (State.Removing m owed) e = clash e refl

not-true : (b : Bool) → not b ≡ true → b ≡ false
not-true true e = sym e
not-true false e = refl

live_of : (a b : Bool) → a ≡ false → b ≡ false → not (a || b) ≡ true
live_of a b e f = rw (e, f) refl

dropped_keeps : (p : Pool) (id : ℕ) → Valid p → Drops p id → Ok (dropped p.roster id)
unfolding dropped
dropped_keeps p id v h =
    by_cases (is_removing (session_at p.roster id).state)
    (λ e. rw e v.ok)
    (λ e. rw e (failed-keeps p.roster id Cause.Link v.ok h.below (live_of (is_free (session_at p.roster id).state) (is_removing (session_at p.roster id).state) h.some e)))

-- What link down leaves of the sessions: it is FAILED, with its flag, and with its mark unless it was NORMAL; a REMOVING one stays, and so do the others.
pub dropped-at : (ro : Roster) (id : ℕ) → Long ro → id < 16
    → session_at (dropped ro id) id
    ≡ pick (is_removing (session_at ro id).state) (session_at ro id) (marked (moved (session_at ro id) (State.Failed Cause.Link)) (pick (is_normal (session_at ro id).state) (is_last ro) (session_at ro id).mark))
unfolding dropped
dropped-at ro id l h = by_cases (is_removing (session_at ro id).state) (λ e. rw e refl) (λ e. rw e (failed-at ro id Cause.Link l h))

pub dropped-other : (ro : Roster) (id j : ℕ) → j ≢ id → session_at (dropped ro id) j ≡ session_at ro j
unfolding dropped
dropped-other ro id j ne =
    by_cases (is_removing (session_at ro id).state)
    (λ e. rw e refl)
    (λ e. rw e (failed-other ro id Cause.Link j ne))

-- one that was NORMAL raises the version, in a pool that counts; no other does
pub normal-dropped : (ro : Roster) (id : ℕ) → ro.sync ≡ false → is_normal (session_at ro id).state ≡ true → Numbers ro (dropped ro id) (ro.count - 1) (more ro.version) ro.members
unfolding dropped
normal-dropped ro id plain was = rw (normal-lives (session_at ro id).state was) (normal-failed ro id Cause.Link plain was)

pub other-dropped : (ro : Roster) (id : ℕ) → (not ro.sync && is_normal (session_at ro id).state) ≡ false → Numbers ro (dropped ro id) ro.count ro.version ro.members
unfolding dropped
other-dropped ro id e =
    by_cases (is_removing (session_at ro id).state)
    (λ z. rw z (record { kind = refl; counted = refl; versioned = refl; held = refl }))
    (λ z. rw z (other-failed ro id Cause.Link e))

pub dropped-sync : (ro : Roster) (id : ℕ) → (dropped ro id).sync ≡ ro.sync
dropped-sync ro id =
    by_cases (not ro.sync && is_normal (session_at ro id).state)
    (λ e. (normal-dropped ro id (not-true ro.sync (and_left (not ro.sync) (is_normal (session_at ro id).state) e)) (and_right (not ro.sync) (is_normal (session_at ro id).state) e)).kind)
    (λ e. (other-dropped ro id e).kind)

-- a REMOVING session stays so
removing-stays : (ro : Roster) (id j : ℕ) → is_removing (session_at ro j).state ≡ true → is_removing (session_at (dropped ro id) j).state ≡ true
removing-stays ro id j e = elim (ℕ_discrete j id) [
  | yes p ↦ unfold dropped in (let f : is_removing (session_at ro id).state ≡ true = rw p at e in rw f e)
  | no p ↦ rw (dropped-other ro id j p) e
]

-- the version rises by as much as the count falls, so there is as much room as before
pub dropped-room : (ro : Roster) (id : ℕ) → Ok ro → ro.sync ≡ false → id < 16 → ro.version + ro.count < version_top → (dropped ro id).version + (dropped ro id).count < version_top
dropped-room ro id v sync h room =
    by_cases (is_normal (session_at ro id).state)
    (λ e. let n = normal-dropped ro id sync e in
    omega (arith, n.versioned, n.counted, (more-le ro.version).1, counted ro id v h sync e, room))
    (λ e. let n = other-dropped ro id (rw (sync, e) refl) in
    omega (arith, n.versioned, n.counted, room))

halted-valid : (b : Bool) (p : Pool) → Valid p → Valid (halted_if b p)
halted-valid b p v = halts Valid b p (record { some = v.some; most = v.most; ok = v.ok; job = refl }) v

down-does : (j : Job) (p : Pool) (id : ℕ) → p.job ≡ j → Valid p → Drops p id → Valid (down_at j p id).pool
down-does Job.Idle p id e v h = record { some = v.some; most = v.most; ok = dropped_keeps p id v h; job = rw e refl }
down-does (Job.Running r) p id e v h =
    let q = run-facts p.roster r v.ok.long (rw e at v.job) in
    tried-keeps (run_ended (with_roster p (dropped p.roster id)))
    (ended-keeps (with_roster p (dropped p.roster id)) v.some v.most (dropped_keeps p id v h)
    (dropped-room p.roster id v.ok q.plain h.below (run_room p.roster v.ok q.plain q.limit)))
    (dropped-sync p.roster id ∙ q.plain)
down-does (Job.Removing m) p id e v h =
    halted-valid (is_peer (Job.Removing m) id) (with_roster p (dropped p.roster id))
    (record { some = v.some; most = v.most; ok = dropped_keeps p id v h; job = rw e (removal-stays p.roster (dropped p.roster id) m v.ok.long (removing-stays p.roster id m.id) (rw e at v.job)) })

pub down-keeps : (p : Pool) (id : ℕ) → Valid p → Valid (link_down p id).pool
unfolding link_down down_done
down-keeps p id v = turned Valid (down_refusal p id) (down_done p id) p v (λ e. down-does p.job p id refl v (down-passed p id e))

halted-roster : (b : Bool) (p : Pool) → (halted_if b p).roster ≡ p.roster
halted-roster b p = halts (λ q. q.roster ≡ p.roster) b p refl refl

-- the version is raised once more if a run ended
pub down-roster : (j : Job) (p : Pool) (id : ℕ) → (down_at j p id).pool.roster ≡ raised_if (is_running j) (dropped p.roster id)
down-roster Job.Idle p id = refl
down-roster (Job.Running r) p id = tried-roster (run_ended (with_roster p (dropped p.roster id)))
down-roster (Job.Removing m) p id = halted-roster (is_peer (Job.Removing m) id) (with_roster p (dropped p.roster id))

-- ---- store check good, rejoin good

-- an event that brings a session back, not refused
pub record Backs (p : Pool) (id : ℕ) (allowed : Bool) : Type 0 where
  pub below : id < 16
  pub idle : is_idle p.job ≡ true
  pub may : allowed ≡ true

back-passed : (p : Pool) (id : ℕ) (may : Bool) → back_refusal p id may ≡ 0 → Backs p id may
unfolding back_refusal
back-passed p id may e =
    let a = passed (not (valid_pool p)) 1 _ (λ h. omega arith) e in
    let b = passed (ltb 15 id) 3 _ (λ h. omega arith) a.1 in
    let c = passed (not (is_idle p.job)) 6 _ (λ h. omega arith) b.1 in
    let d = passed (is_free (session_at p.roster id).state) 7 _ (λ h. omega arith) c.1 in
    let f = passed (not may) 9 _ (λ h. omega arith) d.1 in
    record { below = omega (arith, ltb-false 15 id b.0); idle = not-false _ c.0; may = not-false may f.0 }

abbrev pub Checks : Pool → ℕ → Type 0
Checks p id = Backs p id (checks p.roster.sync (session_at p.roster id).state)

pub check-passed : (p : Pool) (id : ℕ) → check_refusal p id ≡ 0 → Checks p id
unfolding check_refusal back_refusal
check-passed p id e = back-passed p id (checks p.roster.sync (session_at p.roster id).state) e

pub rejoin-passed : (p : Pool) (id : ℕ) → rejoin_refusal p id ≡ 0 → Backs p id (is_cut (session_at p.roster id).state)
unfolding rejoin_refusal back_refusal
rejoin-passed p id e = back-passed p id (is_cut (session_at p.roster id).state) e

-- a session with cause link may be checked
cut-checks : (sync : Bool) (st : State) → is_cut st ≡ true → checks sync st ≡ true
unfolding checks
cut-checks sync State.Free e = clash e refl
cut-checks sync State.Created e = clash e refl
cut-checks sync State.Normal e = clash e refl
cut-checks sync (State.Failed cause) e = refl
cut-checks sync State.Reconnecting e = clash e refl
cut-checks sync (State.Removing m owed) e = clash e refl

-- so where a rejoin is not refused a store check is not refused either
pub rejoin-checks : (p : Pool) (id : ℕ) → rejoin_refusal p id ≡ 0 → Checks p id
rejoin-checks p id e =
    let h = rejoin-passed p id e in
    record { below = h.below; idle = h.idle; may = cut-checks p.roster.sync (session_at p.roster id).state h.may }

went-sync : (ro : Roster) (id : ℕ) → ro.sync ≡ false → (went ro id State.Reconnecting).sync ≡ false
unfolding went
went-sync ro id e = e

check-does : (p : Pool) (id : ℕ) → Valid p → Checks p id → Valid (check_done p id).pool
unfolding check_done checks
check-does p id v h =
    let c = checks-are (session_at p.roster id).state p.roster.sync h.may in
    pools Valid p.roster.sync _ _
    (λ e. idle-valid p (entered p.roster id) v h.idle (sync-enters p.roster id v.ok h.below e))
    (λ e. tried-keeps (with_roster p (went p.roster id State.Reconnecting))
    (idle-valid p (went p.roster id State.Reconnecting) v h.idle (reconnects-keeps p.roster id v.ok h.below e c.0 c.1))
    (went-sync p.roster id e))

pub check-keeps : (p : Pool) (id : ℕ) → Valid p → Valid (store_check p id).pool
unfolding store_check
check-keeps p id v = turned Valid (check_refusal p id) (check_done p id) p v (λ e. check-does p id v (check-passed p id e))

pub rejoin-keeps : (p : Pool) (id : ℕ) → Valid p → Valid (rejoin p id).pool
unfolding rejoin
rejoin-keeps p id v = turned Valid (rejoin_refusal p id) (check_done p id) p v (λ e. check-does p id v (rejoin-checks p id e))

-- a rejoin that is not refused is the store check
check-taken : (p : Pool) (id : ℕ) → rejoin_refusal p id ≡ 0 → check_refusal p id ≡ 0
unfolding rejoin_refusal check_refusal back_refusal
check-taken p id e = ap (λ (b : Bool). back_refusal p id b) ((rejoin-checks p id e).may ∙ sym (rejoin-passed p id e).may) ∙ e

pub rejoin-same : (p : Pool) (id : ℕ) → rejoin_refusal p id ≡ 0 → rejoin p id ≡ store_check p id
unfolding rejoin store_check
rejoin-same p id e = rw (eq-eqb (rejoin_refusal p id) 0 e, eq-eqb (check_refusal p id) 0 (check-taken p id e)) refl

rejoin-refused : (p : Pool) (id : ℕ) → eqb (rejoin_refusal p id) 0 ≡ false → rejoin p id ≡ refused p (rejoin_refusal p id)
unfolding rejoin
rejoin-refused p id z = refuses (rejoin_refusal p id) (check_done p id) p z

-- so what holds of a refusal and of the store check holds of the rejoin
pub as-check : (P : Turn → Type 0) (p : Pool) (id : ℕ) → ((n : ℕ) → P (refused p n)) → P (store_check p id) → P (rejoin p id)
as-check P p id r s =
    by_cases (eqb (rejoin_refusal p id) 0)
    (λ z. subst P (sym (rejoin-same p id (eqb-true (rejoin_refusal p id) 0 z))) s)
    (λ z. subst P (sym (rejoin-refused p id z)) (r (rejoin_refusal p id)))

-- What a good store check or a good rejoin leaves of the sessions: it is RECONNECTING, never NORMAL, save in a sync pool; the others stay.
pub checked-at : (p : Pool) (id : ℕ) → Long p.roster → id < 16
    → session_at (check_done p id).pool.roster id ≡ moved (session_at p.roster id) (pick p.roster.sync State.Normal State.Reconnecting)
unfolding check_done went
checked-at p id l h =
    pools (λ q. session_at q.roster id ≡ moved (session_at p.roster id) (pick p.roster.sync State.Normal State.Reconnecting)) p.roster.sync _ _
    (λ e. entered_at p.roster id l h ∙ to true e)
    (λ e. rw (tried-roster (with_roster p (went p.roster id State.Reconnecting))) (stored_same p.roster id (moved (session_at p.roster id) State.Reconnecting) l h ∙ to false e))
  where
    to : (b : Bool) → p.roster.sync ≡ b → moved (session_at p.roster id) (pick b State.Normal State.Reconnecting) ≡ moved (session_at p.roster id) (pick p.roster.sync State.Normal State.Reconnecting)
    to b e = ap (λ (k : Bool). moved (session_at p.roster id) (pick k State.Normal State.Reconnecting)) (sym e)

pub checked-other : (p : Pool) (id j : ℕ) → j ≢ id → session_at (check_done p id).pool.roster j ≡ session_at p.roster j
unfolding check_done went
checked-other p id j ne =
    pools (λ q. session_at q.roster j ≡ session_at p.roster j) p.roster.sync _ _
    (λ e. sync-entered-other p.roster id j e ne)
    (λ e. rw (tried-roster (with_roster p (went p.roster id State.Reconnecting))) (stored_other p.roster id (moved (session_at p.roster id) State.Reconnecting) j ne))

pub checked-numbers : (p : Pool) (id : ℕ) → Numbers p.roster (check_done p id).pool.roster p.roster.count p.roster.version p.roster.members
unfolding check_done went
checked-numbers p id =
    pools (λ q. Numbers p.roster q.roster p.roster.count p.roster.version p.roster.members) p.roster.sync _ _
    (λ e. entered-numbers p.roster id true e)
    (λ e. rw (tried-roster (with_roster p (went p.roster id State.Reconnecting))) (record { kind = refl; counted = refl; versioned = refl; held = refl }))

-- ---- try

pub try-keeps : (p : Pool) → Valid p → Valid (try_run p).pool
unfolding try_run try_refusal
try-keeps p v =
    by_cases (eqb (try_refusal p) 0)
    (λ z. let e = eqb-true (try_refusal p) 0 z in
    let a = passed (not (valid_pool p)) 1 _ (λ h. omega arith) e in
    let b = passed p.roster.sync 5 _ (λ h. omega arith) a.1 in
    rw z (tried-keeps p v b.0))
    (λ z. rw z v)
