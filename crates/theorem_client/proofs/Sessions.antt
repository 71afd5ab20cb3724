-- Joins, store check, enable, maintenance, link down: what an accepted one does; and how a session becomes NORMAL.
use Rattle.std.specs.Prelude.{Option, Some, None}
use mathlib.Core.Path.{◌≡◌, refl, ap, ◌∙◌, sym}
use mathlib.Core.Bool.{Bool, true, false}
use Prim.Native.Nat.{ℕ, max}
use native.Mathlib.Omega.{arith}
use lib.Dec.{eqb}
use Rattle.laws_words.specs.Tests.{clash, by_cases, and_left}
use Rattle.laws_words.specs.Words.{pick}
use Rattle.rules_pool.specs.Session.{is_created, is_normal, is_reconnecting, is_removing, moved, flagged}
use Rattle.rules_pool.specs.declared.Job.{Job}
use Rattle.rules_pool.specs.declared.Outcome.{Outcome}
use Rattle.rules_pool.specs.declared.Pool.{Pool}
use Rattle.rules_pool.specs.declared.Removal.{Removal}
use Rattle.rules_pool.specs.declared.Roster.{Roster}
use Rattle.rules_pool.specs.declared.Run.{Run}
use Rattle.rules_pool.specs.declared.Session.{Session}
use Rattle.rules_pool.specs.declared.Cause.{Cause}
use Rattle.rules_pool.specs.declared.State.{State}
use Rattle.rules_pool.specs.declared.Told.{Told}
use Rattle.rules_pool.specs.declared.Turn.{Turn}
use Rattle.rules_pool.specs.Sessions.{session_at}
use Rattle.rules_pool.specs.Changes.{flagged_at}
use Rattle.rules_pool.specs.declared.Way.{Way}
use Rattle.rules_pool.specs.Cases.{begun}
use Rattle.rules_pool.specs.Recovery.{with_roster, posted, tried, run_ended, beginning}
use Rattle.rules_pool.specs.Jobs.{is_idle, is_running, peer_at, is_peer}
use Rattle.laws_client.proofs.Pools.{Valid, removal-facts}
use Rattle.laws_client.proofs.Records.{left_at, raised_if}
use Rattle.laws_client.proofs.Tried.{tried-roster}
use Rattle.laws_client.proofs.JoinsKept.{create-passed, created-at, assemble-passed, assembled-at, assembled-numbers}
use Rattle.rules_client.specs.Joins.{create_refusal, create_done, join_create, assemble_refusal, assembled, assemble_done, join_assemble}
use Rattle.laws_client.proofs.EnablesKept.{enable-passed, enabled-at, maintenance-passed, Enables}
use Rattle.rules_client.specs.Enables.{enables, enable_refusal, enable, maintenance_refusal, maintenance_done, enable_done, maintenance}
use Rattle.laws_client.proofs.LinksKept.{down-passed, down-roster, dropped-at, dropped-other, check-passed, checked-at}
use Rattle.rules_client.specs.Links.{down_refusal, dropped, down_done, link_down, check_refusal, store_check, check_done, down_at}
use Rattle.rules_pool.specs.Breaking.{is_accepted}
use Rattle.rules_client.specs.Events.{Event, turn_of, next, state_of, is_sync, record_of, job_of}
use Rattle.theorem_client.specs.Said.{reported, version_of, Becomes, flag_of, sends, begins, recovery_in, Dropped}
use Rattle.theorem_client.proofs.Fates.{Fate, state-of, kept-stands}
use Rattle.theorem_client.proofs.Shape.{taken}
use Rattle.theorem_client.proofs.States.{reconnecting-is}
use native.Mathlib.Decide.{ℕ_discrete}

-- ---- joins

pub create-said : (c : Pool) (id : ℕ) → Valid c → is_accepted (turn_of (Event.join_create id) c).answer ≡ true → state_of (next (Event.join_create id) c) id ≡ pick (is_sync c) State.Normal State.Created
unfolding join_create create_done
create-said c id v =
    taken (λ t. (session_at t.pool.roster id).state ≡ pick (is_sync c) State.Normal State.Created) (create_refusal c id) (create_done c id) c
    (λ e. ap (λ (s : Session). s.state) (created-at c.roster id v.ok.long (create-passed c id e).below))

pub assemble-said : (c : Pool) (id set version : ℕ) → Valid c → is_accepted (turn_of (Event.join_assemble id set version) c).answer ≡ true
    → (state_of (next (Event.join_assemble id set version) c) id ≡ State.Reconnecting) × (version_of (next (Event.join_assemble id set version) c) ≡ max (version_of c) version)
unfolding join_assemble assemble_done
assemble-said c id set version v =
    taken (λ t. ((session_at t.pool.roster id).state ≡ State.Reconnecting) × (t.pool.roster.version ≡ max (version_of c) version))
    (assemble_refusal c id set version) (assemble_done c id set version) c
    (λ e. let same = tried-roster (with_roster c (assembled c.roster id set version)) in (
      ap (λ (ro : Roster). (session_at ro id).state) same ∙ ap (λ (s : Session). s.state) (assembled-at c.roster id set version v.ok.long (assemble-passed c id set version e).below),
      ap (λ (ro : Roster). ro.version) same ∙ (assembled-numbers c.roster id set version).versioned,
    ))

-- ---- store check

pub check-reconnects : (c : Pool) (id : ℕ) → Valid c → is_sync c ≡ false → is_accepted (turn_of (Event.store_check id) c).answer ≡ true → state_of (next (Event.store_check id) c) id ≡ State.Reconnecting
unfolding store_check
check-reconnects c id v plain =
    taken (λ t. (session_at t.pool.roster id).state ≡ State.Reconnecting) (check_refusal c id) (check_done c id) c
    (λ e. ap (λ (s : Session). s.state) (checked-at c id v.ok.long (check-passed c id e).below) ∙ ap (λ (b : Bool). pick b State.Normal State.Reconnecting) plain)

-- ---- how a session becomes NORMAL

-- NORMAL after, by what its state is then
after-normal : (c' : Pool) (id : ℕ) (st : State) → state_of c' id ≡ st → is_normal (state_of c' id) ≡ true → is_normal st ≡ true
after-normal c' id st e n = sym (ap is_normal e) ∙ n

pub becomes : (c : Pool) (e : Event) (c' : Pool) (id : ℕ) → is_sync c ≡ false → is_normal (state_of c id) ≡ false → is_normal (state_of c' id) ≡ true → Fate c e c' id → Becomes c id e
becomes c e c' id plain was is (Fate.kept k) = clash (after-normal c' id _ (kept-stands c c' id k) is) was
becomes c e c' id plain was is (Fate.begins x st r) = clash (after-normal c' id _ (state-of c' id _ r) is) (rw plain refl)
becomes c e c' id plain was is (Fate.joins set version x p st r) = clash (after-normal c' id _ (state-of c' id _ r) is) refl
becomes c e c' id plain was is (Fate.goes to l n b w r) = b (after-normal c' id _ (state-of c' id _ r) is) plain
becomes c e c' id plain was is (Fate.fails cause last w x n b r) = clash n was
becomes c e c' id plain was is (Fate.maintained last x p n b r) = clash n was
becomes c e c' id plain was is (Fate.unflagged x k r) = clash (after-normal c' id _ (state-of c' id _ r) is) was
becomes c e c' id plain was is (Fate.paid mode st r) = clash (after-normal c' id _ (state-of c' id _ r) is) refl
becomes c e c' id plain was is (Fate.freed i m r) = clash (after-normal c' id _ (state-of c' id _ r) is) refl
becomes c e c' id plain was is (Fate.removed xs mode x l r) = clash (after-normal c' id _ (state-of c' id _ r) is) refl
becomes c e c' id plain was is (Fate.extends xs x p st r) = clash (after-normal c' id _ (state-of c' id _ r) is) refl

-- ---- the job in hand

pub idle-is : (j : Job) → is_idle j ≡ true → j ≡ Job.Idle
idle-is Job.Idle e = refl
idle-is (Job.Running r) e = clash e refl
idle-is (Job.Removing m) e = clash e refl

-- after recovery was tried with no job in hand
pub tried-job : (p : Pool) → p.job ≡ Job.Idle → (tried p).pool.job ≡ recovery_in (tried p).pool
unfolding tried posted
tried-job p idle = at (begun p.roster) refl
  where
    at : (n : Option Run) → begun p.roster ≡ n → (beginning n p).pool.job ≡ begins (begun (beginning n p).pool.roster)
    at None e = idle ∙ sym (ap begins e)
    at (Some r) e = sym (ap begins e)

-- ---- enable

abbrev EnabledTo : Pool → ℕ → Turn → Type 0
EnabledTo c id t =
    (is_created (state_of c id) ≡ true → ((session_at t.pool.roster id).state ≡ State.Normal) × (t.pool.job ≡ Job.Idle) × (t.answer ≡ sends Outcome.Plain Told.Nothing))
    × (is_created (state_of c id) ≡ false
    → ((session_at t.pool.roster id).state ≡ State.Reconnecting) × ((session_at t.pool.roster id).maintenance ≡ false) × (t.pool.job ≡ recovery_in t.pool))

enabled-to : (c : Pool) (id : ℕ) → Valid c → Enables c id → EnabledTo c id (enable_done c id)
unfolding enable_done enables
enabled-to c id v h = (
  (λ b. (ap (λ (s : Session). s.state) (r true b), rw b idle, rw b refl)),
  λ b. (
    ap (λ (s : Session). s.state) (r false b) ∙ reconnecting-is (state_of c id) (and_left (is_reconnecting (state_of c id)) (record_of c id).maintenance (rw b at h.may)),
    ap (λ (s : Session). s.maintenance) (r false b),
    rw b (tried-job (with_roster c (flagged_at c.roster id false)) idle),
  ),
)
  where
    idle : job_of c ≡ Job.Idle
    idle = idle-is c.job h.idle

    r : (b : Bool) → is_created (state_of c id) ≡ b → session_at (enable_done c id).pool.roster id ≡ pick b (moved (record_of c id) State.Normal) (flagged (record_of c id) false)
    r b e = enabled-at c id v.ok.long h.below ∙ ap (λ (k : Bool). pick k (moved (record_of c id) State.Normal) (flagged (record_of c id) false)) e

pub enable-said : (c : Pool) (id : ℕ) → Valid c → is_accepted (turn_of (Event.enable id) c).answer ≡ true → EnabledTo c id (enable c id)
unfolding enable
enable-said c id v = taken (EnabledTo c id) (enable_refusal c id) (enable_done c id) c (λ e. enabled-to c id v (enable-passed c id e))

-- ---- maintenance

pub maintenance-said : (c : Pool) (id : ℕ) → Valid c → is_accepted (turn_of (Event.maintenance id) c).answer ≡ true
    → (state_of (next (Event.maintenance id) c) id ≡ State.Reconnecting)
    × (flag_of (next (Event.maintenance id) c) id ≡ true)
    × ((turn_of (Event.maintenance id) c).answer ≡ sends Outcome.Plain (Told.Off id))
unfolding maintenance maintenance_done
maintenance-said c id v =
    taken (λ t. ((session_at t.pool.roster id).state ≡ State.Reconnecting) × ((session_at t.pool.roster id).maintenance ≡ true) × (t.answer ≡ sends Outcome.Plain (Told.Off id)))
    (maintenance_refusal c id) (maintenance_done c id) c
    (λ e. let r = left_at c.roster id Way.Maintenance v.ok.long (maintenance-passed c id e).below in
    (ap (λ (s : Session). s.state) r, ap (λ (s : Session). s.maintenance) r, refl))

-- ---- link down

-- a job is one of the three
idle-run {ℓ} : {A : Type ℓ} (r : Run) → Job.Idle ≡ Job.Running r → A
idle-run r e = absurd (let z : ◌≡◌ {A = ℕ} 0 1 = cc e in omega arith)

idle-removal {ℓ} : {A : Type ℓ} (m : Removal) → Job.Idle ≡ Job.Removing m → A
idle-removal m e = absurd (let z : ◌≡◌ {A = ℕ} 0 1 = cc e in omega arith)

run-removal {ℓ} : {A : Type ℓ} (r : Run) (m : Removal) → Job.Running r ≡ Job.Removing m → A
run-removal r m e = absurd (let z : ◌≡◌ {A = ℕ} 0 1 = cc e in omega arith)

-- what becomes of the job k
record Jobs (id : ℕ) (k : Job) (t : Turn) : Type 0 where
  idle : k ≡ Job.Idle → t.pool.job ≡ Job.Idle
  ends : (r : Run) → k ≡ Job.Running r → (reported t.answer ≡ Outcome.Taken r.taken) × (t.pool.job ≡ recovery_in t.pool)
  halted : (m : Removal) → k ≡ Job.Removing m → t.pool.job ≡ pick (eqb (peer_at m.stage m.id) id) Job.Idle (Job.Removing m)

down-jobs : (k : Job) (p : Pool) (id : ℕ) → p.job ≡ k → Jobs id k (down_at k p id)
down-jobs Job.Idle p id e = record { idle = λ z. e; ends = λ r z. idle-run r z; halted = λ m z. idle-removal m z }
down-jobs (Job.Running r) p id e =
    record {
      idle = λ z. idle-run r (sym z);
      ends = λ r' z. ((let q : r ≡ r' = cc z in ap (λ (x : Run). Outcome.Taken x.taken) q), tried-job (run_ended (with_roster p (dropped p.roster id))) refl);
      halted = λ m z. run-removal r m z;
    }
down-jobs (Job.Removing m) p id e =
    record {
      idle = λ z. idle-removal m (sym z);
      ends = λ r z. run-removal r m (sym z);
      halted = λ m' z. let q : m ≡ m' = cc z in (by_cases (is_peer (Job.Removing m) id) (λ b. rw b refl) (λ b. rw b e)) ∙ ap (λ (x : Removal). pick (eqb (peer_at x.stage x.id) id) Job.Idle (Job.Removing x)) q;
    }

abbrev Downed : Pool → ℕ → Turn → Type 0
Downed c id t =
    Jobs id (job_of c) t
    × ((session_at t.pool.roster id).state ≡ pick (is_removing (state_of c id)) (state_of c id) (State.Failed Cause.Link))
    × ((m : Removal) → job_of c ≡ Job.Removing m → session_at t.pool.roster m.id ≡ record_of c m.id)

downed : (c : Pool) (id : ℕ) → Valid c → down_refusal c id ≡ 0 → Downed c id (down_done c id)
unfolding down_done
downed c id v e = (
  down-jobs c.job c id refl,
  ap (λ (s : Session). s.state) (ap (λ (ro : Roster). session_at ro id) same ∙ dropped-at c.roster id v.ok.long (down-passed c id e).below)
      ∙ by_cases (is_removing (state_of c id)) (λ b. rw b refl) (λ b. rw b refl),
  stays,
)
  where
    same : (down_at c.job c id).pool.roster ≡ raised_if (is_running c.job) (dropped c.roster id)
    same = down-roster c.job c id

    stays : (m : Removal) → job_of c ≡ Job.Removing m → session_at (down_at c.job c id).pool.roster m.id ≡ record_of c m.id
    stays m job =
        let h = removal-facts c.roster m v.ok.long (rw job at v.job) in
        ap (λ (ro : Roster). session_at ro m.id) same
        ∙ elim (ℕ_discrete m.id id) [
          | yes p ↦ rw p (dropped-at c.roster id v.ok.long (down-passed c id e).below ∙ rw (rw p at h.removing) refl)
          | no d ↦ dropped-other c.roster id m.id d
        ]

pub down-said : (c : Pool) (id : ℕ) → Valid c → is_accepted (turn_of (Event.link_down id) c).answer ≡ true → Dropped c id (Event.link_down id)
unfolding link_down
down-said c id v d =
    let t = taken (Downed c id) (down_refusal c id) (down_done c id) c (downed c id v) d in
    record { fails = t.1; idle = t.0.idle; ends = t.0.ends; halts = λ m job. (t.0.halted m job, t.2 m job) }
