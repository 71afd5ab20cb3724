-- Enable and maintenance, accepted or refused, keep the state rules; and what enable leaves of the sessions.
use mathlib.Core.Path.{◌≡◌, refl, sym}
use mathlib.Core.Bool.{true, false, not, ◌&&◌}
use mathlib.Core.Logic.{◌≢◌}
use Prim.Native.Nat.{ℕ, ◌<◌}
use native.Mathlib.Omega.{arith}
use lib.Dec.{ltb}
use borrow.Author.Tests.{ltb-false, not-false}
use Rattle.laws_words.specs.Words.{pick}
use Rattle.laws_words.specs.Tests.{by_cases, clash, passed, and_left}
use Rattle.rules_base.specs.Limits.{version_limit}
use Rattle.rules_pool.specs.declared.State.{State}
use Rattle.rules_pool.specs.declared.Session.{Session}
use Rattle.rules_pool.specs.declared.Pool.{Pool}
use Rattle.rules_pool.specs.Past.{in_service}
use Rattle.rules_pool.specs.Session.{is_free, is_created, is_normal, is_reconnecting, moved, flagged}
use Rattle.rules_pool.specs.declared.Way.{Way}
use Rattle.rules_pool.specs.Sessions.{session_at}
use Rattle.rules_pool.specs.Changes.{more, unmarked, entered, left, flagged_at}
use Rattle.rules_pool.specs.Recovery.{with_roster}
use Rattle.laws_client.proofs.Exit.{turned}
use Rattle.rules_pool.specs.StateRules.{valid_pool}
use Rattle.rules_pool.specs.Jobs.{is_idle}
use Rattle.laws_client.proofs.Ids.{Long, stored_same, stored_other}
use Rattle.laws_client.proofs.Pools.{Valid}
use Rattle.laws_client.proofs.Links.{is_live, away-keeps, unflagged-keeps, enters-keeps}
use Rattle.laws_client.proofs.Tried.{idle-valid, tried-keeps, tried-roster}
use Rattle.laws_client.proofs.Runs.{entered-other}
use Rattle.laws_client.proofs.Records.{Numbers, entered_at, entered-numbers}
use Rattle.rules_client.specs.Enables.{enables, enable_refusal, enable_done, enable, maintenance_refusal, maintenance_done, maintenance}

created-is : (st : State) → is_created st ≡ true → (is_normal st ≡ false) × (is_live st ≡ true)
created-is State.Free e = clash refl (sym e)
created-is State.Created e = (refl, refl)
created-is State.Normal e = clash refl (sym e)
created-is (State.Failed cause) e = clash refl (sym e)
created-is State.Reconnecting e = clash refl (sym e)
created-is (State.Removing m owed) e = clash refl (sym e)

-- ---- enable

pub record Enables (p : Pool) (id : ℕ) : Type 0 where
  pub below : id < 16
  pub plain : p.roster.sync ≡ false
  pub idle : is_idle p.job ≡ true
  pub may : enables (session_at p.roster id) ≡ true
  pub low : (is_created (session_at p.roster id).state && ltb version_limit p.roster.version) ≡ false

pub enable-passed : (p : Pool) (id : ℕ) → enable_refusal p id ≡ 0 → Enables p id
unfolding enable_refusal
enable-passed p id e =
    let a = passed (not (valid_pool p)) 1 _ (λ h. omega arith) e in
    let b = passed (ltb 15 id) 3 _ (λ h. omega arith) a.1 in
    let c = passed p.roster.sync 5 _ (λ h. omega arith) b.1 in
    let d = passed (not (is_idle p.job)) 6 _ (λ h. omega arith) c.1 in
    let f = passed (is_free (session_at p.roster id).state) 7 _ (λ h. omega arith) d.1 in
    let g = passed (not (enables (session_at p.roster id))) 9 _ (λ h. omega arith) f.1 in
    let l = passed (is_created (session_at p.roster id).state && in_service p.roster.past) 17 _ (λ h. omega arith) g.1 in
    let k = passed (is_created (session_at p.roster id).state && ltb version_limit p.roster.version) 14 _ (λ h. omega arith) l.1 in
    record {
      below = omega (arith, ltb-false 15 id b.0);
      plain = c.0;
      idle = not-false _ d.0;
      may = not-false _ g.0;
      low = k.0;
    }

-- on a session that is not CREATED, maintenance ends
flagged-is : (s : Session) → enables s ≡ true → is_created s.state ≡ false → is_reconnecting s.state ≡ true
unfolding enables
flagged-is s e f = and_left (is_reconnecting s.state) s.maintenance (rw f at e)

enable-does : (p : Pool) (id : ℕ) → Valid p → Enables p id → Valid (enable_done p id).pool
unfolding enable_done
enable-does p id v h =
    by_cases (is_created (session_at p.roster id).state)
    (λ e. let c = created-is (session_at p.roster id).state e in
    let low : ltb version_limit p.roster.version ≡ false = rw e at h.low in
    rw e (idle-valid p (entered p.roster id) v h.idle (enters-keeps p.roster id v.ok h.below h.plain c.0 c.1 (ltb-false version_limit p.roster.version low))))
    (λ e. rw e (tried-keeps (with_roster p (flagged_at p.roster id false))
    (idle-valid p (flagged_at p.roster id false) v h.idle (unflagged-keeps p.roster id v.ok h.below h.plain (flagged-is (session_at p.roster id) h.may e)))
    h.plain))

pub enable-keeps : (p : Pool) (id : ℕ) → Valid p → Valid (enable p id).pool
unfolding enable
enable-keeps p id v = turned Valid (enable_refusal p id) (enable_done p id) p v (λ e. enable-does p id v (enable-passed p id e))

-- What enable leaves of the sessions: from CREATED it is NORMAL, and the mark goes from every other; in maintenance only the flag goes.
pub enabled-at : (p : Pool) (id : ℕ) → Long p.roster → id < 16
    → session_at (enable_done p id).pool.roster id ≡ pick (is_created (session_at p.roster id).state) (moved (session_at p.roster id) State.Normal) (flagged (session_at p.roster id) false)
unfolding enable_done
enabled-at p id l h =
    by_cases (is_created (session_at p.roster id).state)
    (λ e. rw e (entered_at p.roster id l h))
    (λ e. rw (e, tried-roster (with_roster p (flagged_at p.roster id false))) (stored_same p.roster id (flagged (session_at p.roster id) false) l h))

pub enabled-other : (p : Pool) (id j : ℕ) → p.roster.sync ≡ false → j ≢ id
    → session_at (enable_done p id).pool.roster j ≡ pick (is_created (session_at p.roster id).state) (unmarked (session_at p.roster j)) (session_at p.roster j)
unfolding enable_done
enabled-other p id j plain ne =
    by_cases (is_created (session_at p.roster id).state)
    (λ e. rw e (entered-other p.roster id j plain ne))
    (λ e. rw (e, tried-roster (with_roster p (flagged_at p.roster id false))) (stored_other p.roster id (flagged (session_at p.roster id) false) j ne))

pub enabled-numbers : (p : Pool) (id : ℕ) → p.roster.sync ≡ false
    → Numbers p.roster (enable_done p id).pool.roster (pick (is_created (session_at p.roster id).state) (more p.roster.count) p.roster.count) p.roster.version p.roster.members
unfolding enable_done
enabled-numbers p id plain =
    by_cases (is_created (session_at p.roster id).state)
    (λ e. rw e (entered-numbers p.roster id false plain))
    (λ e. rw (e, tried-roster (with_roster p (flagged_at p.roster id false))) (record { kind = refl; counted = refl; versioned = refl; held = refl }))

-- ---- maintenance

pub record Maintains (p : Pool) (id : ℕ) : Type 0 where
  pub below : id < 16
  pub plain : p.roster.sync ≡ false
  pub idle : is_idle p.job ≡ true
  pub normal : is_normal (session_at p.roster id).state ≡ true

pub maintenance-passed : (p : Pool) (id : ℕ) → maintenance_refusal p id ≡ 0 → Maintains p id
unfolding maintenance_refusal
maintenance-passed p id e =
    let a = passed (not (valid_pool p)) 1 _ (λ h. omega arith) e in
    let b = passed (ltb 15 id) 3 _ (λ h. omega arith) a.1 in
    let c = passed p.roster.sync 5 _ (λ h. omega arith) b.1 in
    let d = passed (not (is_idle p.job)) 6 _ (λ h. omega arith) c.1 in
    let f = passed (is_free (session_at p.roster id).state) 7 _ (λ h. omega arith) d.1 in
    let g = passed (not (is_normal (session_at p.roster id).state)) 9 _ (λ h. omega arith) f.1 in
    record { below = omega (arith, ltb-false 15 id b.0); plain = c.0; idle = not-false _ d.0; normal = not-false _ g.0 }

pub maintenance-keeps : (p : Pool) (id : ℕ) → Valid p → Valid (maintenance p id).pool
unfolding maintenance maintenance_done
maintenance-keeps p id v =
    turned Valid (maintenance_refusal p id) (maintenance_done p id) p v
    (λ e. let h = maintenance-passed p id e in
    idle-valid p (left p.roster id Way.Maintenance) v h.idle (away-keeps p.roster id Way.Maintenance v.ok h.below h.plain h.normal refl))
