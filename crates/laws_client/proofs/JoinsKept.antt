-- Joins, accepted or refused, keep the state rules; and what they leave of the sessions.
use mathlib.Core.Path.{◌≡◌, refl, sym, ap, ◌∙◌}
use mathlib.Core.Bool.{Bool, true, false, not, ◌&&◌, ◌||◌}
use mathlib.Core.Logic.{◌≢◌}
use Prim.Native.Nat.{ℕ, ◌≤◌, ◌<◌, max}
use native.Mathlib.Omega.{arith}
use lib.Dec.{eqb, ltb}
use borrow.Author.Tests.{eqb-true, ltb-false, not-false}
use Rattle.laws_words.specs.Words.{pick}
use Rattle.laws_words.specs.Tests.{clash, passed, picked}
use Rattle.rules_base.specs.Limits.{version_limit}
use Rattle.rules_base.specs.Sets.{has, with}
use Rattle.rules_base.proofs.Sets.{has-with-same}
use Rattle.rules_pool.specs.declared.State.{State}
use Rattle.rules_pool.specs.declared.Session.{Session}
use Rattle.rules_pool.specs.declared.Roster.{Roster}
use Rattle.rules_pool.specs.declared.Pool.{Pool}
use Rattle.rules_pool.specs.Session.{is_free, new_session, moved}
use Rattle.rules_pool.specs.Sessions.{session_at}
use Rattle.rules_pool.specs.Changes.{enrolled, went, member_entered, taken_over}
use Rattle.rules_pool.specs.Recovery.{with_roster}
use Rattle.laws_client.proofs.Exit.{turned}
use Rattle.rules_pool.specs.StateRules.{valid_pool}
use Rattle.rules_pool.specs.Jobs.{is_idle}
use Rattle.laws_client.proofs.Ids.{Long, stored_same, stored_other, stored-long}
use Rattle.laws_client.proofs.Rosters.{Ok}
use Rattle.laws_client.proofs.Pools.{Valid}
use Rattle.laws_client.proofs.Links.{reconnects-keeps}
use Rattle.laws_client.proofs.Joins.{entered-keeps, taken-keeps, begun-keeps, sync-begun}
use Rattle.laws_client.proofs.Tried.{idle-valid, tried-keeps}
use Rattle.laws_client.proofs.Records.{Numbers}
use Rattle.rules_client.specs.Joins.{create_refusal, created, create_done, join_create, set_bars, assemble_refusal, assembled, assemble_done, join_assemble}

-- ---- join, create

pub record Creates (p : Pool) (id : ℕ) : Type 0 where
  pub below : id < 16
  pub idle : is_idle p.job ≡ true
  pub none : is_free (session_at p.roster id).state ≡ true

pub create-passed : (p : Pool) (id : ℕ) → create_refusal p id ≡ 0 → Creates p id
unfolding create_refusal
create-passed p id e =
    let a = passed (not (valid_pool p)) 1 _ (λ h. omega arith) e in
    let b = passed (ltb 15 id) 3 _ (λ h. omega arith) a.1 in
    let c = passed (not (is_idle p.job)) 6 _ (λ h. omega arith) b.1 in
    let d = passed (not (is_free (session_at p.roster id).state)) 8 _ (λ h. omega arith) c.1 in
    record { below = omega (arith, ltb-false 15 id b.0); idle = not-false _ c.0; none = not-false _ d.0 }

created-keeps : (p : Pool) (id : ℕ) → Valid p → Creates p id → Ok (created p.roster id)
unfolding created
created-keeps p id v h =
    picked Ok p.roster.sync (enrolled p.roster id State.Normal) (member_entered (enrolled p.roster id State.Created) id)
    (λ e. sync-begun p.roster id v.ok h.below e)
    (λ e. begun-keeps (member_entered p.roster id) id State.Created (entered-keeps p.roster id v.ok e h.below) h.below e h.none refl (has-with-same p.roster.members id h.below))

pub create-keeps : (p : Pool) (id : ℕ) → Valid p → Valid (join_create p id).pool
unfolding join_create create_done
create-keeps p id v =
    turned Valid (create_refusal p id) (create_done p id) p v
    (λ e. let h = create-passed p id e in idle-valid p (created p.roster id) v h.idle (created-keeps p id v h))

-- What join create leaves of the sessions: a new one, CREATED or in a sync pool NORMAL, and the others as they were.
pub created-at : (ro : Roster) (id : ℕ) → Long ro → id < 16 → session_at (created ro id) id ≡ new_session (pick ro.sync State.Normal State.Created)
unfolding created
created-at ro id l h =
    picked (λ x. session_at x id ≡ new_session (pick ro.sync State.Normal State.Created)) ro.sync (enrolled ro id State.Normal) (member_entered (enrolled ro id State.Created) id)
    (λ e. rw e (stored_same ro id (new_session State.Normal) l h))
    (λ e. rw e (stored_same ro id (new_session State.Created) l h))

pub created-other : (ro : Roster) (id j : ℕ) → j ≢ id → session_at (created ro id) j ≡ session_at ro j
unfolding created
created-other ro id j ne =
    picked (λ x. session_at x j ≡ session_at ro j) ro.sync (enrolled ro id State.Normal) (member_entered (enrolled ro id State.Created) id)
    (λ e. stored_other ro id (new_session State.Normal) j ne)
    (λ e. stored_other ro id (new_session State.Created) j ne)

pub created-numbers : (ro : Roster) (id : ℕ) → Numbers ro (created ro id) ro.count ro.version (pick ro.sync ro.members (with ro.members id))
unfolding created
created-numbers ro id =
    picked (λ x. Numbers ro x ro.count ro.version (pick ro.sync ro.members (with ro.members id))) ro.sync
    (enrolled ro id State.Normal) (member_entered (enrolled ro id State.Created) id)
    (λ e. record { kind = refl; counted = refl; versioned = refl; held = rw e refl })
    (λ e. record { kind = refl; counted = refl; versioned = refl; held = rw e refl })

-- ---- join, assemble

pub record Assembles (p : Pool) (id set version : ℕ) : Type 0 where
  pub below : id < 16
  pub small : set < 65536
  pub plain : p.roster.sync ≡ false
  pub idle : is_idle p.job ≡ true
  pub none : is_free (session_at p.roster id).state ≡ true
  pub held : set_bars p.roster.members set id ≡ false
  pub low : version ≤ version_limit

or_parts : (a b : Bool) → (a || b) ≡ false → (a ≡ false) × (b ≡ false)
or_parts true b e = clash refl e
or_parts false b e = (refl, e)

pub assemble-passed : (p : Pool) (id set version : ℕ) → assemble_refusal p id set version ≡ 0 → Assembles p id set version
unfolding assemble_refusal
assemble-passed p id set version e =
    let a = passed (not (valid_pool p)) 1 _ (λ h. omega arith) e in
    let b = passed (ltb 15 id || ltb 65535 set) 3 _ (λ h. omega arith) a.1 in
    let b' = or_parts (ltb 15 id) (ltb 65535 set) b.0 in
    let c = passed p.roster.sync 5 _ (λ h. omega arith) b.1 in
    let d = passed (not (is_idle p.job)) 6 _ (λ h. omega arith) c.1 in
    let f = passed (not (is_free (session_at p.roster id).state)) 8 _ (λ h. omega arith) d.1 in
    let g = passed (set_bars p.roster.members set id) 10 _ (λ h. omega arith) f.1 in
    let k = passed (ltb version_limit version) 14 _ (λ h. omega arith) g.1 in
    record {
      below = omega (arith, ltb-false 15 id b'.0);
      small = omega (arith, ltb-false 65535 set b'.1);
      plain = c.0;
      idle = not-false _ d.0;
      none = not-false _ f.0;
      held = g.0;
      low = ltb-false version_limit version k.0;
    }

-- the set that stands after it holds the id
held_at : (members set id : ℕ) (h : Bool) → has set id ≡ h → (b : Bool) → eqb members 0 ≡ b → (c : Bool) → eqb set members ≡ c → (not h || (not b && not c)) ≡ false → has (pick b set members) id ≡ true
held_at members set id false e b f c g z = clash refl z
held_at members set id true e true f c g z = e
held_at members set id true e false f true g z = rw (sym (eqb-true set members g)) e
held_at members set id true e false f false g z = clash refl z

holds : (members set id : ℕ) → set_bars members set id ≡ false → has (pick (eqb members 0) set members) id ≡ true
unfolding set_bars
holds members set id e = held_at members set id (has set id) refl (eqb members 0) refl (eqb set members) refl e

assembled_keeps : (p : Pool) (id set version : ℕ) → Valid p → Assembles p id set version → Ok (assembled p.roster id set version)
unfolding assembled
assembled_keeps p id set version v h =
    let ro = taken_over p.roster set version in
    let ok = taken-keeps p.roster set version v.ok h.plain h.small h.low in
    let here : session_at (enrolled (taken_over p.roster set version) id State.Created) id ≡ new_session State.Created = stored_same (taken_over p.roster set version) id (new_session State.Created) v.ok.long h.below in
    reconnects-keeps (enrolled (taken_over p.roster set version) id State.Created) id
    (begun-keeps (taken_over p.roster set version) id State.Created ok h.below h.plain h.none refl (holds p.roster.members set id h.held))
    h.below h.plain (rw here refl) (rw here refl)

assembled-sync : (ro : Roster) (id set version : ℕ) → (assembled ro id set version).sync ≡ ro.sync
unfolding assembled went
assembled-sync ro id set version = refl

pub assemble-keeps : (p : Pool) (id set version : ℕ) → Valid p → Valid (join_assemble p id set version).pool
unfolding join_assemble assemble_done
assemble-keeps p id set version v =
    turned Valid (assemble_refusal p id set version) (assemble_done p id set version) p v
    (λ e. let h = assemble-passed p id set version e in
    tried-keeps (with_roster p (assembled p.roster id set version))
    (idle-valid p (assembled p.roster id set version) v h.idle (assembled_keeps p id set version v h))
    (assembled-sync p.roster id set version ∙ h.plain))

-- What join assemble leaves of them: a new one, RECONNECTING, the others as they were, and the larger version.
pub assembled-at : (ro : Roster) (id set version : ℕ) → Long ro → id < 16 → session_at (assembled ro id set version) id ≡ new_session State.Reconnecting
unfolding assembled went
assembled-at ro id set version l h =
    stored_same (enrolled (taken_over ro set version) id State.Created) id (moved (session_at (enrolled (taken_over ro set version) id State.Created) id) State.Reconnecting)
    (stored-long (taken_over ro set version) id (new_session State.Created) l) h
    ∙ ap (λ (s : Session). moved s State.Reconnecting) (stored_same (taken_over ro set version) id (new_session State.Created) l h)

pub assembled-other : (ro : Roster) (id set version j : ℕ) → j ≢ id → session_at (assembled ro id set version) j ≡ session_at ro j
unfolding assembled went
assembled-other ro id set version j ne =
    stored_other (enrolled (taken_over ro set version) id State.Created) id (moved (session_at (enrolled (taken_over ro set version) id State.Created) id) State.Reconnecting) j ne
    ∙ stored_other (taken_over ro set version) id (new_session State.Created) j ne

pub assembled-numbers : (ro : Roster) (id set version : ℕ)
    → Numbers ro (assembled ro id set version) ro.count (max ro.version version) (pick (eqb ro.members 0) set ro.members)
unfolding assembled went
assembled-numbers ro id set version = record { kind = refl; counted = refl; versioned = refl; held = refl }
