-- What a removal leaves, step by step: of its own session, of the member, of the client map. The other sessions' records and the version stay.
use mathlib.Core.Path.{◌≡◌, refl, ap}
use mathlib.Core.Bool.{Bool, true, false, not, ◌&&◌}
use mathlib.Core.Logic.{◌≢◌}
use Prim.Native.Nat.{ℕ, ◌-◌, ◌<◌}
use native.Mathlib.Omega.{arith}
use lib.Dec.{eqb, ltb}
use borrow.Author.Tests.{ltb-false, not-false}
use Rattle.laws_words.specs.Words.{pick}
use Rattle.laws_words.specs.Tests.{by_cases, passed}
use Rattle.rules_base.specs.Sets.{without}
use Rattle.rules_pool.specs.declared.Mode.{Mode}
use Rattle.rules_pool.specs.declared.State.{State}
use Rattle.rules_pool.specs.declared.Roster.{Roster}
use Rattle.rules_pool.specs.declared.Stage.{Stage}
use Rattle.rules_pool.specs.declared.Pool.{Pool}
use Rattle.rules_pool.specs.declared.Message.{Message}
use Rattle.rules_pool.specs.declared.Effect.{Effect}
use Rattle.rules_pool.specs.Session.{is_free, is_normal, is_deleting, is_owed, free, moved}
use Rattle.rules_pool.specs.declared.Kind.{Kind}
use Rattle.rules_pool.specs.declared.Way.{Way}
use Rattle.rules_pool.specs.Sessions.{session_at, ids_of}
use Rattle.rules_pool.specs.Changes.{more, went, owes, removing, member_dropped}
use Rattle.rules_pool.specs.StateRules.{valid_pool}
use Rattle.rules_pool.specs.Jobs.{is_idle}
use Rattle.rules_pool.specs.Recovery.{with_roster, posted}
use Rattle.laws_client.proofs.Ids.{Long, stored-long, stored_same, stored_other}
use Rattle.laws_client.proofs.Records.{Numbers, left_other, left-numbers, left-long}
use Rattle.rules_client.specs.declared.Gone.{Gone}
use Rattle.rules_client.specs.Removal.{state_of, mode_of, op_of, due, asked, freed_from, onward, departed, started, paid, well_answered}
use Rattle.rules_client.specs.Remove.{remove_refusal, other_mode}

-- What a step of the removal of id leaves: `frees` says that the session is freed; if then none is left, the client map is zeroed. Else e is done to it.
pub record Goes (p : Pool) (id : ℕ) (g : Gone) (frees : Bool) (members : ℕ) (e : Effect) : Type 0 where
  pub own : session_at g.posted.pool.roster id ≡ pick frees free (session_at p.roster id)
  pub others : (j : ℕ) → j ≢ id → session_at g.posted.pool.roster j ≡ session_at p.roster j
  pub numbers : Numbers p.roster g.posted.pool.roster p.roster.count p.roster.version members
  pub effect : g.effect ≡ pick (frees && (eqb (ids_of Kind.Present g.posted.pool.roster) 0 && not p.roster.sync)) Effect.ZeroAll e

-- one or the other
goes-pick : (p : Pool) (id : ℕ) (b : Bool) (x y : Gone) (f f' : Bool) (m m' : ℕ) (e e' : Effect) → Goes p id x f m e → Goes p id y f' m' e'
    → Goes p id (pick b x y) (pick b f f') (pick b m m') (pick b e e')
goes-pick p id true x y f f' m m' e e' g h = g
goes-pick p id false x y f f' m m' e e' g h = h

goes-as : (p : Pool) (id : ℕ) (g : Gone) (f f' : Bool) (m m' : ℕ) (e e' : Effect) → f ≡ f' → m ≡ m' → e ≡ e' → Goes p id g f m e → Goes p id g f' m' e'
goes-as p id g f f' m m' e e' a b c h = rw (← a, ← b, ← c) h

asks : (p : Pool) (id : ℕ) (st : Stage) (m : Message) (e : Effect) → Goes p id (record { posted = asked p id st m; effect = e }) false p.roster.members e
unfolding posted
asks p id st m e =
    record {
      own = refl;
      others = λ j d. refl;
      numbers = record { kind = refl; counted = refl; versioned = refl; held = refl };
      effect = refl;
    }

freed-goes : (p : Pool) (id : ℕ) (e : Effect) → Long p.roster → id < 16 → Goes p id (freed_from p id e) true p.roster.members e
unfolding freed_from
freed-goes p id e l h =
    record {
      own = stored_same p.roster id free l h;
      others = λ j d. stored_other p.roster id free j d;
      numbers = record { kind = refl; counted = refl; versioned = refl; held = refl };
      effect = refl;
    }

-- POOL_INFO is due to a peer
abbrev pub is_due : Stage → Roster → Bool
is_due st ro = ltb (due st ro) 16

not-pick : (b : Bool) → pick b false true ≡ not b
not-pick true = refl
not-pick false = refl

pick_same {ℓ} : {A : Type ℓ} (b : Bool) (x : A) → pick b x x ≡ x
pick_same true x = refl
pick_same false x = refl

-- after LEAVE_POOL or a POOL_INFO
onward-goes : (p : Pool) (id : ℕ) (st : Stage) (e : Effect) → Long p.roster → id < 16 → Goes p id (onward p id st e) (not (is_due st p.roster)) p.roster.members e
unfolding onward
onward-goes p id st e l h =
    let m = p.roster.members in
    let b = is_due st p.roster in
    goes-as p id (onward p id st e) (pick b false true) (not b) (pick b m m) m (pick b e e) e (not-pick b) (pick_same b m) (pick_same b e)
    (goes-pick p id b _ (freed_from p id e) false true m m e e
    (asks p id (Stage.Info (due st p.roster)) (Message.Info (due st p.roster) (op_of (state_of p id)) id) e)
    (freed-goes p id e l h))

dropped-due : (ro : Roster) (id : ℕ) → is_due Stage.Leave (member_dropped ro id) ≡ is_due Stage.Leave ro
unfolding due ids_of
dropped-due ro id = refl

-- LEAVE is done or not owed: a member that is deleted is dropped, and its row zeroed
abbrev pub is_out : Pool → ℕ → Bool
is_out p id = is_deleting (state_of p id) && not p.roster.sync

pub departed-goes : (p : Pool) (id : ℕ) → Long p.roster → id < 16
    → Goes p id (departed p id) (not (is_due Stage.Leave p.roster)) (pick (is_out p id) (without p.roster.members id) p.roster.members) (pick (is_out p id) (Effect.ZeroRow id) Effect.Keep)
unfolding departed
departed-goes p id l h =
    let f = not (is_due Stage.Leave p.roster) in
    let g = goes-as (with_roster p (member_dropped p.roster id)) id (onward (with_roster p (member_dropped p.roster id)) id Stage.Leave (Effect.ZeroRow id)) (not (is_due Stage.Leave (member_dropped p.roster id))) f
    (without p.roster.members id) (without p.roster.members id) (Effect.ZeroRow id) (Effect.ZeroRow id) (ap not (dropped-due p.roster id)) refl refl
    (onward-goes (with_roster p (member_dropped p.roster id)) id Stage.Leave (Effect.ZeroRow id) l h) in
    let x : Goes p id (onward (with_roster p (member_dropped p.roster id)) id Stage.Leave (Effect.ZeroRow id)) f (without p.roster.members id) (Effect.ZeroRow id)
    = record { own = g.own; others = g.others; numbers = record { kind = g.numbers.kind; counted = g.numbers.counted; versioned = g.numbers.versioned; held = g.numbers.held }; effect = g.effect } in
    goes-as p id (departed p id) (pick (is_out p id) f f) f (pick (is_out p id) (without p.roster.members id) p.roster.members) (pick (is_out p id) (without p.roster.members id) p.roster.members)
    (pick (is_out p id) (Effect.ZeroRow id) Effect.Keep) (pick (is_out p id) (Effect.ZeroRow id) Effect.Keep) (pick_same (is_out p id) f) refl refl
    (goes-pick p id (is_out p id) (onward (with_roster p (member_dropped p.roster id)) id Stage.Leave (Effect.ZeroRow id)) (onward p id Stage.Leave Effect.Keep)
    f f (without p.roster.members id) p.roster.members (Effect.ZeroRow id) Effect.Keep x (onward-goes p id Stage.Leave Effect.Keep l h))

-- A removal that starts, or starts over.
pub started-goes : (p : Pool) (id : ℕ) → Long p.roster → id < 16
    → Goes p id (started p id) (pick (is_owed (state_of p id)) false (not (is_due Stage.Leave p.roster)))
    (pick (is_owed (state_of p id)) p.roster.members (pick (is_out p id) (without p.roster.members id) p.roster.members))
    (pick (is_owed (state_of p id)) Effect.Keep (pick (is_out p id) (Effect.ZeroRow id) Effect.Keep))
unfolding started
started-goes p id l h =
    goes-pick p id (is_owed (state_of p id)) (record { posted = asked p id Stage.Leave (Message.Leave id (mode_of (state_of p id))); effect = Effect.Keep }) (departed p id)
    false (not (is_due Stage.Leave p.roster)) p.roster.members _ Effect.Keep _
    (asks p id Stage.Leave (Message.Leave id (mode_of (state_of p id))) Effect.Keep)
    (departed-goes p id l h)

-- LEAVE_POOL answered well: the session stays REMOVING, and owes it no longer
pub paid-at : (p : Pool) (id : ℕ) → Long p.roster → id < 16 → session_at (paid p id).roster id ≡ moved (session_at p.roster id) (State.Removing (mode_of (state_of p id)) false)
unfolding went
paid-at p id l h = stored_same p.roster id (moved (session_at p.roster id) (State.Removing (mode_of (state_of p id)) false)) l h

pub paid_other : (p : Pool) (id j : ℕ) → j ≢ id → session_at (paid p id).roster j ≡ session_at p.roster j
unfolding went
paid_other p id j d = stored_other p.roster id (moved (session_at p.roster id) (State.Removing (mode_of (state_of p id)) false)) j d

pub paid-long : (p : Pool) (id : ℕ) → Long p.roster → Long (paid p id).roster
unfolding went
paid-long p id l = stored-long p.roster id (moved (session_at p.roster id) (State.Removing (mode_of (state_of p id)) false)) l

pub paid-numbers : (p : Pool) (id : ℕ) → Numbers p.roster (paid p id).roster p.roster.count p.roster.version p.roster.members
unfolding went
paid-numbers p id = record { kind = refl; counted = refl; versioned = refl; held = refl }

-- a POOL_INFO answered well
pub told-goes : (p : Pool) (id peer : ℕ) → Long p.roster → id < 16 → Goes p id (well_answered (Stage.Info peer) p id) (not (is_due (Stage.Info peer) p.roster)) p.roster.members Effect.Keep
told-goes p id peer l h = onward-goes p id (Stage.Info peer) Effect.Keep l h

-- ---- the event

pub removing-other : (ro : Roster) (id j : ℕ) (mode : Mode) → j ≢ id → session_at (removing ro id mode) j ≡ session_at ro j
unfolding removing went
removing-other ro id j mode d =
    by_cases (is_normal (session_at ro id).state)
    (λ e. rw e (left_other ro id (Way.Removing mode true) j d))
    (λ e. rw e (stored_other ro id (moved (session_at ro id) (State.Removing mode (owes (session_at ro id).state))) j d))

-- leaving NORMAL raises the version, in a pool that counts
pub removing-numbers : (ro : Roster) (id : ℕ) (mode : Mode) (b : Bool) → ro.sync ≡ b
    → Numbers ro (removing ro id mode) (pick (is_normal (session_at ro id).state) (pick b ro.count (ro.count - 1)) ro.count) (pick (is_normal (session_at ro id).state) (pick b ro.version (more ro.version)) ro.version) ro.members
unfolding removing went
removing-numbers ro id mode b sync =
    by_cases (is_normal (session_at ro id).state)
    (λ e. rw e (left-numbers ro id (Way.Removing mode true) b sync))
    (λ e. rw e (record { kind = refl; counted = refl; versioned = refl; held = refl }))

pub removing-long : (ro : Roster) (id : ℕ) (mode : Mode) → Long ro → Long (removing ro id mode)
unfolding removing went
removing-long ro id mode l =
    by_cases (is_normal (session_at ro id).state)
    (λ e. rw e (left-long ro id (Way.Removing mode true) l))
    (λ e. rw e (stored-long ro id (moved (session_at ro id) (State.Removing mode (owes (session_at ro id).state))) l))

pub record Removable (p : Pool) (id : ℕ) (mode : Mode) : Type 0 where
  pub below : id < 16
  pub idle : is_idle p.job ≡ true
  pub some : is_free (state_of p id) ≡ false
  pub mode-same : other_mode (state_of p id) mode ≡ false

pub remove-passed : (p : Pool) (sound : Bool) (id : ℕ) (mode : Mode) → remove_refusal p sound id mode ≡ 0 → Removable p id mode
unfolding remove_refusal
remove-passed p sound id mode e =
    let a = passed (not (valid_pool p)) 1 _ (λ h. omega arith) e in
    let b = passed (not sound) 2 _ (λ h. omega arith) a.1 in
    let c = passed (ltb 15 id) 3 _ (λ h. omega arith) b.1 in
    let d = passed (not (is_idle p.job)) 6 _ (λ h. omega arith) c.1 in
    let f = passed (is_free (state_of p id)) 7 _ (λ h. omega arith) d.1 in
    let g = passed (other_mode (state_of p id) mode) 9 _ (λ h. omega arith) f.1 in
    record { below = omega (arith, ltb-false 15 id c.0); idle = not-false _ d.0; some = f.0; mode-same = g.0 }
