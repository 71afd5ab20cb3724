-- Link down, a good store check, a good rejoin, try.
use mathlib.Core.Path.{◌≡◌, refl, sym, subst}
use mathlib.Core.Bool.{Bool, true, false, not}
use Prim.Native.Nat.{ℕ}
use native.Mathlib.Decide.{ℕ_discrete}
use native.Mathlib.Omega.{arith}
use borrow.Author.Tests.{not-false}
use Rattle.laws_words.specs.Words.{pick}
use Rattle.laws_words.specs.Tests.{clash, picked, passed}
use Rattle.rules_pool.specs.declared.Cause.{Cause}
use Rattle.rules_pool.specs.declared.State.{State}
use Rattle.rules_pool.specs.declared.Job.{Job}
use Rattle.rules_pool.specs.declared.Told.{Told}
use Rattle.rules_pool.specs.declared.Outcome.{Outcome}
use Rattle.rules_pool.specs.declared.Roster.{Roster}
use Rattle.rules_pool.specs.declared.Pool.{Pool}
use Rattle.rules_pool.specs.Session.{is_free, is_normal, is_removing}
use Rattle.rules_pool.specs.Sessions.{session_at}
use Rattle.rules_pool.specs.Changes.{entered, failed, went}
use Rattle.rules_pool.specs.Recovery.{with_roster, run_ended}
use Rattle.rules_pool.specs.Exit.{changed, tried_after}
use Rattle.rules_pool.specs.Jobs.{is_idle, is_peer}
use Rattle.rules_pool.specs.StateRules.{job_ok, valid_pool}
use Rattle.rules_client.specs.Links.{down_refusal, dropped, down_at, down_done, link_down, checks, check_refusal, check_done, store_check, rejoin_refusal, rejoin, try_refusal, try_run}
use Rattle.laws_client.proofs.LinksKept.{Drops, down-passed, dropped-room, dropped-other, Backs, check-passed, rejoin-checks}
use Rattle.laws_client.proofs.Rosters.{Ok}
use Rattle.laws_client.proofs.Links.{is_live, failed-keeps, reconnects-keeps}
use Rattle.laws_client.proofs.Runs.{run-facts, run_room}
use Rattle.laws_client.proofs.Joins.{raised_keeps}
use Rattle.laws_client.proofs.Pools.{Valid, removal-facts}
use Rattle.model_pool.specs.Model as m
use Rattle.model_pool.specs.Mirror.{Sees, Works, goes, MovesBy, Shows}
use Rattle.model_pool.proofs.Shifts.{failed-shifted, went-shifted}
use Rattle.model_pool.proofs.Tries.{tries}
use Rattle.model_pool.proofs.Turns.{moves, idle-is, idle-hand, Falls, falls-none, falls-one, falls-idle, falls-tried, ends, goes-tried}
use Rattle.model_pool.proofs.Removals.{falls-removal}

live : (st : State) → is_free st ≡ false → is_removing st ≡ false → is_live st ≡ true
live st e f = rw (e, f) refl

-- ---- link down

-- what it makes of the sessions
module _ (p : Pool) (id : ℕ) (v : Valid p) (y : p.roster.sync ≡ false) (h : Drops p id) where
  drop-ok : Ok (dropped p.roster id)
  unfolding dropped
  drop-ok = picked Ok (is_removing (session_at p.roster id).state) p.roster (failed p.roster id Cause.Link) (λ e. v.ok)
      (λ e. failed-keeps p.roster id Cause.Link v.ok h.below (live (session_at p.roster id).state h.some e))

  drop-falls : (w : m.World) → Sees p.roster w.pool → Falls (dropped p.roster id) w
  unfolding dropped
  drop-falls w e = picked (λ (ro : Roster). Falls ro w) (is_removing (session_at p.roster id).state) p.roster (failed p.roster id Cause.Link) (λ q. falls-none p.roster w e)
      (λ q. falls-one p.roster (failed p.roster id Cause.Link) id w e (failed-shifted p.roster v.ok y id h.below Cause.Link) (live (session_at p.roster id).state h.some q))

-- a removal's session stays what it is
removed-stays : (ro : Roster) (id j : ℕ) → is_removing (session_at ro j).state ≡ true → session_at (dropped ro id) j ≡ session_at ro j
unfolding dropped
removed-stays ro id j e = elim (ℕ_discrete j id) [
  | yes q ↦ (let f : is_removing (session_at ro id).state ≡ true = rw q at e in rw f refl)
  | no q ↦ dropped-other ro id j q
]

module _ (p : Pool) (id : ℕ) (w : m.World) (v : Valid p) (y : p.roster.sync ≡ false) (k : Shows p w) (h : Drops p id) where
  down-moves : (j : Job) → p.job ≡ j → MovesBy p (down_at j p id) w
  down-moves Job.Idle e = goes (falls-idle p (dropped p.roster id) w e k.works (drop-falls p id v y h w k.sees))
  down-moves (Job.Running r) e =
      let f = run-facts p.roster r v.ok.long (subst (λ (j : Job). job_ok j p.roster ≡ true) e v.job) in
      let room = dropped-room p.roster id v.ok y h.below (run_room p.roster v.ok y f.limit) in
      goes (goes-tried (run_ended (with_roster p (dropped p.roster id))) w refl (raised_keeps (dropped p.roster id) (drop-ok p id v y h) room)
      (ends r p (dropped p.roster id) w (subst (λ (j : Job). Works j w.hand) e k.works) room (drop-falls p id v y h w k.sees)))
  down-moves (Job.Removing d) e =
      let f = removal-facts p.roster d v.ok.long (subst (λ (j : Job). job_ok j p.roster ≡ true) e v.job) in
      falls-removal d p (dropped p.roster id) w (is_peer (Job.Removing d) id) e (subst (λ (j : Job). Works j w.hand) e k.works) (drop-falls p id v y h w k.sees)
      (removed-stays p.roster id d.id f.removing)

pub link-down : (p : Pool) (id : ℕ) (w : m.World) → Valid p → p.roster.sync ≡ false → Shows p w → MovesBy p (link_down p id) w
unfolding link_down down_done
link-down p id w v y k = moves p (down_refusal p id) (down_done p id) w (λ e. down-moves p id w v y k (down-passed p id e) p.job refl)

-- ---- a session is brought back

checks-are : (st : State) → checks false st ≡ true → (is_normal st ≡ false) × (is_live st ≡ true)
unfolding checks
checks-are State.Free e = clash e refl
checks-are State.Created e = (refl, refl)
checks-are State.Normal e = clash e refl
checks-are (State.Failed cause) e = (refl, refl)
checks-are State.Reconnecting e = clash e refl
checks-are (State.Removing x owed) e = clash e refl

back : (p : Pool) (id : ℕ) (w : m.World) → Valid p → p.roster.sync ≡ false → Shows p w → Backs p id (checks p.roster.sync (session_at p.roster id).state) → MovesBy p (check_done p id) w
unfolding check_done
back p id w v y k h =
    let c = checks-are (session_at p.roster id).state (subst (λ (b : Bool). checks b (session_at p.roster id).state ≡ true) y h.may) in
    let i = idle-is p.job h.idle in
    subst (λ (b : Bool). MovesBy p (pick b (changed p (entered p.roster id) Told.Nothing) (tried_after p (with_roster p (went p.roster id State.Reconnecting)) Outcome.Plain Told.Nothing)) w) (sym y)
    (goes (falls-tried p (went p.roster id State.Reconnecting) w i k.works (reconnects-keeps p.roster id v.ok h.below y c.0 c.1)
    (falls-one p.roster (went p.roster id State.Reconnecting) id w k.sees (went-shifted p.roster v.ok id h.below c.0 State.Reconnecting refl refl) c.1)))

pub store-check : (p : Pool) (id : ℕ) (w : m.World) → Valid p → p.roster.sync ≡ false → Shows p w → MovesBy p (store_check p id) w
unfolding store_check
store-check p id w v y k = moves p (check_refusal p id) (check_done p id) w (λ e. back p id w v y k (check-passed p id e))

pub rejoins : (p : Pool) (id : ℕ) (w : m.World) → Valid p → p.roster.sync ≡ false → Shows p w → MovesBy p (rejoin p id) w
unfolding rejoin
rejoins p id w v y k = moves p (rejoin_refusal p id) (check_done p id) w (λ e. back p id w v y k (rejoin-checks p id e))

-- ---- try

try-idle : (p : Pool) → try_refusal p ≡ 0 → is_idle p.job ≡ true
unfolding try_refusal
try-idle p e =
    let a = passed (not (valid_pool p)) 1 _ (λ h. omega arith) e in
    let b = passed p.roster.sync 5 _ (λ h. omega arith) a.1 in
    not-false _ (passed (not (is_idle p.job)) 6 _ (λ h. omega arith) b.1).0

pub try-run : (p : Pool) (w : m.World) → Valid p → p.roster.sync ≡ false → Shows p w → MovesBy p (try_run p) w
unfolding try_run
try-run p w v y k = moves p (try_refusal p) (tried_after p p Outcome.Plain Told.Nothing) w
    (λ e. let i = idle-is p.job (try-idle p e) in goes (tries p w v.ok k.sees (idle-hand p w.hand i k.works) i))
