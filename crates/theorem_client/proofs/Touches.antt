-- What an event does to the client map.
use mathlib.Core.Path.{◌≡◌, refl, ap, ◌∙◌, sym}
use mathlib.Core.Bool.{Bool, true, false, not, ◌&&◌}
use mathlib.Core.List.{List}
use Prim.Native.Nat.{ℕ, ◌<◌}
use lib.Dec.{eqb, ltb}
use borrow.Author.Tests.{eq-eqb}
use Rattle.laws_words.specs.Tests.{and_left, either, and_both, picked}
use Rattle.laws_words.specs.Words.{pick}
use Rattle.rules_pool.specs.Session.{is_created, is_owed, moved, is_delete, is_deleting}
use Rattle.rules_pool.specs.declared.Effect.{Effect}
use Rattle.rules_pool.specs.declared.Job.{Job}
use Rattle.rules_pool.specs.declared.Mode.{Mode}
use Rattle.rules_pool.specs.declared.Pool.{Pool}
use Rattle.rules_pool.specs.declared.Removal.{Removal}
use Rattle.rules_pool.specs.declared.Reply.{Reply}
use Rattle.rules_pool.specs.declared.Roster.{Roster}
use Rattle.rules_pool.specs.declared.Session.{Session}
use Rattle.rules_pool.specs.declared.Stage.{Stage}
use Rattle.rules_pool.specs.declared.State.{State}
use Rattle.rules_pool.specs.declared.Turn.{Turn}
use Rattle.rules_pool.specs.Sessions.{session_at, ids_of}
use Rattle.rules_pool.specs.declared.Kind.{Kind}
use Rattle.rules_pool.specs.Changes.{removing, went, member_dropped, freed}
use Rattle.rules_pool.specs.Recovery.{with_roster}
use Rattle.laws_client.proofs.Exit.{turn-of}
use Rattle.rules_pool.specs.StateRules.{job_ok}
use Rattle.laws_client.proofs.Changes.{removing-at}
use Rattle.laws_client.proofs.Ids.{Long, stored_same}
use Rattle.laws_client.proofs.Pools.{Valid, removal-facts}
use Rattle.rules_client.specs.Joins.{create_refusal, create_done, join_create, assemble_refusal, assemble_done, join_assemble}
use Rattle.rules_client.specs.Enables.{enable_refusal, enable, maintenance_refusal, maintenance_done, enable_done, maintenance}
use Rattle.rules_client.specs.Links.{down_refusal, down_done, link_down, check_refusal, store_check, check_done, try_refusal, try_run, down_at}
use Rattle.laws_client.proofs.RemovalSteps.{remove-passed}
use Rattle.rules_client.specs.Removal as removal
use Rattle.rules_client.specs.Remove.{remove_refusal, remove, remove_begun}
use Rattle.rules_client.specs.declared.Gone.{Gone}
use Rattle.rules_client.specs.Writes.{write_refusal, write_ended, marks, write_done, sync_refusal, sync_done, synced}
use Rattle.rules_client.specs.Answers.{answer_refusal, answered, answer}
use Rattle.rules_client.specs.Client.{sound_for, remove_turn, write_turn, answer_turn, synced_turn, clean_to}
use Rattle.rules_client.specs.Events.{Event, turn_of, next}
use Rattle.theorem_client.specs.Reading.{nobody_left, keeps, removal_touches, answer_touches, touches}
use Rattle.theorem_client.proofs.States.{mode-same}

-- ---- a removal

abbrev Touch : ℕ → Bool → Gone → Type 0
Touch id deletes g = removal_touches id deletes g.posted.pool.roster g.effect ≡ true

freed-touch : (p : Pool) (id : ℕ) (deletes : Bool) (ef : Effect) → ((ro : Roster) → removal_touches id deletes ro ef ≡ true) → Touch id deletes (removal.freed_from p id ef)
unfolding removal.freed_from
freed-touch p id deletes ef h = at (nobody_left (freed p.roster id) && not p.roster.sync) refl
  where
    at : (b : Bool) → (nobody_left (freed p.roster id) && not p.roster.sync) ≡ b → removal_touches id deletes (freed p.roster id) (pick b Effect.ZeroAll ef) ≡ true
    at true e = and_left (nobody_left (freed p.roster id)) (not p.roster.sync) e
    at false e = h (freed p.roster id)

onward-touch : (p : Pool) (id : ℕ) (deletes : Bool) (st : Stage) (ef : Effect) → ((ro : Roster) → removal_touches id deletes ro ef ≡ true) → Touch id deletes (removal.onward p id st ef)
unfolding removal.onward
onward-touch p id deletes st ef h =
    picked (Touch id deletes) (ltb (removal.due st p.roster) 16) _ _ (λ e. h _) (λ e. freed-touch p id deletes ef h)

departed-touch : (p : Pool) (id : ℕ) (deletes : Bool) → (is_deleting (removal.state_of p id) ≡ true → deletes ≡ true) → Touch id deletes (removal.departed p id)
unfolding removal.departed
departed-touch p id deletes d =
    picked (Touch id deletes) (is_deleting (removal.state_of p id) && not p.roster.sync) _ _
    (λ e. onward-touch (with_roster p (member_dropped p.roster id)) id deletes Stage.Leave (Effect.ZeroRow id)
    (λ ro. and_both (eq-eqb id id refl) (d (and_left (is_deleting (removal.state_of p id)) (not p.roster.sync) e))))
    (λ e. onward-touch p id deletes Stage.Leave Effect.Keep (λ ro. refl))

started-touch : (p : Pool) (id : ℕ) (deletes : Bool) → (is_deleting (removal.state_of p id) ≡ true → deletes ≡ true) → Touch id deletes (removal.started p id)
unfolding removal.started
started-touch p id deletes d = picked (Touch id deletes) (is_owed (removal.state_of p id)) _ _ (λ e. refl) (λ e. departed-touch p id deletes d)

-- the mode of a removal stays with its session
paid-mode : (p : Pool) (id : ℕ) → Long p.roster → id < 16 → is_deleting (removal.state_of (removal.paid p id) id) ≡ is_deleting (removal.state_of p id)
unfolding went
paid-mode p id l h =
    ap (λ (s : Session). is_deleting s.state) (stored_same p.roster id (moved (session_at p.roster id) (State.Removing (removal.mode_of (removal.state_of p id)) false)) l h)
    ∙ mode-same (removal.state_of p id)

well-touch : (st : Stage) (p : Pool) (id : ℕ) → Long p.roster → id < 16 → Touch id (is_deleting (removal.state_of p id)) (removal.well_answered st p id)
well-touch Stage.Leave p id l h = departed-touch (removal.paid p id) id _ (λ e. sym (paid-mode p id l h) ∙ e)
well-touch (Stage.Info peer) p id l h = onward-touch p id _ (Stage.Info peer) Effect.Keep (λ ro. refl)

answered-touch : (m : Removal) (p : Pool) (a : Reply) → Long p.roster → m.id < 16 → Touch m.id (is_deleting (removal.state_of p m.id)) (removal.removal_answered m p a)
answered-touch m p Reply.Failed l h = refl
answered-touch m p (Reply.Good b) l h = well-touch m.stage p m.id l h

begun-touch : (p : Pool) (id : ℕ) (mode : Mode) → Long p.roster → id < 16 → Touch id (is_delete mode) (remove_begun p id mode)
begun-touch p id mode l h =
    started-touch (with_roster p (removing p.roster id mode)) id (is_delete mode)
    (λ e. sym (ap (λ (s : Session). is_deleting s.state) (removing-at p.roster id mode l h)) ∙ e)

-- ---- the other events that do something at an answer

job-touch : (j : Job) (c : Pool) (a : Reply) → Valid c → job_ok j c.roster ≡ true → answer_touches j c (answered j c a).pool.roster (answered j c a).effect ≡ true
job-touch Job.Idle c a v o = refl
job-touch (Job.Running r) c a v o = refl
job-touch (Job.Removing m) c a v o = answered-touch m c a v.ok.long (removal-facts c.roster m v.ok.long o).below

refused-job : (j : Job) (c : Pool) (ro : Roster) → answer_touches j c ro Effect.Keep ≡ true
refused-job Job.Idle c ro = refl
refused-job (Job.Running r) c ro = refl
refused-job (Job.Removing m) c ro = refl

down-touch : (j : Job) (p : Pool) (id : ℕ) → keeps (down_at j p id).effect ≡ true
down-touch Job.Idle p id = refl
down-touch (Job.Running r) p id = refl
down-touch (Job.Removing m) p id = refl

abbrev WriteTouch : List ℕ → ℕ → ℕ → Pool → Turn → Type 0
WriteTouch xs chunk reached c t = touches (Event.write xs chunk reached) c t.pool.roster t.effect ≡ true

marks-touch : (xs : List ℕ) (chunk reached : ℕ) (c : Pool) (before after : Pool) → WriteTouch xs chunk reached c (marks before after chunk reached)
unfolding marks
marks-touch xs chunk reached c before after =
    either (WriteTouch xs chunk reached c) (eqb reached 0) _ _ refl
    (and_both (eq-eqb chunk chunk refl) (eq-eqb (ids_of Kind.Listed after.roster) (ids_of Kind.Listed after.roster) refl))

abbrev Kept : Turn → Type 0
Kept t = keeps t.effect ≡ true

pub create-touches : (id : ℕ) (c : Pool) → Valid c → touches (Event.join_create id) c (next (Event.join_create id) c).roster (turn_of (Event.join_create id) c).effect ≡ true
unfolding join_create create_done join_assemble assemble_done enable enable_done maintenance maintenance_done link_down down_done store_check check_done try_run remove remove_turn write_ended write_done write_turn synced sync_done synced_turn answer answer_turn
create-touches id c v = turn-of Kept (create_refusal c id) _ c refl (λ e. refl)

pub assemble-touches : (id set version : ℕ) (c : Pool) → Valid c → touches (Event.join_assemble id set version) c (next (Event.join_assemble id set version) c).roster (turn_of (Event.join_assemble id set version) c).effect ≡ true
unfolding join_create create_done join_assemble assemble_done enable enable_done maintenance maintenance_done link_down down_done store_check check_done try_run remove remove_turn write_ended write_done write_turn synced sync_done synced_turn answer answer_turn
assemble-touches id set version c v = turn-of Kept (assemble_refusal c id set version) _ c refl (λ e. refl)

pub enable-touches : (id : ℕ) (c : Pool) → Valid c → touches (Event.enable id) c (next (Event.enable id) c).roster (turn_of (Event.enable id) c).effect ≡ true
unfolding join_create create_done join_assemble assemble_done enable enable_done maintenance maintenance_done link_down down_done store_check check_done try_run remove remove_turn write_ended write_done write_turn synced sync_done synced_turn answer answer_turn
enable-touches id c v =
    turn-of Kept (enable_refusal c id) _ c refl (λ e. either Kept (is_created (session_at c.roster id).state) _ _ refl refl)

pub maintenance-touches : (id : ℕ) (c : Pool) → Valid c → touches (Event.maintenance id) c (next (Event.maintenance id) c).roster (turn_of (Event.maintenance id) c).effect ≡ true
unfolding join_create create_done join_assemble assemble_done enable enable_done maintenance maintenance_done link_down down_done store_check check_done try_run remove remove_turn write_ended write_done write_turn synced sync_done synced_turn answer answer_turn
maintenance-touches id c v = turn-of Kept (maintenance_refusal c id) _ c refl (λ e. refl)

pub down-touches : (id : ℕ) (c : Pool) → Valid c → touches (Event.link_down id) c (next (Event.link_down id) c).roster (turn_of (Event.link_down id) c).effect ≡ true
unfolding join_create create_done join_assemble assemble_done enable enable_done maintenance maintenance_done link_down down_done store_check check_done try_run remove remove_turn write_ended write_done write_turn synced sync_done synced_turn answer answer_turn
down-touches id c v = turn-of Kept (down_refusal c id) _ c refl (λ e. down-touch c.job c id)

pub check-touches : (id : ℕ) (c : Pool) → Valid c → touches (Event.store_check id) c (next (Event.store_check id) c).roster (turn_of (Event.store_check id) c).effect ≡ true
unfolding join_create create_done join_assemble assemble_done enable enable_done maintenance maintenance_done link_down down_done store_check check_done try_run remove remove_turn write_ended write_done write_turn synced sync_done synced_turn answer answer_turn
check-touches id c v = turn-of Kept (check_refusal c id) _ c refl (λ e. either Kept c.roster.sync _ _ refl refl)

pub try-touches : (c : Pool) → Valid c → touches Event.try_run c (next Event.try_run c).roster (turn_of Event.try_run c).effect ≡ true
unfolding join_create create_done join_assemble assemble_done enable enable_done maintenance maintenance_done link_down down_done store_check check_done try_run remove remove_turn write_ended write_done write_turn synced sync_done synced_turn answer answer_turn
try-touches c v = turn-of Kept (try_refusal c) _ c refl (λ e. refl)

pub remove-touches : (xs : List ℕ) (id : ℕ) (mode : Mode) (c : Pool) → Valid c → touches (Event.remove xs id mode) c (next (Event.remove xs id mode) c).roster (turn_of (Event.remove xs id mode) c).effect ≡ true
unfolding join_create create_done join_assemble assemble_done enable enable_done maintenance maintenance_done link_down down_done store_check check_done try_run remove remove_turn write_ended write_done write_turn synced sync_done synced_turn answer answer_turn
remove-touches xs id mode c v =
    turn-of (λ t. removal_touches id (is_delete mode) t.pool.roster t.effect ≡ true) (remove_refusal c (sound_for c xs) id mode) _ c refl
    (λ e. begun-touch c id mode v.ok.long (remove-passed c (sound_for c xs) id mode e).below)

pub write-touches : (xs : List ℕ) (chunk reached : ℕ) (c : Pool) → Valid c → touches (Event.write xs chunk reached) c (next (Event.write xs chunk reached) c).roster (turn_of (Event.write xs chunk reached) c).effect ≡ true
unfolding join_create create_done join_assemble assemble_done enable enable_done maintenance maintenance_done link_down down_done store_check check_done try_run remove remove_turn write_ended write_done write_turn synced sync_done synced_turn answer answer_turn
write-touches xs chunk reached c v =
    turn-of (WriteTouch xs chunk reached c) (write_refusal c (sound_for c xs) chunk reached) _ c refl
    (λ e. marks-touch xs chunk reached c c _)

pub synced-touches : (xs : List ℕ) (member chunk : ℕ) (c : Pool) → Valid c → touches (Event.synced xs member chunk) c (next (Event.synced xs member chunk) c).roster (turn_of (Event.synced xs member chunk) c).effect ≡ true
unfolding join_create create_done join_assemble assemble_done enable enable_done maintenance maintenance_done link_down down_done store_check check_done try_run remove remove_turn write_ended write_done write_turn synced sync_done synced_turn answer answer_turn
synced-touches xs member chunk c v = turn-of Kept (sync_refusal c (sound_for c xs) member chunk (clean_to xs chunk 16)) _ c refl (λ e. refl)

pub answer-touches : (xs : List ℕ) (number : ℕ) (a : Reply) (c : Pool) → Valid c → touches (Event.answer xs number a) c (next (Event.answer xs number a) c).roster (turn_of (Event.answer xs number a) c).effect ≡ true
unfolding join_create create_done join_assemble assemble_done enable enable_done maintenance maintenance_done link_down down_done store_check check_done try_run remove remove_turn write_ended write_done write_turn synced sync_done synced_turn answer answer_turn
answer-touches xs number a c v =
    turn-of (λ t. answer_touches c.job c t.pool.roster t.effect ≡ true) (answer_refusal c (sound_for c xs) number) _ c (refused-job c.job c c.roster)
    (λ e. job-touch c.job c a v v.job)
