-- The sessions that an event is not about keep their records, save that a mark goes when a session enters NORMAL.
use Rattle.std.specs.Prelude.{Option, Some, None}
use mathlib.Core.Path.{◌≡◌, refl, ap, ◌∙◌, sym}
use mathlib.Core.Logic.{◌≢◌}
use mathlib.Core.Bool.{Bool, true, false, not}
use mathlib.Core.List.{List}
use Prim.Native.Nat.{ℕ, ◌<◌}
use borrow.Author.Tests.{eqb-false, eq-eqb}
use Rattle.laws_words.specs.Tests.{clash, by_cases}
use Rattle.rules_pool.specs.Session.{is_created, is_normal, candidate}
use Rattle.rules_pool.specs.declared.Job.{Job}
use Rattle.rules_pool.specs.declared.Mode.{Mode}
use Rattle.rules_pool.specs.declared.Pool.{Pool}
use Rattle.rules_pool.specs.declared.Removal.{Removal}
use Rattle.rules_pool.specs.declared.Reply.{Reply}
use Rattle.rules_pool.specs.declared.Roster.{Roster}
use Rattle.rules_pool.specs.declared.Session.{Session}
use Rattle.rules_pool.specs.declared.Stage.{Stage}
use Rattle.rules_pool.specs.Sessions.{session_at}
use Rattle.rules_pool.specs.Changes.{removing}
use Rattle.rules_pool.specs.declared.Way.{Way}
use Rattle.rules_pool.specs.Run.{takes}
use Rattle.rules_pool.specs.Recovery.{with_roster}
use Rattle.laws_client.proofs.Exit.{turned}
use Rattle.rules_pool.specs.Jobs.{is_running}
use Rattle.rules_pool.specs.StateRules.{job_ok}
use Rattle.laws_client.proofs.Ids.{Long}
use Rattle.laws_client.proofs.Pools.{Valid, removal-facts}
use Rattle.laws_client.proofs.Records.{entered_at, left_other, raised_if}
use Rattle.laws_client.proofs.Runs.{run-facts, candidate-normal, entered-other}
use Rattle.laws_client.proofs.Tried.{tried-roster}
use Rattle.laws_client.proofs.JoinsKept.{created-other, assembled-other}
use Rattle.rules_client.specs.Joins.{create_refusal, create_done, join_create, assemble_refusal, assembled, assemble_done, join_assemble}
use Rattle.laws_client.proofs.EnablesKept.{enable-passed, enabled-at, Enables, enabled-other}
use Rattle.rules_client.specs.Enables.{enable_refusal, enable, maintenance_refusal, maintenance_done, enable_done, maintenance}
use Rattle.laws_client.proofs.LinksKept.{down-roster, dropped-other, checked-other}
use Rattle.rules_client.specs.Links.{down_refusal, down_done, link_down, check_refusal, store_check, try_refusal, try_run}
use Rattle.laws_client.proofs.RemovalSteps.{departed-goes, started-goes, told-goes, paid-long, removing-long, remove-passed, paid_other, removing-other}
use Rattle.rules_client.specs.Removal as removal
use Rattle.rules_client.specs.Remove.{remove_refusal, remove}
use Rattle.laws_client.proofs.WritesKept.{write-passed, write-roster, missed-does, synced-same}
use Rattle.rules_client.specs.Writes.{write_refusal, write_ended}
use Rattle.laws_client.proofs.AnswersKept.{candidate-below, run-able, run-roster}
use Rattle.rules_client.specs.Answers.{answer_refusal, entered_by, answered, answer, reported}
use Rattle.rules_client.specs.Client.{sound_for, remove_turn, write_turn, answer_turn, synced_turn, clean_to}
use Rattle.theorem_client.specs.Demand2.{Kept}
use Rattle.rules_client.specs.Events.{Event, next}
use Rattle.theorem_client.specs.Reading.{is_one, answer_concerns, concerns}
use Rattle.theorem_client.proofs.States.{created-not}

-- the record of j is kept in a pool that an event leaves
abbrev Keeps : Pool → ℕ → Pool → Type 0
Keeps c j q = Kept c (q) j

-- ---- enable

enable-kept : (c : Pool) (id j : ℕ) → Valid c → Enables c id → j ≢ id → Keeps c j (enable_done c id).pool
enable-kept c id j v h ne =
    by_cases (is_created (session_at c.roster id).state)
    (λ b. Kept.cleared (rw b at (enabled-other c id j h.plain ne)) (record {
      who = id;
      before = created-not (session_at c.roster id).state b;
      after = ap (λ (s : Session). is_normal s.state) (rw b at (enabled-at c id v.ok.long h.below));
    }))
    (λ b. Kept.equal (rw b at (enabled-other c id j h.plain ne)))

-- ---- answers

other-one : (w : Option ℕ) (j id : ℕ) → is_one w j ≡ false → w ≡ Some id → j ≢ id
other-one w j id n e z = clash (eq-eqb j id z) (sym (ap (λ (w : Option ℕ). is_one w j) e) ∙ n)

run-kept : (c : Pool) (j : ℕ) → Valid c → c.roster.sync ≡ false → (q : Pool) (over : Bool) (w : Option ℕ) → is_one w j ≡ false
    → ((id : ℕ) → w ≡ Some id → candidate (session_at c.roster id) ≡ true) → q.roster ≡ raised_if over (entered_by w c.roster) → Keeps c j q
run-kept c j v plain q over None n able e = Kept.equal (ap (λ (ro : Roster). session_at ro j) e)
run-kept c j v plain q over (Some id) n able e =
    let can = able id refl in
    Kept.cleared (ap (λ (ro : Roster). session_at ro j) e ∙ entered-other c.roster id j plain (other-one (Some id) j id n refl)) (record {
      who = id;
      before = candidate-normal (session_at c.roster id) can;
      after = ap (λ (ro : Roster). is_normal (session_at ro id).state) e
          ∙ ap (λ (s : Session). is_normal s.state) (entered_at c.roster id v.ok.long (candidate-below c.roster id v.ok.long can));
    })

well-other : (st : Stage) (p : Pool) (id j : ℕ) → Long p.roster → id < 16 → j ≢ id → session_at (removal.well_answered st p id).posted.pool.roster j ≡ session_at p.roster j
well-other Stage.Leave p id j l h ne = (departed-goes (removal.paid p id) id (paid-long p id l) h).others j ne ∙ paid_other p id j ne
well-other (Stage.Info peer) p id j l h ne = (told-goes p id peer l h).others j ne

pub removal-other : (m : Removal) (p : Pool) (a : Reply) (j : ℕ) → Long p.roster → m.id < 16 → j ≢ m.id → session_at (removal.removal_answered m p a).posted.pool.roster j ≡ session_at p.roster j
removal-other m p Reply.Failed j l h ne = refl
removal-other m p (Reply.Good b) j l h ne = well-other m.stage p m.id j l h ne

answered-kept : (k : Job) (c : Pool) (a : Reply) (j : ℕ) → Valid c → job_ok k c.roster ≡ true → answer_concerns k c a j ≡ false → Keeps c j (answered k c a).pool
answered-kept Job.Idle c a j v o n = Kept.equal refl
answered-kept (Job.Running r) c a j v o n =
    let f = run-facts c.roster r v.ok.long o in
    let m = takes c.roster.members c.roster.version r a in
    run-kept c j v f.plain (reported c m).pool (not (is_running (reported c m).pool.job)) m.normal n (λ id. run-able c r a v f id) (run-roster c m)
answered-kept (Job.Removing m) c a j v o n =
    Kept.equal (removal-other m c a j v.ok.long (removal-facts c.roster m v.ok.long o).below (eqb-false j m.id n))

-- ---- every event

pub create-others : (id : ℕ) (c : Pool) (j : ℕ) → Valid c → concerns (Event.join_create id) c j ≡ false → Kept c (next (Event.join_create id) c) j
unfolding join_create create_done join_assemble assemble_done enable maintenance maintenance_done link_down down_done store_check try_run remove remove_turn write_ended write_turn synced_turn answer answer_turn
create-others id c j v n =
    turned (Keeps c j) (create_refusal c id) _ c (Kept.equal refl) (λ e. Kept.equal (created-other c.roster id j (eqb-false j id n)))

pub assemble-others : (id set version : ℕ) (c : Pool) (j : ℕ) → Valid c → concerns (Event.join_assemble id set version) c j ≡ false → Kept c (next (Event.join_assemble id set version) c) j
unfolding join_create create_done join_assemble assemble_done enable maintenance maintenance_done link_down down_done store_check try_run remove remove_turn write_ended write_turn synced_turn answer answer_turn
assemble-others id set version c j v n =
    turned (Keeps c j) (assemble_refusal c id set version) _ c (Kept.equal refl)
    (λ e. Kept.equal (ap (λ (ro : Roster). session_at ro j) (tried-roster (with_roster c (assembled c.roster id set version))) ∙ assembled-other c.roster id set version j (eqb-false j id n)))

pub enable-others : (id : ℕ) (c : Pool) (j : ℕ) → Valid c → concerns (Event.enable id) c j ≡ false → Kept c (next (Event.enable id) c) j
unfolding join_create create_done join_assemble assemble_done enable maintenance maintenance_done link_down down_done store_check try_run remove remove_turn write_ended write_turn synced_turn answer answer_turn
enable-others id c j v n =
    turned (Keeps c j) (enable_refusal c id) _ c (Kept.equal refl) (λ e. enable-kept c id j v (enable-passed c id e) (eqb-false j id n))

pub maintenance-others : (id : ℕ) (c : Pool) (j : ℕ) → Valid c → concerns (Event.maintenance id) c j ≡ false → Kept c (next (Event.maintenance id) c) j
unfolding join_create create_done join_assemble assemble_done enable maintenance maintenance_done link_down down_done store_check try_run remove remove_turn write_ended write_turn synced_turn answer answer_turn
maintenance-others id c j v n =
    turned (Keeps c j) (maintenance_refusal c id) _ c (Kept.equal refl) (λ e. Kept.equal (left_other c.roster id Way.Maintenance j (eqb-false j id n)))

pub down-others : (id : ℕ) (c : Pool) (j : ℕ) → Valid c → concerns (Event.link_down id) c j ≡ false → Kept c (next (Event.link_down id) c) j
unfolding join_create create_done join_assemble assemble_done enable maintenance maintenance_done link_down down_done store_check try_run remove remove_turn write_ended write_turn synced_turn answer answer_turn
down-others id c j v n =
    turned (Keeps c j) (down_refusal c id) _ c (Kept.equal refl)
    (λ e. Kept.equal (ap (λ (ro : Roster). session_at ro j) (down-roster c.job c id) ∙ dropped-other c.roster id j (eqb-false j id n)))

pub check-others : (id : ℕ) (c : Pool) (j : ℕ) → Valid c → concerns (Event.store_check id) c j ≡ false → Kept c (next (Event.store_check id) c) j
unfolding join_create create_done join_assemble assemble_done enable maintenance maintenance_done link_down down_done store_check try_run remove remove_turn write_ended write_turn synced_turn answer answer_turn
check-others id c j v n =
    turned (Keeps c j) (check_refusal c id) _ c (Kept.equal refl) (λ e. Kept.equal (checked-other c id j (eqb-false j id n)))

pub try-others : (c : Pool) (j : ℕ) → Valid c → concerns Event.try_run c j ≡ false → Kept c (next Event.try_run c) j
unfolding join_create create_done join_assemble assemble_done enable maintenance maintenance_done link_down down_done store_check try_run remove remove_turn write_ended write_turn synced_turn answer answer_turn
try-others c j v n =
    turned (Keeps c j) (try_refusal c) _ c (Kept.equal refl) (λ e. Kept.equal (ap (λ (ro : Roster). session_at ro j) (tried-roster c)))

pub remove-others : (xs : List ℕ) (id : ℕ) (mode : Mode) (c : Pool) (j : ℕ) → Valid c → concerns (Event.remove xs id mode) c j ≡ false → Kept c (next (Event.remove xs id mode) c) j
unfolding join_create create_done join_assemble assemble_done enable maintenance maintenance_done link_down down_done store_check try_run remove remove_turn write_ended write_turn synced_turn answer answer_turn
remove-others xs id mode c j v n =
    turned (Keeps c j) (remove_refusal c (sound_for c xs) id mode) _ c (Kept.equal refl)
    (λ e. let h = remove-passed c (sound_for c xs) id mode e in
    let ne = eqb-false j id n in
    Kept.equal ((started-goes (with_roster c (removing c.roster id mode)) id (removing-long c.roster id mode v.ok.long) h.below).others j ne ∙ removing-other c.roster id j mode ne))

pub write-others : (xs : List ℕ) (chunk reached : ℕ) (c : Pool) (j : ℕ) → Valid c → concerns (Event.write xs chunk reached) c j ≡ false → Kept c (next (Event.write xs chunk reached) c) j
unfolding join_create create_done join_assemble assemble_done enable maintenance maintenance_done link_down down_done store_check try_run remove remove_turn write_ended write_turn synced_turn answer answer_turn
write-others xs chunk reached c j v n =
    turned (Keeps c j) (write_refusal c (sound_for c xs) chunk reached) _ c (Kept.equal refl)
    (λ e. let w = write-passed c (sound_for c xs) chunk reached e in
    Kept.equal (ap (λ (ro : Roster). session_at ro j) (write-roster c chunk reached) ∙ (missed-does c.roster reached v.ok w.plain).spares j n))

pub synced-others : (xs : List ℕ) (member chunk : ℕ) (c : Pool) (j : ℕ) → Valid c → concerns (Event.synced xs member chunk) c j ≡ false → Kept c (next (Event.synced xs member chunk) c) j
unfolding join_create create_done join_assemble assemble_done enable maintenance maintenance_done link_down down_done store_check try_run remove remove_turn write_ended write_turn synced_turn answer answer_turn
synced-others xs member chunk c j v n =
    Kept.equal (ap (λ (p : Pool). session_at p.roster j) (synced-same c (sound_for c xs) member chunk (clean_to xs chunk 16)))

pub answer-others : (xs : List ℕ) (number : ℕ) (a : Reply) (c : Pool) (j : ℕ) → Valid c → concerns (Event.answer xs number a) c j ≡ false → Kept c (next (Event.answer xs number a) c) j
unfolding join_create create_done join_assemble assemble_done enable maintenance maintenance_done link_down down_done store_check try_run remove remove_turn write_ended write_turn synced_turn answer answer_turn
answer-others xs number a c j v n =
    turned (Keeps c j) (answer_refusal c (sound_for c xs) number) _ c (Kept.equal refl) (λ e. answered-kept c.job c a j v v.job n)
