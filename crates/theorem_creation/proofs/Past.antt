-- What every event leaves of the past: what the answer acknowledges, what is taken over, what a delete empties.
use Rattle.std.specs.Prelude.{Option, Some, None}
use Rattle.rules_pool.specs.declared.Run.{Run}
use mathlib.Core.Path.{◌≡◌, refl, ap, ◌∙◌, sym, subst}
use mathlib.Core.Bool.{Bool, true, false, not, ◌&&◌, ◌||◌}
use mathlib.Core.List.{List}
use Prim.Native.Nat.{ℕ, zero, suc, ◌<◌}
use lib.Dec.{eqb, ltb}
use borrow.Author.Tests.{eqb-true, eq-eqb}
use Rattle.laws_words.specs.Words.{pick}
use Rattle.laws_words.specs.Loops.{run_at}
use Rattle.laws_words.specs.Tests.{clash, by_cases, and_left, and_right, and-false, picked, either}
use Rattle.rules_base.specs.Sets.{has, without}
use Rattle.rules_pool.specs.declared.Mode.{Mode}
use Rattle.rules_pool.specs.declared.State.{State}
use Rattle.rules_pool.specs.declared.Session.{Session}
use Rattle.rules_pool.specs.declared.Cause.{Cause}
use Rattle.rules_pool.specs.declared.Past.{Past}
use Rattle.rules_pool.specs.declared.Roster.{Roster}
use Rattle.rules_pool.specs.declared.Stage.{Stage}
use Rattle.rules_pool.specs.declared.Removal.{Removal}
use Rattle.rules_pool.specs.declared.Job.{Job}
use Rattle.rules_pool.specs.declared.Pool.{Pool}
use Rattle.rules_pool.specs.declared.Effect.{Effect}
use Rattle.rules_pool.specs.declared.Reply.{Reply}
use Rattle.rules_pool.specs.declared.Told.{Told}
use Rattle.rules_pool.specs.declared.Outcome.{Outcome}
use Rattle.rules_pool.specs.declared.Turn.{Turn}
use Rattle.rules_pool.specs.Past.{past_written, past_taken_over, past_kept}
use Rattle.rules_pool.specs.Session.{is_normal, is_created, is_removing, is_owed, is_delete, is_deleting}
use Rattle.rules_pool.specs.Sessions.{session_at}
use Rattle.rules_pool.specs.declared.Way.{Way}
use Rattle.rules_pool.specs.Changes.{entered, left, failed, went, owes, removing, written, member_dropped, flagged_at}
use Rattle.rules_pool.specs.declared.Move.{Move}
use Rattle.rules_pool.specs.Run.{takes}
use Rattle.rules_pool.specs.Recovery.{with_roster, run_ended, posted, gone_on}
use Rattle.rules_pool.specs.Jobs.{is_peer}
use Rattle.rules_pool.specs.Exit.{refused, halted_if, tried_after}
use Rattle.laws_client.proofs.Exit.{turn-of, halts}
use Rattle.laws_client.proofs.Ids.{Long}
use Rattle.laws_client.proofs.Pools.{Valid, removal-facts, RemovalOk}
use Rattle.laws_client.proofs.Changes.{removing-at}
use Rattle.laws_client.proofs.Tried.{tried-roster}
use Rattle.rules_client.specs.Joins.{create_refusal, created, create_done, join_create, assemble_refusal, assembled, assemble_done, join_assemble}
use Rattle.rules_client.specs.Extend as extending
use Rattle.rules_client.specs.Extend.{extend_refusal, extended, extend_done, extend}
use Rattle.rules_client.specs.Enables.{enable_refusal, enable_done, enable, maintenance_refusal, maintenance_done, maintenance}
use Rattle.rules_client.specs.Links.{down_refusal, dropped, down_at, down_done, link_down, check_refusal, check_done, store_check, rejoin_refusal, rejoin, try_refusal, try_run}
use Rattle.laws_client.proofs.RemovalSteps.{is_out, paid-at, paid-numbers, remove-passed, removing-numbers}
use Rattle.rules_client.specs.declared.Gone.{Gone}
use Rattle.rules_client.specs.Removal.{mode_of, due, freed_from, onward, departed, started, paid, well_answered}
use Rattle.rules_client.specs.Remove.{remove_refusal, remove_begun, gone, remove}
use Rattle.rules_client.specs.Writes.{write_refusal, miss_step, missed, loses, marks, write_done, write_ended, sync_refusal, sync_done, synced}
use Rattle.rules_client.specs.Answers.{answer_refusal, entered_by, moved_on, answered, answer}
use Rattle.rules_pool.specs.Breaking.{acknowledges, is_accepted}
use Rattle.rules_client.specs.Client.{sound_for, extend_turn, remove_turn, write_turn, answer_turn, synced_turn, clean_to}
use Rattle.rules_client.specs.Events.{Event, turn_of, next, state_of, is_sync, job_of}
use Rattle.theorem_client.specs.Reading.{Part, answer_part, part_of}
use Rattle.theorem_client.specs.Said.{members_of, version_of, not_owed, is_good, is_leave}
use Rattle.theorem_client.proofs.States.{and-true, owes_is, mode-same}
use Rattle.theorem_creation.specs.Creation.{takes_over, takes_one, empties}

abbrev pub past_of : Pool → Past
past_of c = c.roster.past

-- ---- the past as three tests make it

-- after an event that acknowledged a write, took a set over, emptied the membership
abbrev pub later : Past → Bool → Bool → Bool → Past
later p w t x = past_kept (past_taken_over (past_written p w) t) (not x)

or-none : (b : Bool) → (b || false) ≡ b
or-none true = refl
or-none false = refl

kept-all : (p : Past) → past_kept p true ≡ p
kept-all p = rw (and-true p.written, and-true p.assembled) refl

later-kept : (p : Past) (x : Bool) → later p false false x ≡ past_kept p (not x)
later-kept p x = rw (or-none p.written, or-none p.assembled) refl

pub idle-past : (p : Past) → later p false false false ≡ p
idle-past p = later-kept p false ∙ kept-all p

-- ---- the named changes leave it

entered-past : (ro : Roster) (id : ℕ) → (entered ro id).past ≡ ro.past
unfolding entered
entered-past ro id = either (λ (q : Roster). q.past ≡ ro.past) ro.sync _ _ refl refl

left-past : (ro : Roster) (id : ℕ) (w : Way) → (left ro id w).past ≡ ro.past
unfolding left
left-past ro id w = either (λ (q : Roster). q.past ≡ ro.past) ro.sync _ _ refl refl

failed-past : (ro : Roster) (id : ℕ) (cause : Cause) → (failed ro id cause).past ≡ ro.past
unfolding failed
failed-past ro id cause = either (λ (q : Roster). q.past ≡ ro.past) (is_normal (session_at ro id).state) _ _ (left-past ro id (Way.Failed cause)) refl

removing-past : (ro : Roster) (id : ℕ) (mode : Mode) → (removing ro id mode).past ≡ ro.past
unfolding removing went
removing-past ro id mode = either (λ (q : Roster). q.past ≡ ro.past) (is_normal (session_at ro id).state) _ _ (left-past ro id (Way.Removing mode true)) refl

dropped-past : (ro : Roster) (id : ℕ) → (dropped ro id).past ≡ ro.past
unfolding dropped
dropped-past ro id = either (λ (q : Roster). q.past ≡ ro.past) (is_removing (session_at ro id).state) _ _ refl (failed-past ro id Cause.Link)

missed-past : (reached n k : ℕ) (ro : Roster) → (run_at (miss_step reached) n k ro).past ≡ ro.past
unfolding miss_step
missed-past reached zero k ro = refl
missed-past reached (suc n) k ro =
    missed-past reached n (suc k) (miss_step reached k ro)
    ∙ either (λ (q : Roster). q.past ≡ ro.past) (is_normal (session_at ro k).state && not (has reached k)) _ _ (failed-past ro k Cause.Io) refl

-- ---- the past along a removal

onward-past : (p : Pool) (id : ℕ) (st : Stage) (e : Effect) → (onward p id st e).posted.pool.roster.past ≡ p.roster.past
unfolding onward freed_from posted
onward-past p id st e = either (λ (g : Gone). g.posted.pool.roster.past ≡ p.roster.past) (ltb (due st p.roster) 16) _ _ refl refl

onward-members : (p : Pool) (id : ℕ) (st : Stage) (e : Effect) → (onward p id st e).posted.pool.roster.members ≡ p.roster.members
unfolding onward freed_from posted
onward-members p id st e = either (λ (g : Gone). g.posted.pool.roster.members ≡ p.roster.members) (ltb (due st p.roster) 16) _ _ refl refl

-- the past after a step, `out` saying that it took the member's entry out
abbrev Steps : Pool → Bool → Gone → Type 0
Steps p out g = g.posted.pool.roster.past ≡ past_kept p.roster.past (not (out && eqb g.posted.pool.roster.members 0))

departed-steps : (p : Pool) (id : ℕ) → Steps p (is_out p id) (departed p id)
unfolding departed
departed-steps p id =
    picked (λ (g : Gone). Steps p (is_out p id) g) (is_out p id) _ _
    (λ e. let q = with_roster p (member_dropped p.roster id) in
    rw (e, onward-members q id Stage.Leave (Effect.ZeroRow id)) (onward-past q id Stage.Leave (Effect.ZeroRow id)))
    (λ e. rw e (onward-past p id Stage.Leave Effect.Keep ∙ sym (kept-all p.roster.past)))

started-steps : (p : Pool) (id : ℕ) → Steps p (pick (is_owed (session_at p.roster id).state) false (is_out p id)) (started p id)
unfolding started posted
started-steps p id =
    picked (λ (g : Gone). Steps p (pick (is_owed (session_at p.roster id).state) false (is_out p id)) g) (is_owed (session_at p.roster id).state) _ _
    (λ e. rw e (sym (kept-all p.roster.past)))
    (λ e. rw e (departed-steps p id))

-- ---- the law

pub record Law (e : Event) (c : Pool) : Type 0 where
  pub is : past_of (next e c) ≡ later (past_of c) (acknowledges (turn_of e c).answer) (takes_over e c) (empties e c)
  pub one : (acknowledges (turn_of e c).answer || takes_over e c) ≡ true → empties e c ≡ false

-- an event that does nothing of the kind
abbrev Calm : Pool → Turn → Type 0
Calm c t = (acknowledges t.answer ≡ false) × (t.pool.roster.past ≡ past_of c)

calm : (e : Event) (c : Pool) → (acknowledges (turn_of e c).answer ≡ false) × (past_of (next e c) ≡ past_of c) → takes_over e c ≡ false → takes_one (part_of e c) c ≡ false → Law e c
calm e c q t o =
    let n : empties e c ≡ false = rw o (and-false (is_accepted (turn_of e c).answer)) in
    record { is = q.1 ∙ sym (rw (q.0, t, n) (idle-past (past_of c))); one = λ a. n }

-- the past after recovery was tried
tried-calm : (c : Pool) (p : Pool) → p.roster.past ≡ past_of c → (tried_after p p Outcome.Plain Told.Nothing).pool.roster.past ≡ past_of c
tried-calm c p e = ap (λ (ro : Roster). ro.past) (tried-roster p) ∙ e

down-calm : (j : Job) (c : Pool) (id : ℕ) → Calm c (down_at j c id)
down-calm Job.Idle c id = (refl, dropped-past c.roster id)
down-calm (Job.Running r) c id = (refl, tried-calm c (run_ended (with_roster c (dropped c.roster id))) (dropped-past c.roster id))
down-calm (Job.Removing m) c id =
    (refl, halts (λ (q : Pool). q.roster.past ≡ past_of c) (is_peer (Job.Removing m) id) (with_roster c (dropped c.roster id)) (dropped-past c.roster id) (dropped-past c.roster id))

check-calm : (c : Pool) (id : ℕ) → Calm c (check_done c id)
unfolding check_done went
check-calm c id =
    either (Calm c) (is_sync c) _ _ (refl, entered-past c.roster id) (refl, tried-calm c (with_roster c (went c.roster id State.Reconnecting)) refl)

run-calm : (n : Option Run) (w : Option ℕ) (p : Pool) → (gone_on n (with_roster p (entered_by w p.roster))).pool.roster.past ≡ p.roster.past
unfolding posted
run-calm None None p = refl
run-calm None (Some id) p = entered-past p.roster id
run-calm (Some r) None p = refl
run-calm (Some r) (Some id) p = entered-past p.roster id

-- ---- the two events that remember

assemble-law : (id set version : ℕ) (c : Pool) → Law (Event.join_assemble id set version) c
unfolding join_assemble assemble_done assembled went
assemble-law id set version c =
    record {
      is =
          turn-of (λ (t : Turn). t.pool.roster.past ≡ later (past_of c) (acknowledges t.answer) (is_accepted t.answer && eqb (members_of c) 0) (is_accepted t.answer && (false && (not (is_sync c) && eqb t.pool.roster.members 0))))
          (assemble_refusal c id set version) (assemble_done c id set version) c
          (sym (idle-past (past_of c)))
          (λ e. ap (λ (ro : Roster). ro.past) (tried-roster (with_roster c (assembled c.roster id set version))) ∙ sym (rw (or-none (past_of c).written) (kept-all (past_taken_over (past_of c) (eqb (members_of c) 0)))));
      one = λ a. and-false (is_accepted (turn_of (Event.join_assemble id set version) c).answer);
    }

marked-is : (before after : Pool) (chunk reached : ℕ) → acknowledges (marks before after chunk reached).answer ≡ not (eqb reached 0)
unfolding marks
marked-is before after chunk reached = picked (λ (t : Turn). acknowledges t.answer ≡ not (eqb reached 0)) (eqb reached 0) _ _ (λ e. rw e refl) (λ e. rw e refl)

marked-pool : (P : Pool → Type 0) (before after : Pool) (chunk reached : ℕ) → P after → P (marks before after chunk reached).pool
unfolding marks
marked-pool P before after chunk reached p = either (λ (t : Turn). P t.pool) (eqb reached 0) _ _ p p

write-law : (xs : List ℕ) (chunk reached : ℕ) (c : Pool) → Law (Event.write xs chunk reached) c
unfolding write_turn write_ended write_done missed
write-law xs chunk reached c =
    record {
      is =
          turn-of (λ (t : Turn). t.pool.roster.past ≡ later (past_of c) (acknowledges t.answer) false (is_accepted t.answer && (false && (not (is_sync c) && eqb t.pool.roster.members 0))))
          (write_refusal c (sound_for c xs) chunk reached) (write_done c chunk reached) c
          (sym (idle-past (past_of c)))
          (λ e. past_is ∙ sym (rw (marked-is c after chunk reached, and-false (is_accepted (marks c after chunk reached).answer), or-none (past_of c).assembled) (kept-all (past_written (past_of c) (not (eqb reached 0))))));
      one = λ a. and-false (is_accepted (turn_of (Event.write xs chunk reached) c).answer);
    }
  where
    after : Pool
    after = halted_if (loses c.job c.roster reached) (with_roster c (written (missed c.roster reached) (not (eqb reached 0))))

    now-is : (written (missed c.roster reached) (not (eqb reached 0))).past ≡ past_written (past_of c) (not (eqb reached 0))
    now-is = ap (λ (p : Past). past_written p (not (eqb reached 0))) (missed-past reached 16 0 c.roster)

    past_is : (marks c after chunk reached).pool.roster.past ≡ past_written (past_of c) (not (eqb reached 0))
    past_is =
        marked-pool (λ (q : Pool). q.roster.past ≡ past_written (past_of c) (not (eqb reached 0))) c after chunk reached
        (halts (λ (q : Pool). q.roster.past ≡ past_written (past_of c) (not (eqb reached 0))) (loses c.job c.roster reached) (with_roster c (written (missed c.roster reached) (not (eqb reached 0)))) now-is now-is)

-- ---- the two that forget

-- what is said of a turn whose event has this part in a removal
abbrev Forgets : Pool → Part → Turn → Type 0
Forgets c s t =
    (acknowledges t.answer ≡ false) × (t.pool.roster.past ≡ past_kept (past_of c) (not (is_accepted t.answer && (takes_one s c && (not (is_sync c) && eqb t.pool.roster.members 0)))))

forgets : (e : Event) (c : Pool) → takes_over e c ≡ false → Forgets c (part_of e c) (turn_of e c) → Law e c
forgets e c t q =
    record {
      is = q.1 ∙ sym (rw (q.0, t) (later-kept (past_of c) (empties e c)));
      one = λ a. clash a (rw (q.0, t) refl);
    }

-- a refusal
refused-forgets : (c : Pool) (s : Part) (n : ℕ) → Forgets c s (refused c n)
refused-forgets c s n = (refl, sym (kept-all (past_of c)))

owed-out : (n d s b : Bool) → (pick (not n) false (d && s) && b) ≡ ((d && n) && (s && b))
owed-out true true true b = refl
owed-out true true false b = refl
owed-out true false s b = refl
owed-out false true s b = refl
owed-out false false s b = refl

remove-law : (xs : List ℕ) (id : ℕ) (mode : Mode) (c : Pool) → Valid c → Law (Event.remove xs id mode) c
unfolding remove_turn remove
remove-law xs id mode c v =
    forgets (Event.remove xs id mode) c refl
    (turn-of (Forgets c (Part.remove id mode)) (remove_refusal c (sound_for c xs) id mode) (gone c (remove_begun c id mode)) c
    (refused-forgets c (Part.remove id mode) (remove_refusal c (sound_for c xs) id mode))
    (λ e. (refl, done (remove-passed c (sound_for c xs) id mode e).below)))
  where
    ro : Roster
    ro = removing c.roster id mode

    -- nobody is a member afterwards
    none : Bool
    none = eqb (remove_begun c id mode).posted.pool.roster.members 0

    here : id < 16 → (session_at ro id).state ≡ State.Removing mode (owes (state_of c id))
    here h = ap (λ (s : Session). s.state) (removing-at c.roster id mode v.ok.long h)

    owed : id < 16 → is_owed (session_at ro id).state ≡ not (not_owed (state_of c id))
    owed h = ap is_owed (here h) ∙ owes_is (state_of c id)

    out : id < 16 → is_out (with_roster c ro) id ≡ (is_delete mode && not (is_sync c))
    out h = ap (λ (st : State). is_deleting st && not ro.sync) (here h) ∙ ap (λ (b : Bool). is_delete mode && not b) (removing-numbers c.roster id mode (is_sync c) refl).kind

    done : id < 16 → (remove_begun c id mode).posted.pool.roster.past ≡ past_kept (past_of c) (not (true && (takes_one (Part.remove id mode) c && (not (is_sync c) && eqb (remove_begun c id mode).posted.pool.roster.members 0))))
    done h =
        started-steps (with_roster c ro) id
        ∙ (ap (λ (x : Bool). past_kept ro.past (not (pick x false (is_out (with_roster c ro) id) && none))) (owed h)
        ∙ (ap (λ (x : Bool). past_kept ro.past (not (pick (not (not_owed (state_of c id))) false x && none))) (out h)
        ∙ (ap (λ (x : Bool). past_kept ro.past (not x)) (owed-out (not_owed (state_of c id)) (is_delete mode) (not (is_sync c)) none)
        ∙ (ap (λ (q : Past). past_kept q (not ((is_delete mode && not_owed (state_of c id)) && (not (is_sync c) && none)))) (removing-past c.roster id mode)
        ∙ sym (ap (λ (x : Bool). past_kept (past_of c) (not ((x && (is_delete mode && not_owed (state_of c id))) && (not (is_sync c) && none)))) (eq-eqb id id refl))))))

leave-out : (d s b : Bool) → ((d && s) && b) ≡ ((d && true) && (s && b))
leave-out true s b = refl
leave-out false s b = refl

paid-past : (p : Pool) (id : ℕ) → (paid p id).roster.past ≡ p.roster.past
unfolding went
paid-past p id = refl

answered-forgets : (m : Removal) (c : Pool) (a : Reply) → Valid c → RemovalOk c.roster m → Forgets c (Part.answer m a) (answered (Job.Removing m) c a)
answered-forgets m c Reply.Failed v k = (refl, sym (rw (and-false (is_deleting (state_of c m.id)), and-false (eqb m.id m.id)) (kept-all (past_of c))))
answered-forgets m c (Reply.Good b) v k = (refl, at m.stage)
  where
    out : is_out (paid c m.id) m.id ≡ (is_deleting (state_of c m.id) && not (is_sync c))
    out =
        ap (λ (st : State). is_deleting st && not (paid c m.id).roster.sync) (ap (λ (s : Session). s.state) (paid-at c m.id v.ok.long k.below))
        ∙ (ap (λ (b : Bool). is_delete (mode_of (state_of c m.id)) && not b) (paid-numbers c m.id).kind ∙ ap (λ (b : Bool). b && not (is_sync c)) (mode-same (state_of c m.id)))

    -- nobody is a member after LEAVE_POOL
    none : Bool
    none = eqb (departed (paid c m.id) m.id).posted.pool.roster.members 0

    at : (st : Stage) → (well_answered st c m.id).posted.pool.roster.past
        ≡ past_kept (past_of c) (not (true && ((eqb m.id m.id && (is_deleting (state_of c m.id) && (true && is_leave st))) && (not (is_sync c) && eqb (well_answered st c m.id).posted.pool.roster.members 0))))
    at Stage.Leave =
        departed-steps (paid c m.id) m.id
        ∙ (ap (λ (x : Bool). past_kept (paid c m.id).roster.past (not (x && none))) out
        ∙ (ap (λ (x : Bool). past_kept (paid c m.id).roster.past (not x)) (leave-out (is_deleting (state_of c m.id)) (not (is_sync c)) none)
        ∙ (ap (λ (q : Past). past_kept q (not ((is_deleting (state_of c m.id) && true) && (not (is_sync c) && none)))) (paid-past c m.id)
        ∙ sym (ap (λ (x : Bool). past_kept (past_of c) (not ((x && (is_deleting (state_of c m.id) && true)) && (not (is_sync c) && none)))) (eq-eqb m.id m.id refl)))))
    at (Stage.Info peer) =
        onward-past c m.id (Stage.Info peer) Effect.Keep
        ∙ sym (rw (and-false (is_deleting (state_of c m.id)), and-false (eqb m.id m.id)) (kept-all (past_of c)))

answer-law : (xs : List ℕ) (number : ℕ) (a : Reply) (c : Pool) → Valid c → Law (Event.answer xs number a) c
unfolding answer_turn answer moved_on
answer-law xs number a c v =
    forgets (Event.answer xs number a) c refl
    (turn-of (Forgets c (answer_part (job_of c) a)) (answer_refusal c (sound_for c xs) number) (answered c.job c a) c
    (refused-forgets c (answer_part (job_of c) a) (answer_refusal c (sound_for c xs) number))
    (λ e. at (job_of c) refl))
  where
    at : (k : Job) → job_of c ≡ k → Forgets c (answer_part k a) (answered k c a)
    at Job.Idle j = refused-forgets c Part.none 13
    at (Job.Running r) j = let m = takes (members_of c) (version_of c) r a in (refl, run-calm m.next m.normal c ∙ sym (kept-all (past_of c)))
    at (Job.Removing m) j = answered-forgets m c a v (removal-facts c.roster m v.ok.long (rw j at v.job))

-- ---- every event

pub law : (e : Event) (c : Pool) → Valid c → Law e c
unfolding join_create create_done created enable enable_done maintenance maintenance_done link_down down_done store_check check_done rejoin try_run synced sync_done synced_turn extend_turn extend extend_done extended went
law (Event.join_create id) c v =
    calm (Event.join_create id) c
    (turn-of (Calm c) (create_refusal c id) (create_done c id) c (refl, refl) (λ e. (refl, either (λ (ro : Roster). ro.past ≡ past_of c) (is_sync c) _ _ refl refl)))
    refl refl
law (Event.join_assemble id set version) c v = assemble-law id set version c
law (Event.enable id) c v =
    calm (Event.enable id) c
    (turn-of (Calm c) (enable_refusal c id) (enable_done c id) c (refl, refl)
    (λ e. either (Calm c) (is_created (state_of c id)) _ _ (refl, entered-past c.roster id) (refl, tried-calm c (with_roster c (flagged_at c.roster id false)) refl)))
    refl refl
law (Event.maintenance id) c v =
    calm (Event.maintenance id) c
    (turn-of (Calm c) (maintenance_refusal c id) (maintenance_done c id) c (refl, refl) (λ e. (refl, left-past c.roster id Way.Maintenance)))
    refl refl
law (Event.link_down id) c v =
    calm (Event.link_down id) c (turn-of (Calm c) (down_refusal c id) (down_done c id) c (refl, refl) (λ e. down-calm (job_of c) c id)) refl refl
law (Event.store_check id) c v =
    calm (Event.store_check id) c (turn-of (Calm c) (check_refusal c id) (check_done c id) c (refl, refl) (λ e. check-calm c id)) refl refl
law (Event.rejoin id) c v =
    calm (Event.rejoin id) c (turn-of (Calm c) (rejoin_refusal c id) (check_done c id) c (refl, refl) (λ e. check-calm c id)) refl refl
law Event.try_run c v =
    calm Event.try_run c (turn-of (Calm c) (try_refusal c) (tried_after c c Outcome.Plain Told.Nothing) c (refl, refl) (λ e. (refl, tried-calm c c refl))) refl refl
law (Event.remove xs id mode) c v = remove-law xs id mode c v
law (Event.write xs chunk reached) c v = write-law xs chunk reached c
law (Event.synced xs member chunk) c v =
    calm (Event.synced xs member chunk) c
    (turn-of (Calm c) (sync_refusal c (sound_for c xs) member chunk (clean_to xs chunk 16)) (sync_done c member chunk) c (refl, refl) (λ e. (refl, refl)))
    refl refl
law (Event.answer xs number a) c v = answer-law xs number a c v
law (Event.extend xs) c v =
    calm (Event.extend xs) c
    (turn-of (Calm c) (extend_refusal c (sound_for c xs)) (extend_done c (extending.picked c.roster)) c (refl, refl)
    (λ e. (refl, tried-calm c (with_roster c (extended c.roster (extending.picked c.roster))) refl)))
    refl refl
