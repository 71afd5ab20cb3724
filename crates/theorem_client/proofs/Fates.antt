-- What an event makes of the record of each session, and why.
use Rattle.std.specs.Prelude.{Option, Some, None}
use mathlib.Core.Path.{◌≡◌, refl, ap, ◌∙◌, sym, subst}
use mathlib.Core.Logic.{◌≢◌}
use mathlib.Core.Bool.{Bool, true, false, not, ◌&&◌, ◌||◌}
use mathlib.Core.List.{List}
use Prim.Native.Nat.{ℕ, ◌-◌, ◌<◌}
use native.Mathlib.Omega.{arith}
use lib.Dec.{eqb, ltb}
use borrow.Author.Tests.{eqb-true, eq-eqb, ltb-true}
use Rattle.laws_words.specs.Tests.{clash, by_cases, and_left, and_right}
use Rattle.laws_words.specs.Words.{pick}
use Rattle.rules_base.proofs.Sets.{count_to-none}
use Rattle.rules_base.specs.Sets.{has, count_to}
use Rattle.rules_pool.specs.Session.{is_free, is_created, is_normal, is_failed, is_reconnecting, is_removing, is_owed, free, new_session, moved, flagged, marked}
use Rattle.rules_pool.specs.Table.{legal}
use Rattle.rules_pool.specs.declared.Cause.{Cause}
use Rattle.rules_pool.specs.declared.Job.{Job}
use Rattle.rules_pool.specs.declared.Mode.{Mode}
use Rattle.rules_pool.specs.declared.Phase.{Phase}
use Rattle.rules_pool.specs.declared.Pool.{Pool}
use Rattle.rules_pool.specs.declared.Reply.{Reply}
use Rattle.rules_pool.specs.declared.Roster.{Roster}
use Rattle.rules_pool.specs.declared.Run.{Run}
use Rattle.rules_pool.specs.declared.Session.{Session}
use Rattle.rules_pool.specs.declared.Stage.{Stage}
use Rattle.rules_pool.specs.declared.State.{State}
use Rattle.rules_pool.specs.declared.Step.{Step}
use Rattle.rules_pool.specs.Sessions.{session_at}
use Rattle.rules_pool.specs.Changes.{owes, removing}
use Rattle.rules_pool.specs.declared.Way.{Way}
use Rattle.rules_pool.specs.Run.{hand, failed_at, failed_answer, version_brought, good_at, good, awaited_at, awaited_in}
use Rattle.rules_pool.specs.Recovery.{with_roster}
use Rattle.laws_client.proofs.Exit.{turned}
use Rattle.rules_pool.specs.Jobs.{is_running}
use Rattle.rules_pool.specs.StateRules.{job_ok}
use Rattle.laws_client.proofs.Changes.{moved_plain, removing-at}
use Rattle.laws_client.proofs.Links.{counted}
use Rattle.laws_client.proofs.Pools.{Valid, removal-facts}
use Rattle.laws_client.proofs.Records.{is_last, bare, entered_at, left_at, left_other, left-numbers, normal-below, raised_if}
use Rattle.laws_client.proofs.Runs.{RunOk, run-facts}
use Rattle.laws_client.proofs.Tried.{tried-roster}
use Rattle.laws_client.proofs.JoinsKept.{create-passed, created-at, assemble-passed, assembled-at}
use Rattle.rules_client.specs.Joins.{create_refusal, create_done, join_create, assemble_refusal, assembled, assemble_done, join_assemble}
use Rattle.laws_client.proofs.EnablesKept.{enable-passed, enabled-at, maintenance-passed}
use Rattle.rules_client.specs.Enables.{enables, enable_refusal, enable, maintenance_refusal, maintenance_done, maintenance}
use Rattle.laws_client.proofs.LinksKept.{Drops, down-passed, down-roster, dropped-at, dropped-other, normal-dropped, Checks, check-passed, rejoin-checks, checked-at}
use Rattle.rules_client.specs.Links.{drops, down_refusal, dropped, down_done, link_down, checks, check_refusal, store_check, check_done, rejoin_refusal, rejoin}
use Rattle.laws_client.proofs.RemovalSteps.{is_due, departed-goes, started-goes, told-goes, paid-at, paid-long, removing-long, Removable, remove-passed}
use Rattle.rules_client.specs.Removal as removal
use Rattle.rules_client.specs.Remove.{other_mode, remove_refusal, remove}
use Rattle.laws_client.proofs.WritesKept.{misses, write-passed, write-roster, missed-does}
use Rattle.rules_client.specs.Writes.{missed, write_refusal, write_ended}
use Rattle.laws_client.proofs.AnswersKept.{candidate-below, run-able, run-roster}
use Rattle.rules_client.specs.Answers.{answer_refusal, entered_by, answered, answer, reported}
use Rattle.rules_client.specs.Client.{sound_for, remove_turn, write_turn, answer_turn}
use Rattle.theorem_client.specs.Demand2.{Kept}
use Rattle.rules_client.specs.Events.{Event, next, state_of, is_sync, record_of, job_of}
use Rattle.theorem_client.specs.Reading.{is_one, answer_concerns, Part, answer_part, part_of, raises}
use Rattle.theorem_client.specs.Said.{count_of, members_of, version_of, enabling, Becomes, Brings}
use Rattle.theorem_client.proofs.Shape.{off}
use Rattle.theorem_client.proofs.States.{and-true, free-is, created-is, reconnecting-is, unborne}

-- ---- the statement

-- nobody NORMAL stands above id
abbrev pub none_above : Pool → ℕ → Bool
none_above c id = eqb (count_to (λ j. is_normal (state_of c j) && ltb id j) 16) 0

-- part of a removal
abbrev pub is_part : Part → Bool
is_part Part.none = false
is_part (Part.remove id mode) = true
is_part (Part.answer m a) = true

pub data Fate (c : Pool) (e : Event) (c' : Pool) (id : ℕ) : Type 0 where
  kept : Kept c c' id → Fate c e c' id
  begins : e ≡ Event.join_create id → state_of c id ≡ State.Free → record_of c' id ≡ new_session (pick (is_sync c) State.Normal State.Created) → Fate c e c' id
  joins : (set version : ℕ) → e ≡ Event.join_assemble id set version → is_sync c ≡ false → state_of c id ≡ State.Free → record_of c' id ≡ new_session State.Reconnecting → Fate c e c' id
  goes : (to : State) → legal (is_sync c) (state_of c id) to ≡ true → (is_normal (state_of c id) ≡ true → (is_removing to ≡ true) × (raises e ≡ true)) → (is_normal to ≡ true → is_sync c ≡ false → Becomes c id e)
      → ((cause : Cause) → to ≡ State.Failed cause → Brings c id e cause) → record_of c' id ≡ moved (record_of c id) to → Fate c e c' id
  fails : (cause : Cause) (last : Bool) → Brings c id e cause → raises e ≡ true → is_normal (state_of c id) ≡ true → (is_sync c ≡ false → count_of c' ≡ 0 → last ≡ none_above c id)
      → record_of c' id ≡ marked (moved (record_of c id) (State.Failed cause)) last → Fate c e c' id
  maintained : (last : Bool) → e ≡ Event.maintenance id → is_sync c ≡ false → is_normal (state_of c id) ≡ true → (count_of c' ≡ 0 → last ≡ none_above c id)
      → record_of c' id ≡ marked (flagged (moved (record_of c id) State.Reconnecting) true) last → Fate c e c' id
  unflagged : e ≡ Event.enable id → is_reconnecting (state_of c id) ≡ true → record_of c' id ≡ flagged (record_of c id) false → Fate c e c' id
  paid : (mode : Mode) → state_of c id ≡ State.Removing mode true → record_of c' id ≡ new_session (State.Removing mode false) → Fate c e c' id
  freed : is_part (part_of e c) ≡ true → is_removing (state_of c id) ≡ true → record_of c' id ≡ free → Fate c e c' id
  removed : (xs : List ℕ) (mode : Mode) → e ≡ Event.remove xs id mode → legal (is_sync c) (state_of c id) (State.Removing mode true) ≡ true → record_of c' id ≡ free → Fate c e c' id
  extends : (xs : List ℕ) → e ≡ Event.extend xs → is_sync c ≡ false → state_of c id ≡ State.Free → record_of c' id ≡ new_session State.Reconnecting → Fate c e c' id

-- the fate of id in a pool that the event leaves
abbrev Has : Pool → Event → ℕ → Pool → Type 0
Has c e id q = Fate c e (q) id

stays : (c : Pool) (e : Event) (id : ℕ) → Has c e id c
stays c e id = Fate.kept (Kept.equal refl)

-- a state that is not FAILED has no cause
pub no-cause {ℓ} : {A : Type ℓ} (to : State) (cause : Cause) → is_failed to ≡ false → to ≡ State.Failed cause → A
no-cause to cause e q = clash (ap is_failed q) e

-- the state that a record leaves
pub state-of : (c' : Pool) (id : ℕ) (s : Session) → record_of c' id ≡ s → state_of c' id ≡ s.state
state-of c' id s e = ap (λ (s : Session). s.state) e

pub kept-stands : (c c' : Pool) (id : ℕ) → Kept c c' id → state_of c' id ≡ state_of c id
kept-stands c c' id (Kept.equal e) = state-of c' id _ e
kept-stands c c' id (Kept.cleared e w) = state-of c' id _ e

-- ---- the last one

-- where nobody is NORMAL after the event, and the others are as they were, nobody NORMAL stood above id
alone : (c c' : Pool) (id : ℕ) → Valid c → Valid c' → is_sync c' ≡ false → count_of c' ≡ 0 → ((j : ℕ) → j ≢ id → record_of c' j ≡ record_of c j) → none_above c id ≡ true
alone c c' id v v' plain zero others =
    eq-eqb (count_to (λ j. is_normal (state_of c j) && ltb id j) 16) 0 (count_to-none (λ j. is_normal (state_of c j) && ltb id j) 16 (λ j h. by_cases (is_normal (state_of c j))
    (λ n. rw n (by_cases (ltb id j) (λ l. clash n (above j h (λ e. clash l (rw e (self id))))) (λ l. l)))
    (λ n. rw n refl)))
  where
    self : (n : ℕ) → ltb n n ≡ false
    self n = by_cases (ltb n n) (λ l. absurd (let z = ltb-true n n l in let y : ⊥ = omega arith in y)) (λ l. l)

    above : (j : ℕ) → j < 16 → j ≢ id → is_normal (state_of c j) ≡ false
    above j h ne =
        by_cases (is_normal (state_of c j))
        (λ n. let k = counted c'.roster j v'.ok h plain (ap (λ (s : Session). is_normal s.state) (others j ne) ∙ n) in absurd (let y : ⊥ = omega (arith, k, zero) in y))
        (λ n. n)

-- ---- joins

pub create-fate : (c : Pool) (id : ℕ) → Valid c → Fate c (Event.join_create id) (next (Event.join_create id) c) id
unfolding join_create create_done
create-fate c id v =
    turned (Has c (Event.join_create id) id) (create_refusal c id) _ c (stays c (Event.join_create id) id)
    (λ e. let h = create-passed c id e in
    Fate.begins refl (free-is (state_of c id) h.none) (created-at c.roster id v.ok.long h.below))

pub assemble-fate : (c : Pool) (id set version : ℕ) → Valid c → Fate c (Event.join_assemble id set version) (next (Event.join_assemble id set version) c) id
unfolding join_assemble assemble_done
assemble-fate c id set version v =
    turned (Has c (Event.join_assemble id set version) id) (assemble_refusal c id set version) _ c (stays c (Event.join_assemble id set version) id)
    (λ e. let h = assemble-passed c id set version e in
    Fate.joins set version refl h.plain (free-is (state_of c id) h.none)
    (ap (λ (ro : Roster). session_at ro id) (tried-roster (with_roster c (assembled c.roster id set version))) ∙ assembled-at c.roster id set version v.ok.long h.below))

-- ---- enable, maintenance

pub enable-fate : (c : Pool) (id : ℕ) → Valid c → Fate c (Event.enable id) (next (Event.enable id) c) id
unfolding enable enables
enable-fate c id v =
    turned (Has c (Event.enable id) id) (enable_refusal c id) _ c (stays c (Event.enable id) id)
    (λ e. let h = enable-passed c id e in
    let r = enabled-at c id v.ok.long h.below in
    by_cases (is_created (state_of c id))
    (λ b. let is = created-is (state_of c id) b in
    Fate.goes State.Normal (rw is refl) (λ n. clash n (rw is refl)) (λ n s. Becomes.enabled b) (λ k q. no-cause State.Normal k refl q) (rw b at r))
    (λ b. Fate.unflagged refl (and_left (is_reconnecting (state_of c id)) (record_of c id).maintenance (rw b at h.may)) (rw b at r)))

pub maintenance-fate : (c : Pool) (id : ℕ) → Valid c → Valid (next (Event.maintenance id) c) → Fate c (Event.maintenance id) (next (Event.maintenance id) c) id
unfolding maintenance maintenance_done
maintenance-fate c id v =
    turned (λ q. Valid q → Has c (Event.maintenance id) id q) (maintenance_refusal c id) _ c (λ w. stays c (Event.maintenance id) id)
    (λ e w. let h = maintenance-passed c id e in
    let n = left-numbers c.roster id Way.Maintenance false h.plain in
    Fate.maintained (is_last c.roster) refl h.plain h.normal
    (λ z. rw (h.plain, eq-eqb (c.roster.count - 1) 0 (sym n.counted ∙ z))
    (sym (alone c (maintenance_done c id).pool id v w (n.kind ∙ h.plain) z (λ j ne. left_other c.roster id Way.Maintenance j ne))))
    (left_at c.roster id Way.Maintenance v.ok.long h.below))

-- ---- link down, store check

to-failed : (sync : Bool) (st : State) (x : Bool) → ((is_created st || (is_normal st || is_reconnecting st)) || (is_removing st && x)) ≡ true → is_removing st ≡ false → legal sync st (State.Failed Cause.Link) ≡ true
to-failed sync State.Free x e f = clash e refl
to-failed sync State.Created x e f = refl
to-failed sync State.Normal x e f = refl
to-failed sync (State.Failed cause) x e f = clash e refl
to-failed sync State.Reconnecting x e f = refl
to-failed sync (State.Removing m owed) x e f = clash refl f

down-does : (c : Pool) (id : ℕ) → Valid c → Drops c id → (q : Pool) (ended : Bool) → Valid q → q.roster ≡ raised_if ended (dropped c.roster id) → Has c (Event.link_down id) id q
unfolding drops
down-does c id v h q ended w same =
    by_cases (is_removing (state_of c id))
    (λ b. Fate.kept (Kept.equal (rw b at r)))
    (λ b. by_cases (is_normal (state_of c id))
    (λ n. Fate.fails Cause.Link (is_last c.roster) (Brings.link b) refl n (last n) (rw (b, n) at r))
    (λ n. Fate.goes (State.Failed Cause.Link) (to-failed (is_sync c) (state_of c id) _ h.may b) (λ m. clash m n) (λ m s. clash m refl) (λ k q. link-brings k (cc q) b)
    ((rw (b, n) at r) ∙ ap (λ (k : Bool). marked (moved (record_of c id) (State.Failed Cause.Link)) k) (sym (and-true (record_of c id).mark)))))
  where
    r : session_at q.roster id ≡ pick (is_removing (state_of c id)) (record_of c id) (marked (moved (record_of c id) (State.Failed Cause.Link)) (pick (is_normal (state_of c id)) (is_last c.roster) (record_of c id).mark))
    r = ap (λ (ro : Roster). session_at ro id) same ∙ dropped-at c.roster id v.ok.long h.below

    link-brings : (cause : Cause) → Cause.Link ≡ cause → is_removing (state_of c id) ≡ false → Brings c id (Event.link_down id) cause
    link-brings cause e b = subst (λ (k : Cause). Brings c id (Event.link_down id) k) e (Brings.link b)

    last : is_normal (state_of c id) ≡ true → is_sync c ≡ false → q.roster.count ≡ 0 → is_last c.roster ≡ none_above c id
    last n plain z =
        let k = normal-dropped c.roster id plain n in
        rw (plain, eq-eqb (c.roster.count - 1) 0 (sym k.counted ∙ (sym (ap (λ (ro : Roster). ro.count) same) ∙ z)))
        (sym (alone c (q) id v w (ap (λ (ro : Roster). ro.sync) same ∙ (k.kind ∙ plain)) z (λ j ne. ap (λ (ro : Roster). session_at ro j) same ∙ dropped-other c.roster id j ne)))

pub down-fate : (c : Pool) (id : ℕ) → Valid c → Valid (next (Event.link_down id) c) → Fate c (Event.link_down id) (next (Event.link_down id) c) id
unfolding link_down down_done
down-fate c id v =
    turned (λ q. Valid q → Has c (Event.link_down id) id q) (down_refusal c id) _ c (λ w. stays c (Event.link_down id) id)
    (λ e w. down-does c id v (down-passed c id e) _ (is_running c.job) w (down-roster c.job c id))

abbrev back : Bool → State
back sync = pick sync State.Normal State.Reconnecting

to_back : (sync : Bool) (st : State) → (is_failed st || (is_created st && not sync)) ≡ true → (legal sync st (back sync) ≡ true) × (is_normal st ≡ false)
to_back sync State.Free e = clash e refl
to_back true State.Created e = clash e refl
to_back false State.Created e = (refl, refl)
to_back sync State.Normal e = clash e refl
to_back true (State.Failed cause) e = (refl, refl)
to_back false (State.Failed cause) e = (refl, refl)
to_back sync State.Reconnecting e = clash e refl
to_back sync (State.Removing m owed) e = clash e refl

back-plain {ℓ} : {A : Type ℓ} (sync : Bool) → is_normal (back sync) ≡ true → sync ≡ false → A
back-plain true n e = clash refl e
back-plain false n e = clash n refl

back-lives : (sync : Bool) → is_failed (back sync) ≡ false
back-lives true = refl
back-lives false = refl

-- a session that a good store check or a good rejoin brings back
brought-back : (c : Pool) (e : Event) (id : ℕ) → Valid c → Checks c id → Has c e id (check_done c id).pool
unfolding checks
brought-back c e id v h =
    let t = to_back (is_sync c) (state_of c id) h.may in
    Fate.goes (back (is_sync c)) t.0 (λ n. clash n t.1) (λ n s. back-plain (is_sync c) n s) (λ k q. no-cause (back (is_sync c)) k (back-lives (is_sync c)) q)
    (checked-at c id v.ok.long h.below)

pub check-fate : (c : Pool) (id : ℕ) → Valid c → Fate c (Event.store_check id) (next (Event.store_check id) c) id
unfolding store_check
check-fate c id v =
    turned (Has c (Event.store_check id) id) (check_refusal c id) _ c (stays c (Event.store_check id) id)
    (λ e. brought-back c (Event.store_check id) id v (check-passed c id e))

pub rejoin-fate : (c : Pool) (id : ℕ) → Valid c → Fate c (Event.rejoin id) (next (Event.rejoin id) c) id
unfolding rejoin
rejoin-fate c id v =
    turned (Has c (Event.rejoin id) id) (rejoin_refusal c id) _ c (stays c (Event.rejoin id) id)
    (λ e. brought-back c (Event.rejoin id) id v (rejoin-checks c id e))

-- ---- remove

to-removing : (sync : Bool) (st : State) (mode : Mode) (owed : Bool) → is_free st ≡ false → is_removing st ≡ false → legal sync st (State.Removing mode owed) ≡ true
to-removing sync State.Free mode owed e f = clash refl e
to-removing sync State.Created mode owed e f = refl
to-removing sync State.Normal mode owed e f = refl
to-removing sync (State.Failed cause) mode owed e f = refl
to-removing sync State.Reconnecting mode owed e f = refl
to-removing sync (State.Removing m o) mode owed e f = clash refl f

-- a repeat is in the same mode
same-mode : (st : State) (mode : Mode) → is_removing st ≡ true → other_mode st mode ≡ false → State.Removing mode (owes st) ≡ st
same-mode State.Free mode e f = clash e refl
same-mode State.Created mode e f = clash e refl
same-mode State.Normal mode e f = clash e refl
same-mode (State.Failed cause) mode e f = clash e refl
same-mode State.Reconnecting mode e f = clash e refl
same-mode (State.Removing Mode.Delete owed) Mode.Delete e f = refl
same-mode (State.Removing Mode.Delete owed) Mode.Disassemble e f = clash refl f
same-mode (State.Removing Mode.Disassemble owed) Mode.Delete e f = clash refl f
same-mode (State.Removing Mode.Disassemble owed) Mode.Disassemble e f = refl

-- a REMOVING session that stays what it was
again : (c : Pool) (id : ℕ) (to : State) → Valid c → id < 16 → is_removing (state_of c id) ≡ true → (is_failed to || is_reconnecting to) ≡ false → to ≡ state_of c id → moved (record_of c id) to ≡ record_of c id
again c id to v h m b e = moved_plain (record_of c id) to b ∙ (ap new_session e ∙ sym (bare c.roster v.ok id h (unborne (state_of c id) m)))

remove-does : (c : Pool) (xs : List ℕ) (id : ℕ) (mode : Mode) → Valid c → Removable c id mode → (q : Pool) (b : Bool)
    → session_at q.roster id ≡ pick b free (moved (record_of c id) (State.Removing mode (owes (state_of c id)))) → Has c (Event.remove xs id mode) id q
remove-does c xs id mode v h q true r =
    by_cases (is_removing (state_of c id)) (λ m. Fate.freed refl m r) (λ m. Fate.removed xs mode refl (to-removing (is_sync c) (state_of c id) mode true h.some m) r)
remove-does c xs id mode v h q false r =
    by_cases (is_removing (state_of c id))
    (λ m. Fate.kept (Kept.equal (r ∙ again c id (State.Removing mode (owes (state_of c id))) v h.below m refl (same-mode (state_of c id) mode m h.mode-same))))
    (λ m. Fate.goes (State.Removing mode (owes (state_of c id))) (to-removing (is_sync c) (state_of c id) mode (owes (state_of c id)) h.some m) (λ n. (refl, refl)) (λ n s. clash n refl) (λ k q. no-cause (State.Removing mode (owes (state_of c id))) k refl q) r)

pub remove-fate : (c : Pool) (xs : List ℕ) (id : ℕ) (mode : Mode) → Valid c → Fate c (Event.remove xs id mode) (next (Event.remove xs id mode) c) id
unfolding remove remove_turn
remove-fate c xs id mode v =
    turned (Has c (Event.remove xs id mode) id) (remove_refusal c (sound_for c xs) id mode) _ c (stays c (Event.remove xs id mode) id)
    (λ e. let h = remove-passed c (sound_for c xs) id mode e in
    let g = started-goes (with_roster c (removing c.roster id mode)) id (removing-long c.roster id mode v.ok.long) h.below in
    let b = pick (is_owed (session_at (removing c.roster id mode) id).state) false (not (is_due Stage.Leave (removing c.roster id mode))) in
    remove-does c xs id mode v h _ b (g.own ∙ ap (λ (s : Session). pick b free s) (removing-at c.roster id mode v.ok.long h.below)))

-- ---- write

pub write-fate : (c : Pool) (xs : List ℕ) (chunk reached id : ℕ) → Valid c → misses reached id c.roster ≡ true → Fate c (Event.write xs chunk reached) (next (Event.write xs chunk reached) c) id
unfolding write_ended write_turn
write-fate c xs chunk reached id v miss =
    turned (Has c (Event.write xs chunk reached) id) (write_refusal c (sound_for c xs) chunk reached) _ c (stays c (Event.write xs chunk reached) id)
    (λ e. let d = missed-does c.roster reached v.ok (write-passed c (sound_for c xs) chunk reached e).plain in
    let same = write-roster c chunk reached in
    let was = and_left (is_normal (state_of c id)) (not (has reached id)) miss in
    Fate.fails Cause.Io (eqb (missed c.roster reached).count 0 && none_above c id) (Brings.io xs chunk reached was (off (has reached id) (and_right (is_normal (state_of c id)) (not (has reached id)) miss))) refl was
    (λ plain z. rw (eq-eqb (missed c.roster reached).count 0 (sym (ap (λ (ro : Roster). ro.count) same) ∙ z)) refl)
    (ap (λ (ro : Roster). session_at ro id) same ∙ d.fails id (normal-below c.roster id v.ok.long was) miss))

-- ---- answers

failed-nobody : (r : Run) → (failed_answer r).normal ≡ None
unfolding failed_answer
failed-nobody r = at r.phase
  where
    at : (p : Phase) → (failed_at p r).normal ≡ None
    at (Phase.Versions best) = refl
    at (Phase.Base s) = refl
    at Phase.LastIo = refl
    at (Phase.Gather s) = refl
    at (Phase.Enable every) = refl
    at (Phase.Spread s) = refl

nobody-not {ℓ} : {A : Type ℓ} (id : ℕ) (w : Option ℕ) → w ≡ None → is_one w id ≡ true → A
nobody-not id w e o = clash o (ap (λ (w : Option ℕ). is_one w id) e)

-- one that becomes NORMAL is the one that the awaited message enables
good-enables : (members version : ℕ) (r : Run) (b : Option ℕ) (id : ℕ) → is_one (good members version r b).normal id ≡ true → enabling (awaited_in members version r) id ≡ true
unfolding good awaited_in
good-enables members version r b id o = at r.phase o
  where
    turn : (x y : ℕ) → eqb x y ≡ true → eqb y x ≡ true
    turn x y e = eq-eqb y x (sym (eqb-true x y e))

    brought : (best : ℕ) (b : Option ℕ) → (version_brought members version best r b).normal ≡ None
    brought best None = failed-nobody r
    brought best (Some w) = by_cases (ltb version w) (λ e. rw e (failed-nobody r)) (λ e. rw e refl)

    at : (p : Phase) → is_one (good_at p members version r b).normal id ≡ true → enabling (awaited_at p members version r) id ≡ true
    at (Phase.Versions best) e = nobody-not id (version_brought members version best r b).normal (brought best b) e
    at (Phase.Base s) e = clash e refl
    at Phase.LastIo e = clash e refl
    at (Phase.Gather s) e = clash e refl
    at (Phase.Enable every) e = turn id r.source e
    at (Phase.Spread Step.Ready) e = clash e refl
    at (Phase.Spread Step.Send) e = clash e refl
    at (Phase.Spread Step.Done) e = turn id (hand r) e

-- the one that an answer makes NORMAL
run-fate : (c : Pool) (xs : List ℕ) (number : ℕ) (b : Option ℕ) (id : ℕ) (r : Run) → job_of c ≡ Job.Running r → Valid c → RunOk c.roster r
    → is_one (good (members_of c) (version_of c) r b).normal id ≡ true → Has c (Event.answer xs number (Reply.Good b)) id (reported c (good (members_of c) (version_of c) r b)).pool
run-fate c xs number b id r job v f o = at (good (members_of c) (version_of c) r b).normal refl o
  where
    at : (w : Option ℕ) → (good (members_of c) (version_of c) r b).normal ≡ w → is_one w id ≡ true → Has c (Event.answer xs number (Reply.Good b)) id (reported c (good (members_of c) (version_of c) r b)).pool
    at None e o' = clash o' refl
    at (Some x) e o' =
        let same = eqb-true id x o' in
        let can = run-able c r (Reply.Good b) v f id (e ∙ ap Some (sym same)) in
        let is = reconnecting-is (state_of c id) (and_left (is_reconnecting (state_of c id)) (not (record_of c id).maintenance) can) in
        Fate.goes State.Normal (rw (is, f.plain) refl) (λ n. clash n (rw is refl)) (λ n s. Becomes.answered xs number b r job (good-enables (members_of c) (version_of c) r b id o)) (λ k q. no-cause State.Normal k refl q)
        (ap (λ (ro : Roster). session_at ro id) (run-roster c (good (members_of c) (version_of c) r b))
        ∙ (ap (λ (w : Option ℕ). session_at (entered_by w c.roster) id) (e ∙ ap Some (sym same))
        ∙ entered_at c.roster id v.ok.long (candidate-below c.roster id v.ok.long can)))

-- the state of a REMOVING session whose LEAVE_POOL was answered well
paid-state : (st : State) → is_removing st ≡ true → (P : State → Type 0) → ((m : Mode) → st ≡ State.Removing m true → P (State.Removing m false)) → (State.Removing (removal.mode_of st) false ≡ st → P st) → P (State.Removing (removal.mode_of st) false)
paid-state State.Free e P f g = clash e refl
paid-state State.Created e P f g = clash e refl
paid-state State.Normal e P f g = clash e refl
paid-state (State.Failed cause) e P f g = clash e refl
paid-state State.Reconnecting e P f g = clash e refl
paid-state (State.Removing Mode.Delete true) e P f g = f Mode.Delete refl
paid-state (State.Removing Mode.Disassemble true) e P f g = f Mode.Disassemble refl
paid-state (State.Removing Mode.Delete false) e P f g = g refl
paid-state (State.Removing Mode.Disassemble false) e P f g = g refl

own-fate : (c : Pool) (e : Event) (id : ℕ) (q : Pool) (b : Bool) → is_part (part_of e c) ≡ true → is_removing (state_of c id) ≡ true → (s : Session) → session_at q.roster id ≡ pick b free s → (session_at q.roster id ≡ s → Has c e id q) → Has c e id q
own-fate c e id q true i m s r f = Fate.freed i m r
own-fate c e id q false i m s r f = f r

left-fate : (c : Pool) (e : Event) (id : ℕ) → Valid c → id < 16 → is_removing (state_of c id) ≡ true → (q : Pool) → session_at q.roster id ≡ moved (record_of c id) (State.Removing (removal.mode_of (state_of c id)) false) → Has c e id q
left-fate c e id v h m q r =
    paid-state (state_of c id) m (λ st. session_at q.roster id ≡ moved (record_of c id) st → Has c e id q)
    (λ k is s. Fate.paid k is (s ∙ moved_plain (record_of c id) (State.Removing k false) refl))
    (λ is s. Fate.kept (Kept.equal (s ∙ again c id (state_of c id) v h m (unborne (state_of c id) m) refl)))
    r

well-fate : (st : Stage) (c : Pool) (e : Event) (id : ℕ) → is_part (part_of e c) ≡ true → Valid c → id < 16 → is_removing (state_of c id) ≡ true → Has c e id (removal.well_answered st c id).posted.pool
well-fate Stage.Leave c e id i v h m =
    own-fate c e id _ (not (is_due Stage.Leave (removal.paid c id).roster)) i m _ (departed-goes (removal.paid c id) id (paid-long c id v.ok.long) h).own
    (λ r. left-fate c e id v h m _ (r ∙ paid-at c id v.ok.long h))
well-fate (Stage.Info peer) c e id i v h m =
    own-fate c e id _ (not (is_due (Stage.Info peer) c.roster)) i m _ (told-goes c id peer v.ok.long h).own (λ r. Fate.kept (Kept.equal r))

answered-fate : (k : Job) (c : Pool) (xs : List ℕ) (number : ℕ) (a : Reply) (id : ℕ) → job_of c ≡ k → Valid c → job_ok k c.roster ≡ true → answer_concerns k c a id ≡ true
    → Has c (Event.answer xs number a) id (answered k c a).pool
answered-fate Job.Idle c xs number a id job v o n = clash n refl
answered-fate (Job.Running r) c xs number Reply.Failed id job v o n = nobody-not id (failed_answer r).normal (failed-nobody r) n
answered-fate (Job.Running r) c xs number (Reply.Good b) id job v o n = run-fate c xs number b id r job v (run-facts c.roster r v.ok.long o) n
answered-fate (Job.Removing m) c xs number Reply.Failed id job v o n = Fate.kept (Kept.equal refl)
answered-fate (Job.Removing m) c xs number (Reply.Good b) id job v o n =
    let h = removal-facts c.roster m v.ok.long o in
    rw (eqb-true id m.id n) (well-fate m.stage c (Event.answer xs number (Reply.Good b)) m.id (ap (λ (k : Job). is_part (answer_part k (Reply.Good b))) job) v h.below h.removing)

pub answer-fate : (c : Pool) (xs : List ℕ) (number : ℕ) (a : Reply) (id : ℕ) → Valid c → answer_concerns c.job c a id ≡ true → Fate c (Event.answer xs number a) (next (Event.answer xs number a) c) id
unfolding answer answer_turn
answer-fate c xs number a id v n =
    turned (Has c (Event.answer xs number a) id) (answer_refusal c (sound_for c xs) number) _ c (stays c (Event.answer xs number a) id)
    (λ e. answered-fate c.job c xs number a id refl v v.job n)
