-- What becomes of every field, event by event.
use Rattle.std.specs.Prelude.{Option, Some, None}
use mathlib.Core.Path.{◌≡◌, refl, sym, ap, ◌∙◌, subst}
use mathlib.Core.Logic.{◌≢◌}
use mathlib.Core.Bool.{Bool, true, false, not, ◌&&◌, ◌||◌}
use mathlib.Core.List.{List}
use Prim.Native.Nat.{ℕ, ◌+◌, ◌-◌, ◌<◌, ◌≤◌, max, min}
use native.Mathlib.Decide.{ℕ_discrete, dec_lt}
use native.Mathlib.Omega.{arith}
use lib.Dec.{eqb, ltb}
use borrow.Author.Tests.{eqb-true, eqb-false, eq-eqb, ne_eqb, not-true, leb-true, lt-ltb, le-leb}
use Rattle.laws_words.specs.Words.{pick, one}
use Rattle.laws_words.specs.Tests.{clash, by_cases, and_left, and_right, and-false, same_test, one-le, all-at, either}
use Rattle.rules_base.specs.Limits.{version_limit, version_top}
use Rattle.rules_base.specs.Sets.{has, without, size, count_to, lowest}
use Rattle.rules_base.proofs.Sets.{same_set, size-zero, size-some, empty-set, lowest-in, lowest-le, has-none, has-out}
use Rattle.rules_base.specs.declared.Op.{Op}
use Rattle.rules_base.specs.Chunk.{dirty, marked_for}
use Rattle.rules_base.proofs.Chunk.{dirty-lt}
use Rattle.rules_base.specs.Fill.{row_filled}
use Rattle.rules_base.proofs.Chunks as chunks
use Rattle.rules_base.proofs.Chunks.{same-yes, same-no, dirty-marked_for}
use Rattle.rules_pool.specs.declared.Cause.{Cause}
use Rattle.rules_pool.specs.declared.Mode.{Mode}
use Rattle.rules_pool.specs.declared.State.{State}
use Rattle.rules_pool.specs.declared.Session.{Session}
use Rattle.rules_pool.specs.declared.Past.{Past}
use Rattle.rules_pool.specs.declared.Roster.{Roster}
use Rattle.rules_pool.specs.declared.Stage.{Stage}
use Rattle.rules_pool.specs.declared.Removal.{Removal}
use Rattle.rules_pool.specs.declared.Run.{Run}
use Rattle.rules_pool.specs.declared.Job.{Job}
use Rattle.rules_pool.specs.declared.Kind.{Kind}
use Rattle.rules_pool.specs.declared.Pool.{Pool}
use Rattle.rules_pool.specs.declared.Message.{Message}
use Rattle.rules_pool.specs.declared.Told as messages
use Rattle.rules_pool.specs.declared.Outcome.{Outcome}
use Rattle.rules_pool.specs.declared.Effect.{Effect}
use Rattle.rules_pool.specs.declared.Sent.{Sent}
use Rattle.rules_pool.specs.declared.Answer.{Answer}
use Rattle.rules_pool.specs.declared.Reply.{Reply}
use Rattle.rules_pool.specs.declared.Turn.{Turn}
use Rattle.rules_pool.specs.declared.Way.{Way}
use Rattle.rules_pool.specs.Past.{past_written}
use Rattle.rules_pool.specs.Breaking.{is_accepted}
use Rattle.rules_pool.specs.Session.{is_free, is_created, is_normal, is_failed, is_reconnecting, is_removing, is_deleting, moved, flagged, new_session}
use Rattle.rules_pool.specs.Sessions.{session_at, stored, ids_of}
use Rattle.rules_pool.specs.Changes.{more, all_unmarked, entered, left, went, owes, removing, enrolled, flagged_at, member_entered, taken_over, written}
use Rattle.rules_pool.specs.Jobs.{peer_at}
use Rattle.rules_pool.specs.Run.{receiver}
use Rattle.rules_pool.specs.StateRules.{job_ok, run_ok, run_rules}
use Rattle.rules_pool.specs.Exit.{accepted, changed, tried_after, halted_if}
use Rattle.rules_pool.specs.Recovery.{with_roster, run_ended, removal_ended, disabling_but}
use Rattle.laws_client.proofs.Ids.{Long, stored-long, stored_same, stored_other, unmarked-long, unmarked-at, ids-has, ids-lt}
use Rattle.laws_client.proofs.Rosters.{below_top, entered_plain, entered-is}
use Rattle.laws_client.proofs.Pools.{Valid, valid-facts}
use Rattle.laws_client.proofs.Changes.{moved_plain, removing-at}
use Rattle.laws_client.proofs.Tried.{tried-roster}
use Rattle.laws_client.proofs.Links.{counted, sync-enter-is}
use Rattle.laws_client.proofs.ExtendingKept.{picks}
use Rattle.laws_client.proofs.RemovalSteps.{removing-other, removing-numbers}
use Rattle.laws_client.proofs.LinksKept.{dropped-at, dropped-other, normal-dropped, other-dropped, dropped-sync}
use Rattle.laws_client.proofs.Records.{Numbers, is_last, placed, left_at, left_other, left-numbers, normal-below}
use Rattle.laws_client.proofs.WritesKept.{Missed, missed-does, wrote_in, marks-pool}
use Rattle.rules_client.specs.Joins.{create_refusal, create_done, created, join_told, join_create, assemble_refusal, assemble_done, assembled, join_assemble}
use Rattle.rules_client.specs.Enables.{enable_refusal, enable_done, enable, maintenance_refusal, maintenance_done, maintenance}
use Rattle.rules_client.specs.Links.{down_refusal, dropped, down_at, down_done, link_down, check_refusal, check_done, store_check, rejoin_refusal, rejoin, try_refusal, try_run}
use Rattle.rules_client.specs.Remove.{remove_refusal, remove_begun, gone, remove}
use Rattle.rules_client.specs.Writes.{write_refusal, missed, marks, loses, write_done, write_ended, sync_refusal, sync_done, synced}
use Rattle.rules_client.specs.Answers.{answer_refusal, answered, answer}
use Rattle.rules_client.specs.Extend.{picked, extended, extend_refusal, extend_done, extend}
use Rattle.rules_client.specs.Client.{carried, sound_for, clean_to, remove_turn, write_turn, synced_turn, answer_turn, extend_turn}
use Rattle.rules_client.specs.Events.{Event, Lent, turn_of, lent_to, map_left}
use Rattle.theorem_client.proofs.Adds.{extend-said}
use Rattle.theorem_client.proofs.Shape.{why_not}
use Rattle.theorem_client.proofs.Sound.{inside, left-sound}
use Rattle.theorem_client.proofs.Written.{write-said}
use Rattle.theorem_client_exact.proofs.Past.{left-past, removing-past, dropped-past, missed-past}
use Rattle.theorem_client.specs.Said.{misses_peer}
use Rattle.theorem_client_exact.specs.Words.{In, SoundMap, SomeUnused, Normal, session_of, state_of, members_of, version_of, Member, Accepted, InOrder}
use Rattle.theorem_client_exact.specs.Accepted.{demands, All}
use Rattle.theorem_client_exact.specs.Fields as said
use Rattle.theorem_client_exact.specs.Fields.{Left, Then, Holds, SomeSet, IsReported, IsTold, IsLeft, Comes, Became, FieldsAsSaid, leaves}
use Rattle.theorem_client_exact.proofs.Became.{stored_at, one-said, fields-same, and-true, same, as_it_was, one_more, normals, tolds, tolds-all, lowest-same, rises}
use Rattle.theorem_client_exact.proofs.Tells.{normal-is, sound-is, some-unused}
use Rattle.theorem_client_exact.proofs.Accepted.{pool-accepted, no-refusal}
use Rattle.theorem_client_exact.proofs.Demands.{is-accepted}

-- ---- an accepted event does what it does

abbrev does : Event → Pool → Turn
does (Event.join_create id) p = create_done p id
does (Event.join_assemble id set version) p = assemble_done p id set version
does (Event.enable id) p = enable_done p id
does (Event.maintenance id) p = maintenance_done p id
does (Event.link_down id) p = down_done p id
does (Event.store_check id) p = check_done p id
does (Event.rejoin id) p = check_done p id
does Event.try_run p = tried_after p p Outcome.Plain messages.Told.Nothing
does (Event.remove xs id mode) p = gone p (remove_begun p id mode)
does (Event.write xs chunk reached) p = write_done p chunk reached
does (Event.synced xs member chunk) p = sync_done p member chunk
does (Event.answer xs number a) p = answered p.job p a
does (Event.extend xs) p = extend_done p (picked p.roster)

turn_is : (e : Event) (p : Pool) → why_not e p ≡ 0 → turn_of e p ≡ does e p
unfolding join_create create_refusal join_assemble assemble_refusal enable enable_refusal maintenance maintenance_refusal link_down down_refusal store_check check_refusal rejoin rejoin_refusal try_run try_refusal remove remove_refusal remove_turn write_ended write_refusal write_turn synced sync_refusal synced_turn answer answer_refusal answer_turn extend extend_refusal extend_turn
turn_is (Event.join_create id) p z = rw z refl
turn_is (Event.join_assemble id set version) p z = rw z refl
turn_is (Event.enable id) p z = rw z refl
turn_is (Event.maintenance id) p z = rw z refl
turn_is (Event.link_down id) p z = rw z refl
turn_is (Event.store_check id) p z = rw z refl
turn_is (Event.rejoin id) p z = rw z refl
turn_is Event.try_run p z = rw z refl
turn_is (Event.remove xs id mode) p z = rw z refl
turn_is (Event.write xs chunk reached) p z = rw z refl
turn_is (Event.synced xs member chunk) p z = rw z refl
turn_is (Event.answer xs number a) p z = rw z refl
turn_is (Event.extend xs) p z = rw z refl

-- the fields, of a turn
record By (l : Left) (p : Pool) (lent : Lent) (t : Turn) : Type 0 where
  after : Pool
  session : (id : ℕ) → session_of after id ≡ l.session id
  members : Holds (members_of after) l.members
  count : after.roster.count ≡ l.count
  version : version_of after ≡ l.version
  past : after.roster.past ≡ l.past
  kind : after.roster.sync ≡ p.roster.sync
  job : after.job ≡ l.job
  number : after.number ≡ p.number
  chunks : after.chunks ≡ p.chunks
  sent : Sent
  answer : t.answer ≡ Answer.Done sent
  reports : IsReported l.reports sent.outcome
  tells : IsTold l.tells sent.told
  then : Comes l.then l.chunk after t.pool sent lent (said.done t.effect lent)

-- ---- joins

create-by : (b : Bool) (p : Pool) (id : ℕ) → Valid p → id < 16
    → By (said.creates b p id) p Lent.none
    (changed p (pick b (enrolled p.roster id State.Normal) (member_entered (enrolled p.roster id State.Created) id)) (pick b messages.Told.Nothing (messages.Told.Infos (without (ids_of Kind.Told p.roster) id) Op.AddCreate id)))
create-by true p id v h =
    record {
      after = with_roster p (enrolled p.roster id State.Normal);
      session = stored_at p.roster id (new_session State.Normal) v.ok.long h;
      members = as_it_was p.roster.members v.ok.small;
      count = refl;
      version = refl;
      past = refl;
      kind = refl;
      job = refl;
      number = refl;
      chunks = refl;
      sent = _;
      answer = refl;
      reports = refl;
      tells = refl;
      then = (refl, refl, refl, refl);
    }
create-by false p id v h =
    record {
      after = with_roster p (member_entered (enrolled p.roster id State.Created) id);
      session = stored_at p.roster id (new_session State.Created) v.ok.long h;
      members = one_more p.roster.members id v.ok.small h;
      count = refl;
      version = refl;
      past = refl;
      kind = refl;
      job = refl;
      number = refl;
      chunks = refl;
      sent = _;
      answer = refl;
      reports = refl;
      tells = record { set = without (ids_of Kind.Told p.roster) id; so = (refl, tolds p id v.ok.long) };
      then = (refl, refl, refl, refl);
    }

-- an empty membership takes the set over; another is the same set
taken-set : (m set : ℕ) → set ≤ 65535 → (m ≢ 0 → set ≡ m) → Holds (pick (eqb m 0) set m) (In set)
taken-set m set b f = by_cases (eqb m 0)
    (λ e. rw e (record { ids = b; are = λ id. same }))
    (λ e. rw e (let q : set ≡ m = f (eqb-false m 0 e) in rw (sym q) (record { ids = b; are = λ id. same })))

assemble-by : (b : Bool) → b ≡ false → (p : Pool) (id set version : ℕ) → Valid p → id < 16 → set ≤ 65535 → (members_of p ≢ 0 → set ≡ members_of p)
    → By (leaves (Event.join_assemble id set version) p) p Lent.none
    (tried_after p (with_roster p (assembled p.roster id set version)) Outcome.Plain (pick b messages.Told.Nothing (messages.Told.Infos (without (ids_of Kind.Told p.roster) id) Op.AddAssemble id)))
unfolding assembled went
assemble-by true e p id set version v h s f = clash refl e
assemble-by false e p id set version v h s f =
    record {
      after = with_roster p (went (enrolled (taken_over p.roster set version) id State.Created) id State.Reconnecting);
      session = one-said p.roster ro id (new_session State.Reconnecting)
          (stored_same begun id (moved (session_at begun id) State.Reconnecting) long h ∙ ap (λ (x : Session). moved x State.Reconnecting) (stored_same taken id (new_session State.Created) v.ok.long h))
          (λ j d. stored_other begun id (moved (session_at begun id) State.Reconnecting) j d ∙ stored_other taken id (new_session State.Created) j d);
      members = taken-set (members_of p) set s f;
      count = refl;
      version = refl;
      past = refl;
      kind = refl;
      job = refl;
      number = refl;
      chunks = refl;
      sent = _;
      answer = refl;
      reports = refl;
      tells = record { set = without (ids_of Kind.Told p.roster) id; so = (refl, tolds p id v.ok.long) };
      then = (refl, tried-roster (with_roster p (went (enrolled (taken_over p.roster set version) id State.Created) id State.Reconnecting)), (refl, refl), refl);
    }
  where
    taken : Roster
    taken = taken_over p.roster set version

    begun : Roster
    begun = enrolled (taken_over p.roster set version) id State.Created

    ro : Roster
    ro = went (enrolled (taken_over p.roster set version) id State.Created) id State.Reconnecting

    long : Long (enrolled (taken_over p.roster set version) id State.Created)
    long = stored-long taken id (new_session State.Created) v.ok.long

-- ---- enable, maintenance

both-picked : (b : Bool) (x x' y y' : Session) → x ≡ x' → y ≡ y' → pick b x y ≡ pick b x' y'
both-picked true x x' y y' e f = e
both-picked false x x' y y' e f = f

enable-by : (b : Bool) (p : Pool) (id : ℕ) → Valid p → id < 16 → p.roster.sync ≡ false
    → By (said.enables b p id) p Lent.none (pick b (changed p (entered p.roster id) messages.Told.Nothing) (tried_after p (with_roster p (flagged_at p.roster id false)) Outcome.Plain messages.Told.Nothing))
enable-by true p id v h plain =
    record {
      after = with_roster p (entered_plain p.roster id);
      session = λ j. stored_at (all_unmarked p.roster) id (moved (session_at p.roster id) State.Normal) (unmarked-long p.roster v.ok.long) h j
          ∙ both-picked (eqb j id) _ _ _ _ (moved_plain (session_at p.roster id) State.Normal refl) (unmarked-at p.roster j);
      members = as_it_was p.roster.members v.ok.small;
      count = below_top p.roster.count (omega (arith, v.ok.high, v.ok.low));
      version = refl;
      past = refl;
      kind = refl;
      job = refl;
      number = refl;
      chunks = refl;
      sent = _;
      answer = refl;
      reports = refl;
      tells = refl;
      then = (ap (with_roster p) (entered-is p.roster id plain), refl, refl, refl);
    }
enable-by false p id v h plain =
    record {
      after = with_roster p (flagged_at p.roster id false);
      session = stored_at p.roster id (flagged (session_at p.roster id) false) v.ok.long h;
      members = as_it_was p.roster.members v.ok.small;
      count = refl;
      version = refl;
      past = refl;
      kind = refl;
      job = refl;
      number = refl;
      chunks = refl;
      sent = _;
      answer = refl;
      reports = refl;
      tells = refl;
      then = (refl, tried-roster (with_roster p (flagged_at p.roster id false)), (refl, refl), refl);
    }

-- the only one in the count
last_one : (n : ℕ) → 1 ≤ n → eqb (n - 1) 0 ≡ eqb n 1
last_one n h = same_test (eqb (n - 1) 0) (eqb n 1)
    (λ e. let q = eqb-true (n - 1) 0 e in eq-eqb n 1 (omega (arith, q, h)))
    (λ e. let q = eqb-true n 1 e in eq-eqb (n - 1) 0 (omega (arith, q)))

-- a NORMAL session in a pool that counts
counts-yes : (p : Pool) (id : ℕ) → is_normal (state_of p id) ≡ true → p.roster.sync ≡ false → said.counts p id ≡ true
counts-yes p id n plain = rw (n, plain) refl

maintenance-by : (p : Pool) (id : ℕ) → Valid p → id < 16 → p.roster.sync ≡ false → is_normal (state_of p id) ≡ true
    → By (leaves (Event.maintenance id) p) p Lent.none (changed p (left p.roster id Way.Maintenance) (messages.Told.Off id))
maintenance-by p id v h plain n =
    record {
      after = with_roster p (left p.roster id Way.Maintenance);
      session = one-said p.roster (left p.roster id Way.Maintenance) id _
          (left_at p.roster id Way.Maintenance v.ok.long h ∙ fields-same _ _ refl refl alone) (left_other p.roster id Way.Maintenance);
      members = record { ids = omega (arith, v.ok.small, k.held); are = λ j. rw k.held same };
      count = k.counted ∙ rw c refl;
      version = k.versioned ∙ (rises p.roster v.ok some ∙ rw c refl);
      past = left-past p.roster id Way.Maintenance;
      kind = k.kind;
      job = refl;
      number = refl;
      chunks = refl;
      sent = _;
      answer = refl;
      reports = refl;
      tells = refl;
      then = (refl, refl, refl, refl);
    }
  where
    k : Numbers p.roster (left p.roster id Way.Maintenance) (p.roster.count - 1) (more p.roster.version) p.roster.members
    k = left-numbers p.roster id Way.Maintenance false plain

    c : said.counts p id ≡ true
    c = counts-yes p id n plain

    some : 1 ≤ p.roster.count
    some = omega (arith, counted p.roster id v.ok h plain n)

    alone : is_last p.roster ≡ said.alone p id
    alone = rw (c, plain) (last_one p.roster.count some)

-- ---- link down

or-false : (b : Bool) → (b || false) ≡ b
or-false true = refl
or-false false = refl

-- mark and flag of a NORMAL session are off
normal-bare : (p : Pool) (id : ℕ) → Valid p → id < 16 → is_normal (state_of p id) ≡ true → ((session_of p id).mark ≡ false) × ((session_of p id).maintenance ≡ false)
normal-bare p id v h n =
    let q = placed p.roster v.ok id h in
    let st : state_of p id ≡ State.Normal = (normal-is (state_of p id)).true-then n in
    let b : (is_failed (state_of p id) || is_reconnecting (state_of p id)) ≡ false = ap (λ (s : State). is_failed s || is_reconnecting s) st in
    (q.0 ∙ (ap (λ (x : Bool). (session_of p id).mark && x) b ∙ and-false (session_of p id).mark), q.1 ∙ (ap (λ (x : Bool). (session_of p id).maintenance && x) b ∙ and-false (session_of p id).maintenance))

-- the mark of a session that falls
fallen-mark : (p : Pool) (id : ℕ) → Valid p → id < 16 → pick (is_normal (state_of p id)) (is_last p.roster) (session_of p id).mark ≡ ((session_of p id).mark || said.alone p id)
fallen-mark p id v h = by_cases (is_normal (state_of p id)) yes-normal (λ e. rw e (sym (or-false (session_of p id).mark)))
  where
    yes-normal : is_normal (state_of p id) ≡ true → pick (is_normal (state_of p id)) (is_last p.roster) (session_of p id).mark ≡ ((session_of p id).mark || said.alone p id)
    yes-normal n =
        let m = (normal-bare p id v h n).0 in
        by_cases p.roster.sync
        (λ s. rw (n, m, s) refl)
        (λ s. rw (n, m, s) (last_one p.roster.count (omega (arith, counted p.roster id v.ok h s n))))

-- the sessions after it
record Fell (p : Pool) (id : ℕ) (ro : Roster) : Type 0 where
  session : (j : ℕ) → session_at ro j ≡ pick (eqb j id) (said.fallen p id) (session_of p j)
  members : ro.members ≡ p.roster.members
  count : ro.count ≡ p.roster.count - one (said.counts p id)
  version : ro.version ≡ p.roster.version + one (said.counts p id)
  past : ro.past ≡ p.roster.past
  kind : ro.sync ≡ p.roster.sync

fell : (p : Pool) (id : ℕ) → Valid p → id < 16 → Fell p id (dropped p.roster id)
fell p id v h =
    record {
      session = one-said p.roster (dropped p.roster id) id (said.fallen p id)
          (dropped-at p.roster id v.ok.long h ∙ both-picked (is_removing (state_of p id)) _ _ _ _ refl (fields-same _ _ refl (and-true (session_of p id).maintenance) (fallen-mark p id v h)))
          (λ j d. dropped-other p.roster id j d);
      members = numbers.0;
      count = numbers.1;
      version = numbers.2;
      past = dropped-past p.roster id;
      kind = dropped-sync p.roster id;
    }
  where
    ro : Roster
    ro = dropped p.roster id

    numbers : ((dropped p.roster id).members ≡ p.roster.members) × ((dropped p.roster id).count ≡ p.roster.count - one (said.counts p id)) × ((dropped p.roster id).version ≡ p.roster.version + one (said.counts p id))
    numbers = by_cases (said.counts p id)
        (λ e. let n = and_left (is_normal (state_of p id)) _ e in
        let s = not-true p.roster.sync (and_right (is_normal (state_of p id)) _ e) in
        let k = normal-dropped p.roster id s n in
        (k.held, k.counted ∙ rw e refl, k.versioned ∙ (rises p.roster v.ok (omega (arith, counted p.roster id v.ok h s n)) ∙ rw e refl)))
        (λ e. let k = other-dropped p.roster id (swapped (is_normal (state_of p id)) (not p.roster.sync) e) in
        (k.held, k.counted ∙ rw e (omega arith), k.versioned ∙ rw e (omega arith)))
      where
        swapped : (a b : Bool) → (a && b) ≡ false → (b && a) ≡ false
        swapped true true e = e
        swapped true false e = refl
        swapped false true e = refl
        swapped false false e = refl

kept-members : (ro : Roster) (p : Pool) → Valid p → ro.members ≡ p.roster.members → Holds ro.members (Member p)
kept-members ro p v e = record { ids = omega (arith, v.ok.small, e); are = λ j. rw e same }

-- in a run the version has room
run-low : (p : Pool) (r : Run) → job_ok (Job.Running r) p.roster ≡ true → p.roster.version ≤ version_limit
unfolding run_ok
run-low p r e = leb-true _ _ (all-at (run_rules p.roster r) 1 e)

disables : (id : ℕ) (w : Option ℕ) → IsTold (said.disable_but id w) (disabling_but id w)
disables id None = refl
disables id (Some x) = at (eqb x id)
  where
    at : (b : Bool) → IsTold (said.not_to b x) (pick b messages.Told.Nothing (messages.Told.Disable x))
    at true = refl
    at false = refl

halt-by : (b : Bool) (p : Pool) (m : Removal) (id : ℕ) → Valid p → id < 16 → p.job ≡ Job.Removing m
    → By (said.job (pick b Job.Idle (Job.Removing m)) (said.falls p id)) p Lent.none (accepted p (halted_if b (with_roster p (dropped p.roster id))) Outcome.Plain messages.Told.Nothing Message.Nothing Effect.Keep)
halt-by true p m id v h q =
    let f = fell p id v h in
    record {
      after = removal_ended (with_roster p (dropped p.roster id));
      session = f.session;
      members = kept-members (dropped p.roster id) p v f.members;
      count = f.count;
      version = f.version;
      past = f.past;
      kind = f.kind;
      job = refl;
      number = refl;
      chunks = refl;
      sent = _;
      answer = refl;
      reports = refl;
      tells = refl;
      then = (refl, refl, refl, refl);
    }
halt-by false p m id v h q =
    let f = fell p id v h in
    record {
      after = with_roster p (dropped p.roster id);
      session = f.session;
      members = kept-members (dropped p.roster id) p v f.members;
      count = f.count;
      version = f.version;
      past = f.past;
      kind = f.kind;
      job = q;
      number = refl;
      chunks = refl;
      sent = _;
      answer = refl;
      reports = refl;
      tells = refl;
      then = (refl, refl, refl, refl);
    }

peer-same : (st : Stage) (id : ℕ) → peer_at st id ≡ said.peer_at st id
peer-same Stage.Leave id = refl
peer-same (Stage.Info peer) id = refl

down_by : (j : Job) (p : Pool) (id : ℕ) → Valid p → id < 16 → p.job ≡ j → job_ok j p.roster ≡ true → By (said.down_in j p id) p Lent.none (down_at j p id)
down_by Job.Idle p id v h q o =
    let f = fell p id v h in
    record {
      after = with_roster p (dropped p.roster id);
      session = f.session;
      members = kept-members (dropped p.roster id) p v f.members;
      count = f.count;
      version = f.version;
      past = f.past;
      kind = f.kind;
      job = refl;
      number = refl;
      chunks = refl;
      sent = _;
      answer = refl;
      reports = refl;
      tells = refl;
      then = (refl, refl, refl, refl);
    }
down_by (Job.Running r) p id v h q o =
    let f = fell p id v h in
    record {
      after = run_ended (with_roster p (dropped p.roster id));
      session = f.session;
      members = kept-members (dropped p.roster id) p v f.members;
      count = f.count;
      version = below_top (dropped p.roster id).version (room f.version) ∙ ap (λ (n : ℕ). n + 1) f.version;
      past = f.past;
      kind = f.kind;
      job = refl;
      number = refl;
      chunks = refl;
      sent = _;
      answer = refl;
      reports = refl;
      tells = disables id (receiver r);
      then = (refl, tried-roster (run_ended (with_roster p (dropped p.roster id))), (refl, refl), refl);
    }
  where
    room : (dropped p.roster id).version ≡ p.roster.version + one (said.counts p id) → (dropped p.roster id).version < version_top
    room e = omega (arith, run-low p r o, e, one-le (said.counts p id))
down_by (Job.Removing m) p id v h q o = subst (λ (n : ℕ). By (said.job (pick (eqb n id) Job.Idle (Job.Removing m)) (said.falls p id)) p Lent.none (down_at (Job.Removing m) p id)) (peer-same m.stage m.id) (halt-by (eqb (peer_at m.stage m.id) id) p m id v h q)

-- ---- store check, rejoin, try

check-by : (b : Bool) (p : Pool) (id : ℕ) → Valid p → id < 16 → p.roster.sync ≡ b
    → By (said.brings b p id) p Lent.none (pick b (changed p (entered p.roster id) messages.Told.Nothing) (tried_after p (with_roster p (went p.roster id State.Reconnecting)) Outcome.Plain messages.Told.Nothing))
unfolding went
check-by true p id v h sync =
    record {
      after = with_roster p (stored p.roster id (moved (session_at p.roster id) State.Normal));
      session = λ j. stored_at p.roster id (moved (session_at p.roster id) State.Normal) v.ok.long h j ∙ both-picked (eqb j id) _ _ _ _ (moved_plain (session_at p.roster id) State.Normal refl) refl;
      members = as_it_was p.roster.members v.ok.small;
      count = refl;
      version = refl;
      past = refl;
      kind = refl;
      job = refl;
      number = refl;
      chunks = refl;
      sent = _;
      answer = refl;
      reports = refl;
      tells = refl;
      then = (ap (with_roster p) (sync-enter-is p.roster id sync), refl, refl, refl);
    }
check-by false p id v h sync =
    record {
      after = with_roster p (stored p.roster id (moved (session_at p.roster id) State.Reconnecting));
      session = λ j. stored_at p.roster id (moved (session_at p.roster id) State.Reconnecting) v.ok.long h j
          ∙ both-picked (eqb j id) _ _ _ _ (fields-same _ _ refl (and-true (session_of p id).maintenance) (and-true (session_of p id).mark)) refl;
      members = as_it_was p.roster.members v.ok.small;
      count = refl;
      version = refl;
      past = refl;
      kind = refl;
      job = refl;
      number = refl;
      chunks = refl;
      sent = _;
      answer = refl;
      reports = refl;
      tells = refl;
      then = (refl, tried-roster (with_roster p (stored p.roster id (moved (session_at p.roster id) State.Reconnecting))), (refl, refl), refl);
    }

try-by : (p : Pool) → Valid p → By (leaves Event.try_run p) p Lent.none (tried_after p p Outcome.Plain messages.Told.Nothing)
try-by p v =
    record {
      after = p;
      session = λ j. refl;
      members = as_it_was p.roster.members v.ok.small;
      count = refl;
      version = refl;
      past = refl;
      kind = refl;
      job = refl;
      number = refl;
      chunks = refl;
      sent = _;
      answer = refl;
      reports = refl;
      tells = refl;
      then = (refl, tried-roster (p), (refl, refl), refl);
    }

-- ---- remove

owes_same : (st : State) → owes st ≡ said.owes st
owes_same State.Free = refl
owes_same State.Created = refl
owes_same State.Normal = refl
owes_same (State.Failed cause) = refl
owes_same State.Reconnecting = refl
owes_same (State.Removing m owed) = refl

remove-by : (p : Pool) (xs : List ℕ) (id : ℕ) (mode : Mode) → Valid p → id < 16 → By (leaves (Event.remove xs id mode) p) p (Lent.some xs) (gone p (remove_begun p id mode))
remove-by p xs id mode v h =
    record {
      after = with_roster p (removing p.roster id mode);
      session = one-said p.roster (removing p.roster id mode) id _
          (removing-at p.roster id mode v.ok.long h ∙ (moved_plain (session_of p id) (State.Removing mode (owes (state_of p id))) refl ∙ ap (λ (b : Bool). said.plainly (State.Removing mode b)) (owes_same (state_of p id))))
          (λ j d. removing-other p.roster id j mode d);
      members = kept-members (removing p.roster id mode) p v n.held;
      count = n.counted ∙ counts.0;
      version = n.versioned ∙ counts.1;
      past = removing-past p.roster id mode;
      kind = n.kind;
      job = refl;
      number = refl;
      chunks = refl;
      sent = _;
      answer = refl;
      reports = refl;
      tells = refl;
      then = (refl, (refl, refl), refl);
    }
  where
    n : Numbers p.roster (removing p.roster id mode)
        (pick (is_normal (state_of p id)) (pick p.roster.sync p.roster.count (p.roster.count - 1)) p.roster.count)
        (pick (is_normal (state_of p id)) (pick p.roster.sync p.roster.version (more p.roster.version)) p.roster.version) p.roster.members
    n = removing-numbers p.roster id mode p.roster.sync refl

    counts : (pick (is_normal (state_of p id)) (pick p.roster.sync p.roster.count (p.roster.count - 1)) p.roster.count ≡ p.roster.count - one (said.counts p id))
        × (pick (is_normal (state_of p id)) (pick p.roster.sync p.roster.version (more p.roster.version)) p.roster.version ≡ p.roster.version + one (said.counts p id))
    counts = by_cases (is_normal (state_of p id))
        (λ e. by_cases p.roster.sync
        (λ s. rw (e, s) (omega arith, omega arith))
        (λ s. rw (e, s) (refl, rises p.roster v.ok (omega (arith, counted p.roster id v.ok h s e)))))
        (λ e. rw e (omega arith, omega arith))

-- ---- synced, an answer

synced-by : (p : Pool) (xs : List ℕ) (member chunk : ℕ) → Valid p → SoundMap p.chunks xs → By (leaves (Event.synced xs member chunk) p) p (Lent.some xs) (sync_done p member chunk)
unfolding sync_done
synced-by p xs member chunk v s =
    record {
      after = p;
      session = λ j. refl;
      members = as_it_was p.roster.members v.ok.small;
      count = refl;
      version = refl;
      past = refl;
      kind = refl;
      job = refl;
      number = refl;
      chunks = refl;
      sent = _;
      answer = refl;
      reports = refl;
      tells = record { set = ids_of Kind.Normals p.roster; so = (refl, normals p v.ok.long) };
      then = (refl, refl, refl, (s, λ m k a b. refl));
    }

answer-by : (p : Pool) (xs : List ℕ) (number : ℕ) (a : Reply) → Valid p → Accepted (answered p.job p a).answer → By (leaves (Event.answer xs number a) p) p (Lent.some xs) (answered p.job p a)
answer-by p xs number a v d =
    record {
      after = p;
      session = λ j. refl;
      members = as_it_was p.roster.members v.ok.small;
      count = refl;
      version = refl;
      past = refl;
      kind = refl;
      job = refl;
      number = refl;
      chunks = refl;
      sent = d.sent;
      answer = d.is;
      reports = tt;
      tells = tt;
      then = (refl, sym d.is, refl);
    }

-- ---- extend

picked-is : (p : Pool) → Long p.roster → picked p.roster ≡ said.lowest_unused p
unfolding picked lowest
picked-is p l = lowest-same (has (ids_of Kind.Unused p.roster)) (λ j. is_free (state_of p j) && not (has (members_of p) j)) 16 (λ j h. ids-has Kind.Unused p.roster l j h)

still-sound : (n : ℕ) (ef : Effect) (xs : List ℕ) → inside n ef ≡ true → SoundMap n xs → SoundMap n (carried ef xs)
still-sound n ef xs i s = (sound-is n (carried ef xs)).true-then (left-sound n ef xs i ((sound-is n xs).then-true s))

-- of this row every chunk below the count is set, all else is as it was
abbrev RowSet : Pool → List ℕ → ℕ → Type 0
RowSet p xs id = (m k : ℕ) → m < 16 → k < 4096 → dirty (row_filled id p.chunks xs) m k ≡ pick (eqb m id && ltb k p.chunks) 1 (dirty xs m k)

row-set : (p : Pool) (xs : List ℕ) → Valid p → is_accepted (turn_of (Event.extend xs) p).answer ≡ true → turn_of (Event.extend xs) p ≡ extend_done p (picked p.roster) → RowSet p xs (picked p.roster)
unfolding extend_done
row-set p xs v d t =
    let x = extend-said p xs v d in
    let a : Answer.Done x.sent ≡ (extend_done p (picked p.roster)).answer = sym x.answer ∙ ap (λ (u : Turn). u.answer) t in
    let o : x.sent.outcome ≡ Outcome.Picked (picked p.roster) = ap outcome_of a in
    let q : x.id ≡ picked p.roster = ap id_of (sym x.reports ∙ o) in
    subst (RowSet p xs) q x.row
  where
    outcome_of : Answer → Outcome
    outcome_of (Answer.Refused n) = Outcome.Plain
    outcome_of (Answer.Done s) = s.outcome

    id_of : Outcome → ℕ
    id_of Outcome.Plain = 0
    id_of (Outcome.Taken n) = 0
    id_of (Outcome.Written b l) = 0
    id_of (Outcome.Picked id) = id

extend-by : (p : Pool) (xs : List ℕ) (id : ℕ) → Valid p → id < 16 → is_free (state_of p id) ≡ true → SoundMap p.chunks xs → RowSet p xs id → By (said.extends p id) p (Lent.some xs) (extend_done p id)
unfolding extend_done extended
extend-by p xs id v h f s row =
    record {
      after = with_roster p (extended p.roster id);
      session = stored_at p.roster id (new_session State.Reconnecting) v.ok.long h;
      members = one_more p.roster.members id v.ok.small h;
      count = refl;
      version = refl;
      past = refl;
      kind = refl;
      job = refl;
      number = refl;
      chunks = refl;
      sent = _;
      answer = refl;
      reports = refl;
      tells = record { set = ids_of Kind.Told p.roster; so = record { set = ids_of Kind.Normals p.roster; so = (refl, tolds-all p id v.ok.long f, normals p v.ok.long) } };
      then = (refl, tried-roster (with_roster p (extended p.roster id)), (refl, refl), (still-sound p.chunks (Effect.FillRow id p.chunks) xs (le-leb p.chunks p.chunks (omega arith)) s, row));
    }

-- ---- write

-- the sessions and the numbers after it
record WroteSo (p : Pool) (reached : ℕ) (ro : Roster) : Type 0 where
  session : (j : ℕ) → session_at ro j ≡ (said.writes p reached).session j
  members : ro.members ≡ p.roster.members
  count : ro.count ≡ size reached
  version : ro.version ≡ version_of p + count_to (said.misses p reached) 16
  past : ro.past ≡ p.roster.past
  kind : ro.sync ≡ p.roster.sync

-- what is NORMAL afterwards was reached
module _ (p : Pool) (reached : ℕ) (v : Valid p) (plain : p.roster.sync ≡ false) (small : reached ≤ 65535) (all : (id : ℕ) → In reached id → Normal p id) where
  q : Roster
  q = missed p.roster reached

  d : Missed reached p.roster 16 (missed p.roster reached)
  d = missed-does p.roster reached v.ok plain

  reached-is : (j : ℕ) → said.misses p reached j ≡ false → is_normal (state_of p j) ≡ has reached j
  reached-is j e = by_cases (has reached j) (λ h. ap is_normal (all j h) ∙ sym h) (λ h. at (is_normal (state_of p j)) (has reached j) h e)
    where
      at : (a b : Bool) → b ≡ false → (a && not b) ≡ false → a ≡ b
      at a true f e = clash refl f
      at true false f e = clash refl e
      at false false f e = refl

  normal-after : (j : ℕ) → j < 16 → is_normal (session_at (missed p.roster reached) j).state ≡ has reached j
  normal-after j h = by_cases (said.misses p reached j)
      (λ e. ap (λ (s : Session). is_normal s.state) (d.fails j h e) ∙ sym (not-true (has reached j) (and_right (is_normal (state_of p j)) _ e)))
      (λ e. ap (λ (s : Session). is_normal s.state) (d.spares j e) ∙ reached-is j e)

  count-after : (missed p.roster reached).count ≡ size reached
  count-after = d.ok.count ∙ (ap (λ (b : Bool). pick b 0 (size (ids_of Kind.Normals (missed p.roster reached)))) d.plain ∙ ap size set_after)
    where
      set_after : ids_of Kind.Normals (missed p.roster reached) ≡ reached
      set_after = same_set (ids_of Kind.Normals (missed p.roster reached)) reached (ids-lt Kind.Normals (missed p.roster reached) d.ok.long) (omega (arith, small))
          (λ j h. ids-has Kind.Normals (missed p.roster reached) d.ok.long j h ∙ normal-after j h)

  size-some-is : eqb (size reached) 0 ≡ eqb reached 0
  size-some-is = same_test (eqb (size reached) 0) (eqb reached 0)
      (λ e. eq-eqb reached 0 (nobody (ℕ_discrete (lowest reached) 16) (eqb-true (size reached) 0 e)))
      (λ e. eq-eqb (size reached) 0 (ap size (eqb-true reached 0 e) ∙ size-zero))
    where
      nobody : Dec (lowest reached ≡ 16) → size reached ≡ 0 → reached ≡ 0
      nobody (yes e) z = empty-set reached (omega (arith, small)) e
      nobody (no e) z = absurd (let y : ⊥ = omega (arith, z, size-some reached (lowest reached) (lowest-in reached (omega (arith, lowest-le reached, e)))) in y)

  missed-session : (j : ℕ) → said.misses p reached j ≡ true → session_at (missed p.roster reached) j ≡ record { state = State.Failed Cause.Io; maintenance = false; mark = eqb reached 0 && said.highest p j }
  missed-session j e =
      let n = and_left (is_normal (state_of p j)) _ e in
      let h = normal-below p.roster j v.ok.long n in
      d.fails j h e ∙ fields-same _ _ refl (ap (λ (b : Bool). b && true) (normal-bare p j v h n).1) (ap (λ (b : Bool). b && said.highest p j) (ap (λ (k : ℕ). eqb k 0) count-after ∙ size-some-is))

  wrote_so : WroteSo p reached (missed p.roster reached)
  unfolding missed
  wrote_so =
      record {
        session = λ j. by_cases (said.misses p reached j) (λ e. missed-session j e ∙ rw e refl) (λ e. d.spares j e ∙ rw e refl);
        members = d.members;
        count = count-after;
        version = d.version;
        past = missed-past reached 16 0 p.roster;
        kind = d.plain ∙ sym plain;
      }

  -- the mark list
  listed-after : (j : ℕ) → j < 16
      → (has (missed p.roster reached).members j && (not (is_normal (session_at (missed p.roster reached) j).state) && not (is_deleting (session_at (missed p.roster reached) j).state))) ≡ said.listed p reached j
  listed-after j h = rw (d.members, normal-after j h, deleting-after) refl
    where
      deleting-after : is_deleting (session_at (missed p.roster reached) j).state ≡ is_deleting (state_of p j)
      deleting-after = by_cases (said.misses p reached j)
          (λ e. ap (λ (s : Session). is_deleting s.state) (d.fails j h e) ∙ sym (ap is_deleting ((normal-is (state_of p j)).true-then (and_left (is_normal (state_of p j)) _ e))))
          (λ e. ap (λ (s : Session). is_deleting s.state) (d.spares j e))

  list : ℕ
  list = ids_of Kind.Listed (missed p.roster reached)

  list-has : (j : ℕ) → has (ids_of Kind.Listed (missed p.roster reached)) j ≡ said.listed p reached j
  list-has j = elim (dec_lt j 16) [
    | yes h ↦ ids-has Kind.Listed (missed p.roster reached) d.ok.long j h ∙ listed-after j h
    | no g ↦ let o : 16 ≤ j = omega (arith, g) in has-out (ids_of Kind.Listed (missed p.roster reached)) j o ∙ sym (rw (has-out (members_of p) j o) refl)
  ]

  list-holds : Holds (ids_of Kind.Listed (missed p.roster reached)) (λ j. said.listed p reached j ≡ true)
  list-holds = record { ids = omega (arith, ids-lt Kind.Listed (missed p.roster reached) d.ok.long); are = λ j. ((λ x. sym (list-has j) ∙ x), λ x. list-has j ∙ x) }

-- one bit of a map that is marked
marked-bit : (b : Bool) (x k n : ℕ) → x < 2 → max x (min (one b) (chunks.same k n)) ≡ pick (b && eqb n k) 1 x
marked-bit true x k n h = elim (ℕ_discrete k n) [
  | yes e ↦ rw (same-yes k n e, eq-eqb n k (sym e)) (omega (arith, h))
  | no g ↦ rw (same-no k n g, ne_eqb n k (λ q. g (sym q))) (omega arith)
]
marked-bit false x k n h = omega arith

halted-roster : (b : Bool) (p : Pool) → (halted_if b p).roster ≡ p.roster
halted-roster true p = refl
halted-roster false p = refl

halted-number : (b : Bool) (p : Pool) → ((halted_if b p).number ≡ p.number) × ((halted_if b p).chunks ≡ p.chunks)
halted-number true p = (refl, refl)
halted-number false p = (refl, refl)

misses-same : (j : Job) (p : Pool) (reached : ℕ) → pick (misses_peer j p reached) Job.Idle j ≡ said.halted_by j p reached
misses-same Job.Idle p reached = refl
misses-same (Job.Running r) p reached = refl
misses-same (Job.Removing m) p reached = rw (peer-same m.stage m.id) refl

or-true : (b : Bool) → (b || true) ≡ true
or-true true = refl
or-true false = refl

listed_same : (ro : Roster) (b : Bool) → ids_of Kind.Listed (written ro b) ≡ ids_of Kind.Listed ro
unfolding ids_of
listed_same ro b = refl

write-at : (b : Bool) (p after : Pool) (xs : List ℕ) (k reached : ℕ) → Valid p → p.roster.sync ≡ false → reached ≤ 65535 → ((id : ℕ) → In reached id → Normal p id) → k < p.chunks → SoundMap p.chunks xs
    → after.roster ≡ written (missed p.roster reached) (not b) → after.job ≡ said.halted_by p.job p reached → after.number ≡ p.number → after.chunks ≡ p.chunks
    → By (said.acknowledges b p k reached) p (Lent.some xs)
    (pick b (accepted p after (Outcome.Written false 0) messages.Told.Nothing Message.Nothing Effect.Keep)
    (accepted p after (Outcome.Written true (ids_of Kind.Listed after.roster)) (messages.Told.Marks reached k (ids_of Kind.Listed after.roster) after.roster.version) Message.Nothing (Effect.Mark (ids_of Kind.Listed after.roster) k)))
write-at true p after xs k reached v plain small all below s r j n c =
    let w = wrote_so p reached v plain small all in
    record {
      after = after;
      session = λ i. ap (λ (ro : Roster). session_at ro i) r ∙ w.session i;
      members = kept-members after.roster p v (ap (λ (ro : Roster). ro.members) r ∙ w.members);
      count = ap (λ (ro : Roster). ro.count) r ∙ w.count;
      version = ap (λ (ro : Roster). ro.version) r ∙ w.version;
      past = ap (λ (ro : Roster). ro.past) r ∙ (ap (λ (x : Past). past_written x false) w.past ∙ ap (λ (x : Bool). record { written = x; assembled = p.roster.past.assembled }) (or-false p.roster.past.written));
      kind = ap (λ (ro : Roster). ro.sync) r ∙ w.kind;
      job = j;
      number = n;
      chunks = c;
      sent = _;
      answer = refl;
      reports = record { set = 0; so = (refl, record { ids = omega arith; are = λ i. ((λ x. clash x (has-none i)), λ z. absurd z) }) };
      tells = refl;
      then = (refl, refl, refl, (subst (λ (m : ℕ). SoundMap m xs) (sym c) s, λ m i a b. refl));
    }
write-at false p after xs k reached v plain small all below s r j n c =
    let w = wrote_so p reached v plain small all in
    record {
      after = after;
      session = λ i. ap (λ (ro : Roster). session_at ro i) r ∙ w.session i;
      members = kept-members after.roster p v (ap (λ (ro : Roster). ro.members) r ∙ w.members);
      count = ap (λ (ro : Roster). ro.count) r ∙ w.count;
      version = ver;
      past = ap (λ (ro : Roster). ro.past) r ∙ (ap (λ (x : Past). past_written x true) w.past ∙ ap (λ (x : Bool). record { written = x; assembled = p.roster.past.assembled }) (or-true p.roster.past.written));
      kind = ap (λ (ro : Roster). ro.sync) r ∙ w.kind;
      job = j;
      number = n;
      chunks = c;
      sent = _;
      answer = refl;
      reports = record { set = ids_of Kind.Listed after.roster; so = (refl, holds) };
      tells = record { set = reached; so = record { set = ids_of Kind.Listed after.roster; so = (ap (messages.Told.Marks reached k (ids_of Kind.Listed after.roster)) ver, as_it_was reached (omega (arith, small)), holds) } };
      then = (refl, refl, refl, (subst (λ (m : ℕ). SoundMap m (marked_for xs (ids_of Kind.Listed after.roster) k)) (sym c) (still-sound p.chunks (Effect.Mark (ids_of Kind.Listed after.roster) k) xs (lt-ltb k p.chunks below) s), bits));
    }
  where
    list-is : ids_of Kind.Listed after.roster ≡ ids_of Kind.Listed (missed p.roster reached)
    list-is = ap (ids_of Kind.Listed) r ∙ listed_same (missed p.roster reached) true

    holds : Holds (ids_of Kind.Listed after.roster) (λ i. said.listed p reached i ≡ true)
    holds = subst (λ (l : ℕ). Holds l (λ i. said.listed p reached i ≡ true)) (sym list-is) (list-holds p reached v plain small all)

    ver : version_of after ≡ version_of p + count_to (said.misses p reached) 16
    ver = ap (λ (ro : Roster). ro.version) r ∙ (wrote_so p reached v plain small all).version

    bits : (m i : ℕ) → m < 16 → i < 4096 → dirty (marked_for xs (ids_of Kind.Listed after.roster) k) m i ≡ pick (said.listed p reached m && eqb i k) 1 (dirty xs m i)
    bits m i a b =
        dirty-marked_for xs (ids_of Kind.Listed after.roster) k m i s.long a (omega (arith, below, v.most)) b
        ∙ (ap (λ (x : Bool). max (dirty xs m i) (min (one x) (chunks.same k i))) (ap (λ (l : ℕ). has l m) list-is ∙ list-has p reached v plain small all m)
        ∙ marked-bit (said.listed p reached m) (dirty xs m i) k i (dirty-lt xs m i))

write-by : (p : Pool) (xs : List ℕ) (k reached : ℕ) → Valid p → p.roster.sync ≡ false → reached ≤ 65535 → ((id : ℕ) → In reached id → Normal p id) → k < p.chunks → SoundMap p.chunks xs
    → is_accepted (turn_of (Event.write xs k reached) p).answer ≡ true → turn_of (Event.write xs k reached) p ≡ write_done p k reached
    → By (leaves (Event.write xs k reached) p) p (Lent.some xs) (write_done p k reached)
unfolding write_done marks
write-by p xs k reached v plain small all below s d t =
    write-at (eqb reached 0) p after xs k reached v plain small all below s
    (halted-roster lost (with_roster p (wrote_in p reached)))
    (sym (marks-pool (λ x. x.job ≡ after.job) p after k reached refl) ∙ (ap (λ (x : Turn). x.pool.job) (sym t) ∙ ((write-said p xs k reached v d).halts ∙ misses-same p.job p reached)))
    (halted-number lost (with_roster p (wrote_in p reached))).0
    (halted-number lost (with_roster p (wrote_in p reached))).1
  where
    lost : Bool
    lost = loses p.job p.roster reached

    after : Pool
    after = halted_if (loses p.job p.roster reached) (with_roster p (wrote_in p reached))

-- ---- every event

became : (l : Left) (e : Event) (p : Pool) (t : Turn) → turn_of e p ≡ t → map_left e p ≡ said.done (turn_of e p).effect (lent_to e) → By l p (lent_to e) t → Became l e p
became l e p t q m b =
    record {
      after = b.after;
      session = b.session;
      members = b.members;
      count = b.count;
      version = b.version;
      past = b.past;
      kind = b.kind;
      job = b.job;
      number = b.number;
      chunks = b.chunks;
      sent = b.sent;
      answer = ap (λ (x : Turn). x.answer) q ∙ b.answer;
      reports = b.reports;
      tells = b.tells;
      then = subst (λ (left : Lent). Comes l.then l.chunk b.after (turn_of e p).pool b.sent (lent_to e) left) (sym m)
          (subst (λ (x : Turn). Comes l.then l.chunk b.after x.pool b.sent (lent_to e) (said.done x.effect (lent_to e))) (sym q) b.then);
    }

-- the map lent to synced is only read
only-read : (p : Pool) (xs : List ℕ) (member chunk : ℕ) → (synced_turn p xs member chunk).effect ≡ Effect.Keep
unfolding synced_turn synced sync_done
only-read p xs member chunk = either (λ (t : Turn). t.effect ≡ Effect.Keep) (eqb (sync_refusal p (sound_for p xs) member chunk (clean_to xs chunk 16)) 0) _ _ refl refl

map_is : (e : Event) (p : Pool) → map_left e p ≡ said.done (turn_of e p).effect (lent_to e)
map_is (Event.join_create id) p = refl
map_is (Event.join_assemble id set version) p = refl
map_is (Event.enable id) p = refl
map_is (Event.maintenance id) p = refl
map_is (Event.link_down id) p = refl
map_is (Event.store_check id) p = refl
map_is (Event.rejoin id) p = refl
map_is Event.try_run p = refl
map_is (Event.remove xs id mode) p = refl
map_is (Event.write xs chunk reached) p = refl
map_is (Event.synced xs member chunk) p = sym (ap (λ (ef : Effect). Lent.some (carried ef xs)) (only-read p xs member chunk))
map_is (Event.answer xs number a) p = refl
map_is (Event.extend xs) p = refl

lowest-unused : (p : Pool) → Long p.roster → SomeUnused p → (picked p.roster < 16) × (is_free (state_of p (picked p.roster)) ≡ true)
lowest-unused p l u =
    let k = picks p.roster l (by_cases (eqb (ids_of Kind.Unused p.roster) 0) (λ e. absurd ((some-unused p l).breaks e u)) (λ e. e)) in
    (k.below, k.free)

by-event : (e : Event) (p : Pool) → InOrder p → Valid p → (a : Accepted (turn_of e p).answer) → All (demands e p) → By (leaves e p) p (lent_to e) (does e p)
unfolding create_done created join_told assemble_done enable_done maintenance_done down_done check_done
by-event (Event.join_create id) p o v a (h, r) = create-by p.roster.sync p id v (omega (arith, h))
by-event (Event.join_assemble id set version) p o v a ((h, s), (plain, (idle, (none, ((i, f), r))))) = assemble-by p.roster.sync plain p id set version v (omega (arith, h)) s f
by-event (Event.enable id) p o v a (h, (plain, r)) = enable-by (is_created (state_of p id)) p id v (omega (arith, h)) plain
by-event (Event.maintenance id) p o v a (h, (plain, (idle, (some, (n, r))))) = maintenance-by p id v (omega (arith, h)) plain (ap is_normal n)
by-event (Event.link_down id) p o v a (h, r) = down_by p.job p id v (omega (arith, h)) refl v.job
by-event (Event.store_check id) p o v a (h, r) = check-by p.roster.sync p id v (omega (arith, h)) refl
by-event (Event.rejoin id) p o v a (h, r) = check-by p.roster.sync p id v (omega (arith, h)) refl
by-event Event.try_run p o v a r = try-by p v
by-event (Event.remove xs id mode) p o v a (s, (h, r)) = remove-by p xs id mode v (omega (arith, h))
by-event (Event.write xs k reached) p o v a (s, (small, (below, (plain, (run, ((some, all), r)))))) =
    write-by p xs k reached v plain small all below s (is-accepted a) (turn_is (Event.write xs k reached) p (no-refusal (Event.write xs k reached) p a))
by-event (Event.synced xs member chunk) p o v a (s, r) = synced-by p xs member chunk v s
by-event (Event.answer xs number b) p o v a (s, r) =
    answer-by p xs number b v (subst (λ (t : Turn). Accepted t.answer) (turn_is (Event.answer xs number b) p (no-refusal (Event.answer xs number b) p a)) a)
by-event (Event.extend xs) p o v a (s, (plain, (idle, (n, (u, r))))) =
    let k = lowest-unused p v.ok.long u in
    subst (λ (id : ℕ). By (said.extends p id) p (Lent.some xs) (extend_done p (picked p.roster))) (picked-is p v.ok.long) (extend-by p xs (picked p.roster) v k.0 k.1 s (row-set p xs v (is-accepted a) (turn_is (Event.extend xs) p (no-refusal (Event.extend xs) p a))))

pub fields-as-said : FieldsAsSaid
fields-as-said e p o a =
    let v = valid-facts p o.whole o.rules in
    became (leaves e p) e p (does e p) (turn_is e p (no-refusal e p a)) (map_is e p) (by-event e p o v a ((pool-accepted e p o).0 a))
