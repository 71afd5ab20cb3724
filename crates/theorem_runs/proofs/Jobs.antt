-- What a job bars and lets by; numbering: proofs.
use mathlib.Core.Path.{◌≡◌, refl, sym, ap, ◌∙◌}
use mathlib.Core.Logic.{◌≢◌}
use mathlib.Core.Bool.{Bool, true, false, not}
use mathlib.Core.List.{List}
use Prim.Native.Nat.{ℕ, ◌≤◌}
use lib.Dec.{eqb}
use borrow.Author.Tests.{eqb-true, eq-eqb, ne_eqb, lt-ltb, le-ltb}
use Rattle.laws_words.specs.Words.{pick}
use Rattle.laws_words.specs.Tests.{clash, and-false}
use Rattle.rules_base.specs.Refusals.{applies, refusal}
use Rattle.rules_pool.specs.declared.Mode.{Mode}
use Rattle.rules_pool.specs.declared.State.{State}
use Rattle.rules_pool.specs.declared.Stage.{Stage}
use Rattle.rules_pool.specs.declared.Run.{Run}
use Rattle.rules_pool.specs.declared.Removal.{Removal}
use Rattle.rules_pool.specs.declared.Job.{Job}
use Rattle.rules_pool.specs.declared.Pool.{Pool}
use Rattle.rules_pool.specs.declared.Message.{Message}
use Rattle.rules_pool.specs.declared.Effect.{Effect}
use Rattle.rules_pool.specs.declared.Answer.{Answer}
use Rattle.rules_pool.specs.declared.Turn.{Turn}
use Rattle.rules_pool.specs.Session.{is_free}
use Rattle.rules_pool.specs.Jobs.{is_idle, is_running, peer_at}
use Rattle.rules_pool.specs.declared.Outcome.{Outcome}
use Rattle.rules_pool.specs.declared.Told.{Told}
use Rattle.rules_pool.specs.declared.Kind.{Kind}
use Rattle.rules_pool.specs.Sessions.{ids_of}
use Rattle.rules_pool.specs.Recovery.{with_roster}
use Rattle.rules_pool.specs.Exit.{refused, accepted, halted_if}
use Rattle.rules_pool.specs.StateRules.{valid_pool}
use Rattle.rules_pool.specs.Breaking.{is_accepted}
use Rattle.rules_client.specs.Links.{drops, down_refusal, down_done, link_down}
use Rattle.rules_client.specs.Writes.{loses, marks, write_refusal, write_done, write_ended, sync_refusal, sync_done, synced}
use Rattle.rules_client.specs.Answers.{answered, answer_refusal, answer}
use Rattle.rules_client.specs.Client.{sound_for, clean_to, write_turn, synced_turn, answer_turn, tick_turn, check_turn}
use Rattle.rules_client.specs.MapCheck.{tick_refusal, tick}
use Rattle.rules_client.specs.MapCheck as checks
use Rattle.rules_client.specs.Events.{Event, tests_of, turn_of, next, state_of}
use Rattle.laws_client.proofs.Pools.{valid-of}
use Rattle.theorem_client.specs.Demand1.{Verdict}
use Rattle.theorem_client.proofs.Demand1.{demand-1}
use Rattle.laws_client.proofs.WritesKept.{wrote_in}
use Rattle.theorem_client.proofs.Law.{law}
use Rattle.theorem_client.proofs.Shape.{down-done, answer-done}
use Rattle.theorem_runs.specs.Words.{InOrder}
use Rattle.theorem_runs.specs.Removals.{PeerAt}
use Rattle.theorem_runs.specs.Jobs.{RunBars, RemovalBars, Bars, Fits, Barred, BarredBySix, ChecksBarred, idle, LetsBy, AnswersTaken}
use Rattle.theorem_runs.proofs.Words.{order-valid}
use Rattle.theorem_runs.proofs.Peers.{peer-is}

-- ---- barred

-- to an event that a job bars, the sixth number applies
run-six : (c : Pool) (e : Event) (r : Run) → c.job ≡ Job.Running r → RunBars e → applies 6 (tests_of e c) ≡ true
run-six c (Event.join_create id) r q b = ap (λ (j : Job). not (is_idle j)) q
run-six c (Event.join_assemble id set version) r q b = ap (λ (j : Job). not (is_idle j)) q
run-six c (Event.enable id) r q b = ap (λ (j : Job). not (is_idle j)) q
run-six c (Event.maintenance id) r q b = ap (λ (j : Job). not (is_idle j)) q
run-six c (Event.link_down id) r q b = absurd b
run-six c (Event.store_check id) r q b = ap (λ (j : Job). not (is_idle j)) q
run-six c (Event.rejoin id) r q b = ap (λ (j : Job). not (is_idle j)) q
run-six c Event.try_run r q b = ap (λ (j : Job). not (is_idle j)) q
run-six c (Event.remove xs id mode) r q b = ap (λ (j : Job). not (is_idle j)) q
run-six c (Event.write xs chunk reached) r q b = ap is_running q
run-six c (Event.synced xs member chunk) r q b = ap is_running q
run-six c (Event.answer xs number a) r q b = absurd b
run-six c (Event.extend xs) r q b = ap (λ (j : Job). not (is_idle j)) q

removal-six : (c : Pool) (e : Event) (m : Removal) → c.job ≡ Job.Removing m → RemovalBars e → applies 6 (tests_of e c) ≡ true
removal-six c (Event.join_create id) m q b = ap (λ (j : Job). not (is_idle j)) q
removal-six c (Event.join_assemble id set version) m q b = ap (λ (j : Job). not (is_idle j)) q
removal-six c (Event.enable id) m q b = ap (λ (j : Job). not (is_idle j)) q
removal-six c (Event.maintenance id) m q b = ap (λ (j : Job). not (is_idle j)) q
removal-six c (Event.link_down id) m q b = absurd b
removal-six c (Event.store_check id) m q b = ap (λ (j : Job). not (is_idle j)) q
removal-six c (Event.rejoin id) m q b = ap (λ (j : Job). not (is_idle j)) q
removal-six c Event.try_run m q b = ap (λ (j : Job). not (is_idle j)) q
removal-six c (Event.remove xs id mode) m q b = ap (λ (j : Job). not (is_idle j)) q
removal-six c (Event.write xs chunk reached) m q b = absurd b
removal-six c (Event.synced xs member chunk) m q b = absurd b
removal-six c (Event.answer xs number a) m q b = absurd b
removal-six c (Event.extend xs) m q b = ap (λ (j : Job). not (is_idle j)) q

bars-six : (c : Pool) (e : Event) (j : Job) → c.job ≡ j → Bars j e → applies 6 (tests_of e c) ≡ true
bars-six c e Job.Idle q b = absurd b
bars-six c e (Job.Running r) q b = run-six c e r q b
bars-six c e (Job.Removing m) q b = removal-six c e m q b

pub barred : Barred
barred c e b = at (demand-1 e c)
  where
    at : Verdict e c → (is_accepted (turn_of e c).answer ≡ false) × (next e c ≡ c)
    at (Verdict.refused n q h) = (ap is_accepted q, h.pool)
    at (Verdict.done s q h) = clash (bars-six c e c.job refl b) (h 6 refl)

-- an event whose refusal is 6
six-is : (e : Event) (c : Pool) → refusal (tests_of e c) ≡ 6 → (turn_of e c).answer ≡ Answer.Refused 6
six-is e c z =
    ap (λ (t : Turn). t.answer) (law e c).same ∙ ap (λ (n : ℕ). (pick (eqb n 0) (law e c).does (refused c n)).answer) z

-- the tests of an earlier place do not apply, the sixth does: so by the table
by-six : (c : Pool) (e : Event) → InOrder c → applies 6 (tests_of e c) ≡ true → Fits e c → RunBars e → refusal (tests_of e c) ≡ 6
by-six c (Event.join_create id) o q f b = rw (o.rules, le-ltb 15 id f, q) refl
by-six c (Event.join_assemble id set version) o q (f, g, s) b = rw (o.rules, le-ltb 15 id f, le-ltb 65535 set g, s, q) refl
by-six c (Event.enable id) o q (f, s) b = rw (o.rules, le-ltb 15 id f, s, q) refl
by-six c (Event.maintenance id) o q (f, s) b = rw (o.rules, le-ltb 15 id f, s, q) refl
by-six c (Event.link_down id) o q f b = absurd b
by-six c (Event.store_check id) o q f b = rw (o.rules, le-ltb 15 id f, q) refl
by-six c (Event.rejoin id) o q f b = rw (o.rules, le-ltb 15 id f, q) refl
by-six c Event.try_run o q s b = rw (o.rules, s, q) refl
by-six c (Event.remove xs id mode) o q (k, f) b = rw (o.rules, k, le-ltb 15 id f, q) refl
by-six c (Event.write xs chunk reached) o q (k, f, l, s) b = rw (o.rules, k, le-ltb 65535 reached f, lt-ltb chunk c.chunks l, s, q) refl
by-six c (Event.synced xs member chunk) o q (k, f, l, s) b = rw (o.rules, k, le-ltb 15 member f, lt-ltb chunk c.chunks l, s, q) refl
by-six c (Event.answer xs number a) o q f b = absurd b
by-six c (Event.extend xs) o q (k, s) b = rw (o.rules, k, s, q) refl

bars-run : (j : Job) (e : Event) → Bars j e → RunBars e
bars-run Job.Idle e b = absurd b
bars-run (Job.Running r) e b = b
bars-run (Job.Removing m) e b = both e b
  where
    both : (e : Event) → RemovalBars e → RunBars e
    both (Event.join_create id) b = tt
    both (Event.join_assemble id set version) b = tt
    both (Event.enable id) b = tt
    both (Event.maintenance id) b = tt
    both (Event.link_down id) b = b
    both (Event.store_check id) b = tt
    both (Event.rejoin id) b = tt
    both Event.try_run b = tt
    both (Event.remove xs id mode) b = tt
    both (Event.write xs chunk reached) b = tt
    both (Event.synced xs member chunk) b = tt
    both (Event.answer xs number a) b = b
    both (Event.extend xs) b = tt

pub barred-by-six : BarredBySix
barred-by-six c e o b f = six-is e c (by-six c e o (bars-six c e c.job refl b) f (bars-run c.job e b))

not-idle : (j : Job) → j ≢ Job.Idle → is_idle j ≡ false
not-idle Job.Idle n = absurd (n refl)
not-idle (Job.Running r) n = refl
not-idle (Job.Removing m) n = refl

pub checks-barred : ChecksBarred
unfolding tick_turn check_turn tick tick_refusal checks.answer checks.answer_refusal
checks-barred c xs o n s k = (
  rw (o.rules, k, s, not-idle c.pool.job n) refl,
  λ number m empty f. rw (o.rules, k, le-ltb 15 m f, s, not-idle c.pool.job n) refl,
)

-- ---- let by

valid-idle : (c : Pool) → InOrder c → valid_pool (idle c) ≡ true
valid-idle c o = let v = order-valid c o in valid-of (idle c) (record { some = v.some; most = v.most; ok = v.ok; job = refl })

-- an event that is accepted where nothing refuses it
accepted-is : (n : ℕ) (d : Turn) (c : Pool) → is_accepted d.answer ≡ true → is_accepted (pick (eqb n 0) d (refused c n)).answer ≡ eqb n 0
accepted-is n d c a = at (eqb n 0)
  where
    at : (b : Bool) → is_accepted (pick b d (refused c n)).answer ≡ b
    at true = a
    at false = refl

down_is : (c : Pool) (id : ℕ) → is_accepted (turn_of (Event.link_down id) c).answer ≡ eqb (down_refusal c id) 0
unfolding link_down down_done
down_is c id = accepted-is (down_refusal c id) (down_done c id) c (down-done c.job c id)

drops-plain : (j : Job) (st : State) (id : ℕ) → ((mode : Mode) (owed : Bool) → st ≢ State.Removing mode owed) → drops j st id ≡ drops Job.Idle st id
unfolding drops
drops-plain j State.Free id n = refl
drops-plain j State.Created id n = refl
drops-plain j State.Normal id n = refl
drops-plain j (State.Failed cause) id n = refl
drops-plain j State.Reconnecting id n = refl
drops-plain j (State.Removing mode owed) id n = absurd (n mode owed refl)

down-same : (c : Pool) (id : ℕ) → InOrder c → drops c.job (state_of c id) id ≡ drops Job.Idle (state_of c id) id → down_refusal c id ≡ down_refusal (idle c) id
unfolding down_refusal
down-same c id o e = rw (o.rules, valid-idle c o, e) refl

down-peer : (c : Pool) (id : ℕ) (b : Bool) → InOrder c → id ≤ 15 → is_free (state_of c id) ≡ false → drops c.job (state_of c id) id ≡ b → down_refusal c id ≡ pick b 0 9
unfolding down_refusal
down-peer c id true o l f e = rw (o.rules, le-ltb 15 id l, f, e) refl
down-peer c id false o l f e = rw (o.rules, le-ltb 15 id l, f, e) refl

drops-peer : (c : Pool) (id : ℕ) (mode : Mode) (owed : Bool) (m : Removal) → c.job ≡ Job.Removing m → state_of c id ≡ State.Removing mode owed → drops c.job (state_of c id) id ≡ eqb (peer_at m.stage m.id) id
unfolding drops
drops-peer c id mode owed m e st = rw (e, st) refl

peer-of : (st : Stage) (mid x : ℕ) → peer_at st mid ≡ x → PeerAt st mid x
peer-of Stage.Leave mid x e = sym e
peer-of (Stage.Info peer) mid x e = sym e

eqb-pick : (b : Bool) → eqb (pick b 0 9) 0 ≡ b
eqb-pick true = refl
eqb-pick false = refl

write_same : (c : Pool) (xs : List ℕ) (chunk reached : ℕ) (m : Removal) → InOrder c → c.job ≡ Job.Removing m → write_refusal c (sound_for c xs) chunk reached ≡ write_refusal (idle c) (sound_for c xs) chunk reached
unfolding write_refusal
write_same c xs chunk reached m o e = rw (o.rules, valid-idle c o, e) refl

sync-same : (c : Pool) (xs : List ℕ) (member chunk : ℕ) (m : Removal) → InOrder c → c.job ≡ Job.Removing m
    → sync_refusal c (sound_for c xs) member chunk (clean_to xs chunk 16) ≡ sync_refusal (idle c) (sound_for c xs) member chunk (clean_to xs chunk 16)
unfolding sync_refusal
sync-same c xs member chunk m o e = rw (o.rules, valid-idle c o, e) refl

marks-as : (a b p q : Pool) (chunk reached : ℕ) → p.roster ≡ q.roster → (marks a p chunk reached).answer ≡ (marks b q chunk reached).answer
unfolding marks
marks-as a b p q chunk reached e = at (eqb reached 0)
  where
    at : (x : Bool) → (pick x (accepted a p (Outcome.Written false 0) Told.Nothing Message.Nothing Effect.Keep) (accepted a p (Outcome.Written true (ids_of Kind.Listed p.roster)) (Told.Marks reached chunk (ids_of Kind.Listed p.roster) p.roster.version) Message.Nothing (Effect.Mark (ids_of Kind.Listed p.roster) chunk))).answer
        ≡ (pick x (accepted b q (Outcome.Written false 0) Told.Nothing Message.Nothing Effect.Keep) (accepted b q (Outcome.Written true (ids_of Kind.Listed q.roster)) (Told.Marks reached chunk (ids_of Kind.Listed q.roster) q.roster.version) Message.Nothing (Effect.Mark (ids_of Kind.Listed q.roster) chunk))).answer
    at true = refl
    at false = rw e refl

halted-roster : (b : Bool) (p : Pool) → (halted_if b p).roster ≡ p.roster
halted-roster true p = refl
halted-roster false p = refl

write-answers : (c : Pool) (chunk reached : ℕ) → (write_done c chunk reached).answer ≡ (write_done (idle c) chunk reached).answer
unfolding write_done
write-answers c chunk reached =
    marks-as c (idle c) _ _ chunk reached (halted-roster (loses c.job c.roster reached) (with_roster c (wrote_in c reached)))

run-drops : (c : Pool) (id : ℕ) (mode : Mode) (owed : Bool) (r : Run) → c.job ≡ Job.Running r → state_of c id ≡ State.Removing mode owed → drops c.job (state_of c id) id ≡ false
unfolding drops
run-drops c id mode owed r e st = rw (e, st) refl

pub lets_by : LetsBy
unfolding write_turn write_ended synced_turn synced sync_done
lets_by c o =
    record {
      down = λ id n. down_is c id ∙ (ap (λ (k : ℕ). eqb k 0) (down-same c id o (drops-plain c.job (state_of c id) id n)) ∙ sym (down_is (idle c) id));
      peer = λ id mode owed m e st l.
          let d = drops-peer c id mode owed m e st in
          let z : is_accepted (turn_of (Event.link_down id) c).answer ≡ eqb (peer_at m.stage m.id) id
          = down_is c id ∙ (ap (λ (k : ℕ). eqb k 0) (down-peer c id (eqb (peer_at m.stage m.id) id) o l (ap is_free st) d) ∙ eqb-pick (eqb (peer_at m.stage m.id) id)) in
          ((λ a. peer-of m.stage m.id id (eqb-true _ id (sym z ∙ a))), λ p. z ∙ eq-eqb _ id (peer-is m.stage m.id id p));
      run = λ id mode owed r e st. not_taken id mode owed r e st (demand-1 (Event.link_down id) c);
      write = λ xs chunk reached m e.
          ap (λ (n : ℕ). (pick (eqb n 0) (write_done c chunk reached) (refused c n)).answer) (write_same c xs chunk reached m o e)
          ∙ same_answer (write_refusal (idle c) (sound_for c xs) chunk reached) (write_done c chunk reached) (write_done (idle c) chunk reached) c (idle c) (write-answers c chunk reached);
      synced = λ xs member chunk m e.
          ap (λ (n : ℕ). (pick (eqb n 0) (sync_done c member chunk) (refused c n)).answer) (sync-same c xs member chunk m o e)
          ∙ same_answer (sync_refusal (idle c) (sound_for c xs) member chunk (clean_to xs chunk 16)) (sync_done c member chunk) (sync_done (idle c) member chunk) c (idle c) refl;
    }
  where
    same_answer : (n : ℕ) (d f : Turn) (a b : Pool) → d.answer ≡ f.answer → (pick (eqb n 0) d (refused a n)).answer ≡ (pick (eqb n 0) f (refused b n)).answer
    same_answer n d f a b e = at (eqb n 0)
      where
        at : (x : Bool) → (pick x d (refused a n)).answer ≡ (pick x f (refused b n)).answer
        at true = e
        at false = refl

    not_taken : (id : ℕ) (mode : Mode) (owed : Bool) (r : Run) → c.job ≡ Job.Running r → state_of c id ≡ State.Removing mode owed → Verdict (Event.link_down id) c → is_accepted (turn_of (Event.link_down id) c).answer ≡ false
    not_taken id mode owed r e st (Verdict.refused n q h) = ap is_accepted q
    not_taken id mode owed r e st (Verdict.done s q h) = clash (ap not (run-drops c id mode owed r e st)) (h 9 refl)

-- ---- an answer is taken

pub answers-taken : AnswersTaken
unfolding answer_turn answer answer_refusal
answers-taken c xs number a o k =
    record {
      taken = λ n e.
          let i = not-idle c.job n in
          let z : answer_refusal c (sound_for c xs) number ≡ 0 = rw (o.rules, k, i, eq-eqb number c.number e) refl in
          ap (λ (m : ℕ). is_accepted (pick (eqb m 0) (answered c.job c a) (refused c m)).answer) z ∙ answer-done c.job c a i;
      nothing = λ i.
          let z : answer_refusal c (sound_for c xs) number ≡ 13 = rw (o.rules, k, ap is_idle i) refl in
          ap (λ (m : ℕ). (pick (eqb m 0) (answered c.job c a) (refused c m)).answer) z;
      another = λ d.
          let z : answer_refusal c (sound_for c xs) number ≡ 13 = rw (o.rules, k, ne_eqb number c.number d, and-false (not (is_idle c.job))) refl in
          ap (λ (m : ℕ). (pick (eqb m 0) (answered c.job c a) (refused c m)).answer) z;
    }
