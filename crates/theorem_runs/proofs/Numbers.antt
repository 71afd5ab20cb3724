-- How awaited messages are numbered, and that one is awaited at a time: proofs.
use Rattle.std.specs.Prelude.{Option, Some, None}
use Rattle.rules_pool.specs.declared.Run.{Run}
use mathlib.Core.Path.{◌≡◌, refl, sym, ap, ◌∙◌, subst}
use mathlib.Core.Logic.{◌≢◌}
use mathlib.Core.Bool.{Bool, true, false, not, ◌&&◌}
use Prim.Native.Nat.{ℕ, ◌+◌, ◌%◌, ◌^◌}
use lib.Dec.{eqb, ltb}
use borrow.Author.Tests.{eqb-true, not-false}
use Rattle.laws_words.specs.Words.{pick}
use Rattle.laws_words.specs.Tests.{by_cases, clash, either}
use Rattle.rules_pool.specs.declared.Stage.{Stage}
use Rattle.rules_pool.specs.declared.Removal.{Removal}
use Rattle.rules_pool.specs.declared.Job.{Job}
use Rattle.rules_pool.specs.declared.Pool.{Pool}
use Rattle.rules_pool.specs.declared.Message.{Message}
use Rattle.rules_pool.specs.declared.Told.{Told}
use Rattle.rules_pool.specs.declared.Outcome.{Outcome}
use Rattle.rules_pool.specs.declared.Effect.{Effect}
use Rattle.rules_pool.specs.declared.Reply.{Reply}
use Rattle.rules_pool.specs.declared.Sent.{Sent}
use Rattle.rules_pool.specs.declared.Answer.{Answer}
use Rattle.rules_pool.specs.declared.Posted.{Posted}
use Rattle.rules_pool.specs.declared.Turn.{Turn}
use Rattle.rules_pool.specs.Session.{is_created, is_deleting, is_nothing, is_owed}
use Rattle.rules_pool.specs.Changes.{entered, member_dropped}
use Rattle.rules_pool.specs.Jobs.{is_idle, is_peer}
use Rattle.rules_pool.specs.Cases.{begun}
use Rattle.rules_pool.specs.Run.{takes}
use Rattle.rules_pool.specs.Recovery.{with_roster, posted, quiet, jobless, run_ended, gone_on, beginning, tried}
use Rattle.rules_pool.specs.Exit.{accepted, tried_with, halted_if}
use Rattle.rules_client.specs.declared.Gone.{Gone}
use Rattle.rules_client.specs.Joins.{create_refusal, created, create_done, join_create, assemble_refusal, assembled, assemble_done, join_assemble}
use Rattle.rules_client.specs.Enables.{enable_refusal, enable_done, enable, maintenance_refusal, maintenance_done, maintenance}
use Rattle.rules_client.specs.Links.{down_refusal, dropped, down_at, down_done, link_down, check_refusal, check_done, store_check, rejoin_refusal, rejoin, try_refusal, try_run}
use Rattle.rules_client.specs.Extend.{picked, extend_refusal, extended, extend_done, extend}
use Rattle.rules_client.specs.Removal as removal
use Rattle.rules_client.specs.Remove.{remove_refusal, remove_begun, gone, remove}
use Rattle.rules_client.specs.Writes.{loses, marks, write_refusal, write_done, write_ended, sync_refusal, sync_done, synced}
use Rattle.rules_client.specs.Answers.{awaits, entered_by, moved_on, answered, answer_refusal, answer}
use Rattle.rules_client.specs.Client.{extend_turn, remove_turn, write_turn, synced_turn, answer_turn}
use Rattle.rules_client.specs.Events.{Event, turn_of, state_of, is_sync}
use Rattle.laws_client.proofs.WritesKept.{wrote_in}
use Rattle.theorem_client.proofs.Sessions.{idle-is}
use Rattle.theorem_runs.specs.Words.{Hands}
use Rattle.theorem_runs.specs.Jobs.{NumberedBy, Numbered, NothingElse, OneAtATime}
use Rattle.theorem_runs.proofs.Words.{done-is, hands_of}
use Rattle.theorem_runs.proofs.Begins.{awaited-some}

-- ---- the pool with the awaited message that was sent, from a pool whose last number was n

record Ok (n : ℕ) (u : Posted) : Type 0 where
  some : is_nothing u.awaited ≡ false → u.pool.number ≡ (n + 1) % 2 ^ 32
  none : is_nothing u.awaited ≡ true → u.pool.number ≡ n

quiet_ok : (n : ℕ) (p : Pool) → p.number ≡ n → Ok n (quiet p)
quiet_ok n p e = record { some = λ z. clash refl z; none = λ z. e }

posted-ok : (n : ℕ) (p : Pool) (j : Job) (m : Message) → p.number ≡ n → is_nothing m ≡ false → Ok n (posted p j m)
unfolding posted
posted-ok n p j m e f = record { some = λ z. ap (λ (k : ℕ). (k + 1) % 2 ^ 32) e; none = λ z. clash z f }

begun_ok : (n : ℕ) (p : Pool) (k : Option Run) → p.number ≡ n → Ok n (beginning k p)
begun_ok n p None e = quiet_ok n p e
begun_ok n p (Some r) e = posted-ok n p (Job.Running r) _ e (awaited-some p.roster.members p.roster.version r)

tried-ok : (n : ℕ) (p : Pool) → p.number ≡ n → Ok n (tried p)
unfolding tried
tried-ok n p e = begun_ok n p (begun p.roster) e

gone-ok : (n : ℕ) (p : Pool) (k : Option Run) → p.number ≡ n → Ok n (gone_on k p)
gone-ok n p None e = quiet_ok n (run_ended p) e
gone-ok n p (Some r) e = posted-ok n p (Job.Running r) _ e (awaited-some p.roster.members p.roster.version r)

onward-ok : (n : ℕ) (p : Pool) (id : ℕ) (st : Stage) (ef : Effect) → p.number ≡ n → Ok n (removal.onward p id st ef).posted
unfolding removal.onward removal.freed_from
onward-ok n p id st ef e =
    either (λ (g : Gone). Ok n g.posted) (ltb (removal.due st p.roster) 16) _ _
    (posted-ok n p _ _ e refl)
    (quiet_ok n _ e)

departed-ok : (n : ℕ) (p : Pool) (id : ℕ) → p.number ≡ n → Ok n (removal.departed p id).posted
unfolding removal.departed
departed-ok n p id e =
    either (λ (g : Gone). Ok n g.posted) (is_deleting (removal.state_of p id) && not p.roster.sync) _ _
    (onward-ok n (with_roster p (member_dropped p.roster id)) id Stage.Leave (Effect.ZeroRow id) e)
    (onward-ok n p id Stage.Leave Effect.Keep e)

started-ok : (n : ℕ) (p : Pool) (id : ℕ) → p.number ≡ n → Ok n (removal.started p id).posted
unfolding removal.started
started-ok n p id e = either (λ (g : Gone). Ok n g.posted) (is_owed (removal.state_of p id)) _ _ (posted-ok n p _ _ e refl) (departed-ok n p id e)

well-ok : (n : ℕ) (st : Stage) (p : Pool) (id : ℕ) → p.number ≡ n → Ok n (removal.well_answered st p id).posted
well-ok n Stage.Leave p id e = departed-ok n (removal.paid p id) id e
well-ok n (Stage.Info peer) p id e = onward-ok n p id (Stage.Info peer) Effect.Keep e

removal-ok : (n : ℕ) (m : Removal) (p : Pool) (a : Reply) → p.number ≡ n → Ok n (removal.removal_answered m p a).posted
removal-ok n m p Reply.Failed e = quiet_ok n (jobless p) e
removal-ok n m p (Reply.Good b) e = well-ok n m.stage p m.id e

-- ---- the event

-- what an event came to: the pool with its awaited message
record Came (c : Pool) (t : Turn) : Type 0 where
  at : Posted
  outcome : Outcome
  told : Told
  effect : Effect
  is : t ≡ accepted c at.pool outcome told at.awaited effect
  ok : Ok c.number at

-- an accepted event comes to something: the next number where a message is awaited, none where not
numbered-by : (c : Pool) (t : Turn) (s : Sent) → Came c t → t.answer ≡ Answer.Done s → NumberedBy c t.pool s
numbered-by c t s k h =
    record {
      next = λ n.
          let f = some_of k.at.awaited (λ e. n (sym (ap (λ (x : Sent). x.awaited) z) ∙ e)) in
          (pool ∙ k.ok.some f, sym (ap (λ (x : Sent). x.number) z) ∙ (ap (λ (b : Bool). pick b 0 k.at.pool.number) f ∙ sym pool));
      none = λ e.
          let f : is_nothing k.at.awaited ≡ true = ap is_nothing (ap (λ (x : Sent). x.awaited) z ∙ e) in
          (pool ∙ k.ok.none f, sym (ap (λ (x : Sent). x.number) z) ∙ ap (λ (b : Bool). pick b 0 k.at.pool.number) f);
    }
  where
    z : hands_of (accepted c k.at.pool k.outcome k.told k.at.awaited k.effect).answer ≡ s
    z = ap (λ (u : Turn). hands_of u.answer) (sym k.is) ∙ ap hands_of h

    pool : t.pool.number ≡ k.at.pool.number
    pool = ap (λ (u : Turn). u.pool.number) k.is

    nothing_is : (m : Message) → is_nothing m ≡ true → m ≡ Message.Nothing
    nothing_is Message.Nothing e = refl
    nothing_is (Message.GetVersion to) e = clash e refl
    nothing_is (Message.Ready to keep) e = clash e refl
    nothing_is (Message.Send to receiver) e = clash e refl
    nothing_is (Message.Done to on version members) e = clash e refl
    nothing_is (Message.LastIo to chosen) e = clash e refl
    nothing_is (Message.Enable to version members) e = clash e refl
    nothing_is (Message.Leave to mode) e = clash e refl
    nothing_is (Message.Info to op member) e = clash e refl

    some_of : (m : Message) → (m ≡ Message.Nothing → ⊥) → is_nothing m ≡ false
    some_of m n = by_cases (is_nothing m) (λ e. absurd (n (nothing_is m e))) (λ e. e)

came-tried : (c q : Pool) (outcome : Outcome) (told : Told) (effect : Effect) (t : Turn) → q.number ≡ c.number → t ≡ tried_with c q outcome told effect → Came c t
came-tried c q outcome told effect t e z = record { at = tried q; outcome = outcome; told = told; effect = effect; is = z; ok = tried-ok c.number q e }

came-quiet : (c q : Pool) (outcome : Outcome) (told : Told) (effect : Effect) (t : Turn) → q.number ≡ c.number → t ≡ accepted c q outcome told Message.Nothing effect → Came c t
came-quiet c q outcome told effect t e z = record { at = quiet q; outcome = outcome; told = told; effect = effect; is = z; ok = quiet_ok c.number q e }

came-gone : (c : Pool) (g : Gone) (t : Turn) → Ok c.number g.posted → t ≡ gone c g → Came c t
came-gone c g t k z = record { at = g.posted; outcome = Outcome.Plain; told = Told.Nothing; effect = g.effect; is = z; ok = k }

-- one or the other
came-pick : (c : Pool) (b : Bool) (x y : Turn) → Came c x → Came c y → Came c (pick b x y)
came-pick c true x y f g = f
came-pick c false x y f g = g

came-as : (c : Pool) (t d : Turn) → t ≡ d → Came c d → Came c t
came-as c t d z k = subst (Came c) (sym z) k

halted-number : (b : Bool) (p : Pool) → (halted_if b p).number ≡ p.number
halted-number true p = refl
halted-number false p = refl

came_down : (c : Pool) (id : ℕ) (j : Job) → Came c (down_at j c id)
came_down c id Job.Idle = came-quiet c (with_roster c (dropped c.roster id)) _ _ _ _ refl refl
came_down c id (Job.Running r) = came-tried c (run_ended (with_roster c (dropped c.roster id))) _ _ _ _ refl refl
came_down c id (Job.Removing m) =
    came-quiet c (halted_if (is_peer (Job.Removing m) id) (with_roster c (dropped c.roster id))) _ _ _ _ (halted-number (is_peer (Job.Removing m) id) (with_roster c (dropped c.roster id))) refl

came-answer : (c : Pool) (a : Reply) (j : Job) → is_idle j ≡ false → Came c (answered j c a)
unfolding moved_on
came-answer c a Job.Idle i = clash refl i
came-answer c a (Job.Running r) i =
    let m = takes c.roster.members c.roster.version r a in
    record { at = moved_on c m; outcome = _; told = _; effect = _; is = refl; ok = gone-ok c.number (with_roster c (entered_by m.normal c.roster)) m.next refl }
came-answer c a (Job.Removing m) i = came-gone c (removal.removal_answered m c a) _ (removal-ok c.number m c a refl) refl

in-hand : (c : Pool) (number : ℕ) → not (awaits c number) ≡ false → (is_idle c.job ≡ false) × (number ≡ c.number)
in-hand c number e = at (is_idle c.job) (eqb number c.number) refl refl e
  where
    at : (a b : Bool) → is_idle c.job ≡ a → eqb number c.number ≡ b → not (not a && b) ≡ false → (is_idle c.job ≡ false) × (number ≡ c.number)
    at true b p q z = clash refl z
    at false true p q z = (p, eqb-true number c.number q)
    at false false p q z = clash refl z

came : (e : Event) (c : Pool) (s : Sent) → Hands e c s → Came c (turn_of e c)
unfolding join_create create_refusal create_done join_assemble assemble_refusal assemble_done enable enable_refusal enable_done maintenance maintenance_refusal maintenance_done link_down down_refusal down_done store_check check_refusal rejoin rejoin_refusal check_done try_run try_refusal extend extend_refusal extend_done extend_turn remove remove_refusal remove_turn write_ended write_refusal write_turn write_done marks synced sync_refusal sync_done synced_turn answer answer_refusal answer_turn
came (Event.join_create id) c s h = came-as c _ _ (done-is (Event.join_create id) c (create_done c id) s refl h).1 (came-quiet c (with_roster c (created c.roster id)) _ _ _ _ refl refl)
came (Event.join_assemble id set version) c s h =
    came-as c _ _ (done-is (Event.join_assemble id set version) c (assemble_done c id set version) s refl h).1 (came-tried c (with_roster c (assembled c.roster id set version)) _ _ _ _ refl refl)
came (Event.enable id) c s h =
    came-as c _ _ (done-is (Event.enable id) c (enable_done c id) s refl h).1
    (came-pick c (is_created (state_of c id)) _ _ (came-quiet c (with_roster c (entered c.roster id)) _ _ _ _ refl refl) (came-tried c _ _ _ _ _ refl refl))
came (Event.maintenance id) c s h = came-as c _ _ (done-is (Event.maintenance id) c (maintenance_done c id) s refl h).1 (came-quiet c _ _ _ _ _ refl refl)
came (Event.link_down id) c s h = came-as c _ _ (done-is (Event.link_down id) c (down_done c id) s refl h).1 (came_down c id c.job)
came (Event.store_check id) c s h =
    came-as c _ _ (done-is (Event.store_check id) c (check_done c id) s refl h).1
    (came-pick c (is_sync c) _ _ (came-quiet c (with_roster c (entered c.roster id)) _ _ _ _ refl refl) (came-tried c _ _ _ _ _ refl refl))
came (Event.rejoin id) c s h =
    came-as c _ _ (done-is (Event.rejoin id) c (check_done c id) s refl h).1
    (came-pick c (is_sync c) _ _ (came-quiet c (with_roster c (entered c.roster id)) _ _ _ _ refl refl) (came-tried c _ _ _ _ _ refl refl))
came Event.try_run c s h = came-as c _ _ (done-is Event.try_run c (tried_with c c Outcome.Plain Told.Nothing Effect.Keep) s refl h).1 (came-tried c c _ _ _ _ refl refl)
came (Event.remove xs id mode) c s h =
    came-as c _ _ (done-is (Event.remove xs id mode) c (gone c (remove_begun c id mode)) s refl h).1 (came-gone c (remove_begun c id mode) _ (started-ok c.number _ id refl) refl)
came (Event.write xs chunk reached) c s h =
    let q = halted_if (loses c.job c.roster reached) (with_roster c (wrote_in c reached)) in
    let n = halted-number (loses c.job c.roster reached) (with_roster c (wrote_in c reached)) in
    came-as c _ _ (done-is (Event.write xs chunk reached) c (write_done c chunk reached) s refl h).1
    (came-pick c (eqb reached 0) _ _ (came-quiet c q _ _ _ _ n refl) (came-quiet c q _ _ _ _ n refl))
came (Event.synced xs member chunk) c s h = came-as c _ _ (done-is (Event.synced xs member chunk) c (sync_done c member chunk) s refl h).1 (came-quiet c c _ _ _ _ refl refl)
came (Event.answer xs number a) c s h =
    let d = done-is (Event.answer xs number a) c (answered c.job c a) s refl h in
    came-as c _ _ d.1 (came-answer c a c.job (in-hand c number (d.0 13 refl)).0)
came (Event.extend xs) c s h =
    came-as c _ _ (done-is (Event.extend xs) c (extend_done c (picked c.roster)) s refl h).1 (came-tried c (with_roster c (extended c.roster (picked c.roster))) _ _ _ _ refl refl)

pub numbered : Numbered
numbered = ((λ c e s o h. numbered-by c (turn_of e c) s (came e c s h) h), λ sync chunks. refl)

-- ---- one at a time

idle-six : (c : Pool) → not (is_idle c.job) ≡ false → c.job ≡ Job.Idle
idle-six c e = idle-is c.job (not-false (is_idle c.job) e)

-- an event that sends nothing that is awaited
none-sent : (c q : Pool) (outcome : Outcome) (told : Told) (effect : Effect) (t : Turn) (s : Sent) → t ≡ accepted c q outcome told Message.Nothing effect → t.answer ≡ Answer.Done s → s.awaited ≡ Message.Nothing
none-sent c q outcome told effect t s z h = sym (ap (λ (x : Sent). x.awaited) (ap (λ (u : Turn). hands_of u.answer) (sym z) ∙ ap hands_of h))

down-alone : (c : Pool) (id : ℕ) (s : Sent) (j : Job) → c.job ≡ j → (down_at j c id).answer ≡ Answer.Done s → s.awaited ≢ Message.Nothing → NothingElse c (Event.link_down id)
down-alone c id s Job.Idle e h n = NothingElse.free (Event.link_down id) e
down-alone c id s (Job.Running r) e h n = NothingElse.cut id r e
down-alone c id s (Job.Removing m) e h n = absurd (n (none-sent c (halted_if (is_peer (Job.Removing m) id) (with_roster c (dropped c.roster id))) Outcome.Plain Told.Nothing Effect.Keep (down_at (Job.Removing m) c id) s refl h))

write-none : (c q : Pool) (chunk reached : ℕ) (s : Sent) → (marks c q chunk reached).answer ≡ Answer.Done s → s.awaited ≡ Message.Nothing
unfolding marks
write-none c q chunk reached s = at (eqb reached 0) _ _ _ _ _ _ _ _
  where
    at : (b : Bool) (o p : Outcome) (t u : Told) (f g : Effect) (x y : Pool) → (pick b (accepted c x o t Message.Nothing f) (accepted c y p u Message.Nothing g)).answer ≡ Answer.Done s → s.awaited ≡ Message.Nothing
    at true o p t u f g x y h = none-sent c x o t f _ s refl h
    at false o p t u f g x y h = none-sent c y p u g _ s refl h

as-done : (t d : Turn) (s : Sent) → t ≡ d → t.answer ≡ Answer.Done s → d.answer ≡ Answer.Done s
as-done t d s z h = ap (λ (u : Turn). u.answer) (sym z) ∙ h

pub one-at-a-time : OneAtATime
unfolding join_create create_refusal join_assemble assemble_refusal enable enable_refusal maintenance maintenance_refusal link_down down_refusal down_done store_check check_refusal rejoin rejoin_refusal try_run try_refusal extend extend_refusal extend_turn remove remove_refusal remove_turn write_ended write_refusal write_turn write_done synced sync_refusal sync_done synced_turn answer answer_refusal answer_turn
one-at-a-time c (Event.join_create id) s o h n = NothingElse.free _ (idle-six c ((done-is (Event.join_create id) c (create_done c id) s refl h).0 6 refl))
one-at-a-time c (Event.join_assemble id set version) s o h n = NothingElse.free _ (idle-six c ((done-is (Event.join_assemble id set version) c (assemble_done c id set version) s refl h).0 6 refl))
one-at-a-time c (Event.enable id) s o h n = NothingElse.free _ (idle-six c ((done-is (Event.enable id) c (enable_done c id) s refl h).0 6 refl))
one-at-a-time c (Event.maintenance id) s o h n = NothingElse.free _ (idle-six c ((done-is (Event.maintenance id) c (maintenance_done c id) s refl h).0 6 refl))
one-at-a-time c (Event.link_down id) s o h n =
    let d = done-is (Event.link_down id) c (down_done c id) s refl h in
    down-alone c id s c.job refl (as-done _ _ s d.1 h) n
one-at-a-time c (Event.store_check id) s o h n = NothingElse.free _ (idle-six c ((done-is (Event.store_check id) c (check_done c id) s refl h).0 6 refl))
one-at-a-time c (Event.rejoin id) s o h n = NothingElse.free _ (idle-six c ((done-is (Event.rejoin id) c (check_done c id) s refl h).0 6 refl))
one-at-a-time c Event.try_run s o h n = NothingElse.free _ (idle-six c ((done-is Event.try_run c (tried_with c c Outcome.Plain Told.Nothing Effect.Keep) s refl h).0 6 refl))
one-at-a-time c (Event.remove xs id mode) s o h n = NothingElse.free _ (idle-six c ((done-is (Event.remove xs id mode) c (gone c (remove_begun c id mode)) s refl h).0 6 refl))
one-at-a-time c (Event.write xs chunk reached) s o h n =
    let d = done-is (Event.write xs chunk reached) c (write_done c chunk reached) s refl h in
    absurd (n (write-none c _ chunk reached s (as-done _ _ s d.1 h)))
one-at-a-time c (Event.synced xs member chunk) s o h n =
    let d = done-is (Event.synced xs member chunk) c (sync_done c member chunk) s refl h in
    absurd (n (none-sent c c _ _ _ _ s d.1 h))
one-at-a-time c (Event.answer xs number a) s o h n =
    let d = done-is (Event.answer xs number a) c (answered c.job c a) s refl h in
    subst (λ (k : ℕ). NothingElse c (Event.answer xs k a)) (sym (in-hand c number (d.0 13 refl)).1) (NothingElse.answered xs a)
one-at-a-time c (Event.extend xs) s o h n = NothingElse.free _ (idle-six c ((done-is (Event.extend xs) c (extend_done c (picked c.roster)) s refl h).0 6 refl))
