-- Why a session failed: which event brings a cause, that it stands while the session is FAILED, and rejoin.
use mathlib.Core.Path.{◌≡◌, refl, ap, ◌∙◌, sym, subst}
use mathlib.Core.Bool.{Bool, true, false, not}
use Prim.Native.Nat.{ℕ}
use native.Mathlib.Omega.{arith}
use lib.Dec.{eqb, ltb}
use lib.ListN.{get_or-replicate}
use borrow.Author.Tests.{eqb-true, eq-eqb, ltb-true, not-false}
use Rattle.laws_words.specs.Tests.{clash, by_cases}
use Rattle.laws_words.specs.Words.{pick}
use Rattle.rules_base.specs.Refusals.{refusal}
use Rattle.rules_base.proofs.Order.{none-applies}
use Rattle.rules_pool.specs.Session.{is_free, is_normal, is_failed, is_cut, is_removing, free}
use Rattle.rules_pool.specs.Table.{legal}
use Rattle.rules_pool.specs.declared.Answer.{Answer}
use Rattle.rules_pool.specs.declared.Cause.{Cause}
use Rattle.rules_pool.specs.declared.Job.{Job}
use Rattle.rules_pool.specs.declared.Session.{Session}
use Rattle.rules_pool.specs.declared.State.{State}
use Rattle.rules_pool.specs.declared.Turn.{Turn}
use Rattle.rules_pool.specs.Jobs.{is_idle}
use Rattle.laws_client.proofs.Ids.{below}
use Rattle.laws_client.proofs.Pools.{Valid, valid-of}
use Rattle.laws_client.proofs.LinksKept.{rejoin-same}
use Rattle.rules_client.specs.Links.{back_tests, checks, rejoin_refusal}
use Rattle.rules_pool.specs.Breaking.{is_accepted}
use Rattle.rules_client.specs.Client.{fresh_pool}
use Rattle.rules_pool.specs.declared.Pool.{Pool}
use Rattle.theorem_client.specs.Demand2.{Reached}
use Rattle.rules_client.specs.Events.{Event, turn_of, next, tests_of, state_of, is_sync, job_of}
use Rattle.theorem_client.specs.Said.{Brings, CauseSet, Caused, CauseOnly, Got, CauseTells, Rejoin}
use Rattle.theorem_client.proofs.Demand1.{refused-turn, done-turn}
use Rattle.theorem_client.proofs.Demand2.{reached-valid}
use Rattle.theorem_client.proofs.Every.{event-fate}
use Rattle.theorem_client.proofs.Fates.{Fate, no-cause, state-of, kept-stands}
use Rattle.theorem_client.proofs.Law.{law}
use Rattle.theorem_client.proofs.Sessions.{idle-is, down-said}
use Rattle.theorem_client.proofs.Shape.{why_not}
use Rattle.theorem_client.proofs.Written.{write-said}

-- ---- one event

-- one that is accepted, and one that is not
accepted-why : (e : Event) (c : Pool) → is_accepted (turn_of e c).answer ≡ true → why_not e c ≡ 0
accepted-why e c a =
    by_cases (eqb (why_not e c) 0)
    (λ z. eqb-true (why_not e c) 0 z)
    (λ z. clash a (ap (λ (t : Turn). is_accepted t.answer) (refused-turn e c z)))

why-accepted : (e : Event) (c : Pool) → why_not e c ≡ 0 → is_accepted (turn_of e c).answer ≡ true
why-accepted e c z = ap (λ (t : Turn). is_accepted t.answer) (done-turn e c (eq-eqb (why_not e c) 0 z)) ∙ (law e c).plain z

refused-stays : (e : Event) (c : Pool) (id : ℕ) → is_accepted (turn_of e c).answer ≡ false → state_of (next e c) id ≡ state_of c id
refused-stays e c id a =
    by_cases (eqb (why_not e c) 0)
    (λ z. clash (why-accepted e c (eqb-true (why_not e c) 0 z)) a)
    (λ z. ap (λ (t : Turn). state_of t.pool id) (refused-turn e c z))

-- a session that becomes FAILED
new-cause : (c : Pool) (e : Event) (c' : Pool) (id : ℕ) (cause : Cause) → is_failed (state_of c id) ≡ false → state_of c' id ≡ State.Failed cause → Fate c e c' id → Brings c id e cause
new-cause c e c' id cause was is (Fate.kept k) = no-cause (state_of c id) cause was (sym (kept-stands c c' id k) ∙ is)
new-cause c e c' id cause was is (Fate.begins x st r) = no-cause _ cause (begun c.roster.sync) (sym (state-of c' id _ r) ∙ is)
  where
    begun : (b : Bool) → is_failed (pick b State.Normal State.Created) ≡ false
    begun true = refl
    begun false = refl
new-cause c e c' id cause was is (Fate.joins set version x p st r) = no-cause State.Reconnecting cause refl (sym (state-of c' id _ r) ∙ is)
new-cause c e c' id cause was is (Fate.goes to l n b w r) = w cause (sym (state-of c' id _ r) ∙ is)
new-cause c e c' id cause was is (Fate.fails k last w x n b r) =
    let same : State.Failed k ≡ State.Failed cause = sym (state-of c' id _ r) ∙ is in
    let q : k ≡ cause = cc same in
    subst (λ (k : Cause). Brings c id e k) q w
new-cause c e c' id cause was is (Fate.maintained last x p n b r) = no-cause State.Reconnecting cause refl (sym (state-of c' id _ r) ∙ is)
new-cause c e c' id cause was is (Fate.unflagged x k r) = no-cause (state_of c id) cause was (sym (state-of c' id _ r) ∙ is)
new-cause c e c' id cause was is (Fate.paid mode st r) = no-cause (State.Removing mode false) cause refl (sym (state-of c' id _ r) ∙ is)
new-cause c e c' id cause was is (Fate.freed i m r) = no-cause State.Free cause refl (sym (state-of c' id _ r) ∙ is)
new-cause c e c' id cause was is (Fate.removed xs mode x l r) = no-cause State.Free cause refl (sym (state-of c' id _ r) ∙ is)
new-cause c e c' id cause was is (Fate.extends xs x plain st r) = no-cause State.Reconnecting cause refl (sym (state-of c' id _ r) ∙ is)

-- source document 001's table has no way from FAILED to FAILED
leaves-failed : (sync : Bool) (cause : Cause) (to : State) → legal sync (State.Failed cause) to ≡ true → is_failed to ≡ false
leaves-failed sync cause State.Free e = refl
leaves-failed sync cause State.Created e = refl
leaves-failed sync cause State.Normal e = refl
leaves-failed true cause (State.Failed k) e = clash e refl
leaves-failed false cause (State.Failed k) e = clash e refl
leaves-failed sync cause State.Reconnecting e = refl
leaves-failed sync cause (State.Removing m owed) e = refl

-- one that stays FAILED keeps its cause
old-cause : (c : Pool) (e : Event) (c' : Pool) (id : ℕ) (cause : Cause) → state_of c id ≡ State.Failed cause → is_failed (state_of c' id) ≡ true → Fate c e c' id → state_of c' id ≡ State.Failed cause
old-cause c e c' id cause was is (Fate.kept k) = kept-stands c c' id k ∙ was
old-cause c e c' id cause was is (Fate.begins x st r) = no-cause State.Free cause refl (sym st ∙ was)
old-cause c e c' id cause was is (Fate.joins set version x p st r) = no-cause State.Free cause refl (sym st ∙ was)
old-cause c e c' id cause was is (Fate.goes to l n b w r) = clash is (ap is_failed (state-of c' id _ r) ∙ leaves-failed c.roster.sync cause to (rw was at l))
old-cause c e c' id cause was is (Fate.fails k last w x n b r) = clash n (ap is_normal was)
old-cause c e c' id cause was is (Fate.maintained last x p n b r) = clash n (ap is_normal was)
old-cause c e c' id cause was is (Fate.unflagged x k r) = state-of c' id _ r ∙ was
old-cause c e c' id cause was is (Fate.paid mode st r) = no-cause (State.Removing mode true) cause refl (sym st ∙ was)
old-cause c e c' id cause was is (Fate.freed i m r) = clash m (ap is_removing was)
old-cause c e c' id cause was is (Fate.removed xs mode x l r) = clash is (ap is_failed (state-of c' id _ r))
old-cause c e c' id cause was is (Fate.extends xs x plain st r) = no-cause State.Free cause refl (sym st ∙ was)

pub cause-set : CauseSet
cause-set c _ a id _ (Brings.link n) = (down-said c id (reached-valid c a.reached) a.done).fails ∙ ap (λ (b : Bool). pick b (state_of c id) (State.Failed Cause.Link)) n
cause-set c _ a id _ (Brings.io xs chunk reached n m) =
    (write-said c xs chunk reached (reached-valid c a.reached) a.done).fails id n ∙ ap (λ (b : Bool). pick b State.Normal (State.Failed Cause.Io)) m

-- ---- any events

-- a FAILED session has a cause
record Why (st : State) : Type 0 where
  cause : Cause
  is : st ≡ State.Failed cause

why : (st : State) → is_failed st ≡ true → Why st
why State.Free e = clash e refl
why State.Created e = clash e refl
why State.Normal e = clash e refl
why (State.Failed cause) e = record { cause = cause; is = refl }
why State.Reconnecting e = clash e refl
why (State.Removing m owed) e = clash e refl

fresh-free : (sync : Bool) (chunks id : ℕ) → is_failed (state_of (fresh_pool sync chunks) id) ≡ false
fresh-free sync chunks id =
    by_cases (is_failed (state_of (fresh_pool sync chunks) id))
    (λ e. ap (λ (s : Session). is_failed s.state) (get_or-replicate 16 id free free (below (λ s. is_failed s.state) (fresh_pool sync chunks).roster id refl refl e)))
    (λ e. e)

cause-of : (id : ℕ) (cause : Cause) (c : Pool) → Got id cause c → state_of c id ≡ State.Failed cause
cause-of id cause _ (Got.brought c e a b) = cause-set c e a id cause b
cause-of id cause _ (Got.kept c e r g f) = old-cause c e (next e c) id cause (cause-of id cause c g) f (event-fate e c id (reached-valid c r))

pub cause-only : CauseOnly
cause-only c r e id cause is =
    by_cases (is_failed (state_of c id))
    (λ f. let w = why (state_of c id) f in
    let same : State.Failed w.cause ≡ State.Failed cause = sym (old-cause c e (next e c) id w.cause w.is (ap is_failed is) fate) ∙ is in
    Caused.stood (w.is ∙ same))
    (λ f. Caused.brought f (accepted f) (new-cause c e (next e c) id cause f is fate))
  where
    fate : Fate c e (next e c) id
    fate = event-fate e c id (reached-valid c r)

    accepted : is_failed (state_of c id) ≡ false → is_accepted (turn_of e c).answer ≡ true
    accepted f = by_cases (is_accepted (turn_of e c).answer) (λ a. a) (λ a. no-cause (state_of c id) cause f (sym (refused-stays e c id a) ∙ is))

step-got : (c : Pool) (e : Event) (id : ℕ) (cause : Cause) → Reached c → (state_of c id ≡ State.Failed cause → Got id cause c) → state_of (next e c) id ≡ State.Failed cause → Caused c e id cause → Got id cause (next e c)
step-got c e id cause r before is (Caused.stood was) = Got.kept c e r (before was) (ap is_failed is)
step-got c e id cause r before is (Caused.brought f a b) = Got.brought c e (record { reached = r; done = a }) b

got_of : (c : Pool) → Reached c → (id : ℕ) (cause : Cause) → state_of c id ≡ State.Failed cause → Got id cause c
got_of _ (Reached.start sync chunks a b) id cause is = clash (ap is_failed is) (fresh-free sync chunks id)
got_of _ (Reached.then c e r) id cause is = step-got c e id cause r (λ was. got_of c r id cause was) is (cause-only c r e id cause is)

pub cause-tells : CauseTells
cause-tells c r id cause = (got_of c r id cause, cause-of id cause c)

-- ---- rejoin

cut-is : (st : State) → is_cut st ≡ true → st ≡ State.Failed Cause.Link
cut-is State.Free e = clash e refl
cut-is State.Created e = clash e refl
cut-is State.Normal e = clash e refl
cut-is (State.Failed Cause.Link) e = refl
cut-is (State.Failed Cause.Io) e = clash e refl
cut-is State.Reconnecting e = clash e refl
cut-is (State.Removing m owed) e = clash e refl

-- nothing refuses an event that brings a session back before its ninth test
ninth : (c : Pool) (id : ℕ) (may : Bool) → Valid c → job_of c ≡ Job.Idle → is_free (state_of c id) ≡ false → refusal (back_tests c id may) ≡ pick (not may) 9 0
ninth c id may v job some = rw (valid-of c v, within, job, some) refl
  where
    within : ltb 15 id ≡ false
    within =
        by_cases (ltb 15 id)
        (λ l. let h = below (λ s. not (is_free s.state)) c.roster id v.ok.long refl (ap not some) in
        absurd (let z : ⊥ = omega (arith, ltb-true 15 id l, h) in z))
        (λ l. l)

pub rejoin-said : Rejoin
unfolding rejoin_refusal checks
rejoin-said c r id =
    record {
      taken = λ job is. why-accepted (Event.rejoin id) c (ninth c id (is_cut (state_of c id)) v job (ap is_free is) ∙ ap (λ (st : State). pick (not (is_cut st)) 9 0) is);
      only = λ a. let z = accepted-why (Event.rejoin id) c a in (
        idle-is (job_of c) (not-false (is_idle (job_of c)) (none-applies (tests_of (Event.rejoin id) c) z 6 refl)),
        cut-is (state_of c id) (not-false (is_cut (state_of c id)) (none-applies (tests_of (Event.rejoin id) c) z 9 refl)),
      );
      same = λ a. rejoin-same c id (accepted-why (Event.rejoin id) c a);
      nine = λ job some other. nine job some (by_cases (is_cut (state_of c id)) (λ k. absurd (other (cut-is (state_of c id) k))) (λ k. k));
      both = λ cause job is. why-accepted (Event.store_check id) c
          (ninth c id (checks (is_sync c) (state_of c id)) v job (ap is_free is) ∙ ap (λ (st : State). pick (not (checks (is_sync c) st)) 9 0) is);
    }
  where
    v : Valid c
    v = reached-valid c r

    nine : job_of c ≡ Job.Idle → is_free (state_of c id) ≡ false → is_cut (state_of c id) ≡ false → (turn_of (Event.rejoin id) c).answer ≡ Answer.Refused 9
    nine job some other =
        let n : why_not (Event.rejoin id) c ≡ 9 = ninth c id (is_cut (state_of c id)) v job some ∙ ap (λ (b : Bool). pick (not b) 9 0) other in
        ap (λ (t : Turn). t.answer) (refused-turn (Event.rejoin id) c (ap (λ (k : ℕ). eqb k 0) n)) ∙ ap Answer.Refused n
