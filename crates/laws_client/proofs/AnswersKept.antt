-- An answer keeps the state rules, in a run and in a removal.
use Rattle.std.specs.Prelude.{Option, Some, None}
use mathlib.Core.Path.{◌≡◌, refl, sym, ap, ◌∙◌, subst}
use mathlib.Core.Bool.{Bool, true, false, not}
use Prim.Native.Nat.{ℕ, ◌+◌, ◌≤◌, ◌<◌}
use native.Mathlib.Decide.{ℕ_discrete}
use native.Mathlib.Omega.{arith}
use lib.Dec.{eqb, ltb}
use borrow.Author.Tests.{eqb-true}
use Rattle.laws_words.specs.Words.{pick}
use Rattle.laws_words.specs.Tests.{by_cases, clash, and_left, and_right, either}
use Rattle.rules_base.specs.Limits.{chunk_limit, answer_limit, version_limit}
use Rattle.rules_base.specs.Sets.{has, lowest}
use Rattle.rules_base.proofs.Sets.{has-without-same, lowest-in, lowest-zero, still}
use Rattle.rules_pool.specs.declared.Session.{Session}
use Rattle.rules_pool.specs.declared.Roster.{Roster}
use Rattle.rules_pool.specs.declared.Phase.{Phase}
use Rattle.rules_pool.specs.declared.Step.{Step}
use Rattle.rules_pool.specs.declared.Run.{Run}
use Rattle.rules_pool.specs.declared.Job.{Job}
use Rattle.rules_pool.specs.declared.Pool.{Pool}
use Rattle.rules_pool.specs.declared.Reply.{Reply}
use Rattle.rules_pool.specs.Session.{is_normal, candidate}
use Rattle.rules_pool.specs.declared.Kind.{Kind}
use Rattle.rules_pool.specs.Sessions.{session_at, ids_of}
use Rattle.rules_pool.specs.Changes.{entered}
use Rattle.rules_pool.specs.declared.Move.{Move}
use Rattle.rules_pool.specs.Run.{hand, rest, counted, ahead, to_spread, went_on, became_normal, failed_at, failed_answer, version_brought, good_at, good, takes}
use Rattle.rules_pool.specs.Still.{possible}
use Rattle.laws_client.proofs.RunBound.{counted-most, HasLeft, FitAt, FitNext, still_in, Carries, Lowers, taken-well, some_left, lowers}
use Rattle.rules_pool.specs.StateRules.{all_asked, one_asked, asked, source_ok, hand_ok, job_ok}
use Rattle.rules_pool.specs.Jobs.{is_running}
use Rattle.rules_pool.specs.Recovery.{with_roster, posted, gone_on}
use Rattle.rules_pool.specs.Exit.{refused}
use Rattle.laws_client.proofs.Ids.{Long, below}
use Rattle.laws_client.proofs.Rosters.{Ok}
use Rattle.laws_client.proofs.Pools.{Valid, removal-facts}
use Rattle.laws_client.proofs.Runs.{AllCandidates, RunOk, run-facts, run_of, run_room, candidate-member, candidate-normal, entered-same, entered-other, entered-members, entered-version, entered-sync, candidate-enters, Asking, asking-facts, Sound, Within, spread-sound, gather-sound, last-sound, base-sound, versions-sound}
use Rattle.laws_client.proofs.Tried.{ended-keeps}
use Rattle.laws_client.proofs.Records.{raised_if}
use Rattle.laws_client.proofs.RemovalKept.{answers-keep}
use Rattle.rules_client.specs.Answers.{answer_refusal, entered_by, moved_on, reported, answered, answer}

-- ---- the run in hand

-- an id whose record is a candidate is an id
pub candidate-below : (ro : Roster) (id : ℕ) → Long ro → candidate (session_at ro id) ≡ true → id < 16
candidate-below ro id l c = below candidate ro id l refl c

some_of : (ro : Roster) (r : Run) → RunOk ro r → not (eqb r.left 0) ≡ true → HasLeft r
some_of ro r v e = (v.small, some_left r.left v.small (off (eqb r.left 0) e))
  where
    off : (b : Bool) → not b ≡ true → b ≡ false
    off true q = sym q
    off false q = refl

members-of : (ro : Roster) (r : Run) → Ok ro → RunOk ro r → Within r.left ro.members
members-of ro r k v j h = let c = v.able j h in candidate-member ro k v.plain j (candidate-below ro j k.long c) c

-- a run of a pool that keeps the rules is fit
pub fit_of : (p : Phase) (ro : Roster) (r : Run) → Ok ro → RunOk ro r → hand_ok p r.left ≡ true → source_ok p ro r.source r.left ≡ true → FitAt p ro.members r
fit_of (Phase.Versions best) ro r k v h s = (some_of ro r v h, (k.small, (asking-facts ro r.source k.long s).member), members-of ro r k v)
fit_of (Phase.Base t) ro r k v h s = (some_of ro r v h, (k.small, (asking-facts ro r.source k.long (and_left (all_asked ro r.source) _ s)).member))
fit_of Phase.LastIo ro r k v h s = (some_of ro r v h, (k.small, (asking-facts ro r.source k.long s).member))
fit_of (Phase.Gather t) ro r k v h s = (some_of ro r v h, (k.small, (asking-facts ro r.source k.long (and_left (all_asked ro r.source) _ s)).member))
fit_of (Phase.Enable every) ro r k v h s = v.small
fit_of (Phase.Spread t) ro r k v h s = some_of ro r v h

-- ---- what an answer makes of the sessions and of the run

record Steps (ro : Roster) (m : Move) : Type 0 where
  ok : Ok (entered_by m.normal ro)
  sound : Sound (entered_by m.normal ro) m.next
  same-members : (entered_by m.normal ro).members ≡ ro.members
  same_version : (entered_by m.normal ro).version ≡ ro.version
  plain : (entered_by m.normal ro).sync ≡ false
  able : (id : ℕ) → m.normal ≡ Some id → candidate (session_at ro id) ≡ true

nobody {ℓ} : {A : Type ℓ} (id : ℕ) → None ≡ Some id → A
nobody id e = absurd (let z : ◌≡◌ {A = ℕ} 0 1 = cc e in omega arith)

on-moves : (ro : Roster) (r : Run) (n : Option Run) → Ok ro → ro.sync ≡ false → Sound ro n → Steps ro (went_on r n)
on-moves ro r n k e s = record { ok = k; sound = s; same-members = refl; same_version = refl; plain = e; able = λ id e. nobody id e }

rest-within : (r : Run) → Within (rest r) r.left
rest-within r j h = (still r.left (hand r) j h).0

fails : (p : Phase) (ro : Roster) (r : Run) → Ok ro → RunOk ro r → source_ok p ro r.source r.left ≡ true → Steps ro (failed_at p r)
fails (Phase.Versions best) ro r k v s = record { ok = k; sound = tt; same-members = refl; same_version = refl; plain = v.plain; able = λ id e. nobody id e }
fails (Phase.Base t) ro r k v s = record { ok = k; sound = tt; same-members = refl; same_version = refl; plain = v.plain; able = λ id e. nobody id e }
fails Phase.LastIo ro r k v s = record { ok = k; sound = tt; same-members = refl; same_version = refl; plain = v.plain; able = λ id e. nobody id e }
fails (Phase.Gather t) ro r k v s = record { ok = k; sound = tt; same-members = refl; same_version = refl; plain = v.plain; able = λ id e. nobody id e }
fails (Phase.Enable every) ro r k v s = record { ok = k; sound = tt; same-members = refl; same_version = refl; plain = v.plain; able = λ id e. nobody id e }
fails (Phase.Spread t) ro r k v s =
    record {
      ok = k;
      sound = spread-sound ro r (rest r) (λ j h. v.able j (rest-within r j h)) s;
      same-members = refl;
      same_version = refl;
      plain = v.plain;
      able = λ id e. nobody id e;
    }

failed-moves : (ro : Roster) (r : Run) → Ok ro → RunOk ro r → Steps ro (failed_answer r)
unfolding failed_answer
failed-moves ro r k v = fails r.phase ro r k v v.source

brings : (best version : ℕ) (ro : Roster) (r : Run) (b : Option ℕ) → Ok ro → RunOk ro r → HasLeft r → Asking ro r.source → Steps ro (version_brought ro.members version best r b)
brings best version ro r None k v h q = failed-moves ro r k v
brings best version ro r (Some w) k v h q =
    either (Steps ro) (ltb version w) (failed_answer r) _ (failed-moves ro r k v)
    (on-moves ro r _ k v.plain
    (versions-sound ro k.long r (pick (ltb best w) (hand r) r.source)
    (record { none = q.none; all-able = q.all-able; member = either (λ (x : ℕ). has ro.members x ≡ true) (ltb best w) (hand r) r.source (members-of ro r k v (hand r) (lowest-in r.left h.1)) q.member })
    (pick (ltb best w) w best) (rest r) (λ j z. members-of ro r k v j (rest-within r j z))))

-- a candidate becomes NORMAL, and an enabling spread goes on to others
enters : (ro : Roster) (r : Run) (id left : ℕ) → Ok ro → RunOk ro r → candidate (session_at ro id) ≡ true
    → AllCandidates ro left → has left id ≡ false → is_normal (session_at (entered ro id) r.source).state ≡ true → Steps ro (became_normal r (to_spread r left) id)
enters ro r id left k v c a out n =
    record {
      ok = candidate-enters ro id k v.plain v.limit (candidate-below ro id k.long c) c;
      sound = spread-sound (entered ro id) r left (λ j h. at j h (ℕ_discrete j id)) n;
      same-members = entered-members ro id;
      same_version = entered-version ro id;
      plain = entered-sync ro id v.plain;
      able = λ j e. let q : id ≡ j = cc e in rw (← q) c;
    }
  where
    at : (j : ℕ) → has left j ≡ true → Dec (j ≡ id) → candidate (session_at (entered ro id) j) ≡ true
    at j h (yes e) = clash (subst (λ (x : ℕ). has left x ≡ true) e h) out
    at j h (no d) = ap candidate (entered-other ro id j v.plain d) ∙ a j h

rest_out : (r : Run) (x : ℕ) → has r.left x ≡ false → has (rest r) x ≡ false
rest_out r x e = by_cases (has (rest r) x) (λ z. clash (rest-within r x z) e) (λ z. z)

off-not : (b : Bool) → not b ≡ true → b ≡ false
off-not true e = sym e
off-not false e = refl

asked-able : (every : Bool) (ro : Roster) (source : ℕ) → Long ro → asked every ro source ≡ true → candidate (session_at ro source) ≡ true
unfolding one_asked
asked-able true ro source l e = let a = asking-facts ro source l e in a.all-able source a.member
asked-able false ro source l e = and_right (eqb (ids_of Kind.Normals ro) 0) (candidate (session_at ro source)) e

goes : (p : Phase) (version : ℕ) (ro : Roster) (r : Run) (b : Option ℕ) → Ok ro → RunOk ro r → hand_ok p r.left ≡ true → source_ok p ro r.source r.left ≡ true → Steps ro (good_at p ro.members version r b)
goes (Phase.Versions best) version ro r b k v h s = brings best version ro r b k v (some_of ro r v h) (asking-facts ro r.source k.long s)
goes (Phase.Base Step.Ready) version ro r b k v h s = on-moves ro r (ahead r (Phase.Base Step.Send)) k v.plain (v.able, s)
goes (Phase.Base Step.Send) version ro r b k v h s = on-moves ro r (ahead r (Phase.Base Step.Done)) k v.plain (v.able, s)
goes (Phase.Base Step.Done) version ro r b k v h s =
    on-moves ro r _ k v.plain
    (base-sound ro k.long r r.source (asking-facts ro r.source k.long (and_left (all_asked ro r.source) _ s)) (rest r)
    (λ j z. members-of ro r k v j (rest-within r j z)) (rest_out r r.source (off-not (has r.left r.source) (and_right (all_asked ro r.source) _ s))))
goes Phase.LastIo version ro r b k v h s =
    on-moves ro r _ k v.plain (last-sound ro k.long r r.source (asking-facts ro r.source k.long s) (rest r) (λ j z. members-of ro r k v j (rest-within r j z)))
goes (Phase.Gather Step.Ready) version ro r b k v h s = on-moves ro r (ahead r (Phase.Gather Step.Send)) k v.plain (v.able, s)
goes (Phase.Gather Step.Send) version ro r b k v h s = on-moves ro r (ahead r (Phase.Gather Step.Done)) k v.plain (v.able, s)
goes (Phase.Gather Step.Done) version ro r b k v h s =
    on-moves ro r _ k v.plain
    (gather-sound ro k.long r r.source (asking-facts ro r.source k.long (and_left (all_asked ro r.source) _ s)) (rest r)
    (λ j z. members-of ro r k v j (rest-within r j z)) (rest_out r r.source (off-not (has r.left r.source) (and_right (all_asked ro r.source) _ s))))
goes (Phase.Enable every) version ro r b k v h s =
    let c = asked-able every ro r.source k.long (and_left (asked every ro r.source) _ s) in
    enters ro r r.source r.left k v c v.able (off-not (has r.left r.source) (and_right (asked every ro r.source) _ s))
    (entered-same ro r.source k.long v.plain (candidate-below ro r.source k.long c))
goes (Phase.Spread Step.Ready) version ro r b k v h s = on-moves ro r (ahead r (Phase.Spread Step.Send)) k v.plain (v.able, s)
goes (Phase.Spread Step.Send) version ro r b k v h s = on-moves ro r (ahead r (Phase.Spread Step.Done)) k v.plain (v.able, s)
goes (Phase.Spread Step.Done) version ro r b k v h s =
    let in_left = lowest-in r.left (some_of ro r v h).1 in
    let c = v.able (hand r) in_left in
    enters ro r (hand r) (rest r) k v c (λ j z. v.able j (rest-within r j z)) (gone r)
    (other c (ℕ_discrete r.source (hand r)))
  where
    gone : (r : Run) → has (rest r) (hand r) ≡ false
    gone r = has-without-same r.left (hand r)

    other : candidate (session_at ro (hand r)) ≡ true → Dec (r.source ≡ hand r) → is_normal (session_at (entered ro (hand r)) r.source).state ≡ true
    other c (yes e) = clash (subst (λ (x : ℕ). is_normal (session_at ro x).state ≡ true) e s) (candidate-normal (session_at ro (hand r)) c)
    other c (no d) = ap (λ (x : Session). is_normal x.state) (entered-other ro (hand r) r.source v.plain d) ∙ s

takes-moves : (version : ℕ) (ro : Roster) (r : Run) (a : Reply) → Ok ro → RunOk ro r → Steps ro (takes ro.members version r a)
unfolding good
takes-moves version ro r Reply.Failed k v = failed-moves ro r k v
takes-moves version ro r (Reply.Good b) k v = goes r.phase version ro r b k v v.some v.source

-- ---- the run that comes next keeps the rules

not-empty : (s : ℕ) → lowest s < 16 → not (eqb s 0) ≡ true
not-empty s h = by_cases (eqb s 0) (λ e. absurd (let z : lowest s ≡ 16 = ap lowest (eqb-true s 0 e) ∙ lowest-zero in let y : ⊥ = omega arith in y)) (λ e. ap not e)

fit-hand : (p : Phase) (members : ℕ) (r : Run) → FitAt p members r → (r.left < 65536) × (hand_ok p r.left ≡ true)
fit-hand (Phase.Versions best) members r f = (f.0.0, not-empty r.left f.0.1)
fit-hand (Phase.Base t) members r f = (f.0.0, not-empty r.left f.0.1)
fit-hand Phase.LastIo members r f = (f.0.0, not-empty r.left f.0.1)
fit-hand (Phase.Gather t) members r f = (f.0.0, not-empty r.left f.0.1)
fit-hand (Phase.Enable every) members r f = (f, refl)
fit-hand (Phase.Spread t) members r f = (f.0, not-empty r.left f.1)

-- the pool with the next message sent, or the run over
next-valid : (n : Option Run) (p : Pool) (taken before : ℕ) → 1 ≤ p.chunks → p.chunks ≤ chunk_limit → Ok p.roster → p.roster.sync ≡ false → p.roster.version ≤ version_limit
    → FitNext p.roster.members n → Sound p.roster n → Carries (counted taken) n → still_in p.roster.members n < before → taken + before ≤ answer_limit → Valid (gone_on n p).pool
unfolding posted
next-valid None p taken before a b k e l f s c w m = ended-keeps p a b k (run_room p.roster k e l)
next-valid (Some r) p taken before a b k e l f s c w m =
    record {
      some = a;
      most = b;
      ok = k;
      job = run_of p.roster r k.long (record {
        plain = e;
        limit = l;
        small = (fit-hand r.phase p.roster.members r f).0;
        some = (fit-hand r.phase p.roster.members r f).1;
        able = s.0;
        source = s.1;
        most = omega (arith, c, w, m, counted-most taken);
      });
    }

run-keeps : (p : Pool) (r : Run) (a : Reply) → Valid p → RunOk p.roster r → Valid (reported p (takes p.roster.members p.roster.version r a)).pool
unfolding moved_on
run-keeps p r a v q =
    next-valid m.next (with_roster p ro') r.taken (possible p.roster.members r) v.some v.most g.ok g.plain
    (subst (λ (n : ℕ). n ≤ version_limit) (sym g.same_version) q.limit)
    (subst (λ (n : ℕ). FitNext n m.next) (sym g.same-members) w.fit)
    g.sound
    w.carries
    (subst (λ (n : ℕ). still_in n m.next < possible p.roster.members r) (sym g.same-members) w.fewer)
    q.most
  where
    m : Move
    m = takes p.roster.members p.roster.version r a

    ro' : Roster
    ro' = entered_by (takes p.roster.members p.roster.version r a).normal p.roster

    g : Steps p.roster (takes p.roster.members p.roster.version r a)
    g = takes-moves p.roster.version p.roster r a v.ok q

    w : Lowers (taken-well p.roster.version r a) (possible p.roster.members r) p.roster.members r (takes p.roster.members p.roster.version r a)
    w = lowers p.roster.members p.roster.version r a (fit_of r.phase p.roster r v.ok q q.some q.source)

-- ---- the event

answered-keeps : (j : Job) (p : Pool) (a : Reply) → Valid p → job_ok j p.roster ≡ true → Valid (answered j p a).pool
answered-keeps Job.Idle p a v o = v
answered-keeps (Job.Running r) p a v o = run-keeps p r a v (run-facts p.roster r v.ok.long o)
answered-keeps (Job.Removing m) p a v o =
    let h = removal-facts p.roster m v.ok.long o in
    answers-keep m p a (record { some = v.some; most = v.most; ok = v.ok; below = h.below; removing = h.removing })

-- An answer, accepted or refused, keeps the state rules.
pub answer_keeps : (p : Pool) (sound : Bool) (number : ℕ) (a : Reply) → Valid p → Valid (answer p sound number a).pool
unfolding answer
answer_keeps p sound number a v = at (eqb (answer_refusal p sound number) 0)
  where
    at : (b : Bool) → Valid (pick b (answered p.job p a) (refused p (answer_refusal p sound number))).pool
    at true = answered-keeps p.job p a v v.job
    at false = v

-- ---- what an answer leaves of the sessions

gone-roster : (n : Option Run) (p : Pool) → (gone_on n p).pool.roster ≡ raised_if (not (is_running (gone_on n p).pool.job)) p.roster
unfolding posted
gone-roster None p = refl
gone-roster (Some r) p = refl

-- the sessions after an answer in a run: those before, but for the one that became NORMAL; the version is raised if the run is over
pub run-roster : (p : Pool) (m : Move) → (reported p m).pool.roster ≡ raised_if (not (is_running (reported p m).pool.job)) (entered_by m.normal p.roster)
unfolding moved_on
run-roster p m = gone-roster m.next (with_roster p (entered_by m.normal p.roster))

-- The one that becomes NORMAL was a candidate.
pub run-able : (p : Pool) (r : Run) (a : Reply) → Valid p → RunOk p.roster r → (id : ℕ) → (takes p.roster.members p.roster.version r a).normal ≡ Some id → candidate (session_at p.roster id) ≡ true
run-able p r a v q id e = (takes-moves p.roster.version p.roster r a v.ok q).able id e
