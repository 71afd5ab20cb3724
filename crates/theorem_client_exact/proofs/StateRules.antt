-- The state rules in words are the rules' own.
use mathlib.Core.Path.{◌≡◌, refl, sym, ap, ◌∙◌}
use mathlib.Core.Logic.{◌≢◌, ◌⊎◌}
use mathlib.Core.Bool.{Bool, true, false, not, ◌||◌}
use Prim.Native.Nat.{ℕ, ◌≤◌, ◌<◌}
use native.Mathlib.Decide.{ℕ_discrete}
use native.Mathlib.Omega.{arith}
use lib.Dec.{eqb, leb}
use borrow.Author.Tests.{eqb-true, eq-eqb, ltb-true, lt-ltb, leb-true, le-leb, not-true}
use Rattle.laws_words.specs.Words.{pick}
use Rattle.laws_words.specs.Tests.{clash, by_cases, all-at}
use Rattle.rules_base.specs.Sets.{has, without, size, count_to, lowest}
use Rattle.rules_base.proofs.Sets.{has-none, has-below, has-without-other, still, without-lt, count_to-same, lowest-in, lowest-le, empty-set, size-zero, size-without, size-some}
use Rattle.rules_pool.specs.declared.Roster.{Roster}
use Rattle.rules_pool.specs.declared.Stage.{Stage}
use Rattle.rules_pool.specs.declared.Phase.{Phase}
use Rattle.rules_pool.specs.declared.Run.{Run}
use Rattle.rules_pool.specs.declared.Job.{Job}
use Rattle.rules_pool.specs.declared.Kind.{Kind}
use Rattle.rules_pool.specs.declared.Pool.{Pool}
use Rattle.rules_pool.specs.declared.Answer.{Answer}
use Rattle.rules_pool.specs.Session.{is_normal, candidate}
use Rattle.rules_pool.specs.Sessions.{session_at, odd, ids_of}
use Rattle.rules_pool.specs.StateRules.{all_asked, one_asked, source_ok, hand_ok, run_rules, run_ok, stage_ok, job_ok, valid_pool}
use Rattle.laws_client.proofs.Ids.{Long, below, kind_at, ids-has, ids-lt, ids-none, none-ids}
use Rattle.laws_client.proofs.Rosters.{Ok}
use Rattle.laws_client.proofs.Pools.{valid-facts, valid-of}
use Rattle.rules_client.specs.ClientEvents.{out_of}
use Rattle.theorem_client_exact.specs.Words.{In, Normal, Reconnecting, Failed, Removing, NoSession, InMaintenance, Sync, NotSync, session_of, state_of, members_of, Member}
use Rattle.theorem_client_exact.specs.StateRules.{Marked, Candidate, NoneNormal, SessionRules, AllAsked, OneAsked, SourceRule, HandRule, RunRules, PeerRule, JobRules, KeepsRules, RulesAsSaid, OneGiven}
use Rattle.theorem_client_exact.proofs.Tells.{Tells, Fits, itself, wants, shuns, tells-not, tells-or, tells-and, fits_or, fits-then, off, equal_is, free-is, normal-is, reconnecting-is, failed-is, removing-is, some_of}
use Rattle.theorem_client_exact.proofs.Accepted.{one-test, one-applies, one-first}

-- ---- one record

abbrev RecordRule : Pool → ℕ → Type 0
RecordRule p id =
    ((Marked p id ⊎ InMaintenance p id) → (Failed p id ⊎ Reconnecting p id))
    × ((Sync p → ¬ (Marked p id ⊎ (InMaintenance p id ⊎ Reconnecting p id))) × (NotSync p → ¬ (NoSession p id ⊎ Removing p id) → Member p id))

record-fits : (p : Pool) (id : ℕ) → Fits (odd p.roster.sync (members_of p) id (session_of p id)) (RecordRule p id)
record-fits p id =
    fits_or (fits-then (tells-or (itself (session_of p id).mark) (itself (session_of p id).maintenance)) (wants (tells-or (failed-is (state_of p id)) (reconnecting-is (state_of p id)))))
    (fits_or
    (fits-then (itself p.roster.sync) (shuns (tells-or (itself (session_of p id).mark) (tells-or (itself (session_of p id).maintenance) (reconnecting-is (state_of p id))))))
    (fits-then (off p.roster.sync) (fits-then (tells-not (tells-or (free-is (state_of p id)) (removing-is (state_of p id)))) (wants (itself (has (members_of p) id))))))

-- ---- sets

-- the count
normals-counted : (p : Pool) → Long p.roster → size (ids_of Kind.Normals p.roster) ≡ count_to (λ id. is_normal (state_of p id)) 16
unfolding size
normals-counted p l = count_to-same (has (ids_of Kind.Normals p.roster)) (λ id. is_normal (state_of p id)) 16 (λ j h. ids-has Kind.Normals p.roster l j h)

-- nobody of a kind, as a test
none_is : (k : Kind) (ro : Roster) (who : ℕ → Type 0) → Long ro → ((j : ℕ) → Tells (kind_at k ro j (session_at ro j)) (who j)) → ((j : ℕ) → who j → j < 16) → Tells (eqb (ids_of k ro) 0) ((j : ℕ) → ¬ (who j))
none_is k ro who l t b =
    record {
      true-then = λ e j w. clash ((t j).then-true w) (ids-none k ro l (eqb-true (ids_of k ro) 0 e) j (b j w));
      then-true = λ f. eq-eqb (ids_of k ro) 0 (none-ids k ro l (λ j h. by_cases (kind_at k ro j (session_at ro j)) (λ e. absurd (f j ((t j).true-then e))) (λ e. e)));
    }

none-normal : (p : Pool) → Long p.roster → Tells (eqb (ids_of Kind.Normals p.roster) 0) (NoneNormal p)
none-normal p l = none_is Kind.Normals p.roster (Normal p) l (λ j. normal-is (state_of p j)) (λ j n. below (λ s. is_normal s.state) p.roster j l refl (ap is_normal n))

-- every id of a set is a candidate
candidate-is : (p : Pool) (id : ℕ) → Tells (candidate (session_of p id)) (Candidate p id)
candidate-is p id = tells-and (reconnecting-is (state_of p id)) (tells-not (itself (session_of p id).maintenance))

strays-are : (p : Pool) (ids : ℕ) → Long p.roster → Tells (eqb (ids_of (Kind.Strays ids) p.roster) 0) ((id : ℕ) → In ids id → Candidate p id)
strays-are p ids l = record { true-then = λ e id h. to id h (none.true-then e id); then-true = λ f. none.then-true (λ id x. x.1 (f id x.0)) }
  where
    none : Tells (eqb (ids_of (Kind.Strays ids) p.roster) 0) ((j : ℕ) → ¬ ((has ids j ≡ true) × (¬ (Candidate p j))))
    none = none_is (Kind.Strays ids) p.roster (λ j. (has ids j ≡ true) × (¬ (Candidate p j))) l (λ j. tells-and (itself (has ids j)) (tells-not (candidate-is p j))) (λ j x. has-below ids j x.0)

    to : (id : ℕ) → In ids id → ¬ ((has ids id ≡ true) × (¬ (Candidate p id))) → Candidate p id
    to id h n = by_cases (candidate (session_of p id)) (λ e. (candidate-is p id).true-then e) (λ e. absurd (n (h, λ x. clash ((candidate-is p id).then-true x) e)))

-- at most one in a set
one_only : (s : ℕ) → s < 65536 → Tells (leb (size s) 1) ((i j : ℕ) → In s i → In s j → i ≡ j)
one_only s b = record { true-then = λ e i j hi hj. same (leb-true _ _ e) i j hi hj (ℕ_discrete i j); then-true = λ f. le-leb (size s) 1 (few f (ℕ_discrete (lowest s) 16)) }
  where
    same : size s ≤ 1 → (i j : ℕ) → In s i → In s j → Dec (i ≡ j) → i ≡ j
    same le i j hi hj (yes e) = e
    same le i j hi hj (no d) =
        absurd (let y : ⊥ = omega (arith, le, size-without s i hi, size-some (without s i) j (has-without-other s i j (λ q. d (sym q)) ∙ hj)) in y)

    few : ((i j : ℕ) → In s i → In s j → i ≡ j) → Dec (lowest s ≡ 16) → size s ≤ 1
    few f (yes e) = let z : size s ≡ 0 = ap size (empty-set s b e) ∙ size-zero in omega (arith, z)
    few f (no d) =
        let h : lowest s < 16 = omega (arith, lowest-le s, d) in
        let x = lowest-in s h in
        let w : size (without s (lowest s)) ≡ 0 = rest f x (ℕ_discrete (lowest (without s (lowest s))) 16) in
        omega (arith, size-without s (lowest s) x, w)
      where
        rest : ((i j : ℕ) → In s i → In s j → i ≡ j) → In s (lowest s) → Dec (lowest (without s (lowest s)) ≡ 16) → size (without s (lowest s)) ≡ 0
        rest f x (yes e) = ap size (empty-set (without s (lowest s)) (without-lt s (lowest s) b) e) ∙ size-zero
        rest f x (no g) =
            let y = lowest-in (without s (lowest s)) (omega (arith, lowest-le (without s (lowest s)), g)) in
            let q = still s (lowest s) (lowest (without s (lowest s))) y in
            absurd (q.1 (f (lowest (without s (lowest s))) (lowest s) q.0 x))

-- ---- the sessions

marked-has : (p : Pool) → Long p.roster → (j : ℕ) → j ≤ 15 → has (ids_of Kind.Marked p.roster) j ≡ (session_of p j).mark
marked-has p l j h = ids-has Kind.Marked p.roster l j (omega (arith, h))

or-one : (a b : Bool) → (a || b) ≡ true → a ≡ false → b ≡ true
or-one true b e f = clash refl f
or-one false b e f = e

said : (p : Pool) → Ok p.roster → SessionRules p
said p v =
    record {
      count = v.count ∙ ap (λ (n : ℕ). pick p.roster.sync 0 n) (normals-counted p v.long);
      one = λ i j hi hj mi mj. (one_only (ids_of Kind.Marked p.roster) (ids-lt Kind.Marked p.roster v.long)).true-then (le-leb _ _ v.one-mark) i j (marked-has p v.long i hi ∙ mi) (marked-has p v.long j hj ∙ mj);
      none = λ i j hi mi. (none-normal p v.long).true-then (or-one (eqb (ids_of Kind.Marked p.roster) 0) (eqb (ids_of Kind.Normals p.roster) 0) v.no-mark (some i (marked-has p v.long i hi ∙ mi))) j;
      placed = λ id h. (rule id h).0;
      low = v.low;
      high = v.high;
      ids = omega (arith, v.small);
      member = λ id h. (rule id h).1.1;
      nobody = λ s. eqb-true _ _ (or-one (not p.roster.sync) (eqb (members_of p) 0) v.none (ap not s));
      bare = λ id h. (rule id h).1.0;
    }
  where
    rule : (id : ℕ) → id ≤ 15 → RecordRule p id
    rule id h = (record-fits p id).holds (v.even id (omega (arith, h)))

    some : (i : ℕ) → has (ids_of Kind.Marked p.roster) i ≡ true → eqb (ids_of Kind.Marked p.roster) 0 ≡ false
    some i x = by_cases (eqb (ids_of Kind.Marked p.roster) 0) (λ e. clash x (ap (λ (n : ℕ). has n i) (eqb-true _ _ e) ∙ has-none i)) (λ e. e)

kept : (p : Pool) → Long p.roster → SessionRules p → Ok p.roster
kept p l r =
    record {
      long = l;
      count = r.count ∙ sym (ap (λ (n : ℕ). pick p.roster.sync 0 n) (normals-counted p l));
      one-mark = leb-true _ _ ((one_only (ids_of Kind.Marked p.roster) (ids-lt Kind.Marked p.roster l)).then-true (λ i j x y. r.one i j (few i x) (few j y) (mark i x) (mark j y)));
      no-mark = by_cases (eqb (ids_of Kind.Marked p.roster) 0) (λ e. or_left e) (λ e. or_right (none e));
      low = r.low;
      high = r.high;
      small = omega (arith, r.ids);
      none = by_cases p.roster.sync (λ s. or-sync s (eq-eqb _ _ (r.nobody s))) (λ s. or-plain s);
      even = λ j h. even j (omega (arith, h));
    }
  where
    few : (i : ℕ) → has (ids_of Kind.Marked p.roster) i ≡ true → i ≤ 15
    few i x = let h = has-below (ids_of Kind.Marked p.roster) i x in omega (arith, h)

    mark : (i : ℕ) → has (ids_of Kind.Marked p.roster) i ≡ true → Marked p i
    mark i x = sym (marked-has p l i (few i x)) ∙ x

    or_left : eqb (ids_of Kind.Marked p.roster) 0 ≡ true → (eqb (ids_of Kind.Marked p.roster) 0 || eqb (ids_of Kind.Normals p.roster) 0) ≡ true
    or_left e = rw e refl

    or_right : eqb (ids_of Kind.Normals p.roster) 0 ≡ true → (eqb (ids_of Kind.Marked p.roster) 0 || eqb (ids_of Kind.Normals p.roster) 0) ≡ true
    or_right e = rw e (or-true (eqb (ids_of Kind.Marked p.roster) 0))
      where
        or-true : (b : Bool) → (b || true) ≡ true
        or-true true = refl
        or-true false = refl

    none : eqb (ids_of Kind.Marked p.roster) 0 ≡ false → eqb (ids_of Kind.Normals p.roster) 0 ≡ true
    none e = let m = some_of Kind.Marked p.roster l e in (none-normal p l).then-true (λ j. r.none m.who j (omega (arith, m.below)) m.is)

    or-sync : p.roster.sync ≡ true → eqb (members_of p) 0 ≡ true → (not p.roster.sync || eqb (members_of p) 0) ≡ true
    or-sync s e = rw (s, e) refl

    or-plain : p.roster.sync ≡ false → (not p.roster.sync || eqb (members_of p) 0) ≡ true
    or-plain s = rw s refl

    even : (j : ℕ) → j ≤ 15 → odd p.roster.sync (members_of p) j (session_of p j) ≡ false
    even j h = by_cases (odd p.roster.sync (members_of p) j (session_of p j)) (λ e. absurd ((record-fits p j).breaks e (r.placed j h, (r.bare j h, r.member j h)))) (λ e. e)

-- ---- a run

all-asked : (p : Pool) (source : ℕ) → Long p.roster → Tells (all_asked p.roster source) (AllAsked p source)
unfolding all_asked
all-asked p source l =
    let t = tells-and (none-normal p l) (tells-and (strays-are p (members_of p) l) (itself (has (members_of p) source))) in
    record { true-then = λ e. (let x = t.true-then e in record { none = x.0; every = x.1.0; chosen = x.1.1 }); then-true = λ x. t.then-true (x.none, (x.every, x.chosen)) }

one-asked : (p : Pool) (source : ℕ) → Long p.roster → Tells (one_asked p.roster source) (OneAsked p source)
unfolding one_asked
one-asked p source l =
    let t = tells-and (none-normal p l) (candidate-is p source) in
    record { true-then = λ e. (let x = t.true-then e in record { none = x.0; own = x.1 }); then-true = λ x. t.then-true (x.none, x.own) }

not_in : (left source : ℕ) → Tells (not (has left source)) (¬ (In left source))
not_in left source = tells-not (itself (has left source))

source_is : (ph : Phase) (p : Pool) (source left : ℕ) → Long p.roster → Tells (source_ok ph p.roster source left) (SourceRule ph p source left)
source_is (Phase.Versions best) p source left l = all-asked p source l
source_is (Phase.Base s) p source left l = tells-and (all-asked p source l) (not_in left source)
source_is Phase.LastIo p source left l = all-asked p source l
source_is (Phase.Gather s) p source left l = tells-and (all-asked p source l) (not_in left source)
source_is (Phase.Enable true) p source left l = tells-and (all-asked p source l) (not_in left source)
source_is (Phase.Enable false) p source left l = tells-and (one-asked p source l) (not_in left source)
source_is (Phase.Spread s) p source left l = normal-is (state_of p source)

not-zero : (n : ℕ) → Tells (not (eqb n 0)) (n ≢ 0)
not-zero n = tells-not (equal_is n 0)

hand-is : (ph : Phase) (left : ℕ) → Tells (hand_ok ph left) (HandRule ph left)
hand-is (Phase.Versions best) left = not-zero left
hand-is (Phase.Base s) left = not-zero left
hand-is Phase.LastIo left = not-zero left
hand-is (Phase.Gather s) left = not-zero left
hand-is (Phase.Enable every) left = record { true-then = λ e. tt; then-true = λ x. refl }
hand-is (Phase.Spread s) left = not-zero left

run_is : (p : Pool) (r : Run) → Long p.roster → Tells (run_ok p.roster r) (RunRules p r)
unfolding run_ok
run_is p r l =
    record {
      true-then = λ e. record {
        kind = not-true _ (all-at (run_rules p.roster r) 0 e);
        low = leb-true _ _ (all-at (run_rules p.roster r) 1 e);
        ids = (let h = ltb-true r.left 65536 (all-at (run_rules p.roster r) 2 e) in let q : r.left ≤ 65535 = omega (arith, h) in q);
        hand = (hand-is r.phase r.left).true-then (all-at (run_rules p.roster r) 3 e);
        left = (strays-are p r.left l).true-then (all-at (run_rules p.roster r) 4 e);
        source = (source_is r.phase p r.source r.left l).true-then (all-at (run_rules p.roster r) 5 e);
        answers = leb-true _ _ (all-at (run_rules p.roster r) 6 e);
      };
      then-true = λ x. simp (
        x.kind,
        le-leb _ _ x.low,
        lt-ltb r.left 65536 (let q : r.left < 65536 = omega (arith, x.ids) in q),
        (hand-is r.phase r.left).then-true x.hand,
        (strays-are p r.left l).then-true x.left,
        (source_is r.phase p r.source r.left l).then-true x.source,
        le-leb _ _ x.answers,
      );
    }

-- ---- a removal

stage_is : (st : Stage) (id : ℕ) → Tells (stage_ok st id) (PeerRule st id)
stage_is Stage.Leave id = record { true-then = λ e. tt; then-true = λ x. refl }
stage_is (Stage.Info peer) id = tells-and (record { true-then = λ e. (let h = ltb-true peer 16 e in let q : peer ≤ 15 = omega (arith, h) in q); then-true = λ h. lt-ltb peer 16 (let q : peer < 16 = omega (arith, h) in q) }) (tells-not (equal_is peer id))

job_is : (j : Job) (p : Pool) → Long p.roster → Tells (job_ok j p.roster) (JobRules j p)
job_is Job.Idle p l = record { true-then = λ e. tt; then-true = λ x. refl }
job_is (Job.Running r) p l = run_is p r l
job_is (Job.Removing m) p l = tells-and (removing-is (state_of p m.id)) (stage_is m.stage m.id)

-- ---- all

pub rules-as-said : RulesAsSaid
rules-as-said p l = (to, from)
  where
    to : valid_pool p ≡ true → KeepsRules p
    to e =
        let v = valid-facts p l e in
        record { some = v.some; most = v.most; sessions = said p v.ok; job = (job_is p.job p l).true-then v.job }

    from : KeepsRules p → valid_pool p ≡ true
    from k = valid-of p (record { some = k.some; most = k.most; ok = kept p l k.sessions; job = (job_is p.job p l).then-true k.job })

pub one-given : OneGiven
one-given e c l = (to, from)
  where
    to : (out_of e c).answer ≡ Answer.Refused 1 → ¬ (KeepsRules c.pool)
    to q k = clash (one-applies e c q) (one-test e c ∙ ap not ((rules-as-said c.pool l).1 k))

    from : ¬ (KeepsRules c.pool) → (out_of e c).answer ≡ Answer.Refused 1
    from n =
        let f : valid_pool c.pool ≡ false = by_cases (valid_pool c.pool) (λ v. absurd (n ((rules-as-said c.pool l).0 v))) (λ v. v) in
        one-first e c (one-test e c ∙ ap not f)
