-- How a run begins: by recovery tried, and so as one of the three cases; and how many answers it can take then.
use Rattle.std.specs.Prelude.{Option, Some, None}
use mathlib.Core.Path.{◌≡◌, refl, ap, ◌∙◌, subst}
use mathlib.Core.Bool.{Bool, true, false, not, ◌||◌}
use mathlib.Core.List.{List}
use Prim.Native.Nat.{ℕ, ◌+◌, ◌*◌, ◌-◌, ◌<◌}
use native.Mathlib.Omega.{arith}
use lib.Dec.{eqb, ltb}
use Rattle.theorem_client.proofs.Shape.{taken}
use Rattle.laws_words.specs.Words.{pick}
use Rattle.laws_words.specs.Tests.{clash}
use Rattle.rules_base.specs.Limits.{version_limit}
use Rattle.rules_base.specs.Sets.{has, without, size, lowest}
use Rattle.rules_base.proofs.Sets.{lowest-in, size-some}
use Rattle.rules_pool.specs.declared.Roster.{Roster}
use Rattle.rules_pool.specs.declared.Step.{Step}
use Rattle.rules_pool.specs.declared.Phase.{Phase}
use Rattle.rules_pool.specs.declared.Run.{Run}
use Rattle.rules_pool.specs.declared.Job.{Job}
use Rattle.rules_pool.specs.declared.Pool.{Pool}
use Rattle.rules_pool.specs.declared.Reply.{Reply}
use Rattle.rules_pool.specs.declared.Kind.{Kind}
use Rattle.rules_pool.specs.Sessions.{ids_of}
use Rattle.rules_pool.specs.Jobs.{is_running}
use Rattle.rules_pool.specs.Still.{possible}
use Rattle.laws_client.proofs.RunBound.{some_left}
use Rattle.rules_pool.specs.Cases.{start, case1, case2, case3, case_of, begun}
use Rattle.rules_pool.specs.Recovery.{posted, beginning, tried}
use Rattle.rules_pool.specs.Exit.{refused}
use Rattle.laws_client.proofs.Rosters.{Ok}
use Rattle.rules_client.specs.Answers.{answer_refusal, answered, answer}
use Rattle.rules_client.specs.Client.{sound_for, answer_turn}
use Rattle.rules_client.specs.Events.{Event, next}
use Rattle.theorem_bounds.specs.Demand3.{most}
use Rattle.theorem_client.proofs.Tries.{answered-calm}

-- the run that a trial began
pub trial-run : (p : Pool) (r : Run) → is_running p.job ≡ false → (tried p).pool.job ≡ Job.Running r → begun p.roster ≡ Some r
unfolding tried posted
trial-run p r i = at (begun p.roster) refl
  where
    at : (n : Option Run) → begun p.roster ≡ n → (beginning n p).pool.job ≡ Job.Running r → begun p.roster ≡ Some r
    at None e z = clash (ap is_running z) i
    at (Some s) e z = let q : s ≡ r = cc z in e ∙ ap (λ (x : Run). Some x) q

-- ---- an answer begins no run

job-calm : (j : Job) (p : Pool) (a : Reply) → p.job ≡ j → is_running j ≡ false → is_running (answered j p a).pool.job ≡ false
job-calm Job.Idle p a e i = ap is_running e
job-calm (Job.Running r) p a e i = clash refl i
job-calm (Job.Removing m) p a e i = answered-calm m p a

pub answer-calm : (c : Pool) (xs : List ℕ) (number : ℕ) (a : Reply) → is_running c.job ≡ false → is_running (next (Event.answer xs number a) c).job ≡ false
unfolding answer_turn answer
answer-calm c xs number a i = at (eqb (answer_refusal c (sound_for c xs) number) 0)
  where
    at : (b : Bool) → is_running (pick b (answered c.job c a) (refused c (answer_refusal c (sound_for c xs) number))).pool.job ≡ false
    at true = job-calm c.job c a refl i
    at false = i

-- ---- how many answers a run can take that begins

abbrev is_on : Option Run → Bool
is_on None = false
is_on (Some r) = true

abbrev pub Most : ℕ → ℕ → Run → Type 0
Most members n r = (possible members r ≡ n) × (r.taken ≡ 0)

starts : (members n : ℕ) (p : Phase) (source left : ℕ) (r : Run) → start p source left ≡ Some r → possible members (record { phase = p; source = source; left = left; taken = 0 }) ≡ n → Most members n r
starts members n p source left r e m =
    let q : record { phase = p; source = source; left = left; taken = 0 } ≡ r = cc e in
    subst (Most members n) q (m, refl)

most-1 : (members normals candidates : ℕ) (r : Run) (b : Bool) → pick b None (start (Phase.Spread Step.Ready) (lowest normals) candidates) ≡ Some r → Most members (3 * size candidates) r
unfolding possible
most-1 members normals candidates r true e = clash (ap is_on e) refl
most-1 members normals candidates r false e = starts members (3 * size candidates) (Phase.Spread Step.Ready) (lowest normals) candidates r e (omega arith)

most-2 : (members x candidates : ℕ) (r : Run) (b : Bool) → pick b (start (Phase.Enable false) x (without candidates x)) None ≡ Some r → Most members (3 * size (without candidates x) + 1) r
unfolding possible
most-2 members x candidates r true e = starts members (3 * size (without candidates x) + 1) (Phase.Enable false) x (without candidates x) r e (omega arith)
most-2 members x candidates r false e = clash (ap is_on e) refl

most-3 : (members : ℕ) (r : Run) (a b : Bool) → members < 65536 → eqb members 0 ≡ a → pick (a || b) None (start (Phase.Versions 0) (lowest members) members) ≡ Some r → Most members (11 * size members - 8) r
unfolding possible
most-3 members r true b h z e = clash (ap is_on e) refl
most-3 members r false true h z e = clash (ap is_on e) refl
most-3 members r false false h z e =
    let k : has members (lowest members) ≡ true = lowest-in members (some_left members h z) in
    starts members (11 * size members - 8) (Phase.Versions 0) (lowest members) members r e (omega (arith, size-some members (lowest members) k))

most-of : (ro : Roster) (r : Run) → Ok ro → (n m : Bool)
    → pick (not n) (case1 (ids_of Kind.Normals ro) (ids_of Kind.Candidates ro)) (pick (not m) (case2 (ids_of Kind.Marked ro) (ids_of Kind.Candidates ro)) (case3 ro.members (ids_of (Kind.Strays ro.members) ro))) ≡ Some r
    → Most ro.members (pick (not n) (3 * size (ids_of Kind.Candidates ro)) (pick (not m) (3 * size (without (ids_of Kind.Candidates ro) (lowest (ids_of Kind.Marked ro))) + 1) (11 * size ro.members - 8))) r
most-of ro r v false m e = most-1 ro.members (ids_of Kind.Normals ro) (ids_of Kind.Candidates ro) r (eqb (ids_of Kind.Candidates ro) 0) e
most-of ro r v true false e =
    most-2 ro.members (lowest (ids_of Kind.Marked ro)) (ids_of Kind.Candidates ro) r (has (ids_of Kind.Candidates ro) (lowest (ids_of Kind.Marked ro))) e
most-of ro r v true true e =
    most-3 ro.members r (eqb ro.members 0) (not (eqb (ids_of (Kind.Strays ro.members) ro) 0)) v.small refl e

pub begun-most : (ro : Roster) (r : Run) → Ok ro → begun ro ≡ Some r → Most ro.members (most ro) r
unfolding begun case_of
begun-most ro r v = at (ltb version_limit ro.version)
  where
    at : (b : Bool)
        → pick b None (pick (not (eqb (ids_of Kind.Normals ro) 0)) (case1 (ids_of Kind.Normals ro) (ids_of Kind.Candidates ro)) (pick (not (eqb (ids_of Kind.Marked ro) 0)) (case2 (ids_of Kind.Marked ro) (ids_of Kind.Candidates ro)) (case3 ro.members (ids_of (Kind.Strays ro.members) ro)))) ≡ Some r
        → Most ro.members (most ro) r
    at true e = clash (ap is_on e) refl
    at false e = most-of ro r v (eqb (ids_of Kind.Normals ro) 0) (eqb (ids_of Kind.Marked ro) 0) e
