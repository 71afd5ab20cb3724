-- Laws that recovery tried keeps the state rules: a run that begins is one.
use Rattle.std.specs.Prelude.{Option, Some, None}
use mathlib.Core.Path.{◌≡◌, refl, sym, ◌∙◌}
use mathlib.Core.Bool.{Bool, true, false, not, ◌&&◌, ◌||◌}
use Prim.Native.Nat.{ℕ, ◌+◌, ◌-◌, ◌≤◌, ◌<◌}
use native.Mathlib.Decide.{dec_lt}
use native.Mathlib.Omega.{arith}
use lib.Dec.{eqb, ltb}
use borrow.Author.Tests.{eqb-true, eqb-false, eq-eqb, le-leb, lt-ltb, ltb-false}
use Rattle.laws_words.specs.Words.{pick}
use Rattle.laws_words.specs.Tests.{clash}
use Rattle.rules_base.specs.Limits.{chunk_limit, answer_limit, version_limit, version_top}
use Rattle.rules_base.specs.Sets.{has, without, lowest}
use Rattle.rules_base.proofs.Sets.{has-below, has-without-same, still, without-lt, size-le, lowest-le, lowest-in, empty-set}
use Rattle.rules_pool.specs.declared.Step.{Step}
use Rattle.rules_pool.specs.declared.Phase.{Phase}
use Rattle.rules_pool.specs.declared.Run.{Run}
use Rattle.rules_pool.specs.declared.Job.{Job}
use Rattle.rules_pool.specs.declared.Roster.{Roster}
use Rattle.rules_pool.specs.declared.Pool.{Pool}
use Rattle.rules_pool.specs.Session.{candidate}
use Rattle.rules_pool.specs.declared.Kind.{Kind}
use Rattle.rules_pool.specs.Sessions.{session_at, ids_of}
use Rattle.rules_pool.specs.Still.{possible}
use Rattle.rules_pool.specs.Cases.{start, case1, case2, case3, case_of, begun}
use Rattle.rules_pool.specs.Recovery.{with_roster, run_ended, beginning, posted, tried}
use Rattle.rules_pool.specs.StateRules.{all_asked, one_asked, source_ok, hand_ok, run_ok, job_ok}
use Rattle.rules_pool.specs.Jobs.{is_idle}
use Rattle.laws_client.proofs.Ids.{Long, ids-has, ids-lt, none-ids}
use Rattle.laws_client.proofs.Rosters.{Ok}
use Rattle.laws_client.proofs.Pools.{Valid}
use Rattle.laws_client.proofs.Joins.{raised_keeps}

-- ---- a pool with other sessions and no job in hand

idle-job : (j : Job) (ro : Roster) → is_idle j ≡ true → job_ok j ro ≡ true
idle-job Job.Idle ro e = refl
idle-job (Job.Running r) ro e = clash refl (sym e)
idle-job (Job.Removing m) ro e = clash refl (sym e)

pub idle-valid : (p : Pool) (ro : Roster) → Valid p → is_idle p.job ≡ true → Ok ro → Valid (with_roster p ro)
idle-valid p ro v idle ok = record { some = v.some; most = v.most; ok = ok; job = idle-job p.job ro idle }

-- a run that ends, where the version has room to rise
pub ended-keeps : (p : Pool) → 1 ≤ p.chunks → p.chunks ≤ chunk_limit → Ok p.roster → p.roster.version + p.roster.count < version_top → Valid (run_ended p)
ended-keeps p some most ok room = record { some = some; most = most; ok = raised_keeps p.roster ok room; job = refl }

-- ---- recovery tried

-- the rules of a run from their parts
pub run_of : (ro : Roster) (r : Run) → ro.sync ≡ false → ro.version ≤ version_limit → r.left < 65536 → hand_ok r.phase r.left ≡ true
    → ids_of (Kind.Strays r.left) ro ≡ 0 → source_ok r.phase ro r.source r.left ≡ true → r.taken + possible ro.members r ≤ answer_limit → run_ok ro r ≡ true
unfolding run_ok
run_of ro r sync low small hand strays source most = simp (sync, le-leb _ _ low, lt-ltb _ _ small, hand, eq-eqb _ _ strays, source, le-leb _ _ most)

-- a set of candidates has no strays
pub no-strays : (ro : Roster) (set : ℕ) → Long ro → ((j : ℕ) → j < 16 → has set j ≡ true → candidate (session_at ro j) ≡ true) → ids_of (Kind.Strays set) ro ≡ 0
no-strays ro set l f = none-ids (Kind.Strays set) ro l (λ j h. at j h (has set j) refl)
  where
    at : (j : ℕ) → j < 16 → (b : Bool) → has set j ≡ b → (b && not (candidate (session_at ro j))) ≡ false
    at j h true e = rw (f j h e) refl
    at j h false e = refl

some-lowest : (s : ℕ) → s < 65536 → eqb s 0 ≡ false → lowest s < 16
some-lowest s small e = elim (dec_lt (lowest s) 16) [
  | yes l ↦ l
  | no g ↦ absurd (eqb-false s 0 e (empty-set s small (omega (arith, lowest-le s))))
]

-- what begins, if anything does, keeps the rules of a run
abbrev pub Begins : Roster → Option Run → Type 0
Begins ro None = Unit {0}
Begins ro (Some r) = run_ok ro r ≡ true

candidates : (ro : Roster) → Long ro → (j : ℕ) → j < 16 → has (ids_of Kind.Candidates ro) j ≡ true → candidate (session_at ro j) ≡ true
candidates ro l j h e = sym (ids-has Kind.Candidates ro l j h) ∙ e

first-case : (ro : Roster) → Long ro → ro.sync ≡ false → ro.version ≤ version_limit → eqb (ids_of Kind.Normals ro) 0 ≡ false → eqb (ids_of Kind.Candidates ro) 0 ≡ false
    → run_ok ro (record { phase = Phase.Spread Step.Ready; source = lowest (ids_of Kind.Normals ro); left = ids_of Kind.Candidates ro; taken = 0 }) ≡ true
unfolding possible
first-case ro l sync low normals some =
    let b = some-lowest (ids_of Kind.Normals ro) (ids-lt Kind.Normals ro l) normals in
    run_of ro (record { phase = Phase.Spread Step.Ready; source = lowest (ids_of Kind.Normals ro); left = ids_of Kind.Candidates ro; taken = 0 }) sync low (ids-lt Kind.Candidates ro l)
    (rw some refl)
    (no-strays ro (ids_of Kind.Candidates ro) l (candidates ro l))
    (sym (ids-has Kind.Normals ro l (lowest (ids_of Kind.Normals ro)) b) ∙ lowest-in (ids_of Kind.Normals ro) b)
    (omega (arith, size-le (ids_of Kind.Candidates ro)))

second-case : (ro : Roster) (x : ℕ) → Long ro → ro.sync ≡ false → ro.version ≤ version_limit → eqb (ids_of Kind.Normals ro) 0 ≡ true → has (ids_of Kind.Candidates ro) x ≡ true
    → run_ok ro (record { phase = Phase.Enable false; source = x; left = without (ids_of Kind.Candidates ro) x; taken = 0 }) ≡ true
unfolding possible one_asked
second-case ro x l sync low normals is =
    run_of ro (record { phase = Phase.Enable false; source = x; left = without (ids_of Kind.Candidates ro) x; taken = 0 }) sync low (without-lt (ids_of Kind.Candidates ro) x (ids-lt Kind.Candidates ro l))
    refl
    (no-strays ro (without (ids_of Kind.Candidates ro) x) l (λ j h e. candidates ro l j h (still (ids_of Kind.Candidates ro) x j e).0))
    (simp (normals, candidates ro l x (has-below (ids_of Kind.Candidates ro) x is) is, has-without-same (ids_of Kind.Candidates ro) x))
    (omega (arith, size-le (without (ids_of Kind.Candidates ro) x)))

third-case : (ro : Roster) → Ok ro → ro.sync ≡ false → ro.version ≤ version_limit → eqb (ids_of Kind.Normals ro) 0 ≡ true → eqb ro.members 0 ≡ false → eqb (ids_of (Kind.Strays ro.members) ro) 0 ≡ true
    → run_ok ro (record { phase = Phase.Versions 0; source = lowest ro.members; left = ro.members; taken = 0 }) ≡ true
unfolding possible all_asked
third-case ro v sync low normals some strays =
    run_of ro (record { phase = Phase.Versions 0; source = lowest ro.members; left = ro.members; taken = 0 }) sync low v.small
    (rw some refl)
    (eqb-true _ _ strays)
    (simp (normals, strays, lowest-in ro.members (some-lowest ro.members v.small some)))
    (omega (arith, size-le ro.members))

begins-one : (ro : Roster) → Ok ro → ro.sync ≡ false → ro.version ≤ version_limit → eqb (ids_of Kind.Normals ro) 0 ≡ false → (b : Bool) → eqb (ids_of Kind.Candidates ro) 0 ≡ b → Begins ro (pick b None (start (Phase.Spread Step.Ready) (lowest (ids_of Kind.Normals ro)) (ids_of Kind.Candidates ro)))
begins-one ro v sync low n true e = tt
begins-one ro v sync low n false e = first-case ro v.long sync low n e

begins-two : (ro : Roster) (x : ℕ) → Ok ro → ro.sync ≡ false → ro.version ≤ version_limit → eqb (ids_of Kind.Normals ro) 0 ≡ true → (b : Bool) → has (ids_of Kind.Candidates ro) x ≡ b → Begins ro (pick b (start (Phase.Enable false) x (without (ids_of Kind.Candidates ro) x)) None)
begins-two ro x v sync low n true e = second-case ro x v.long sync low n e
begins-two ro x v sync low n false e = tt

begins-three : (ro : Roster) → Ok ro → ro.sync ≡ false → ro.version ≤ version_limit → eqb (ids_of Kind.Normals ro) 0 ≡ true → (a b : Bool) → eqb ro.members 0 ≡ a → eqb (ids_of (Kind.Strays ro.members) ro) 0 ≡ b
    → Begins ro (pick (a || not b) None (start (Phase.Versions 0) (lowest ro.members) ro.members))
begins-three ro v sync low n true b e f = tt
begins-three ro v sync low n false true e f = third-case ro v sync low n e f
begins-three ro v sync low n false false e f = tt

begins-case : (ro : Roster) → Ok ro → ro.sync ≡ false → ro.version ≤ version_limit → (n m : Bool) → eqb (ids_of Kind.Normals ro) 0 ≡ n → eqb (ids_of Kind.Marked ro) 0 ≡ m
    → Begins ro (pick (not n) (case1 (ids_of Kind.Normals ro) (ids_of Kind.Candidates ro)) (pick (not m) (case2 (ids_of Kind.Marked ro) (ids_of Kind.Candidates ro)) (case3 ro.members (ids_of (Kind.Strays ro.members) ro))))
begins-case ro v sync low false m e f = begins-one ro v sync low e (eqb (ids_of Kind.Candidates ro) 0) refl
begins-case ro v sync low true false e f = begins-two ro (lowest (ids_of Kind.Marked ro)) v sync low e (has (ids_of Kind.Candidates ro) (lowest (ids_of Kind.Marked ro))) refl
begins-case ro v sync low true true e f = begins-three ro v sync low e (eqb ro.members 0) (eqb (ids_of (Kind.Strays ro.members) ro) 0) refl refl

begins-low : (ro : Roster) → Ok ro → ro.sync ≡ false → (b : Bool) → ltb version_limit ro.version ≡ b
    → Begins ro (pick b None (case_of (ids_of Kind.Normals ro) (ids_of Kind.Candidates ro) (ids_of Kind.Marked ro) (ids_of (Kind.Strays ro.members) ro) ro.members))
unfolding case_of
begins-low ro v sync true e = tt
begins-low ro v sync false e = begins-case ro v sync (ltb-false version_limit ro.version e) (eqb (ids_of Kind.Normals ro) 0) (eqb (ids_of Kind.Marked ro) 0) refl refl

pub begins : (ro : Roster) → Ok ro → ro.sync ≡ false → Begins ro (begun ro)
unfolding begun
begins ro v sync = begins-low ro v sync (ltb version_limit ro.version) refl

begun-keeps : (p : Pool) (n : Option Run) → Valid p → Begins p.roster n → Valid (beginning n p).pool
unfolding posted
begun-keeps p None v b = v
begun-keeps p (Some r) v b = record { some = v.some; most = v.most; ok = v.ok; job = b }

-- Recovery tried keeps the state rules.
pub tried-keeps : (p : Pool) → Valid p → p.roster.sync ≡ false → Valid (tried p).pool
unfolding tried
tried-keeps p v sync = begun-keeps p (begun p.roster) v (begins p.roster v.ok sync)

-- It changes no session.
tried-at : (p : Pool) (n : Option Run) → (beginning n p).pool.roster ≡ p.roster
unfolding posted
tried-at p None = refl
tried-at p (Some r) = refl

pub tried-roster : (p : Pool) → (tried p).pool.roster ≡ p.roster
unfolding tried
tried-roster p = tried-at p (begun p.roster)
