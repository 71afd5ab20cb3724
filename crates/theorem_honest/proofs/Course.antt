-- The course of a run without message numbers and refusals: each exchange is what the run's own rules say of the answer that the nodes give. Sim shows
-- that the client's events follow it.
use Rattle.std.specs.Prelude.{Option, Some, None}
use mathlib.Core.Path.{◌≡◌}
use mathlib.Core.Bool.{Bool, true, false}
use mathlib.Core.Logic.{◌≢◌}
use mathlib.Core.List.{List}
use Prim.Native.Nat.{ℕ, zero, suc, ◌+◌, ◌*◌, ◌≤◌, ◌<◌}
use native.Mathlib.Omega.{arith}
use lib.Dec.{eqb}
use Rattle.laws_words.specs.Words.{pick}
use Rattle.rules_base.specs.Limits.{answer_limit, version_limit}
use Rattle.rules_base.specs.Sets.{has, without, lowest}
use Rattle.rules_pool.specs.declared.Step.{Step}
use Rattle.rules_pool.specs.declared.Phase.{Phase}
use Rattle.rules_pool.specs.declared.Run.{Run}
use Rattle.rules_pool.specs.declared.Roster.{Roster}
use Rattle.rules_pool.specs.Changes.{entered}
use Rattle.rules_pool.specs.declared.Move.{Move}
use Rattle.rules_pool.specs.Run.{takes, good, awaited_in}
use Rattle.laws_client.proofs.RunBound.{counted-one}
use Rattle.rules_client.specs.Answers.{entered_by}
use Rattle.rules_node.specs.Cuts.{Cuts}
use Rattle.rules_world.specs.Station.{Station}
use Rattle.rules_pool.specs.Recovery.{disabling}
use Rattle.rules_world.specs.Together.{upd, Delivered, deliver, tell}
use Rattle.theorem_honest.proofs.Ground.{upd_same, upd_other, upd-upd, some}
use Rattle.theorem_honest.proofs.Stations.{Fine, ready_to, took_in, done_to, readies-law, commits-law, fine-ready, at_zero, fine-took, was-taken}
use Rattle.theorem_honest.proofs.Sent.{sent-law}

-- how each map that is sent is cut, by the answers that the run has taken: whole, in parts of 1 to 1,024 bytes
pub record Cutting : Type 0 where
  pub lengths : ℕ → List ℕ
  pub cuts : (t : ℕ) → Cuts (lengths t)

-- the sessions, how the run goes on, the answers taken, the nodes
pub record Course : Type 0 where
  pub roster : Roster
  pub next : Option Run
  pub taken : ℕ
  pub nodes : ℕ → Station

abbrev pub course : Roster → Option Run → ℕ → (ℕ → Station) → Course
course ro n t f = record { roster = ro; next = n; taken = t; nodes = f }

abbrev pub moved_on : Roster → (ℕ → Station) → Move → Course
moved_on ro f m = course (entered_by m.normal ro) m.next m.taken (tell (disabling m.disable) f)

-- one exchange of a run in a pool with these members and this version
abbrev pub step_in : ℕ → ℕ → Run → Roster → Delivered → Course
step_in members version r ro d = moved_on ro d.nodes (takes members version r d.reply)

abbrev pub step_at : Option Run → Cutting → ℕ → ℕ → Course → Course
step_at None cut members version c = c
step_at (Some r) cut members version c = step_in members version r c.roster (deliver (cut.lengths r.taken) (awaited_in members version r) c.nodes)

unfoldable pub step : Cutting → ℕ → ℕ → Course → Course
step cut members version c = step_at c.next cut members version c

unfoldable pub steps : Cutting → ℕ → ℕ → ℕ → Course → Course
steps cut members version zero c = c
steps cut members version (suc n) c = steps cut members version n (step cut members version c)

pub steps-add : (cut : Cutting) (m v a b : ℕ) (c : Course) → steps cut m v (a + b) c ≡ steps cut m v b (steps cut m v a c)
unfolding steps
steps-add cut m v zero b c = let e : 0 + b ≡ b = omega arith in rw e
steps-add cut m v (suc a) b c = let e : suc a + b ≡ suc (a + b) = omega arith in rw e (steps-add cut m v a b (step cut m v c))

pub steps-one : (cut : Cutting) (m v n : ℕ) (c : Course) → steps cut m v (n + 1) c ≡ steps cut m v n (step cut m v c)
unfolding steps
steps-one cut m v n c = let e : n + 1 ≡ suc n = omega arith in rw e

pub steps-three : (cut : Cutting) (m v n : ℕ) (c : Course) → steps cut m v (3 * (n + 1)) c ≡ steps cut m v (3 * n) (step cut m v (step cut m v (step cut m v c)))
unfolding steps
steps-three cut m v n c = let e : 3 * (n + 1) ≡ suc (suc (suc (3 * n))) = omega arith in rw e

-- ---- the run at the head of each phase, t answers taken

abbrev pub at : Phase → ℕ → ℕ → ℕ → Run
at p src l t = record { phase = p; source = src; left = l; taken = t }

abbrev pub spread_head : ℕ → ℕ → ℕ → Option Run
spread_head src l t = pick (eqb l 0) None (Some (at (Phase.Spread Step.Ready) src l t))

abbrev pub gather_head : ℕ → ℕ → ℕ → ℕ → Option Run
gather_head m src l t = pick (eqb l 0) (Some (at (Phase.Enable true) src (without m src) t)) (Some (at (Phase.Gather Step.Ready) src l t))

abbrev pub last_head : ℕ → ℕ → ℕ → ℕ → Option Run
last_head m src l t = pick (eqb l 0) (gather_head m src (without m src) t) (Some (at Phase.LastIo src l t))

abbrev pub base_head : ℕ → ℕ → ℕ → ℕ → Option Run
base_head m src l t = pick (eqb l 0) (last_head m src m t) (Some (at (Phase.Base Step.Ready) src l t))

abbrev pub versions_head : ℕ → ℕ → ℕ → ℕ → ℕ → Option Run
versions_head m best src l t = pick (eqb l 0) (base_head m src (without m src) t) (Some (at (Phase.Versions best) src l t))

-- ---- the three spreads

pub data Kind : Type 0 where
  base gather spread : Kind

abbrev pub phase_of : Kind → Step → Phase
phase_of base s = Phase.Base s
phase_of gather s = Phase.Gather s
phase_of spread s = Phase.Spread s

-- who sends the map, and who gets it: src the run's source, x the one in hand
abbrev pub from : Kind → ℕ → ℕ → ℕ
from base src x = src
from gather src x = x
from spread src x = src

abbrev pub to : Kind → ℕ → ℕ → ℕ
to base src x = x
to gather src x = src
to spread src x = x

abbrev pub keep : Kind → Bool
keep base = false
keep gather = true
keep spread = false

abbrev pub on : Kind → Bool
on base = false
on gather = false
on spread = true

-- the sessions after a spread to x
abbrev pub ups : Kind → Roster → ℕ → Roster
ups base ro x = ro
ups gather ro x = ro
ups spread ro x = entered ro x

abbrev pub head_of : Kind → ℕ → ℕ → ℕ → ℕ → Option Run
head_of base m src l t = base_head m src l t
head_of gather m src l t = gather_head m src l t
head_of spread m src l t = spread_head src l t

pub head-some : (k : Kind) (m src l t : ℕ) → lowest l < 16 → head_of k m src l t ≡ Some (at (phase_of k Step.Ready) src l t)
head-some base m src l t h = rw (some l h)
head-some gather m src l t h = rw (some l h)
head-some spread m src l t h = rw (some l h)

-- what a spread from the node a makes of the node b
abbrev pub spread_to : Kind → ℕ → ℕ → Station → Station → Station
spread_to k m v a b = done_to (on k) v m (took_in a.map (ready_to (keep k) b))

-- ---- one equation for each message

module _ (cut : Cutting) (m v c : ℕ) where
  ready : (k : Kind) (ro : Roster) (src l t u : ℕ) (f : ℕ → Station) → t < answer_limit → Fine c (to k src (lowest l)) (f (to k src (lowest l)))
      → step cut m v (course ro (Some (at (phase_of k Step.Ready) src l t)) u f)
      ≡ course ro (Some (at (phase_of k Step.Send) src l (t + 1))) (t + 1) (upd f (to k src (lowest l)) (ready_to (keep k) (f (to k src (lowest l)))))
  unfolding step awaited_in good
  ready base ro src l t u f h a = rw (readies-law c (lowest l) false (f (lowest l)) a, counted-one t h)
  ready gather ro src l t u f h a = rw (readies-law c src true (f src) a, counted-one t h)
  ready spread ro src l t u f h a = rw (readies-law c (lowest l) false (f (lowest l)) a, counted-one t h)

  send : (k : Kind) (ro : Roster) (src l t u : ℕ) (f : ℕ → Station) → t < answer_limit
      → from k src (lowest l) ≢ to k src (lowest l)
      → Fine c (from k src (lowest l)) (f (from k src (lowest l))) → Fine c (to k src (lowest l)) (f (to k src (lowest l)))
      → (f (to k src (lowest l))).node.transfer ≡ Some 0
      → step cut m v (course ro (Some (at (phase_of k Step.Send) src l t)) u f)
      ≡ course ro (Some (at (phase_of k Step.Done) src l (t + 1))) (t + 1) (upd f (to k src (lowest l)) (took_in (f (from k src (lowest l))).map (f (to k src (lowest l)))))
  unfolding step awaited_in good
  send base ro src l t u f h ne a b i = rw (sent-law c src (lowest l) (cut.lengths t) f (cut.cuts t) ne a b i, counted-one t h)
  send gather ro src l t u f h ne a b i = rw (sent-law c (lowest l) src (cut.lengths t) f (cut.cuts t) ne a b i, counted-one t h)
  send spread ro src l t u f h ne a b i = rw (sent-law c src (lowest l) (cut.lengths t) f (cut.cuts t) ne a b i, counted-one t h)

  module _ (hv : v ≤ version_limit) (hm : m < 65536) where
    finish : (k : Kind) (ro : Roster) (src l t u : ℕ) (f : ℕ → Station) → t < answer_limit → Fine c (to k src (lowest l)) (f (to k src (lowest l)))
        → Rattle.rules_node.specs.States.is_whole (f (to k src (lowest l))).node.transfer ≡ true → has m (to k src (lowest l)) ≡ true
        → step cut m v (course ro (Some (at (phase_of k Step.Done) src l t)) u f)
        ≡ course (ups k ro (lowest l)) (head_of k m src (without l (lowest l)) (t + 1)) (t + 1) (upd f (to k src (lowest l)) (done_to (on k) v m (f (to k src (lowest l)))))
    unfolding step awaited_in good
    finish base ro src l t u f h a i own = rw (commits-law c (lowest l) false v m (f (lowest l)) a i hv hm own, counted-one t h)
    finish gather ro src l t u f h a i own = rw (commits-law c src false v m (f src) a i hv hm own, counted-one t h)
    finish spread ro src l t u f h a i own = rw (commits-law c (lowest l) true v m (f (lowest l)) a i hv hm own, counted-one t h)

    -- three exchanges serve the one in hand
    pub three : (k : Kind) (ro : Roster) (src l t u : ℕ) (f : ℕ → Station) → t + 2 < answer_limit
        → Fine c (from k src (lowest l)) (f (from k src (lowest l))) → Fine c (to k src (lowest l)) (f (to k src (lowest l)))
        → from k src (lowest l) ≢ to k src (lowest l) → has m (to k src (lowest l)) ≡ true
        → step cut m v (step cut m v (step cut m v (course ro (Some (at (phase_of k Step.Ready) src l t)) u f)))
        ≡ course (ups k ro (lowest l)) (head_of k m src (without l (lowest l)) (t + 3)) (t + 3)
        (upd f (to k src (lowest l)) (spread_to k m v (f (from k src (lowest l))) (f (to k src (lowest l)))))
    three k ro src l t u f h hf ht ne own =
        rw (ready k ro src l t u f (omega arith) ht)
        (rw (send k ro src l (t + 1) (t + 1) f1 (omega arith) ne (rw (upd_other f y x a ne) hf) (rw (upd_same f y a) (fine-ready c y (keep k) (f y) ht)) (rw (upd_same f y a) (at_zero (keep k) (f y))))
        (rw (finish k ro src l (t + 1 + 1) (t + 1 + 1) f2 (omega arith) (rw (upd_same f1 y b, upd_same f y a, upd_other f y x a ne) (fine-took c y (keep k) (f x).map (f y) ht hf.map)) (rw (upd_same f1 y b) (was-taken (f1 x).map (f1 y))) own)
        (rw (upd_same f1 y b, upd-upd f1 y b, upd-upd f y a, upd_same f y a, upd_other f y x a ne, e)))
        )
      where
        x : ℕ
        x = from k src (lowest l)

        y : ℕ
        y = to k src (lowest l)

        a : Station
        a = ready_to (keep k) (f y)

        f1 : ℕ → Station
        f1 = upd f y a

        b : Station
        b = took_in (f1 x).map (f1 y)

        f2 : ℕ → Station
        f2 = upd f1 y b

        e : t + 1 + 1 + 1 ≡ t + 3
        e = omega arith
