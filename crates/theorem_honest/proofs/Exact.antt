-- The count is exact: an exchange takes one answer, and none once the run is over. So a run that has taken n answers after n exchanges was not over before.
use Rattle.std.specs.Prelude.{Option, Some, None}
use mathlib.Core.Path.{◌≡◌, refl, sym, ap, ◌∙◌}
use mathlib.Core.Bool.{Bool, true, false}
use Prim.Native.Nat.{ℕ, zero, suc, ◌+◌, ◌-◌, ◌≤◌, ◌<◌}
use native.Mathlib.Omega.{arith}
use lib.Dec.{eqb, ltb}
use Rattle.laws_words.specs.Tests.{either}
use Rattle.laws_words.specs.Words.{pick}
use Rattle.rules_base.specs.Sets.{without}
use Rattle.rules_pool.specs.declared.Step.{Step}
use Rattle.rules_pool.specs.declared.Phase.{Phase}
use Rattle.rules_pool.specs.declared.Run.{Run}
use Rattle.rules_pool.specs.declared.Roster.{Roster}
use Rattle.rules_pool.specs.declared.Reply.{Reply}
use Rattle.rules_pool.specs.declared.Move.{Move}
use Rattle.rules_pool.specs.Run.{hand, rest, counted, to_spread, to_gather, to_last, to_base, to_versions, went_on, failed_at, failed_answer, version_brought, good_at, good, takes, awaited_in}
use Rattle.laws_client.proofs.RunBound.{counted-most, Carries}
use Rattle.rules_world.specs.Station.{Station}
use Rattle.rules_world.specs.Together.{deliver}
use Rattle.theorem_honest.proofs.Course.{Cutting, Course, course, step, steps, steps-add}

-- ---- one answer raises the count by at most one

module _ (m : ℕ) (r : Run) where
  spread-carries : (l : ℕ) → Carries (counted r.taken) (to_spread r l)
  spread-carries l = either (Carries _) (eqb l 0) _ _ tt refl

  gather-carries : (s l : ℕ) → Carries (counted r.taken) (to_gather m r s l)
  gather-carries s l = either (Carries _) (eqb l 0) _ _ refl refl

  last-carries : (s l : ℕ) → Carries (counted r.taken) (to_last m r s l)
  last-carries s l = either (Carries _) (eqb l 0) _ _ (gather-carries s (without m s)) refl

  base-carries : (s l : ℕ) → Carries (counted r.taken) (to_base m r s l)
  base-carries s l = either (Carries _) (eqb l 0) _ _ (last-carries s m) refl

  versions-carries : (b s l : ℕ) → Carries (counted r.taken) (to_versions m r b s l)
  versions-carries b s l = either (Carries _) (eqb l 0) _ _ (base-carries s (without m s)) refl

-- an answer was taken: the count is raised, and a run that goes on carries it
record Raised (r : Run) (o : Move) : Type 0 where
  count : o.taken ≡ counted r.taken
  carries : Carries (counted r.taken) o.next

failed-raised : (p : Phase) (m : ℕ) (r : Run) → Raised r (failed_at p r)
failed-raised (Phase.Versions best) m r = record { count = refl; carries = tt }
failed-raised (Phase.Base s) m r = record { count = refl; carries = tt }
failed-raised Phase.LastIo m r = record { count = refl; carries = tt }
failed-raised (Phase.Gather s) m r = record { count = refl; carries = tt }
failed-raised (Phase.Enable every) m r = record { count = refl; carries = tt }
failed-raised (Phase.Spread s) m r = record { count = refl; carries = spread-carries m r (rest r) }

brought-raised : (m v best : ℕ) (r : Run) (b : Option ℕ) → Raised r (version_brought m v best r b)
unfolding failed_answer
brought-raised m v best r None = failed-raised r.phase m r
brought-raised m v best r (Some x) = at (ltb v x)
  where
    at : (b : Bool) → Raised r (pick b (failed_answer r) (went_on r (to_versions m r (pick (ltb best x) x best) (pick (ltb best x) (hand r) r.source) (rest r))))
    at true = failed-raised r.phase m r
    at false = record { count = refl; carries = versions-carries m r (pick (ltb best x) x best) (pick (ltb best x) (hand r) r.source) (rest r) }

good-raised : (p : Phase) (m v : ℕ) (r : Run) (b : Option ℕ) → Raised r (good_at p m v r b)
good-raised (Phase.Versions best) m v r b = brought-raised m v best r b
good-raised (Phase.Base Step.Ready) m v r b = record { count = refl; carries = refl }
good-raised (Phase.Base Step.Send) m v r b = record { count = refl; carries = refl }
good-raised (Phase.Base Step.Done) m v r b = record { count = refl; carries = base-carries m r r.source (rest r) }
good-raised Phase.LastIo m v r b = record { count = refl; carries = last-carries m r r.source (rest r) }
good-raised (Phase.Gather Step.Ready) m v r b = record { count = refl; carries = refl }
good-raised (Phase.Gather Step.Send) m v r b = record { count = refl; carries = refl }
good-raised (Phase.Gather Step.Done) m v r b = record { count = refl; carries = gather-carries m r r.source (rest r) }
good-raised (Phase.Enable every) m v r b = record { count = refl; carries = spread-carries m r r.left }
good-raised (Phase.Spread Step.Ready) m v r b = record { count = refl; carries = refl }
good-raised (Phase.Spread Step.Send) m v r b = record { count = refl; carries = refl }
good-raised (Phase.Spread Step.Done) m v r b = record { count = refl; carries = spread-carries m r (rest r) }

takes-raised : (m v : ℕ) (r : Run) (a : Reply) → Raised r (takes m v r a)
unfolding failed_answer good
takes-raised m v r Reply.Failed = failed-raised r.phase m r
takes-raised m v r (Reply.Good b) = good-raised r.phase m v r b

-- ---- a course

-- a run that goes on carries the course's count
abbrev pub Tied : Course → Type 0
Tied c = Carries c.taken c.next

record Counts (c e : Course) : Type 0 where
  most : e.taken ≤ c.taken + 1
  tied : Tied e

carry : (n : Option Run) (a b : ℕ) → a ≡ b → Carries a n → Carries b n
carry n a b e h = rw e at h

step-at : (cut : Cutting) (m v : ℕ) (ro : Roster) (n : Option Run) (t : ℕ) (f : ℕ → Station) → Carries t n → Counts (course ro n t f) (step cut m v (course ro n t f))
unfolding step
step-at cut m v ro None t f h = record { most = omega arith; tied = tt }
step-at cut m v ro (Some r) t f h =
    let a = takes-raised m v r (deliver (cut.lengths r.taken) (awaited_in m v r) f).reply in
    record {
      most = omega (arith, a.count, counted-most r.taken, h);
      tied = carry (takes m v r (deliver (cut.lengths r.taken) (awaited_in m v r) f).reply).next (counted r.taken) _ (sym a.count) a.carries;
    }

counts : (cut : Cutting) (m v n : ℕ) (c : Course) → Tied c → (steps cut m v n c).taken ≤ c.taken + n
unfolding steps
counts cut m v zero c h = omega arith
counts cut m v (suc n) c h =
    let s = step-at cut m v c.roster c.next c.taken c.nodes h in
    omega (arith, s.most, counts cut m v n (step cut m v c) s.tied)

stays_at : (cut : Cutting) (m v : ℕ) (ro : Roster) (n : Option Run) (t : ℕ) (f : ℕ → Station) → n ≡ None → step cut m v (course ro n t f) ≡ course ro n t f
unfolding step
stays_at cut m v ro n t f e = rw e

stays : (cut : Cutting) (m v n : ℕ) (c : Course) → c.next ≡ None → steps cut m v n c ≡ c
unfolding steps
stays cut m v zero c e = refl
stays cut m v (suc n) c e = ap (steps cut m v n) (stays_at cut m v c.roster c.next c.taken c.nodes e) ∙ stays cut m v n c e

-- n answers taken after n exchanges: before that the run is not over
pub not-before : (cut : Cutting) (m v i n : ℕ) (c : Course) → Tied c → c.taken ≡ 0 → (steps cut m v n c).taken ≡ n → i < n → (steps cut m v i c).next ≡ None → ⊥
not-before cut m v i n c tied zero-taken all l e =
    let k : n ≡ i + (n - i) = omega arith in
    let s : steps cut m v n c ≡ steps cut m v i c = ap (λ (q : ℕ). steps cut m v q c) k ∙ (steps-add cut m v i (n - i) c ∙ stays cut m v (n - i) (steps cut m v i c) e) in
    let q : (steps cut m v n c).taken ≡ (steps cut m v i c).taken = ap (λ (d : Course). d.taken) s in
    omega (arith, counts cut m v i c tied)
