-- The phases of case 3 between the choice of the source and its enabling, among honest nodes: each comes to its end and leaves every member's node honest,
-- and they leave the chosen's map as it is to be.
use Rattle.std.specs.Prelude.{Option, Some, None}
use Rattle.rules_pool.specs.declared.Run.{Run}
use mathlib.Core.Path.{◌≡◌, refl, sym, ap, ◌∙◌}
use mathlib.Core.Bool.{true}
use mathlib.Core.Logic.{◌≢◌}
use Prim.Native.Nat.{ℕ, ◌+◌, ◌*◌, ◌≤◌, ◌<◌}
use native.Mathlib.Omega.{arith}
use native.Mathlib.Decide.{ℕ_discrete}
use Rattle.laws_words.specs.Tests.{clash}
use Rattle.rules_base.specs.Limits.{answer_limit, version_limit}
use Rattle.rules_base.specs.Sets.{has, without, size, lowest}
use Rattle.rules_base.proofs.Sets.{has-below, has-without-same, still, without-lt, lowest-in, size-zero}
use Rattle.rules_pool.specs.declared.Phase.{Phase}
use Rattle.rules_pool.specs.declared.Roster.{Roster}
use Rattle.rules_pool.specs.Run.{awaited_in, good}
use Rattle.rules_world.specs.Station.{Station}
use Rattle.rules_world.specs.Together.{upd}
use Rattle.theorem_honest.proofs.Ground.{upd_same, upd_other, out-still, some, by_left, one_fewer}
use Rattle.theorem_honest.proofs.Stations.{Fine, last_to, marks-law, fine-last, fine-done}
use Rattle.laws_client.proofs.RunBound.{counted-one}
use Rattle.theorem_honest.proofs.Course.{Cutting, Course, course, step, steps, steps-add, steps-one, steps-three, at, gather_head, last_head, base_head, Kind, base, gather, spread, from, to, keep, on, ups, head_of, head-some, spread_to, three}
use Rattle.theorem_honest.proofs.Maps.{Round, Fines, Each, each_none, each_more, Gathered, gathered_none, gathered-more, Prepared, prepared}

-- n exchanges on from a course that has taken t answers, the sessions as they were: the run is at `next`, the members' nodes are honest and as `Left` says
pub record Passed (cut : Cutting) (m v c : ℕ) (ro : Roster) (next : ℕ → Option Run) (n t : ℕ) (start : Course) (Left : (ℕ → Station) → Type 0) : Type 0 where
  pub nodes : ℕ → Station
  pub fines : Fines m c nodes
  pub left : Left nodes
  pub reach : steps cut m v n start ≡ course ro (next (t + n)) (t + n) nodes

-- one phase after another
pub both : (cut : Cutting) (m v c : ℕ) (ro : Roster) (one two : ℕ → Option Run) (a b t : ℕ) (start : Course) (One Two : (ℕ → Station) → Type 0) → Passed cut m v c ro one a t start One
    → ((f : ℕ → Station) → Fines m c f → One f → Passed cut m v c ro two b (t + a) (course ro (one (t + a)) (t + a) f) Two) → Passed cut m v c ro two (a + b) t start Two
both cut m v c ro one two a b t start One Two p q =
    let r = q p.nodes p.fines p.left in
    let e : t + a + b ≡ t + (a + b) = omega arith in
    record { nodes = r.nodes; fines = r.fines; left = r.left; reach = steps-add cut m v a b start ∙ (ap (steps cut m v b) p.reach ∙ (r.reach ∙ ap (λ (k : ℕ). course ro (two k) k r.nodes) e)) }

-- no exchange
pub at_once : (cut : Cutting) (m v c : ℕ) (ro : Roster) (next : ℕ → Option Run) (t : ℕ) (f : ℕ → Station) (start : Course) (Left : (ℕ → Station) → Type 0) → Fines m c f → Left f → start ≡ course ro (next t) t f → Passed cut m v c ro next 0 t start Left
unfolding steps
at_once cut m v c ro next t f start Left h l e =
    let z : t + 0 ≡ t = omega arith in
    record { nodes = f; fines = h; left = l; reach = rw z e }

-- one node changed
pub upd-fines : (m c : ℕ) (f : ℕ → Station) (k : ℕ) (s : Station) → Fines m c f → (has m k ≡ true → Fine c k s) → Fines m c (upd f k s)
upd-fines m c f k s h a j q = go (ℕ_discrete j k)
  where
    go : Dec (j ≡ k) → Fine c j (upd f k s j)
    go (yes e) = rw (e, upd_same f k s) (a (ap (has m) (sym e) ∙ q))
    go (no e) = rw (upd_other f k j s e) (h j q)

-- what comes after a spread
abbrev pub next_of : Kind → ℕ → ℕ → ℕ → Option Run
next_of base m src t = last_head m src m t
next_of gather m src t = Some (at (Phase.Enable true) src (without m src) t)
next_of spread m src t = None

to_in : (k : Kind) (m src x : ℕ) → has m src ≡ true → has m x ≡ true → has m (to k src x) ≡ true
to_in base m src x a b = b
to_in gather m src x a b = a
to_in spread m src x a b = b

from_in : (k : Kind) (m src x : ℕ) → has m src ≡ true → has m x ≡ true → has m (from k src x) ≡ true
from_in base m src x a b = a
from_in gather m src x a b = b
from_in spread m src x a b = a

two_ends : (k : Kind) (src x : ℕ) → src ≢ x → from k src x ≢ to k src x
two_ends base src x h = h
two_ends gather src x h = λ e. h (sym e)
two_ends spread src x h = h

-- ---- a spread that enables nobody
module _ (cut : Cutting) (m v c : ℕ) (hv : v ≤ version_limit) (hm : m < 65536) (src : ℕ) (own : has m src ≡ true) (ro : Roster) where
  -- Left l f g: a spread to those in l makes g of f
  module _ (k : Kind) (quiet : (x : ℕ) → ups k ro x ≡ ro) (last : (t : ℕ) → head_of k m src 0 t ≡ next_of k m src t) (Left : ℕ → (ℕ → Station) → (ℕ → Station) → Type 0)
      (left-none : (f : ℕ → Station) → Left 0 f f)
      (left-more : (l : ℕ) (f g : ℕ → Station) → lowest l < 16 → Round m src l → Fines m c f
      → Left (without l (lowest l)) (upd f (to k src (lowest l)) (spread_to k m v (f (from k src (lowest l))) (f (to k src (lowest l))))) g → Left l f g) where
    abbrev pub Looping : ℕ → Type 0
    Looping l = (t : ℕ) (f : ℕ → Station) → t + 3 * size l ≤ answer_limit → Round m src l → Fines m c f
        → Passed cut m v c ro (next_of k m src) (3 * size l) t (course ro (head_of k m src l t) t f) (Left l f)

    loop-none : Looping 0
    loop-none t f few r h =
        let z : 3 * size 0 ≡ 0 = omega (arith, size-zero) in
        rw z (at_once cut m v c ro (next_of k m src) t f (course ro (head_of k m src 0 t) t f) (Left 0 f) h (left-none f) (ap (λ (n : Option Run). course ro n t f) (last t)))

    loop-more : (l : ℕ) → l < 65536 → lowest l < 16 → Looping (without l (lowest l)) → Looping l
    loop-more l b h rec t f few r fs =
        let i = rec (t + 3) g (omega (arith, one_fewer l h)) (record { inside = λ j q. r.inside j (still l (lowest l) j q).0; apart = out-still l (lowest l) src r.apart })
        (upd-fines m c f (to k src (lowest l)) s fs (λ q. fine-done c (to k src (lowest l)) (keep k) (on k) v m (f (from k src (lowest l))).map (f (to k src (lowest l))) to-fine from-fine.map hv hm q)) in
        let e : t + 3 + 3 * size (without l (lowest l)) ≡ t + 3 * size l = omega (arith, one_fewer l h) in
        record {
          nodes = i.nodes;
          fines = i.fines;
          left = left-more l f i.nodes h r fs i.left;
          reach =
              ap (λ (q : ℕ). steps cut m v q (course ro (head_of k m src l t) t f)) e₃
              ∙ (steps-three cut m v (size (without l (lowest l))) (course ro (head_of k m src l t) t f)
              ∙ (ap (steps cut m v (3 * size (without l (lowest l)))) three-on ∙ (i.reach ∙ ap (λ (q : ℕ). course ro (next_of k m src q) q i.nodes) e)));
        }
      where
        x-in : has m (lowest l) ≡ true
        x-in = r.inside (lowest l) (lowest-in l h)

        apart : src ≢ lowest l
        apart e = clash (lowest-in l h) (ap (λ (q : ℕ). has l q) (sym e) ∙ r.apart)

        to-fine : Fine c (to k src (lowest l)) (f (to k src (lowest l)))
        to-fine = fs (to k src (lowest l)) (to_in k m src (lowest l) own x-in)

        from-fine : Fine c (from k src (lowest l)) (f (from k src (lowest l)))
        from-fine = fs (from k src (lowest l)) (from_in k m src (lowest l) own x-in)

        s : Station
        s = spread_to k m v (f (from k src (lowest l))) (f (to k src (lowest l)))

        g : ℕ → Station
        g = upd f (to k src (lowest l)) s

        e₃ : 3 * size l ≡ 3 * (size (without l (lowest l)) + 1)
        e₃ = ap (λ (q : ℕ). 3 * q) (one_fewer l h)

        three-on : step cut m v (step cut m v (step cut m v (course ro (head_of k m src l t) t f))) ≡ course ro (head_of k m src (without l (lowest l)) (t + 3)) (t + 3) g
        three-on =
            rw (
              head-some k m src l t h,
              three cut m v c hv hm k ro src l t t f (omega (arith, one_fewer l h)) from-fine to-fine (two_ends k src (lowest l) apart) (to_in k m src (lowest l) own x-in),
              quiet (lowest l),
            )

    pub loop : (l : ℕ) → l < 65536 → Looping l
    loop = by_left Looping loop-none loop-more

  -- ---- LAST_IO_TO_MAP: one exchange for each
  mark-step : (l t u : ℕ) (f : ℕ → Station) → t < answer_limit → src < 16 → Fine c (lowest l) (f (lowest l))
      → step cut m v (course ro (Some (at Phase.LastIo src l t)) u f) ≡ course ro (last_head m src (without l (lowest l)) (t + 1)) (t + 1) (upd f (lowest l) (last_to src (f (lowest l))))
  unfolding step awaited_in good
  mark-step l t u f h b a = rw (marks-law c (lowest l) src (f (lowest l)) a b, counted-one t h)

  abbrev pub Marking : ℕ → Type 0
  Marking l = (t : ℕ) (f : ℕ → Station) → t + size l ≤ answer_limit → ((j : ℕ) → has l j ≡ true → has m j ≡ true) → Fines m c f
      → Passed cut m v c ro (gather_head m src (without m src)) (size l) t (course ro (last_head m src l t) t f) (Each l (λ j. last_to src (f j)) f)

  mark-none : Marking 0
  mark-none t f few r h = rw size-zero (at_once cut m v c ro (gather_head m src (without m src)) t f (course ro (last_head m src 0 t) t f) (Each 0 (λ j. last_to src (f j)) f) h (each_none (λ j. last_to src (f j)) f) refl)

  mark-more : (l : ℕ) → l < 65536 → lowest l < 16 → Marking (without l (lowest l)) → Marking l
  mark-more l b h rec t f few r fs =
      let i = rec (t + 1) g (omega (arith, one_fewer l h)) (λ j q. r j (still l (lowest l) j q).0) (upd-fines m c f (lowest l) (last_to src (f (lowest l))) fs (λ q. fine-last c (lowest l) src (f (lowest l)) fine-x)) in
      record {
        nodes = i.nodes;
        fines = i.fines;
        left = each_more l (λ j. last_to src (f j)) (λ j. last_to src (g j)) f i.nodes h (λ j q. ap (last_to src) (upd_other f (lowest l) j (last_to src (f (lowest l))) (still l (lowest l) j q).1)) i.left;
        reach =
            ap (λ (q : ℕ). steps cut m v q (course ro (last_head m src l t) t f)) (one_fewer l h)
            ∙ (steps-one cut m v (size (without l (lowest l))) (course ro (last_head m src l t) t f)
            ∙ (ap (steps cut m v (size (without l (lowest l)))) one_on ∙ (i.reach ∙ ap (λ (q : ℕ). course ro (gather_head m src (without m src) q) q i.nodes) e)));
      }
    where
      fine-x : Fine c (lowest l) (f (lowest l))
      fine-x = fs (lowest l) (r (lowest l) (lowest-in l h))

      g : ℕ → Station
      g = upd f (lowest l) (last_to src (f (lowest l)))

      e : t + 1 + size (without l (lowest l)) ≡ t + size l
      e = omega (arith, one_fewer l h)

      one_on : step cut m v (course ro (last_head m src l t) t f) ≡ course ro (last_head m src (without l (lowest l)) (t + 1)) (t + 1) g
      one_on = rw (some l h) (mark-step l t t f (omega (arith, one_fewer l h)) (has-below m src own) fine-x)

  marking : (l : ℕ) → l < 65536 → Marking l
  marking = by_left Marking mark-none mark-more

  -- ---- the three phases: from the choice of the source to its enabling

  -- the spread without enable, among those in l
  abbrev Given : ℕ → (ℕ → Station) → (ℕ → Station) → Type 0
  Given l f g = Each l (λ j. spread_to base m v (f src) (f j)) f g

  given-none : (f : ℕ → Station) → Given 0 f f
  given-none f = each_none (λ j. spread_to base m v (f src) (f j)) f

  given-more : (l : ℕ) (f g : ℕ → Station) → lowest l < 16 → Round m src l → Fines m c f
      → Given (without l (lowest l)) (upd f (lowest l) (spread_to base m v (f src) (f (lowest l)))) g → Given l f g
  given-more l f g h r fs i = each_more l (λ j. spread_to base m v (f src) (f j)) (λ j. spread_to base m v (f₁ src) (f₁ j)) f g h same i
    where
      f₁ : ℕ → Station
      f₁ = upd f (lowest l) (spread_to base m v (f src) (f (lowest l)))

      apart : src ≢ lowest l
      apart e = clash (lowest-in l h) (ap (λ (q : ℕ). has l q) (sym e) ∙ r.apart)

      same : (j : ℕ) → has (without l (lowest l)) j ≡ true → spread_to base m v (f₁ src) (f₁ j) ≡ spread_to base m v (f src) (f j)
      same j q = rw (upd_other f (lowest l) src (spread_to base m v (f src) (f (lowest l))) apart, upd_other f (lowest l) j (spread_to base m v (f src) (f (lowest l))) (still l (lowest l) j q).1)

  pub middle : (t : ℕ) (f : ℕ → Station) → t + (3 * size (without m src) + (size m + 3 * size (without m src))) ≤ answer_limit → Fines m c f
      → Passed cut m v c ro (λ q. Some (at (Phase.Enable true) src (without m src) q)) (3 * size (without m src) + (size m + 3 * size (without m src))) t (course ro (base_head m src (without m src) t) t f) (Prepared m src f)
  middle t f few fs =
      both cut m v c ro (λ q. last_head m src m q) (λ q. Some (at (Phase.Enable true) src (without m src) q)) (3 * size o) (size m + 3 * size o) t (course ro (base_head m src o t) t f) (Given o f) (Prepared m src f)
      (loop base (λ x. refl) (λ q. refl) Given given-none given-more o small t f (omega arith) round fs)
      (λ f₁ fs₁ given. both cut m v c ro (gather_head m src o) (λ q. Some (at (Phase.Enable true) src (without m src) q)) (size m) (3 * size o) (t + 3 * size o) (course ro (last_head m src m (t + 3 * size o)) (t + 3 * size o) f₁)
      (Each m (λ j. last_to src (f₁ j)) f₁) (Prepared m src f)
      (marking m hm (t + 3 * size o) f₁ (omega arith) (λ j q. q) fs₁)
      (λ f₂ fs₂ marked. seen f₁ fs₁ given f₂ marked _ _ _ _ (loop gather (λ x. refl) (λ q. refl) (Gathered m src) (gathered_none m src) (λ l f g h r fs i. gathered-more c m v src l f g h own r fs i) o small (t + 3 * size o + size m) f₂ (omega arith) round fs₂)))
    where
      o : ℕ
      o = without m src

      small : o < 65536
      small = without-lt m src hm

      round : Round m src o
      round = record { inside = λ j q. (still m src j q).0; apart = has-without-same m src }

      seen : (f₁ : ℕ → Station) → Fines m c f₁ → Given o f f₁ → (f₂ : ℕ → Station) → Each m (λ j. last_to src (f₁ j)) f₁ f₂ → (next : ℕ → Option Run) (n t : ℕ) (start : Course)
          → Passed cut m v c ro next n t start (Gathered m src o f₂) → Passed cut m v c ro next n t start (Prepared m src f)
      seen f₁ fs₁ given f₂ marked next n t start p =
          record { nodes = p.nodes; fines = p.fines; left = prepared m v c src own f f₁ f₂ p.nodes fs fs₁ given marked p.left; reach = p.reach }
