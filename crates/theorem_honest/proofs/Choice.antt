-- Case 3: the versions asked in turn, lowest id first. The chosen has the highest version, and of those that have it the lowest id.
use Rattle.std.specs.Prelude.{Some}
use mathlib.Core.Path.{◌≡◌, refl, sym, ap, ◌∙◌}
use mathlib.Core.Bool.{true, false}
use Prim.Native.Nat.{ℕ, ◌+◌, ◌≤◌, ◌<◌}
use native.Mathlib.Omega.{arith}
use native.Mathlib.Decide.{ℕ_discrete}
use lib.Dec.{ltb}
use borrow.Author.Tests.{ltb-true, ltb-false, le-ltb}
use Rattle.laws_words.specs.Words.{pick}
use Rattle.laws_words.specs.Tests.{by_cases, clash}
use Rattle.rules_base.specs.Limits.{answer_limit}
use Rattle.rules_base.specs.Sets.{has, without, size, lowest}
use Rattle.rules_base.proofs.Sets.{has-none, has-without-same, has-without-other, still, lowest-in, lowest-first, size-zero}
use Rattle.rules_pool.specs.declared.Phase.{Phase}
use Rattle.rules_pool.specs.declared.Roster.{Roster}
use Rattle.rules_pool.specs.Run.{awaited_in, good}
use Rattle.rules_world.specs.Station.{Station}
use Rattle.theorem_honest.specs.Demand.{Chosen}
use Rattle.theorem_honest.proofs.Ground.{upd-back, some, by_left, one_fewer}
use Rattle.theorem_honest.proofs.Stations.{asked-law}
use Rattle.laws_client.proofs.RunBound.{counted-one}
use Rattle.theorem_honest.proofs.Course.{Cutting, Course, course, step, steps, steps-one, at, base_head, versions_head}
use Rattle.theorem_honest.proofs.Maps.{Fines}

-- l are still to be asked; of the others src has the version best
record Inv (m : ℕ) (ver : ℕ → ℕ) (l best src : ℕ) : Type 0 where
  member : has m src ≡ true
  inside : (j : ℕ) → has l j ≡ true → has m j ≡ true
  most : (j : ℕ) → has m j ≡ true → has l j ≡ false → ver j ≤ best
  tie : (j : ℕ) → has m j ≡ true → has l j ≡ false → ver j ≡ best → src ≤ j
  order : (j k : ℕ) → has m j ≡ true → has l j ≡ false → has l k ≡ true → j < k
  asked : has l src ≡ false → ver src ≡ best
  unasked : has l src ≡ true → (best ≡ 0) × (lowest l ≡ src)

module _ (m : ℕ) (ver : ℕ → ℕ) (l best src : ℕ) (h : lowest l < 16) (c : Inv m ver l best src) where
  x-in : has l (lowest l) ≡ true
  x-in = lowest-in l h

  -- asked now: the lowest, or one asked before
  split : (j : ℕ) → has (without l (lowest l)) j ≡ false → (P : Type 0) → (j ≡ lowest l → P) → (has l j ≡ false → P) → P
  split j n P a b = go (ℕ_discrete j (lowest l))
    where
      go : Dec (j ≡ lowest l) → P
      go (yes q) = a q
      go (no q) = b (sym (has-without-other l (lowest l) j q) ∙ n)

  later : (k : ℕ) → has (without l (lowest l)) k ≡ true → lowest l < k
  later k q =
      let s = still l (lowest l) k q in
      let n = s.1 in
      let f : ¬ (k < lowest l) = λ b. clash s.0 (lowest-first l k b) in
      omega arith

  src-low : src ≤ lowest l
  src-low = by_cases (has l src)
      (λ q. let u = (c.unasked q).1 in omega arith)
      (λ q. let w = c.order src (lowest l) c.member q x-in in omega arith)

  inv-higher : best < ver (lowest l) → Inv m ver (without l (lowest l)) (ver (lowest l)) (lowest l)
  inv-higher b = record {
    member = c.inside (lowest l) x-in;
    inside = λ j q. c.inside j (still l (lowest l) j q).0;
    most = λ j a n. split j n (ver j ≤ ver (lowest l)) (λ q. let e : ver j ≡ ver (lowest l) = ap ver q in omega arith) (λ n'. let w = c.most j a n' in omega arith);
    tie = λ j a n q. split j n (lowest l ≤ j) (λ q'. omega arith) (λ n'. let w = c.most j a n' in omega arith);
    order = λ j k a n q. split j n (j < k) (λ q'. let w = later k q in omega arith) (λ n'. c.order j k a n' (still l (lowest l) k q).0);
    asked = λ n. refl;
    unasked = λ q. clash q (has-without-same l (lowest l));
  }

  inv-lower : ver (lowest l) ≤ best → Inv m ver (without l (lowest l)) best src
  inv-lower b = record {
    member = c.member;
    inside = λ j q. c.inside j (still l (lowest l) j q).0;
    most = λ j a n. split j n (ver j ≤ best) (λ q. let e : ver j ≡ ver (lowest l) = ap ver q in omega arith) (c.most j a);
    tie = λ j a n q. split j n (src ≤ j) (λ q'. let w = src-low in omega arith) (λ n'. c.tie j a n' q);
    order = λ j k a n q. split j n (j < k) (λ q'. let w = later k q in omega arith) (λ n'. c.order j k a n' (still l (lowest l) k q).0);
    asked = λ n. split src n (ver src ≡ best) (λ q. let w = (c.unasked (ap (has l) q ∙ x-in)).0 in let e : ver src ≡ ver (lowest l) = ap ver q in omega arith) c.asked;
    unasked = λ q. let w = (c.unasked (still l (lowest l) src q).0).1 in absurd ((still l (lowest l) src q).1 (sym w));
  }

  inv : Inv m ver (without l (lowest l)) (pick (ltb best (ver (lowest l))) (ver (lowest l)) best) (pick (ltb best (ver (lowest l))) (lowest l) src)
  inv = by_cases (ltb best (ver (lowest l)))
      (λ e. rw e (inv-higher (ltb-true best (ver (lowest l)) e)))
      (λ e. rw e (inv-lower (ltb-false best (ver (lowest l)) e)))

-- ---- the phase

-- n exchanges on, all are asked: src is chosen, the nodes are as they were
pub record Chose (cut : Cutting) (m v : ℕ) (ro : Roster) (f : ℕ → Station) (n t : ℕ) (start : Course) : Type 0 where
  pub source : ℕ
  pub chosen : Chosen m (λ j. (f j).node.version) source
  pub reach : steps cut m v n start ≡ course ro (base_head m source (without m source) (t + n)) (t + n) f

module _ (cut : Cutting) (m v c : ℕ) (ro : Roster) (f : ℕ → Station) (fs : Fines m c f) (few : (j : ℕ) → has m j ≡ true → (f j).node.version ≤ v) where
  ver : ℕ → ℕ
  ver j = (f j).node.version

  ask-step : (best src l t u : ℕ) → t < answer_limit → has m (lowest l) ≡ true
      → step cut m v (course ro (Some (at (Phase.Versions best) src l t)) u f)
      ≡ course ro (versions_head m (pick (ltb best (f (lowest l)).node.version) (f (lowest l)).node.version best) (pick (ltb best (f (lowest l)).node.version) (lowest l) src) (without l (lowest l)) (t + 1)) (t + 1) f
  unfolding step awaited_in good
  ask-step best src l t u h q = rw (asked-law c (lowest l) (f (lowest l)) (fs (lowest l) q), le-ltb v (f (lowest l)).node.version (few (lowest l) q), upd-back f (lowest l), counted-one t h)

  abbrev Asking : ℕ → Type 0
  Asking l = (best src t : ℕ) → t + size l ≤ answer_limit → Inv m (λ j. (f j).node.version) l best src → Chose cut m v ro f (size l) t (course ro (versions_head m best src l t) t f)

  ask-none : Asking 0
  unfolding steps
  ask-none best src t h i =
      let z : t + 0 ≡ t = omega arith in
      let e : (f src).node.version ≡ best = i.asked (has-none src) in
      rw size-zero (record {
        source = src;
        chosen = record {
          member = i.member;
          most = λ j q. let a = i.most j q (has-none j) in omega arith;
          tie = λ j q p. i.tie j q (has-none j) (p ∙ e);
        };
        reach = rw z refl;
      })

  ask-more : (l : ℕ) → l < 65536 → lowest l < 16 → Asking (without l (lowest l)) → Asking l
  ask-more l b h rec best src t few-t i =
      let x = lowest l in
      let q = rec (pick (ltb best (f x).node.version) (f x).node.version best) (pick (ltb best (f x).node.version) x src) (t + 1) (omega (arith, one_fewer l h)) (inv m (λ j. (f j).node.version) l best src h i) in
      let e : t + 1 + size (without l x) ≡ t + size l = omega (arith, one_fewer l h) in
      record {
        source = q.source;
        chosen = q.chosen;
        reach =
            ap (λ (k : ℕ). steps cut m v k (course ro (versions_head m best src l t) t f)) (one_fewer l h)
            ∙ (steps-one cut m v (size (without l x)) (course ro (versions_head m best src l t) t f)
            ∙ (ap (steps cut m v (size (without l x))) one_on ∙ (q.reach ∙ ap (λ (k : ℕ). course ro (base_head m q.source (without m q.source) k) k f) e)));
      }
    where
      one_on : step cut m v (course ro (versions_head m best src l t) t f)
          ≡ course ro (versions_head m (pick (ltb best (f (lowest l)).node.version) (f (lowest l)).node.version best) (pick (ltb best (f (lowest l)).node.version) (lowest l) src) (without l (lowest l)) (t + 1)) (t + 1) f
      one_on = rw (some l h) (ask-step best src l t t (omega (arith, one_fewer l h)) (i.inside (lowest l) (lowest-in l h)))

  asking : (l : ℕ) → l < 65536 → Asking l
  asking = by_left Asking ask-none ask-more

  -- all members asked, from the beginning
  pub choosing : (t : ℕ) → m < 65536 → lowest m < 16 → t + size m ≤ answer_limit → Chose cut m v ro f (size m) t (course ro (versions_head m 0 (lowest m) m t) t f)
  choosing t hm h few-t = asking m hm 0 (lowest m) t few-t (record {
    member = lowest-in m h;
    inside = λ j q. q;
    most = λ j a n. clash a n;
    tie = λ j a n q. clash a n;
    order = λ j k a n q. clash a n;
    asked = λ n. clash (lowest-in m h) n;
    unasked = λ q. (refl, refl);
  })
