-- Which run begins in each case, and that none begins in a sync pool or above the version limit.
use Rattle.std.specs.Prelude.{Option, Some, None}
use mathlib.Core.Path.{◌≡◌, refl}
use mathlib.Core.Bool.{Bool, true, false, not, ◌||◌}
use mathlib.Core.Logic.{◌≢◌}
use Prim.Native.Nat.{ℕ, ◌≤◌, ◌<◌}
use native.Mathlib.Omega.{arith}
use lib.Dec.{eqb, ltb}
use borrow.Author.Tests.{eq-eqb, ne_eqb, eqb-true, eqb-false, ltb-false}
use Rattle.laws_words.specs.Words.{pick}
use Rattle.laws_words.specs.Tests.{by_cases, clash}
use Rattle.rules_base.specs.Limits.{version_limit}
use Rattle.rules_base.specs.Sets.{has, without, lowest}
use Rattle.rules_base.proofs.Sets.{lowest-le, empty-set}
use Rattle.rules_pool.specs.declared.Session.{Session}
use Rattle.rules_pool.specs.declared.Step.{Step}
use Rattle.rules_pool.specs.declared.Phase.{Phase}
use Rattle.rules_pool.specs.declared.Run.{Run}
use Rattle.rules_pool.specs.declared.Roster.{Roster}
use Rattle.rules_pool.specs.Session.{is_reconnecting}
use Rattle.rules_pool.specs.declared.Kind.{Kind}
use Rattle.rules_pool.specs.Sessions.{session_at, misplaced, unsynced, odd, ids_of}
use Rattle.rules_pool.specs.Cases.{case_of, begun}
use Rattle.laws_client.proofs.Ids.{none-ids}
use Rattle.laws_client.proofs.Rosters.{Ok}
use Rattle.theorem_honest.proofs.Course.{at}

-- ---- which run begins

over-on {ℓ} : {A : Type ℓ} (r : Run) → None ≡ Some r → A
over-on r e = absurd (let z : ◌≡◌ {A = ℕ} 0 1 = cc in let y : ⊥ = omega arith in y)

pub some-lowest : (l : ℕ) → l < 65536 → l ≢ 0 → lowest l < 16
some-lowest l h n =
    by_cases (eqb (lowest l) 16) (λ e. absurd (n (empty-set l h (eqb-true (lowest l) 16 e))))
    (λ e. let q : lowest l ≢ 16 = eqb-false (lowest l) 16 e in omega (arith, lowest-le l, q))

-- what picks gives a run: the test does not hold, and the rest gives it
not-over : (b : Bool) (n : Option Run) (r : Run) → pick b None n ≡ Some r → (b ≡ false) × (n ≡ Some r)
not-over true n r e = over-on r e
not-over false n r e = (refl, e)

does-begin : (b : Bool) (n : Option Run) (r : Run) → pick b n None ≡ Some r → (b ≡ true) × (n ≡ Some r)
does-begin true n r e = (refl, e)
does-begin false n r e = over-on r e

module _ (ro : Roster) (r : Run) (e : begun ro ≡ Some r) where
  begun-parts : (ltb version_limit ro.version ≡ false)
      × (case_of (ids_of Kind.Normals ro) (ids_of Kind.Candidates ro) (ids_of Kind.Marked ro) (ids_of (Kind.Strays ro.members) ro) ro.members ≡ Some r)
  unfolding begun
  begun-parts = not-over _ _ r e

  -- no run begins above the limit
  pub begun-limit : ro.version ≤ version_limit
  begun-limit = ltb-false version_limit ro.version begun-parts.0

  pub begun-1 : ids_of Kind.Normals ro ≢ 0 → (ids_of Kind.Candidates ro ≢ 0) × (at (Phase.Spread Step.Ready) (lowest (ids_of Kind.Normals ro)) (ids_of Kind.Candidates ro) 0 ≡ r)
  unfolding case_of
  begun-1 n =
      let q = rw (ne_eqb (ids_of Kind.Normals ro) 0 n) at begun-parts.1 in
      let z = not-over (eqb (ids_of Kind.Candidates ro) 0) _ r q in
      (eqb-false (ids_of Kind.Candidates ro) 0 z.0, (let y = z.1 in cc))

  pub begun-2 : ids_of Kind.Normals ro ≡ 0 → ids_of Kind.Marked ro ≢ 0
      → (has (ids_of Kind.Candidates ro) (lowest (ids_of Kind.Marked ro)) ≡ true)
      × (at (Phase.Enable false) (lowest (ids_of Kind.Marked ro)) (without (ids_of Kind.Candidates ro) (lowest (ids_of Kind.Marked ro))) 0 ≡ r)
  unfolding case_of
  begun-2 n k =
      let q = rw (eq-eqb (ids_of Kind.Normals ro) 0 n, ne_eqb (ids_of Kind.Marked ro) 0 k) at begun-parts.1 in
      let z = does-begin (has (ids_of Kind.Candidates ro) (lowest (ids_of Kind.Marked ro))) _ r q in
      (z.0, (let y = z.1 in cc))

  pub begun-3 : ids_of Kind.Normals ro ≡ 0 → ids_of Kind.Marked ro ≡ 0
      → ((eqb ro.members 0 || not (eqb (ids_of (Kind.Strays ro.members) ro) 0)) ≡ false) × (at (Phase.Versions 0) (lowest ro.members) ro.members 0 ≡ r)
  unfolding case_of
  begun-3 n k =
      let q = rw (eq-eqb (ids_of Kind.Normals ro) 0 n, eq-eqb (ids_of Kind.Marked ro) 0 k) at begun-parts.1 in
      let z = not-over (eqb ro.members 0 || not (eqb (ids_of (Kind.Strays ro.members) ro) 0)) _ r q in
      (z.0, (let y = z.1 in cc))

-- ---- none begins in a sync pool

pub or-none : (a b : Bool) → (a || b) ≡ false → (a ≡ false) × (b ≡ false)
or-none true b e = clash refl e
or-none false b e = (refl, e)

-- what the state rules say of a record in a sync pool: no mark, not RECONNECTING
synced-plain : (sync : Bool) (members j : ℕ) (s : Session) → sync ≡ true → odd sync members j s ≡ false → (s.mark ≡ false) × (is_reconnecting s.state ≡ false)
synced-plain true members j s e h =
    let a = (or-none (misplaced s) _ h).1 in
    let b = (or-none (unsynced s) _ a).0 in
    let c = or-none s.mark _ b in
    (c.0, (or-none s.maintenance _ c.1).1)
synced-plain false members j s e h = clash e refl

pub begun-plain : (ro : Roster) (r : Run) → begun ro ≡ Some r → Ok ro → ro.sync ≡ false
begun-plain ro r e v = by_cases ro.sync (λ s. absurd (never s)) (λ s. s)
  where
    never : ro.sync ≡ true → ⊥
    never s = by_cases (eqb (ids_of Kind.Normals ro) 0)
        (λ n. clash (eq-eqb ro.members 0 nobody) (or-none (eqb ro.members 0) _ (begun-3 ro r e (eqb-true _ _ n) unmarked).0).0)
        (λ n. (begun-1 ro r e (eqb-false _ _ n)).0 none)
      where
        none : ids_of Kind.Candidates ro ≡ 0
        none = none-ids Kind.Candidates ro v.long (λ j h. rw (synced-plain ro.sync ro.members j (session_at ro j) s (v.even j h)).1 refl)

        unmarked : ids_of Kind.Marked ro ≡ 0
        unmarked = none-ids Kind.Marked ro v.long (λ j h. (synced-plain ro.sync ro.members j (session_at ro j) s (v.even j h)).0)

        nobody : ro.members ≡ 0
        nobody = eqb-true ro.members 0 (let q = v.none in rw s at q)
