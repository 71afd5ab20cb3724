-- Demand 3: the bound and the count among honest nodes, of every run that begins at a reached client.
use mathlib.Core.Path.{◌≡◌, refl, sym, ap, ◌∙◌, subst}
use mathlib.Core.Bool.{true}
use mathlib.Core.Logic.{◌≢◌}
use Prim.Native.Nat.{ℕ, ◌+◌, ◌*◌, ◌-◌}
use lib.Dec.{eqb}
use borrow.Author.Tests.{eq-eqb, ne_eqb, eqb-true, eqb-false, not-false}
use Rattle.laws_words.specs.Tests.{by_cases}
use Rattle.rules_base.specs.Sets.{has, without, size, lowest}
use Rattle.rules_base.proofs.Sets.{has-below, still}
use Rattle.rules_base.specs.Map.{sound}
use Rattle.rules_pool.specs.declared.Roster.{Roster}
use Rattle.rules_pool.specs.declared.Run.{Run}
use Rattle.rules_pool.specs.declared.Pool.{Pool}
use Rattle.rules_pool.specs.declared.Sent.{Sent}
use Rattle.rules_pool.specs.declared.Answer.{Answer}
use Rattle.rules_pool.specs.declared.Kind.{Kind}
use Rattle.rules_pool.specs.Sessions.{ids_of}
use Rattle.rules_pool.specs.Recovery.{tried}
use Rattle.rules_pool.specs.Exit.{number_of}
use Rattle.laws_client.proofs.Ids.{ids-has}
use Rattle.laws_client.proofs.Pools.{Valid, valid-of}
use Rattle.laws_client.proofs.Runs.{strays-none}
use Rattle.rules_client.specs.Events.{Event, next}
use Rattle.theorem_client.specs.Demand2.{Reached}
use Rattle.theorem_client.proofs.Demand2.{reached-valid, sound-stays}
use Rattle.theorem_bounds.specs.Demand3.{most, tried_in, New}
use Rattle.theorem_bounds.specs.Demand3 as bounds
use Rattle.theorem_bounds.proofs.Demand3.{afresh, at_most}
use Rattle.rules_world.specs.Together.{World}
use Rattle.theorem_honest.specs.Demand.{Case1, Case2, Case3}
use Rattle.theorem_honest.specs.Demand as honest
use Rattle.theorem_honest.proofs.Began.{begun-2, begun-3, or-none}
use Rattle.theorem_honest.proofs.Ends.{tried-number}
use Rattle.theorem_honest.proofs.Cases.{case-1, case-2, case-3}
use Rattle.theorem_recovery.specs.Demand.{Leaves, normals, candidates, authoritative, HonestNodes, Exact, Demand3}

-- ---- the run that the world begins with

-- the pool in which recovery was tried keeps the state rules
tried-valid : (c : Pool) (e : Event) → Reached c → Valid (tried_in e c)
tried-valid c e q =
    let v = reached-valid c q in
    record { some = v.some; most = v.most; ok = (reached-valid (next e c) (Reached.then c e q)).ok; job = refl }

begins : (c : Pool) (e : Event) (r : Run) → bounds.Begins c e r → (w : World) → Leaves e c w → honest.Begins (tried_in e c) w
begins c e r b w l =
    record {
      array = (tried-valid c e b.reached).ok.long;
      rules = valid-of (tried_in e c) (tried-valid c e b.reached);
      run = r;
      began = n.case;
      pool = l.pool ∙ n.pool;
      awaited = ap (λ (s : Sent). s.awaited) same ∙ n.awaited;
      number = ap (λ (s : Sent). s.number) same ∙ (n.number ∙ (numbers ∙ tried-number (tried_in e c) r n.case));
      map = ap (λ (k : ℕ). sound k w.map) (sym chunks) ∙ l.map;
    }
  where
    n : New c e r
    n = afresh c e r b

    same : w.sent ≡ n.sent
    same = let z : Answer.Done w.sent ≡ Answer.Done n.sent = sym l.sent ∙ n.accepted in cc z

    numbers : number_of n.sent.awaited (next e c).number ≡ number_of (tried (tried_in e c)).awaited (tried (tried_in e c)).pool.number
    numbers = rw n.awaited (ap (λ (p : Pool). number_of (tried (tried_in e c)).awaited p.number) n.pool)

    chunks : w.pool.chunks ≡ c.chunks
    chunks = ap (λ (p : Pool). p.chunks) l.pool ∙ (sound-stays c b.reached e).0

-- ---- the three cases

-- the most of each
most-1 : (ro : Roster) → ids_of Kind.Normals ro ≢ 0 → most ro ≡ 3 * size (ids_of Kind.Candidates ro)
most-1 ro n = rw (ne_eqb (ids_of Kind.Normals ro) 0 n) refl

most-2 : (ro : Roster) → ids_of Kind.Normals ro ≡ 0 → ids_of Kind.Marked ro ≢ 0 → most ro ≡ 3 * size (without (ids_of Kind.Candidates ro) (lowest (ids_of Kind.Marked ro))) + 1
most-2 ro n m = rw (eq-eqb (ids_of Kind.Normals ro) 0 n, ne_eqb (ids_of Kind.Marked ro) 0 m) refl

most-3 : (ro : Roster) → ids_of Kind.Normals ro ≡ 0 → ids_of Kind.Marked ro ≡ 0 → most ro ≡ 11 * size ro.members - 8
most-3 ro n m = rw (eq-eqb (ids_of Kind.Normals ro) 0 n, eq-eqb (ids_of Kind.Marked ro) 0 m) refl

module _ (p : Pool) (w : World) (b : honest.Begins p w) (h : HonestNodes p w) where
  exact-1 : normals p ≢ 0 → Exact p (most p.roster) w
  exact-1 n =
      let e = most-1 p.roster n in
      Exact.case1 n e
      (subst (λ (k : ℕ). Case1 p (lowest (normals p)) (candidates p) k w) (sym e)
      (case-1 p w n (record { begins = b; cuts = h.cuts; giver = h.source n; takers = h.others })))

  exact-2 : normals p ≡ 0 → authoritative p ≢ 0 → Exact p (most p.roster) w
  exact-2 n m =
      let e = most-2 p.roster n m in
      Exact.case2 n m e
      (subst (λ (k : ℕ). Case2 p (lowest (authoritative p)) (without (candidates p) (lowest (authoritative p))) k w) (sym e)
      (case-2 p w n m (record {
        begins = b;
        cuts = h.cuts;
        giver = h.others _ (begun-2 p.roster b.run b.began n m).0;
        takers = λ j q. h.others j (still (candidates p) (lowest (authoritative p)) j q).0;
      })))

  -- every member is a candidate
  candidate-all : normals p ≡ 0 → authoritative p ≡ 0 → (j : ℕ) → has p.roster.members j ≡ true → has (candidates p) j ≡ true
  candidate-all n m j q =
      let none = (or-none (eqb p.roster.members 0) _ (begun-3 p.roster b.run b.began n m).0).1 in
      let strays = eqb-true (ids_of (Kind.Strays p.roster.members) p.roster) 0 (not-false _ none) in
      ids-has Kind.Candidates p.roster b.array j (has-below p.roster.members j q) ∙ strays-none p.roster p.roster.members b.array strays j q

  exact-3 : normals p ≡ 0 → authoritative p ≡ 0 → Exact p (most p.roster) w
  exact-3 n m =
      let e = most-3 p.roster n m in
      Exact.case3 n m e
      (subst (λ (k : ℕ). Case3 p k w) (sym e)
      (case-3 p w n m (record { begins = b; cuts = h.cuts; able = λ j q. h.others j (candidate-all n m j q); versions = h.versions n m })))

  exact : Exact p (most p.roster) w
  exact =
      by_cases (eqb (normals p) 0)
      (λ n. by_cases (eqb (authoritative p) 0)
      (λ m. exact-3 (eqb-true _ _ n) (eqb-true _ _ m))
      (λ m. exact-2 (eqb-true _ _ n) (eqb-false _ _ m)))
      (λ n. exact-1 (eqb-false _ _ n))

-- ---- the demand

pub demand-3 : Demand3
demand-3 c e r b = record { at_most = at_most c e r b; exact = λ w l h. exact (tried_in e c) w (begins c e r b w l) h }
