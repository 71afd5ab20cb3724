-- The enabling spread among honest nodes, whole: those left become NORMAL on both sides with the source's map, all else stays.
use Rattle.std.specs.Prelude.{None}
use mathlib.Core.Path.{◌≡◌, refl, sym, ap, ◌∙◌}
use mathlib.Core.Bool.{Bool, true, false}
use mathlib.Core.Logic.{◌≢◌}
use mathlib.Core.List.{List}
use Prim.Native.Nat.{ℕ, ◌+◌, ◌*◌, ◌≤◌, ◌<◌}
use native.Mathlib.Omega.{arith}
use native.Mathlib.Decide.{ℕ_discrete}
use Rattle.laws_words.specs.Words.{pick}
use Rattle.laws_words.specs.Tests.{clash}
use Rattle.rules_base.specs.Limits.{answer_limit, version_limit}
use Rattle.rules_base.specs.Sets.{has, without, size, lowest}
use Rattle.rules_base.proofs.Sets.{has-none, has-without-same, has-without-other, still, lowest-in, size-zero}
use Rattle.rules_base.specs.Map.{rows_kept}
use Rattle.rules_pool.specs.declared.State.{State}
use Rattle.rules_pool.specs.declared.Session.{Session}
use Rattle.rules_pool.specs.declared.Roster.{Roster}
use Rattle.rules_pool.specs.Session.{moved}
use Rattle.rules_node.specs.declared.State as node
use Rattle.rules_node.specs.Change as change
use Rattle.rules_pool.specs.Sessions.{session_at, stored}
use Rattle.rules_pool.specs.Changes.{all_unmarked, numbered, more, entered}
use Rattle.laws_client.proofs.Ids.{Long, stored-long, stored_same, stored_other, unmarked-long, unmarked-at}
use Rattle.rules_node.specs.Hand.{committed}
use Rattle.rules_world.specs.Station.{Station}
use Rattle.rules_world.specs.Together.{upd}
use Rattle.theorem_honest.proofs.Ground.{upd_same, upd_other, not_in, out-still, by_left, one_fewer}
use Rattle.theorem_honest.proofs.Stations.{Fine, copy-law}
use Rattle.theorem_honest.proofs.Course.{Cutting, Course, course, steps, steps-three, at, spread_head, head-some, spread, spread_to, three}

-- ---- a session enters NORMAL

pub entered-long : (ro : Roster) (x : ℕ) → Long ro → Long (entered ro x)
unfolding entered
entered-long ro x l = go ro.sync
  where
    s : Session
    s = moved (session_at ro x) State.Normal

    go : (b : Bool) → Long (pick b (stored ro x s) (numbered (stored (all_unmarked ro) x s) (more ro.count) ro.version))
    go true = stored-long ro x s l
    go false = stored-long (all_unmarked ro) x s (unmarked-long ro l)

pub entered-normal : (ro : Roster) (x : ℕ) → Long ro → x < 16 → (session_at (entered ro x) x).state ≡ State.Normal
unfolding entered
entered-normal ro x l h = go ro.sync
  where
    s : Session
    s = moved (session_at ro x) State.Normal

    go : (b : Bool) → (session_at (pick b (stored ro x s) (numbered (stored (all_unmarked ro) x s) (more ro.count) ro.version)) x).state ≡ State.Normal
    go true = ap (λ (q : Session). q.state) (stored_same ro x s l h)
    go false = ap (λ (q : Session). q.state) (stored_same (all_unmarked ro) x s (unmarked-long ro l) h)

pub entered-other : (ro : Roster) (x j : ℕ) → j ≢ x → (session_at (entered ro x) j).state ≡ (session_at ro j).state
unfolding entered
entered-other ro x j ne = go ro.sync
  where
    s : Session
    s = moved (session_at ro x) State.Normal

    go : (b : Bool) → (session_at (pick b (stored ro x s) (numbered (stored (all_unmarked ro) x s) (more ro.count) ro.version)) j).state ≡ (session_at ro j).state
    go true = ap (λ (q : Session). q.state) (stored_other ro x s j ne)
    go false = ap (λ (q : Session). q.state) (stored_other (all_unmarked ro) x s j ne ∙ unmarked-at ro j)

-- ---- the spread

-- what it asks of the source and of each receiver
pub record CanSpread (m c src l : ℕ) (f : ℕ → Station) : Type 0 where
  pub source : Fine c src (f src)
  pub apart : has l src ≡ false
  pub fines : (j : ℕ) → has l j ≡ true → Fine c j (f j)
  pub members : (j : ℕ) → has l j ≡ true → has m j ≡ true

-- NORMAL, with version and member set, and the map zs with the rows outside the set zeroed
pub record Served (m v : ℕ) (zs : List ℕ) (s : Station) : Type 0 where
  pub normal : s.node.state ≡ node.State.Normal
  pub version : s.node.version ≡ v
  pub members : s.node.members ≡ m
  pub map : s.map ≡ rows_kept m zs

pub record Spreads (m v c src l t : ℕ) (ro : Roster) (f : ℕ → Station) (e : Course) : Type 0 where
  pub over : e.next ≡ None
  pub taken : e.taken ≡ t + 3 * size l
  pub entered : (j : ℕ) → has l j ≡ true → (session_at e.roster j).state ≡ State.Normal
  pub served : (j : ℕ) → has l j ≡ true → Served m v (f src).map (e.nodes j)
  pub same-session : (j : ℕ) → has l j ≡ false → (session_at e.roster j).state ≡ (session_at ro j).state
  pub same-node : (j : ℕ) → has l j ≡ false → e.nodes j ≡ f j

serve-law : (m v c x : ℕ) (a b : Station) (src : ℕ) → Fine c src a → Fine c x b → Served m v a.map (spread_to spread m v a b)
unfolding committed change.instructed change.stored_version change.taken_over change.ended_transfer change.transferred change.went_to
serve-law m v c x a b src ha hb = record { normal = refl; version = refl; members = refl; map = copy-law c x true v m a.map b hb ha.map }

module _ (cut : Cutting) (m v c : ℕ) (hv : v ≤ version_limit) (hm : m < 65536) (src : ℕ) where
  abbrev pub Spreading : ℕ → Type 0
  Spreading l = (ro : Roster) (t : ℕ) (f : ℕ → Station) → Long ro → t + 3 * size l ≤ answer_limit → CanSpread m c src l f
      → Spreads m v c src l t ro f (steps cut m v (3 * size l) (course ro (spread_head src l t) t f))

  spread_none : Spreading 0
  unfolding steps
  spread_none ro t f long few can =
      rw size-zero (record {
        over = refl;
        taken = omega (arith, size-zero);
        entered = λ j h. clash h (has-none j);
        served = λ j h. clash h (has-none j);
        same-session = λ j h. refl;
        same-node = λ j h. refl;
      })

  module _ (l : ℕ) (h : lowest l < 16) (ro : Roster) (t : ℕ) (f : ℕ → Station) (can : CanSpread m c src l f) where
    in-l : has l (lowest l) ≡ true
    in-l = lowest-in l h

    apart : src ≢ lowest l
    apart e = clash in-l (ap (λ (k : ℕ). has l k) (sym e) ∙ can.apart)

    s : Station
    s = spread_to spread m v (f src) (f (lowest l))

    can-more : CanSpread m c src (without l (lowest l)) (upd f (lowest l) s)
    can-more = record {
      source = rw (upd_other f (lowest l) src s apart) can.source;
      apart = out-still l (lowest l) src can.apart;
      fines = λ j q. rw (upd_other f (lowest l) j s (still l (lowest l) j q).1) (can.fines j (still l (lowest l) j q).0);
      members = λ j q. can.members j (still l (lowest l) j q).0;
    }

    spread-step : (e : Course) → Long ro → Spreads m v c src (without l (lowest l)) (t + 3) (entered ro (lowest l)) (upd f (lowest l) s) e → Spreads m v c src l t ro f e
    unfolding s
    spread-step e long i = record {
      over = i.over;
      taken = omega (arith, i.taken, one_fewer l h);
      entered = λ j q. enters j q (ℕ_discrete j (lowest l));
      served = λ j q. serves j q (ℕ_discrete j (lowest l));
      same-session = λ j q. i.same-session j (out-still l (lowest l) j q) ∙ entered-other ro (lowest l) j (not_in l (lowest l) j in-l q);
      same-node = λ j q. i.same-node j (out-still l (lowest l) j q) ∙ upd_other f (lowest l) j s (not_in l (lowest l) j in-l q);
    }
      where
        enters : (j : ℕ) → has l j ≡ true → Dec (j ≡ lowest l) → (session_at e.roster j).state ≡ State.Normal
        enters j q (yes p) = ap (λ (k : ℕ). (session_at e.roster k).state) p ∙ (i.same-session (lowest l) (has-without-same l (lowest l)) ∙ entered-normal ro (lowest l) long h)
        enters j q (no p) = i.entered j (has-without-other l (lowest l) j p ∙ q)

        serves : (j : ℕ) → has l j ≡ true → Dec (j ≡ lowest l) → Served m v (f src).map (e.nodes j)
        serves j q (yes p) =
            let w : e.nodes j ≡ s = ap e.nodes p ∙ (i.same-node (lowest l) (has-without-same l (lowest l)) ∙ upd_same f (lowest l) s) in
            rw w (serve-law m v c (lowest l) (f src) (f (lowest l)) src can.source (can.fines (lowest l) in-l))
        serves j q (no p) =
            rw (upd_other f (lowest l) src s apart) at (i.served j (has-without-other l (lowest l) j p ∙ q))

  spread-more : (l : ℕ) → l < 65536 → lowest l < 16 → Spreading (without l (lowest l)) → Spreading l
  unfolding s
  spread-more l b h rec ro t f long few can =
      rw (
        one_fewer l h,
        steps-three cut m v (size (without l (lowest l))) (course ro (spread_head src l t) t f),
        head-some spread m src l t h,
        three cut m v c hv hm spread ro src l t t f (omega (arith, one_fewer l h)) can.source (can.fines (lowest l) (lowest-in l h)) (apart l h ro t f can) (can.members (lowest l) (lowest-in l h)),
      )
      (spread-step l h ro t f can _ long
      (rec (entered ro (lowest l)) (t + 3) (upd f (lowest l) (s l h ro t f can)) (entered-long ro (lowest l) long) (omega (arith, one_fewer l h)) (can-more l h ro t f can)))

  pub spreads : (l : ℕ) → l < 65536 → Spreading l
  spreads = by_left Spreading spread_none spread-more
