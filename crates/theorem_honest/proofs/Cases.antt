-- The three cases: which run begins in each, and what it comes to among honest nodes.
use Rattle.std.specs.Prelude.{Option, Some}
use mathlib.Core.Path.{◌≡◌, refl, sym, ap, ◌∙◌}
use mathlib.Core.Bool.{Bool, true, false, not, ◌&&◌, ◌||◌}
use mathlib.Core.Logic.{◌≢◌}
use mathlib.Core.List.{List}
use Prim.Native.Nat.{ℕ, ◌+◌, ◌*◌, ◌-◌, ◌≤◌, ◌<◌, min}
use native.Mathlib.Omega.{arith}
use lib.Dec.{eqb}
use borrow.Author.Tests.{eqb-true, eqb-false}
use Rattle.laws_words.specs.Tests.{by_cases, clash}
use Rattle.rules_base.specs.Limits.{chunk_limit, version_limit}
use Rattle.rules_base.specs.Sets.{has, without, size, lowest}
use Rattle.rules_base.proofs.Sets.{has-below, has-without-same, still, without-lt, lowest-in, size-le, size-without, size-some}
use Rattle.rules_base.specs.Chunk.{dirty}
use Rattle.rules_base.proofs.Chunk.{dirty-lt}
use Rattle.rules_base.specs.Map.{rows_kept}
use Rattle.rules_base.proofs.Chunks.{dirty-kept}
use Rattle.rules_base.proofs.Sound.{Sound, sound-fact, sound-test, sound-kept, same-chunks}
use Rattle.rules_pool.specs.declared.Step.{Step}
use Rattle.rules_pool.specs.declared.Phase.{Phase}
use Rattle.rules_pool.specs.declared.Run.{Run}
use Rattle.rules_pool.specs.declared.Roster.{Roster}
use Rattle.rules_pool.specs.declared.Pool.{Pool}
use Rattle.rules_pool.specs.Session.{candidate}
use Rattle.rules_pool.specs.declared.Kind.{Kind}
use Rattle.rules_pool.specs.Sessions.{session_at, ids_of}
use Rattle.laws_client.proofs.Ids.{ids-has, ids-lt}
use Rattle.laws_client.proofs.Rosters.{Ok}
use Rattle.laws_client.proofs.Pools as pools
use Rattle.laws_client.proofs.Runs.{candidate-member, candidate-normal}
use Rattle.rules_world.specs.Station.{Station}
use Rattle.rules_world.specs.Together.{World, upd, exchanges}
use Rattle.theorem_honest.specs.Demand.{Up, Recovered, any, is_dirty, keeps, set_at, last_io_marks, Recorded, CaseOne, CaseTwo, CaseThree, OneMap, ChosenUnmarked}
use Rattle.rules_pool.specs.Changes.{entered}
use Rattle.theorem_honest.proofs.Began.{some-lowest, begun-limit, begun-1, begun-2, begun-3, begun-plain, or-none}
use Rattle.theorem_honest.proofs.Ground.{some, not_in, out-still, upd_same, upd_other}
use Rattle.theorem_honest.proofs.Stations.{Fine, fine, enabled_to, fine-enabled}
use Rattle.theorem_honest.proofs.Course.{Cutting, Course, course, steps, steps-add, at, spread_head, base_head, versions_head, head-some, spread}
use Rattle.theorem_honest.proofs.Spread.{CanSpread, Spreads, spreads}
use Rattle.theorem_honest.proofs.Enable.{Enabled, enable-spread}
use Rattle.theorem_honest.proofs.Sim.{Sim}
use Rattle.theorem_honest.proofs.Exact.{Tied}
use Rattle.theorem_honest.proofs.LastIos.{any_none}
use Rattle.theorem_honest.proofs.Maps.{Fines, Prepared}
use Rattle.theorem_honest.proofs.Phases.{Passed, middle}
use Rattle.theorem_honest.proofs.Choice.{Chose, choosing}
use Rattle.theorem_honest.proofs.Ends.{cutting, sim-begins, nodes-is, recovered, up_of}

-- ---- who is who

module _ (ro : Roster) (v : Ok ro) (sync : ro.sync ≡ false) where
  pub is-candidate : (j : ℕ) → has (ids_of Kind.Candidates ro) j ≡ true → candidate (session_at ro j) ≡ true
  is-candidate j h = sym (ids-has Kind.Candidates ro v.long j (has-below (ids_of Kind.Candidates ro) j h)) ∙ h

  pub a-member : (j : ℕ) → has (ids_of Kind.Candidates ro) j ≡ true → has ro.members j ≡ true
  a-member j h = candidate-member ro v sync j (has-below (ids_of Kind.Candidates ro) j h) (is-candidate j h)

  -- a NORMAL session is no candidate
  pub not-candidate : (j : ℕ) → has (ids_of Kind.Normals ro) j ≡ true → has (ids_of Kind.Candidates ro) j ≡ false
  not-candidate j h =
      by_cases (has (ids_of Kind.Candidates ro) j)
      (λ e. clash (sym (ids-has Kind.Normals ro v.long j (has-below (ids_of Kind.Normals ro) j h)) ∙ h) (candidate-normal (session_at ro j) (is-candidate j e)))
      (λ e. e)

-- ---- case 1

pub case-1 : CaseOne
case-1 p w normals h =
    record {
      recovered = recovered cut p w c₀ sim src l 0 (3 * size l) ro w.nodes (begun-limit p.roster h.begins.run h.begins.began) (rw (← run) refl) refl (omega (arith, size-some l (lowest l) (lowest-in l low))) (omega arith) apart can.source.map ends;
      others = λ j q. ap (λ (g : ℕ → Station). g j) (nodes-is cut p w c₀ sim (3 * size l)) ∙ ends.same-node j q;
    }
  where
    cut : Cutting
    cut = cutting w h.cuts

    ro : Roster
    ro = p.roster

    src : ℕ
    src = lowest (ids_of Kind.Normals p.roster)

    l : ℕ
    l = ids_of Kind.Candidates p.roster

    v : pools.Valid p
    v = pools.valid-facts p h.begins.array h.begins.rules

    plain : p.roster.sync ≡ false
    plain = begun-plain p.roster h.begins.run h.begins.began v.ok

    b : (ids_of Kind.Candidates p.roster ≢ 0) × (at (Phase.Spread Step.Ready) src l 0 ≡ h.begins.run)
    b = begun-1 p.roster h.begins.run h.begins.began normals

    run : at (Phase.Spread Step.Ready) src l 0 ≡ h.begins.run
    run = b.1

    small : l < 65536
    small = ids-lt Kind.Candidates ro v.ok.long

    low : lowest l < 16
    low = some-lowest l small b.0

    src-in : has (ids_of Kind.Normals p.roster) src ≡ true
    src-in = lowest-in (ids_of Kind.Normals p.roster) (some-lowest (ids_of Kind.Normals p.roster) (ids-lt Kind.Normals ro v.ok.long) normals)

    apart : has l src ≡ false
    apart = not-candidate ro v.ok plain src src-in

    can : CanSpread p.roster.members p.chunks src l w.nodes
    can = record {
      source = fine p.chunks src (w.nodes src) (has-below (ids_of Kind.Normals p.roster) src src-in) h.giver;
      apart = apart;
      fines = λ j q. fine p.chunks j (w.nodes j) (has-below l j q) (h.takers j q);
      members = λ j q. a-member ro v.ok plain j q;
    }

    c₀ : Course
    c₀ = course ro (Some h.begins.run) 0 w.nodes

    sim : Sim cut p.roster.members p.roster.version w c₀
    sim = sim-begins p w h.begins h.cuts

    starts : course ro (spread_head src l 0) 0 w.nodes ≡ c₀
    starts = ap (λ (n : Option Run). course ro n 0 w.nodes) (head-some spread 0 src l 0 low ∙ ap Some run)

    ends : Spreads p.roster.members p.roster.version p.chunks src l 0 ro w.nodes (steps cut p.roster.members p.roster.version (3 * size l) c₀)
    ends = rw starts at (spreads cut p.roster.members p.roster.version p.chunks (begun-limit p.roster h.begins.run h.begins.began) v.ok.small src l small ro 0 w.nodes v.ok.long (omega (arith, size-le l)) can)

-- ---- the end of cases 2 and 3, from a course that came to its enabling

-- what cases 2 and 3 share: the receivers, the source, and the nodes of other ids
record EnabledAll (p : Pool) (source receivers n : ℕ) (before : ℕ → Station) (w : World) : Type 0 where
  others : Recovered p source receivers n w
  source-is-up : Up p source (exchanges n w)
  untouched : (j : ℕ) → j ≢ source → has receivers j ≡ false → (exchanges n w).nodes j ≡ before j

enabled-all : (cut : Cutting) (p : Pool) (w : World) (c₀ : Course) (src l t n : ℕ) (ro : Roster) (f : ℕ → Station)
    → Sim cut p.roster.members p.roster.version w c₀ → Tied c₀ → c₀.taken ≡ 0 → t + (3 * size l + 1) ≡ n
    → p.roster.version ≤ version_limit → p.roster.members < 65536 → has p.roster.members src ≡ true → CanSpread p.roster.members p.chunks src l f
    → Enabled p.roster.members p.roster.version p.chunks src l t ro f (steps cut p.roster.members p.roster.version n c₀)
    → EnabledAll p src l n f w
enabled-all cut p w c₀ src l t n ro f s tied none all hv hm own can e =
    record {
      others = recovered cut p w c₀ s src l (t + 1) n (entered ro src) g hv tied none (omega arith) (omega arith) can.apart
          (let q : Fine p.chunks src (g src) = rw (upd_same f src a) (fine-enabled p.chunks src p.roster.version p.roster.members (f src) can.source hv hm own) in q.map)
          e.spread;
      source-is-up = up_of cut p w c₀ s n src (f src).map e.source-entered e.source-served;
      untouched = λ j d q. ap (λ (h : ℕ → Station). h j) (nodes-is cut p w c₀ s n) ∙ (e.spread.same-node j q ∙ upd_other f src j a d);
    }
  where
    a : Station
    a = enabled_to p.roster.version p.roster.members (f src)

    g : ℕ → Station
    g = upd f src a

-- ---- case 2

pub case-2 : CaseTwo
case-2 p w normals marked h =
    record {
      recovered = all.others;
      source_up = all.source-is-up;
      source-map = ap (λ (g : ℕ → Station). (g src).map) (nodes-is cut p w c₀ sim (3 * size l + 1)) ∙ ends.source-served.map;
      others = all.untouched;
    }
  where
    cut : Cutting
    cut = cutting w h.cuts

    ro : Roster
    ro = p.roster

    src : ℕ
    src = lowest (ids_of Kind.Marked p.roster)

    l : ℕ
    l = without (ids_of Kind.Candidates p.roster) (lowest (ids_of Kind.Marked p.roster))

    v : pools.Valid p
    v = pools.valid-facts p h.begins.array h.begins.rules

    plain : p.roster.sync ≡ false
    plain = begun-plain p.roster h.begins.run h.begins.began v.ok

    b : (has (ids_of Kind.Candidates p.roster) src ≡ true) × (at (Phase.Enable false) src l 0 ≡ h.begins.run)
    b = begun-2 p.roster h.begins.run h.begins.began normals marked

    hv : p.roster.version ≤ version_limit
    hv = begun-limit p.roster h.begins.run h.begins.began

    small : l < 65536
    small = without-lt (ids_of Kind.Candidates ro) src (ids-lt Kind.Candidates ro v.ok.long)

    own : has p.roster.members src ≡ true
    own = a-member ro v.ok plain src b.0

    can : CanSpread p.roster.members p.chunks src l w.nodes
    can = record {
      source = fine p.chunks src (w.nodes src) (has-below (ids_of Kind.Candidates p.roster) src b.0) h.giver;
      apart = has-without-same (ids_of Kind.Candidates p.roster) src;
      fines = λ j q. fine p.chunks j (w.nodes j) (has-below l j q) (h.takers j q);
      members = λ j q. a-member ro v.ok plain j (still (ids_of Kind.Candidates p.roster) src j q).0;
    }

    c₀ : Course
    c₀ = course ro (Some h.begins.run) 0 w.nodes

    sim : Sim cut p.roster.members p.roster.version w c₀
    sim = sim-begins p w h.begins h.cuts

    starts : course ro (Some (at (Phase.Enable false) src l 0)) 0 w.nodes ≡ c₀
    starts = ap (λ (r : Run). course ro (Some r) 0 w.nodes) b.1

    ends : Enabled p.roster.members p.roster.version p.chunks src l 0 ro w.nodes (steps cut p.roster.members p.roster.version (3 * size l + 1) c₀)
    ends = rw starts at (enable-spread cut p.roster.members p.roster.version p.chunks hv v.ok.small src own false ro l 0 w.nodes v.ok.long small (omega (arith, size-le l)) can)

    all : EnabledAll p src l (3 * size l + 1) w.nodes w
    all = enabled-all cut p w c₀ src l 0 (3 * size l + 1) ro w.nodes sim (rw (← b.1) refl) refl (omega arith) hv v.ok.small own can ends

-- ---- the chosen's map in case 3

-- the chosen's map before ENABLE, and so after it, when the rows outside the members are zeroed
recorded : (p : Pool) (src : ℕ) (f g : ℕ → Station) (xs : List ℕ) → Sound p.chunks (g src).map → p.chunks ≤ chunk_limit
    → Prepared p.roster.members src f g → xs ≡ rows_kept p.roster.members (g src).map → Recorded p src f xs
recorded p src f g xs s most before e =
    rw e (record {
      bytes = sound-test p.chunks (rows_kept p.roster.members (g src).map) (sound-kept p.chunks p.roster.members (g src).map s);
      chunk = λ m c a b.
          let c-in : c < 4096 = omega arith in
          ap (λ (d : ℕ). eqb d 1) (dirty-kept (g src).map p.roster.members m c s.len a c-in)
          ∙ by_cases (has p.roster.members m)
          (λ q. rw q ((let n : min (dirty (g src).map m c) 1 ≡ dirty (g src).map m c = omega (arith, dirty-lt (g src).map m c) in ap (λ (d : ℕ). eqb d 1) n) ∙ before.chunk m c q c-in))
          (λ q. rw q (let n : min (dirty (g src).map m c) 0 ≡ 0 = omega arith in ap (λ (d : ℕ). eqb d 1) n));
    })

pub one_map : OneMap
one_map p chosen nodes xs ys a b =
    same-chunks p.chunks xs ys (sound-fact p.chunks xs a.bytes) (sound-fact p.chunks ys b.bytes)
    (λ m c h l _. same (dirty xs m c) (dirty ys m c) (dirty-lt xs m c) (dirty-lt ys m c) (a.chunk m c h l ∙ sym (b.chunk m c h l)))
  where
    same : (d e : ℕ) → d < 2 → e < 2 → eqb d 1 ≡ eqb e 1 → d ≡ e
    same d e k l q = by_cases (eqb e 1)
        (λ r. eqb-true d 1 (q ∙ r) ∙ sym (eqb-true e 1 r))
        (λ r. let x : d ≢ 1 = eqb-false d 1 (q ∙ r) in let y : e ≢ 1 = eqb-false e 1 r in omega arith)

pub chosen-unmarked : ChosenUnmarked
chosen-unmarked p n w r c l =
    r.source-map.chunk chosen c (has-below p.roster.members chosen r.chosen.member) l
    ∙ rw (r.chosen.member, none) (held (is_dirty (w.nodes chosen).map chosen c))
  where
    chosen : ℕ
    chosen = r.source

    held : (b : Bool) → (b || false) ≡ b
    held true = refl
    held false = refl

    never : (a b d : Bool) → (a && (b && (d && false))) ≡ false
    never true true true = refl
    never true true false = refl
    never true false d = refl
    never false b d = refl

    none : any 16 (λ j. has p.roster.members j && last_io_marks p.roster.members chosen w.nodes j chosen c) ≡ false
    none =
        any_none 16 (λ j. has p.roster.members j && last_io_marks p.roster.members chosen w.nodes j chosen c)
        (λ j h. rw (has-without-same (set_at p.roster.members chosen w.nodes j) chosen) (never (has p.roster.members j) (keeps (w.nodes j).node c) (not (is_dirty (w.nodes chosen).map chosen c))))

-- ---- case 3

pub case-3 : CaseThree
case-3 p w normals marked h =
    record {
      source = src;
      chosen = choice.chosen;
      recovered = all.others;
      source_up = all.source-is-up;
      source-map = recorded p src w.nodes mid.nodes ((exchanges (11 * k - 8) w).nodes src).map (mid.fines src own).map v.most mid.left (ap (λ (g : ℕ → Station). (g src).map) (nodes-is cut p w c₀ (sim-begins p w h.begins h.cuts) (11 * k - 8)) ∙ ends.source-served.map);
      others = λ j q. all.untouched j (not_in m src j own q) (out-still m src j q) ∙ mid.left.others j q;
    }
  where
    cut : Cutting
    cut = cutting w h.cuts

    ro : Roster
    ro = p.roster

    m : ℕ
    m = p.roster.members

    k : ℕ
    k = size p.roster.members

    v : pools.Valid p
    v = pools.valid-facts p h.begins.array h.begins.rules

    plain : p.roster.sync ≡ false
    plain = begun-plain p.roster h.begins.run h.begins.began v.ok

    hv : p.roster.version ≤ version_limit
    hv = begun-limit p.roster h.begins.run h.begins.began

    hm : p.roster.members < 65536
    hm = v.ok.small

    b : ((eqb p.roster.members 0 || not (eqb (ids_of (Kind.Strays p.roster.members) p.roster) 0)) ≡ false) × (at (Phase.Versions 0) (lowest m) m 0 ≡ h.begins.run)
    b = begun-3 p.roster h.begins.run h.begins.began normals marked

    low : lowest p.roster.members < 16
    low = some-lowest m hm (eqb-false m 0 (or-none (eqb m 0) _ b.0).0)

    fs : Fines p.roster.members p.chunks w.nodes
    fs = λ j q. fine p.chunks j (w.nodes j) (has-below m j q) (h.able j q)

    c₀ : Course
    c₀ = course ro (Some h.begins.run) 0 w.nodes

    starts : course ro (versions_head m 0 (lowest m) m 0) 0 w.nodes ≡ c₀
    starts = rw (some m low) (ap (λ (r : Run). course ro (Some r) 0 w.nodes) b.1)

    choice : Chose cut p.roster.members p.roster.version ro w.nodes (size p.roster.members) 0 (course ro (versions_head m 0 (lowest m) m 0) 0 w.nodes)
    choice = choosing cut m p.roster.version p.chunks ro w.nodes fs h.versions 0 hm low (omega (arith, size-le m))

    src : ℕ
    src = choice.source

    own : has p.roster.members src ≡ true
    own = choice.chosen.member

    o : ℕ
    o = without p.roster.members src

    fewer : size p.roster.members ≡ size o + 1
    fewer = size-without m src own

    n₂ : ℕ
    n₂ = 3 * size o + (k + 3 * size o)

    mid : Passed cut p.roster.members p.roster.version p.chunks ro (λ q. Some (at (Phase.Enable true) src o q)) n₂ (0 + k) (course ro (base_head m src o (0 + k)) (0 + k) w.nodes) (Prepared p.roster.members src w.nodes)
    mid = middle cut m p.roster.version p.chunks hv hm src own ro (0 + k) w.nodes (omega (arith, size-le m, fewer)) fs

    can : CanSpread p.roster.members p.chunks src o mid.nodes
    can = record {
      source = mid.fines src own;
      apart = has-without-same m src;
      fines = λ j q. mid.fines j (still m src j q).0;
      members = λ j q. (still m src j q).0;
    }

    total : 0 + k + n₂ + (3 * size o + 1) ≡ 11 * k - 8
    total = omega (arith, fewer)

    reach : steps cut p.roster.members p.roster.version (11 * k - 8) c₀
        ≡ steps cut p.roster.members p.roster.version (3 * size o + 1) (course ro (Some (at (Phase.Enable true) src o (0 + k + n₂))) (0 + k + n₂) mid.nodes)
    reach =
        ap (steps cut m p.roster.version (11 * k - 8)) (sym starts)
        ∙ (ap (λ (q : ℕ). steps cut m p.roster.version q (course ro (versions_head m 0 (lowest m) m 0) 0 w.nodes)) split
        ∙ (steps-add cut m p.roster.version k (n₂ + (3 * size o + 1)) (course ro (versions_head m 0 (lowest m) m 0) 0 w.nodes)
        ∙ (ap (steps cut m p.roster.version (n₂ + (3 * size o + 1))) choice.reach
        ∙ (steps-add cut m p.roster.version n₂ (3 * size o + 1) (course ro (base_head m src o (0 + k)) (0 + k) w.nodes)
        ∙ ap (steps cut m p.roster.version (3 * size o + 1)) mid.reach))))
      where
        split : 11 * k - 8 ≡ k + (n₂ + (3 * size o + 1))
        split = omega (arith, fewer)

    ends : Enabled p.roster.members p.roster.version p.chunks src o (0 + k + n₂) ro mid.nodes (steps cut p.roster.members p.roster.version (11 * k - 8) c₀)
    ends = rw (sym reach) at (enable-spread cut m p.roster.version p.chunks hv hm src own true ro o (0 + k + n₂) mid.nodes v.ok.long (without-lt m src hm) (omega (arith, size-le m, fewer)) can)

    all : EnabledAll p src o (11 * k - 8) mid.nodes w
    all = enabled-all cut p w c₀ src o (0 + k + n₂) (11 * k - 8) ro mid.nodes (sim-begins p w h.begins h.cuts) (rw (← b.1) refl) refl total hv hm own can ends
