-- From the course of a run to the client's and the nodes' states: how a world begins a run, and what its end says.
use Rattle.std.specs.Prelude.{Option, Some, None}
use mathlib.Core.Path.{◌≡◌, refl, sym, ap, ◌∙◌}
use mathlib.Core.Bool.{true, false}
use mathlib.Core.List.{List}
use Prim.Native.Nat.{ℕ, zero, ◌+◌, ◌*◌, ◌≤◌, ◌<◌}
use native.Mathlib.Omega.{arith}
use lib.ListN.{length, get_or}
use Rattle.rules_base.specs.Limits.{version_limit}
use Rattle.rules_base.specs.Sets.{has, size}
use Rattle.rules_base.specs.Map.{rows_kept}
use Rattle.rules_base.proofs.Sound.{Sound, sound-kept}
use Rattle.rules_pool.specs.declared.State.{State}
use Rattle.rules_pool.specs.declared.Run.{Run}
use Rattle.rules_pool.specs.declared.Roster.{Roster}
use Rattle.rules_pool.specs.declared.Pool.{Pool}
use Rattle.rules_pool.specs.declared.Outcome.{Outcome}
use Rattle.rules_pool.specs.Sessions.{session_at}
use Rattle.rules_pool.specs.Changes.{more}
use Rattle.rules_pool.specs.Run.{awaited_in}
use Rattle.rules_pool.specs.StateRules.{valid_pool}
use Rattle.rules_pool.specs.Jobs.{is_running}
use Rattle.rules_pool.specs.declared.Posted.{Posted}
use Rattle.rules_pool.specs.Cases.{begun}
use Rattle.rules_pool.specs.Recovery.{next_number, posted, tried}
use Rattle.rules_pool.specs.Exit.{number_of}
use Rattle.rules_client.specs.Answers.{answer}
use Rattle.laws_client.proofs.AnswersKept.{answer_keeps}
use Rattle.laws_client.proofs.Pools as pools
use Rattle.laws_client.proofs.Rosters.{below_top}
use Rattle.laws_client.proofs.Tried.{tried-keeps}
use Rattle.rules_world.specs.Station.{Station}
use Rattle.rules_node.specs.Cuts.{Cuts}
use Rattle.rules_world.specs.Together.{World, exchanges}
use Rattle.theorem_honest.specs.Demand.{Begins, Up, Copied, Recovered}
use Rattle.theorem_honest.proofs.Began.{begun-plain}
use Rattle.theorem_honest.proofs.Bytes.{kept-in, kept_out}
use Rattle.theorem_honest.proofs.Course.{Cutting, Course, course, steps}
use Rattle.theorem_honest.proofs.Spread.{Served, Spreads}
use Rattle.theorem_honest.proofs.Sim.{job_of, version_at, roster_of, pool_of, Whole, run-numbered, Sim, Keeps, sim-steps}
use Rattle.theorem_honest.proofs.Exact.{Tied, not-before}

-- every answer keeps the state rules
keeps : Keeps
keeps p b n a h =
    let v = answer_keeps p b n a (pools.valid-facts p h.0 h.1) in
    (v.ok.long, pools.valid-of (answer p b n a).pool v)

-- ---- the beginning

tried-on : (p : Pool) (r : Run) → begun p.roster ≡ Some r
    → tried p ≡ record { pool = pool_of (next_number p.number) p.chunks p.roster (Some r); awaited = awaited_in p.roster.members p.roster.version r }
unfolding tried posted
tried-on p r e = rw e

-- the first message of a run carries its number
pub tried-number : (p : Pool) (r : Run) → begun p.roster ≡ Some r → number_of (tried p).awaited (tried p).pool.number ≡ (tried p).pool.number
tried-number p r e = rw (tried-on p r e) (run-numbered p.roster.members p.roster.version r (next_number p.number))

-- the cuts of a world, which are whole maps
abbrev pub cutting : (w : World) → ((t : ℕ) → Cuts (w.cuts t)) → Cutting
cutting w k = record { lengths = w.cuts; cuts = k }

-- a world in which a run began follows the course of that run
pub sim-begins : (p : Pool) (w : World) (b : Begins p w) (k : (t : ℕ) → Cuts (w.cuts t)) → Sim (cutting w k) p.roster.members p.roster.version w (course p.roster (Some b.run) 0 w.nodes)
sim-begins p w b k =
    record {
      num = next_number p.number;
      chunks = p.chunks;
      map = w.map;
      out = w.sent.outcome;
      told = w.sent.told;
      is = λ i. record {
        pool = pool-is i;
        map = w.map;
        sent = record { outcome = w.sent.outcome; told = w.sent.told; awaited = awaited-is i; number = number_is i };
        nodes = w.nodes;
        cuts = w.cuts;
      };
      whole = whole_is;
      snd = b.map;
      outcome = λ h. absurd (let z : ⊥ = omega arith in z);
      members = refl;
      version = refl;
    }
  where
    t : tried p ≡ record { pool = pool_of (next_number p.number) p.chunks p.roster (Some b.run); awaited = awaited_in p.roster.members p.roster.version b.run }
    t = tried-on p b.run b.began

    pool-is : w.pool ≡ pool_of (next_number p.number) p.chunks p.roster (Some b.run)
    pool-is = b.pool ∙ ap (λ (q : Posted). q.pool) t

    awaited-is : w.sent.awaited ≡ awaited_in p.roster.members p.roster.version b.run
    awaited-is = b.awaited ∙ ap (λ (q : Posted). q.awaited) t

    number_is : w.sent.number ≡ number_of (awaited_in p.roster.members p.roster.version b.run) (next_number p.number)
    number_is = b.number ∙ (ap (λ (q : Posted). q.pool.number) t ∙ sym (run-numbered p.roster.members p.roster.version b.run (next_number p.number)))

    v : pools.Valid (tried p).pool
    v = let q = pools.valid-facts p b.array b.rules in tried-keeps p q (begun-plain p.roster b.run b.began q.ok)

    whole_is : Whole w.pool
    whole_is = (ap (λ (q : Pool). length q.roster.sessions) b.pool ∙ v.ok.long, ap valid_pool b.pool ∙ pools.valid-of (tried p).pool v)

-- ---- the end

running-on : (n : Option Run) → (n ≡ None → ⊥) → is_running (job_of n) ≡ true
running-on None h = absurd (h refl)
running-on (Some r) h = refl

module _ (cut : Cutting) (p : Pool) (w : World) (c₀ : Course) (s : Sim cut p.roster.members p.roster.version w c₀) where
  -- after i exchanges
  after : (i : ℕ) → Sim cut p.roster.members p.roster.version (exchanges i w) (steps cut p.roster.members p.roster.version i c₀)
  after i = sim-steps keeps cut p.roster.members p.roster.version i c₀ w s

  end : ℕ → Course
  end i = steps cut p.roster.members p.roster.version i c₀

  pub roster-is : (i : ℕ) → (exchanges i w).pool.roster ≡ roster_of (steps cut p.roster.members p.roster.version i c₀).roster (steps cut p.roster.members p.roster.version i c₀).next
  roster-is i = ap (λ (w : World). w.pool.roster) (after i).is

  pub nodes-is : (i : ℕ) → (exchanges i w).nodes ≡ (steps cut p.roster.members p.roster.version i c₀).nodes
  nodes-is i = ap (λ (w : World). w.nodes) (after i).is

  job_is : (i : ℕ) → (exchanges i w).pool.job ≡ job_of (steps cut p.roster.members p.roster.version i c₀).next
  job_is i = ap (λ (w : World). w.pool.job) (after i).is

  -- who is NORMAL in the course is so in the world
  pub up_of : (i j : ℕ) (zs : List ℕ) → (session_at (steps cut p.roster.members p.roster.version i c₀).roster j).state ≡ State.Normal
      → Served p.roster.members p.roster.version zs ((steps cut p.roster.members p.roster.version i c₀).nodes j) → Up p j (exchanges i w)
  up_of i j zs a b = record {
    session = ap (λ (ro : Roster). (session_at ro j).state) (roster-is i) ∙ a;
    state = ap (λ (f : ℕ → Station). (f j).node.state) (nodes-is i) ∙ b.normal;
    version = ap (λ (f : ℕ → Station). (f j).node.version) (nodes-is i) ∙ b.version;
    members = ap (λ (f : ℕ → Station). (f j).node.members) (nodes-is i) ∙ b.members;
  }

  -- an enabling spread at the end of the run, its source's map sound
  pub recovered : (src l t n : ℕ) (ro : Roster) (f : ℕ → Station) → p.roster.version ≤ version_limit → Tied c₀ → c₀.taken ≡ 0 → 0 < n → t + 3 * size l ≡ n → has l src ≡ false → Sound p.chunks (f src).map
      → Spreads p.roster.members p.roster.version p.chunks src l t ro f (steps cut p.roster.members p.roster.version n c₀)
      → Recovered p src l n w
  recovered src l t n ro f low tied none some all out snd e =
      record {
        before = λ i h. ap is_running (job_is i) ∙ running-on _ (not-before cut p.roster.members p.roster.version i n c₀ tied none taken-n h);
        over = job_is n ∙ ap job_of e.over;
        count = ap (λ (w : World). w.sent.outcome) (after n).is ∙ ((after n).outcome (let z : 0 < (steps cut p.roster.members p.roster.version n c₀).taken = rw taken-n some in z) ∙ ap Outcome.Taken taken-n);
        raised = ap (λ (ro : Roster). ro.version) (roster-is n)
            ∙ (ap (λ (q : Option Run). version_at q (steps cut p.roster.members p.roster.version n c₀).roster.version) e.over ∙ (ap more (after n).version ∙ below_top p.roster.version (omega (arith, low))));
        up = λ j h. up_of n j (f src).map (e.entered j h) (e.served j h);
        map = λ j h. copied j (e.served j h);
      }
    where
      taken-n : (steps cut p.roster.members p.roster.version n c₀).taken ≡ n
      taken-n = e.taken ∙ all

      source_is : ((exchanges n w).nodes src).map ≡ (f src).map
      source_is = ap (λ (g : ℕ → Station). (g src).map) (nodes-is n) ∙ ap (λ (q : Station). q.map) (e.same-node src out)

      copied : (j : ℕ) → Served p.roster.members p.roster.version (f src).map ((steps cut p.roster.members p.roster.version n c₀).nodes j) → Copied p src j (exchanges n w)
      copied j b =
          let q : ((exchanges n w).nodes j).map ≡ rows_kept p.roster.members (f src).map = ap (λ (g : ℕ → Station). (g j).map) (nodes-is n) ∙ b.map in
          record {
            bytes = ap length q ∙ (sound-kept p.chunks p.roster.members (f src).map snd).len;
            equal = λ k h i. ap (λ (xs : List ℕ). get_or xs k 0) q ∙ (kept-in p.chunks p.roster.members (f src).map snd k h i ∙ sym (ap (λ (xs : List ℕ). get_or xs k 0) source_is));
            zero = λ k h i. ap (λ (xs : List ℕ). get_or xs k 0) q ∙ kept_out p.chunks p.roster.members (f src).map snd k h i;
          }
