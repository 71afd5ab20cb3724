-- Demand 3. From any state reached from a fresh pool, a recovery run is over after at most 3R, 3R + 1 or 11K - 8 awaited answers, whatever they say; with honest
-- nodes the count is exact, all end NORMAL on both sides, and each receiver's map equals the source's for every member and is zero elsewhere.
use Rattle.std.specs.Prelude.{◌≡◌, true, List, ◌≢◌, ℕ, ◌+◌, ◌*◌, ◌-◌, ◌≤◌}
use Rattle.rules_base.specs.Sets.{has, without, size, lowest}
use Rattle.rules_base.specs.Map.{sound}
use Rattle.rules_pool.specs.declared.Run.{Run}
use Rattle.rules_pool.specs.declared.Pool.{Pool}
use Rattle.rules_pool.specs.declared.Answer.{Answer}
use Rattle.rules_pool.specs.declared.Kind.{Kind}
use Rattle.rules_pool.specs.Sessions.{ids_of}
use Rattle.rules_client.specs.Events.{Event, turn_of, next}
use Rattle.theorem_bounds.specs.Demand3.{during, most, Begins, tried_in, Bounded}
use Rattle.rules_node.specs.Cuts.{Cuts}
use Rattle.rules_world.specs.Together.{World, heard}
use Rattle.theorem_honest.specs.Demand.{Able, Case1, Case2, Case3}

-- ---- the world that an event leaves

-- What the accepted event e at the client c leaves: the client's state, what it handed back, and a sound client map. The nodes are meant as they are when its awaited
-- message, the first of the run, is delivered: that is the first exchange. What it sends without awaiting it does not matter (POOL_INFO of a join assemble changes no
-- node) or has been delivered (MAP_DISABLE of a link down, sent before).
pub record Leaves (e : Event) (c : Pool) (w : World) : Type 0 where
  pub pool : w.pool ≡ next e c
  pub sent : (turn_of e c).answer ≡ Answer.Done w.sent
  pub map : sound w.pool.chunks w.map ≡ true

-- ---- honest nodes

-- the NORMAL ids, the candidates, the one marked last authoritative
abbrev pub normals : Pool → ℕ
normals p = ids_of Kind.Normals p.roster

abbrev pub candidates : Pool → ℕ
candidates p = ids_of Kind.Candidates p.roster

abbrev pub authoritative : Pool → ℕ
authoritative p = ids_of Kind.Marked p.roster

-- Those that take part in the run that begins in p are honest: in case 1 the lowest NORMAL id, the source, and the candidates, its receivers; in case 2 the candidates,
-- source and receivers; in case 3 the candidates, which are then all members, and none holds a version above the pool's. Every MAP_SEND carries a whole map, in any parts of
-- 1 to 1,024 bytes.
pub record HonestNodes (p : Pool) (w : World) : Type 0 where
  pub source : normals p ≢ 0 → Able p.chunks (lowest (normals p)) (w.nodes (lowest (normals p)))
  pub others : (j : ℕ) → has (candidates p) j ≡ true → Able p.chunks j (w.nodes j)
  pub versions : normals p ≡ 0 → authoritative p ≡ 0 → (j : ℕ) → has p.roster.members j ≡ true → (w.nodes j).node.version ≤ p.roster.version
  pub cuts : (t : ℕ) → Cuts (w.cuts t)

-- The client of the world w hears an event that begins a run, as in an exchange it hears an answer: the world afterwards, MAP_DISABLE delivered, is one that the event
-- leaves, and honest nodes are honest in it.
abbrev pub HeardLeaves : Type 0
HeardLeaves = (w : World) (e : Event) (r : Run) → Begins w.pool e r → sound w.pool.chunks w.map ≡ true
    → Leaves e w.pool (heard w w.nodes (turn_of e w.pool))
    × (HonestNodes (tried_in e w.pool) w → HonestNodes (tried_in e w.pool) (heard w w.nodes (turn_of e w.pool)))

-- With them the run takes exactly n answers and comes to what its case says (crate honest). Case 1: 3R. Case 2: 3R + 1. Case 3: 11K - 8.
pub data Exact (p : Pool) (n : ℕ) (w : World) : Type 0 where
  case1 : normals p ≢ 0
      → n ≡ 3 * size (candidates p)
      → Case1 p (lowest (normals p)) (candidates p) n w
      → Exact p n w
  case2 : normals p ≡ 0 → authoritative p ≢ 0
      → n ≡ 3 * size (without (candidates p) (lowest (authoritative p))) + 1
      → Case2 p (lowest (authoritative p)) (without (candidates p) (lowest (authoritative p))) n w
      → Exact p n w
  case3 : normals p ≡ 0 → authoritative p ≡ 0
      → n ≡ 11 * size p.roster.members - 8
      → Case3 p n w
      → Exact p n w

-- ---- the demand

-- what is said of a run that the event e at the client c began
pub record Recovers (c : Pool) (e : Event) : Type 0 where
  -- It is over after at most 3R, 3R + 1 or 11K - 8 awaited answers (`most`), whatever they say and whatever comes between.
  pub at_most : (es : List Event) → Bounded (during es (next e c)) (next e c) (most (next e c).roster)
  -- With honest nodes the count is exact, all end NORMAL on both sides, and each receiver's map equals the source's for every member and is zero elsewhere.
  pub exact : (w : World) → Leaves e c w → HonestNodes (tried_in e c) w → Exact (tried_in e c) (most (next e c).roster) w

-- From any state reached from a fresh pool: c is reached, and after e, any event with any data, a run is in hand that was not before, or that began after a link down
-- ended one (`Begins`). Every run in hand at a reached client began so (bounds: `EveryRun`).
abbrev pub Demand3 : Type 0
Demand3 = (c : Pool) (e : Event) (r : Run) → Begins c e r → Recovers c e
