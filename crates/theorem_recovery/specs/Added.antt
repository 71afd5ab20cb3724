-- The leg that extend adds, with honest nodes (document 02, C-20): its row is full on every NORMAL node once the messages arrived in the order sent, and the run that extend begins ends
-- with it NORMAL on both sides, its map equal to the source's, its own row full.
use Rattle.std.specs.Prelude.{◌≡◌, true, List, ℕ, ◌*◌, ◌≤◌, ◌<◌}
use Rattle.laws_words.specs.Words.{pick}
use Rattle.rules_base.specs.Limits.{version_limit}
use Rattle.rules_base.specs.Sets.{has, size, lowest}
use Rattle.rules_base.specs.Chunk.{dirty}
use Rattle.rules_base.specs.declared.Op.{Op}
use Rattle.rules_pool.specs.declared.Job.{Job}
use Rattle.rules_pool.specs.declared.Pool.{Pool}
use Rattle.rules_pool.specs.declared.Told.{Told}
use Rattle.rules_pool.specs.declared.Answer.{Answer}
use Rattle.rules_pool.specs.Session.{is_normal}
use Rattle.rules_client.specs.Events.{Event, turn_of, state_of}
use Rattle.theorem_client.specs.Reading.{picks}
use Rattle.theorem_client.specs.Said.{Accepts, version_of}
use Rattle.theorem_bounds.specs.Demand3.{tried_in}
use Rattle.rules_node.specs.Events as node
use Rattle.rules_node.specs.Cuts.{Cuts}
use Rattle.rules_world.specs.Station.{Station, does}
use Rattle.rules_world.specs.Together.{World, exchanges}
use Rattle.theorem_honest.specs.Demand.{Able, Up, Copied}
use Rattle.theorem_recovery.specs.Demand.{Leaves, normals, candidates}

-- ---- the messages of extend

-- what an event told
abbrev pub told_in : Answer → Told
told_in (Answer.Refused n) = Told.Nothing
told_in (Answer.Done s) = s.told

-- POOL_INFO where it goes to the node of id j, and the fill where it does
abbrev pub informed_at : ℕ → ℕ → ℕ → Station → Station
informed_at others member j s = pick (has others j) (does s (node.Event.pool_info Op.AddCreate member)).station s

abbrev pub filled_at : ℕ → ℕ → ℕ → ℕ → Station → Station
filled_at normals member version j s = pick (has normals j) (does s (node.Event.fill member version)).station s

-- The node of id j once what extend told arrived in the order sent: POOL_INFO, then the fill. No other event tells such messages.
abbrev pub arrived : Told → (ℕ → Station) → ℕ → Station
arrived Told.Nothing f j = f j
arrived (Told.Marks to chunk list version) f j = f j
arrived (Told.Clears to member chunk) f j = f j
arrived (Told.Infos to op member) f j = f j
arrived (Told.Disable to) f j = f j
arrived (Told.Off to) f j = f j
arrived (Told.Extended others normals member version) f j = filled_at normals member version j (informed_at others member j (f j))
arrived (Told.Checks to tick) f j = f j

-- what extend told at the client c
abbrev pub told_by : Pool → List ℕ → Told
told_by c xs = told_in (turn_of (Event.extend xs) c).answer

-- ---- a full row

-- every chunk is dirty for member m
abbrev pub Full : ℕ → ℕ → List ℕ → Type 0
Full chunks m xs = (k : ℕ) → k < chunks → dirty xs m k ≡ 1

-- After an accepted extend, once its messages arrived in the order sent, the new member's row is full on every NORMAL node that is honest.
abbrev pub FullOnNormals : Type 0
FullOnNormals = (c : Pool) (xs : List ℕ) → Accepts c (Event.extend xs) → (f : ℕ → Station) (j : ℕ) → is_normal (state_of c j) ≡ true → Able c.chunks j (f j)
    → Full c.chunks (picks c) (arrived (told_by c xs) f j).map

-- ---- the run

-- the pool in which recovery is tried
abbrev pub pool_of : Pool → List ℕ → Pool
pool_of c xs = tried_in (Event.extend xs) c

-- The nodes f before extend: those that take part in its run are honest. They are the source, the lowest NORMAL id, and the receivers, the new leg among them: its node is registered for adding and
-- joined by assemble, so it serves.
pub record HonestBefore (c : Pool) (xs : List ℕ) (f : ℕ → Station) : Type 0 where
  pub source : Able c.chunks (lowest (normals (pool_of c xs))) (f (lowest (normals (pool_of c xs))))
  pub others : (j : ℕ) → has (candidates (pool_of c xs)) j ≡ true → Able c.chunks j (f j)

-- After n answers the run is over; there were 3R of them, R being the receivers; the new leg is NORMAL on both sides, its map is the source's for every member and zero elsewhere, and its own row is full.
pub record Ends (c : Pool) (xs : List ℕ) (n : ℕ) (w : World) : Type 0 where
  pub count : n ≡ 3 * size (candidates (pool_of c xs))
  pub over : (exchanges n w).pool.job ≡ Job.Idle
  pub up : Up (pool_of c xs) (picks c) (exchanges n w)
  pub map : Copied (pool_of c xs) (lowest (normals (pool_of c xs))) (picks c) (exchanges n w)
  pub full : Full c.chunks (picks c) ((exchanges n w).nodes (picks c)).map

-- With honest nodes, the messages arrived in the order sent, and a version that lets a run begin.
abbrev pub LegAdded : Type 0
LegAdded = (c : Pool) (xs : List ℕ) → Accepts c (Event.extend xs) → version_of c ≤ version_limit
    → (f : ℕ → Station) → HonestBefore c xs f
    → (w : World) → Leaves (Event.extend xs) c w → ((j : ℕ) → w.nodes j ≡ arrived (told_by c xs) f j) → ((t : ℕ) → Cuts (w.cuts t))
    → Ends c xs (3 * size (candidates (pool_of c xs))) w
