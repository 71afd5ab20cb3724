-- Demand 3, second half: what is asked of the pool and its nodes, and what the run comes to.
use Rattle.std.specs.Prelude.{◌≡◌, Bool, true, false, not, ◌&&◌, ◌||◌, List, ◌≢◌, ℕ, zero, suc, ◌+◌, ◌-◌, ◌*◌, ◌/◌, ◌≤◌, ◌<◌, eqb, length, get_or, Some}
use Rattle.laws_words.specs.Words.{pick}
use Rattle.rules_base.specs.Sets.{has, without, size, lowest}
use Rattle.rules_base.specs.Chunk.{dirty}
use Rattle.rules_base.specs.Map.{sound, rows_kept}
use Rattle.rules_pool.specs.declared.State.{State}
use Rattle.rules_pool.specs.declared.Run.{Run}
use Rattle.rules_pool.specs.declared.Job.{Job}
use Rattle.rules_pool.specs.declared.Pool.{Pool}
use Rattle.rules_pool.specs.declared.Told.{Told}
use Rattle.rules_pool.specs.declared.Outcome.{Outcome}
use Rattle.rules_pool.specs.declared.Kind.{Kind}
use Rattle.rules_pool.specs.Sessions.{session_at, ids_of}
use Rattle.rules_pool.specs.StateRules.{valid_pool}
use Rattle.rules_pool.specs.Jobs.{is_running}
use Rattle.rules_pool.specs.Cases.{begun}
use Rattle.rules_pool.specs.Recovery.{tried}
use Rattle.rules_pool.specs.Exit.{tried_after}
use Rattle.rules_node.specs.declared.State as node
use Rattle.rules_node.specs.declared.Node.{Node}
use Rattle.rules_node.specs.States.{is_serving}
use Rattle.rules_node.specs.StateRules.{is_kept, valid}
use Rattle.rules_node.specs.Cuts.{Cuts}
use Rattle.rules_world.specs.Station.{Station, both_sound}
use Rattle.rules_world.specs.Together.{World, heard, exchanges}

-- ---- what is asked

-- An honest node of a pool with this many chunks, at this id: it is the node of that id, keeps its state rules, has the pool's chunk count, holds two
-- sound maps, and serves (CREATED, NORMAL or NO_IO, with a store).
pub record Able (chunks id : ℕ) (s : Station) : Type 0 where
  pub itself : s.node.id ≡ id
  pub rules : valid s.node ≡ true
  pub same : s.node.chunks ≡ chunks
  pub sound : both_sound s ≡ true
  pub serves : is_serving s.node ≡ true

-- Recovery was tried in the pool p, which keeps its state rules, and a run began; w is what came of it, before the first message is
-- delivered: the pool after the trial, its first message and that message's number, and a sound client map.
pub record Begins (p : Pool) (w : World) : Type 0 where
  pub array : length p.roster.sessions ≡ 16
  pub rules : valid_pool p ≡ true
  pub run : Run
  pub began : begun p.roster ≡ Some run
  pub pool : w.pool ≡ (tried p).pool
  pub awaited : w.sent.awaited ≡ (tried p).awaited
  pub number : w.sent.number ≡ (tried p).pool.number
  pub map : sound p.chunks w.map ≡ true

-- The hypotheses: a run begins, its source and each of its receivers are honest, and every MAP_SEND carries a whole map, in any parts of 1 to 1,024 bytes.
pub record Honest (p : Pool) (source receivers : ℕ) (w : World) : Type 0 where
  pub begins : Begins p w
  pub cuts : (t : ℕ) → Cuts (w.cuts t)
  pub giver : Able p.chunks source (w.nodes source)
  pub takers : (j : ℕ) → has receivers j ≡ true → Able p.chunks j (w.nodes j)

-- ---- what the run comes to

-- NORMAL on the client and on the node, which holds the version that the run began with and the pool's member set
pub record Up (p : Pool) (j : ℕ) (w : World) : Type 0 where
  pub session : (session_at w.pool.roster j).state ≡ State.Normal
  pub state : (w.nodes j).node.state ≡ node.State.Normal
  pub version : (w.nodes j).node.version ≡ p.roster.version
  pub members : (w.nodes j).node.members ≡ p.roster.members

-- the map of j is 8,192 bytes, equals that of the source in every member's row, and is zero in every other row (byte k is in row k / 512)
pub record Copied (p : Pool) (source j : ℕ) (w : World) : Type 0 where
  pub bytes : length (w.nodes j).map ≡ 8192
  pub equal : (k : ℕ) → k < 8192 → has p.roster.members (k / 512) ≡ true → get_or (w.nodes j).map k 0 ≡ get_or (w.nodes source).map k 0
  pub zero : (k : ℕ) → k < 8192 → has p.roster.members (k / 512) ≡ false → get_or (w.nodes j).map k 0 ≡ 0

-- After n exchanges the run is over and has taken n answers; before that it was not over. The pool then has one version more than the run began with. Each receiver is
-- NORMAL on both sides, with the source's map.
pub record Recovered (p : Pool) (source receivers n : ℕ) (w : World) : Type 0 where
  pub before : (i : ℕ) → i < n → is_running (exchanges i w).pool.job ≡ true
  pub over : (exchanges n w).pool.job ≡ Job.Idle
  pub count : (exchanges n w).sent.outcome ≡ Outcome.Taken n
  pub raised : (exchanges n w).pool.roster.version ≡ p.roster.version + 1
  pub up : (j : ℕ) → has receivers j ≡ true → Up p j (exchanges n w)
  pub map : (j : ℕ) → has receivers j ≡ true → Copied p source j (exchanges n w)

-- ---- the three cases

-- Case 1 after n exchanges: the receivers have recovered, and every other node, the source's too, is as it was.
pub record Case1 (p : Pool) (source receivers n : ℕ) (w : World) : Type 0 where
  pub recovered : Recovered p source receivers n w
  pub others : (j : ℕ) → has receivers j ≡ false → (exchanges n w).nodes j ≡ w.nodes j

-- Case 2 after n exchanges: source and receivers have recovered, the source's map is as it was, with the rows outside the members zeroed, and every other
-- node is as it was.
pub record Case2 (p : Pool) (source receivers n : ℕ) (w : World) : Type 0 where
  pub recovered : Recovered p source receivers n w
  pub source_up : Up p source (exchanges n w)
  pub source-map : ((exchanges n w).nodes source).map ≡ rows_kept p.roster.members (w.nodes source).map
  pub others : (j : ℕ) → j ≢ source → has receivers j ≡ false → (exchanges n w).nodes j ≡ w.nodes j

-- Case 3: the source is the chosen. Of the members it has the highest version, and of those that have it the lowest id.
pub record Chosen (members : ℕ) (version : ℕ → ℕ) (source : ℕ) : Type 0 where
  pub member : has members source ≡ true
  pub most : (j : ℕ) → has members j ≡ true → version j ≤ version source
  pub tie : (j : ℕ) → has members j ≡ true → version j ≡ version source → source ≤ j

-- The chosen's map when the run is over, as it comes of what the nodes began with: what it held, and last IOs; members' rows alone.

-- some number below n passes the test
abbrev pub any : ℕ → (ℕ → Bool) → Bool
any zero t = false
any (suc n) t = t n || any n t

-- chunk c is dirty for member m
abbrev pub is_dirty : List ℕ → ℕ → ℕ → Bool
is_dirty xs m c = eqb (dirty xs m c) 1

-- c is one of the node's kept chunks
unfoldable pub keeps : Node → ℕ → Bool
keeps n c = any 16 (λ i. is_kept n i && eqb (get_or n.kept i 0) c)

-- The member set of node j when LAST_IO_TO_MAP reaches it: the pool's, by MAP_DONE of the spread without enable; the chosen, which receives nothing in that
-- spread, has the set that it began with.
abbrev pub set_at : ℕ → ℕ → (ℕ → Station) → ℕ → ℕ
set_at members chosen nodes j = pick (eqb j chosen) (nodes chosen).node.members members

-- The last IOs of node j mark chunk c for m: c is one of its kept chunks and not dirty for the chosen, and m is one of its members, but not the chosen.
abbrev pub last_io_marks : ℕ → ℕ → (ℕ → Station) → ℕ → ℕ → ℕ → Bool
last_io_marks members chosen nodes j m c =
    keeps (nodes j).node c && (not (is_dirty (nodes chosen).map chosen c) && has (without (set_at members chosen nodes j) chosen) m)

-- The chosen's map holds chunk c dirty for m: m is a member, and the chosen held it so, or it is marked by the last IOs of some member's node, which the
-- gather brings.
abbrev pub chosen_dirty : ℕ → ℕ → (ℕ → Station) → ℕ → ℕ → Bool
chosen_dirty members chosen nodes m c =
    has members m && (is_dirty (nodes chosen).map m c || any 16 (λ j. has members j && last_io_marks members chosen nodes j m c))

-- The bytes xs are that map: 8,192 of them, no bit past the chunk count, and every other bit as said.
pub record Recorded (p : Pool) (chosen : ℕ) (nodes : ℕ → Station) (xs : List ℕ) : Type 0 where
  pub bytes : sound p.chunks xs ≡ true
  pub chunk : (m c : ℕ) → m < 16 → c < p.chunks → is_dirty xs m c ≡ chosen_dirty p.roster.members chosen nodes m c

-- The hypotheses of case 3: a run begins, every member's node is honest and holds no version above the pool's, and every MAP_SEND carries a whole map.
pub record AllHonest (p : Pool) (w : World) : Type 0 where
  pub begins : Begins p w
  pub cuts : (t : ℕ) → Cuts (w.cuts t)
  pub able : (j : ℕ) → has p.roster.members j ≡ true → Able p.chunks j (w.nodes j)
  pub versions : (j : ℕ) → has p.roster.members j ≡ true → (w.nodes j).node.version ≤ p.roster.version

-- Case 3 after n exchanges: by the versions that the nodes began with a member was chosen, it and all other members have recovered, its map is what it held
-- and what last IOs marked, and the nodes of all other ids are as they were.
pub record Case3 (p : Pool) (n : ℕ) (w : World) : Type 0 where
  pub source : ℕ
  pub chosen : Chosen p.roster.members (λ j. (w.nodes j).node.version) source
  pub recovered : Recovered p source (without p.roster.members source) n w
  pub source_up : Up p source (exchanges n w)
  pub source-map : Recorded p source w.nodes ((exchanges n w).nodes source).map
  pub others : (j : ℕ) → has p.roster.members j ≡ false → (exchanges n w).nodes j ≡ w.nodes j

-- ---- the theorems

-- Case 1: some session is NORMAL. The source is the lowest NORMAL id, the receivers are the R candidates. With honest nodes, after exactly 3R answers the
-- run is over, each receiver is NORMAL on the client and on its node, and its map is the source's for every member and zero elsewhere. All else at the
-- nodes is as it was.
abbrev pub CaseOne : Type 0
CaseOne =
    (p : Pool) (w : World) → ids_of Kind.Normals p.roster ≢ 0
    → Honest p (lowest (ids_of Kind.Normals p.roster)) (ids_of Kind.Candidates p.roster) w
    → Case1 p (lowest (ids_of Kind.Normals p.roster)) (ids_of Kind.Candidates p.roster) (3 * size (ids_of Kind.Candidates p.roster)) w

-- Case 2: no session is NORMAL, and one is marked last authoritative. It is the source, the other R candidates receive. With honest nodes, after exactly
-- 3R + 1 answers the run is over, source and receivers are NORMAL on both sides, and each receiver's map is the source's for every member and zero elsewhere.
-- The source's own map is as it was, with the rows outside the members zeroed, and all other nodes are as they were.
abbrev pub CaseTwo : Type 0
CaseTwo =
    (p : Pool) (w : World) → ids_of Kind.Normals p.roster ≡ 0 → ids_of Kind.Marked p.roster ≢ 0
    → Honest p (lowest (ids_of Kind.Marked p.roster)) (without (ids_of Kind.Candidates p.roster) (lowest (ids_of Kind.Marked p.roster))) w
    → Case2 p (lowest (ids_of Kind.Marked p.roster)) (without (ids_of Kind.Candidates p.roster) (lowest (ids_of Kind.Marked p.roster)))
    (3 * size (without (ids_of Kind.Candidates p.roster) (lowest (ids_of Kind.Marked p.roster))) + 1) w

-- Case 3: no session is NORMAL and none is marked. With honest nodes of all K members, none with a version above the pool's, the chosen has the highest
-- version (ties to the lowest id); after exactly 11K - 8 answers the run is over, all members are NORMAL on both sides, each other member's map is the
-- chosen's for every member and zero elsewhere, the chosen's is what it held and what last IOs marked, and all other nodes are as they were.
abbrev pub CaseThree : Type 0
CaseThree =
    (p : Pool) (w : World) → ids_of Kind.Normals p.roster ≡ 0 → ids_of Kind.Marked p.roster ≡ 0 → AllHonest p w
    → Case3 p (11 * size p.roster.members - 8) w

-- The chosen's map is given byte for byte: two maps that are so recorded are equal.
abbrev pub OneMap : Type 0
OneMap = (p : Pool) (chosen : ℕ) (nodes : ℕ → Station) (xs ys : List ℕ) → Recorded p chosen nodes xs → Recorded p chosen nodes ys → xs ≡ ys

-- Last IOs never mark the chosen: after case 3 its own row is as it was.
abbrev pub ChosenUnmarked : Type 0
ChosenUnmarked =
    (p : Pool) (n : ℕ) (w : World) (r : Case3 p n w) (c : ℕ) → c < p.chunks
    → is_dirty ((exchanges n w).nodes r.source).map r.source c ≡ is_dirty (w.nodes r.source).map r.source c

-- The hypothesis that a run begins is what every event leaves that tries recovery: it came to the pool `after` and tried recovery there, and a run began.
-- Assumed are only the state rules and a sound client map.
abbrev pub BeginsAfter : Type 0
BeginsAfter =
    (before after : Pool) (outcome : Outcome) (told : Told) (w : World) (r : Run) → length after.roster.sessions ≡ 16 → valid_pool after ≡ true
    → begun after.roster ≡ Some r → sound after.chunks w.map ≡ true
    → Begins after (heard w w.nodes (tried_after before after outcome told))
