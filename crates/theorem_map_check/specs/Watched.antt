-- C-15's histories with map check in them: the client's ticks, what its nodes answer, and the client taking their answers.
use Rattle.std.specs.Prelude.{Bool, false, ◌&&◌, not, List, ℕ, eqb}
use Rattle.laws_words.specs.Words.{pick}
use Rattle.rules_client.specs.declared.Check.{Check}
use Rattle.rules_client.specs.MapCheck.{no_check}
use Rattle.rules_client.specs.Client.{Client}
use Rattle.rules_client.specs.Events as pool
use Rattle.rules_client.specs.ClientEvents.{Event, next}
use Rattle.theorem_map_check.specs.Checks.{taken}
use Rattle.rules_node.specs.declared.Checked.{Checked}
use Rattle.rules_node.specs.Face.{checked}
use Rattle.rules_world.specs.Station.{Station, face}
use Rattle.rules_world.specs.Whole.{World, Happening, after}
use Rattle.rules_world.specs.History.{Starts, History}

-- The world, what the client's check knows, and of each id whether its node, asked by the last tick, found its own row empty.
pub record Watched : Type 0 where
  pub world : World
  pub check : Check
  pub found : ℕ → Bool

-- the client in it
abbrev pub client_of : Watched → Client
client_of v = record { pool = v.world.pool; check = v.check }

-- ---- what can happen

-- happens: what C-15 speaks of. tick: the client's tick, with its map. asked: MAP_CHECK of the last tick comes to the node of an id, which answers. answered: the client gets an answer: its map, the number, whose it is, empty or not.
pub data Sight : Type 0 where
  happens : Happening → Sight
  tick : List ℕ → Sight
  asked : ℕ → Sight
  answered : List ℕ → ℕ → ℕ → Bool → Sight

-- what an event of the client leaves of the check
abbrev pub check_after : Watched → Happening → Check
check_after v (Happening.node j e) = v.check
check_after v (Happening.client e got) = (next (Event.of_pool e) (client_of v)).check
check_after v (Happening.hand_enable j) = (next (Event.of_pool (pool.Event.enable j)) (client_of v)).check
check_after v (Happening.arrives lengths) = v.check
check_after v (Happening.breaks_off lengths) = v.check
check_after v (Happening.another j xs ys) = v.check

-- a node's answer says that its own row is empty
abbrev pub is_empty : Checked → Bool
is_empty (Checked.Refused why) = false
is_empty (Checked.Empty empty) = empty

abbrev pub finds : Station → Bool
finds s = is_empty (checked (face s) s.map s.staging).answer

abbrev pub seen : Watched → Sight → Watched
seen v (Sight.happens x) = record { world = after v.world x; check = check_after v x; found = v.found }
seen v (Sight.tick xs) = record { world = v.world; check = (next (Event.tick xs) (client_of v)).check; found = λ j. v.found j && not (taken (Event.tick xs) (client_of v)) }
seen v (Sight.asked j) = record { world = v.world; check = v.check; found = λ k. pick (eqb k j) (finds (v.world.nodes j)) (v.found k) }
seen v (Sight.answered xs number m empty) = record { world = v.world; check = (next (Event.check_answer xs number m empty) (client_of v)).check; found = v.found }

-- ---- histories

pub data Watching : Watched → Type 0 where
  start : (w : World) → Starts w → Watching (record { world = w; check = no_check; found = λ j. false })
  then : (v : Watched) (x : Sight) → Watching v → Watching (seen v x)

-- without its checks it is one of C-15's
abbrev pub unchecked : {v : Watched} → Watching v → History v.world
unchecked (Watching.start w s) = History.start w s
unchecked (Watching.then v (Sight.happens x) h) = History.then v.world x (unchecked h)
unchecked (Watching.then v (Sight.tick xs) h) = unchecked h
unchecked (Watching.then v (Sight.asked j) h) = unchecked h
unchecked (Watching.then v (Sight.answered xs number m empty) h) = unchecked h
