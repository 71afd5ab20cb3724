-- All events of the client: those of its pool, each with its data (crate events), and those of map check. What an event hands back is what the contracts of the client's methods say.
use Rattle.std.specs.Prelude.{◌≡◌, Bool, List, ℕ}
use Rattle.rules_base.specs.Refusals.{Test}
use Rattle.rules_pool.specs.declared.Effect.{Effect}
use Rattle.rules_client.specs.MapCheck.{tick_tests, answer_tests}
use Rattle.rules_client.specs.Client.{Client}
use Rattle.rules_client.specs.Client.{Out}
use Rattle.rules_client.specs.Client.{handed, carried, sound_for, check_handed, tick_turn, check_turn}
use Rattle.rules_client.specs.Events as pool

-- of_pool: an event of the pool. tick: the client's map. check_answer: map, the tick's number, member, empty or not.
pub data Event : Type 0 where
  of_pool : pool.Event → Event
  tick : List ℕ → Event
  check_answer : List ℕ → ℕ → ℕ → Bool → Event

-- its refusal is the first of these that applies
abbrev pub tests_of : Event → Client → List Test
tests_of (Event.of_pool e) c = pool.tests_of e c.pool
tests_of (Event.tick xs) c = tick_tests c.pool (sound_for c.pool xs)
tests_of (Event.check_answer xs number m empty) c = answer_tests c.pool c.check (sound_for c.pool xs) number m

-- what it hands back, and the next client in it
abbrev pub out_of : Event → Client → Out
out_of (Event.of_pool e) c = handed c (pool.turn_of e c.pool)
out_of (Event.tick xs) c = check_handed c (tick_turn c xs)
out_of (Event.check_answer xs number m empty) c = check_handed c (check_turn c xs number m empty)

abbrev pub next : Event → Client → Client
next e c = (out_of e c).client

-- what it does to the client map
abbrev pub effect_of : Event → Client → Effect
effect_of (Event.of_pool e) c = (pool.turn_of e c.pool).effect
effect_of (Event.tick xs) c = (tick_turn c xs).effect
effect_of (Event.check_answer xs number m empty) c = (check_turn c xs number m empty).effect

-- the map that is lent to it, and what is left of it; a tick only reads
abbrev pub lent_to : Event → pool.Lent
lent_to (Event.of_pool e) = pool.lent_to e
lent_to (Event.tick xs) = pool.Lent.some xs
lent_to (Event.check_answer xs number m empty) = pool.Lent.some xs

abbrev pub map_left : Event → Client → pool.Lent
map_left (Event.of_pool e) c = pool.map_left e c.pool
map_left (Event.tick xs) c = pool.Lent.some xs
map_left (Event.check_answer xs number m empty) c = pool.Lent.some (carried (check_turn c xs number m empty).effect xs)

-- what the contract of an event's method says of what it hands back and of the bytes that it leaves in the lent map
pub record Meets (e : Event) (c : Client) (r : Out) (map : pool.Lent) : Type 0 where
  pub answer : r ≡ out_of e c
  pub map_is : map ≡ map_left e c
