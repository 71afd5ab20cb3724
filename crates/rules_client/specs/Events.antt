-- All events of the client, each with its data; where a map is lent, with the map's bytes; and what each is. What an event hands back is what the contracts of the client's methods say.
use Rattle.std.specs.Prelude.{Bool, List, ℕ}
use Rattle.rules_base.specs.Refusals.{Test}
use Rattle.rules_pool.specs.declared.Mode.{Mode}
use Rattle.rules_pool.specs.declared.State.{State}
use Rattle.rules_pool.specs.declared.Session.{Session}
use Rattle.rules_pool.specs.declared.Job.{Job}
use Rattle.rules_pool.specs.declared.Reply.{Reply}
use Rattle.rules_pool.specs.declared.Turn.{Turn}
use Rattle.rules_pool.specs.Sessions.{session_at}
use Rattle.rules_client.specs.Joins as Joins
use Rattle.rules_client.specs.Extend as Extending
use Rattle.rules_client.specs.Enables as Enables
use Rattle.rules_client.specs.Links as Links
use Rattle.rules_client.specs.Remove as Remove
use Rattle.rules_client.specs.Writes as Writes
use Rattle.rules_client.specs.Answers as Answers
use Rattle.rules_pool.specs.declared.Pool.{Pool}
use Rattle.rules_client.specs.Client.{carried, sound_for, extend_turn, remove_turn, write_turn, answer_turn, clean_to, synced_turn}

-- join create: id. join assemble: id, set, version. remove: map, id, mode. write: map, chunk, reached set. synced: a NORMAL node's map, member, chunk.
-- answer: map, number, reply. extend: map.
pub data Event : Type 0 where
  join_create : ℕ → Event
  join_assemble : ℕ → ℕ → ℕ → Event
  enable : ℕ → Event
  maintenance : ℕ → Event
  link_down : ℕ → Event
  store_check : ℕ → Event
  rejoin : ℕ → Event
  try_run : Event
  remove : List ℕ → ℕ → Mode → Event
  write : List ℕ → ℕ → ℕ → Event
  synced : List ℕ → ℕ → ℕ → Event
  answer : List ℕ → ℕ → Reply → Event
  extend : List ℕ → Event

-- the map that is lent, if any
pub data Lent : Type 0 where
  none : Lent
  some : List ℕ → Lent

-- the record of an id's session, and its state
abbrev pub record_of : Pool → ℕ → Session
record_of c id = session_at c.roster id

abbrev pub state_of : Pool → ℕ → State
state_of c id = (record_of c id).state

-- the pool's kind
abbrev pub is_sync : Pool → Bool
is_sync c = c.roster.sync

abbrev pub job_of : Pool → Job
job_of c = c.job

-- What an event is. tests: its refusal is the first of them that applies. turn: its answer, the next state, and what is done to the lent map. lent, left: the map that is lent, and
-- what is left of it; the map lent to synced is only read.
pub record Rule : Type 0 where
  pub tests : Pool → List Test
  pub turn : Pool → Turn
  pub lent : Lent
  pub left : Pool → Lent

-- an event that no map is lent to
abbrev pub of_session : (Pool → List Test) → (Pool → Turn) → Rule
of_session tests turn = record { tests = tests; turn = turn; lent = Lent.none; left = λ c. Lent.none }

abbrev pub rule_of : Event → Rule
rule_of (Event.join_create id) = of_session (λ c. Joins.create_tests c id) (λ c. Joins.join_create c id)
rule_of (Event.join_assemble id set version) = of_session (λ c. Joins.assemble_tests c id set version) (λ c. Joins.join_assemble c id set version)
rule_of (Event.enable id) = of_session (λ c. Enables.enable_tests c id) (λ c. Enables.enable c id)
rule_of (Event.maintenance id) = of_session (λ c. Enables.maintenance_tests c id) (λ c. Enables.maintenance c id)
rule_of (Event.link_down id) = of_session (λ c. Links.down_tests c id) (λ c. Links.link_down c id)
rule_of (Event.store_check id) = of_session (λ c. Links.check_tests c id) (λ c. Links.store_check c id)
rule_of (Event.rejoin id) = of_session (λ c. Links.rejoin_tests c id) (λ c. Links.rejoin c id)
rule_of Event.try_run =
    record {
      tests = λ c. Links.try_tests c;
      turn = λ c. Links.try_run c;
      lent = Lent.none;
      left = λ c. Lent.none;
    }
rule_of (Event.remove xs id mode) =
    record {
      tests = λ c. Remove.remove_tests c (sound_for c xs) id mode;
      turn = λ c. remove_turn c xs id mode;
      lent = Lent.some xs;
      left = λ c. Lent.some (carried (remove_turn c xs id mode).effect xs);
    }
rule_of (Event.write xs chunk reached) =
    record {
      tests = λ c. Writes.write_tests c (sound_for c xs) chunk reached;
      turn = λ c. write_turn c xs chunk reached;
      lent = Lent.some xs;
      left = λ c. Lent.some (carried (write_turn c xs chunk reached).effect xs);
    }
rule_of (Event.synced xs member chunk) =
    record {
      tests = λ c. Writes.sync_tests c (sound_for c xs) member chunk (clean_to xs chunk 16);
      turn = λ c. synced_turn c xs member chunk;
      lent = Lent.some xs;
      left = λ c. Lent.some xs;
    }
rule_of (Event.answer xs number a) =
    record {
      tests = λ c. Answers.answer_tests c (sound_for c xs) number;
      turn = λ c. answer_turn c xs number a;
      lent = Lent.some xs;
      left = λ c. Lent.some (carried (answer_turn c xs number a).effect xs);
    }
rule_of (Event.extend xs) =
    record {
      tests = λ c. Extending.extend_tests c (sound_for c xs);
      turn = λ c. extend_turn c xs;
      lent = Lent.some xs;
      left = λ c. Lent.some (carried (extend_turn c xs).effect xs);
    }

abbrev pub tests_of : Event → Pool → List Test
tests_of e = (rule_of e).tests

abbrev pub turn_of : Event → Pool → Turn
turn_of e = (rule_of e).turn

abbrev pub lent_to : Event → Lent
lent_to e = (rule_of e).lent

abbrev pub map_left : Event → Pool → Lent
map_left e = (rule_of e).left

-- the next pool
abbrev pub next : Event → Pool → Pool
next e c = (turn_of e c).pool
