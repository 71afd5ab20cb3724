-- Map check (document 02, C-17): what a tick and an answer to it do, and what every other event leaves of what the check knows. When they are taken, and which number is given, is in Accepted.
use Rattle.std.specs.Prelude.{◌≡◌, ◌≢◌, ◌⊎◌, ◌↔◌, Bool, true, ◌&&◌, List, ℕ, ◌+◌, ◌%◌, ◌<◌, eqb}
use Rattle.laws_words.specs.Words.{pick}
use Rattle.rules_base.specs.Sets.{has}
use Rattle.rules_base.specs.Chunk.{dirty}
use Rattle.rules_pool.specs.declared.Run.{Run}
use Rattle.rules_pool.specs.declared.Job.{Job}
use Rattle.rules_pool.specs.declared.Pool.{Pool}
use Rattle.rules_pool.specs.declared.Message.{Message}
use Rattle.rules_pool.specs.declared.Told.{Told}
use Rattle.rules_pool.specs.declared.Outcome.{Outcome}
use Rattle.rules_pool.specs.declared.Sent.{Sent}
use Rattle.rules_pool.specs.declared.Answer.{Answer}
use Rattle.rules_client.specs.Client.{Client}
use Rattle.rules_client.specs.Events as pool
use Rattle.rules_client.specs.Events.{Lent}
use Rattle.rules_client.specs.ClientEvents.{Event, out_of, next, map_left}
use Rattle.theorem_client_exact.specs.Words.{In, Normal, session_of, Accepted, InOrder}
use Rattle.theorem_client_exact.specs.Fields.{Holds, IsLeft}

-- the answer of an event that sends these messages, and awaits none
abbrev pub sends : Told → Answer
sends told = Answer.Done (record { outcome = Outcome.Plain; told = told; awaited = Message.Nothing; number = 0 })

-- ---- a tick

-- "each tick asks every NORMAL member with a non-empty client row"; in a pool that is not sync each NORMAL session is a member's
pub record Asked (p : Pool) (xs : List ℕ) (id : ℕ) : Type 0 where
  pub normal : Normal p id
  pub chunk : ℕ
  pub below : chunk < 4096
  pub dirty : dirty xs id chunk ≡ 1

-- the ticks are numbered from 1, modulo 2^32
abbrev pub next_tick : Client → ℕ
next_tick c = (c.check.tick + 1) % 4294967296

-- MAP_CHECK with the tick's number goes to each; their answers are due, and no others. Pool, map and the empty answers that stand stay.
pub record Ticked (c : Client) (xs : List ℕ) : Type 0 where
  pub asked : ℕ
  pub who : Holds asked (Asked c.pool xs)
  pub answer : (out_of (Event.tick xs) c).answer ≡ sends (Told.Checks asked (next_tick c))
  pub pool : (next (Event.tick xs) c).pool ≡ c.pool
  pub tick : (next (Event.tick xs) c).check.tick ≡ next_tick c
  pub due : (next (Event.tick xs) c).check.due ≡ asked
  pub once : (next (Event.tick xs) c).check.once ≡ c.check.once
  pub map : map_left (Event.tick xs) c ≡ Lent.some xs

abbrev pub TickDoes : Type 0
TickDoes = (c : Client) (xs : List ℕ) → InOrder c.pool → Accepted (out_of (Event.tick xs) c).answer → Ticked c xs

-- ---- an answer to it

-- "our rule is two empty answers in a row for that member .., and then the client row is zeroed": the answer is due no longer; an empty one stands where none did; the second, or one that is not empty,
-- leaves none standing. Every other row, the pool, the tick and all other members' answers stay; the map stays sound.
pub record Answered (c : Client) (xs : List ℕ) (number member : ℕ) (empty : Bool) (e : Event) : Type 0 where
  pub answer : (out_of e c).answer ≡ sends Told.Nothing
  pub pool : (next e c).pool ≡ c.pool
  pub tick : (next e c).check.tick ≡ c.check.tick
  pub due : (id : ℕ) → In (next e c).check.due id ↔ ((id ≢ member) × In c.check.due id)
  pub once : (id : ℕ) → In (next e c).check.once id ↔ (((id ≢ member) × In c.check.once id) ⊎ ((id ≡ member) × (empty ≡ true) × (¬ (In c.check.once member))))
  pub map : IsLeft (λ ys m k. pick (eqb m member && (empty && has c.check.once member)) 0 (dirty ys m k)) c.pool.chunks (Lent.some xs) (map_left e c)

abbrev pub AnswerDoes : Type 0
AnswerDoes = (c : Client) (xs : List ℕ) (number member : ℕ) (empty : Bool) → InOrder c.pool → Accepted (out_of (Event.check_answer xs number member empty) c).answer
    → Answered c xs number member empty (Event.check_answer xs number member empty)

-- ---- every other event

-- "no acknowledged write, no session change and no run between them": the event is one of these
pub data Breaks (p p' : Pool) (s : Sent) : Type 0 where
  acknowledged : (list : ℕ) → s.outcome ≡ Outcome.Written true list → Breaks p p' s
  changed : (id : ℕ) → session_of p' id ≢ session_of p id → Breaks p p' s
  before : (r : Run) → p.job ≡ Job.Running r → Breaks p p' s
  after : (r : Run) → p'.job ≡ Job.Running r → Breaks p p' s

-- An accepted event of the pool that is one leaves no empty answer standing; no other does. The tick's number stays, and whose answer is due: also that of a member whose session changed.
pub record Stands (e : pool.Event) (c : Client) (s : Sent) : Type 0 where
  pub tick : (next (Event.of_pool e) c).check.tick ≡ c.check.tick
  pub due : (next (Event.of_pool e) c).check.due ≡ c.check.due
  pub broken : Breaks c.pool (pool.next e c.pool) s → (next (Event.of_pool e) c).check.once ≡ 0
  pub unbroken : ¬ (Breaks c.pool (pool.next e c.pool) s) → (next (Event.of_pool e) c).check.once ≡ c.check.once

abbrev pub CheckStands : Type 0
CheckStands = (e : pool.Event) (c : Client) (s : Sent) → InOrder c.pool → (pool.turn_of e c.pool).answer ≡ Answer.Done s → Stands e c s
