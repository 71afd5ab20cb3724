-- The clients that can be reached, and that their pools are those that the theorems about pools speak of: so demands 2 and 3 hold of every client.
use Rattle.std.specs.Prelude.{◌≡◌, Bool, List, ℕ, ◌≤◌}
use Rattle.rules_base.specs.Limits.{chunk_limit}
use Rattle.rules_client.specs.Client.{Client}
use Rattle.rules_client.specs.Client.{fresh}
use Rattle.theorem_client.specs.Demand2 as pool
use Rattle.rules_client.specs.ClientEvents.{Event, next}

-- A client is reached if it is a fresh one of a pool of 1 to 4,096 chunks, sync or not, or what an event handed back at a reached one: any event, with any data and any lent bytes, accepted
-- or refused. A value of this type is a history.
pub data Reached : Client → Type 0 where
  start : (sync : Bool) (chunks : ℕ) → 1 ≤ chunks → chunks ≤ chunk_limit → Reached (fresh sync chunks)
  then : (c : Client) (e : Event) → Reached c → Reached (next e c)

-- The pool of every reached client is a reached pool.
abbrev pub PoolReached : Type 0
PoolReached = (c : Client) → Reached c → pool.Reached c.pool

-- A tick and an answer to it leave the pool as it was, be they accepted or refused.
abbrev pub PoolStays : Type 0
PoolStays =
    ((c : Client) (xs : List ℕ) → (next (Event.tick xs) c).pool ≡ c.pool)
    × ((c : Client) (xs : List ℕ) (number m : ℕ) (empty : Bool) → (next (Event.check_answer xs number m empty) c).pool ≡ c.pool)
