-- Map check over any history of events from a fresh client (document 02, C-17). What stands here speaks of events alone, and not of what the client remembers of them.
use Rattle.std.specs.Prelude.{◌≡◌, Bool, true, false, not, ◌&&◌, List, ℕ, ◌+◌, ◌%◌, ◌<◌, eqb, length}
use Rattle.rules_base.specs.Chunk.{dirty}
use Rattle.rules_pool.specs.declared.Effect.{Effect}
use Rattle.rules_pool.specs.declared.Session.{Session}
use Rattle.rules_pool.specs.Session.{is_normal}
use Rattle.rules_pool.specs.Jobs.{is_running}
use Rattle.rules_pool.specs.Breaking.{is_accepted, acknowledges}
use Rattle.rules_base.specs.Empty.{row_empty}
use Rattle.rules_client.specs.Client.{Client}
use Rattle.rules_client.specs.Events as pool
use Rattle.theorem_client.specs.Reading as pool_read
use Rattle.rules_client.specs.ClientEvents.{Event, out_of, next, effect_of, lent_to, map_left}
use Rattle.theorem_client.specs.Reached.{Reached}

-- ---- words

-- an event is accepted
abbrev pub taken : Event → Client → Bool
taken e c = is_accepted (out_of e c).answer

-- an answer of member m's that is taken
abbrev pub answers_for : ℕ → Event → Client → Bool
answers_for m (Event.of_pool e) c = false
answers_for m (Event.tick xs) c = false
answers_for m (Event.check_answer xs number j empty) c = eqb j m && taken (Event.check_answer xs number j empty) c

-- a tick that is taken
abbrev pub ticks : Event → Client → Bool
ticks (Event.of_pool e) c = false
ticks (Event.tick xs) c = taken (Event.tick xs) c
ticks (Event.check_answer xs number j empty) c = false

-- From the client c events lead to c', and each of them, at the client that it comes to, is of this sort.
pub data Between (sort : Event → Client → Type 0) (c : Client) : Client → Type 0 where
  none : Between sort c c
  more : (c' : Client) (e : Event) → Between sort c c' → sort e c' → Between sort c (next e c')

-- the record of an id's session
abbrev pub session_of : Client → ℕ → Session
session_of c j = pool.record_of c.pool j

-- ---- two empty answers in a row

-- "No acknowledged write, no session change and no run", and no other answer of member m's.
pub record Quiet (m : ℕ) (e : Event) (c : Client) : Type 0 where
  pub unwritten : acknowledges (out_of e c).answer ≡ false
  pub sessions : (j : ℕ) → session_of (next e c) j ≡ session_of c j
  pub before : is_running c.pool.job ≡ false
  pub after : is_running (next e c).pool.job ≡ false
  pub other : answers_for m e c ≡ false

-- Member m gave an empty answer, which was taken and zeroed nothing, and then the events to the client c were quiet: the first of two in a row, if the next answer of m's is empty too.
pub record First (m : ℕ) (c : Client) : Type 0 where
  pub at : Client
  pub reached : Reached at
  pub xs : List ℕ
  pub number : ℕ
  pub accepted : taken (Event.check_answer xs number m true) at ≡ true
  pub kept : effect_of (Event.check_answer xs number m true) at ≡ Effect.Keep
  pub quiet : Between (Quiet m) (next (Event.check_answer xs number m true) at) c

-- The answer zeroes a client row: member j's.
abbrev pub Zeroes : Client → List ℕ → ℕ → ℕ → Bool → ℕ → Type 0
Zeroes c xs number m empty j = effect_of (Event.check_answer xs number m empty) c ≡ Effect.ZeroRow j

-- "Two empty answers in a row for that member, with no acknowledged write, no session change and no run between them, and then the client row is zeroed." From any history: an answer that zeroes
-- a row zeroes the answering member's, is taken and empty, and is the second in a row. Refused: one answer that clears; a write, a session change or a run between them that does not break the row.
abbrev pub TwoInARow : Type 0
TwoInARow = (c : Client) → Reached c → (xs : List ℕ) (number m : ℕ) (empty : Bool) (j : ℕ) → Zeroes c xs number m empty j
    → (j ≡ m) × (taken (Event.check_answer xs number m empty) c ≡ true) × (empty ≡ true) × First m c

-- And then it is: after such a first answer the next one of m's that is taken and empty zeroes its row. Refused: a row that is never zeroed.
abbrev pub ThenZeroed : Type 0
ThenZeroed = (c : Client) (xs : List ℕ) (number m : ℕ) → Reached c → First m c → taken (Event.check_answer xs number m true) c ≡ true → Zeroes c xs number m true m

-- ---- which answers are taken

-- no tick, and no answer of member m's
pub record Waits (m : ℕ) (e : Event) (c : Client) : Type 0 where
  pub tick : ticks e c ≡ false
  pub other : answers_for m e c ≡ false

-- The last tick that was taken asked member m, under this number: its session was NORMAL and its row in the client map not empty; and no answer of m's was taken since.
pub record Asked (m number : ℕ) (c : Client) : Type 0 where
  pub at : Client
  pub reached : Reached at
  pub xs : List ℕ
  pub accepted : taken (Event.tick xs) at ≡ true
  pub normal : is_normal (pool.state_of at.pool m) ≡ true
  pub row : row_empty xs m ≡ false
  pub numbered : (next (Event.tick xs) at).check.tick ≡ number
  pub counted : number ≡ (at.check.tick + 1) % 4294967296
  pub since : Between (Waits m) (next (Event.tick xs) at) c

-- "Answers carry their tick's number; another number, or a member whose answer is not due, is refusal 13." Refused: an answer to an older tick that is taken, or a second one to the same; one of a
-- member that was not asked.
abbrev pub OnlyDue : Type 0
OnlyDue = (c : Client) → Reached c → (xs : List ℕ) (number m : ℕ) (empty : Bool) → taken (Event.check_answer xs number m empty) c ≡ true → Asked m number c

-- ---- what clears a bit of the client map

-- the event has a part in a removal
abbrev pub in_removal : pool_read.Part → Bool
in_removal pool_read.Part.none = false
in_removal (pool_read.Part.remove id mode) = true
in_removal (pool_read.Part.answer m a) = true

-- What clears a chunk of member m's in the map that is lent: the check, by an answer of m's that zeroes its row; or a removal.
pub data Clears (m : ℕ) (c : Client) : Event → Type 0 where
  check : (xs : List ℕ) (number : ℕ) → Zeroes c xs number m true m → Clears m c (Event.check_answer xs number m true)
  removal : (e : pool.Event) → in_removal (pool_read.part_of e c.pool) ≡ true → Clears m c (Event.of_pool e)

-- Nothing else but removal zeroes a client row, nor clears a bit of one (a map that has not 8,192 bytes is refused and stays as it is). Refused: any other event that does, or a check that zeroes
-- another member's row.
abbrev pub NothingElse : Type 0
NothingElse = (c : Client) → Reached c → (e : Event) (xs ys : List ℕ) → lent_to e ≡ pool.Lent.some xs → map_left e c ≡ pool.Lent.some ys → length xs ≡ 8192
    → (m k : ℕ) → m < 16 → k < 4096 → dirty xs m k ≡ 1 → dirty ys m k ≡ 0 → Clears m c e
