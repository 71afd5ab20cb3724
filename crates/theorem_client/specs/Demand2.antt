-- Demand 2 for the client: the states that can be reached, and what holds of them and of every event there.
use Rattle.std.specs.Prelude.{◌≡◌, ◌≢◌, Bool, true, false, List, ℕ, ◌≤◌}
use Rattle.laws_words.specs.Words.{pick}
use Rattle.rules_base.specs.Limits.{chunk_limit}
use Rattle.rules_base.specs.Map.{sound}
use Rattle.rules_pool.specs.declared.Mode.{Mode}
use Rattle.rules_pool.specs.declared.State.{State}
use Rattle.rules_pool.specs.declared.Answer.{Answer}
use Rattle.rules_pool.specs.Session.{is_normal, is_removing}
use Rattle.rules_pool.specs.Table.{legal}
use Rattle.rules_pool.specs.Changes.{unmarked}
use Rattle.rules_pool.specs.StateRules.{valid_pool}
use Rattle.rules_pool.specs.declared.Pool.{Pool}
use Rattle.rules_client.specs.Client.{fresh_pool}
use Rattle.rules_client.specs.Events.{Event, turn_of, next, Lent, lent_to, map_left, record_of, state_of, is_sync}
use Rattle.theorem_client.specs.Reading.{concerns, touches}

-- A pool is reached if it is a fresh one of 1 to 4,096 chunks, sync or not, or what an event handed back at a reached one: any event, with any
-- data and any lent bytes, accepted or refused.
pub data Reached : Pool → Type 0 where
  start : (sync : Bool) (chunks : ℕ) → 1 ≤ chunks → chunks ≤ chunk_limit → Reached (fresh_pool sync chunks)
  then : (c : Pool) (e : Event) → Reached c → Reached (next e c)

-- Every reached client keeps the state rules.
abbrev pub RulesKept : Type 0
RulesKept = (c : Pool) → Reached c → valid_pool c ≡ true

-- So refusal 1 is never given there.
abbrev pub NeverOne : Type 0
NeverOne = (c : Pool) → Reached c → (e : Event) (n : ℕ) → (turn_of e c).answer ≡ Answer.Refused n → n ≢ 1

-- What one event may make of the state of id's session: it stays; it goes along source document 001's table; it begins, at join create CREATED (in a sync pool
-- NORMAL), at join assemble CREATED, then RECONNECTING, at extend RECONNECTING; while it is REMOVING its LEAVE_POOL is done, or it is freed; and remove, of its own id, may take it to
-- REMOVING and free it in the same event.
pub data Change (sync : Bool) (e : Event) (id : ℕ) (from to : State) : Type 0 where
  stays : to ≡ from → Change sync e id from to
  goes : legal sync from to ≡ true → Change sync e id from to
  created : e ≡ Event.join_create id → from ≡ State.Free → to ≡ pick sync State.Normal State.Created → Change sync e id from to
  assembled : (set version : ℕ) → e ≡ Event.join_assemble id set version → sync ≡ false → from ≡ State.Free → to ≡ State.Reconnecting → Change sync e id from to
  paid : (mode : Mode) → from ≡ State.Removing mode true → to ≡ State.Removing mode false → Change sync e id from to
  freed : is_removing from ≡ true → to ≡ State.Free → Change sync e id from to
  removed : (xs : List ℕ) (mode : Mode) → e ≡ Event.remove xs id mode → legal sync from (State.Removing mode true) ≡ true → to ≡ State.Free → Change sync e id from to
  extended : (xs : List ℕ) → e ≡ Event.extend xs → sync ≡ false → from ≡ State.Free → to ≡ State.Reconnecting → Change sync e id from to

-- At every reached client, every event makes one such change of each session, and never changes the pool's kind.
abbrev pub ByTheTable : Type 0
ByTheTable = (c : Pool) → Reached c → (e : Event) → ((id : ℕ) → Change (is_sync c) e id (state_of c id) (state_of (next e c) id)) × (is_sync (next e c) ≡ is_sync c)

-- At every reached client, no event lowers the version.
abbrev pub VersionNeverFalls : Type 0
VersionNeverFalls = (c : Pool) → Reached c → (e : Event) → c.roster.version ≤ (next e c).roster.version

-- In an event from c to c' some session entered NORMAL.
pub record Entered (c c' : Pool) : Type 0 where
  pub who : ℕ
  pub before : is_normal (state_of c who) ≡ false
  pub after : is_normal (state_of c' who) ≡ true

-- a session's record is as it was; or it is the old one with its mark gone, and some session entered NORMAL
pub data Kept (c c' : Pool) (id : ℕ) : Type 0 where
  equal : record_of c' id ≡ record_of c id → Kept c c' id
  cleared : record_of c' id ≡ unmarked (record_of c id) → Entered c c' → Kept c c' id

-- Every other session's record is kept so.
abbrev pub OthersStay : Type 0
OthersStay = (c : Pool) → Reached c → (e : Event) (id : ℕ) → concerns e c id ≡ false → Kept c (next e c) id

-- Of every event at a reached client.
abbrev pub MapOnly : Type 0
MapOnly = (c : Pool) → Reached c → (e : Event) → touches e c (next e c).roster (turn_of e c).effect ≡ true

-- a lent map, if there is one, is sound for n chunks
abbrev pub sound_lent : ℕ → Lent → Bool
sound_lent n Lent.none = true
sound_lent n (Lent.some xs) = sound n xs

-- The chunk count never changes, and a sound map that is lent is left sound: bits past the chunk count stay 0.
abbrev pub SoundStays : Type 0
SoundStays = (c : Pool) → Reached c → (e : Event)
    → ((next e c).chunks ≡ c.chunks)
    × (sound_lent c.chunks (lent_to e) ≡ true → sound_lent (next e c).chunks (map_left e c) ≡ true)
