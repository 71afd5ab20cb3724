-- What becomes of a node's fields, its map and its staging by an accepted event, sentence by sentence as documents 01 ("Node") and 02 have it. One line a field, one clause an event: a clause
-- names what the event changes, and the rest stays.
use Rattle.std.specs.Prelude.{◌≡◌, ◌≢◌, ◌⊎◌, Bool, true, false, List, [], ◌∷◌, ◌++◌, ℕ, ◌+◌, max, length, Option, Some, None}
use Rattle.laws_words.specs.Words.{pick}
use Rattle.rules_base.specs.Summary.{agree}
use Rattle.rules_base.specs.declared.Op.{Op}
use Rattle.rules_node.specs.declared.State.{State}
use Rattle.rules_node.specs.declared.Answer.{Answer}
use Rattle.rules_node.specs.Events.{Event}
use Rattle.rules_node.specs.Face.{answers}
use Rattle.rules_node.specs.Held.{Held, next}
use Rattle.theorem_node_exact.specs.Words.{Iff, Accepts, In, kept_chunks, last_sixteen, Zeroed, Rows, Marked, Cleared, Filled, PartOred, LastIos}

-- members: who is one. kept: the kept chunk numbers, oldest first. map, staging: what is said of the bytes left.
pub record Left : Type 1 where
  pub answer : Answer
  pub state : State
  pub store : Bool
  pub create : Bool
  pub members : ℕ → Type 0
  pub version : ℕ
  pub transfer : Option ℕ
  pub kept : List ℕ
  pub map : List ℕ → Type 0
  pub staging : List ℕ → Type 0

-- "What a rule does not name stays."
abbrev pub stays : Held → Left
stays w =
    record {
      answer = Answer.Done;
      state = w.at.node.state;
      store = w.at.node.store;
      create = w.at.node.create;
      members = In w.at.node.members;
      version = w.at.node.version;
      transfer = w.at.node.transfer;
      kept = kept_chunks w.at.node;
      map = λ left. left ≡ w.map;
      staging = λ left. left ≡ w.staging;
    }

-- all of it, but this is so
abbrev pub answer : Answer → Left → Left
answer a l = record { answer = a; state = l.state; store = l.store; create = l.create; members = l.members; version = l.version; transfer = l.transfer; kept = l.kept; map = l.map; staging = l.staging }

abbrev pub to : State → Left → Left
to s l = record { answer = l.answer; state = s; store = l.store; create = l.create; members = l.members; version = l.version; transfer = l.transfer; kept = l.kept; map = l.map; staging = l.staging }

abbrev pub store : Bool → Left → Left
store b l = record { answer = l.answer; state = l.state; store = b; create = l.create; members = l.members; version = l.version; transfer = l.transfer; kept = l.kept; map = l.map; staging = l.staging }

abbrev pub mark : Bool → Left → Left
mark b l = record { answer = l.answer; state = l.state; store = l.store; create = b; members = l.members; version = l.version; transfer = l.transfer; kept = l.kept; map = l.map; staging = l.staging }

abbrev pub members : (ℕ → Type 0) → Left → Left
members m l = record { answer = l.answer; state = l.state; store = l.store; create = l.create; members = m; version = l.version; transfer = l.transfer; kept = l.kept; map = l.map; staging = l.staging }

abbrev pub version : ℕ → Left → Left
version v l = record { answer = l.answer; state = l.state; store = l.store; create = l.create; members = l.members; version = v; transfer = l.transfer; kept = l.kept; map = l.map; staging = l.staging }

abbrev pub transfer : Option ℕ → Left → Left
transfer t l = record { answer = l.answer; state = l.state; store = l.store; create = l.create; members = l.members; version = l.version; transfer = t; kept = l.kept; map = l.map; staging = l.staging }

abbrev pub kept : List ℕ → Left → Left
kept k l = record { answer = l.answer; state = l.state; store = l.store; create = l.create; members = l.members; version = l.version; transfer = l.transfer; kept = k; map = l.map; staging = l.staging }

abbrev pub map : (List ℕ → Type 0) → Left → Left
map m l = record { answer = l.answer; state = l.state; store = l.store; create = l.create; members = l.members; version = l.version; transfer = l.transfer; kept = l.kept; map = m; staging = l.staging }

abbrev pub staging : (List ℕ → Type 0) → Left → Left
staging s l = record { answer = l.answer; state = l.state; store = l.store; create = l.create; members = l.members; version = l.version; transfer = l.transfer; kept = l.kept; map = l.map; staging = s }

-- "dropped or committed, it is zeroed", and no transfer is in hand
abbrev pub dropped : Left → Left
dropped l = transfer None (staging Zeroed l)

-- its own row
abbrev pub Own : Held → ℕ → Type 0
Own w m = m ≡ w.at.node.id

-- Register add: "EMPTY to REGISTERED ..; NO_IO without store gets its store"
abbrev pub added : State → State
added State.Empty = State.Registered
added State.Registered = State.Registered
added State.Created = State.Created
added State.Normal = State.Normal
added State.NoIo = State.NoIo

-- Unregister: "REGISTERED to EMPTY ..; NO_IO with store stays, .. staging dropped"
abbrev pub given_up : State → Left → Left
given_up State.Empty l = l
given_up State.Registered l = to State.Empty l
given_up State.Created l = l
given_up State.Normal l = l
given_up State.NoIo l = dropped l

abbrev pub leaves : Event → Held → Left
-- "Register create: EMPTY to REGISTERED, marked create; map zeroed, kept chunks gone, membership itself, version 0"
leaves Event.register_create w = to State.Registered (store true (mark true (map Zeroed (kept [] (members (Own w) (version 0 (stays w)))))))
-- "Register add (stores set, .. and version): EMPTY to REGISTERED unmarked, map kept; NO_IO without store gets its store."
leaves (Event.register_add set v) w = to (added w.at.node.state) (store true (mark false (members (In set) (version v (stays w)))))
-- "Unregister: REGISTERED to EMPTY, mark gone (delete zeroes map, members, version); NO_IO with store stays, without it, staging dropped"
leaves (Event.unregister true) w = given_up w.at.node.state (store false (mark false (map Zeroed (members (λ m. ⊥) (version 0 (stays w))))))
leaves (Event.unregister false) w = given_up w.at.node.state (store false (mark false (stays w)))
-- "Join create: REGISTERED marked to CREATED, mark gone, members as given and itself, other rows zeroed."
leaves (Event.join_create set) w = to State.Created (mark false (members (λ m. (m ≡ w.at.node.id) ⊎ In set m) (map (Rows (Own w) w.map) (stays w))))
-- "Assemble or rejoin: .. to NO_IO."
leaves Event.assemble w = to State.NoIo (stays w)
-- "Leave: .. to REGISTERED, or EMPTY without store; delete zeroes the other rows, never its own"; "MAP_DISABLE, Leave and Enable drop staging"
leaves (Event.leave true) w = to (pick w.at.node.store State.Registered State.Empty) (map (Rows (Own w) w.map) (dropped (stays w)))
leaves (Event.leave false) w = to (pick w.at.node.store State.Registered State.Empty) (dropped (stays w))
-- "Enable 1: serving to NORMAL." "Enable 1 and MAP_DONE store version and member set (holding itself, else 10) and zero rows outside it."
leaves (Event.enable1 v set) w = to State.Normal (members (In set) (version v (map (Rows (In set) w.map) (dropped (stays w)))))
-- "Enable 0 and fault: NORMAL, NO_IO to NO_IO."
leaves Event.enable0 w = to State.NoIo (dropped (stays w))
leaves Event.fault w = to State.NoIo (stays w)
-- "A write marks, stores the version, and keeps the last 16 chunk numbers."; "A node's write now stores the larger of its version and the one brought." (C-24)
leaves (Event.write chunk set v) w =
    version (max w.at.node.version v) (map (Marked (In set) chunk w.map) (kept (last_sixteen (kept_chunks w.at.node ++ (chunk ∷ []))) (stays w)))
-- synced: "NORMAL nodes clear it"
leaves (Event.synced member chunk) w = map (Cleared member chunk w.map) (stays w)
-- POOL_INFO: "add-create enters a member with a zero row, add-assemble demands it (else 10), remove-delete zeroes row and entry, if any, remove-disassemble changes nothing"
leaves (Event.pool_info Op.AddCreate member) w = members (λ m. (m ≡ member) ⊎ In w.at.node.members m) (map (Rows (λ m. m ≢ member) w.map) (stays w))
leaves (Event.pool_info Op.AddAssemble member) w = stays w
leaves (Event.pool_info Op.RemoveDelete member) w = members (λ m. (m ≢ member) × In w.at.node.members m) (map (Rows (λ m. m ≢ member) w.map) (stays w))
leaves (Event.pool_info Op.RemoveDisassemble member) w = stays w
-- "MAP_READY gives NO_IO and fills staging (zero, or the map)."; "MAP_READY starts again at offset 0." (C-11)
leaves (Event.map_ready keep) w = to State.NoIo (transfer (Some 0) (staging (λ left. pick keep (left ≡ w.map) (Zeroed left)) (stays w)))
leaves (Event.give_part offset size) w = stays w
-- "Taking a map ORs it in.", as "consecutive parts .. each with its offset" (C-11)
leaves (Event.take_part offset part) w = transfer (Some (offset + length part)) (staging (PartOred offset part w.staging) (stays w))
-- "MAP_DONE commits, NORMAL if enabling."
leaves (Event.map_done enabling v set) w =
    to (pick enabling State.Normal w.at.node.state) (members (In set) (version v (map (Rows (In set) w.staging) (dropped (stays w)))))
leaves Event.map_disable w = dropped (stays w)
-- the answer to MAP_GET_VER carries the version
leaves Event.map_get_ver w = answer (Answer.Version w.at.node.version) (stays w)
-- "LAST_IO_TO_MAP marks each kept chunk for every member but the chosen, passing over a chunk dirty for the chosen."
leaves (Event.last_io_to_map chosen) w = map (LastIos w.at.node chosen w.map) (stays w)
-- Fill: "the new member's row is set for every chunk", "it also stores the pool's version as a write does .. and keeps no chunk number"
leaves (Event.fill member v) w = version (max w.at.node.version v) (map (Filled member w.at.node.chunks w.map) (stays w))

-- what is left is so: every field, the two maps, the summaries (C-18: they are kept true); id and chunk count always stay. (kept: the node's array has its sixteen places, as every value of the
-- type has)
pub record Fields (l : Left) (e : Event) (w : Held) : Type 0 where
  pub answer : (answers e w.at w.map w.staging).answer ≡ l.answer
  pub id : (next e w).at.node.id ≡ w.at.node.id
  pub chunks : (next e w).at.node.chunks ≡ w.at.node.chunks
  pub state : (next e w).at.node.state ≡ l.state
  pub store : (next e w).at.node.store ≡ l.store
  pub create : (next e w).at.node.create ≡ l.create
  pub members : (m : ℕ) → Iff (In (next e w).at.node.members m) (l.members m)
  pub version : (next e w).at.node.version ≡ l.version
  pub transfer : (next e w).at.node.transfer ≡ l.transfer
  pub kept : length w.at.node.kept ≡ 16 → kept_chunks (next e w).at.node ≡ l.kept
  pub map : l.map (next e w).map
  pub staging : l.staging (next e w).staging
  pub summaries : agree (next e w).at.summaries (next e w).map ≡ true

-- Of every accepted event, at any node.
abbrev pub FieldsAsSaid : Type 0
FieldsAsSaid = (e : Event) (w : Held) → Accepts e w → Fields (leaves e w) e w
