-- A history of a pool from fresh, and what it says of nodes and chunks.
use Rattle.std.specs.Prelude.{◌≡◌, Bool, true, false, ◌&&◌, ◌||◌, not, ℕ, ◌≤◌, eqb}
use Rattle.rules_base.specs.Limits.{chunk_limit}
use Rattle.rules_client.specs.Extend.{picked}
use Rattle.rules_node.specs.declared.Node.{Node}
use Rattle.rules_node.specs.Change as change
use Rattle.rules_client.specs.Client.{fresh_pool}
use Rattle.rules_client.specs.Events.{Event}
use Rattle.rules_node.specs.Events as storage
use Rattle.rules_world.specs.Station.{both_sound}
use Rattle.rules_world.specs.Whole.{World, Happening, accepts, acknowledges, takes, after}

-- ---- histories

-- "One non-sync pool from fresh", with 1 to 4,096 chunks; every node is fresh, with any two sound maps.
pub record Starts (w : World) : Type 0 where
  pub chunks : ℕ
  pub some : 1 ≤ chunks
  pub most : chunks ≤ chunk_limit
  pub pool : w.pool ≡ fresh_pool false chunks
  pub node : (j : ℕ) → (w.nodes j).node ≡ change.fresh j chunks
  pub maps : (j : ℕ) → both_sound (w.nodes j) ≡ true

-- a history that came to this world
pub data History : World → Type 0 where
  start : (w : World) → Starts w → History w
  then : (w : World) (x : Happening) → History w → History (after w x)

-- ---- what it says

-- Where an event of a node comes from: its store is created afresh, added with a version, or given up, deleted or not; it joins by create, or by assemble (or again); a fault; or a message of the client.
pub data Origin : Type 0 where
  afresh : Origin
  added : ℕ → Origin
  given_up : Bool → Origin
  joins_create : Origin
  joins_assemble : Origin
  fault : Origin
  message : Origin

abbrev pub origin_of : storage.Event → Origin
origin_of storage.Event.register_create = Origin.afresh
origin_of (storage.Event.register_add set version) = Origin.added version
origin_of (storage.Event.unregister delete) = Origin.given_up delete
origin_of (storage.Event.join_create set) = Origin.joins_create
origin_of storage.Event.assemble = Origin.joins_assemble
origin_of (storage.Event.leave delete) = Origin.message
origin_of (storage.Event.enable1 version set) = Origin.message
origin_of storage.Event.enable0 = Origin.message
origin_of storage.Event.fault = Origin.fault
origin_of (storage.Event.write chunk set version) = Origin.message
origin_of (storage.Event.synced member chunk) = Origin.message
origin_of (storage.Event.pool_info op member) = Origin.message
origin_of (storage.Event.map_ready keep) = Origin.message
origin_of (storage.Event.give_part offset length) = Origin.message
origin_of (storage.Event.take_part offset part) = Origin.message
origin_of (storage.Event.map_done enable version set) = Origin.message
origin_of storage.Event.map_disable = Origin.message
origin_of storage.Event.map_get_ver = Origin.message
origin_of (storage.Event.last_io_to_map chosen) = Origin.message
origin_of (storage.Event.fill member version) = Origin.message

-- a join, of either kind; one by create
abbrev pub is_join : Origin → Bool
is_join Origin.afresh = false
is_join (Origin.added version) = false
is_join (Origin.given_up delete) = false
is_join Origin.joins_create = true
is_join Origin.joins_assemble = true
is_join Origin.fault = false
is_join Origin.message = false

abbrev pub is_creation : Origin → Bool
is_creation Origin.afresh = false
is_creation (Origin.added version) = false
is_creation (Origin.given_up delete) = false
is_creation Origin.joins_create = true
is_creation Origin.joins_assemble = false
is_creation Origin.fault = false
is_creation Origin.message = false

abbrev pub is_message : Origin → Bool
is_message Origin.afresh = false
is_message (Origin.added version) = false
is_message (Origin.given_up delete) = false
is_message Origin.joins_create = false
is_message Origin.joins_assemble = false
is_message Origin.fault = false
is_message Origin.message = true

-- the store stays what it is: neither created afresh nor deleted, nor added with another version than the node's
abbrev pub keeps_store : Origin → Node → Bool
keeps_store Origin.afresh n = false
keeps_store (Origin.added version) n = eqb version n.version
keeps_store (Origin.given_up delete) n = not delete
keeps_store Origin.joins_create n = true
keeps_store Origin.joins_assemble n = true
keeps_store Origin.fault n = true
keeps_store Origin.message n = true

-- the id that an event of the client takes into the pool, if it is accepted: that of a join, or the one that extend picks
abbrev pub takes_in : Event → World → ℕ → Bool
takes_in (Event.join_create id) w j = eqb j id
takes_in (Event.join_assemble id set version) w j = eqb j id
takes_in (Event.enable id) w j = false
takes_in (Event.maintenance id) w j = false
takes_in (Event.link_down id) w j = false
takes_in (Event.store_check id) w j = false
takes_in (Event.rejoin id) w j = false
takes_in Event.try_run w j = false
takes_in (Event.remove xs id mode) w j = false
takes_in (Event.write xs chunk reached) w j = false
takes_in (Event.synced xs member chunk) w j = false
takes_in (Event.answer xs number reply) w j = false
takes_in (Event.extend xs) w j = eqb j (picked w.pool.roster)

-- it is a write of chunk c
abbrev pub writes : Event → ℕ → Bool
writes (Event.join_create id) c = false
writes (Event.join_assemble id set version) c = false
writes (Event.enable id) c = false
writes (Event.maintenance id) c = false
writes (Event.link_down id) c = false
writes (Event.store_check id) c = false
writes (Event.rejoin id) c = false
writes Event.try_run c = false
writes (Event.remove xs id mode) c = false
writes (Event.write xs chunk reached) c = eqb chunk c
writes (Event.synced xs member chunk) c = false
writes (Event.answer xs number reply) c = false
writes (Event.extend xs) c = false

-- The node that stands at the id has joined: by its own event, or because extend took it in.
abbrev pub joined_by : World → Happening → ℕ → Bool → Bool
joined_by w (Happening.node k e) j was = was || (eqb j k && (is_join (origin_of e) && takes (w.nodes k) e))
joined_by w (Happening.client e got) j was = was || (takes_in e w j && accepts w e)
joined_by w (Happening.hand_enable k) j was = was
joined_by w (Happening.arrives lengths) j was = was
joined_by w (Happening.breaks_off lengths) j was = was
joined_by w (Happening.another k xs ys) j was = was && not (eqb j k)

abbrev pub joined : {w : World} → History w → ℕ → Bool
joined (start w s) j = false
joined (then w x h) j = joined_by w x j (joined h j)

-- It joined by create, and the client has not taken that join.
abbrev pub waits_by : World → Happening → ℕ → Bool → Bool
waits_by w (Happening.node k e) j was = was || (eqb j k && (is_creation (origin_of e) && takes (w.nodes k) e))
waits_by w (Happening.client e got) j was = was && not (takes_in e w j && accepts w e)
waits_by w (Happening.hand_enable k) j was = was
waits_by w (Happening.arrives lengths) j was = was
waits_by w (Happening.breaks_off lengths) j was = was
waits_by w (Happening.another k xs ys) j was = was && not (eqb j k)

abbrev pub waits : {w : World} → History w → ℕ → Bool
waits (start w s) j = false
waits (then w x h) j = waits_by w x j (waits h j)

-- A write of chunk c was acknowledged.
abbrev pub acked_by : World → Happening → ℕ → Bool → Bool
acked_by w (Happening.node k e) c was = was
acked_by w (Happening.client e got) c was = was || (writes e c && acknowledges w e)
acked_by w (Happening.hand_enable k) c was = was
acked_by w (Happening.arrives lengths) c was = was
acked_by w (Happening.breaks_off lengths) c was = was
acked_by w (Happening.another k xs ys) c was = was

abbrev pub acked : {w : World} → History w → ℕ → Bool
acked (start w s) c = false
acked (then w x h) c = acked_by w x c (acked h c)
