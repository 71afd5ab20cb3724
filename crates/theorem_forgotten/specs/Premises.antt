-- The premises of document 02's C-15, each a clause.
use Rattle.std.specs.Prelude.{◌≡◌, true, false, List, ◌≢◌, ℕ, Option}
use Rattle.rules_base.specs.Sets.{has}
use Rattle.rules_base.specs.Map.{sound}
use Rattle.rules_pool.specs.declared.Mode.{Mode}
use Rattle.rules_pool.specs.declared.Reply.{Reply}
use Rattle.rules_pool.specs.Session.{is_free, is_created, is_normal, is_removing}
use Rattle.rules_pool.specs.Jobs.{is_idle, is_running}
use Rattle.rules_client.specs.Extend.{picked}
use Rattle.rules_client.specs.Events.{Event, turn_of}
use Rattle.rules_node.specs.Events as storage
use Rattle.rules_node.specs.Cuts.{Cuts}
use Rattle.rules_world.specs.Whole.{Fate, World, state_in, Happening, accepts, takes, due_to, takes_all, told_in, enabling}
use Rattle.rules_world.specs.History.{History, start, then, origin_of, is_message, keeps_store, joined, waits}

-- what an event of the client tells node j arrives there, and the node accepts it
abbrev pub Heard : World → Event → ℕ → ℕ → Type 0
Heard w e got j = (has got j ≡ true) × (takes_all (due_to (told_in (turn_of e w.pool).answer) j) (w.nodes j) ≡ true)

-- What is asked of x, which happens after the history h. "One client that keeps its state, nodes that keep the rules" is how a world goes on (after). "Other messages without awaited answer arrive, or
-- the link is reported down before the next event": here they arrive at once or never; that a lost one is followed by a link down is not asked.
pub record Keeps {w : World} (h : History w) (x : Happening) : Type 0 where
  -- "a client join follows its node's join of the same kind": by create, one that no client join took yet; by assemble, any join of that node
  pub follows : (j got : ℕ) → x ≡ Happening.client (Event.join_create j) got → accepts w (Event.join_create j) ≡ true → waits h j ≡ true
  pub assembles : (j set version got : ℕ) → x ≡ Happening.client (Event.join_assemble j set version) got → accepts w (Event.join_assemble j set version) ≡ true → joined h j ≡ true
  -- "and brings its true set and version" (the set need not be true)
  pub brings : (j set version got : ℕ) → x ≡ Happening.client (Event.join_assemble j set version) got → accepts w (Event.join_assemble j set version) ≡ true → version ≡ (w.nodes j).node.version
  -- "the marks of a write arrive with it at each reached node" (added: which accepts them; nothing of a write comes to a node that it did not reach)
  pub marks : (xs : List ℕ) (chunk reached got : ℕ) → x ≡ Happening.client (Event.write xs chunk reached) got → accepts w (Event.write xs chunk reached) ≡ true
      → (j : ℕ) → has reached j ≡ true → Heard w (Event.write xs chunk reached) got j
  -- "no store is created afresh, deleted, or added with another version or set after its node joined" (the set may be another)
  pub stores : (j : ℕ) (e : storage.Event) → x ≡ Happening.node j e → joined h j ≡ true → takes (w.nodes j) e ≡ true → keeps_store (origin_of e) (w.nodes j).node ≡ true
  -- "a hand enable reaches only a node whose session is CREATED and would be accepted, and the client's enable is its next event" (added: it brings the pool's own version and set, and the node accepts it)
  pub by_hand : (j : ℕ) → x ≡ Happening.hand_enable j → (is_created (state_in w j) ≡ true) × (accepts w (Event.enable j) ≡ true) × (takes (w.nodes j) (enabling w) ≡ true)
  pub not-else : (j got : ℕ) → x ≡ Happening.client (Event.enable j) got → accepts w (Event.enable j) ≡ true → is_created (state_in w j) ≡ false
  -- "no message arrives after its answer was taken or its link reported down" (added: nor after its run ended, by another session's link; and, only convenient, no second copy of it): nothing but the client's events and the awaited message, once, while its
  -- job is in hand, brings a message to a node. A MAP_SEND that is answered comes whole, in any parts of 1 to 1,024 bytes.
  pub own : (j : ℕ) (e : storage.Event) → x ≡ Happening.node j e → is_message (origin_of e) ≡ false
  pub once : (lengths : List ℕ) → x ≡ Happening.arrives lengths → (is_idle w.pool.job ≡ false) × (w.fate ≡ Fate.under_way) × Cuts lengths
  pub broken : (lengths : List ℕ) → x ≡ Happening.breaks_off lengths → (is_idle w.pool.job ≡ false) × (w.fate ≡ Fate.under_way)
  -- "no member is deleted while no other session is NORMAL" (a repeat may be given then)
  pub deletes : (xs : List ℕ) (j got : ℕ) → x ≡ Happening.client (Event.remove xs j Mode.Delete) got → accepts w (Event.remove xs j Mode.Delete) ≡ true → is_removing (state_in w j) ≡ false
      → (k : ℕ) × (k ≢ j) × (is_normal (state_in w k) ≡ true)
  -- added: a good answer in a run is what the node answered; a failed one says nothing
  pub answers : (xs : List ℕ) (number got : ℕ) (b : Option ℕ) → x ≡ Happening.client (Event.answer xs number (Reply.Good b)) got → accepts w (Event.answer xs number (Reply.Good b)) ≡ true
      → is_running w.pool.job ≡ true → w.fate ≡ Fate.came (Reply.Good b)
  -- C-20: "its node, registered for adding with version 0"
  pub new : (xs : List ℕ) (got : ℕ) → x ≡ Happening.client (Event.extend xs) got → accepts w (Event.extend xs) ≡ true
      → ((w.nodes (picked w.pool.roster)).node.version ≡ 0) × ((w.nodes (picked w.pool.roster)).node.create ≡ false)
  -- C-20: "the setting of the row arrives as marks do" (added: POOL_INFO before it too)
  pub fills : (xs : List ℕ) (got : ℕ) → x ≡ Happening.client (Event.extend xs) got → accepts w (Event.extend xs) ≡ true
      → (j : ℕ) → is_normal (state_in w j) ≡ true → Heard w (Event.extend xs) got j
  -- added: another node comes only to an id that is neither a member nor held by a session
  pub free : (j : ℕ) (xs ys : List ℕ) → x ≡ Happening.another j xs ys
      → (has w.pool.roster.members j ≡ false) × (is_free (state_in w j) ≡ true) × (sound w.pool.chunks xs ≡ true) × (sound w.pool.chunks ys ≡ true)

-- asked of everything that happened
abbrev pub Kept : {w : World} → History w → Type 0
Kept (start w s) = Unit {0}
Kept (then w x h) = Kept h × Keeps h x
