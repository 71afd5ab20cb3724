-- When a node takes an event: what must hold, each with the number that is given where it does not ("Node", the table of refusals; C-11, C-13, C-20).
use Rattle.std.specs.Prelude.{◌≡◌, ◌≢◌, ◌⊎◌, true, false, ◌+◌, ◌-◌, ◌^◌, ◌≤◌, ◌<◌, length, Some, None}
use Rattle.rules_base.specs.declared.Op.{Op}
use Rattle.rules_node.specs.declared.State.{State}
use Rattle.rules_node.specs.declared.Node.{Node}
use Rattle.rules_node.specs.Events.{Event}
use Rattle.rules_node.specs.Held.{Held}
use Rattle.theorem_node_exact.specs.Words.{Iff, Accepts, AnId, ASet, In, Joined, Serving, so_far, APart, InOrder}

-- what an event needs of a node, by the number that is given where it does not hold
pub record Needs : Type 1 where
  pub three : Type 0
  pub four : Type 0
  pub nine : Type 0
  pub ten : Type 0
  pub fourteen : Type 0
  pub fifteen : Type 0
  pub sixteen : Type 0

-- nothing but that the node's own id is one (else 3)
abbrev pub nothing : Node → Needs
nothing n = record { three = AnId n.id; four = Unit {0}; nine = Unit {0}; ten = Unit {0}; fourteen = Unit {0}; fifteen = Unit {0}; sixteen = Unit {0} }

-- and besides this, else that number
abbrev pub else3 : Type 0 → Needs → Needs
else3 p r = record { three = r.three × p; four = r.four; nine = r.nine; ten = r.ten; fourteen = r.fourteen; fifteen = r.fifteen; sixteen = r.sixteen }

abbrev pub else4 : Type 0 → Needs → Needs
else4 p r = record { three = r.three; four = p; nine = r.nine; ten = r.ten; fourteen = r.fourteen; fifteen = r.fifteen; sixteen = r.sixteen }

abbrev pub else9 : Type 0 → Needs → Needs
else9 p r = record { three = r.three; four = r.four; nine = p; ten = r.ten; fourteen = r.fourteen; fifteen = r.fifteen; sixteen = r.sixteen }

abbrev pub else10 : Type 0 → Needs → Needs
else10 p r = record { three = r.three; four = r.four; nine = r.nine; ten = p; fourteen = r.fourteen; fifteen = r.fifteen; sixteen = r.sixteen }

abbrev pub else14 : Type 0 → Needs → Needs
else14 p r = record { three = r.three; four = r.four; nine = r.nine; ten = r.ten; fourteen = p; fifteen = r.fifteen; sixteen = r.sixteen }

abbrev pub else15 : Type 0 → Needs → Needs
else15 p r = record { three = r.three; four = r.four; nine = r.nine; ten = r.ten; fourteen = r.fourteen; fifteen = p; sixteen = r.sixteen }

abbrev pub else16 : Type 0 → Needs → Needs
else16 p r = record { three = r.three; four = r.four; nine = r.nine; ten = r.ten; fourteen = r.fourteen; fifteen = r.fifteen; sixteen = p }

abbrev pub needs : Event → Node → Needs
-- "Register create: EMPTY"
needs Event.register_create n = else9 (n.state ≡ State.Empty) (nothing n)
-- "Register add (stores set, holding itself, else 10, and version): EMPTY ..; NO_IO without store"
needs (Event.register_add set version) n =
    else3 (ASet set) (else9 ((n.state ≡ State.Empty) ⊎ ((n.state ≡ State.NoIo) × (n.store ≡ false))) (else10 (In set n.id) (else14 (version ≤ 2 ^ 63 - 34) (nothing n))))
-- "Unregister: REGISTERED ..; NO_IO with store ..; delete there 9"
needs (Event.unregister delete) n = else9 ((n.state ≡ State.Registered) ⊎ ((n.state ≡ State.NoIo) × (n.store ≡ true) × (delete ≡ false))) (nothing n)
-- "Join create: REGISTERED marked"
needs (Event.join_create set) n = else3 (ASet set) (else9 ((n.state ≡ State.Registered) × (n.create ≡ true)) (nothing n))
-- "Assemble or rejoin: REGISTERED unmarked, NORMAL, NO_IO with store"
needs Event.assemble n =
    else9 (((n.state ≡ State.Registered) × (n.create ≡ false)) ⊎ (n.state ≡ State.Normal) ⊎ ((n.state ≡ State.NoIo) × (n.store ≡ true))) (nothing n)
-- "Leave: from CREATED, NORMAL, NO_IO"
needs (Event.leave delete) n = else9 (Joined n.state) (nothing n)
-- "Enable 1: serving"; "member set (holding itself, else 10)"
needs (Event.enable1 version set) n = else3 (ASet set) (else9 (Serving n) (else10 (In set n.id) (else14 (version ≤ 2 ^ 63 - 34) (nothing n))))
-- "Enable 0 and fault: NORMAL, NO_IO"
needs Event.enable0 n = else9 ((n.state ≡ State.Normal) ⊎ (n.state ≡ State.NoIo)) (nothing n)
needs Event.fault n = else9 ((n.state ≡ State.Normal) ⊎ (n.state ≡ State.NoIo)) (nothing n)
-- "Write, synced: NORMAL only"; 14 "in a node's write, above 2^63 - 17"
needs (Event.write chunk set version) n = else3 (ASet set) (else4 (chunk < n.chunks) (else9 (n.state ≡ State.Normal) (else14 (version ≤ 2 ^ 63 - 17) (nothing n))))
needs (Event.synced member chunk) n = else3 (AnId member) (else4 (chunk < n.chunks) (else9 (n.state ≡ State.Normal) (nothing n)))
-- "POOL_INFO, in CREATED, NORMAL and NO_IO, never about itself (10): .. add-assemble demands it (else 10)"
needs (Event.pool_info op member) n =
    else3 (AnId member) (else9 (Joined n.state) (else10 ((member ≢ n.id) × (op ≡ Op.AddAssemble → In n.members member)) (nothing n)))
-- "MAP_READY, give, MAP_GET_VER, LAST_IO_TO_MAP: serving"
needs (Event.map_ready keep) n = else9 (Serving n) (nothing n)
-- "parts of 1 to 1,024 bytes", "give such parts from any offset"; "one past byte 8,192" is 16
needs (Event.give_part offset size) n = else9 (Serving n) (else16 ((1 ≤ size) × (size ≤ 1024) × (offset + size ≤ 8192)) (nothing n))
-- "Taking a map, MAP_DONE and MAP_DISABLE give 15, never 9, with nothing in hand." "A part of length 0 or above 1,024, a taken one that does not start where the last ended, one past byte
-- 8,192 or one with a bit past the chunk count is refused with a new number 16, checked last"
needs (Event.take_part offset part) n =
    else15 (n.transfer ≢ None)
    (else16 ((1 ≤ length part) × (length part ≤ 1024) × (offset + length part ≤ 8192) × (offset ≡ so_far n.transfer) × APart n.chunks offset part) (nothing n))
-- "Enable 1 and MAP_DONE store version and member set (holding itself, else 10)"; "MAP_DONE before byte 8,192 stays refusal 15."
needs (Event.map_done enabling version set) n =
    else3 (ASet set) (else10 (In set n.id) (else14 (version ≤ 2 ^ 63 - 34) (else15 (n.transfer ≡ Some 8192) (nothing n))))
needs Event.map_disable n = else15 (n.transfer ≢ None) (nothing n)
needs Event.map_get_ver n = else9 (Serving n) (nothing n)
needs (Event.last_io_to_map chosen) n = else3 (AnId chosen) (else9 (Serving n) (nothing n))
-- Fill: "taken in CREATED, NORMAL and NO_IO, for a member of the node's set, else 10; it also stores the pool's version as a write does, refusal 14 as there"
needs (Event.fill member version) n = else3 (AnId member) (else9 (Joined n.state) (else10 (In n.members member) (else14 (version ≤ 2 ^ 63 - 17) (nothing n))))

-- all of it holds
abbrev pub Meets : Needs → Type 0
Meets r = r.three × r.four × r.nine × r.ten × r.fourteen × r.fifteen × r.sixteen

-- At a node in order an event is accepted exactly when it has what it needs.
abbrev pub AcceptedWhen : Type 0
AcceptedWhen = (e : Event) (w : Held) → InOrder w → Iff (Accepts e w) (Meets (needs e w.at.node))
