-- Tests on a node's state.
use Rattle.std.specs.Prelude.{Bool, true, false, ◌&&◌, ℕ, leb, Option, Some, None}
use Rattle.rules_base.specs.Limits.{map_bytes}
use Rattle.rules_node.specs.declared.State.{State}
use Rattle.rules_node.specs.declared.Node.{Node}

abbrev pub is_empty : State → Bool
is_empty State.Empty = true
is_empty State.Registered = false
is_empty State.Created = false
is_empty State.Normal = false
is_empty State.NoIo = false

abbrev pub is_registered : State → Bool
is_registered State.Empty = false
is_registered State.Registered = true
is_registered State.Created = false
is_registered State.Normal = false
is_registered State.NoIo = false

abbrev pub is_created : State → Bool
is_created State.Empty = false
is_created State.Registered = false
is_created State.Created = true
is_created State.Normal = false
is_created State.NoIo = false

abbrev pub is_normal : State → Bool
is_normal State.Empty = false
is_normal State.Registered = false
is_normal State.Created = false
is_normal State.Normal = true
is_normal State.NoIo = false

abbrev pub is_no_io : State → Bool
is_no_io State.Empty = false
is_no_io State.Registered = false
is_no_io State.Created = false
is_no_io State.Normal = false
is_no_io State.NoIo = true

-- CREATED, NORMAL or NO_IO: a session has joined
abbrev pub is_joined : State → Bool
is_joined State.Empty = false
is_joined State.Registered = false
is_joined State.Created = true
is_joined State.Normal = true
is_joined State.NoIo = true

-- serving: CREATED, NORMAL or NO_IO with a store
abbrev pub is_serving : Node → Bool
is_serving n = is_joined n.state && n.store

-- a transfer is in hand
abbrev pub in_hand : Option ℕ → Bool
in_hand None = false
in_hand (Some bytes) = true

-- the bytes of the map that were taken so far
abbrev pub taken : Option ℕ → ℕ
taken None = 0
taken (Some bytes) = bytes

-- the whole map was taken
abbrev pub is_whole : Option ℕ → Bool
is_whole t = leb map_bytes (taken t)
