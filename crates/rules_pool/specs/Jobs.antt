-- The job in hand: whether there is one, and who is awaited in a removal.
use Rattle.std.specs.Prelude.{Bool, true, false, ℕ, eqb}
use Rattle.rules_pool.specs.declared.Stage.{Stage}
use Rattle.rules_pool.specs.declared.Job.{Job}

-- no job is in hand
abbrev pub is_idle : Job → Bool
is_idle Job.Idle = true
is_idle (Job.Running r) = false
is_idle (Job.Removing m) = false

-- a run is in hand
abbrev pub is_running : Job → Bool
is_running Job.Idle = false
is_running (Job.Running r) = true
is_running (Job.Removing m) = false

-- who is awaited in the removal of id: itself for LEAVE_POOL, the peer for POOL_INFO
abbrev pub peer_at : Stage → ℕ → ℕ
peer_at Stage.Leave id = id
peer_at (Stage.Info peer) id = peer

-- id is the awaited peer of the removal in hand
abbrev pub is_peer : Job → ℕ → Bool
is_peer Job.Idle id = false
is_peer (Job.Running r) id = false
is_peer (Job.Removing m) id = eqb (peer_at m.stage m.id) id
