-- What a removal that is given comes to: nothing is owed to a member that is deleted.
use Rattle.std.specs.Prelude.{◌≡◌, ℕ}
use Rattle.rules_pool.specs.declared.Mode.{Mode}
use Rattle.rules_pool.specs.declared.Message.{Message}
use Rattle.rules_pool.specs.declared.Answer.{Answer}
use Rattle.rules_pool.specs.declared.Pool.{Pool}
use Rattle.rules_pool.specs.declared.Turn.{Turn}
use Rattle.model_pool.specs.Model as m
use Rattle.model_pool.specs.Steps as s
use Rattle.model_pool.specs.Mirror.{Goes}

-- a member is deleted for the first time; or its removal is given otherwise, and what is owed stays
pub data Removed (q : Pool) (sent : Message) (id : ℕ) (mode : Mode) (w : m.World) : Type 0 where
  same : Goes q sent w → Removed q sent id mode w
  deletes : mode ≡ Mode.Delete → (mid : m.World) → s.Course w mid → mid.nodes ≡ w.nodes
      → mid.past ≡ record { owe = m.upd w.past.owe id (λ c. 0); acked = w.past.acked; been = w.past.been; ever = w.past.ever; wait = w.past.wait }
      → Goes q sent mid → Removed q sent id mode w

abbrev pub RemovedAt : Answer → Pool → ℕ → Mode → m.World → Type 0
RemovedAt (Answer.Refused n) q id mode w = Unit {0}
RemovedAt (Answer.Done s) q id mode w = Removed q s.awaited id mode w

abbrev pub RemovedBy : Turn → ℕ → Mode → m.World → Type 0
RemovedBy t id mode w = RemovedAt t.answer t.pool id mode w
