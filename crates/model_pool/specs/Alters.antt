-- An event of the client that also changes what is seen of the nodes, or what is remembered.
use Rattle.std.specs.Prelude.{◌≡◌, true, false, ℕ}
use Rattle.rules_pool.specs.declared.Message.{Message}
use Rattle.rules_pool.specs.declared.Pool.{Pool}
use Rattle.model_pool.specs.Model as m
use Rattle.model_pool.specs.Steps as s
use Rattle.model_pool.specs.Mirror.{Sees, Works, Posts}

-- the world goes on to one with these nodes and this past, in which the pool q is seen; the message was sent
pub record Alters (q : Pool) (sent : Message) (w : m.World) (n : m.Nodes) (t : m.Past) : Type 0 where
  pub to : m.World
  pub course : s.Course w to
  pub sees : Sees q.roster to.pool
  pub works : Works q.job to.hand
  pub sends : Posts q sent to.hand
  pub nodes : to.nodes ≡ n
  pub past : to.past ≡ t

-- the client took the join of id
abbrev pub join_taken : m.Past → ℕ → m.Past
join_taken t id = record { owe = t.owe; acked = t.acked; been = m.upd t.been id true; ever = t.ever; wait = m.upd t.wait id false }

-- every node without the row of id
abbrev pub row_gone : m.Nodes → ℕ → m.Nodes
row_gone n id = record { ver = n.ver; map = s.rowless id n.map; stg = n.stg; tr = n.tr }

-- node id enabled by hand, with the pool's version and members
abbrev pub by_hand : m.World → ℕ → m.Nodes
by_hand w id = record {
  ver = m.upd w.nodes.ver id w.pool.version;
  map = m.upd w.nodes.map id (m.within w.pool.mem (w.nodes.map id));
  stg = m.upd w.nodes.stg id m.none;
  tr = m.upd w.nodes.tr id m.Transfer.Shut;
}

-- chunk c was written to every NORMAL node, and acknowledged
abbrev pub written_at : m.World → ℕ → m.Nodes
written_at w c = (s.written c w).nodes

abbrev pub written_in : m.World → ℕ → m.Past
written_in w c = (s.written c w).past

-- chunk c of m was synced
abbrev pub synced_at : m.Nodes → ℕ → ℕ → m.Nodes
synced_at n i c = record { ver = n.ver; map = s.bitless i c n.map; stg = n.stg; tr = n.tr }

abbrev pub synced_in : m.Past → ℕ → ℕ → m.Past
synced_in t i c = record { owe = m.upd t.owe i (m.upd (t.owe i) c 0); acked = t.acked; been = t.been; ever = t.ever; wait = t.wait }
