-- A node seen as one of the simplified pool: its stored version and its transfer as they are, and of its two maps that they hold at least what is seen.
use Rattle.std.specs.Prelude.{◌≡◌, true, ℕ, leb, Option, Some, None}
use Rattle.laws_words.specs.Words.{pick}
use Rattle.rules_base.specs.Limits.{map_bytes}
use Rattle.rules_base.specs.Chunk.{dirty}
use Rattle.laws_node.proofs.Theorems.{Good}
use Rattle.rules_world.specs.Station.{Station, face}
use Rattle.model_pool.specs.Model as m

abbrev pub transfer_of : Option ℕ → m.Transfer
transfer_of None = m.Transfer.Shut
transfer_of (Some bytes) = pick (leb map_bytes bytes) m.Transfer.Got m.Transfer.Begun

pub record Holds (s : Station) (v : ℕ) (f g : m.Map) (t : m.Transfer) : Type 0 where
  pub ver : s.node.version ≡ v
  pub map : (n c : ℕ) → f n c ≡ true → dirty s.map n c ≡ 1
  pub stg : (n c : ℕ) → g n c ≡ true → dirty s.staging n c ≡ 1
  pub tr : transfer_of s.node.transfer ≡ t

-- the nodes of all ids
pub record Held (f : ℕ → Station) (n : m.Nodes) : Type 0 where
  pub at : (j : ℕ) → Holds (f j) (n.ver j) (n.map j) (n.stg j) (n.tr j)

-- what stays true of a node: it keeps its rules and its two maps are sound; it is that of its id, with the pool's chunk count; one that is registered by create has version 0
pub record Sane (chunks j : ℕ) (s : Station) : Type 0 where
  pub good : Good (face s) s.map s.staging
  pub itself : s.node.id ≡ j
  pub count : s.node.chunks ≡ chunks
  pub new : s.node.create ≡ true → s.node.version ≡ 0
