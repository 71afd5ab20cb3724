-- A world of the rules seen as one of the simplified pool.
use Rattle.std.specs.Prelude.{◌≡◌, false, ℕ, T, Option, Some}
use Rattle.rules_pool.specs.declared.Reply.{Reply}
use Rattle.rules_pool.specs.Jobs.{is_idle}
use Rattle.laws_client.proofs.Pools.{Valid}
use Rattle.model_pool.specs.Model as m
use Rattle.model_pool.specs.Steps as s
use Rattle.model_pool.specs.Mirror.{awaited_of, Shows}
use Rattle.model_pool.specs.Holds.{Held, Sane}
use Rattle.rules_world.specs.Whole.{Fate, World}

-- what became of the awaited message: it is under way on both sides; or a good reply came, of a message that was accepted, to MAP_GET_VER with the version
pub record Reads (f : Fate) (h : m.Hand) : Type 0 where
  pub under : f ≡ Fate.under_way → h.fate ≡ m.Fate.Under
  pub good : (b : Option ℕ) → f ≡ Fate.came (Reply.Good b) → (h.fate ≡ m.Fate.Taken) × (T (m.asks h.job) → b ≡ Some h.says)

pub record Reflects (w : World) (a : m.World) : Type 0 where
  pub valid : Valid w.pool
  pub plain : w.pool.roster.sync ≡ false
  pub shows : Shows w.pool a
  pub sane : (j : ℕ) → Sane w.pool.chunks j (w.nodes j)
  pub held : Held w.nodes a.nodes
  pub awaits : is_idle w.pool.job ≡ false → w.awaited ≡ awaited_of w.pool
  pub reads : is_idle w.pool.job ≡ false → Reads w.fate a.hand

-- the world w is reached by a course from a, which remembers the same
pub record Comes (w : World) (a : m.World) : Type 0 where
  pub to : m.World
  pub course : s.Course a to
  pub reflects : Reflects w to
  pub past : to.past ≡ a.past
