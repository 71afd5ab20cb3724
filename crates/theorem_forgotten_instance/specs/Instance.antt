-- C-15 is not said of nothing: one history that keeps the premises, with three members and chunk 3. Member 2 misses a write, comes back by each of the three cases, is deleted, and a leg is added under its id.
use Rattle.std.specs.Prelude.{◌≡◌, true, false, ℕ}
use Rattle.rules_base.specs.Sets.{has}
use Rattle.rules_base.specs.Chunk.{dirty}
use Rattle.rules_pool.specs.declared.Step.{Step}
use Rattle.rules_pool.specs.declared.Phase.{Phase}
use Rattle.rules_pool.specs.declared.Run.{Run}
use Rattle.rules_pool.specs.declared.Job.{Job}
use Rattle.rules_pool.specs.Session.{is_normal}
use Rattle.rules_world.specs.Whole.{World, Happening, state_in, after}
use Rattle.rules_world.specs.History.{History, then}
use Rattle.theorem_forgotten.specs.Premises.{Kept}
use Rattle.theorem_forgotten.specs.Forgotten.{Missed}

-- a world, and the history that came to it and kept the premises
pub record Moment : Type 0 where
  pub world : World
  pub history : History world
  pub kept : Kept history

-- the second history is the first with what happened after it
pub data Later {w : World} (h : History w) : (u : World) → History u → Type 0 where
  here : Later h w h
  more : (u : World) (g : History u) (x : Happening) → Later h u g → Later h (after u x) (then u x g)

abbrev pub Then : Moment → Moment → Type 0
Then s t = Later s.history t.world t.history

-- member m missed chunk 3, and the sessions of the set are NORMAL: it is dirty for m on their nodes
pub record Owing (m normals : ℕ) (t : Moment) : Type 0 where
  pub missed : Missed m 3 t.history
  pub normal : (j : ℕ) → has normals j ≡ true → is_normal (state_in t.world j) ≡ true
  pub marked : (j : ℕ) → has normals j ≡ true → dirty (t.world.nodes j).map m 3 ≡ 1

-- a run has begun with this source
pub record Began (phase : Phase) (source : ℕ) (t : Moment) : Type 0 where
  pub run : Run
  pub job : t.world.pool.job ≡ Job.Running run
  pub is : run.phase ≡ phase
  pub from : run.source ≡ source

-- 3 is {0, 1}, 7 is {0, 1, 2}.
pub record Instance : Type 0 where
  pub wrote : Moment
  pub missed : Owing 2 3 wrote
  pub began-1 : Moment
  pub case-1 : Began (Phase.Spread Step.Ready) 0 began-1
  pub back-1 : Moment
  pub owed-1 : Owing 2 7 back-1
  pub began-2 : Moment
  pub case-2 : Began (Phase.Enable false) 1 began-2
  pub back-2 : Moment
  pub owed-2 : Owing 2 7 back-2
  pub began-3 : Moment
  pub case-3 : Began (Phase.Versions 0) 0 began-3
  pub back-3 : Moment
  pub owed-3 : Owing 2 7 back-3
  pub deleted : Moment
  pub gone : has deleted.world.pool.roster.members 2 ≡ false
  pub extended : Moment
  pub owed-again : Owing 2 7 extended
  pub order-1 : Then wrote began-1
  pub order-2 : Then began-1 back-1
  pub order-3 : Then back-1 began-2
  pub order-4 : Then began-2 back-2
  pub order-5 : Then back-2 began-3
  pub order-6 : Then began-3 back-3
  pub order-7 : Then back-3 deleted
  pub order-8 : Then deleted extended
