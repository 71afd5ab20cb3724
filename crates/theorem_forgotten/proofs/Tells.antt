-- A history told by the simplified pool: its world is seen, and what is remembered there is what the history says.
use mathlib.Core.Path.{◌≡◌}
use mathlib.Core.Bool.{Bool, true, false}
use Prim.Native.Nat.{ℕ, ◌<◌}
use Rattle.rules_client.specs.Events.{Event}
use Rattle.model_pool.specs.Model as m
use Rattle.model_pool.specs.Invariant.{Inv}
use Rattle.model_pool.specs.Reflects.{Reflects}
use Rattle.rules_world.specs.Whole.{World, Happening}
use Rattle.rules_world.specs.History.{History, joined, waits, acked}
use Rattle.theorem_forgotten.specs.Forgotten.{Missed}

pub record Remembers {w : World} (h : History w) (a : m.World) : Type 0 where
  pub ever : (j : ℕ) → joined h j ≡ a.past.ever j
  pub wait : (j : ℕ) → waits h j ≡ a.past.wait j
  pub acked : (c : ℕ) → acked h c ≡ true → a.past.acked c ≡ true
  pub below : (c : ℕ) → a.past.acked c ≡ true → c < w.pool.chunks
  pub new : (j : ℕ) → (w.nodes j).node.create ≡ true → joined h j ≡ false
  pub owes : (n c : ℕ) → Missed n c h → 0 < a.past.owe n c

pub record Tells {w : World} (h : History w) : Type 0 where
  pub a : m.World
  pub inv : Inv a
  pub reflects : Reflects w a
  pub remembers : Remembers h a

-- an event by which a chunk may come to be missed: a write, extend
abbrev pub grows_by : Event → Bool
grows_by (Event.join_create id) = false
grows_by (Event.join_assemble id set version) = false
grows_by (Event.enable id) = false
grows_by (Event.maintenance id) = false
grows_by (Event.link_down id) = false
grows_by (Event.store_check id) = false
grows_by (Event.rejoin id) = false
grows_by Event.try_run = false
grows_by (Event.remove xs id mode) = false
grows_by (Event.write xs chunk reached) = true
grows_by (Event.synced xs member chunk) = false
grows_by (Event.answer xs number reply) = false
grows_by (Event.extend xs) = true

abbrev pub grows : Happening → Bool
grows (Happening.node j e) = false
grows (Happening.client e got) = grows_by e
grows (Happening.hand_enable j) = false
grows (Happening.arrives lengths) = false
grows (Happening.breaks_off lengths) = false
grows (Happening.another j xs ys) = false
