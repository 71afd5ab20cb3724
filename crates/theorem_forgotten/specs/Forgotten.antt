-- C-15: no missed chunk is forgotten.
use Rattle.std.specs.Prelude.{◌≡◌, true, false, List, ◌⊎◌, ℕ}
use Rattle.rules_base.specs.Sets.{has}
use Rattle.rules_base.specs.Chunk.{dirty}
use Rattle.rules_pool.specs.Session.{is_normal, is_deleting}
use Rattle.rules_client.specs.Extend.{picked}
use Rattle.rules_client.specs.Events.{Event}
use Rattle.rules_world.specs.Whole.{World, state_in, Happening, accepts, acknowledges, after}
use Rattle.rules_world.specs.History.{History, start, then, acked}
use Rattle.theorem_forgotten.specs.Premises.{Kept}

-- m is in the pool and not being deleted
pub record In (w : World) (m : ℕ) : Type 0 where
  pub member : has w.pool.roster.members m ≡ true
  pub stays : is_deleting (state_in w m) ≡ false

-- An acknowledged write of chunk c that did not reach m.
pub record Passed (w : World) (x : Happening) (m c : ℕ) : Type 0 where
  pub xs : List ℕ
  pub reached : ℕ
  pub got : ℕ
  pub wrote : x ≡ Happening.client (Event.write xs c reached) got
  pub done : acknowledges w (Event.write xs c reached) ≡ true
  pub not-it : has reached m ≡ false
  pub member : In w m

-- C-20: "all chunks acknowledged before it count as missed by the new leg". Extend picks m.
pub record Added {w : World} (h : History w) (x : Happening) (m c : ℕ) : Type 0 where
  pub xs : List ℕ
  pub got : ℕ
  pub extends : x ≡ Happening.client (Event.extend xs) got
  pub done : accepts w (Event.extend xs) ≡ true
  pub it : picked w.pool.roster ≡ m
  pub before : acked h c ≡ true

-- a sync of chunk c for m
pub record Synced (w : World) (x : Happening) (m c : ℕ) : Type 0 where
  pub xs : List ℕ
  pub got : ℕ
  pub is : x ≡ Happening.client (Event.synced xs m c) got
  pub done : accepts w (Event.synced xs m c) ≡ true

-- Member m missed chunk c: some acknowledged write of c did not reach it, or it was acknowledged before extend took m in; and from then to now m was in the pool and not being deleted, with no sync of c for it.
abbrev pub Missed : (m c : ℕ) {w : World} → History w → Type 0
Missed m c (start w s) = ⊥
Missed m c (then w x h) = (Passed w x m c ⊎ (Added h x m c ⊎ (Missed m c h × ¬ (Synced w x m c)))) × In (after w x) m

-- Then it is dirty for m on every NORMAL session's node: in a bit of that node's 8,192 bytes.
abbrev pub NeverForgotten : Type 0
NeverForgotten = (w : World) (h : History w) → Kept h → (m c : ℕ) → Missed m c h → (j : ℕ) → is_normal (state_in w j) ≡ true → dirty (w.nodes j).map m c ≡ 1
