-- Laws of events put together: what holds of the pool after one.
use mathlib.Core.Path.{◌≡◌, refl}
use mathlib.Core.Bool.{Bool, true, false}
use Prim.Native.Nat.{ℕ}
use lib.Dec.{eqb}
use borrow.Author.Tests.{eqb-true}
use Rattle.laws_words.specs.Words.{pick}
use Rattle.laws_words.specs.Tests.{picked, either}
use Rattle.rules_pool.specs.declared.Pool.{Pool}
use Rattle.rules_pool.specs.declared.Turn.{Turn}
use Rattle.rules_pool.specs.Recovery.{removal_ended}
use Rattle.rules_pool.specs.Exit.{refused, halted_if}

-- one turn or the other
pub pools : (P : Pool → Type 0) (b : Bool) (x y : Turn) → (b ≡ true → P x.pool) → (b ≡ false → P y.pool) → P (pick b x y).pool
pools P = picked (λ t. P t.pool)

-- an event is its effect where nothing refuses it, else it changes nothing
pub turn-of : (P : Turn → Type 0) (n : ℕ) (done : Turn) (p : Pool) → P (refused p n) → (n ≡ 0 → P done) → P (pick (eqb n 0) done (refused p n))
turn-of P n done p same change = picked P (eqb n 0) done (refused p n) (λ e. change (eqb-true n 0 e)) (λ e. same)

pub turned : (P : Pool → Type 0) (n : ℕ) (done : Turn) (p : Pool) → P p → (n ≡ 0 → P done.pool) → P (pick (eqb n 0) done (refused p n)).pool
turned P = turn-of (λ t. P t.pool)

-- A refusal leaves the state and the client map as they were, with no message.
pub refuses : (n : ℕ) (done : Turn) (p : Pool) → eqb n 0 ≡ false → pick (eqb n 0) done (refused p n) ≡ refused p n
refuses n done p e = rw e refl

-- a pool whose removal may halt
pub halts : (P : Pool → Type 0) (lost : Bool) (p : Pool) → P (removal_ended p) → P p → P (halted_if lost p)
halts P lost p h g = either P lost (removal_ended p) p h g
