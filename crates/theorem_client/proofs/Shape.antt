-- Every event is its refusal or what it does, by the tests of document 01's table.
use mathlib.Core.Path.{◌≡◌, refl, sym}
use mathlib.Core.Bool.{Bool, true, false, not}
use Prim.Native.Nat.{ℕ}
use lib.Dec.{eqb}
use borrow.Author.Tests.{eqb-true}
use Rattle.laws_words.specs.Tests.{clash}
use Rattle.laws_words.specs.Words.{pick}
use Rattle.rules_base.specs.Refusals.{refusal}
use Rattle.rules_pool.specs.declared.Job.{Job}
use Rattle.rules_pool.specs.declared.Pool.{Pool}
use Rattle.rules_pool.specs.declared.Reply.{Reply}
use Rattle.rules_pool.specs.declared.Turn.{Turn}
use Rattle.rules_pool.specs.Exit.{refused}
use Rattle.rules_pool.specs.Jobs.{is_idle}
use Rattle.rules_client.specs.Links.{down_at}
use Rattle.rules_client.specs.Answers.{answered}
use Rattle.rules_pool.specs.Breaking.{is_accepted}
use Rattle.rules_client.specs.Events.{Event, tests_of}

-- the event's refusal, 0 where none applies
abbrev pub why_not : Event → Pool → ℕ
why_not e c = refusal (tests_of e c)

pub down-done : (j : Job) (p : Pool) (id : ℕ) → is_accepted (down_at j p id).answer ≡ true
down-done Job.Idle p id = refl
down-done (Job.Running r) p id = refl
down-done (Job.Removing m) p id = refl

pub answer-done : (j : Job) (p : Pool) (a : Reply) → is_idle j ≡ false → is_accepted (answered j p a).answer ≡ true
answer-done Job.Idle p a e = clash refl e
answer-done (Job.Running r) p a e = refl
answer-done (Job.Removing m) p a e = refl

pub off : (b : Bool) → not b ≡ true → b ≡ false
off true e = sym e
off false e = refl

-- an event that is accepted does what it does
pub taken : (P : Turn → Type 0) (n : ℕ) (done : Turn) (p : Pool) → (n ≡ 0 → P done) → is_accepted (pick (eqb n 0) done (refused p n)).answer ≡ true → P (pick (eqb n 0) done (refused p n))
taken P n done p does = at (eqb n 0) refl
  where
    at : (b : Bool) → eqb n 0 ≡ b → is_accepted (pick b done (refused p n)).answer ≡ true → P (pick b done (refused p n))
    at true e a = does (eqb-true n 0 e)
    at false e a = clash a refl
