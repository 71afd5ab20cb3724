-- What the client's events tell, of those that tell nodes at most MAP_DISABLE or ENABLE 0.
use Rattle.std.specs.Prelude.{Option, Some, None}
use Prim.Native.Nat.{ℕ}
use mathlib.Core.Bool.{Bool}
use lib.Dec.{eqb}
use Rattle.laws_words.specs.Words.{pick}
use Rattle.laws_words.specs.Tests.{either}
use Rattle.rules_pool.specs.declared.Job.{Job}
use Rattle.rules_pool.specs.declared.Told.{Told}
use Rattle.rules_pool.specs.declared.Reply.{Reply}
use Rattle.rules_pool.specs.declared.Pool.{Pool}
use Rattle.rules_pool.specs.declared.Turn.{Turn}
use Rattle.rules_pool.specs.Session.{is_created}
use Rattle.rules_pool.specs.Sessions.{session_at}
use Rattle.rules_pool.specs.Run.{receiver, takes}
use Rattle.rules_pool.specs.Recovery.{disabling, disabling_but}
use Rattle.rules_pool.specs.Exit.{refused}
use Rattle.rules_client.specs.Links.{down_refusal, down_at, down_done, link_down, check_refusal, check_done, store_check, rejoin_refusal, rejoin, try_refusal, try_run}
use Rattle.rules_client.specs.Enables.{enable_refusal, enable_done, enable, maintenance_refusal, maintenance_done, maintenance}
use Rattle.rules_client.specs.Answers.{answer_refusal, answered, answer}
use Rattle.rules_world.specs.Whole.{told_in}

-- of anything that holds of no message: so of a turn that is done or refused
module _ (P : Told → Type 0) (nothing : P Told.Nothing) where
  abbrev Tells : Turn → Type 0
  Tells t = P (told_in t.answer)

  pub if-told : (p : Pool) (why : ℕ) (done : Turn) → Tells done → Tells (pick (eqb why 0) done (refused p why))
  if-told p why done q = either Tells (eqb why 0) done (refused p why) q nothing

  pub check-told : (p : Pool) (id : ℕ) → Tells (store_check p id)
  unfolding store_check check_done
  check-told p id = if-told p (check_refusal p id) (check_done p id) (either Tells p.roster.sync _ _ nothing nothing)

  pub rejoin-told : (p : Pool) (id : ℕ) → Tells (rejoin p id)
  unfolding rejoin check_done
  rejoin-told p id = if-told p (rejoin_refusal p id) (check_done p id) (either Tells p.roster.sync _ _ nothing nothing)

  pub try-told : (p : Pool) → Tells (try_run p)
  unfolding try_run
  try-told p = if-told p (try_refusal p) _ nothing

  pub enable-told : (p : Pool) (id : ℕ) → Tells (enable p id)
  unfolding enable enable_done
  enable-told p id = if-told p (enable_refusal p id) (enable_done p id) (either Tells (is_created (session_at p.roster id).state) _ _ nothing nothing)

  pub maintenance-told : ((i : ℕ) → P (Told.Off i)) → (p : Pool) (id : ℕ) → Tells (maintenance p id)
  unfolding maintenance maintenance_done
  maintenance-told off p id = if-told p (maintenance_refusal p id) (maintenance_done p id) (off id)

  module _ (disable : (i : ℕ) → P (Told.Disable i)) where
    but-told : (id : ℕ) (x : Option ℕ) → P (disabling_but id x)
    but-told id None = nothing
    but-told id (Some i) = either P (eqb i id) Told.Nothing (Told.Disable i) nothing (disable i)

    who-told : (x : Option ℕ) → P (disabling x)
    who-told None = nothing
    who-told (Some i) = disable i

    pub down-told : (p : Pool) (id : ℕ) → Tells (link_down p id)
    unfolding link_down down_done
    down-told p id = if-told p (down_refusal p id) (down_done p id) (at p.job)
      where
        at : (j : Job) → Tells (down_at j p id)
        at Job.Idle = nothing
        at (Job.Running r) = but-told id (receiver r)
        at (Job.Removing d) = nothing

    pub answer-told : (p : Pool) (sound : Bool) (number : ℕ) (a : Reply) → Tells (answer p sound number a)
    unfolding answer
    answer-told p sound number a = if-told p (answer_refusal p sound number) (answered p.job p a) (at p.job)
      where
        at : (j : Job) → Tells (answered j p a)
        at Job.Idle = nothing
        at (Job.Running r) = who-told (takes p.roster.members p.roster.version r a).disable
        at (Job.Removing d) = nothing
