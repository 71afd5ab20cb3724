-- Who is chosen in case 3, over all the answers to MAP_GET_VER (document 01, "Recovery runs").
use Rattle.std.specs.Prelude.{◌≡◌, ◌≢◌, List, ℕ, ◌≤◌, Some}
use Rattle.rules_pool.specs.declared.Phase.{Phase}
use Rattle.rules_pool.specs.declared.Run.{Run}
use Rattle.rules_pool.specs.declared.Job.{Job}
use Rattle.rules_pool.specs.declared.Pool.{Pool}
use Rattle.rules_pool.specs.declared.Reply.{Reply}
use Rattle.rules_pool.specs.declared.Sent.{Sent}
use Rattle.rules_client.specs.Events.{Event, next}
use Rattle.theorem_runs.specs.Words.{InOrder, Hands, Member, Lowest, Left}
use Rattle.theorem_runs.specs.Begins.{Tries}

-- The run in hand began with MAP_GET_VER to all, and each member that was asked since brought its version: `version j` is that of j.
pub data Asked (version : ℕ → ℕ) : Pool → Type 0 where
  begins : (c : Pool) (e : Event) (s : Sent) (r : Run) → InOrder c → Hands e c s → Tries c e → (next e c).job ≡ Job.Running r → r.phase ≡ Phase.Versions 0 → Asked version (next e c)
  brings : (c : Pool) (xs : List ℕ) (number : ℕ) (s : Sent) (r : Run) (best x : ℕ) → Asked version c → c.job ≡ Job.Running r → r.phase ≡ Phase.Versions best → Lowest (Left r) x
      → Hands (Event.answer xs number (Reply.Good (Some (version x)))) c s → Asked version (next (Event.answer xs number (Reply.Good (Some (version x)))) c)

-- of all members it brought the highest version, and of those that did it has the lowest id
pub record Highest (version : ℕ → ℕ) (c : Pool) (chosen : ℕ) : Type 0 where
  pub member : Member c chosen
  pub most : (j : ℕ) → Member c j → version j ≤ version chosen
  pub first : (j : ℕ) → Member c j → version j ≡ version chosen → chosen ≤ j

-- "MAP_GET_VER to all, highest chosen, ties to the lowest id (the chosen is the source)": once the run has gone on to its next phase, whatever the versions were.
abbrev pub HighestChosen : Type 0
HighestChosen = (version : ℕ → ℕ) (c : Pool) (r : Run) → Asked version c → c.job ≡ Job.Running r → ((best : ℕ) → r.phase ≢ Phase.Versions best) → Highest version c r.source
