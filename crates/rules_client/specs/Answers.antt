-- The answer to an awaited message.
use Rattle.std.specs.Prelude.{Bool, ◌&&◌, not, List, [], ◌∷◌, ℕ, eqb, Option, Some, None}
use Rattle.laws_words.specs.Words.{pick}
use Rattle.rules_base.specs.Refusals.{Test, test, refusal}
use Rattle.rules_pool.specs.declared.Roster.{Roster}
use Rattle.rules_pool.specs.declared.Job.{Job}
use Rattle.rules_pool.specs.declared.Pool.{Pool}
use Rattle.rules_pool.specs.declared.Outcome.{Outcome}
use Rattle.rules_pool.specs.declared.Reply.{Reply}
use Rattle.rules_pool.specs.declared.Effect.{Effect}
use Rattle.rules_pool.specs.declared.Turn.{Turn}
use Rattle.rules_pool.specs.Changes.{entered}
use Rattle.rules_pool.specs.declared.Move.{Move}
use Rattle.rules_pool.specs.Run.{takes}
use Rattle.rules_pool.specs.StateRules.{valid_pool}
use Rattle.rules_pool.specs.Jobs.{is_idle}
use Rattle.rules_pool.specs.Exit.{refused, accepted}
use Rattle.rules_pool.specs.declared.Posted.{Posted}
use Rattle.rules_pool.specs.Recovery.{with_roster, gone_on, disabling}
use Rattle.rules_client.specs.Removal as removal
use Rattle.rules_client.specs.Remove.{gone}

-- something is awaited, and this is its number
abbrev pub awaits : Pool → ℕ → Bool
awaits p number = not (is_idle p.job) && eqb number p.number

-- `sound` says that the lent client map is
abbrev pub answer_tests : Pool → Bool → ℕ → List Test
answer_tests p sound number =
    test 1 (not (valid_pool p)) ∷ test 2 (not sound) ∷ test 13 (not (awaits p number)) ∷ []

unfoldable pub answer_refusal : Pool → Bool → ℕ → ℕ
answer_refusal p sound number = refusal (answer_tests p sound number)

-- who became NORMAL, if one did
abbrev pub entered_by : Option ℕ → Roster → Roster
entered_by None ro = ro
entered_by (Some id) ro = entered ro id

-- what an answer did to the run, done to the pool: who became NORMAL, and the next message or the end
unfoldable pub moved_on : Pool → Move → Posted
moved_on p m = gone_on m.next (with_roster p (entered_by m.normal p.roster))

-- an answer in a run: MAP_DISABLE if one gets it, and the answers taken so far, this one with them
abbrev pub reported : Pool → Move → Turn
reported p m = accepted p (moved_on p m).pool (Outcome.Taken m.taken) (disabling m.disable) (moved_on p m).awaited Effect.Keep

abbrev pub answered : Job → Pool → Reply → Turn
answered Job.Idle p a = refused p 13
answered (Job.Running r) p a = reported p (takes p.roster.members p.roster.version r a)
answered (Job.Removing m) p a = gone p (removal.removal_answered m p a)

unfoldable pub answer : Pool → Bool → ℕ → Reply → Turn
answer p sound number a =
    pick (eqb (answer_refusal p sound number) 0) (answered p.job p a) (refused p (answer_refusal p sound number))
