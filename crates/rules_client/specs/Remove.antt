-- Remove (delete or disassemble).
use Rattle.std.specs.Prelude.{Bool, ◌&&◌, not, List, [], ◌∷◌, ℕ, eqb, ltb}
use Rattle.laws_words.specs.Words.{pick}
use Rattle.rules_base.specs.Refusals.{Test, test, refusal}
use Rattle.rules_pool.specs.declared.Mode.{Mode}
use Rattle.rules_pool.specs.declared.State.{State}
use Rattle.rules_pool.specs.declared.Pool.{Pool}
use Rattle.rules_pool.specs.declared.Told.{Told}
use Rattle.rules_pool.specs.declared.Outcome.{Outcome}
use Rattle.rules_pool.specs.declared.Turn.{Turn}
use Rattle.rules_pool.specs.Session.{is_free, is_removing, is_deleting}
use Rattle.rules_pool.specs.Changes.{removing}
use Rattle.rules_pool.specs.StateRules.{valid_pool}
use Rattle.rules_pool.specs.Jobs.{is_idle}
use Rattle.rules_pool.specs.Exit.{refused, accepted}
use Rattle.rules_pool.specs.Recovery.{with_roster}
use Rattle.rules_client.specs.declared.Gone.{Gone}
use Rattle.rules_client.specs.Removal.{state_of, started}

-- a removal of this session was begun in another mode
abbrev pub other_mode : State → Mode → Bool
other_mode st Mode.Delete = is_removing st && not (is_deleting st)
other_mode st Mode.Disassemble = is_deleting st

-- `sound` says that the lent client map is
abbrev pub remove_tests : Pool → Bool → ℕ → Mode → List Test
remove_tests p sound id mode =
    test 1 (not (valid_pool p))
    ∷ test 2 (not sound)
    ∷ test 3 (ltb 15 id)
    ∷ test 6 (not (is_idle p.job))
    ∷ test 7 (is_free (state_of p id))
    ∷ test 9 (other_mode (state_of p id) mode)
    ∷ []

unfoldable pub remove_refusal : Pool → Bool → ℕ → Mode → ℕ
remove_refusal p sound id mode = refusal (remove_tests p sound id mode)

-- from any state to REMOVING, then on its way
abbrev pub remove_begun : Pool → ℕ → Mode → Gone
remove_begun p id mode = started (with_roster p (removing p.roster id mode)) id

abbrev pub gone : Pool → Gone → Turn
gone p g = accepted p g.posted.pool Outcome.Plain Told.Nothing g.posted.awaited g.effect

unfoldable pub remove : Pool → Bool → ℕ → Mode → Turn
remove p sound id mode =
    pick (eqb (remove_refusal p sound id mode) 0) (gone p (remove_begun p id mode)) (refused p (remove_refusal p sound id mode))
