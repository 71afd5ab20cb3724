-- Extend: a leg is added to a pool in service.
use Rattle.std.specs.Prelude.{Bool, not, List, [], ◌∷◌, ℕ, eqb}
use Rattle.laws_words.specs.Words.{pick}
use Rattle.rules_base.specs.Refusals.{Test, test, refusal}
use Rattle.rules_base.specs.Sets.{lowest}
use Rattle.rules_pool.specs.declared.State.{State}
use Rattle.rules_pool.specs.declared.Roster.{Roster}
use Rattle.rules_pool.specs.declared.Pool.{Pool}
use Rattle.rules_pool.specs.declared.Told.{Told}
use Rattle.rules_pool.specs.declared.Outcome.{Outcome}
use Rattle.rules_pool.specs.declared.Effect.{Effect}
use Rattle.rules_pool.specs.declared.Turn.{Turn}
use Rattle.rules_pool.specs.declared.Kind.{Kind}
use Rattle.rules_pool.specs.Sessions.{ids_of}
use Rattle.rules_pool.specs.Changes.{enrolled, member_entered}
use Rattle.rules_pool.specs.Recovery.{with_roster}
use Rattle.rules_pool.specs.Exit.{refused, tried_with}
use Rattle.rules_pool.specs.StateRules.{valid_pool}
use Rattle.rules_pool.specs.Jobs.{is_idle}

-- the lowest id that is neither a member nor held by a session, 16 where there is none
unfoldable pub picked : Roster → ℕ
picked ro = lowest (ids_of Kind.Unused ro)

-- `sound` says that the lent client map is.
abbrev pub extend_tests : Pool → Bool → List Test
extend_tests p sound =
    test 1 (not (valid_pool p))
    ∷ test 2 (not sound)
    ∷ test 5 p.roster.sync
    ∷ test 6 (not (is_idle p.job))
    ∷ test 11 (eqb (ids_of Kind.Normals p.roster) 0)
    ∷ test 19 (eqb (ids_of Kind.Unused p.roster) 0)
    ∷ []

unfoldable pub extend_refusal : Pool → Bool → ℕ
extend_refusal p sound = refusal (extend_tests p sound)

-- The session begins RECONNECTING, the member is entered.
unfoldable pub extended : Roster → ℕ → Roster
extended ro id = member_entered (enrolled ro id State.Reconnecting) id

-- POOL_INFO as at a join by create, to each other session not FAILED or REMOVING; then the fill, to each NORMAL one. The version is not raised; the fill carries it.
abbrev pub extend_told : Roster → ℕ → Told
extend_told ro id = Told.Extended (ids_of Kind.Told ro) (ids_of Kind.Normals ro) id ro.version

-- The new member's row is set for every chunk in the client map. Then recovery is tried.
unfoldable pub extend_done : Pool → ℕ → Turn
extend_done p id = tried_with p (with_roster p (extended p.roster id)) (Outcome.Picked id) (extend_told p.roster id) (Effect.FillRow id p.chunks)

unfoldable pub extend : Pool → Bool → Turn
extend p sound =
    pick (eqb (extend_refusal p sound) 0)
    (extend_done p (picked p.roster))
    (refused p (extend_refusal p sound))
