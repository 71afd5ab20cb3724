-- Enable, maintenance.
use Rattle.std.specs.Prelude.{Bool, false, ◌&&◌, ◌||◌, not, List, [], ◌∷◌, ℕ, eqb, ltb}
use Rattle.laws_words.specs.Words.{pick}
use Rattle.rules_base.specs.Limits.{version_limit}
use Rattle.rules_base.specs.Refusals.{Test, test, refusal}
use Rattle.rules_pool.specs.declared.Session.{Session}
use Rattle.rules_pool.specs.declared.Pool.{Pool}
use Rattle.rules_pool.specs.declared.Told.{Told}
use Rattle.rules_pool.specs.declared.Outcome.{Outcome}
use Rattle.rules_pool.specs.declared.Turn.{Turn}
use Rattle.rules_pool.specs.Past.{in_service}
use Rattle.rules_pool.specs.Session.{is_free, is_created, is_normal, is_reconnecting}
use Rattle.rules_pool.specs.declared.Way.{Way}
use Rattle.rules_pool.specs.Sessions.{session_at}
use Rattle.rules_pool.specs.Changes.{entered, left, flagged_at}
use Rattle.rules_pool.specs.Recovery.{with_roster}
use Rattle.rules_pool.specs.Exit.{refused, changed, tried_after}
use Rattle.rules_pool.specs.StateRules.{valid_pool}
use Rattle.rules_pool.specs.Jobs.{is_idle}

-- ---- enable

-- CREATED, or RECONNECTING in maintenance
unfoldable pub enables : Session → Bool
enables s = is_created s.state || (is_reconnecting s.state && s.maintenance)

abbrev pub enable_tests : Pool → ℕ → List Test
enable_tests p id =
    test 1 (not (valid_pool p))
    ∷ test 3 (ltb 15 id)
    ∷ test 5 p.roster.sync
    ∷ test 6 (not (is_idle p.job))
    ∷ test 7 (is_free (session_at p.roster id).state)
    ∷ test 9 (not (enables (session_at p.roster id)))
    ∷ test 17 (is_created (session_at p.roster id).state && in_service p.roster.past)
    ∷ test 14 (is_created (session_at p.roster id).state && ltb version_limit p.roster.version)
    ∷ []

unfoldable pub enable_refusal : Pool → ℕ → ℕ
enable_refusal p id = refusal (enable_tests p id)

-- From CREATED to NORMAL. On RECONNECTING in maintenance: maintenance ends and recovery is tried.
unfoldable pub enable_done : Pool → ℕ → Turn
enable_done p id =
    pick (is_created (session_at p.roster id).state)
    (changed p (entered p.roster id) Told.Nothing)
    (tried_after p (with_roster p (flagged_at p.roster id false)) Outcome.Plain Told.Nothing)

unfoldable pub enable : Pool → ℕ → Turn
enable p id = pick (eqb (enable_refusal p id) 0) (enable_done p id) (refused p (enable_refusal p id))

-- ---- maintenance

abbrev pub maintenance_tests : Pool → ℕ → List Test
maintenance_tests p id =
    test 1 (not (valid_pool p))
    ∷ test 3 (ltb 15 id)
    ∷ test 5 p.roster.sync
    ∷ test 6 (not (is_idle p.job))
    ∷ test 7 (is_free (session_at p.roster id).state)
    ∷ test 9 (not (is_normal (session_at p.roster id).state))
    ∷ []

unfoldable pub maintenance_refusal : Pool → ℕ → ℕ
maintenance_refusal p id = refusal (maintenance_tests p id)

-- NORMAL to RECONNECTING, flagged; the node is told by enable 0.
unfoldable pub maintenance_done : Pool → ℕ → Turn
maintenance_done p id = changed p (left p.roster id Way.Maintenance) (Told.Off id)

unfoldable pub maintenance : Pool → ℕ → Turn
maintenance p id = pick (eqb (maintenance_refusal p id) 0) (maintenance_done p id) (refused p (maintenance_refusal p id))
