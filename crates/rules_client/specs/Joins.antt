-- Join: create and assemble.
use Rattle.std.specs.Prelude.{Bool, ◌&&◌, ◌||◌, not, List, [], ◌∷◌, ℕ, eqb, ltb}
use Rattle.laws_words.specs.Words.{pick}
use Rattle.rules_base.specs.Limits.{version_limit}
use Rattle.rules_base.specs.Refusals.{Test, test, refusal}
use Rattle.rules_base.specs.Sets.{has, without}
use Rattle.rules_pool.specs.declared.State.{State}
use Rattle.rules_pool.specs.declared.Roster.{Roster}
use Rattle.rules_pool.specs.declared.Pool.{Pool}
use Rattle.rules_base.specs.declared.Op.{Op}
use Rattle.rules_pool.specs.declared.Told.{Told}
use Rattle.rules_pool.specs.declared.Outcome.{Outcome}
use Rattle.rules_pool.specs.declared.Turn.{Turn}
use Rattle.rules_pool.specs.Session.{is_free}
use Rattle.rules_pool.specs.declared.Kind.{Kind}
use Rattle.rules_pool.specs.Sessions.{session_at, ids_of}
use Rattle.rules_pool.specs.Changes.{enrolled, went, member_entered, taken_over}
use Rattle.rules_pool.specs.Recovery.{with_roster}
use Rattle.rules_pool.specs.Exit.{refused, changed, tried_after}
use Rattle.rules_pool.specs.StateRules.{valid_pool}
use Rattle.rules_pool.specs.Jobs.{is_idle}

-- POOL_INFO, not awaited, to each other session not FAILED or REMOVING; none in a sync pool.
unfoldable pub join_told : Roster → Op → ℕ → Told
join_told ro op id = pick ro.sync Told.Nothing (Told.Infos (without (ids_of Kind.Told ro) id) op id)

-- ---- join, create

abbrev pub create_tests : Pool → ℕ → List Test
create_tests p id =
    test 1 (not (valid_pool p))
    ∷ test 3 (ltb 15 id)
    ∷ test 6 (not (is_idle p.job))
    ∷ test 8 (not (is_free (session_at p.roster id).state))
    ∷ test 17 (not p.roster.sync && p.roster.past.written)
    ∷ test 10 (has p.roster.members id)
    ∷ []

unfoldable pub create_refusal : Pool → ℕ → ℕ
create_refusal p id = refusal (create_tests p id)

-- A new session CREATED, the member entered. In a sync pool it is NORMAL, and nobody is a member.
unfoldable pub created : Roster → ℕ → Roster
created ro id = pick ro.sync (enrolled ro id State.Normal) (member_entered (enrolled ro id State.Created) id)

unfoldable pub create_done : Pool → ℕ → Turn
create_done p id = changed p (created p.roster id) (join_told p.roster Op.AddCreate id)

unfoldable pub join_create : Pool → ℕ → Turn
join_create p id = pick (eqb (create_refusal p id) 0) (create_done p id) (refused p (create_refusal p id))

-- ---- join, assemble: it carries the node's member set and version

-- the set must hold the id, and equal ours unless ours is empty
unfoldable pub set_bars : ℕ → ℕ → ℕ → Bool
set_bars members set id = not (has set id) || (not (eqb members 0) && not (eqb set members))

abbrev pub assemble_tests : Pool → ℕ → ℕ → ℕ → List Test
assemble_tests p id set version =
    test 1 (not (valid_pool p))
    ∷ test 3 (ltb 15 id || ltb 65535 set)
    ∷ test 5 p.roster.sync
    ∷ test 6 (not (is_idle p.job))
    ∷ test 8 (not (is_free (session_at p.roster id).state))
    ∷ test 10 (set_bars p.roster.members set id)
    ∷ test 14 (ltb version_limit version)
    ∷ []

unfoldable pub assemble_refusal : Pool → ℕ → ℕ → ℕ → ℕ
assemble_refusal p id set version = refusal (assemble_tests p id set version)

-- An empty membership takes the set over, the larger version stands, and the session is CREATED, then RECONNECTING.
unfoldable pub assembled : Roster → ℕ → ℕ → ℕ → Roster
assembled ro id set version = went (enrolled (taken_over ro set version) id State.Created) id State.Reconnecting

-- Then recovery is tried.
unfoldable pub assemble_done : Pool → ℕ → ℕ → ℕ → Turn
assemble_done p id set version =
    tried_after p (with_roster p (assembled p.roster id set version)) Outcome.Plain (join_told p.roster Op.AddAssemble id)

unfoldable pub join_assemble : Pool → ℕ → ℕ → ℕ → Turn
join_assemble p id set version =
    pick (eqb (assemble_refusal p id set version) 0)
    (assemble_done p id set version)
    (refused p (assemble_refusal p id set version))
