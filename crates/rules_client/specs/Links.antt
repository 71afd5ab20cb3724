-- Link down, store check good, rejoin good, try.
use Rattle.std.specs.Prelude.{Bool, ◌&&◌, ◌||◌, not, List, [], ◌∷◌, ℕ, eqb, ltb}
use Rattle.laws_words.specs.Words.{pick}
use Rattle.rules_base.specs.Refusals.{Test, test, refusal}
use Rattle.rules_pool.specs.declared.Cause.{Cause}
use Rattle.rules_pool.specs.declared.State.{State}
use Rattle.rules_pool.specs.declared.Roster.{Roster}
use Rattle.rules_pool.specs.declared.Job.{Job}
use Rattle.rules_pool.specs.declared.Pool.{Pool}
use Rattle.rules_pool.specs.declared.Message.{Message}
use Rattle.rules_pool.specs.declared.Told.{Told}
use Rattle.rules_pool.specs.declared.Outcome.{Outcome}
use Rattle.rules_pool.specs.declared.Effect.{Effect}
use Rattle.rules_pool.specs.declared.Turn.{Turn}
use Rattle.rules_pool.specs.Session.{is_free, is_created, is_normal, is_failed, is_cut, is_reconnecting, is_removing}
use Rattle.rules_pool.specs.Sessions.{session_at}
use Rattle.rules_pool.specs.Changes.{entered, failed, went}
use Rattle.rules_pool.specs.Run.{receiver}
use Rattle.rules_pool.specs.Recovery.{with_roster, run_ended, disabling_but}
use Rattle.rules_pool.specs.Exit.{refused, accepted, changed, tried_after, halted_if}
use Rattle.rules_pool.specs.StateRules.{valid_pool}
use Rattle.rules_pool.specs.Jobs.{is_idle, is_peer}

-- ---- link down

-- CREATED, NORMAL, RECONNECTING; a REMOVING one only while it is the awaited peer of the removal in hand
unfoldable pub drops : Job → State → ℕ → Bool
drops j st id = (is_created st || (is_normal st || is_reconnecting st)) || (is_removing st && is_peer j id)

abbrev pub down_tests : Pool → ℕ → List Test
down_tests p id =
    test 1 (not (valid_pool p))
    ∷ test 3 (ltb 15 id)
    ∷ test 7 (is_free (session_at p.roster id).state)
    ∷ test 9 (not (drops p.job (session_at p.roster id).state id))
    ∷ []

unfoldable pub down_refusal : Pool → ℕ → ℕ
down_refusal p id = refusal (down_tests p id)

-- to FAILED; a REMOVING one stays so
unfoldable pub dropped : Roster → ℕ → Roster
dropped ro id = pick (is_removing (session_at ro id).state) ro (failed ro id Cause.Link)

-- A run ends, with MAP_DISABLE if a receiver was in hand, not to the session whose link is down; recovery is tried, and the result counts the answers taken
-- in the ended run. A removal halts if this was its awaited peer.
abbrev pub down_at : Job → Pool → ℕ → Turn
down_at Job.Idle p id = changed p (dropped p.roster id) Told.Nothing
down_at (Job.Running r) p id = tried_after p (run_ended (with_roster p (dropped p.roster id))) (Outcome.Taken r.taken) (disabling_but id (receiver r))
down_at (Job.Removing m) p id =
    accepted p
    (halted_if (is_peer (Job.Removing m) id) (with_roster p (dropped p.roster id)))
    Outcome.Plain
    Told.Nothing
    Message.Nothing
    Effect.Keep

unfoldable pub down_done : Pool → ℕ → Turn
down_done p id = down_at p.job p id

unfoldable pub link_down : Pool → ℕ → Turn
link_down p id = pick (eqb (down_refusal p id) 0) (down_done p id) (refused p (down_refusal p id))

-- ---- a session is brought back: store check good, rejoin good

-- the tests of either event, where `may` says that the transition is allowed
abbrev pub back_tests : Pool → ℕ → Bool → List Test
back_tests p id may =
    test 1 (not (valid_pool p))
    ∷ test 3 (ltb 15 id)
    ∷ test 6 (not (is_idle p.job))
    ∷ test 7 (is_free (session_at p.roster id).state)
    ∷ test 9 (not may)
    ∷ []

unfoldable pub back_refusal : Pool → ℕ → Bool → ℕ
back_refusal p id may = refusal (back_tests p id may)

-- ---- store check good

-- FAILED; in a non-sync pool CREATED too
unfoldable pub checks : Bool → State → Bool
checks sync st = is_failed st || (is_created st && not sync)

abbrev pub check_tests : Pool → ℕ → List Test
check_tests p id = back_tests p id (checks p.roster.sync (session_at p.roster id).state)

unfoldable pub check_refusal : Pool → ℕ → ℕ
check_refusal p id = refusal (check_tests p id)

-- A session is brought back: to RECONNECTING, then recovery is tried; in a sync pool to NORMAL.
unfoldable pub check_done : Pool → ℕ → Turn
check_done p id =
    pick p.roster.sync
    (changed p (entered p.roster id) Told.Nothing)
    (tried_after p (with_roster p (went p.roster id State.Reconnecting)) Outcome.Plain Told.Nothing)

unfoldable pub store_check : Pool → ℕ → Turn
store_check p id = pick (eqb (check_refusal p id) 0) (check_done p id) (refused p (check_refusal p id))

-- ---- rejoin good

-- FAILED with cause link, in either kind of pool
abbrev pub rejoin_tests : Pool → ℕ → List Test
rejoin_tests p id = back_tests p id (is_cut (session_at p.roster id).state)

unfoldable pub rejoin_refusal : Pool → ℕ → ℕ
rejoin_refusal p id = refusal (rejoin_tests p id)

-- it brings back exactly as a good store check does
unfoldable pub rejoin : Pool → ℕ → Turn
rejoin p id = pick (eqb (rejoin_refusal p id) 0) (check_done p id) (refused p (rejoin_refusal p id))

-- ---- try

abbrev pub try_tests : Pool → List Test
try_tests p =
    test 1 (not (valid_pool p)) ∷ test 5 p.roster.sync ∷ test 6 (not (is_idle p.job)) ∷ []

unfoldable pub try_refusal : Pool → ℕ
try_refusal p = refusal (try_tests p)

unfoldable pub try_run : Pool → Turn
try_run p = pick (eqb (try_refusal p) 0) (tried_after p p Outcome.Plain Told.Nothing) (refused p (try_refusal p))
