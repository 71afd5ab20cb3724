-- The client's state rules.
use Rattle.std.specs.Prelude.{Bool, true, false, ◌&&◌, ◌||◌, not, List, [], ◌∷◌, ℕ, ◌+◌, eqb, leb, ltb}
use Rattle.laws_words.specs.Words.{pick, all}
use Rattle.rules_base.specs.Limits.{chunk_limit, answer_limit, version_limit, version_top}
use Rattle.rules_base.specs.Sets.{has, size}
use Rattle.rules_pool.specs.declared.Phase.{Phase}
use Rattle.rules_pool.specs.declared.Run.{Run}
use Rattle.rules_pool.specs.declared.Stage.{Stage}
use Rattle.rules_pool.specs.declared.Job.{Job}
use Rattle.rules_pool.specs.declared.Roster.{Roster}
use Rattle.rules_pool.specs.declared.Pool.{Pool}
use Rattle.rules_pool.specs.Session.{is_normal, is_removing, candidate}
use Rattle.rules_pool.specs.declared.Kind.{Kind}
use Rattle.rules_pool.specs.Sessions.{session_at, ids_of}
use Rattle.rules_pool.specs.Still.{possible}

-- The sessions with their numbers: the count right; at most one mark, none while one is NORMAL; version at least 1, version + count at most the top; the
-- membership a set of ids, empty in a sync pool; and no record that alone breaks a rule (mark and maintenance only on FAILED or RECONNECTING; in a non-sync
-- pool every session but a REMOVING one a member; in a sync pool no mark, flag or RECONNECTING).
abbrev pub roster_rules : Roster → List Bool
roster_rules ro =
    eqb ro.count (pick ro.sync 0 (size (ids_of Kind.Normals ro)))
    ∷ leb (size (ids_of Kind.Marked ro)) 1
    ∷ (eqb (ids_of Kind.Marked ro) 0 || eqb (ids_of Kind.Normals ro) 0)
    ∷ leb 1 ro.version
    ∷ leb (ro.version + ro.count) version_top
    ∷ ltb ro.members 65536
    ∷ (not ro.sync || eqb ro.members 0)
    ∷ eqb (ids_of Kind.Odd ro) 0
    ∷ []

unfoldable pub roster_ok : Roster → Bool
roster_ok ro = all (roster_rules ro)

-- case 3 until the enabling spread begins: none NORMAL, every member a candidate, the chosen a member
unfoldable pub all_asked : Roster → ℕ → Bool
all_asked ro source =
    eqb (ids_of Kind.Normals ro) 0 && (eqb (ids_of (Kind.Strays ro.members) ro) 0 && has ro.members source)

-- case 2 until then: none NORMAL, the source a candidate
unfoldable pub one_asked : Roster → ℕ → Bool
one_asked ro source = eqb (ids_of Kind.Normals ro) 0 && candidate (session_at ro source)

-- ENABLE_POOL awaited: in case 3 as before it, else of the source alone
abbrev pub asked : Bool → Roster → ℕ → Bool
asked true ro source = all_asked ro source
asked false ro source = one_asked ro source

-- An enabling spread's source is NORMAL; before that the source, in case 3 every member, is a candidate and none NORMAL. No source is among its own
-- receivers.
abbrev pub source_ok : Phase → Roster → ℕ → ℕ → Bool
source_ok (Phase.Versions best) ro source left = all_asked ro source
source_ok (Phase.Base s) ro source left = all_asked ro source && not (has left source)
source_ok Phase.LastIo ro source left = all_asked ro source
source_ok (Phase.Gather s) ro source left = all_asked ro source && not (has left source)
source_ok (Phase.Enable every) ro source left = asked every ro source && not (has left source)
source_ok (Phase.Spread s) ro source left = is_normal (session_at ro source).state

-- somebody is in hand; while ENABLE_POOL is awaited, the source is
abbrev pub hand_ok : Phase → ℕ → Bool
hand_ok (Phase.Versions best) left = not (eqb left 0)
hand_ok (Phase.Base s) left = not (eqb left 0)
hand_ok Phase.LastIo left = not (eqb left 0)
hand_ok (Phase.Gather s) left = not (eqb left 0)
hand_ok (Phase.Enable every) left = true
hand_ok (Phase.Spread s) left = not (eqb left 0)

-- A run: in no sync pool; version at most the limit; those left are ids, somebody, and candidates; its source; count plus answers still possible at most the limit.
abbrev pub run_rules : Roster → Run → List Bool
run_rules ro r =
    not ro.sync
    ∷ leb ro.version version_limit
    ∷ ltb r.left 65536
    ∷ hand_ok r.phase r.left
    ∷ eqb (ids_of (Kind.Strays r.left) ro) 0
    ∷ source_ok r.phase ro r.source r.left
    ∷ leb (r.taken + possible ro.members r) answer_limit
    ∷ []

unfoldable pub run_ok : Roster → Run → Bool
run_ok ro r = all (run_rules ro r)

-- The awaited peer of a POOL_INFO is another id of 0 to 15.
abbrev pub stage_ok : Stage → ℕ → Bool
stage_ok Stage.Leave id = true
stage_ok (Stage.Info peer) id = ltb peer 16 && not (eqb peer id)

-- In a removal its session is REMOVING.
abbrev pub job_ok : Job → Roster → Bool
job_ok Job.Idle ro = true
job_ok (Job.Running r) ro = run_ok ro r
job_ok (Job.Removing m) ro = is_removing (session_at ro m.id).state && stage_ok m.stage m.id

-- All of them, with 1 to 4,096 chunks.
abbrev pub rules : Pool → List Bool
rules p = leb 1 p.chunks ∷ leb p.chunks chunk_limit ∷ roster_ok p.roster ∷ job_ok p.job p.roster ∷ []

unfoldable pub valid_pool : Pool → Bool
valid_pool p = all (rules p)
