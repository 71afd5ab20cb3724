-- Write ended, synced.
use Rattle.std.specs.Prelude.{Bool, true, false, ◌&&◌, ◌||◌, not, List, [], ◌∷◌, ℕ, eqb, ltb}
use Rattle.laws_words.specs.Words.{pick}
use Rattle.laws_words.specs.Loops.{run_at}
use Rattle.rules_base.specs.Refusals.{Test, test, refusal}
use Rattle.rules_base.specs.Sets.{has}
use Rattle.rules_pool.specs.declared.Cause.{Cause}
use Rattle.rules_pool.specs.declared.Roster.{Roster}
use Rattle.rules_pool.specs.declared.Job.{Job}
use Rattle.rules_pool.specs.declared.Pool.{Pool}
use Rattle.rules_pool.specs.declared.Message.{Message}
use Rattle.rules_pool.specs.declared.Told.{Told}
use Rattle.rules_pool.specs.declared.Outcome.{Outcome}
use Rattle.rules_pool.specs.declared.Effect.{Effect}
use Rattle.rules_pool.specs.declared.Turn.{Turn}
use Rattle.rules_pool.specs.Session.{is_free, is_normal}
use Rattle.rules_pool.specs.declared.Kind.{Kind}
use Rattle.rules_pool.specs.Sessions.{session_at, ids_of}
use Rattle.rules_pool.specs.Changes.{failed, written}
use Rattle.rules_pool.specs.Recovery.{with_roster}
use Rattle.rules_pool.specs.Exit.{refused, accepted, halted_if}
use Rattle.rules_pool.specs.StateRules.{valid_pool}
use Rattle.rules_pool.specs.Jobs.{is_running, peer_at}

-- ---- write ended: a chunk, and the set of the sessions that it reached. `sound` says that the lent client map is.

-- no session is NORMAL, or the reached set names an id that is not
unfoldable pub reach_bars : Roster → ℕ → Bool
reach_bars ro reached = eqb (ids_of Kind.Normals ro) 0 || not (eqb (ids_of (Kind.Abnormal reached) ro) 0)

abbrev pub write_tests : Pool → Bool → ℕ → ℕ → List Test
write_tests p sound chunk reached =
    test 1 (not (valid_pool p))
    ∷ test 2 (not sound)
    ∷ test 3 (ltb 65535 reached)
    ∷ test 4 (not (ltb chunk p.chunks))
    ∷ test 5 p.roster.sync
    ∷ test 6 (is_running p.job)
    ∷ test 11 (reach_bars p.roster reached)
    ∷ []

unfoldable pub write_refusal : Pool → Bool → ℕ → ℕ → ℕ
write_refusal p sound chunk reached = refusal (write_tests p sound chunk reached)

-- NORMAL sessions not reached become FAILED, ascending.
unfoldable pub miss_step : ℕ → ℕ → Roster → Roster
miss_step reached i ro = pick (is_normal (session_at ro i).state && not (has reached i)) (failed ro i Cause.Io) ro

unfoldable pub missed : Roster → ℕ → Roster
missed ro reached = run_at (miss_step reached) 16 0 ro

-- A write that did not reach the awaited peer of a removal is its failed answer: that peer, NORMAL before, became FAILED.
abbrev pub loses : Job → Roster → ℕ → Bool
loses Job.Idle ro reached = false
loses (Job.Running r) ro reached = false
loses (Job.Removing m) ro reached = has (ids_of (Kind.Unreached reached) ro) (peer_at m.stage m.id)

-- If any was reached, the write is acknowledged, and the mark list is every member that is not NORMAL, save one being deleted: client map and each reached
-- node mark it, the node being sent the version after these changes. Reached by none: neither.
unfoldable pub marks : Pool → Pool → ℕ → ℕ → Turn
marks before after chunk reached =
    pick (eqb reached 0)
    (accepted before after (Outcome.Written false 0) Told.Nothing Message.Nothing Effect.Keep)
    (accepted before after
    (Outcome.Written true (ids_of Kind.Listed after.roster))
    (Told.Marks reached chunk (ids_of Kind.Listed after.roster) after.roster.version)
    Message.Nothing
    (Effect.Mark (ids_of Kind.Listed after.roster) chunk))

-- That a write was acknowledged is remembered.
unfoldable pub write_done : Pool → ℕ → ℕ → Turn
write_done p chunk reached = marks p (halted_if (loses p.job p.roster reached) (with_roster p (written (missed p.roster reached) (not (eqb reached 0))))) chunk reached

unfoldable pub write_ended : Pool → Bool → ℕ → ℕ → Turn
write_ended p sound chunk reached =
    pick (eqb (write_refusal p sound chunk reached) 0) (write_done p chunk reached) (refused p (write_refusal p sound chunk reached))

-- ---- synced: a member and a chunk; `clean`: the ids for which the chunk is clean in the lent map of a NORMAL node.

-- the member NORMAL, the chunk dirty for it, and another NORMAL member clean
unfoldable pub syncs : Roster → ℕ → ℕ → Bool
syncs ro member clean =
    is_normal (session_at ro member).state && (not (has clean member) && not (eqb (ids_of (Kind.Reached clean) ro) 0))

abbrev pub sync_tests : Pool → Bool → ℕ → ℕ → ℕ → List Test
sync_tests p sound member chunk clean =
    test 1 (not (valid_pool p))
    ∷ test 2 (not sound)
    ∷ test 3 (ltb 15 member)
    ∷ test 4 (not (ltb chunk p.chunks))
    ∷ test 5 p.roster.sync
    ∷ test 6 (is_running p.job)
    ∷ test 7 (is_free (session_at p.roster member).state)
    ∷ test 11 (eqb (ids_of Kind.Normals p.roster) 0)
    ∷ test 12 (not (syncs p.roster member clean))
    ∷ []

unfoldable pub sync_refusal : Pool → Bool → ℕ → ℕ → ℕ → ℕ
sync_refusal p sound member chunk clean = refusal (sync_tests p sound member chunk clean)

-- NORMAL nodes clear it; the client map keeps it.
unfoldable pub sync_done : Pool → ℕ → ℕ → Turn
sync_done p member chunk =
    accepted p p Outcome.Plain (Told.Clears (ids_of Kind.Normals p.roster) member chunk) Message.Nothing Effect.Keep

unfoldable pub synced : Pool → Bool → ℕ → ℕ → ℕ → Turn
synced p sound member chunk clean =
    pick (eqb (sync_refusal p sound member chunk clean) 0) (sync_done p member chunk) (refused p (sync_refusal p sound member chunk clean))
