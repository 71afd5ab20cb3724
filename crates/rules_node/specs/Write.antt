-- Writes and syncs at a node: NORMAL only. `lent` is the number that the lent maps refuse with.
use Rattle.std.specs.Prelude.{not, ◌||◌, List, [], ◌∷◌, ℕ, max, ltb}
use Rattle.rules_base.specs.Limits.{version_top}
use Rattle.rules_base.specs.Refusals.{Test, test, refusal}
use Rattle.rules_node.specs.declared.OnMap.{OnMap}
use Rattle.rules_node.specs.declared.OnStaging.{OnStaging}
use Rattle.rules_node.specs.declared.Answer.{Answer}
use Rattle.rules_node.specs.declared.Node.{Node}
use Rattle.rules_node.specs.declared.Turn.{Turn}
use Rattle.rules_node.specs.States.{is_normal}
use Rattle.rules_node.specs.Change.{stored_version, kept_chunk}
use Rattle.rules_node.specs.Turns.{common_tests, does, turn, settled}

-- ---- write (chunk, set, version): marks the chunk for each of the set, stores the larger of the node's version and the one brought, keeps the chunk number

abbrev pub write_tests : Node → ℕ → ℕ → ℕ → ℕ → List Test
write_tests n lent chunk set version =
    common_tests n lent
    (test 3 (ltb 15 n.id || ltb 65535 set)
    ∷ test 4 (not (ltb chunk n.chunks))
    ∷ test 9 (not (is_normal n.state))
    ∷ test 14 (ltb version_top version)
    ∷ [])

unfoldable pub write_refusal : Node → ℕ → ℕ → ℕ → ℕ → ℕ
write_refusal n lent chunk set version = refusal (write_tests n lent chunk set version)

unfoldable pub written : Node → ℕ → ℕ → Node
written n chunk version = kept_chunk (stored_version n (max n.version version)) chunk

unfoldable pub write : Node → ℕ → ℕ → ℕ → ℕ → Turn
write n lent chunk set version =
    settled (write_refusal n lent chunk set version) n (turn Answer.Done (written n chunk version) (does (OnMap.Mark set chunk) OnStaging.Keep))

-- ---- synced (member, chunk): clears the chunk for the member

abbrev pub synced_tests : Node → ℕ → ℕ → ℕ → List Test
synced_tests n lent member chunk =
    common_tests n lent
    (test 3 (ltb 15 n.id || ltb 15 member)
    ∷ test 4 (not (ltb chunk n.chunks))
    ∷ test 9 (not (is_normal n.state))
    ∷ [])

unfoldable pub synced_refusal : Node → ℕ → ℕ → ℕ → ℕ
synced_refusal n lent member chunk = refusal (synced_tests n lent member chunk)

unfoldable pub synced : Node → ℕ → ℕ → ℕ → Turn
synced n lent member chunk = settled (synced_refusal n lent member chunk) n (turn Answer.Done n (does (OnMap.Clear member chunk) OnStaging.Keep))
