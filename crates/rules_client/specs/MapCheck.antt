-- Map check on the client (source document 000's periodic check): each tick asks every NORMAL member with a non-empty client row; two empty answers in a row for a member, with no
-- acknowledged write, no session change and no run between them, zero its client row.
use Rattle.std.specs.Prelude.{Bool, ◌&&◌, not, List, [], ◌∷◌, ℕ, ◌+◌, ◌%◌, eqb, ltb}
use Rattle.laws_words.specs.Words.{pick}
use Rattle.rules_base.specs.Refusals.{Test, test, refusal}
use Rattle.rules_base.specs.Sets.{has, with, without}
use Rattle.rules_pool.specs.declared.Pool.{Pool}
use Rattle.rules_pool.specs.declared.Message.{Message}
use Rattle.rules_pool.specs.declared.Told.{Told}
use Rattle.rules_pool.specs.declared.Outcome.{Outcome}
use Rattle.rules_pool.specs.declared.Answer.{Answer}
use Rattle.rules_pool.specs.declared.Effect.{Effect}
use Rattle.rules_pool.specs.declared.Turn.{Turn}
use Rattle.rules_pool.specs.Session.{is_free}
use Rattle.rules_pool.specs.declared.Kind.{Kind}
use Rattle.rules_pool.specs.Sessions.{session_at, ids_of}
use Rattle.rules_pool.specs.StateRules.{valid_pool}
use Rattle.rules_pool.specs.Jobs.{is_idle}
use Rattle.rules_pool.specs.Breaking.{breaks}
use Rattle.rules_client.specs.declared.Check.{Check}
use Rattle.rules_client.specs.declared.Checked.{Checked}

-- no tick yet
abbrev pub no_check : Check
no_check = record { tick = 0; due = 0; once = 0 }

-- an accepted event that awaits nothing
abbrev pub tells_of : Told → Answer
tells_of told = Answer.Done (record { outcome = Outcome.Plain; told = told; awaited = Message.Nothing; number = 0 })

-- a refusal changes nothing
abbrev pub declined : Check → ℕ → Checked
declined k why = record { answer = Answer.Refused why; check = k; effect = Effect.Keep }

-- ---- tick: `sound` says that the lent client map is, `full` which ids have a row in it that is not empty

abbrev pub tick_tests : Pool → Bool → List Test
tick_tests p sound =
    test 1 (not (valid_pool p))
    ∷ test 2 (not sound)
    ∷ test 5 p.roster.sync
    ∷ test 6 (not (is_idle p.job))
    ∷ []

unfoldable pub tick_refusal : Pool → Bool → ℕ
tick_refusal p sound = refusal (tick_tests p sound)

-- every NORMAL one of them (in a non-sync pool each NORMAL session is a member's)
abbrev pub asked : Pool → ℕ → ℕ
asked p full = ids_of (Kind.Reached full) p.roster

-- The tick's number rises, modulo 2^32; those asked are due, and no others; what stands once stays.
abbrev pub ticked : Check → ℕ → Check
ticked k ids = record { tick = (k.tick + 1) % 4294967296; due = ids; once = k.once }

-- MAP_CHECK with the tick's number goes to each that is asked, not awaited.
unfoldable pub tick : Pool → Check → Bool → ℕ → Checked
tick p k sound full =
    pick (eqb (tick_refusal p sound) 0)
    (record { answer = tells_of (Told.Checks (asked p full) (ticked k (asked p full)).tick); check = ticked k (asked p full); effect = Effect.Keep })
    (declined k (tick_refusal p sound))

-- ---- the answer of member m to the tick with this number: its row is empty, or not

-- "Answers carry their tick's number; another number, or a member whose answer is not due, is refusal 13."
abbrev pub answer_tests : Pool → Check → Bool → ℕ → ℕ → List Test
answer_tests p k sound number m =
    test 1 (not (valid_pool p))
    ∷ test 2 (not sound)
    ∷ test 3 (ltb 15 m)
    ∷ test 5 p.roster.sync
    ∷ test 6 (not (is_idle p.job))
    ∷ test 7 (is_free (session_at p.roster m).state)
    ∷ test 13 (not (eqb number k.tick && has k.due m))
    ∷ []

unfoldable pub answer_refusal : Pool → Check → Bool → ℕ → ℕ → ℕ
answer_refusal p k sound number m = refusal (answer_tests p k sound number m)

-- The answer is no longer due. An empty one stands where none did; one that is not empty, or the second in a row, leaves none standing.
abbrev pub answered : Check → ℕ → Bool → Check
answered k m empty =
    record {
      tick = k.tick;
      due = without k.due m;
      once = pick (empty && not (has k.once m)) (with k.once m) (without k.once m);
    }

-- the second empty one in a row zeroes the client row
abbrev pub clears : Check → ℕ → Bool → Effect
clears k m empty = pick (empty && has k.once m) (Effect.ZeroRow m) Effect.Keep

unfoldable pub answer : Pool → Check → Bool → ℕ → ℕ → Bool → Checked
answer p k sound number m empty =
    pick (eqb (answer_refusal p k sound number m) 0)
    (record { answer = tells_of Told.Nothing; check = answered k m empty; effect = clears k m empty })
    (declined k (answer_refusal p k sound number m))

-- ---- what an event of the pool leaves of the check: where it breaks the row, no answer stands; tick and due stay

abbrev pub after : Check → Pool → Turn → Check
after k before t = pick (breaks before t) (record { tick = k.tick; due = k.due; once = 0 }) k
