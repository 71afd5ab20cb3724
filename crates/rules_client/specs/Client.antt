-- The client's face: the fresh client, what an event hands back, and what it does to the client map.
use Rattle.std.specs.Prelude.{Bool, List, ℕ, zero, suc, eqb, replicate}
use Rattle.laws_words.specs.Words.{pick}
use Rattle.rules_base.specs.Sets.{with}
use Rattle.rules_base.specs.Chunk.{dirty, marked_for}
use Rattle.rules_base.specs.Map.{zero_row, zeroed, sound}
use Rattle.rules_base.specs.Fill.{row_filled}
use Rattle.rules_pool.specs.declared.Mode.{Mode}
use Rattle.rules_pool.specs.declared.Reply.{Reply}
use Rattle.rules_pool.specs.declared.Job.{Job}
use Rattle.rules_pool.specs.declared.Pool.{Pool}
use Rattle.rules_pool.specs.declared.Effect.{Effect}
use Rattle.rules_pool.specs.declared.Turn.{Turn}
use Rattle.rules_pool.specs.Past.{no_past}
use Rattle.rules_pool.specs.Session.{free}
use Rattle.rules_client.specs.Remove.{remove}
use Rattle.rules_client.specs.Writes.{write_ended, synced}
use Rattle.rules_client.specs.Answers.{answer}
use Rattle.rules_client.specs.Extend.{extend}
use Rattle.rules_base.specs.Empty.{full_to}
use Rattle.rules_client.specs.declared.Checked.{Checked}
use Rattle.rules_client.specs.MapCheck.{no_check, tick, after}
use Rattle.rules_client.specs.MapCheck as checks
use Rattle.rules_client.specs.declared.Check.{Check}
use Rattle.rules_pool.specs.declared.Answer.{Answer}

-- the pool, and beside it what map check knows
pub record Client : Type 0 where
  pub pool : Pool
  pub check : Check

-- what an event hands back
pub record Out : Type 0 where
  pub answer : Answer
  pub client : Client

-- a fresh pool, sync or not: no session, no member, version 1, nothing awaited
abbrev pub fresh_pool : Bool → ℕ → Pool
fresh_pool sync chunks =
    record {
      roster = record { sessions = replicate 16 free; count = 0; version = 1; members = 0; sync = sync; past = no_past };
      job = Job.Idle;
      number = 0;
      chunks = chunks;
    }

-- a fresh client of such a pool
abbrev pub fresh : Bool → ℕ → Client
fresh sync chunks = record { pool = fresh_pool sync chunks; check = no_check }

-- what an event of the pool hands back: the answer, and the next client; a row of empty answers stands, or the event breaks it
abbrev pub handed : Client → Turn → Out
handed c t = record { answer = t.answer; client = record { pool = t.pool; check = after c.check c.pool t } }

-- what a tick or an answer to it hands back: the pool stays
abbrev pub check_handed : Client → Checked → Out
check_handed c k = record { answer = k.answer; client = record { pool = c.pool; check = k.check } }

-- what is done to the client map
abbrev pub carried : Effect → List ℕ → List ℕ
carried Effect.Keep xs = xs
carried (Effect.Mark s c) xs = marked_for xs s c
carried (Effect.ZeroRow m) xs = zero_row m xs
carried Effect.ZeroAll xs = zeroed xs
carried (Effect.FillRow m n) xs = row_filled m n xs

-- ---- the events that a map is lent to: what they do, judged by the lent map's soundness

abbrev pub sound_for : Pool → List ℕ → Bool
sound_for p xs = sound p.chunks xs

unfoldable pub extend_turn : Pool → List ℕ → Turn
extend_turn p xs = extend p (sound_for p xs)

unfoldable pub remove_turn : Pool → List ℕ → ℕ → Mode → Turn
remove_turn p xs id mode = remove p (sound_for p xs) id mode

unfoldable pub write_turn : Pool → List ℕ → ℕ → ℕ → Turn
write_turn p xs chunk reached = write_ended p (sound_for p xs) chunk reached

unfoldable pub answer_turn : Pool → List ℕ → ℕ → Reply → Turn
answer_turn p xs number a = answer p (sound_for p xs) number a

-- the ids below m for which chunk c is clean in a map
unfoldable pub clean_to : List ℕ → ℕ → ℕ → ℕ
clean_to xs c zero = 0
clean_to xs c (suc m) = pick (eqb (dirty xs m c) 1) (clean_to xs c m) (with (clean_to xs c m) m)

-- the map lent to synced is a NORMAL node's, and is only read
unfoldable pub synced_turn : Pool → List ℕ → ℕ → ℕ → Turn
synced_turn p xs member chunk = synced p (sound_for p xs) member chunk (clean_to xs chunk 16)

-- ---- map check

-- the map lent to a tick is the client's, and is only read
unfoldable pub tick_turn : Client → List ℕ → Checked
tick_turn c xs = tick c.pool c.check (sound_for c.pool xs) (full_to xs 16)

unfoldable pub check_turn : Client → List ℕ → ℕ → ℕ → Bool → Checked
check_turn c xs number m empty = checks.answer c.pool c.check (sound_for c.pool xs) number m empty
