-- The awaited message of a job: its sending, the end of a run and of a removal, recovery tried.
use Rattle.std.specs.Prelude.{ℕ, ◌+◌, ◌%◌, eqb, Option, Some, None}
use Rattle.laws_words.specs.Words.{pick}
use Rattle.rules_pool.specs.declared.Roster.{Roster}
use Rattle.rules_pool.specs.declared.Run.{Run}
use Rattle.rules_pool.specs.declared.Job.{Job}
use Rattle.rules_pool.specs.declared.Pool.{Pool}
use Rattle.rules_pool.specs.declared.Message.{Message}
use Rattle.rules_pool.specs.declared.Told.{Told}
use Rattle.rules_pool.specs.Changes.{raised}
use Rattle.rules_pool.specs.Run.{awaited_in}
use Rattle.rules_pool.specs.declared.Posted.{Posted}
use Rattle.rules_pool.specs.Cases.{begun}

-- Awaited messages are numbered from 1, modulo 2^32: one counter for runs and removals, never restarted.
abbrev pub next_number : ℕ → ℕ
next_number n = (n + 1) % 4294967296

-- the pool with these sessions
abbrev pub with_roster : Pool → Roster → Pool
with_roster p ro = record { roster = ro; job = p.job; number = p.number; chunks = p.chunks }

-- The awaited message of a job is sent: the one place where a message is numbered.
unfoldable pub posted : Pool → Job → Message → Posted
posted p j m =
    record {
      pool = record { roster = p.roster; job = j; number = next_number p.number; chunks = p.chunks };
      awaited = m;
    }

-- nothing is sent, and nothing changes
abbrev pub quiet : Pool → Posted
quiet p = record { pool = p; awaited = Message.Nothing }

-- no job is in hand any more
abbrev pub jobless : Pool → Pool
jobless p = record { roster = p.roster; job = Job.Idle; number = p.number; chunks = p.chunks }

-- The one end of every run: finished, failed or cut off. The version rises, whatever came of it.
abbrev pub run_ended : Pool → Pool
run_ended p = jobless (with_roster p (raised p.roster))

-- The one end of every removal: finished or halted.
abbrev pub removal_ended : Pool → Pool
removal_ended p = jobless p

-- a run sends the message that it awaits
abbrev pub sent_by : Pool → Run → Posted
sent_by p r = posted p (Job.Running r) (awaited_in p.roster.members p.roster.version r)

-- a run goes on, or is over
abbrev pub gone_on : Option Run → Pool → Posted
gone_on None p = quiet (run_ended p)
gone_on (Some r) p = sent_by p r

-- a run begins, or nothing changes
abbrev pub beginning : Option Run → Pool → Posted
beginning None p = quiet p
beginning (Some r) p = sent_by p r

-- Recovery is tried.
unfoldable pub tried : Pool → Posted
tried p = beginning (begun p.roster) p

-- MAP_DISABLE to one session or none
abbrev pub disabling : Option ℕ → Told
disabling None = Told.Nothing
disabling (Some id) = Told.Disable id

-- the same, but not to this session
abbrev pub disabling_but : ℕ → Option ℕ → Told
disabling_but id None = Told.Nothing
disabling_but id (Some x) = pick (eqb x id) Told.Nothing (Told.Disable x)
