-- The logs that the auditor must accept: records of events that the present rules accept, taken in order from a pool.
use Rattle.std.specs.Prelude.{◌≡◌, false, List, [], ◌∷◌, ℕ, suc}
use Rattle.rules_base.specs.Limits.{chunk_limit}
use Rattle.rules_pool.specs.declared.Pool.{Pool}
use Rattle.rules_pool.specs.declared.Sent.{Sent}
use Rattle.rules_pool.specs.declared.Answer.{Answer}
use Rattle.audit_record.specs.declared.records.Record.{Record}
use Rattle.audit_record.specs.declared.records.Logged.{Logged}
use Rattle.audit_record.specs.Records.{record_of}
use Rattle.audit_replay.specs.Replay.{taken}
use Rattle.rules_client.specs.Client.{fresh_pool}

-- A record at the place n is so, after the pool p: an event of a known kind is accepted there, and this is its record, with the version, the count and the causes after it.
pub record So (n : ℕ) (p : Pool) (r : Record) : Type 0 where
  pub event : Logged
  pub sent : Sent
  pub accepted : (taken event p).answer ≡ Answer.Done sent
  pub written : r ≡ record_of n event sent.outcome (taken event p).pool.roster

-- Every record is so, each after the pool that those before it left; n records stand before them.
abbrev pub Log : ℕ → Pool → List Record → Type 0
Log n p [] = Unit {0}
Log n p (r ∷ rs) = (x : So (suc n) p r) × Log (suc n) (taken x.event p).pool rs

-- from a fresh non-sync pool of 4,096 chunks
abbrev pub GoodLog : List Record → Type 0
GoodLog rs = Log 0 (fresh_pool false chunk_limit) rs
