-- What is shown of the auditor. Each is a type; proofs/Exact.antt has its proof under the same name in small letters.
use Rattle.std.specs.Prelude.{◌≡◌, ◌⊎◌, List, ◌++◌, ℕ, suc, ◌<◌, ◌^◌, length, take}
use Rattle.audit_record.specs.declared.records.Record.{Record}
use Rattle.audit_replay.specs.declared.auditing.Walk.{Walk}
use Rattle.audit_replay.specs.declared.auditing.Verdict.{Verdict}
use Rattle.audit_replay.specs.Audit.{walked, verdict_of}
use Rattle.audit_list.specs.Start.{started}
use Rattle.audit_proof.specs.Logs.{GoodLog}

-- what the auditor says of a log
abbrev pub verdict : List Record → Verdict
verdict rs = verdict_of (walked started rs)

-- Record k, counted from 0, is the first that is not so: those before it are a good log, with it they are none.
pub record FirstWrong (rs : List Record) (k : ℕ) : Type 0 where
  pub there : k < length rs
  pub before : GoodLog (take k rs)
  pub not_so : GoodLog (take (suc k) rs) → ⊥

-- One of two things is said of a log: that all its records are accepted, and how many they are; or the place of a record, from 1. The first exactly of a good log, the second exactly where that record
-- is the first that is not so.
pub record Says (rs : List Record) (v : Verdict) : Type 0 where
  pub one : (v ≡ Verdict.Accepted (length rs)) ⊎ ((k : ℕ) × (v ≡ Verdict.Wrong (suc k)))
  pub accepts : v ≡ Verdict.Accepted (length rs) → GoodLog rs
  pub accepted : GoodLog rs → v ≡ Verdict.Accepted (length rs)
  pub names : (k : ℕ) → v ≡ Verdict.Wrong (suc k) → FirstWrong rs k
  pub named : (k : ℕ) → FirstWrong rs k → v ≡ Verdict.Wrong (suc k)

-- Of any list of records that can be numbered in 64 bits; a record's own numbers may be anything.
abbrev pub Exact : Type 0
Exact = (rs : List Record) → length rs < 2 ^ 64 → Says rs (verdict rs)

-- A log may be handed over in parts, each going on where the one before it ended.
abbrev pub InParts : Type 0
InParts = (w : Walk) (xs ys : List Record) → walked (walked w xs) ys ≡ walked w (xs ++ ys)
