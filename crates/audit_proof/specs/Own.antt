-- The log that our own client writes is always accepted.
use Rattle.std.specs.Prelude.{◌≡◌, false, Option, Some, None, List, [], ◌∷◌, ℕ, suc, ◌≤◌, ◌<◌, ◌^◌, length}
use Rattle.rules_base.specs.Limits.{chunk_limit}
use Rattle.rules_pool.specs.declared.Roster.{Roster}
use Rattle.rules_pool.specs.declared.Answer.{Answer}
use Rattle.rules_client.specs.Client.{Client, fresh}
use Rattle.rules_client.specs.Events as pool
use Rattle.rules_client.specs.ClientEvents.{Event, out_of, next}
use Rattle.audit_record.specs.declared.records.Record.{Record}
use Rattle.audit_record.specs.declared.records.Logged.{Logged}
use Rattle.audit_record.specs.Records.{record_of}
use Rattle.audit_replay.specs.declared.auditing.Verdict.{Verdict}
use Rattle.audit_proof.specs.Logs.{GoodLog}
use Rattle.audit_proof.specs.Exact.{verdict}

-- what an event is logged as; a sync, a tick and the answer to a map check are not logged
abbrev pub pool_note : pool.Event → Option Logged
pool_note (pool.Event.join_create id) = Some (Logged.JoinCreate id)
pool_note (pool.Event.join_assemble id set version) = Some (Logged.JoinAssemble id set version)
pool_note (pool.Event.enable id) = Some (Logged.Enable id)
pool_note (pool.Event.maintenance id) = Some (Logged.Maintenance id)
pool_note (pool.Event.link_down id) = Some (Logged.LinkDown id)
pool_note (pool.Event.store_check id) = Some (Logged.StoreCheck id)
pool_note (pool.Event.rejoin id) = Some (Logged.Rejoin id)
pool_note pool.Event.try_run = Some Logged.Try
pool_note (pool.Event.remove xs id mode) = Some (Logged.Remove id mode)
pool_note (pool.Event.write xs chunk reached) = Some (Logged.Write chunk reached)
pool_note (pool.Event.synced xs member chunk) = None
pool_note (pool.Event.answer xs number a) = Some (Logged.Answer a)
pool_note (pool.Event.extend xs) = Some Logged.Extend

abbrev pub note_of : Event → Option Logged
note_of (Event.of_pool e) = pool_note e
note_of (Event.tick xs) = None
note_of (Event.check_answer xs number m empty) = None

-- an event is entered if it is logged and was accepted, at the place after n, with the sessions after it; then the rest
abbrev pub entered : Option Logged → Answer → Roster → ℕ → (ℕ → List Record) → List Record
entered None a after n rest = rest n
entered (Some l) (Answer.Refused k) after n rest = rest n
entered (Some l) (Answer.Done s) after n rest = record_of (suc n) l s.outcome after ∷ rest (suc n)

-- The log of a history of the client c, where n records stand before it.
unfoldable pub log_from : ℕ → Client → List Event → List Record
log_from n c [] = []
log_from n c (e ∷ es) = entered (note_of e) (out_of e c).answer (next e c).pool.roster n (λ m. log_from m (next e c) es)

-- Any history of a fresh non-sync client of any chunk count, refused events, syncs, ticks and checks among it. It may be empty.
abbrev pub OwnLog : Type 0
OwnLog = (chunks : ℕ) → 1 ≤ chunks → chunks ≤ chunk_limit → (es : List Event) → GoodLog (log_from 0 (fresh false chunks) es)

-- So the auditor accepts it.
abbrev pub OwnAccepted : Type 0
OwnAccepted = (chunks : ℕ) → 1 ≤ chunks → chunks ≤ chunk_limit → (es : List Event) → length (log_from 0 (fresh false chunks) es) < 2 ^ 64
    → verdict (log_from 0 (fresh false chunks) es) ≡ Verdict.Accepted (length (log_from 0 (fresh false chunks) es))
