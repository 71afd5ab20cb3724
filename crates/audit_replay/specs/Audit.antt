-- The audit of a log, record by record. That it accepts exactly the logs that it must is said in the crate `logs`.
use Rattle.std.specs.Prelude.{List, [], ◌∷◌, ℕ, Option, Some, None, Result, Ok, Err, is_ok}
use Rattle.laws_words.specs.Words.{pick}
use Rattle.rules_pool.specs.declared.Answer.{Answer}
use Rattle.rules_pool.specs.declared.Pool.{Pool}
use Rattle.audit_record.specs.declared.records.Record.{Record}
use Rattle.audit_record.specs.declared.records.Logged.{Logged}
use Rattle.audit_record.specs.Records.{record_of, event_in, same_record, place_after}
use Rattle.audit_replay.specs.Replay.{taken}
use Rattle.audit_replay.specs.declared.auditing.Walk.{Walk}
use Rattle.audit_replay.specs.declared.auditing.Verdict.{Verdict}

-- Ok: the event is accepted, the record is the one that it makes, and this is the pool after it. Err: it is not so, and the pool stays as it was before the record.
abbrev pub judged : Pool → ℕ → Record → Logged → Answer → Pool → Result Pool Pool
judged p n r e (Answer.Refused k) after = Err p
judged p n r e (Answer.Done s) after = pick (same_record r (record_of n e s.outcome after.roster)) (Ok after) (Err p)

abbrev pub checked_as : Option Logged → Pool → ℕ → Record → Result Pool Pool
checked_as None p n r = Err p
checked_as (Some e) p n r = judged p n r e (taken e p).answer (taken e p).pool

-- the record r at the place n, after the pool p
unfoldable pub checked : Pool → ℕ → Record → Result Pool Pool
checked p n r = checked_as (event_in r) p n r

abbrev pub turned_from : Result Pool Pool → Walk → Record → Walk
turned_from (Err p) w r = w
turned_from (Ok p) w r = record { place = place_after w.place; pool = checked p (place_after w.place) r }

-- One record more. After the first that is not so nothing is looked at.
unfoldable pub turned : Walk → Record → Walk
turned w r = turned_from w.pool w r

-- All the records of a list.
unfoldable pub walked : Walk → List Record → Walk
walked w [] = w
walked w (r ∷ rs) = walked (turned w r) rs

unfoldable pub verdict_of : Walk → Verdict
verdict_of w = pick (is_ok w.pool) (Verdict.Accepted w.place) (Verdict.Wrong w.place)
