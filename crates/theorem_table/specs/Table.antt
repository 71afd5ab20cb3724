-- The starred rows of the tester's table: one list of rows, and what it says that each holds.
use Rattle.std.specs.Prelude.{◌≡◌, true, false, List, [], ◌∷◌, ◌++◌, ℕ, zero, suc, get_or, replicate, Some, None}
use Rattle.rules_pool.specs.declared.Cause.{Cause}
use Rattle.rules_pool.specs.declared.State.{State}
use Rattle.rules_pool.specs.declared.Job.{Job}
use Rattle.rules_base.specs.declared.Op.{Op}
use Rattle.rules_pool.specs.declared.Message.{Message}
use Rattle.rules_pool.specs.declared.Told.{Told}
use Rattle.rules_pool.specs.declared.Outcome.{Outcome}
use Rattle.rules_pool.specs.declared.Answer.{Answer}
use Rattle.rules_pool.specs.declared.Reply.{Reply}
use Rattle.rules_pool.specs.declared.Kind.{Kind}
use Rattle.rules_pool.specs.Sessions.{session_at, ids_of}
use Rattle.rules_pool.specs.declared.Pool.{Pool}
use Rattle.rules_client.specs.Client.{fresh_pool}
use Rattle.rules_client.specs.Events.{Event, Lent, turn_of, next, map_left}

-- ---- histories

-- a map of 8,192 zero bytes
abbrev pub zeros : List ℕ
zeros = replicate 8192 0

-- the client after these events, from the fresh one of a pool of 4,096 chunks
abbrev pub after : List Event → Pool → Pool
after [] c = c
after (e ∷ es) c = after es (next e c)

abbrev pub from : List Event → Pool
from es = after es (fresh_pool false 4096)

-- what a row looks at: the NORMAL count, the version, and which sessions are NORMAL, FAILED or marked last authoritative
pub record Seen : Type 0 where
  pub count : ℕ
  pub version : ℕ
  pub normal : ℕ
  pub first : State
  pub second : State
  pub mark : ℕ

abbrev pub seen : Pool → Seen
seen c =
    record {
      count = c.roster.count;
      version = c.roster.version;
      normal = ids_of Kind.Normals c.roster;
      first = (session_at c.roster 0).state;
      second = (session_at c.roster 1).state;
      mark = ids_of Kind.Marked c.roster;
    }

-- the awaited message of an answer, and its count
abbrev pub awaited : Answer → Message
awaited (Answer.Refused n) = Message.Nothing
awaited (Answer.Done s) = s.awaited

abbrev pub report : Answer → Outcome
report (Answer.Refused n) = Outcome.Plain
report (Answer.Done s) = s.outcome

abbrev pub replying : Pool → Reply → Event
replying c a = Event.answer zeros c.number a

-- the messages that a run awaits, each reply handed in under the awaited number, and the last report
abbrev pub messages : List Reply → Pool → List Message
messages [] c = []
messages (a ∷ rs) c = awaited (turn_of (replying c a) c).answer ∷ messages rs (next (replying c a) c)

abbrev pub reports : Outcome → List Reply → Pool → Outcome
reports o [] c = o
reports o (a ∷ rs) c = reports (report (turn_of (replying c a) c).answer) rs (next (replying c a) c)

-- the client after a run's replies
abbrev pub replied : List Reply → Pool → Pool
replied [] c = c
replied (a ∷ rs) c = replied rs (next (replying c a) c)

abbrev pub byte_of : Lent → ℕ → ℕ
byte_of Lent.none k = 0
byte_of (Lent.some xs) k = get_or xs k 0

-- ---- rows

-- answer: after a history, an event gets this answer. stands: after a history, this is seen. asks: after a history, an event and these replies make these messages
-- awaited, Nothing once the run is over, and this is the last report. leaves: after them this is seen, and no job is in hand. byte: after a history, an event leaves this byte at this place of the lent map.
pub data Row : Type 0 where
  answer : List Event → Event → Answer → Row
  stands : List Event → Seen → Row
  idle : List Event → Row
  asks : List Event → Event → List Reply → List Message → Outcome → Row
  leaves : List Event → Event → List Reply → Seen → Row
  byte : List Event → Event → ℕ → ℕ → Row

abbrev pub holds : Row → Type 0
holds (Row.answer h e a) = (turn_of e (from h)).answer ≡ a
holds (Row.stands h s) = seen (from h) ≡ s
holds (Row.idle h) = (from h).job ≡ Job.Idle
holds (Row.asks h e rs ms o) = (awaited (turn_of e (from h)).answer ∷ messages rs (next e (from h)) ≡ ms) × (reports (report (turn_of e (from h)).answer) rs (next e (from h)) ≡ o)
holds (Row.leaves h e rs s) = (seen (replied rs (next e (from h))) ≡ s) × ((replied rs (next e (from h))).job ≡ Job.Idle)
holds (Row.byte h e k b) = byte_of (map_left e (from h)) k ≡ b

abbrev pub All : List Row → Type 0
All [] = Unit {0}
All (r ∷ rs) = holds r × All rs

-- ---- the table

-- 0 and 1 created, enabled
abbrev pub both : List Event
both = Event.join_create 0 ∷ Event.join_create 1 ∷ Event.enable 0 ∷ Event.enable 1 ∷ []

-- then link 0 down, then link 1 down, then store check 0
abbrev pub one_down : List Event
one_down = both ++ (Event.link_down 0 ∷ [])

abbrev pub both_down : List Event
both_down = one_down ++ (Event.link_down 1 ∷ [])

abbrev pub one_checked : List Event
one_checked = both_down ++ (Event.store_check 0 ∷ [])

-- both NORMAL, then a write of chunk 7 that reached these
abbrev pub written : ℕ → List Event
written reached = both ++ (Event.write zeros 7 reached ∷ [])

-- 0 and 3 created, enabled, link 3 down
abbrev pub three_down : List Event
three_down = Event.join_create 0 ∷ Event.join_create 3 ∷ Event.enable 0 ∷ Event.enable 3 ∷ Event.link_down 3 ∷ []

abbrev pub sent : Outcome → Told → Answer
sent o t = Answer.Done (record { outcome = o; told = t; awaited = Message.Nothing; number = 0 })

-- good answers: without a version, and with one
abbrev pub well : Reply
well = Reply.Good None

abbrev pub has : ℕ → Reply
has v = Reply.Good (Some v)

abbrev pub wells : ℕ → List Reply → List Reply
wells zero rs = rs
wells (suc n) rs = well ∷ wells n rs

-- Sets are numbers: {0} is 1, {1} is 2, {0, 1} is 3, {3} is 8, {15} is 32,768.
abbrev pub rows : List Row
rows =
    -- id 15 taken, 16 refused 3
    Row.answer [] (Event.join_create 15) (sent Outcome.Plain (Told.Infos 0 Op.AddCreate 15))
    ∷ Row.answer [] (Event.join_create 16) (Answer.Refused 3)
    -- of 4,096 chunks, 4,095 taken, 4,096 refused 4
    ∷ Row.answer both (Event.write zeros 4095 3) (sent (Outcome.Written true 0) (Told.Marks 3 4095 0 1))
    ∷ Row.answer both (Event.write zeros 4096 3) (Answer.Refused 4)
    -- member 3, chunk 4,095: byte 2,047 is 128
    ∷ Row.byte three_down (Event.write zeros 4095 1) 2047 128
    -- 0 and 1 created, enabled: count 2, version 1
    ∷ Row.stands both (record { count = 2; version = 1; normal = 3; first = State.Normal; second = State.Normal; mark = 0 })
    -- link 0 down: version 2, 0 unmarked
    ∷ Row.stands one_down (record { count = 1; version = 2; normal = 2; first = State.Failed Cause.Link; second = State.Normal; mark = 0 })
    -- link 1 down: version 3, 1 marked
    ∷ Row.stands both_down (record { count = 0; version = 3; normal = 0; first = State.Failed Cause.Link; second = State.Failed Cause.Link; mark = 2 })
    -- store check 0: no run
    ∷ Row.idle one_checked
    -- then store check 1: ENABLE 1, READY 0, SEND 1, DONE 0; 4 answers
    ∷ Row.asks one_checked (Event.store_check 1) (wells 4 [])
    (Message.Enable 1 3 3 ∷ Message.Ready 0 false ∷ Message.Send 1 0 ∷ Message.Done 0 true 3 3 ∷ Message.Nothing ∷ [])
    (Outcome.Taken 4)
    -- C-13: version 4 after its last answer
    ∷ Row.leaves one_checked (Event.store_check 1) (wells 4 []) (record { count = 2; version = 4; normal = 3; first = State.Normal; second = State.Normal; mark = 0 })
    -- both NORMAL, write reached {1}: 0 FAILED, list {0}
    ∷ Row.answer both (Event.write zeros 7 2) (sent (Outcome.Written true 1) (Told.Marks 2 7 1 2))
    ∷ Row.stands (written 2) (record { count = 1; version = 2; normal = 2; first = State.Failed Cause.Io; second = State.Normal; mark = 0 })
    -- reached {}: both FAILED, 1 marked, not acknowledged
    ∷ Row.answer both (Event.write zeros 7 0) (sent (Outcome.Written false 0) Told.Nothing)
    ∷ Row.stands (written 0) (record { count = 0; version = 3; normal = 0; first = State.Failed Cause.Io; second = State.Failed Cause.Io; mark = 2 })
    -- case 3, versions 2 and 3: GET 0, GET 1, READY 0, SEND 1, DONE 0, LAST_IO 0, LAST_IO 1, READY 1 (keep), SEND 0, DONE 1, ENABLE 1, READY 0, SEND 1,
    -- DONE 0 (enable); 14 answers
    ∷ Row.asks (Event.join_assemble 0 3 3 ∷ []) (Event.join_assemble 1 3 3) (has 2 ∷ has 3 ∷ wells 12 [])
    (Message.GetVersion 0
    ∷ Message.GetVersion 1
    ∷ Message.Ready 0 false
    ∷ Message.Send 1 0
    ∷ Message.Done 0 false 3 3
    ∷ Message.LastIo 0 1
    ∷ Message.LastIo 1 1
    ∷ Message.Ready 1 true
    ∷ Message.Send 0 1
    ∷ Message.Done 1 false 3 3
    ∷ Message.Enable 1 3 3
    ∷ Message.Ready 0 false
    ∷ Message.Send 1 0
    ∷ Message.Done 0 true 3 3
    ∷ Message.Nothing
    ∷ [])
    (Outcome.Taken 14)
    -- C-13: version 4 after its last answer
    ∷ Row.leaves (Event.join_assemble 0 3 3 ∷ []) (Event.join_assemble 1 3 3) (has 2 ∷ has 3 ∷ wells 12 []) (record { count = 2; version = 4; normal = 3; first = State.Normal; second = State.Normal; mark = 0 })
    ∷ []

-- ---- the customer's story

-- both NORMAL, then 0 goes into maintenance
abbrev pub one_maintained : List Event
one_maintained = both ++ (Event.maintenance 0 ∷ [])

-- C-13: "Two legs carried the same version, one had been in maintenance while the other took writes, and the tie went to the stale one." Now the one in maintenance keeps
-- version 1, and the write brings version 2 to the other. When the client's state is lost and both are assembled, there is no tie: 1 is chosen, and its map is sent to 0.
abbrev pub story : List Row
story =
    Row.stands one_maintained (record { count = 1; version = 2; normal = 2; first = State.Reconnecting; second = State.Normal; mark = 0 })
    ∷ Row.answer one_maintained (Event.write zeros 7 2) (sent (Outcome.Written true 1) (Told.Marks 2 7 1 2))
    ∷ Row.asks (Event.join_assemble 0 3 1 ∷ []) (Event.join_assemble 1 3 2) (has 1 ∷ has 2 ∷ wells 4 [])
    (Message.GetVersion 0
    ∷ Message.GetVersion 1
    ∷ Message.Ready 0 false
    ∷ Message.Send 1 0
    ∷ Message.Done 0 false 2 3
    ∷ Message.LastIo 0 1
    ∷ Message.LastIo 1 1
    ∷ [])
    (Outcome.Taken 6)
    ∷ []
