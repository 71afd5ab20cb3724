-- Demand 3, first half: a run is over after at most so many awaited answers, whatever they say and whatever comes between.
use Rattle.std.specs.Prelude.{◌≡◌, Bool, true, false, not, ◌&&◌, ◌||◌, List, [], ◌∷◌, ℕ, ◌+◌, ◌*◌, ◌-◌, ◌≤◌, ◌<◌, eqb, length, Some}
use Rattle.laws_words.specs.Words.{pick, one}
use Rattle.rules_base.specs.Sets.{without, size, lowest}
use Rattle.rules_pool.specs.declared.Roster.{Roster}
use Rattle.rules_pool.specs.declared.Run.{Run}
use Rattle.rules_pool.specs.declared.Job.{Job}
use Rattle.rules_pool.specs.declared.Pool.{Pool}
use Rattle.rules_pool.specs.declared.Message.{Message}
use Rattle.rules_pool.specs.declared.Outcome.{Outcome}
use Rattle.rules_pool.specs.declared.Sent.{Sent}
use Rattle.rules_pool.specs.declared.Answer.{Answer}
use Rattle.rules_pool.specs.declared.Reply.{Reply}
use Rattle.rules_pool.specs.declared.Kind.{Kind}
use Rattle.rules_pool.specs.Sessions.{ids_of}
use Rattle.rules_pool.specs.Jobs.{is_running}
use Rattle.rules_pool.specs.Run.{receiver}
use Rattle.rules_pool.specs.Cases.{begun}
use Rattle.rules_pool.specs.Recovery.{with_roster, jobless, run_ended, tried, disabling_but}
use Rattle.rules_pool.specs.Exit.{number_of}
use Rattle.rules_client.specs.Links.{dropped}
use Rattle.rules_pool.specs.Breaking.{is_accepted}
use Rattle.rules_client.specs.Client.{sound_for}
use Rattle.rules_client.specs.Events.{Event, turn_of, next}
use Rattle.theorem_client.specs.Reading.{is_answer, is_down}
use Rattle.theorem_client.specs.Demand2.{Reached}

-- ---- events one after the other

-- an awaited answer: one that is accepted, good or failed
abbrev pub is_awaited : Event → Pool → Bool
is_awaited e c = is_accepted (turn_of e c).answer && is_answer e

-- a link down that is accepted
abbrev pub cuts_off : Event → Pool → Bool
cuts_off e c = is_accepted (turn_of e c).answer && is_down e

-- the client after events, one after the other, the refused ones with them
abbrev pub through : List Event → Pool → Pool
through [] c = c
through (e ∷ es) c = through es (next e c)

-- how many of them are awaited answers
abbrev pub awaited_answers : List Event → Pool → ℕ
awaited_answers [] c = 0
awaited_answers (e ∷ es) c = one (is_awaited e c) + awaited_answers es (next e c)

-- the count in the last result that has one, n where none has
abbrev pub count_in : Outcome → ℕ → ℕ
count_in Outcome.Plain n = n
count_in (Outcome.Taken k) n = k
count_in (Outcome.Written acknowledged list) n = n
count_in (Outcome.Picked id) n = n

abbrev pub count_of : Answer → ℕ → ℕ
count_of (Answer.Refused why) n = n
count_of (Answer.Done s) n = count_in s.outcome n

abbrev pub last_count : List Event → Pool → ℕ → ℕ
last_count [] c n = n
last_count (e ∷ es) c n = last_count es (next e c) (count_of (turn_of e c).answer n)

-- one of them is an accepted link down
abbrev pub any_cut : List Event → Pool → Bool
any_cut [] c = false
any_cut (e ∷ es) c = cuts_off e c || any_cut es (next e c)

-- the run in hand lasts past the event: one is in hand after it, and it is no accepted link down
abbrev pub lasts_past : Event → Pool → Bool
lasts_past e c = is_running (next e c).job && not (cuts_off e c)

-- Those that come while the run in hand lasts: up to the answer that is its last or the link down that ends it, that one with them.
abbrev pub during : List Event → Pool → List Event
during [] c = []
during (e ∷ es) c = e ∷ pick (lasts_past e c) (during es (next e c)) []

-- ---- a run that begins

-- The most answers of a run that begins with these sessions. Case 1: 3R. Case 2: 3R + 1. Case 3: 11K - 8. R: the receivers. K: the members.
abbrev pub most : Roster → ℕ
most ro =
    pick (not (eqb (ids_of Kind.Normals ro) 0)) (3 * size (ids_of Kind.Candidates ro))
    (pick (not (eqb (ids_of Kind.Marked ro) 0)) (3 * size (without (ids_of Kind.Candidates ro) (lowest (ids_of Kind.Marked ro))) + 1)
    (11 * size ro.members - 8))

-- After an event at a reached client the run r is in hand, and it is a new one: none was in hand before, or a link down ended it.
pub record Begins (c : Pool) (e : Event) (r : Run) : Type 0 where
  pub reached : Reached c
  pub run : (next e c).job ≡ Job.Running r
  pub new : (not (is_running c.job) || cuts_off e c) ≡ true

-- the pool in which an event that tries recovery tries it: the sessions as the event leaves them, no job in hand
abbrev pub tried_in : Event → Pool → Pool
tried_in e c = jobless (with_roster c (next e c).roster)

-- The event is an accepted one, and no answer; the run is that of one of the three cases for the sessions as they then are, with no answer taken; the next pool,
-- the awaited message and its number are those of recovery tried.
pub record New (c : Pool) (e : Event) (r : Run) : Type 0 where
  pub event : is_answer e ≡ false
  pub case : begun (next e c).roster ≡ Some r
  pub count : r.taken ≡ 0
  pub pool : next e c ≡ (tried (tried_in e c)).pool
  pub sent : Sent
  pub accepted : (turn_of e c).answer ≡ Answer.Done sent
  pub awaited : sent.awaited ≡ (tried (tried_in e c)).awaited
  pub number : sent.number ≡ number_of sent.awaited (next e c).number

-- Every run that begins is such a one.
abbrev pub Afresh : Type 0
Afresh = (c : Pool) (e : Event) (r : Run) → Begins c e r → New c e r

-- a run is in hand at c that began at an earlier client, and all that came since came while it lasted
pub record Began (c : Pool) : Type 0 where
  pub from : Pool
  pub by : Event
  pub first : Run
  pub begins : Begins from by first
  pub since : List Event
  pub lasted : during since (next by from) ≡ since
  pub uncut : any_cut since (next by from) ≡ false
  pub here : through since (next by from) ≡ c

-- So began every run that is in hand at a reached client.
abbrev pub EveryRun : Type 0
EveryRun = (c : Pool) → Reached c → (r : Run) → c.job ≡ Job.Running r → Began c

-- ---- the bound

-- While a run is in hand, every event but answers and link down is refused and changes nothing.
abbrev pub Barred : Type 0
Barred = (c : Pool) (r : Run) → c.job ≡ Job.Running r → (e : Event) → is_answer e ≡ false → is_down e ≡ false → (is_accepted (turn_of e c).answer ≡ false) × (next e c ≡ c)

-- How the job stands after t answers taken, m being the most: over; or the run is in hand, its count is t, and t is less than m. It is never a removal.
abbrev pub Stands : Job → ℕ → ℕ → Type 0
Stands Job.Idle t m = Unit {0}
Stands (Job.Running r) t m = (r.taken ≡ t) × (t < m)
Stands (Job.Removing d) t m = ⊥

-- of events that come to the client c while its run lasts, m being the most that the run can take
pub record Bounded (es : List Event) (c : Pool) (m : ℕ) : Type 0 where
  pub few : awaited_answers es c ≤ m
  pub count : last_count es c 0 ≡ awaited_answers es c
  pub stands : any_cut es c ≡ false → Stands (through es c).job (awaited_answers es c) m

-- A run begins, and then events come, any of them, with any data, refused ones among them. Of those that come while it lasts at most so many are awaited answers, the
-- count in the result is their number, and unless a link down ends it, the run is over once that many are taken.
abbrev pub AtMost : Type 0
AtMost = (c : Pool) (e : Event) (r : Run) → Begins c e r → (es : List Event) → Bounded (during es (next e c)) (next e c) (most (next e c).roster)

-- ---- one version

-- the awaited message that an event sends
abbrev pub awaited_by : Answer → Message
awaited_by (Answer.Refused why) = Message.Nothing
awaited_by (Answer.Done s) = s.awaited

-- the version that a message carries, if it carries one, is v
abbrev pub Bears : ℕ → Message → Type 0
Bears v Message.Nothing = Unit {0}
Bears v (Message.GetVersion to) = Unit {0}
Bears v (Message.Ready to keep) = Unit {0}
Bears v (Message.Send to receiver) = Unit {0}
Bears v (Message.Done to enable version members) = version ≡ v
Bears v (Message.LastIo to chosen) = Unit {0}
Bears v (Message.Enable to version members) = version ≡ v
Bears v (Message.Leave to mode) = Unit {0}
Bears v (Message.Info to op member) = Unit {0}

-- An event while a run lasts that began with the version v. While the run lasts the pool has that version, and every awaited message that is sent carries it; the answer that
-- is the last leaves one more. A link down that ends the run may begin another, with a version of its own.
pub record Versioned (v : ℕ) (e : Event) (c : Pool) : Type 0 where
  pub lasting : lasts_past e c ≡ true → (next e c).roster.version ≡ v
  pub over : lasts_past e c ≡ false → cuts_off e c ≡ false → (next e c).roster.version ≡ v + 1
  pub carried : cuts_off e c ≡ false → Bears v (awaited_by (turn_of e c).answer)

abbrev pub AllVersioned : ℕ → List Event → Pool → Type 0
AllVersioned v [] c = Unit {0}
AllVersioned v (e ∷ es) c = Versioned v e c × AllVersioned v es (next e c)

-- All messages of a run carry the version that it began with, and an answer that is its last leaves one more, whatever comes while it lasts.
abbrev pub OneVersion : Type 0
OneVersion = (c : Pool) (e : Event) (r : Run) → Begins c e r
    → Bears (next e c).roster.version (awaited_by (turn_of e c).answer)
    × ((es : List Event) → AllVersioned (next e c).roster.version (during es (next e c)) (next e c))

-- ---- no answer is lost

-- While a run is in hand at a reached client, an answer under the awaited number with a sound map is never refused, whatever it says.
abbrev pub NoneLost : Type 0
NoneLost = (c : Pool) → Reached c → (r : Run) → c.job ≡ Job.Running r → (xs : List ℕ) → sound_for c xs ≡ true → (a : Reply)
    → is_awaited (Event.answer xs c.number a) c ≡ true

-- the client after these replies, each handed in under the awaited number with the map xs
abbrev pub replied : List ℕ → List Reply → Pool → Pool
replied xs [] c = c
replied xs (a ∷ rs) c = replied xs rs (next (Event.answer xs c.number a) c)

-- So as many replies as the bound says end the run, whatever they say.
abbrev pub Enough : Type 0
Enough = (c : Pool) (e : Event) (r : Run) → Begins c e r → (xs : List ℕ) → sound_for (next e c) xs ≡ true → (rs : List Reply) → most (next e c).roster ≤ length rs
    → (replied xs rs (next e c)).job ≡ Job.Idle

-- ---- a link down

-- the pool whose run a link down ended: its session dropped, no job in hand, the version raised by the end
abbrev pub cut_pool : ℕ → Pool → Pool
cut_pool id c = run_ended (with_roster c (dropped c.roster id))

-- The run r is ended at once, and recovery is tried in the ended pool: the next pool, the awaited message and its number are those of the trial, so the run is not kept,
-- and one that is in hand afterwards is new, with no answer taken. The result counts the answers taken in the ended run. MAP_DISABLE goes to the receiver in hand,
-- unless that is the session whose link dropped.
pub record Cut (c : Pool) (r : Run) (id : ℕ) : Type 0 where
  pub sent : Sent
  pub accepted : (turn_of (Event.link_down id) c).answer ≡ Answer.Done sent
  pub count : sent.outcome ≡ Outcome.Taken r.taken
  pub disable : sent.told ≡ disabling_but id (receiver r)
  pub pool : next (Event.link_down id) c ≡ (tried (cut_pool id c)).pool
  pub awaited : sent.awaited ≡ (tried (cut_pool id c)).awaited
  pub number : sent.number ≡ number_of sent.awaited (next (Event.link_down id) c).number
  pub afresh : (r' : Run) → (next (Event.link_down id) c).job ≡ Job.Running r' → r'.taken ≡ 0

-- Every accepted link down, while a run is in hand at a reached client, does so.
abbrev pub CutOff : Type 0
CutOff = (c : Pool) → Reached c → (r : Run) → c.job ≡ Job.Running r → (id : ℕ) → is_accepted (turn_of (Event.link_down id) c).answer ≡ true → Cut c r id
