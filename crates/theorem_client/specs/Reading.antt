-- How the theorems read an event of the client: whom it is about, what it may do to the map, its part in a removal, how it comes during a run.
use Rattle.std.specs.Prelude.{Bool, true, false, not, ◌&&◌, ℕ, eqb, Option, Some, None}
use Rattle.rules_base.specs.Sets.{has}
use Rattle.rules_pool.specs.declared.Mode.{Mode}
use Rattle.rules_pool.specs.declared.Removal.{Removal}
use Rattle.rules_pool.specs.declared.Job.{Job}
use Rattle.rules_pool.specs.declared.Roster.{Roster}
use Rattle.rules_pool.specs.declared.Reply.{Reply}
use Rattle.rules_pool.specs.declared.Effect.{Effect}
use Rattle.rules_pool.specs.Session.{is_normal, is_delete, is_deleting}
use Rattle.rules_pool.specs.declared.Kind.{Kind}
use Rattle.rules_pool.specs.Sessions.{ids_of}
use Rattle.rules_pool.specs.Run.{takes}
use Rattle.rules_client.specs.Extend as Extending
use Rattle.rules_pool.specs.declared.Pool.{Pool}
use Rattle.rules_client.specs.Events.{Event, state_of, job_of}

-- the one that an answer makes NORMAL
abbrev pub is_one : Option ℕ → ℕ → Bool
is_one None j = false
is_one (Some id) j = eqb j id

-- no session is left
abbrev pub nobody_left : Roster → Bool
nobody_left ro = eqb (ids_of Kind.Present ro) 0

-- nothing is done to the map
abbrev pub keeps : Effect → Bool
keeps Effect.Keep = true
keeps (Effect.Mark s k) = false
keeps (Effect.ZeroRow m) = false
keeps Effect.ZeroAll = false
keeps (Effect.FillRow m n) = false

-- the id that extend picks: the lowest that is neither a member nor held by a session
abbrev pub picks : Pool → ℕ
picks c = Extending.picked c.roster

-- the session that an answer is about: in a run the one that it makes NORMAL, if any; in a removal the one that is removed
abbrev pub answer_concerns : Job → Pool → Reply → ℕ → Bool
answer_concerns Job.Idle c a j = false
answer_concerns (Job.Running r) c a j = is_one (takes c.roster.members c.roster.version r a).normal j
answer_concerns (Job.Removing d) c a j = eqb j d.id

-- what the removal of an id may do to the client map, `deletes` being its mode: zero the row of the member, or all once no session is left.
abbrev pub removal_touches : ℕ → Bool → Roster → Effect → Bool
removal_touches id deletes after Effect.Keep = true
removal_touches id deletes after (Effect.Mark s k) = false
removal_touches id deletes after (Effect.ZeroRow m) = eqb m id && deletes
removal_touches id deletes after Effect.ZeroAll = nobody_left after
removal_touches id deletes after (Effect.FillRow m n) = false

-- what an answer may do to it
abbrev pub answer_touches : Job → Pool → Roster → Effect → Bool
answer_touches Job.Idle c after ef = keeps ef
answer_touches (Job.Running r) c after ef = keeps ef
answer_touches (Job.Removing d) c after ef = removal_touches d.id (is_deleting (state_of c d.id)) after ef

-- what a write may do to it: mark its chunk for the mark list
abbrev pub write_touches : ℕ → Roster → Effect → Bool
write_touches chunk after Effect.Keep = true
write_touches chunk after (Effect.Mark s k) = eqb k chunk && eqb s (ids_of Kind.Listed after)
write_touches chunk after (Effect.ZeroRow m) = false
write_touches chunk after Effect.ZeroAll = false
write_touches chunk after (Effect.FillRow m n) = false

-- what extend may do to it: set that id's row for every chunk
abbrev pub extend_touches : Pool → Effect → Bool
extend_touches c Effect.Keep = true
extend_touches c (Effect.Mark s k) = false
extend_touches c (Effect.ZeroRow m) = false
extend_touches c Effect.ZeroAll = false
extend_touches c (Effect.FillRow m n) = eqb m (picks c) && eqb n c.chunks

-- An event's part in a removal: remove, of an id in a mode; an answer, while a removal is in hand; none.
pub data Part : Type 0 where
  none : Part
  remove : ℕ → Mode → Part
  answer : Removal → Reply → Part

abbrev pub answer_part : Job → Reply → Part
answer_part Job.Idle a = Part.none
answer_part (Job.Running r) a = Part.none
answer_part (Job.Removing m) a = Part.answer m a

-- How an event comes during a run: an answer, a link down, or barred.
pub data Sort : Type 0 where
  answer : Sort
  down : Sort
  barred : Sort

abbrev pub sort_is_answer : Sort → Bool
sort_is_answer Sort.answer = true
sort_is_answer Sort.down = false
sort_is_answer Sort.barred = false

abbrev pub sort_is_down : Sort → Bool
sort_is_down Sort.answer = false
sort_is_down Sort.down = true
sort_is_down Sort.barred = false

-- How an event is read. concerns: the sessions that it is about: its id's; at extend that of the id it picks; at a write the NORMAL ones not reached; at try and synced none.
-- touches: what it may do to the map that is lent to it, given the sessions that it leaves: a write marks, a removal zeroes, extend sets a row, every other event does nothing. part: its part in
-- a removal. sort: how it comes during a run. raises: it may raise the version.
pub record Reading : Type 0 where
  pub concerns : Pool → ℕ → Bool
  pub touches : Pool → Roster → Effect → Bool
  pub part : Pool → Part
  pub sort : Sort
  pub raises : Bool

-- an event of one session that no map is lent to, and that has no part in a removal
abbrev pub of_session : ℕ → Sort → Bool → Reading
of_session id sort raises = record { concerns = λ c j. eqb j id; touches = λ c after ef. keeps ef; part = λ c. Part.none; sort = sort; raises = raises }

abbrev pub reading_of : Event → Reading
reading_of (Event.join_create id) = of_session id Sort.barred false
reading_of (Event.join_assemble id set version) = of_session id Sort.barred true
reading_of (Event.enable id) = of_session id Sort.barred false
reading_of (Event.maintenance id) = of_session id Sort.barred true
reading_of (Event.link_down id) = of_session id Sort.down true
reading_of (Event.store_check id) = of_session id Sort.barred false
reading_of (Event.rejoin id) = of_session id Sort.barred false
reading_of Event.try_run =
    record {
      concerns = λ c j. false;
      touches = λ c after ef. keeps ef;
      part = λ c. Part.none;
      sort = Sort.barred;
      raises = false;
    }
reading_of (Event.remove xs id mode) =
    record {
      concerns = λ c j. eqb j id;
      touches = λ c after ef. removal_touches id (is_delete mode) after ef;
      part = λ c. Part.remove id mode;
      sort = Sort.barred;
      raises = true;
    }
reading_of (Event.write xs chunk reached) =
    record {
      concerns = λ c j. is_normal (state_of c j) && not (has reached j);
      touches = λ c after ef. write_touches chunk after ef;
      part = λ c. Part.none;
      sort = Sort.barred;
      raises = true;
    }
reading_of (Event.synced xs member chunk) =
    record {
      concerns = λ c j. false;
      touches = λ c after ef. keeps ef;
      part = λ c. Part.none;
      sort = Sort.barred;
      raises = false;
    }
reading_of (Event.answer xs number a) =
    record {
      concerns = λ c j. answer_concerns (job_of c) c a j;
      touches = λ c after ef. answer_touches (job_of c) c after ef;
      part = λ c. answer_part (job_of c) a;
      sort = Sort.answer;
      raises = true;
    }
reading_of (Event.extend xs) =
    record {
      concerns = λ c j. eqb j (picks c);
      touches = λ c after ef. extend_touches c ef;
      part = λ c. Part.none;
      sort = Sort.barred;
      raises = false;
    }

abbrev pub concerns : Event → Pool → ℕ → Bool
concerns e = (reading_of e).concerns

abbrev pub touches : Event → Pool → Roster → Effect → Bool
touches e = (reading_of e).touches

abbrev pub part_of : Event → Pool → Part
part_of e = (reading_of e).part

abbrev pub is_answer : Event → Bool
is_answer e = sort_is_answer (reading_of e).sort

abbrev pub is_down : Event → Bool
is_down e = sort_is_down (reading_of e).sort

abbrev pub raises : Event → Bool
raises e = (reading_of e).raises
