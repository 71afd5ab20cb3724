-- The creation hole: a pool in service, and that no enable makes a CREATED session of it NORMAL.
use Rattle.std.specs.Prelude.{◌≡◌, Bool, true, false, not, ◌&&◌, ℕ, eqb}
use Rattle.rules_pool.specs.declared.Job.{Job}
use Rattle.rules_pool.specs.declared.Outcome.{Outcome}
use Rattle.rules_pool.specs.declared.Answer.{Answer}
use Rattle.rules_pool.specs.Session.{is_created}
use Rattle.rules_pool.specs.declared.Pool.{Pool}
use Rattle.rules_pool.specs.Breaking.{acknowledges, is_accepted}
use Rattle.rules_client.specs.Events.{Event, turn_of, next, state_of, is_sync, job_of}
use Rattle.theorem_client.specs.Reading.{Part, part_of}
use Rattle.theorem_client.specs.Demand2.{Reached}
use Rattle.theorem_client.specs.Said.{members_of, takes_out}

-- ---- words

-- a node's member set is taken over: a join assemble is accepted, and the membership was empty
abbrev pub takes_over : Event → Pool → Bool
takes_over (Event.join_create id) c = false
takes_over (Event.join_assemble id set version) c = is_accepted (turn_of (Event.join_assemble id set version) c).answer && eqb (members_of c) 0
takes_over (Event.enable id) c = false
takes_over (Event.maintenance id) c = false
takes_over (Event.link_down id) c = false
takes_over (Event.store_check id) c = false
takes_over (Event.rejoin id) c = false
takes_over Event.try_run c = false
takes_over (Event.remove xs id mode) c = false
takes_over (Event.write xs chunk reached) c = false
takes_over (Event.synced xs member chunk) c = false
takes_over (Event.answer xs number a) c = false
takes_over (Event.extend xs) c = false

-- a delete takes out a member's entry, be it there or not; a sync pool has none
abbrev pub takes_one : Part → Pool → Bool
takes_one Part.none c = false
takes_one (Part.remove id mode) c = takes_out (Part.remove id mode) c id
takes_one (Part.answer m a) c = takes_out (Part.answer m a) c m.id

-- a delete emptied the membership
abbrev pub empties : Event → Pool → Bool
empties e c = is_accepted (turn_of e c).answer && (takes_one (part_of e c) c && (not (is_sync c) && eqb (members_of (next e c)) 0))

-- A pool in service: reached from a fresh one, a write was acknowledged in it or a set taken over, and no delete emptied the membership since.
pub data InService : Pool → Type 0 where
  wrote : (c : Pool) (e : Event) → Reached c → acknowledges (turn_of e c).answer ≡ true → InService (next e c)
  took_over : (c : Pool) (e : Event) → Reached c → takes_over e c ≡ true → InService (next e c)
  stays : (c : Pool) (e : Event) → InService c → empties e c ≡ false → InService (next e c)

-- ---- the theorems

-- There no enable is accepted of a CREATED session: it does not become NORMAL, and nothing changes. Refused: a write that does not set the flag, one that a disassemble or a
-- join clears; an enable that looks at one of the two alone.
abbrev pub NoneEnabled : Type 0
NoneEnabled = (c : Pool) → InService c → (id : ℕ) → is_created (state_of c id) ≡ true → (is_accepted (turn_of (Event.enable id) c).answer ≡ false) × (next (Event.enable id) c ≡ c)

-- The number is 17, unless 5 or 6 comes before it: in a pool that is not sync, with no job in hand.
abbrev pub Seventeen : Type 0
Seventeen = (c : Pool) → InService c → is_sync c ≡ false → job_of c ≡ Job.Idle → (id : ℕ) → is_created (state_of c id) ≡ true → (turn_of (Event.enable id) c).answer ≡ Answer.Refused 17

-- And it is given to nobody else: in a pool that is not in service, or at the end of maintenance, never. Refused: a flag that outlasts the last member; 17 given to a session in
-- maintenance.
abbrev pub OnlyThere : Type 0
OnlyThere = (c : Pool) → Reached c → (id : ℕ) → (turn_of (Event.enable id) c).answer ≡ Answer.Refused 17 → InService c × (is_created (state_of c id) ≡ true)
