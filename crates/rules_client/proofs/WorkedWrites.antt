-- The tester's table where writes end, by computation.
use mathlib.Core.Path.{◌≡◌, refl}
use mathlib.Core.Bool.{true, false}
use mathlib.Core.List.{List, ◌∷◌}
use Prim.Native.Nat.{ℕ}
use lib.ListN.{replicate}
use Rattle.laws_words.specs.Words.{bit}
use Rattle.rules_base.specs.Sets.{has, with, without, size, lowest}
use Rattle.rules_pool.specs.declared.Mode.{Mode}
use Rattle.rules_pool.specs.declared.Cause.{Cause}
use Rattle.rules_pool.specs.declared.State.{State}
use Rattle.rules_pool.specs.declared.Session.{Session}
use Rattle.rules_pool.specs.declared.Job.{Job}
use Rattle.rules_pool.specs.declared.Pool.{Pool}
use Rattle.rules_pool.specs.declared.Message.{Message}
use Rattle.rules_pool.specs.declared.Told.{Told}
use Rattle.rules_pool.specs.declared.Outcome.{Outcome}
use Rattle.rules_pool.specs.declared.Answer.{Answer}
use Rattle.rules_pool.specs.declared.Effect.{Effect}
use Rattle.rules_pool.specs.Past.{no_past}
use Rattle.rules_pool.specs.Session.{new_session}
use Rattle.rules_pool.specs.declared.Kind.{Kind}
use Rattle.rules_pool.specs.Sessions.{ids_of}
use Rattle.rules_pool.specs.Changes.{left, failed}
use Rattle.rules_pool.specs.StateRules.{roster_ok, all_asked, one_asked, run_ok, valid_pool}
use Rattle.rules_client.specs.Writes.{reach_bars, write_refusal, miss_step, missed, marks, write_done, write_ended, syncs, sync_refusal, sync_done, synced}

-- these sessions, of which the first two are NORMAL, in a pool of 4,096 chunks with these members
abbrev pool : List Session → ℕ → Pool
pool others members =
    record {
      roster =
          record {
            sessions = new_session State.Normal ∷ new_session State.Normal ∷ others;
            count = 2;
            version = 3;
            members = members;
            sync = false;
            past = no_past;
          };
      job = Job.Idle;
      number = 4;
      chunks = 4096;
    }

abbrev nobody : Session
nobody = new_session State.Free

abbrev both : Pool
both = pool (replicate 14 nobody) 3

-- member 2 has no session, 3 is being deleted, 4 disassembled
abbrev more : Pool
more = pool (nobody ∷ new_session (State.Removing Mode.Delete true) ∷ new_session (State.Removing Mode.Disassemble true) ∷ replicate 11 nobody) 31

abbrev done : Outcome → Told → Answer
done o t = Answer.Done (record { outcome = o; told = t; awaited = Message.Nothing; number = 0 })

-- Both NORMAL, write reached {1}: 0 FAILED, list {0}. Reached {}: both FAILED, 1 marked, not acknowledged. The list holds a member without session and one being
-- disassembled, none being deleted. Of 4,096 chunks, 4,095 taken, 4,096 refused 4.
worked :
    ((write_ended both true 7 2).answer ≡ done (Outcome.Written true 1) (Told.Marks 2 7 1 4))
    × ((write_ended both true 7 2).effect ≡ Effect.Mark 1 7)
    × ((write_ended both true 7 2).pool.roster.sessions ≡ new_session (State.Failed Cause.Io) ∷ new_session State.Normal ∷ replicate 14 nobody)
    × ((write_ended both true 7 0).answer ≡ done (Outcome.Written false 0) Told.Nothing)
    × (ids_of Kind.Marked (write_ended both true 7 0).pool.roster ≡ 2)
    × ((write_ended both true 7 0).pool.roster.version ≡ 5)
    × ((write_ended more true 4095 3).answer ≡ done (Outcome.Written true 20) (Told.Marks 3 4095 20 3))
    × ((write_ended both true 4096 3).answer ≡ Answer.Refused 4)
    × ((write_ended both false 0 3).answer ≡ Answer.Refused 2)
    × ((synced both true 0 5 2).answer ≡ done Outcome.Plain (Told.Clears 3 0 5))
    × ((synced both true 0 5 1).answer ≡ Answer.Refused 12)
unfolding bit has with without size lowest ids_of left failed roster_ok all_asked one_asked run_ok valid_pool reach_bars write_refusal miss_step missed marks write_done write_ended syncs sync_refusal sync_done synced
worked = (refl, refl, refl, refl, refl, refl, refl, refl, refl, refl, refl)
