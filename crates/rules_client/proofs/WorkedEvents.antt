-- Rows of the table of events.
use mathlib.Core.Path.{◌≡◌, refl}
use mathlib.Core.Bool.{Bool, true, false}
use mathlib.Core.List.{List, [], ◌∷◌}
use Prim.Native.Nat.{ℕ}
use lib.ListN.{replicate}
use Rattle.laws_words.specs.Words.{bit}
use Rattle.rules_base.specs.Refusals.{refusal}
use Rattle.rules_base.specs.Sets.{has, with, without, size, lowest}
use Rattle.rules_pool.specs.declared.State.{State}
use Rattle.rules_pool.specs.declared.Session.{Session}
use Rattle.rules_pool.specs.declared.Job.{Job}
use Rattle.rules_pool.specs.declared.Pool.{Pool}
use Rattle.rules_pool.specs.Past.{no_past}
use Rattle.rules_pool.specs.Session.{new_session}
use Rattle.rules_pool.specs.Sessions.{ids_of}
use Rattle.rules_pool.specs.Changes.{entered}
use Rattle.rules_pool.specs.StateRules.{roster_ok, all_asked, one_asked, run_ok, valid_pool}
use Rattle.rules_pool.specs.Breaking.{is_accepted}
use Rattle.rules_client.specs.Enables as Enables
use Rattle.rules_client.specs.Client.{carried}
use Rattle.rules_client.specs.Events.{Event, Lent, tests_of, turn_of, map_left}

-- one session, CREATED; in a sync pool none is a member
abbrev pool : Bool → ℕ → Pool
pool sync members =
    record {
      roster =
          record {
            sessions = new_session State.Created ∷ replicate 15 (new_session State.Free);
            count = 0;
            version = 1;
            members = members;
            sync = sync;
            past = no_past;
          };
      job = Job.Idle;
      number = 0;
      chunks = 64;
    }

-- try is refused 5 in a sync pool; enable of that session is accepted
rows :
    (refusal (tests_of Event.try_run (pool true 0)) ≡ 5)
    × (is_accepted (turn_of (Event.enable 0) (pool false 1)).answer ≡ true)
unfolding bit has with without size lowest ids_of entered roster_ok all_asked one_asked run_ok valid_pool Enables.enables Enables.enable_refusal Enables.enable_done Enables.enable
rows = (refl, refl)

-- what a write leaves of the map is what its turn does to it
leaves : (xs : List ℕ) (chunk reached : ℕ) (c : Pool) → map_left (Event.write xs chunk reached) c ≡ Lent.some (carried (turn_of (Event.write xs chunk reached) c).effect xs)
leaves xs chunk reached c = refl
