-- Worked rows for which a wrong definition must fall (must-fail/): each is computed from the definitions alone.
use Rattle.std.specs.Prelude.{Some, None}
use mathlib.Core.Path.{◌≡◌, refl}
use mathlib.Core.Bool.{true, false}
use mathlib.Core.List.{List, [], ◌∷◌}
use Prim.Native.Nat.{ℕ}
use lib.ListN.{replicate}
use Rattle.laws_words.specs.Words.{bit}
use Rattle.rules_base.specs.Sets.{has, without, lowest}
use Rattle.rules_pool.specs.declared.Cause.{Cause}
use Rattle.rules_pool.specs.declared.State.{State}
use Rattle.rules_pool.specs.declared.Session.{Session}
use Rattle.rules_pool.specs.declared.Roster.{Roster}
use Rattle.rules_pool.specs.declared.Phase.{Phase}
use Rattle.rules_pool.specs.declared.Step.{Step}
use Rattle.rules_pool.specs.declared.Run.{Run}
use Rattle.rules_pool.specs.declared.Reply.{Reply}
use Rattle.rules_pool.specs.Past.{no_past}
use Rattle.rules_pool.specs.Session.{new_session}
use Rattle.rules_pool.specs.declared.Kind.{Kind}
use Rattle.rules_pool.specs.Sessions.{ids_of, odd}
use Rattle.rules_pool.specs.Run.{receiver, failed_answer, takes}
use Rattle.rules_pool.specs.StateRules.{all_asked, one_asked, asked, source_ok}

abbrev run : Phase → Run
run ph = record { phase = ph; source = 0; left = 6; taken = 4 }

-- A failed answer: in the base spread the run is over; in the enabling one the receiver is passed over, and the answer counts.
fails :
    ((takes 7 3 (run (Phase.Base Step.Ready)) Reply.Failed).next ≡ None)
    × ((takes 7 3 (run (Phase.Spread Step.Ready)) Reply.Failed).next ≡ Some (record { phase = Phase.Spread Step.Ready; source = 0; left = 4; taken = 5 }))
    × ((takes 7 3 (run (Phase.Spread Step.Ready)) Reply.Failed).taken ≡ 5)
unfolding failed_answer receiver lowest without has bit
fails = (refl, refl, refl)

-- member 0 is a candidate, member 1 has no session
abbrev some : Roster
some =
    record {
      sessions = new_session State.Reconnecting ∷ replicate 15 (new_session State.Free);
      count = 0;
      version = 3;
      members = 3;
      sync = false;
      past = no_past;
    }

-- ENABLE_POOL awaited in case 3 asks every member; a candidate is no source of an enabling spread
asks : (asked true some 0 ≡ false) × (source_ok (Phase.Spread Step.Ready) some 0 0 ≡ false)
unfolding all_asked one_asked ids_of lowest without has bit
asks = (refl, refl)

-- a write marks a member that has no session; a session that is no member and is not being removed breaks a state rule, FAILED too
lists : (ids_of Kind.Listed some ≡ 3) × (odd false 3 5 (new_session (State.Failed Cause.Link)) ≡ true)
unfolding ids_of has bit
lists = (refl, refl)
