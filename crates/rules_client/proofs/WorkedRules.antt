-- Worked rows for which a wrong definition must fall (must-fail/): each is computed from the definitions alone.
use mathlib.Core.Path.{◌≡◌, refl}
use mathlib.Core.Bool.{true, false}
use mathlib.Core.List.{List, [], ◌∷◌}
use Prim.Native.Nat.{ℕ}
use lib.ListN.{replicate}
use Rattle.laws_words.specs.Words.{bit}
use Rattle.rules_base.specs.Sets.{has, without, lowest}
use Rattle.rules_pool.specs.declared.State.{State}
use Rattle.rules_pool.specs.declared.Session.{Session}
use Rattle.rules_pool.specs.declared.Roster.{Roster}
use Rattle.rules_pool.specs.Past.{no_past}
use Rattle.rules_pool.specs.Session.{new_session}
use Rattle.rules_pool.specs.Sessions.{ids_of}
use Rattle.rules_client.specs.Joins.{set_bars}
use Rattle.rules_client.specs.Extend.{picked}

-- member 0 is a candidate, member 1 has no session
abbrev some : Roster
some =
    record {
      sessions = new_session State.Reconnecting ∷ replicate 15 (new_session State.Free);
      count = 0;
      version = 3;
      members = 3;
      sync = false;
      past = no_past;
    }

-- a set other than ours is refused; extend picks the lowest unused id
bars : (set_bars 3 5 0 ≡ true) × (picked some ≡ 2)
unfolding set_bars picked ids_of lowest without has bit
bars = (refl, refl)
