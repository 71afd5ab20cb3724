-- Every event keeps the state rules.
use mathlib.Core.Path.{◌≡◌, refl}
use mathlib.Core.Bool.{Bool, true, false}
use Prim.Native.Nat.{ℕ, ◌≤◌}
use lib.ListN.{replicate}
use Rattle.laws_words.specs.Words.{bit}
use Rattle.rules_base.specs.Limits.{chunk_limit}
use Rattle.rules_base.specs.Sets.{has, size}
use Rattle.rules_pool.specs.Past.{no_past}
use Rattle.rules_pool.specs.Session.{free}
use Rattle.rules_pool.specs.declared.Roster.{Roster}
use Rattle.rules_pool.specs.Sessions.{ids_of}
use Rattle.rules_pool.specs.StateRules.{roster_ok}
use Rattle.laws_client.proofs.Pools.{Valid}
use Rattle.laws_client.proofs.Rosters.{ok-facts}
use Rattle.rules_client.specs.Client.{fresh_pool}

-- ---- a fresh client keeps the rules

abbrev fresh_roster : Bool → Roster
fresh_roster sync = record { sessions = replicate 16 free; count = 0; version = 1; members = 0; sync = sync; past = no_past }

fresh_ok : (sync : Bool) → roster_ok (fresh_roster sync) ≡ true
unfolding roster_ok ids_of size has bit
fresh_ok true = refl
fresh_ok false = refl

pub fresh-valid : (sync : Bool) (chunks : ℕ) → 1 ≤ chunks → chunks ≤ chunk_limit → Valid (fresh_pool sync chunks)
fresh-valid sync chunks a b = record { some = a; most = b; ok = ok-facts (fresh_roster sync) refl (fresh_ok sync); job = refl }

-- ---- every event
