-- The client's contracts leave nothing open.
use Rattle.std.specs.Prelude.{◌≡◌, Bool, ℕ}
use Rattle.rules_client.specs.Client.{Client}
use Rattle.rules_client.specs.Client.{Out}
use Rattle.rules_client.specs.Client.{fresh}
use Rattle.rules_client.specs.Events.{Lent}
use Rattle.rules_client.specs.ClientEvents.{Event, Meets}

-- Two that meet it are equal: answer, messages, next state, every byte of the map.
abbrev pub OneAnswer : Type 0
OneAnswer = (e : Event) (c : Client) (r r' : Out) (map map' : Lent) → Meets e c r map → Meets e c r' map' → (r ≡ r') × (map ≡ map')

-- and so are two fresh clients
abbrev pub OneFresh : Type 0
OneFresh = (sync : Bool) (chunks : ℕ) (r r' : Client) → r ≡ fresh sync chunks → r' ≡ fresh sync chunks → r ≡ r'
