-- lend: so many bytes of a map are lent. What a definition does not name stays.
use Rattle.std.specs.Prelude.{ℕ, set}
use Rattle.lab_form.specs.declared.Which.{Which}
use Rattle.event_ask.specs.declared.lending.Lent.{Lent}

abbrev pub lent_by : Lent → Which → ℕ → Lent
lent_by l Which.Client n = record { own = n; maps = l.maps; stagings = l.stagings }
lent_by l (Which.Node k) n = record { own = l.own; maps = set l.maps k n; stagings = l.stagings }
lent_by l (Which.Staging k) n = record { own = l.own; maps = l.maps; stagings = set l.stagings k n }
