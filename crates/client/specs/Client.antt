-- The client as the code declares it, and as the rules have it.
use Rattle.std.specs.Prelude.{Bool, ℕ}
use Rattle.rules_pool.specs.declared.Turn.{Turn}
use Rattle.rules_pool.specs.declared.Pool.{Pool}
use Rattle.rules_client.specs.declared.Check.{Check}
use Rattle.rules_client.specs.declared.Checked.{Checked}
use Rattle.rules_client.specs.Joins.{join_create, join_assemble}
use Rattle.rules_client.specs.Enables.{enable, maintenance}
use Rattle.rules_client.specs.Links.{link_down, store_check, rejoin, try_run}
use Rattle.rules_client.specs.Remove.{remove}
use Rattle.rules_client.specs.Writes.{write_ended, synced}
use Rattle.rules_client.specs.Answers.{answer}
use Rattle.rules_client.specs.Extend.{extend}
use Rattle.rules_client.specs.MapCheck as checks
use Rattle.rules_client.specs.Client as rules
use Rattle.event.specs.declared.Event.{Event}
use Rattle.client.specs.declared.Client.{Client}
use Rattle.client.specs.declared.Out.{Out}
use Rattle.client.specs.declared.Step.{Step}

abbrev pub held : Client → rules.Client
held c = record { pool = c.pool; check = c.check }

abbrev pub came : Out → rules.Out
came r = record { answer = r.answer; client = held r.client }

abbrev pub made : rules.Client → Client
made c = record { pool = c.pool; check = c.check }

abbrev pub given : rules.Out → Out
given r = record { answer = r.answer; client = made r.client }

abbrev pub fresh : Bool → ℕ → Client
fresh sync chunks = made (rules.fresh sync chunks)

abbrev pub handed : Client → Turn → Out
handed c t = given (rules.handed (held c) t)

abbrev pub check_handed : Client → Checked → Out
check_handed c k = given (rules.check_handed (held c) k)

-- what an event of the pool comes to, and one of map check
abbrev pub of_pool : Pool → Check → Turn → Step
of_pool p k t = record { out = handed (record { pool = p; check = k }) t; effect = t.effect }

abbrev pub of_check : Pool → Checked → Step
of_check p k = record { out = record { answer = k.answer; client = record { pool = p; check = k.check } }; effect = k.effect }

-- What an event comes to by what is seen of the lent map: whether it is sound, and ids: those for which the chunk is clean in a map that synced reads, those whose row is not
-- empty in one that a tick reads.
abbrev pub stepped : Event → Pool → Check → Bool → ℕ → Step
stepped (Event.JoinCreate id) p k sound ids = of_pool p k (join_create p id)
stepped (Event.JoinAssemble id set version) p k sound ids = of_pool p k (join_assemble p id set version)
stepped (Event.Enable id) p k sound ids = of_pool p k (enable p id)
stepped (Event.Maintenance id) p k sound ids = of_pool p k (maintenance p id)
stepped (Event.LinkDown id) p k sound ids = of_pool p k (link_down p id)
stepped (Event.StoreCheck id) p k sound ids = of_pool p k (store_check p id)
stepped (Event.Rejoin id) p k sound ids = of_pool p k (rejoin p id)
stepped Event.Try p k sound ids = of_pool p k (try_run p)
stepped (Event.Remove id mode) p k sound ids = of_pool p k (remove p sound id mode)
stepped (Event.Write chunk reached) p k sound ids = of_pool p k (write_ended p sound chunk reached)
stepped (Event.Synced member chunk n) p k sound ids = of_pool p k (synced p sound member chunk ids)
stepped (Event.Answer number a) p k sound ids = of_pool p k (answer p sound number a)
stepped Event.Extend p k sound ids = of_pool p k (extend p sound)
stepped Event.Tick p k sound ids = of_check p (checks.tick p k sound ids)
stepped (Event.CheckAnswer number m empty) p k sound ids = of_check p (checks.answer p k sound number m empty)
