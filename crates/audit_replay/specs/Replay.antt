-- An event of a log, taken by a pool by the present rules: the definitions that the contracts of the client's own methods cite.
use Rattle.std.specs.Prelude.{true}
use Rattle.rules_pool.specs.declared.Pool.{Pool}
use Rattle.rules_pool.specs.declared.Turn.{Turn}
use Rattle.rules_client.specs.Joins.{join_create, join_assemble}
use Rattle.rules_client.specs.Enables.{enable, maintenance}
use Rattle.rules_client.specs.Links.{link_down, store_check, rejoin, try_run}
use Rattle.rules_client.specs.Remove.{remove}
use Rattle.rules_client.specs.Writes.{write_ended}
use Rattle.rules_client.specs.Answers.{answer}
use Rattle.rules_client.specs.Extend.{extend}
use Rattle.audit_record.specs.declared.records.Logged.{Logged}

-- An answer is always to the awaited message: it comes with the number of the last one; where nothing is awaited it is refused as any answer is. The client map, which a log says nothing
-- of, is sound.
abbrev pub taken : Logged → Pool → Turn
taken (Logged.JoinCreate id) p = join_create p id
taken (Logged.JoinAssemble id set version) p = join_assemble p id set version
taken (Logged.Enable id) p = enable p id
taken (Logged.Maintenance id) p = maintenance p id
taken (Logged.LinkDown id) p = link_down p id
taken (Logged.StoreCheck id) p = store_check p id
taken (Logged.Remove id mode) p = remove p true id mode
taken (Logged.Write chunk reached) p = write_ended p true chunk reached
taken Logged.Try p = try_run p
taken (Logged.Answer a) p = answer p true p.number a
taken (Logged.Rejoin id) p = rejoin p id
taken Logged.Extend p = extend p true
