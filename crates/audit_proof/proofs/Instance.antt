-- A history of a pool of 64 chunks and its log, by computation: a refused event is left out, and the causes stand while a session is FAILED.
use mathlib.Core.Path.{◌≡◌, refl}
use mathlib.Core.Bool.{false}
use mathlib.Core.List.{List, [], ◌∷◌}
use Prim.Native.Nat.{ℕ}
use Rattle.laws_words.specs.Words.{bit}
use Rattle.rules_base.specs.Sets.{has, with, without, size, lowest}
use Rattle.rules_pool.specs.Sessions.{ids_of}
use Rattle.rules_pool.specs.Changes.{entered, left, failed, went}
use Rattle.rules_pool.specs.Run as run
use Rattle.rules_pool.specs.Still.{possible}
use Rattle.rules_pool.specs.Cases as cases
use Rattle.rules_pool.specs.Recovery.{posted, tried}
use Rattle.rules_pool.specs.StateRules.{roster_ok, run_ok, valid_pool}
use Rattle.rules_client.specs.Joins.{join_told, create_refusal, created, create_done, join_create}
use Rattle.rules_client.specs.Enables.{enables, enable_refusal, enable_done, enable}
use Rattle.rules_client.specs.Links.{drops, down_refusal, dropped, down_done, link_down, check_done, rejoin_refusal, rejoin}
use Rattle.rules_client.specs.Client.{fresh}
use Rattle.rules_client.specs.Events as pool
use Rattle.rules_client.specs.ClientEvents.{Event}
use Rattle.audit_record.specs.declared.records.Record.{Record}
use Rattle.audit_record.specs.Records.{causes_in, record_of}
use Rattle.audit_proof.specs.Own.{log_from}

abbrev line : ℕ → ℕ → ℕ → ℕ → ℕ → ℕ → Record
line sequence kind member version count causes =
    record { sequence = sequence; kind = kind; member = member; set = 0; number = 0; version = version; count = count; causes = causes }

-- 0 and 1 are created and enabled, 16 is refused, the link of 1 goes down and it rejoins
abbrev history : List Event
history =
    Event.of_pool (pool.Event.join_create 0)
    ∷ Event.of_pool (pool.Event.join_create 1)
    ∷ Event.of_pool (pool.Event.join_create 16)
    ∷ Event.of_pool (pool.Event.enable 0)
    ∷ Event.of_pool (pool.Event.enable 1)
    ∷ Event.of_pool (pool.Event.link_down 1)
    ∷ Event.of_pool (pool.Event.rejoin 1)
    ∷ []

its-log : log_from 0 (fresh false 64) history ≡ line 1 1 0 1 0 0 ∷ line 2 1 1 1 0 0 ∷ line 3 3 0 1 1 0 ∷ line 4 3 1 1 2 0 ∷ line 5 5 1 2 1 4 ∷ line 6 14 1 2 1 0 ∷ []
unfolding log_from record_of causes_in bit has with without size lowest ids_of entered left failed went run.awaited_in possible cases.case_of cases.begun posted tried roster_ok run_ok valid_pool join_told create_refusal created create_done join_create enables enable_refusal enable_done enable drops down_refusal dropped down_done link_down check_done rejoin_refusal rejoin
its-log = refl
