-- The customer's story, and what clears the past: worked histories.
use Rattle.std.specs.Prelude.{None}
use mathlib.Core.Path.{◌≡◌, refl}
use mathlib.Core.Bool.{Bool, true, false, ◌&&◌}
use mathlib.Core.List.{List, [], ◌∷◌, ◌++◌}
use Prim.Native.Nat.{ℕ}
use lib.ListN.{replicate}
use Rattle.laws_words.specs.Words.{bit}
use Rattle.rules_base.specs.Sets.{has, with, without, size, lowest}
use Rattle.rules_base.specs.Map.{sound, clean_from, spare, room}
use Rattle.rules_pool.specs.declared.Mode.{Mode}
use Rattle.rules_pool.specs.declared.Reply.{Reply}
use Rattle.rules_pool.specs.declared.Answer.{Answer}
use Rattle.rules_pool.specs.declared.Kind.{Kind}
use Rattle.rules_pool.specs.Sessions.{ids_of}
use Rattle.rules_pool.specs.Changes.{entered, left, failed, went, removing}
use Rattle.rules_pool.specs.Run as run
use Rattle.rules_pool.specs.Still.{possible}
use Rattle.rules_pool.specs.Cases as cases
use Rattle.rules_pool.specs.Recovery.{posted, tried}
use Rattle.rules_pool.specs.StateRules.{roster_ok, all_asked, one_asked, run_ok, valid_pool}
use Rattle.rules_client.specs.Joins.{join_told, create_refusal, created, create_done, join_create, set_bars, assemble_refusal, assembled, assemble_done, join_assemble}
use Rattle.rules_client.specs.Enables.{enables, enable_refusal, enable_done, enable}
use Rattle.rules_client.specs.Links.{drops, down_refusal, dropped, down_done, link_down, checks, check_refusal, check_done, store_check}
use Rattle.rules_client.specs.Writes.{reach_bars, write_refusal, miss_step, missed, marks, write_done, write_ended}
use Rattle.rules_client.specs.Removal.{due, freed_from, onward, departed, started}
use Rattle.rules_client.specs.Remove.{remove_refusal, remove}
use Rattle.rules_client.specs.Answers.{answer_refusal, moved_on, answer}
use Rattle.rules_pool.specs.declared.Pool.{Pool}
use Rattle.rules_pool.specs.Breaking.{is_accepted}
use Rattle.rules_client.specs.Client.{fresh_pool, remove_turn, write_turn, answer_turn}
use Rattle.rules_client.specs.Events.{Event, turn_of, next}

abbrev after : List Event → Pool → Pool
after [] c = c
after (e ∷ es) c = after es (next e c)

abbrev accepted : List Event → Pool → Bool
accepted [] c = true
accepted (e ∷ es) c = is_accepted (turn_of e c).answer && accepted es (next e c)

abbrev zeros : List ℕ
zeros = replicate 8192 0

abbrev pool : Pool
pool = fresh_pool false 4096

abbrev good : ℕ → Event
good number = Event.answer zeros number (Reply.Good None)

abbrev normals : List Event → ℕ
normals es = ids_of Kind.Normals (after es pool).roster

-- legs A (0) and B (1) are created, A is enabled and takes a write
abbrev wrote : List Event
wrote = Event.join_create 0 ∷ Event.join_create 1 ∷ Event.enable 0 ∷ Event.write zeros 7 1 ∷ []

-- B gets in by a store check and a run
abbrev recovered : List Event
recovered = wrote ++ (Event.store_check 1 ∷ good 1 ∷ good 2 ∷ good 3 ∷ [])

-- A assembled pool whose last session was disassembled; then a leg is created.
abbrev disassembled : List Event
disassembled = Event.join_assemble 2 4 9 ∷ Event.link_down 2 ∷ Event.remove zeros 2 Mode.Disassemble ∷ Event.join_create 0 ∷ []

-- The last member is deleted after a write; then a leg is created and enabled.
abbrev deleted : List Event
deleted = Event.join_create 0 ∷ Event.enable 0 ∷ Event.write zeros 7 1 ∷ Event.remove zeros 0 Mode.Delete ∷ good 1 ∷ Event.join_create 0 ∷ Event.enable 0 ∷ []

-- The customer's enable of B is refused, so B can't vouch for itself when A fails; by a run it becomes NORMAL. Disassembling the last session clears nothing, deleting the last
-- member clears.
worked :
    (accepted wrote pool ≡ true)
    × ((turn_of (Event.enable 1) (after wrote pool)).answer ≡ Answer.Refused 17)
    × (accepted recovered pool ≡ true)
    × (normals recovered ≡ 3)
    × (accepted disassembled pool ≡ true)
    × ((turn_of (Event.enable 0) (after disassembled pool)).answer ≡ Answer.Refused 17)
    × (accepted deleted pool ≡ true)
    × (normals deleted ≡ 1)
unfolding bit has with without size lowest sound clean_from spare room ids_of entered left failed went removing run.receiver run.failed_answer run.good run.awaited_in possible cases.case_of cases.begun posted tried roster_ok all_asked one_asked run_ok valid_pool join_told create_refusal created create_done join_create set_bars assemble_refusal assembled assemble_done join_assemble enables enable_refusal enable_done enable drops down_refusal dropped down_done link_down checks check_refusal check_done store_check reach_bars write_refusal miss_step missed marks write_done write_ended due freed_from onward departed started remove_refusal remove answer_refusal moved_on answer remove_turn write_turn answer_turn
worked = (refl, refl, refl, refl, refl, refl, refl, refl)
