-- The starred rows of the tester's table, by computation of the rules themselves.
use mathlib.Core.Path.{refl}
use Rattle.laws_words.specs.Words.{bit}
use Rattle.rules_base.specs.Sets.{has, with, without, size, lowest}
use Rattle.rules_base.specs.Chunk.{byte_of, chunk_marked, each, marked_for}
use Rattle.rules_base.specs.Map.{sound, clean_from, spare, room}
use Rattle.rules_pool.specs.Sessions.{ids_of}
use Rattle.rules_pool.specs.Changes.{entered, left, failed, went}
use Rattle.rules_pool.specs.Run as run
use Rattle.rules_pool.specs.Still.{possible}
use Rattle.rules_pool.specs.Cases as cases
use Rattle.rules_pool.specs.Recovery.{posted, tried}
use Rattle.rules_pool.specs.StateRules.{roster_ok, all_asked, one_asked, run_ok, valid_pool}
use Rattle.rules_client.specs.Joins.{join_told, create_refusal, created, create_done, join_create, set_bars, assemble_refusal, assembled, assemble_done, join_assemble}
use Rattle.rules_client.specs.Enables.{enables, enable_refusal, enable_done, enable, maintenance_refusal, maintenance_done, maintenance}
use Rattle.rules_client.specs.Links.{drops, down_refusal, dropped, down_done, link_down, checks, check_refusal, check_done, store_check}
use Rattle.rules_client.specs.Writes.{reach_bars, write_refusal, miss_step, missed, marks, write_done, write_ended}
use Rattle.rules_client.specs.Answers.{answer_refusal, moved_on, answer}
use Rattle.rules_client.specs.Client.{write_turn, answer_turn}
use Rattle.theorem_table.specs.Table.{All, rows, story}

pub table : All rows
unfolding bit has with without size lowest byte_of chunk_marked each marked_for sound clean_from spare room ids_of entered left failed went run.receiver run.failed_answer run.good run.awaited_in possible cases.case_of cases.begun posted tried roster_ok all_asked one_asked run_ok valid_pool join_told create_refusal created create_done join_create set_bars assemble_refusal assembled assemble_done join_assemble enables enable_refusal enable_done enable drops down_refusal dropped down_done link_down checks check_refusal check_done store_check reach_bars write_refusal miss_step missed marks write_done write_ended answer_refusal moved_on answer write_turn answer_turn
table = (refl, (refl, (refl, (refl, (refl, (refl, (refl, (refl, (refl, ((refl, refl), ((refl, refl), (refl, (refl, (refl, (refl, ((refl, refl), ((refl, refl), tt)))))))))))))))))

pub customers-story : All story
unfolding bit has with without size lowest byte_of chunk_marked each marked_for sound clean_from spare room ids_of entered left failed went run.receiver run.failed_answer run.good run.awaited_in possible cases.case_of cases.begun posted tried roster_ok all_asked one_asked run_ok valid_pool join_told create_refusal created create_done join_create set_bars assemble_refusal assembled assemble_done join_assemble enables enable_refusal enable_done enable drops down_refusal dropped down_done link_down checks check_refusal check_done store_check reach_bars write_refusal miss_step missed marks write_done write_ended answer_refusal moved_on answer write_turn answer_turn maintenance_refusal maintenance_done maintenance
customers-story = (refl, (refl, ((refl, refl), tt)))
