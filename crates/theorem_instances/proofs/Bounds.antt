-- The hypotheses of demand 3's first half can be met, and what is said is not said of nothing: a run that begins, what comes while it lasts, the link down that ends it.
use Rattle.std.specs.Prelude.{None}
use mathlib.Core.Path.{◌≡◌, refl}
use mathlib.Core.Bool.{true, false}
use mathlib.Core.List.{List, [], ◌∷◌, ◌++◌}
use Prim.Native.Nat.{ℕ}
use native.Mathlib.Omega.{arith}
use lib.ListN.{length, replicate}
use Rattle.laws_words.specs.Words.{bit}
use Rattle.rules_base.specs.Sets.{has, with, without, size, lowest}
use Rattle.rules_base.specs.Map.{sound, clean_from, spare, room}
use Rattle.rules_pool.specs.declared.Step.{Step}
use Rattle.rules_pool.specs.declared.Phase.{Phase}
use Rattle.rules_pool.specs.declared.Run.{Run}
use Rattle.rules_pool.specs.declared.Reply.{Reply}
use Rattle.rules_pool.specs.Sessions.{ids_of}
use Rattle.rules_pool.specs.Changes.{entered, left, failed, went}
use Rattle.rules_pool.specs.Run as run
use Rattle.rules_pool.specs.Still.{possible}
use Rattle.rules_pool.specs.Cases as cases
use Rattle.rules_pool.specs.Recovery.{posted, tried}
use Rattle.rules_pool.specs.StateRules.{roster_ok, all_asked, one_asked, run_ok, valid_pool}
use Rattle.rules_client.specs.Joins.{join_told, create_refusal, created, create_done, join_create}
use Rattle.rules_client.specs.Enables.{enables, enable_refusal, enable_done, enable}
use Rattle.rules_client.specs.Links.{drops, down_refusal, dropped, down_done, link_down, checks, check_refusal, check_done, store_check, try_refusal, try_run}
use Rattle.rules_client.specs.Answers.{answer_refusal, moved_on, answer}
use Rattle.rules_pool.specs.declared.Pool.{Pool}
use Rattle.rules_client.specs.Client.{fresh_pool, answer_turn}
use Rattle.rules_client.specs.Events.{Event, next}
use Rattle.theorem_client.specs.Demand2.{Reached}
use Rattle.theorem_bounds.specs.Demand3.{through, awaited_answers, last_count, any_cut, during, most, Begins}

pub reached-through : (es : List Event) (c : Pool) → Reached c → Reached (through es c)
reached-through [] c q = q
reached-through (e ∷ es) c q = reached-through es (next e c) (Reached.then c e q)

-- Of three members 0 is NORMAL, 1 and 2 are CREATED. A good store check of 1 begins a run, which can take three answers.
abbrev three : Pool
three = through (Event.join_create 0 ∷ Event.join_create 1 ∷ Event.join_create 2 ∷ Event.enable 0 ∷ []) (fresh_pool false 8)

abbrev first : Run
first = record { phase = Phase.Spread Step.Ready; source = 0; left = 2; taken = 0 }

three-reached : Reached three
three-reached =
    reached-through (Event.join_create 0 ∷ Event.join_create 1 ∷ Event.join_create 2 ∷ Event.enable 0 ∷ []) (fresh_pool false 8)
    (Reached.start false 8 (omega arith) (omega arith))

pub begins : Begins three (Event.store_check 1) first
unfolding bit has with without size lowest ids_of entered went run.awaited_in possible cases.case_of cases.begun posted tried roster_ok run_ok valid_pool join_told create_refusal created create_done join_create enables enable_refusal enable_done enable checks check_refusal check_done store_check
begins = record { reached = three-reached; run = refl; new = refl }

-- Then come a try, an answer under another number, and the awaited one; then a link down, and an answer that comes too late.
abbrev bytes : List ℕ
bytes = replicate 8192 0

abbrev early : List Event
early = Event.try_run ∷ Event.answer bytes 7 Reply.Failed ∷ Event.answer bytes 1 (Reply.Good None) ∷ []

abbrev late : List Event
late = Event.link_down 2 ∷ Event.answer bytes 2 (Reply.Good None) ∷ []

abbrev then : List Event
then = during (early ++ late) (next (Event.store_check 1) three)

-- Of the five the first four come while the run lasts; one is an awaited answer, and so says the result.
pub four : (most (next (Event.store_check 1) three).roster ≡ 3)
    × (length then ≡ 4) × (awaited_answers then (next (Event.store_check 1) three) ≡ 1) × (last_count then (next (Event.store_check 1) three) 0 ≡ 1) × (any_cut then (next (Event.store_check 1) three) ≡ true)
unfolding bit has with without size lowest sound clean_from spare room ids_of entered left failed went run.receiver run.failed_answer run.good run.awaited_in possible cases.case_of cases.begun posted tried roster_ok all_asked one_asked run_ok valid_pool join_told create_refusal created create_done join_create enables enable_refusal enable_done enable drops down_refusal dropped down_done link_down checks check_refusal check_done store_check try_refusal try_run answer_refusal moved_on answer answer_turn
four = (refl, refl, refl, refl, refl)

-- The link down, of a session without a part in the run, ends it: the run of the same source and receiver begins again, with no answer taken.
pub again : Begins (through early (next (Event.store_check 1) three)) (Event.link_down 2) first
unfolding bit has with without size lowest sound clean_from spare room ids_of entered left failed went run.receiver run.failed_answer run.good run.awaited_in possible cases.case_of cases.begun posted tried roster_ok all_asked one_asked run_ok valid_pool join_told create_refusal created create_done join_create enables enable_refusal enable_done enable drops down_refusal dropped down_done link_down checks check_refusal check_done store_check try_refusal try_run answer_refusal moved_on answer answer_turn
again = record { reached = reached-through early (next (Event.store_check 1) three) (Reached.then three (Event.store_check 1) three-reached); run = refl; new = refl }
