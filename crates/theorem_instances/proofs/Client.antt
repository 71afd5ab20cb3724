-- Histories of three members in which every hypothesis of the theorems is met, by computation.
use Rattle.std.specs.Prelude.{None}
use mathlib.Core.Path.{◌≡◌, refl, sym, ◌∙◌}
use mathlib.Core.Bool.{Bool, true, false, ◌&&◌}
use mathlib.Core.List.{List, [], ◌∷◌, ◌++◌}
use Prim.Native.Nat.{ℕ, zero, suc, ◌+◌, ◌-◌, ◌^◌}
use lib.ListN.{replicate}
use Rattle.laws_words.specs.Words.{bit}
use Rattle.laws_words.specs.Tests.{and_left, and_right}
use Rattle.rules_base.specs.Limits.{version_limit, version_top}
use Rattle.rules_base.specs.Sets.{has, with, without, size, lowest}
use Rattle.rules_base.specs.Map.{sound, clean_from, spare, room}
use Rattle.rules_pool.specs.declared.Mode.{Mode}
use Rattle.rules_pool.specs.declared.Answer.{Answer}
use Rattle.rules_pool.specs.declared.Reply.{Reply}
use Rattle.rules_pool.specs.declared.Outcome.{Outcome}
use Rattle.rules_pool.specs.declared.Kind.{Kind}
use Rattle.rules_pool.specs.Sessions.{ids_of}
use Rattle.rules_pool.specs.Changes.{entered, left, failed, went, removing}
use Rattle.rules_pool.specs.Run as run
use Rattle.rules_pool.specs.Still.{possible}
use Rattle.rules_pool.specs.Cases as cases
use Rattle.rules_pool.specs.Recovery.{posted, tried}
use Rattle.rules_pool.specs.StateRules.{roster_ok, all_asked, one_asked, run_ok, valid_pool}
use Rattle.rules_client.specs.Extend.{picked, extend_refusal, extended, extend_done, extend}
use Rattle.rules_client.specs.Joins.{join_told, create_refusal, created, create_done, join_create, set_bars, assemble_refusal, assembled, assemble_done, join_assemble}
use Rattle.rules_client.specs.Enables.{enables, enable_refusal, enable_done, enable, maintenance_refusal, maintenance_done, maintenance}
use Rattle.rules_client.specs.Links.{drops, down_refusal, dropped, down_done, link_down, checks, check_refusal, check_done, store_check, rejoin_refusal, rejoin}
use Rattle.rules_client.specs.Writes.{reach_bars, write_refusal, miss_step, missed, marks, write_done, write_ended}
use Rattle.rules_client.specs.Removal.{due, freed_from, onward, departed, started}
use Rattle.rules_client.specs.Remove.{remove_refusal, remove}
use Rattle.rules_client.specs.Answers.{answer_refusal, moved_on, answer}
use Rattle.rules_pool.specs.declared.Pool.{Pool}
use Rattle.rules_pool.specs.Breaking.{is_accepted}
use Rattle.rules_client.specs.Client.{fresh_pool, extend_turn, remove_turn, write_turn, answer_turn}
use Rattle.rules_client.specs.Events.{Event, turn_of, next}
use Rattle.theorem_client.specs.Demand1.{Verdict}
use Rattle.theorem_client.specs.Demand2.{Reached}
use Rattle.theorem_client.specs.Said.{Accepts, count_of, members_of, version_of, reported}
use Rattle.theorem_client.proofs.Demand1.{demand-1}

-- ---- histories

abbrev after : List Event → Pool → Pool
after [] c = c
after (e ∷ es) c = after es (next e c)

-- every event of it is accepted
abbrev accepted : List Event → Pool → Bool
accepted [] c = true
accepted (e ∷ es) c = is_accepted (turn_of e c).answer && accepted es (next e c)

-- So each is an accepted event at a reached client.
accepts : (es : List Event) (e : Event) (rest : List Event) (c : Pool) → Reached c → accepted (es ++ (e ∷ rest)) c ≡ true → Accepts (after es c) e
accepts [] e rest c r d = record { reached = r; done = and_left (is_accepted (turn_of e c).answer) (accepted rest (next e c)) d }
accepts (f ∷ es) e rest c r d = accepts es e rest (next f c) (Reached.then c f r) (and_right (is_accepted (turn_of f c).answer) (accepted (es ++ (e ∷ rest)) (next f c)) d)

-- ---- three members

abbrev zeros : List ℕ
zeros = replicate 8192 0

abbrev pool : Pool
pool = fresh_pool false 4096

abbrev good : ℕ → Event
good number = Event.answer zeros number (Reply.Good None)

-- 0, 1 and 2 created and enabled
abbrev three : List Event
three = Event.join_create 0 ∷ Event.join_create 1 ∷ Event.join_create 2 ∷ Event.enable 0 ∷ Event.enable 1 ∷ Event.enable 2 ∷ []

-- A write reaches 1 alone, 0 is checked and a run begins, an answer is taken, the link of 1 goes down; 1 is checked, is the source of the next run and becomes NORMAL.
abbrev fails : List Event
fails = three ++ (Event.write zeros 7 2 ∷ Event.store_check 0 ∷ good 1 ∷ Event.link_down 1 ∷ Event.store_check 1 ∷ good 3 ∷ [])

-- 2 goes into maintenance, fails, is checked, leaves maintenance, and is brought back; then a write reaches none.
abbrev mends : List Event
mends = three ++ (Event.maintenance 2 ∷ Event.link_down 2 ∷ Event.store_check 2 ∷ Event.enable 2 ∷ good 1 ∷ good 2 ∷ good 3 ∷ Event.write zeros 7 0 ∷ [])

-- 1 is deleted: it leaves, the link of 0, awaited, goes down; the deletion starts over and tells 2.
abbrev leaves : List Event
leaves = three ++ (Event.remove zeros 1 Mode.Delete ∷ good 1 ∷ Event.link_down 0 ∷ Event.remove zeros 1 Mode.Delete ∷ good 3 ∷ [])

-- a node assembled on an empty membership fails and is removed: nothing is due
abbrev alone : List Event
alone = Event.join_assemble 2 4 9 ∷ Event.link_down 2 ∷ Event.remove zeros 2 Mode.Disassemble ∷ []

-- f of each id below n, ascending
abbrev each : (ℕ → Event) → ℕ → List Event
each f zero = []
each f (suc n) = each f n ++ (f n ∷ [])

-- The tight place: 15 has been a member, fifteen others are NORMAL, and 15 comes back with the highest version that a run may begin with. The run ends with sixteen NORMAL.
abbrev tight : List Event
tight =
    Event.join_create 15 ∷ Event.remove zeros 15 Mode.Disassemble ∷ good 1
    ∷ (each Event.join_create 15 ++ (each Event.enable 15 ++ (Event.join_assemble 15 65535 version_limit ∷ good 2 ∷ good 3 ∷ good 4 ∷ [])))

-- the link of 0 goes down, 0 rejoins and is brought back
abbrev rejoins : List Event
rejoins = three ++ (Event.link_down 0 ∷ Event.rejoin 0 ∷ good 1 ∷ good 2 ∷ good 3 ∷ [])

-- a write does not reach 0, which can't rejoin
abbrev misses : List Event
misses = three ++ (Event.write zeros 7 6 ∷ [])

-- What they leave: the version, and who is NORMAL, marked, flagged or present.
abbrev Left : Type 0
Left = ℕ × ℕ × ℕ × ℕ × ℕ

abbrev left_by : List Event → Left
left_by es = (
  version_of (after es pool),
  ids_of Kind.Normals (after es pool).roster,
  ids_of Kind.Marked (after es pool).roster,
  ids_of Kind.Maintained (after es pool).roster,
  ids_of Kind.Present (after es pool).roster,
)

worked :
    (accepted fails pool ≡ true)
    × (accepted mends pool ≡ true)
    × (accepted leaves pool ≡ true)
    × (accepted alone pool ≡ true)
    × (left_by fails ≡ (5, 2, 0, 0, 7))
    × (left_by mends ≡ (6, 0, 4, 0, 7))
    × (left_by leaves ≡ (3, 4, 0, 0, 5))
    × (members_of (after leaves pool) ≡ 5)
    × (left_by alone ≡ (10, 0, 0, 0, 0))
    × (accepted tight pool ≡ true)
    × (left_by tight ≡ (2 ^ 63 - 33, 65535, 0, 0, 65535))
    × (version_of (after tight pool) + count_of (after tight pool) ≡ version_top)
    × (valid_pool (after tight pool) ≡ true)
    × (accepted rejoins pool ≡ true)
    × (left_by rejoins ≡ (3, 7, 0, 0, 7))
    × (accepted misses pool ≡ true)
    × ((turn_of (Event.rejoin 0) (after misses pool)).answer ≡ Answer.Refused 9)
unfolding bit has with without size lowest sound clean_from spare room ids_of entered left failed went removing run.receiver run.failed_answer run.good run.awaited_in possible cases.case_of cases.begun posted tried roster_ok all_asked one_asked run_ok valid_pool join_told create_refusal created create_done join_create set_bars assemble_refusal assembled assemble_done join_assemble enables enable_refusal enable_done enable maintenance_refusal maintenance_done maintenance drops down_refusal dropped down_done link_down checks check_refusal check_done store_check rejoin_refusal rejoin reach_bars write_refusal miss_step missed marks write_done write_ended due freed_from onward departed started remove_refusal remove answer_refusal moved_on answer remove_turn write_turn answer_turn
worked = (refl, refl, refl, refl, refl, refl, refl, refl, refl, refl, refl, refl, refl, refl, refl, refl, refl)

-- ---- extend

-- 1 is deleted, and a leg is added: the id that was freed comes again. Then the run that it begins ends well.
abbrev deleted : List Event
deleted = three ++ (Event.remove zeros 1 Mode.Delete ∷ good 1 ∷ good 2 ∷ good 3 ∷ [])

abbrev again : List Event
again = deleted ++ (Event.extend zeros ∷ good 4 ∷ good 5 ∷ good 6 ∷ [])

-- sixteen legs
abbrev sixteen : List Event
sixteen =
    Event.join_create 0 ∷ Event.join_create 1 ∷ Event.join_create 2 ∷ Event.join_create 3 ∷ Event.join_create 4 ∷ Event.join_create 5 ∷ Event.join_create 6 ∷ Event.join_create 7
    ∷ Event.join_create 8 ∷ Event.join_create 9 ∷ Event.join_create 10 ∷ Event.join_create 11 ∷ Event.join_create 12 ∷ Event.join_create 13 ∷ Event.join_create 14 ∷ Event.join_create 15
    ∷ Event.enable 0 ∷ []

-- With 0, 1 and 2 there the lowest unused id is 3; with 1 deleted it is 1, and the leg becomes NORMAL. With sixteen legs extend is 19, and nothing changes.
extends :
    (reported (turn_of (Event.extend zeros) (after three pool)).answer ≡ Outcome.Picked 3)
    × (reported (turn_of (Event.extend zeros) (after deleted pool)).answer ≡ Outcome.Picked 1)
    × (accepted again pool ≡ true)
    × (left_by again ≡ (3, 7, 0, 0, 7))
    × (members_of (after again pool) ≡ 7)
    × ((turn_of (Event.extend zeros) (after sixteen pool)).answer ≡ Answer.Refused 19)
unfolding bit has with without size lowest sound clean_from spare room ids_of entered left failed went removing run.receiver run.failed_answer run.good run.awaited_in possible cases.case_of cases.begun posted tried roster_ok all_asked one_asked run_ok valid_pool join_told create_refusal created create_done join_create enables enable_refusal enable_done enable due freed_from onward departed started remove_refusal remove answer_refusal moved_on answer remove_turn answer_turn picked extend_refusal extended extend_done extend extend_turn
extends = (refl, refl, refl, refl, refl, refl)

-- a refusal changes nothing
unchanged : (e : Event) (c : Pool) (n : ℕ) → (turn_of e c).answer ≡ Answer.Refused n → next e c ≡ c
unchanged e c n q = at (demand-1 e c)
  where
    at : Verdict e c → next e c ≡ c
    at (Verdict.refused m p h) = h.pool
    at (Verdict.done s p h) = let z : Answer.Done s ≡ Answer.Refused n = sym p ∙ q in cc z

-- with sixteen legs
sixteen-stay : next (Event.extend zeros) (after sixteen pool) ≡ after sixteen pool
sixteen-stay = unchanged (Event.extend zeros) (after sixteen pool) 19 extends.5
