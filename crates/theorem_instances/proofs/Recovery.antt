-- The hypotheses of demand 3 can be met from a fresh pool: a history of events for each of the three cases, and one whose last event is a link down that ended a run,
-- all with three members; the nodes are those of honest's instance, CREATED, NORMAL and NO_IO, with different maps, versions, member sets and kept chunks.
use Rattle.std.specs.Prelude.{None}
use mathlib.Core.Path.{◌≡◌, refl}
use mathlib.Core.Bool.{true, false}
use mathlib.Core.Logic.{◌≢◌}
use mathlib.Core.List.{List, [], ◌∷◌}
use Prim.Native.Nat.{ℕ, zero, suc, ◌≤◌}
use native.Mathlib.Omega.{arith}
use lib.Dec.{lit≤}
use Rattle.laws_words.specs.Words.{bit}
use Rattle.laws_words.specs.Tests.{clash}
use Rattle.rules_base.specs.Sets.{has, with, without, size, lowest}
use Rattle.rules_base.proofs.Sets.{still}
use Rattle.rules_base.specs.Map.{sound, clean_from, spare, room}
use Rattle.rules_pool.specs.declared.Step.{Step}
use Rattle.rules_pool.specs.declared.Phase.{Phase}
use Rattle.rules_pool.specs.declared.Run.{Run}
use Rattle.rules_pool.specs.declared.Pool.{Pool}
use Rattle.rules_pool.specs.declared.Reply.{Reply}
use Rattle.rules_pool.specs.declared.Message.{Message}
use Rattle.rules_pool.specs.declared.Told.{Told}
use Rattle.rules_pool.specs.declared.Outcome.{Outcome}
use Rattle.rules_pool.specs.declared.Sent.{Sent}
use Rattle.rules_pool.specs.declared.Answer.{Answer}
use Rattle.rules_pool.specs.Sessions.{ids_of}
use Rattle.rules_pool.specs.Changes.{entered, left, failed, went}
use Rattle.rules_pool.specs.Run as run
use Rattle.rules_pool.specs.Still.{possible}
use Rattle.rules_pool.specs.Cases as cases
use Rattle.rules_pool.specs.Recovery.{posted, tried}
use Rattle.rules_pool.specs.StateRules.{roster_ok, all_asked, one_asked, run_ok, valid_pool}
use Rattle.rules_client.specs.Joins.{join_told, create_refusal, created, create_done, join_create, set_bars, assemble_refusal, assembled, assemble_done, join_assemble}
use Rattle.rules_client.specs.Enables.{enables, enable_refusal, enable_done, enable}
use Rattle.rules_client.specs.Links.{drops, down_refusal, dropped, down_done, link_down, checks, check_refusal, check_done, store_check}
use Rattle.rules_client.specs.Answers.{answer_refusal, moved_on, answer}
use Rattle.rules_pool.specs.Breaking.{is_accepted}
use Rattle.rules_client.specs.Client.{fresh_pool, answer_turn}
use Rattle.rules_client.specs.Events.{Event, turn_of, next}
use Rattle.theorem_client.specs.Demand2.{Reached}
use Rattle.theorem_bounds.specs.Demand3.{through, Begins, tried_in}
use Rattle.theorem_instances.proofs.Bounds.{reached-through}
use Rattle.rules_world.specs.Together.{World, last_sent}
use Rattle.theorem_honest.specs.Demand.{Case1, Case2, Case3}
use Rattle.theorem_instances.proofs.Honest.{bytes, station, able, sound-bytes, cuts, whole-cuts}
use Rattle.theorem_recovery.specs.Demand.{Leaves, normals, candidates, authoritative, Exact}
use Rattle.theorem_recovery.proofs.Demand.{demand-3}

-- ---- what all have in common

-- a pool of twelve chunks after events
abbrev after : List Event → Pool
after es = through es (fresh_pool false 12)

reached : (es : List Event) → Reached (after es)
reached es = reached-through es (fresh_pool false 12) (Reached.start false 12 (omega arith) (omega arith))

-- the world that an event leaves, with these nodes
abbrev silent : Sent
silent = record { outcome = Outcome.Plain; told = Told.Nothing; awaited = Message.Nothing; number = 0 }

abbrev world : Event → Pool → World
world e c = record { pool = next e c; map = bytes; sent = last_sent (turn_of e c).answer silent; nodes = station; cuts = cuts }

sends : (a : Answer) → is_accepted a ≡ true → a ≡ Answer.Done (last_sent a silent)
sends (Answer.Refused n) q = clash q refl
sends (Answer.Done s) q = refl

leaves : (e : Event) (c : Pool) → is_accepted (turn_of e c).answer ≡ true → (next e c).chunks ≡ 12 → Leaves e c (world e c)
leaves e c q k = record { pool = refl; sent = sends (turn_of e c).answer q; map = rw k sound-bytes }

-- which case it is
first-case : (p : Pool) (n : ℕ) (w : World) → normals p ≢ 0 → Exact p n w → Case1 p (lowest (normals p)) (candidates p) n w
first-case p n w h (Exact.case1 a b c) = c
first-case p n w h (Exact.case2 a m b c) = absurd (h a)
first-case p n w h (Exact.case3 a m b c) = absurd (h a)

second-case : (p : Pool) (n : ℕ) (w : World) → normals p ≡ 0 → authoritative p ≢ 0 → Exact p n w
    → Case2 p (lowest (authoritative p)) (without (candidates p) (lowest (authoritative p))) n w
second-case p n w h k (Exact.case1 a b c) = absurd (a h)
second-case p n w h k (Exact.case2 a m b c) = c
second-case p n w h k (Exact.case3 a m b c) = absurd (k m)

third-case : (p : Pool) (n : ℕ) (w : World) → normals p ≡ 0 → authoritative p ≡ 0 → Exact p n w → Case3 p n w
third-case p n w h k (Exact.case1 a b c) = absurd (a h)
third-case p n w h k (Exact.case2 a m b c) = absurd (m k)
third-case p n w h k (Exact.case3 a m b c) = c

-- one of the members but x
within : (x j : ℕ) → has (without 7 x) j ≡ true → has 7 j ≡ true
within x j h = (still 7 x j h).0

-- three members, all NORMAL, and then these events
abbrev three : List Event → List Event
three es = Event.join_create 0 ∷ (Event.join_create 1 ∷ (Event.join_create 2 ∷ (Event.enable 0 ∷ (Event.enable 1 ∷ (Event.enable 2 ∷ es)))))

-- ---- case 1

-- 0 and 2 fail and come back while 1 stays NORMAL: the good store check of 0 begins a run, whose first answer is a failed one; that of 2 begins the run of both.
abbrev history-1 : List Event
history-1 = three (Event.link_down 0 ∷ (Event.link_down 2 ∷ (Event.store_check 0 ∷ (Event.answer bytes 1 Reply.Failed ∷ []))))

abbrev run-1 : Run
run-1 = record { phase = Phase.Spread Step.Ready; source = 1; left = 5; taken = 0 }

pub begins-1 : Begins (after history-1) (Event.store_check 2) run-1
unfolding bit has with without size lowest sound clean_from spare room ids_of entered left failed went run.receiver run.failed_answer run.good run.awaited_in possible cases.case_of cases.begun posted tried roster_ok one_asked run_ok valid_pool join_told create_refusal created create_done join_create enables enable_refusal enable_done enable drops down_refusal dropped down_done link_down checks check_refusal check_done store_check answer_refusal moved_on answer answer_turn bytes
begins-1 = record { reached = reached history-1; run = refl; new = refl }

-- After six answers 0 and 2 are NORMAL on both sides, with the map of 1.
pub instance-1 : Case1 (tried_in (Event.store_check 2) (after history-1)) 1 5 6 (world (Event.store_check 2) (after history-1))
unfolding bit has with without size lowest sound clean_from spare room ids_of entered left failed went run.receiver run.failed_answer run.good run.awaited_in possible cases.case_of cases.begun posted tried roster_ok one_asked run_ok valid_pool join_told create_refusal created create_done join_create enables enable_refusal enable_done enable drops down_refusal dropped down_done link_down checks check_refusal check_done store_check answer_refusal moved_on answer answer_turn bytes
instance-1 = first-case (tried_in (Event.store_check 2) (after history-1)) 6 (world (Event.store_check 2) (after history-1)) some
    ((demand-3 (after history-1) (Event.store_check 2) run-1 begins-1).exact (world (Event.store_check 2) (after history-1)) (leaves (Event.store_check 2) (after history-1) refl refl)
    (record { source = λ n. able 1 refl; others = λ j h. able j (within 1 j h); versions = λ n. absurd (some n); cuts = whole-cuts }))
  where
    some : normals (tried_in (Event.store_check 2) (after history-1)) ≢ 0
    some e = omega arith

-- ---- case 2

-- All fail, 1 the last: it is marked, and when it comes back after the others it is the source.
abbrev history-2 : List Event
history-2 = three (Event.link_down 0 ∷ (Event.link_down 2 ∷ (Event.link_down 1 ∷ (Event.store_check 0 ∷ (Event.store_check 2 ∷ [])))))

abbrev run-2 : Run
run-2 = record { phase = Phase.Enable false; source = 1; left = 5; taken = 0 }

pub begins-2 : Begins (after history-2) (Event.store_check 1) run-2
unfolding bit has with without size lowest sound clean_from spare room ids_of entered left failed went run.receiver run.failed_answer run.good run.awaited_in possible cases.case_of cases.begun posted tried roster_ok one_asked run_ok valid_pool join_told create_refusal created create_done join_create enables enable_refusal enable_done enable drops down_refusal dropped down_done link_down checks check_refusal check_done store_check answer_refusal moved_on answer answer_turn bytes
begins-2 = record { reached = reached history-2; run = refl; new = refl }

-- After seven answers all are NORMAL on both sides, 0 and 2 with the map of 1.
pub instance-2 : Case2 (tried_in (Event.store_check 1) (after history-2)) 1 5 7 (world (Event.store_check 1) (after history-2))
unfolding bit has with without size lowest sound clean_from spare room ids_of entered left failed went run.receiver run.failed_answer run.good run.awaited_in possible cases.case_of cases.begun posted tried roster_ok one_asked run_ok valid_pool join_told create_refusal created create_done join_create enables enable_refusal enable_done enable drops down_refusal dropped down_done link_down checks check_refusal check_done store_check answer_refusal moved_on answer answer_turn bytes
instance-2 = second-case (tried_in (Event.store_check 1) (after history-2)) 7 (world (Event.store_check 1) (after history-2)) refl some
    ((demand-3 (after history-2) (Event.store_check 1) run-2 begins-2).exact (world (Event.store_check 1) (after history-2)) (leaves (Event.store_check 1) (after history-2) refl refl)
    (record { source = λ n. absurd (n refl); others = λ j h. able j h; versions = λ n m. absurd (some m); cuts = whole-cuts }))
  where
    some : authoritative (tried_in (Event.store_check 1) (after history-2)) ≢ 0
    some e = omega arith

-- ---- case 3

-- The pool is assembled from its three nodes.
abbrev history-3 : List Event
history-3 = Event.join_assemble 0 7 2 ∷ (Event.join_assemble 1 7 3 ∷ [])

abbrev run-3 : Run
run-3 = record { phase = Phase.Versions 0; source = 0; left = 7; taken = 0 }

pub begins-3 : Begins (after history-3) (Event.join_assemble 2 7 3) run-3
unfolding bit has with without size lowest ids_of went run.awaited_in possible cases.case_of cases.begun posted tried roster_ok all_asked run_ok valid_pool join_told set_bars assemble_refusal assembled assemble_done join_assemble
begins-3 = record { reached = reached history-3; run = refl; new = refl }

-- no node's version is above the pool's
versions : (j : ℕ) → (station j).node.version ≤ 3
unfolding station
versions zero = lit≤ tt
versions (suc zero) = lit≤ tt
versions (suc (suc k)) = lit≤ tt

-- After twenty-five answers all are NORMAL on both sides, with the map of the chosen.
pub instance-3 : Case3 (tried_in (Event.join_assemble 2 7 3) (after history-3)) 25 (world (Event.join_assemble 2 7 3) (after history-3))
unfolding bit has with without size lowest ids_of went run.awaited_in possible cases.case_of cases.begun posted tried roster_ok all_asked run_ok valid_pool join_told set_bars assemble_refusal assembled assemble_done join_assemble
instance-3 = third-case (tried_in (Event.join_assemble 2 7 3) (after history-3)) 25 (world (Event.join_assemble 2 7 3) (after history-3)) refl refl
    ((demand-3 (after history-3) (Event.join_assemble 2 7 3) run-3 begins-3).exact (world (Event.join_assemble 2 7 3) (after history-3)) (leaves (Event.join_assemble 2 7 3) (after history-3) refl refl)
    (record { source = λ n. absurd (n refl); others = λ j h. able j h; versions = λ n m j h. versions j; cuts = whole-cuts }))

-- ---- a link down that ended a run

-- The run of source 1 and receiver 0 is in hand, one answer taken; the link of 2, which has no part in it, drops, and the run of 1 and 0 begins again.
abbrev history-4 : List Event
history-4 =
    Event.join_create 0 ∷ (Event.join_create 1 ∷ (Event.join_create 2 ∷ (Event.enable 1
    ∷ (Event.store_check 0 ∷ (Event.answer bytes 1 (Reply.Good None) ∷ [])))))

abbrev run-4 : Run
run-4 = record { phase = Phase.Spread Step.Ready; source = 1; left = 1; taken = 0 }

pub begins-4 : Begins (after history-4) (Event.link_down 2) run-4
unfolding bit has with without size lowest sound clean_from spare room ids_of entered left failed went run.receiver run.failed_answer run.good run.awaited_in possible cases.case_of cases.begun posted tried roster_ok one_asked run_ok valid_pool join_told create_refusal created create_done join_create enables enable_refusal enable_done enable drops down_refusal dropped down_done link_down checks check_refusal check_done store_check answer_refusal moved_on answer answer_turn bytes
begins-4 = record { reached = reached history-4; run = refl; new = refl }

-- After three answers more 0 is NORMAL on both sides, with the map of 1.
pub instance-4 : Case1 (tried_in (Event.link_down 2) (after history-4)) 1 1 3 (world (Event.link_down 2) (after history-4))
unfolding bit has with without size lowest sound clean_from spare room ids_of entered left failed went run.receiver run.failed_answer run.good run.awaited_in possible cases.case_of cases.begun posted tried roster_ok one_asked run_ok valid_pool join_told create_refusal created create_done join_create enables enable_refusal enable_done enable drops down_refusal dropped down_done link_down checks check_refusal check_done store_check answer_refusal moved_on answer answer_turn bytes
instance-4 = first-case (tried_in (Event.link_down 2) (after history-4)) 3 (world (Event.link_down 2) (after history-4)) some
    ((demand-3 (after history-4) (Event.link_down 2) run-4 begins-4).exact (world (Event.link_down 2) (after history-4)) (leaves (Event.link_down 2) (after history-4) refl refl)
    (record { source = λ n. able 1 refl; others = λ j h. able j (within 1 j (still (without 7 1) 2 j h).0); versions = λ n. absurd (some n); cuts = whole-cuts }))
  where
    some : normals (tried_in (Event.link_down 2) (after history-4)) ≢ 0
    some e = omega arith
