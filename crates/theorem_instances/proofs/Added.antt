-- The hypotheses can be met: 0 and 1 are NORMAL in a pool of twelve chunks, and extend adds 2. The nodes are those of honest's instance, with different maps, versions and member sets.
use mathlib.Core.Path.{◌≡◌, refl}
use mathlib.Core.Bool.{true, false}
use mathlib.Core.List.{[], ◌∷◌}
use Prim.Native.Nat.{◌≤◌}
use native.Mathlib.Omega.{arith}
use lib.Dec.{lit≤}
use Rattle.laws_words.specs.Words.{bit}
use Rattle.laws_words.specs.Tests.{clash}
use Rattle.rules_base.specs.Limits.{version_limit}
use Rattle.rules_base.specs.Sets.{has, with, without, size, lowest}
use Rattle.rules_base.proofs.Sets.{still}
use Rattle.rules_base.specs.Map.{sound, clean_from, spare, room}
use Rattle.rules_pool.specs.declared.Message.{Message}
use Rattle.rules_pool.specs.declared.Told.{Told}
use Rattle.rules_pool.specs.declared.Outcome.{Outcome}
use Rattle.rules_pool.specs.declared.Sent.{Sent}
use Rattle.rules_pool.specs.declared.Answer.{Answer}
use Rattle.rules_pool.specs.Sessions.{ids_of}
use Rattle.rules_pool.specs.Changes.{entered}
use Rattle.rules_pool.specs.Still.{possible}
use Rattle.rules_pool.specs.Cases as cases
use Rattle.rules_pool.specs.Recovery.{posted, tried}
use Rattle.rules_pool.specs.StateRules.{roster_ok, all_asked, one_asked, run_ok, valid_pool}
use Rattle.rules_client.specs.Joins.{join_told, create_refusal, created, create_done, join_create}
use Rattle.rules_client.specs.Extend.{picked, extend_refusal, extended, extend_done, extend}
use Rattle.rules_client.specs.Enables.{enables, enable_refusal, enable_done, enable}
use Rattle.rules_pool.specs.declared.Pool.{Pool}
use Rattle.rules_pool.specs.Breaking.{is_accepted}
use Rattle.rules_client.specs.Client.{fresh_pool, extend_turn}
use Rattle.rules_client.specs.Events.{Event, turn_of, next}
use Rattle.theorem_client.specs.Demand2.{Reached}
use Rattle.theorem_client.specs.Said.{Accepts}
use Rattle.theorem_bounds.specs.Demand3.{through}
use Rattle.theorem_instances.proofs.Bounds.{reached-through}
use Rattle.rules_world.specs.Together.{World, last_sent}
use Rattle.theorem_instances.proofs.Honest.{bytes, station, able, sound-bytes, cuts, whole-cuts}
use Rattle.theorem_recovery.specs.Demand.{Leaves}
use Rattle.theorem_recovery.specs.Added.{arrived, told_by, HonestBefore, Ends}
use Rattle.theorem_recovery.proofs.Added.{leg-added}

abbrev two : Pool
two = through (Event.join_create 0 ∷ Event.join_create 1 ∷ Event.enable 0 ∷ Event.enable 1 ∷ []) (fresh_pool false 12)

two-reached : Reached two
two-reached = reached-through (Event.join_create 0 ∷ Event.join_create 1 ∷ Event.enable 0 ∷ Event.enable 1 ∷ []) (fresh_pool false 12) (Reached.start false 12 (omega arith) (omega arith))

abbrev silent : Sent
silent = record { outcome = Outcome.Plain; told = Told.Nothing; awaited = Message.Nothing; number = 0 }

-- the world once the messages of extend arrived
abbrev world : World
world =
    record {
      pool = next (Event.extend bytes) two;
      map = bytes;
      sent = last_sent (turn_of (Event.extend bytes) two).answer silent;
      nodes = λ j. arrived (told_by two bytes) station j;
      cuts = cuts;
    }

sends : (a : Answer) → is_accepted a ≡ true → a ≡ Answer.Done (last_sent a silent)
sends (Answer.Refused n) q = clash q refl
sends (Answer.Done s) q = refl

accepts : Accepts two (Event.extend bytes)
unfolding bit has with without size lowest sound clean_from spare room ids_of entered possible posted tried cases.case_of cases.begun roster_ok all_asked one_asked run_ok valid_pool join_told create_refusal created create_done join_create enables enable_refusal enable_done enable picked extend_refusal extended extend_done extend extend_turn bytes
accepts = record { reached = two-reached; done = refl }

leaves : Leaves (Event.extend bytes) two world
unfolding bit has with without size lowest sound clean_from spare room ids_of entered possible posted tried cases.case_of cases.begun roster_ok all_asked one_asked run_ok valid_pool join_told create_refusal created create_done join_create enables enable_refusal enable_done enable picked extend_refusal extended extend_done extend extend_turn bytes
leaves = record { pool = refl; sent = sends (turn_of (Event.extend bytes) two).answer refl; map = sound-bytes }

before : HonestBefore two bytes station
unfolding bit has with without size lowest sound clean_from spare room ids_of entered possible posted tried cases.case_of cases.begun roster_ok all_asked one_asked run_ok valid_pool join_told create_refusal created create_done join_create enables enable_refusal enable_done enable picked extend_refusal extended extend_done extend extend_turn bytes
before = record { source = able 0 refl; others = λ j h. able j (still 7 0 j (still (without 7 0) 1 j h).0).0 }

low : 1 ≤ version_limit
low = lit≤ tt

-- After three answers 2 is NORMAL on both sides, with the map of 0 and its own row full.
pub instance : Ends two bytes 3 world
unfolding bit has with without size lowest sound clean_from spare room ids_of entered possible posted tried cases.case_of cases.begun roster_ok all_asked one_asked run_ok valid_pool join_told create_refusal created create_done join_create enables enable_refusal enable_done enable picked extend_refusal extended extend_done extend extend_turn bytes
instance = leg-added two bytes accepts low station before world leaves (λ j. refl) whole-cuts
