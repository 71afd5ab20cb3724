-- The law of every event: one record an event. What holds of all of them is drawn from it in Every.
use mathlib.Core.Path.{◌≡◌, refl, ap}
use mathlib.Core.Bool.{true, false, not}
use Prim.Native.Nat.{ℕ}
use lib.Dec.{eqb}
use borrow.Author.Tests.{eqb-true, not-false}
use Rattle.laws_words.specs.Tests.{clash, and_left, either}
use Rattle.laws_words.specs.Words.{pick}
use Rattle.rules_base.specs.Refusals.{applies}
use Rattle.rules_base.proofs.Order.{none-applies}
use Rattle.rules_base.specs.Sets.{has}
use Rattle.rules_pool.specs.Session.{is_free, is_created, is_delete}
use Rattle.rules_pool.specs.declared.Effect.{Effect}
use Rattle.rules_pool.specs.declared.Job.{Job}
use Rattle.rules_pool.specs.declared.Outcome.{Outcome}
use Rattle.rules_pool.specs.declared.Run.{Run}
use Rattle.rules_pool.specs.declared.Told.{Told}
use Rattle.rules_pool.specs.declared.Turn.{Turn}
use Rattle.rules_pool.specs.Sessions.{session_at}
use Rattle.rules_pool.specs.Exit.{refused, tried_after}
use Rattle.rules_pool.specs.Jobs.{is_idle, is_running}
use Rattle.rules_pool.specs.StateRules.{valid_pool}
use Rattle.laws_client.proofs.Pools.{Valid}
use Rattle.laws_client.proofs.JoinsKept.{create-keeps, assemble-keeps}
use Rattle.rules_client.specs.Joins.{create_refusal, create_done, join_create, assemble_refusal, assemble_done, join_assemble}
use Rattle.laws_client.proofs.EnablesKept.{enable-keeps, maintenance-keeps}
use Rattle.rules_client.specs.Enables.{enable_refusal, enable, maintenance, maintenance_refusal, maintenance_done, enable_done}
use Rattle.laws_client.proofs.LinksKept.{down-keeps, check-keeps, rejoin-keeps, as-check, try-keeps}
use Rattle.rules_client.specs.Links.{down_refusal, down_done, link_down, check_refusal, store_check, check_done, rejoin_refusal, rejoin, try_refusal, try_run}
use Rattle.laws_client.proofs.RemovalKept.{remove-keeps}
use Rattle.rules_client.specs.Remove.{remove_refusal, remove, remove_begun, gone}
use Rattle.laws_client.proofs.WritesKept.{write_keeps, synced-keeps}
use Rattle.rules_client.specs.Writes.{write_refusal, write_ended, marks, write_done, sync_refusal, sync_done, synced}
use Rattle.laws_client.proofs.AnswersKept.{answer_keeps}
use Rattle.rules_client.specs.Answers.{answer_refusal, answered, answer, awaits}
use Rattle.rules_pool.specs.Breaking.{is_accepted}
use Rattle.rules_client.specs.Client.{carried, sound_for, extend_turn, remove_turn, write_turn, answer_turn, synced_turn, clean_to}
use Rattle.rules_pool.specs.declared.Pool.{Pool}
use Rattle.theorem_client.specs.Demand2.{Kept, sound_lent}
use Rattle.rules_client.specs.Events.{Event, turn_of, Lent, lent_to, map_left, tests_of, next, state_of}
use Rattle.theorem_client.specs.Reading.{keeps, concerns, part_of, touches, raises, is_answer, is_down}
use Rattle.theorem_client.specs.Said.{members_of, frees, takes_out}
use Rattle.laws_client.proofs.ExtendingKept.{extend-keeps}
use Rattle.rules_client.specs.Extend.{picked, extend_refusal, extend, extend_done}
use Rattle.theorem_client.proofs.Extends.{extend-others, extend-fate, extend-level, extend-stays, extend-count, extend-touches, extend-inside, extend-trial}
use Rattle.theorem_client.proofs.Fates.{is_part, Fate, create-fate, assemble-fate, enable-fate, maintenance-fate, down-fate, check-fate, rejoin-fate, remove-fate, write-fate, answer-fate}
use Rattle.theorem_client.proofs.Others.{create-others, assemble-others, enable-others, maintenance-others, down-others, check-others, try-others, remove-others, write-others, synced-others, answer-others}
use Rattle.theorem_client.proofs.Removals.{remove-frees, answer-frees, create-stays, assemble-stays, enable-stays, maintenance-stays, down-stays, check-stays, try-stays, write-stays, synced-stays, answer-stays, remove-takes-out, answer-takes-out}
use Rattle.theorem_client.proofs.Shape.{why_not, down-done, answer-done, off}
use Rattle.theorem_client.proofs.Sound.{create-count, assemble-count, enable-count, maintenance-count, down-count, check-count, try-count, remove-count, write-count, synced-count, answer-count, removal-inside, answer-inside, write-inside, left-sound}
use Rattle.theorem_client.proofs.Touches.{create-touches, assemble-touches, enable-touches, maintenance-touches, down-touches, check-touches, try-touches, remove-touches, write-touches, synced-touches, answer-touches}
use Rattle.theorem_client.proofs.Tries.{Tries, create-trial, assemble-trial, enable-trial, maintenance-trial, down-trial, check-trial, try-trial, remove-trial, write-trial, synced-trial}
use Rattle.theorem_client.proofs.Versions.{Level, as-was, create-level, enable-level, check-level, try-level, synced-level, Loud, loud-of, assemble-loud, maintenance-rises, down-rises, remove-rises, write-rises, answer-rises}

-- does, same, plain: an event is what it does where nothing refuses it, else it is refused by the first that applies. one, six: what its first and sixth test say. rules: the
-- state rules. count: the chunk count. touch, same_map, left: the lent map. others, fate: the sessions that it is not about, and those that it is. level, loud: the version.
-- freeing, stays, taking: its part in a removal. tries: a run that is in hand after it is one that recovery tried began.
pub record Law (e : Event) (c : Pool) : Type 0 where
  pub does : Turn
  pub same : turn_of e c ≡ pick (eqb (why_not e c) 0) does (refused c (why_not e c))
  pub plain : why_not e c ≡ 0 → is_accepted does.answer ≡ true
  pub one : applies 1 (tests_of e c) ≡ not (valid_pool c)
  pub six : (r : Run) → c.job ≡ Job.Running r → is_answer e ≡ false → is_down e ≡ false → applies 6 (tests_of e c) ≡ true
  pub rules : Valid c → Valid (next e c)
  pub count : (next e c).chunks ≡ c.chunks
  pub touch : Valid c → touches e c (next e c).roster (turn_of e c).effect ≡ true
  pub same_map : (turn_of e c).effect ≡ Effect.Keep → map_left e c ≡ lent_to e
  pub left : Valid c → sound_lent c.chunks (lent_to e) ≡ true → sound_lent c.chunks (map_left e c) ≡ true
  pub others : (j : ℕ) → Valid c → concerns e c j ≡ false → Kept c (next e c) j
  pub fate : (j : ℕ) → Valid c → concerns e c j ≡ true → Fate c e (next e c) j
  pub level : Valid c → raises e ≡ false → Level c (next e c)
  pub loud : Valid c → raises e ≡ true → Loud e c
  pub freeing : Valid c → is_accepted (turn_of e c).answer ≡ true → is_part (part_of e c) ≡ true → (id : ℕ) → is_free (state_of c id) ≡ false → is_free (state_of (next e c) id) ≡ frees (part_of e c) c id
  pub stays : Valid c → is_part (part_of e c) ≡ false → (id : ℕ) → has (members_of c) id ≡ true → has (members_of (next e c)) id ≡ true
  pub taking : Valid c → is_accepted (turn_of e c).answer ≡ true → is_part (part_of e c) ≡ true → (id : ℕ) → has (members_of c) id ≡ true → has (members_of (next e c)) id ≡ not (takes_out (part_of e c) c id)
  pub tries : is_answer e ≡ false → is_accepted (turn_of e c).answer ≡ true → Tries c (turn_of e c)

pub law : (e : Event) (c : Pool) → Law e c
unfolding join_create create_refusal create_done extend extend_refusal extend_done extend_turn join_assemble assemble_refusal assemble_done enable enable_refusal enable_done maintenance maintenance_refusal maintenance_done link_down down_refusal down_done store_check check_refusal check_done rejoin rejoin_refusal try_run try_refusal remove remove_refusal remove_turn write_ended write_refusal write_done marks write_turn synced sync_refusal sync_done synced_turn answer answer_refusal answer_turn
law (Event.join_create id) c =
    record {
      does = create_done c id;
      same = refl;
      plain = λ e. refl;
      one = refl;
      six = λ r q a d. ap (λ (j : Job). not (is_idle j)) q;
      rules = create-keeps c id;
      count = create-count id c;
      touch = create-touches id c;
      same_map = λ q. refl;
      left = λ v s. refl;
      others = create-others id c;
      fate = λ j v n. rw (eqb-true j id n) (create-fate c id v);
      level = create-level id c;
      loud = λ v f. clash f refl;
      freeing = λ v d p id was. clash p refl;
      stays = create-stays id c;
      taking = λ v d p id was. clash p refl;
      tries = create-trial id c;
    }
law (Event.join_assemble id set version) c =
    record {
      does = assemble_done c id set version;
      same = refl;
      plain = λ e. refl;
      one = refl;
      six = λ r q a d. ap (λ (j : Job). not (is_idle j)) q;
      rules = assemble-keeps c id set version;
      count = assemble-count id set version c;
      touch = assemble-touches id set version c;
      same_map = λ q. refl;
      left = λ v s. refl;
      others = assemble-others id set version c;
      fate = λ j v n. rw (eqb-true j id n) (assemble-fate c id set version v);
      level = λ v f. clash refl f;
      loud = λ v f. assemble-loud id set version c v;
      freeing = λ v d p id was. clash p refl;
      stays = assemble-stays id set version c;
      taking = λ v d p id was. clash p refl;
      tries = assemble-trial id set version c;
    }
law (Event.enable id) c =
    record {
      does = enable_done c id;
      same = refl;
      plain = λ e. either (λ (t : Turn). is_accepted t.answer ≡ true) (is_created (session_at c.roster id).state) _ _ refl refl;
      one = refl;
      six = λ r q a d. ap (λ (j : Job). not (is_idle j)) q;
      rules = enable-keeps c id;
      count = enable-count id c;
      touch = enable-touches id c;
      same_map = λ q. refl;
      left = λ v s. refl;
      others = enable-others id c;
      fate = λ j v n. rw (eqb-true j id n) (enable-fate c id v);
      level = enable-level id c;
      loud = λ v f. clash f refl;
      freeing = λ v d p id was. clash p refl;
      stays = enable-stays id c;
      taking = λ v d p id was. clash p refl;
      tries = enable-trial id c;
    }
law (Event.maintenance id) c =
    record {
      does = maintenance_done c id;
      same = refl;
      plain = λ e. refl;
      one = refl;
      six = λ r q a d. ap (λ (j : Job). not (is_idle j)) q;
      rules = maintenance-keeps c id;
      count = maintenance-count id c;
      touch = maintenance-touches id c;
      same_map = λ q. refl;
      left = λ v s. refl;
      others = maintenance-others id c;
      fate = λ j v n. rw (eqb-true j id n) (maintenance-fate c id v (maintenance-keeps c id v));
      level = λ v f. clash refl f;
      loud = λ v f. loud-of (Event.maintenance id) c (maintenance-rises id c v);
      freeing = λ v d p id was. clash p refl;
      stays = maintenance-stays id c;
      taking = λ v d p id was. clash p refl;
      tries = maintenance-trial id c;
    }
law (Event.link_down id) c =
    record {
      does = down_done c id;
      same = refl;
      plain = λ e. down-done c.job c id;
      one = refl;
      six = λ r q a d. clash refl d;
      rules = down-keeps c id;
      count = down-count id c;
      touch = down-touches id c;
      same_map = λ q. refl;
      left = λ v s. refl;
      others = down-others id c;
      fate = λ j v n. rw (eqb-true j id n) (down-fate c id v (down-keeps c id v));
      level = λ v f. clash refl f;
      loud = λ v f. loud-of (Event.link_down id) c (down-rises id c v);
      freeing = λ v d p id was. clash p refl;
      stays = down-stays id c;
      taking = λ v d p id was. clash p refl;
      tries = down-trial id c;
    }
law (Event.store_check id) c =
    record {
      does = check_done c id;
      same = refl;
      plain = λ e. either (λ (t : Turn). is_accepted t.answer ≡ true) c.roster.sync _ _ refl refl;
      one = refl;
      six = λ r q a d. ap (λ (j : Job). not (is_idle j)) q;
      rules = check-keeps c id;
      count = check-count id c;
      touch = check-touches id c;
      same_map = λ q. refl;
      left = λ v s. refl;
      others = check-others id c;
      fate = λ j v n. rw (eqb-true j id n) (check-fate c id v);
      level = check-level id c;
      loud = λ v f. clash f refl;
      freeing = λ v d p id was. clash p refl;
      stays = check-stays id c;
      taking = λ v d p id was. clash p refl;
      tries = check-trial id c;
    }
law (Event.rejoin id) c =
    record {
      does = check_done c id;
      same = refl;
      plain = λ e. either (λ (t : Turn). is_accepted t.answer ≡ true) c.roster.sync _ _ refl refl;
      one = refl;
      six = λ r q a d. ap (λ (j : Job). not (is_idle j)) q;
      rules = rejoin-keeps c id;
      count = as-check (λ t. t.pool.chunks ≡ c.chunks) c id (λ n. refl) (check-count id c);
      touch = λ v. as-check (λ t. keeps t.effect ≡ true) c id (λ n. refl) (check-touches id c v);
      same_map = λ q. refl;
      left = λ v s. refl;
      others = λ j v f. as-check (λ t. Kept c t.pool j) c id (λ n. Kept.equal refl) (check-others id c j v f);
      fate = λ j v n. rw (eqb-true j id n) (rejoin-fate c id v);
      level = λ v f. as-check (λ t. Level c t.pool) c id (λ n. as-was c c refl) (check-level id c v f);
      loud = λ v f. clash f refl;
      freeing = λ v d p id was. clash p refl;
      stays = λ v p j was. as-check (λ t. has t.pool.roster.members j ≡ true) c id (λ n. was) (check-stays id c v p j was);
      taking = λ v d p id was. clash p refl;
      tries = λ a d. as-check (λ t. is_accepted t.answer ≡ true → Tries c t) c id (λ n z. clash z refl) (λ z. check-trial id c a z) d;
    }
law Event.try_run c =
    record {
      does = tried_after c c Outcome.Plain Told.Nothing;
      same = refl;
      plain = λ e. refl;
      one = refl;
      six = λ r q a d. ap (λ (j : Job). not (is_idle j)) q;
      rules = try-keeps c;
      count = try-count c;
      touch = try-touches c;
      same_map = λ q. refl;
      left = λ v s. refl;
      others = try-others c;
      fate = λ j v n. clash n refl;
      level = try-level c;
      loud = λ v f. clash f refl;
      freeing = λ v d p id was. clash p refl;
      stays = try-stays c;
      taking = λ v d p id was. clash p refl;
      tries = try-trial c;
    }
law (Event.remove xs id mode) c =
    record {
      does = gone c (remove_begun c id mode);
      same = refl;
      plain = λ e. refl;
      one = refl;
      six = λ r q a d. ap (λ (j : Job). not (is_idle j)) q;
      rules = remove-keeps c (sound_for c xs) id mode;
      count = remove-count xs id mode c;
      touch = remove-touches xs id mode c;
      same_map = ap (λ (ef : Effect). Lent.some (carried ef xs));
      left = λ v s. left-sound c.chunks (remove_turn c xs id mode).effect xs (removal-inside c.chunks id (is_delete mode) (next (Event.remove xs id mode) c).roster (remove_turn c xs id mode).effect (remove-touches xs id mode c v)) s;
      others = remove-others xs id mode c;
      fate = λ j v n. rw (eqb-true j id n) (remove-fate c xs id mode v);
      level = λ v f. clash refl f;
      loud = λ v f. loud-of (Event.remove xs id mode) c (remove-rises xs id mode c v);
      freeing = remove-frees xs id mode c;
      stays = λ v p id was. clash refl p;
      taking = remove-takes-out xs id mode c;
      tries = remove-trial xs id mode c;
    }
law (Event.write xs chunk reached) c =
    record {
      does = write_done c chunk reached;
      same = refl;
      plain = λ e. either (λ (t : Turn). is_accepted t.answer ≡ true) (eqb reached 0) _ _ refl refl;
      one = refl;
      six = λ r q a d. ap is_running q;
      rules = write_keeps c (sound_for c xs) chunk reached;
      count = write-count xs chunk reached c;
      touch = write-touches xs chunk reached c;
      same_map = ap (λ (ef : Effect). Lent.some (carried ef xs));
      left = λ v s. left-sound c.chunks (write_turn c xs chunk reached).effect xs (write-inside c xs chunk reached) s;
      others = write-others xs chunk reached c;
      fate = write-fate c xs chunk reached;
      level = λ v f. clash refl f;
      loud = λ v f. loud-of (Event.write xs chunk reached) c (write-rises xs chunk reached c v);
      freeing = λ v d p id was. clash p refl;
      stays = write-stays xs chunk reached c;
      taking = λ v d p id was. clash p refl;
      tries = write-trial xs chunk reached c;
    }
law (Event.synced xs member chunk) c =
    record {
      does = sync_done c member chunk;
      same = refl;
      plain = λ e. refl;
      one = refl;
      six = λ r q a d. ap is_running q;
      rules = synced-keeps c (sound_for c xs) member chunk (clean_to xs chunk 16);
      count = synced-count xs member chunk c;
      touch = synced-touches xs member chunk c;
      same_map = λ q. refl;
      left = λ v s. s;
      others = synced-others xs member chunk c;
      fate = λ j v n. clash n refl;
      level = synced-level xs member chunk c;
      loud = λ v f. clash f refl;
      freeing = λ v d p id was. clash p refl;
      stays = synced-stays xs member chunk c;
      taking = λ v d p id was. clash p refl;
      tries = synced-trial xs member chunk c;
    }
law (Event.answer xs number a) c =
    record {
      does = answered c.job c a;
      same = refl;
      plain = λ e. let w : awaits c number ≡ true = not-false (awaits c number) (none-applies (tests_of (Event.answer xs number a) c) e 13 refl) in answer-done c.job c a (off (is_idle c.job) (and_left (not (is_idle c.job)) (eqb number c.number) w));
      one = refl;
      six = λ r q a d. clash refl a;
      rules = answer_keeps c (sound_for c xs) number a;
      count = answer-count xs number a c;
      touch = answer-touches xs number a c;
      same_map = ap (λ (ef : Effect). Lent.some (carried ef xs));
      left = λ v s. left-sound c.chunks (answer_turn c xs number a).effect xs (answer-inside c.job c.chunks c (next (Event.answer xs number a) c).roster (answer_turn c xs number a).effect (answer-touches xs number a c v)) s;
      others = answer-others xs number a c;
      fate = answer-fate c xs number a;
      level = λ v f. clash refl f;
      loud = λ v f. loud-of (Event.answer xs number a) c (answer-rises xs number a c v);
      freeing = answer-frees xs number a c;
      stays = answer-stays xs number a c;
      taking = answer-takes-out xs number a c;
      tries = clash refl;
    }
law (Event.extend xs) c =
    record {
      does = extend_done c (picked c.roster);
      same = refl;
      plain = λ e. refl;
      one = refl;
      six = λ r q a d. ap (λ (j : Job). not (is_idle j)) q;
      rules = extend-keeps c (sound_for c xs);
      count = extend-count xs c;
      touch = extend-touches xs c;
      same_map = ap (λ (ef : Effect). Lent.some (carried ef xs));
      left = λ v s. left-sound c.chunks (extend_turn c xs).effect xs (extend-inside xs c) s;
      others = extend-others xs c;
      fate = λ j v n. rw (eqb-true j (picked c.roster) n) (extend-fate c xs v);
      level = extend-level xs c;
      loud = λ v f. clash f refl;
      freeing = λ v d p id was. clash p refl;
      stays = extend-stays xs c;
      taking = λ v d p id was. clash p refl;
      tries = extend-trial xs c;
    }
