-- The hypotheses are needed: where one does not hold, an awaited answer is a failed one or is refused, and nobody becomes NORMAL by it.
-- Of the client and of the versions these are facts about the whole run: it is never over, or over at once. Of a node they are facts about one message,
-- MAP_READY, MAP_SEND or MAP_DONE: not shown is what the rest of the run then comes to.
use Rattle.std.specs.Prelude.{Some, None}
use mathlib.Core.Path.{◌≡◌, refl, ap, ◌∙◌}
use mathlib.Core.Bool.{Bool, true, false, ◌&&◌}
use Prim.Native.Nat.{ℕ, zero, suc, ◌<◌}
use lib.Dec.{ltb}
use borrow.Author.Tests.{lt-ltb}
use Rattle.laws_words.specs.Tests.{by_cases}
use Rattle.rules_base.specs.Sets.{has}
use Rattle.rules_base.specs.Map.{sound}
use Rattle.rules_base.proofs.Summaries.{one-summary}
use Rattle.rules_pool.specs.declared.Phase.{Phase}
use Rattle.rules_pool.specs.declared.Run.{Run}
use Rattle.rules_pool.specs.declared.Pool.{Pool}
use Rattle.rules_pool.specs.declared.Reply.{Reply}
use Rattle.rules_pool.specs.declared.Effect.{Effect}
use Rattle.rules_pool.specs.Run.{failed_at, failed_answer, good, takes}
use Rattle.rules_pool.specs.StateRules.{valid_pool}
use Rattle.rules_pool.specs.Exit as exits
use Rattle.rules_client.specs.Answers.{answer_refusal, answer}
use Rattle.rules_node.specs.declared.Answer.{Answer}
use Rattle.rules_node.specs.States.{is_serving}
use Rattle.rules_node.specs.StateRules.{valid}
use Rattle.rules_node.specs.Turns.{settled}
use Rattle.rules_node.specs.Serve.{serve_refusal, map_ready, give_part_refusal, give_part}
use Rattle.rules_node.specs.Hand.{map_done_refusal, map_done}
use Rattle.rules_base.specs.Parts.{is_part}
use Rattle.rules_node.specs.Events.{Event}
use Rattle.rules_client.specs.Client.{carried, answer_turn}
use Rattle.rules_world.specs.Station.{Station, both_sound, does}
use Rattle.rules_world.specs.Together.{World, deliver, answers_taken, exchange, exchanges}

-- ---- of a node, at its MAP_READY; a source is asked the same at MAP_SEND

-- its state rules
pub needs-rules : (s : Station) (keep : Bool) → valid s.node ≡ false → (does s (Event.map_ready keep)).answer ≡ Answer.Refused 1
unfolding does map_ready serve_refusal settled
needs-rules s keep h = rw h

-- two sound maps
pub needs-maps : (s : Station) (keep : Bool) → valid s.node ≡ true → both_sound s ≡ false → (does s (Event.map_ready keep)).answer ≡ Answer.Refused 2
unfolding does map_ready serve_refusal settled
needs-maps s keep h e = rw (h, e)

-- that it serves
pub needs-serving : (s : Station) (keep : Bool) → valid s.node ≡ true → both_sound s ≡ true → ltb 15 s.node.id ≡ false → is_serving s.node ≡ false → (does s (Event.map_ready keep)).answer ≡ Answer.Refused 9
unfolding does map_ready serve_refusal settled
needs-serving s keep h e i j = rw (h, e, one-summary.agrees s.map, i, j)

pub gives-needs-serving : (s : Station) (offset l : ℕ) → valid s.node ≡ true → both_sound s ≡ true → ltb 15 s.node.id ≡ false → is_serving s.node ≡ false → (does s (Event.give_part offset l)).answer ≡ Answer.Refused 9
unfolding does give_part give_part_refusal settled
gives-needs-serving s offset l h e i j = rw (h, e, one-summary.agrees s.map, i, j)

-- that what it is asked for is a part
pub gives-needs-part : (s : Station) (offset l : ℕ) → valid s.node ≡ true → both_sound s ≡ true → ltb 15 s.node.id ≡ false → is_serving s.node ≡ true → is_part offset l ≡ false → (does s (Event.give_part offset l)).answer ≡ Answer.Refused 16
unfolding does give_part give_part_refusal settled
gives-needs-part s offset l h e i j p = rw (h, e, one-summary.agrees s.map, i, j, p)

-- that it is a member: the node of another id, no member, refuses MAP_DONE
pub needs-itself : (s : Station) (on : Bool) (v m : ℕ) → valid s.node ≡ true → both_sound s ≡ true → ltb 15 s.node.id ≡ false → ltb 65535 m ≡ false → has m s.node.id ≡ false
    → (does s (Event.map_done on v m)).answer ≡ Answer.Refused 10
unfolding does map_done map_done_refusal settled
needs-itself s on v m h e i l j = rw (h, e, one-summary.agrees s.map, i, l, j)

-- ---- a failed answer makes nobody NORMAL

failed-nobody : (p : Phase) (r : Run) → (failed_at p r).normal ≡ None
failed-nobody (Phase.Versions best) r = refl
failed-nobody (Phase.Base s) r = refl
failed-nobody Phase.LastIo r = refl
failed-nobody (Phase.Gather s) r = refl
failed-nobody (Phase.Enable every) r = refl
failed-nobody (Phase.Spread s) r = refl

pub failed-answer : (m v : ℕ) (r : Run) → (takes m v r Reply.Failed).normal ≡ None
unfolding failed_answer
failed-answer m v r = failed-nobody r.phase r

-- ---- in case 3, no version above the pool's: the run ends

pub needs-version : (m v best x : ℕ) (r : Run) → r.phase ≡ Phase.Versions best → v < x → (takes m v r (Reply.Good (Some x))).next ≡ None
unfolding good failed_answer
needs-version m v best x r e h = rw (e, lt-ltb v x h)

-- ---- of the client: its state rules, and a sound client map; else the answer is refused, and the run is never over

pub needs-client : (p : Pool) (b : Bool) (n : ℕ) (a : Reply) → valid_pool p ≡ false → answer p b n a ≡ exits.refused p 1
unfolding answer answer_refusal
needs-client p b n a h = rw h

pub needs-client-map : (p : Pool) (n : ℕ) (a : Reply) → valid_pool p ≡ true → answer p false n a ≡ exits.refused p 2
unfolding answer answer_refusal
needs-client-map p n a h = rw h

refused-turn : (p : Pool) (b : Bool) (n : ℕ) (a : Reply) → (valid_pool p && b) ≡ false → ((answer p b n a).pool ≡ p) × ((answer p b n a).effect ≡ Effect.Keep)
refused-turn p b n a h = by_cases (valid_pool p)
    (λ v. let f : b ≡ false = rw v at h in rw (f, needs-client-map p n a v) (refl, refl))
    (λ v. rw (needs-client p b n a v) (refl, refl))

refused-exchange : (w : World) → (valid_pool w.pool && sound w.pool.chunks w.map) ≡ false → ((exchange w).pool ≡ w.pool) × ((exchange w).map ≡ w.map)
unfolding exchange answer_turn
refused-exchange w h =
    let t = refused-turn w.pool (sound w.pool.chunks w.map) w.sent.number (deliver (w.cuts (answers_taken w.pool.job)) w.sent.awaited w.nodes).reply h in
    (t.0, ap (λ (e : Effect). carried e w.map) t.1)

-- no answer is taken: pool and client map stay, however many exchanges follow
pub needs-both : (n : ℕ) (w : World) → (valid_pool w.pool && sound w.pool.chunks w.map) ≡ false → ((exchanges n w).pool ≡ w.pool) × ((exchanges n w).map ≡ w.map)
unfolding exchanges
needs-both zero w h = (refl, refl)
needs-both (suc n) w h =
    let e = refused-exchange w h in
    let r = needs-both n (exchange w) (rw (e.0, e.1) h) in
    (r.0 ∙ e.0, r.1 ∙ e.1)
