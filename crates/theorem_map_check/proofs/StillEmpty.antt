-- When the client zeroes a row, the member's own node still has an empty row for itself.
use mathlib.Core.Path.{◌≡◌, refl, sym, ap, ◌∙◌, subst}
use mathlib.Core.Bool.{Bool, true, false, not}
use mathlib.Core.List.{List}
use Prim.Native.Nat.{ℕ}
use lib.Dec.{eqb}
use borrow.Author.Tests.{eq-eqb, ne_eqb, not-false}
use Rattle.laws_words.specs.Words.{pick}
use Rattle.laws_words.specs.Tests.{clash, by_cases, and_left, and_right}
use Rattle.rules_base.specs.Sets.{has}
use Rattle.rules_base.proofs.Sets.{has-none, has-without-same, has-without-other}
use Rattle.rules_pool.specs.declared.Answer.{Answer}
use Rattle.rules_pool.specs.declared.Session.{Session}
use Rattle.rules_pool.specs.declared.Pool.{Pool}
use Rattle.rules_pool.specs.Session.{is_free}
use Rattle.rules_pool.specs.Jobs.{is_idle}
use Rattle.rules_client.specs.declared.Check.{Check}
use Rattle.rules_client.specs.declared.Checked as checks
use Rattle.rules_client.specs.MapCheck.{no_check}
use Rattle.rules_pool.specs.Breaking.{is_accepted, breaks}
use Rattle.rules_client.specs.Client.{Client}
use Rattle.rules_client.specs.Client.{tick_turn, check_turn}
use Rattle.rules_client.specs.Events as pool
use Rattle.theorem_client.specs.Demand1.{Verdict}
use Rattle.theorem_client.specs.Said.{Extended}
use Rattle.theorem_client.proofs.Demand1.{demand-1}
use Rattle.theorem_client.proofs.Said.{extend-adds}
use Rattle.rules_client.specs.ClientEvents.{Event, next, tests_of}
use Rattle.theorem_client.specs.Reached.{Reached}
use Rattle.theorem_client.proofs.Reached.{pool-reached}
use Rattle.theorem_client.proofs.ClientShape.{Judged, tick-judged, answer-judged, tick_done, answer_done}
use Rattle.theorem_map_check.specs.Checks.{taken, session_of, Between, Quiet, First}
use Rattle.theorem_map_check.proofs.Steps.{turn, broken, stands, pool-quiet, once-other}
use Rattle.theorem_map_check.proofs.Rows.{not-running, first-stands, first-once, two-in-a-row}
use Rattle.theorem_map_check.proofs.Node.{one-would-do}
use Rattle.rules_node.specs.declared.Checked.{Checked}
use Rattle.rules_node.specs.Face.{checked}
use Rattle.rules_node.specs.Events as storage
use Rattle.rules_world.specs.Station.{Station, face, does}
use Rattle.rules_world.specs.Together.{upd}
use Rattle.theorem_honest.proofs.Ground as real
use Rattle.model_pool.proofs.Ground.{split}
use Rattle.model_pool.proofs.Sane.{sane-keeps}
use Rattle.rules_world.specs.Whole.{World, state_in, Happening, told_in, acted, enabling, by_node, after}
use Rattle.theorem_forgotten.specs.Premises.{Keeps, Kept}
use Rattle.theorem_forgotten.proofs.Theorem.{tells}
use Rattle.theorem_map_check.specs.Watched.{Watched, client_of, Sight, is_empty, finds, seen, Watching, unchecked}
use Rattle.theorem_map_check.specs.StillEmpty.{StillEmpty}
use Rattle.theorem_map_check.proofs.StillRows.{Empty}
use Rattle.theorem_map_check.proofs.Calm.{still, Still, calm}
use Rattle.theorem_map_check.proofs.Arrivals.{own-quiet, parting, job-parts, one_kept, parts-kept, acted-kept}

-- ---- the client of a history is a reached one

acted-pool : (x : Answer) (p : Pool) (got : ℕ) (w : World) → (is_accepted x ≡ false → p ≡ w.pool) → (acted x p got w).pool ≡ p
acted-pool (Answer.Refused n) p got w f = sym (f refl)
acted-pool (Answer.Done s) p got w f = refl

refused-stays : (e : pool.Event) (p : Pool) → is_accepted (pool.turn_of e p).answer ≡ false → (pool.turn_of e p).pool ≡ p
refused-stays e p z = at (demand-1 e p)
  where
    at : Verdict e p → (pool.turn_of e p).pool ≡ p
    at (Verdict.refused n a f) = f.pool
    at (Verdict.done s a f) = clash (ap is_accepted a) z

client-is : (e : pool.Event) (got : ℕ) (w : World) (k : Check) → record { pool = (acted (pool.turn_of e w.pool).answer (pool.turn_of e w.pool).pool got w).pool; check = (next (Event.of_pool e) (record { pool = w.pool; check = k })).check } ≡ next (Event.of_pool e) (record { pool = w.pool; check = k })
client-is e got w k = λ i. record { pool = acted-pool (pool.turn_of e w.pool).answer (pool.turn_of e w.pool).pool got w (refused-stays e w.pool) i; check = (next (Event.of_pool e) (record { pool = w.pool; check = k })).check }

reaches : (v : Watched) → Watching v → Reached (client_of v)
unfolding after
reaches _ (Watching.start w s) = subst (λ (p : Pool). Reached (record { pool = p; check = no_check })) (sym s.pool) (Reached.start false s.chunks s.some s.most)
reaches _ (Watching.then v (Sight.happens (Happening.node j e)) h) = reaches v h
reaches _ (Watching.then v (Sight.happens (Happening.client e got)) h) = subst Reached (sym (client-is e got v.world v.check)) (Reached.then (client_of v) (Event.of_pool e) (reaches v h))
reaches _ (Watching.then v (Sight.happens (Happening.hand_enable j)) h) =
    subst Reached (sym (client-is (pool.Event.enable j) 0 (by_node j (enabling v.world) v.world) v.check)) (Reached.then (client_of v) (Event.of_pool (pool.Event.enable j)) (reaches v h))
reaches _ (Watching.then v (Sight.happens (Happening.arrives ls)) h) = reaches v h
reaches _ (Watching.then v (Sight.happens (Happening.breaks_off ls)) h) = reaches v h
reaches _ (Watching.then v (Sight.happens (Happening.another j xs ys)) h) = reaches v h
reaches _ (Watching.then v (Sight.tick xs) h) = Reached.then (client_of v) (Event.tick xs) (reaches v h)
reaches _ (Watching.then v (Sight.asked j) h) = reaches v h
reaches _ (Watching.then v (Sight.answered xs number m empty) h) = Reached.then (client_of v) (Event.check_answer xs number m empty) (reaches v h)

-- ---- while one answer stands, the member has a session

along : (m : ℕ) (c c' : Client) → Between (Quiet m) c c' → session_of c' m ≡ session_of c m
along m c _ Between.none = refl
along m c _ (Between.more c' e b q) = q.sessions m ∙ along m c c' b

answers-held : (c : Client) (xs : List ℕ) (number m : ℕ) (empty : Bool) → taken (Event.check_answer xs number m empty) c ≡ true → is_free (session_of c m).state ≡ false
answers-held c xs number m empty t = at (answer-judged c xs number m empty)
  where
    at : Judged (tests_of (Event.check_answer xs number m empty) c) c.check (answer_done c m empty) (check_turn c xs number m empty) → is_free (session_of c m).state ≡ false
    at (Judged.declines n f q) = clash t (ap (λ (k : checks.Checked). is_accepted k.answer) q)
    at (Judged.does f q) = f 7 refl

held : (m : ℕ) (c : Client) → First m c → is_free (session_of c m).state ≡ false
held m c f = ap (λ (s : Session). is_free s.state) (along m (next (Event.check_answer f.xs f.number m true) f.at) c f.quiet) ∙ answers-held f.at f.xs f.number m true f.accepted

-- ---- an event of the client that does not break the row

refused-told : (x : Answer) → is_accepted x ≡ false → still (told_in x) ≡ true
refused-told (Answer.Refused n) z = refl
refused-told (Answer.Done s) z = clash refl z

quiet-still : (m : ℕ) (e : pool.Event) (c : Client) → Reached c → Quiet m (Event.of_pool e) c → Still (pool.turn_of e c.pool)
quiet-still m (pool.Event.extend xs) c r q =
    by_cases (is_accepted (pool.turn_of (pool.Event.extend xs) c.pool).answer)
    (λ a. never (extend-adds c.pool xs (record { reached = pool-reached c r; done = a })))
    (λ a. refused-told (pool.turn_of (pool.Event.extend xs) c.pool).answer a)
  where
    never : Extended c.pool xs (pool.Event.extend xs) → Still (pool.turn_of (pool.Event.extend xs) c.pool)
    never x = clash (ap (λ (s : Session). is_free s.state) (q.sessions x.id) ∙ and_left _ _ x.unused) (ap is_free x.begins)
quiet-still m (pool.Event.join_create id) c r q = calm (pool.Event.join_create id) c.pool refl q.unwritten
quiet-still m (pool.Event.join_assemble id set version) c r q = calm (pool.Event.join_assemble id set version) c.pool refl q.unwritten
quiet-still m (pool.Event.enable id) c r q = calm (pool.Event.enable id) c.pool refl q.unwritten
quiet-still m (pool.Event.maintenance id) c r q = calm (pool.Event.maintenance id) c.pool refl q.unwritten
quiet-still m (pool.Event.link_down id) c r q = calm (pool.Event.link_down id) c.pool refl q.unwritten
quiet-still m (pool.Event.store_check id) c r q = calm (pool.Event.store_check id) c.pool refl q.unwritten
quiet-still m (pool.Event.rejoin id) c r q = calm (pool.Event.rejoin id) c.pool refl q.unwritten
quiet-still m pool.Event.try_run c r q = calm pool.Event.try_run c.pool refl q.unwritten
quiet-still m (pool.Event.remove xs id mode) c r q = calm (pool.Event.remove xs id mode) c.pool refl q.unwritten
quiet-still m (pool.Event.write xs chunk reached) c r q = calm (pool.Event.write xs chunk reached) c.pool refl q.unwritten
quiet-still m (pool.Event.synced xs member chunk) c r q = calm (pool.Event.synced xs member chunk) c.pool refl q.unwritten
quiet-still m (pool.Event.answer xs number reply) c r q = calm (pool.Event.answer xs number reply) c.pool refl q.unwritten

-- what still stands stood before, and nothing that comes to a node marks its own row
pub record Rests (m : ℕ) (e : pool.Event) (c : Client) : Type 0 where
  pub check : (next (Event.of_pool e) c).check ≡ c.check
  pub told : Still (pool.turn_of e c.pool)

rests : (m : ℕ) (e : pool.Event) (c : Client) → Reached c → has (next (Event.of_pool e) c).check.once m ≡ true → Rests m e c
rests m e c r o =
    by_cases (breaks c.pool (turn e c))
    (λ b. clash o (ap (λ (x : ℕ). has x m) (broken e c b) ∙ has-none m))
    (λ b. let was : has c.check.once m ≡ true = ap (λ (k : Check). has k.once m) (sym (stands e c b)) ∙ o in
    record { check = stands e c b; told = quiet-still m e c r (pool-quiet m e c r b (not-running c r m was)) })

-- ---- what a node finds

finds-empty : (m : ℕ) (s : Station) → s.node.id ≡ m → is_empty (checked (face s) s.map s.staging).answer ≡ true → Empty m s.map
finds-empty m s i z = at (checked (face s) s.map s.staging).answer refl z
  where
    at : (x : Checked) → (checked (face s) s.map s.staging).answer ≡ x → is_empty x ≡ true → Empty m s.map
    at (Checked.Refused n) q e = clash e refl
    at (Checked.Empty empty) q e = (one-would-do m (record { node = face s; map = s.map; staging = s.staging; own = i; answer = q ∙ ap Checked.Empty e })).row

-- ---- the invariant: where one answer stands and the next one, due, was given and empty, the node's own row is empty

abbrev Own : Watched → ℕ → Type 0
Own v m = has v.check.once m ≡ true → has v.check.due m ≡ true → v.found m ≡ true → Empty m (v.world.nodes m).map

module _ (v : Watched) (h : Watching v) (k : Kept (unchecked h)) (m : ℕ) (rec : Own v m) where
  itself : (v.world.nodes m).node.id ≡ m
  itself = ((tells v.world (unchecked h) k).reflects.sane m).itself

  same_check : (k' : Check) → k' ≡ v.check → has k'.once m ≡ true → has k'.due m ≡ true → v.found m ≡ true → Empty m (v.world.nodes m).map
  same_check k' q o d f = rec (ap (λ (x : Check). has x.once m) (sym q) ∙ o) (ap (λ (x : Check). has x.due m) (sym q) ∙ d) f

  ticks : (xs : List ℕ) → Own (seen v (Sight.tick xs)) m
  ticks xs o d f = at (tick-judged (client_of v) xs)
    where
      at : Judged (tests_of (Event.tick xs) (client_of v)) v.check (tick_done (client_of v) xs) (tick_turn (client_of v) xs) → Empty m (v.world.nodes m).map
      at (Judged.declines n g q) = same_check (tick_turn (client_of v) xs).check (ap (λ (x : checks.Checked). x.check) q) o d (and_left (v.found m) _ f)
      at (Judged.does g q) = clash (and_right (v.found m) _ f) (ap (λ (x : checks.Checked). not (is_accepted x.answer)) q)

  asks : (j : ℕ) → Own (seen v (Sight.asked j)) m
  asks j o d f = split m j
      (λ q. finds-empty m (v.world.nodes m) itself (ap (λ (n : ℕ). is_empty (checked (face (v.world.nodes n)) (v.world.nodes n).map (v.world.nodes n).staging).answer) q ∙ (ap (λ (b : Bool). pick b (finds (v.world.nodes j)) (v.found m)) (sym (eq-eqb m j q)) ∙ f)))
      (λ q. rec o d (ap (λ (b : Bool). pick b (finds (v.world.nodes j)) (v.found m)) (sym (ne_eqb m j q)) ∙ f))

  hears : (xs : List ℕ) (number j : ℕ) (empty : Bool) → Own (seen v (Sight.answered xs number j empty)) m
  hears xs number j empty o d f = at (answer-judged (client_of v) xs number j empty)
    where
      at : Judged (tests_of (Event.check_answer xs number j empty) (client_of v)) v.check (answer_done (client_of v) j empty) (check_turn (client_of v) xs number j empty) → Empty m (v.world.nodes m).map
      at (Judged.declines n g q) = same_check (check_turn (client_of v) xs number j empty).check (ap (λ (x : checks.Checked). x.check) q) o d f
      at (Judged.does g q) = split m j
          (λ z. clash (ap (λ (x : checks.Checked). has x.check.due m) (sym q) ∙ d) (ap (λ (n : ℕ). has (answer_done (client_of v) n empty).check.due m) (sym z) ∙ has-without-same v.check.due m))
          (λ z. rec (sym (once-other v.check j m empty z) ∙ (ap (λ (x : checks.Checked). has x.check.once m) (sym q) ∙ o)) (sym (has-without-other v.check.due j m z) ∙ (ap (λ (x : checks.Checked). has x.check.due m) (sym q) ∙ d)) f)

  -- an event of the client
  acts : (e : pool.Event) (got : ℕ) (w : World) → w.pool ≡ v.world.pool → (w.nodes m).node.id ≡ m → has (next (Event.of_pool e) (client_of v)).check.once m ≡ true → has (next (Event.of_pool e) (client_of v)).check.due m ≡ true → v.found m ≡ true
      → (Empty m (v.world.nodes m).map → Empty m (w.nodes m).map) → Empty m ((acted (pool.turn_of e v.world.pool).answer (pool.turn_of e v.world.pool).pool got w).nodes m).map
  acts e got w p i o d f g =
      let x = rests m e (client_of v) (reaches v h) o in
      acted-kept m (pool.turn_of e v.world.pool).answer (pool.turn_of e v.world.pool).pool got w x.told i (g (same_check (next (Event.of_pool e) (client_of v)).check x.check o d f))

  -- a node keeps its id
  itself-after : (to : ℕ) (e : storage.Event) → (upd v.world.nodes to (does (v.world.nodes to) e).station m).node.id ≡ m
  itself-after to e = split m to
      (λ q. subst (λ (n : ℕ). (upd v.world.nodes n (does (v.world.nodes n) e).station m).node.id ≡ m) q
      (subst (λ (x : Station). x.node.id ≡ m) (sym (real.upd_same v.world.nodes m (does (v.world.nodes m) e).station)) (sane-keeps v.world.pool.chunks m e (v.world.nodes m) ((tells v.world (unchecked h) k).reflects.sane m)).itself))
      (λ q. subst (λ (x : Station). x.node.id ≡ m) (sym (real.upd_other v.world.nodes to m (does (v.world.nodes to) e).station q)) itself)

  -- the awaited message comes: of a removal, since no run is in hand
  lands : (ls : List ℕ) → is_idle v.world.pool.job ≡ false → has v.check.once m ≡ true → has v.check.due m ≡ true → v.found m ≡ true → Empty m ((after v.world (Happening.arrives ls)).nodes m).map
  unfolding after
  lands ls i o d f =
      parts-kept m ls v.world.awaited v.world.nodes
      (ap parting ((tells v.world (unchecked h) k).reflects.awaits i) ∙ job-parts v.world.pool.job v.world.pool i (not-running (client_of v) (reaches v h) m o))
      itself (rec o d f)

  happened : (x : Happening) → Keeps (unchecked h) x → Own (seen v (Sight.happens x)) m
  unfolding after
  happened (Happening.node j e) kp o d f = one_kept m v.world.nodes j e (own-quiet e (kp.own j e refl)) itself (rec o d f)
  happened (Happening.client e got) kp o d f = acts e got v.world refl itself o d f (λ z. z)
  happened (Happening.hand_enable j) kp o d f =
      acts (pool.Event.enable j) 0 (by_node j (enabling v.world) v.world) refl (itself-after j (enabling v.world)) o d f (λ z. one_kept m v.world.nodes j (enabling v.world) refl itself z)
  happened (Happening.arrives ls) kp o d f = lands ls (kp.once ls refl).0 o d f
  happened (Happening.breaks_off ls) kp o d f = lands ls (kp.broken ls refl).0 o d f
  happened (Happening.another j xs ys) kp o d f = split m j
      (λ q. clash (ap (λ (n : ℕ). is_free (state_in v.world n)) q ∙ (kp.free j xs ys refl).1) (held m (client_of v) (first-stands m (client_of v) (reaches v h) o)))
      (λ q. subst (λ (s : Station). Empty m s.map) (sym (real.upd_other v.world.nodes j m _ q)) (rec o d f))

own : (v : Watched) (h : Watching v) → Kept (unchecked h) → (m : ℕ) → Own v m
own _ (Watching.start w s) k m = λ o d f. clash f refl
own _ (Watching.then v (Sight.happens x) h) k m = happened v h k.0 m (own v h k.0 m) x k.1
own _ (Watching.then v (Sight.tick xs) h) k m = ticks v h k m (own v h k m) xs
own _ (Watching.then v (Sight.asked j) h) k m = asks v h k m (own v h k m) j
own _ (Watching.then v (Sight.answered xs number j empty) h) k m = hears v h k m (own v h k m) xs number j empty

-- ---- the second answer

answers-due : (c : Client) (xs : List ℕ) (number m : ℕ) (empty : Bool) → taken (Event.check_answer xs number m empty) c ≡ true → has c.check.due m ≡ true
answers-due c xs number m empty t = at (answer-judged c xs number m empty)
  where
    at : Judged (tests_of (Event.check_answer xs number m empty) c) c.check (answer_done c m empty) (check_turn c xs number m empty) → has c.check.due m ≡ true
    at (Judged.declines n f q) = clash t (ap (λ (k : checks.Checked). is_accepted k.answer) q)
    at (Judged.does f q) = and_right (eqb number c.check.tick) (has c.check.due m) (not-false _ (f 13 refl))

pub still-empty : StillEmpty
still-empty v h k xs number m empty z f =
    let t = two-in-a-row (client_of v) (reaches v h) xs number m empty m z in
    own v h k m (first-once m (client_of v) t.3) (answers-due (client_of v) xs number m empty t.1) (f ∙ t.2)
