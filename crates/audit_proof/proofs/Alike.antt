-- Two pools that are equal but for the chunk count take every event alike, unless one of them refuses it with 2 or 4.
use mathlib.Core.Path.{◌≡◌, refl, sym, ap, subst}
use mathlib.Core.Bool.{Bool, true, false, not, ◌||◌}
use Prim.Native.Nat.{ℕ, ◌≤◌}
use lib.Dec.{eqb, ltb}
use borrow.Author.Tests.{eqb-true, le-leb}
use Rattle.laws_words.specs.Words.{pick}
use Rattle.laws_words.specs.Tests.{by_cases, clash}
use Rattle.rules_base.specs.Limits.{chunk_limit}
use Rattle.rules_pool.specs.declared.Mode.{Mode}
use Rattle.rules_pool.specs.declared.Reply.{Reply}
use Rattle.rules_pool.specs.declared.Pool.{Pool}
use Rattle.rules_pool.specs.declared.Turn.{Turn}
use Rattle.rules_pool.specs.StateRules.{valid_pool}
use Rattle.rules_pool.specs.Exit.{refused}
use Rattle.rules_client.specs.Joins as Joins
use Rattle.rules_client.specs.Enables as Enables
use Rattle.rules_client.specs.Links as Links
use Rattle.rules_client.specs.Writes as Writes
use Rattle.rules_client.specs.Remove as Remove
use Rattle.rules_client.specs.Answers as Answers
use Rattle.rules_client.specs.Extend as Extending
use Rattle.rules_client.specs.Client.{sound_for, clean_to, extend_turn, remove_turn, write_turn, answer_turn, synced_turn}
use Rattle.rules_client.specs.Events.{Event, turn_of}
use Rattle.audit_proof.specs.Alike as Alike
use Rattle.audit_proof.specs.Alike.{with_chunks, by_the_count}
use Rattle.audit_proof.proofs.Turns.{Same, create-done, assemble-done, enable-done, maintenance-done, down-done, check-done, try-done, remove-done, write-done, sync-done, answered-same, extend-done, turn-same}

-- ---- refusals

-- the state rules look at the chunk count only for its own bounds
pub valid_same : (c : Pool) (n : ℕ) → 1 ≤ c.chunks → c.chunks ≤ chunk_limit → 1 ≤ n → n ≤ chunk_limit → valid_pool (with_chunks n c) ≡ valid_pool c
unfolding valid_pool
valid_same c n a b a' b' = rw (le-leb 1 c.chunks a, le-leb c.chunks chunk_limit b, le-leb 1 n a', le-leb n chunk_limit b') refl

abbrev bars : ℕ → Bool
bars k = eqb k 2 || eqb k 4

not-barred : (why : ℕ) (p : Pool) (t : Turn) → by_the_count (pick (eqb why 0) t (refused p why)).answer ≡ false → bars why ≡ false
not-barred why p t h = by_cases (eqb why 0) (λ e. ap bars (eqb-true why 0 e)) (λ e. rw e at h)

-- chains of refusals that differ in 2, or in 2 and 4
two-same : (v s s' : Bool) (rest : ℕ) → bars (pick v 1 (pick s 2 rest)) ≡ false → bars (pick v 1 (pick s' 2 rest)) ≡ false → pick v 1 (pick s' 2 rest) ≡ pick v 1 (pick s 2 rest)
two-same true s s' rest h h' = refl
two-same false true s' rest h h' = clash refl h
two-same false false true rest h h' = clash refl h'
two-same false false false rest h h' = refl

four_same : (v s s' b k k' : Bool) (rest : ℕ) → bars (pick v 1 (pick s 2 (pick b 3 (pick k 4 rest)))) ≡ false → bars (pick v 1 (pick s' 2 (pick b 3 (pick k' 4 rest)))) ≡ false
    → pick v 1 (pick s' 2 (pick b 3 (pick k' 4 rest))) ≡ pick v 1 (pick s 2 (pick b 3 (pick k 4 rest)))
four_same true s s' b k k' rest h h' = refl
four_same false true s' b k k' rest h h' = clash refl h
four_same false false true b k k' rest h h' = clash refl h'
four_same false false false true k k' rest h h' = refl
four_same false false false false true k' rest h h' = clash refl h
four_same false false false false false true rest h h' = clash refl h'
four_same false false false false false false rest h h' = refl

-- refused or done, by the same number
pub by_number : (n why why' : ℕ) (p : Pool) (t t' : Turn) → why' ≡ why → Same n t t' → Same n (pick (eqb why 0) t (refused p why)) (pick (eqb why' 0) t' (refused (with_chunks n p) why'))
by_number n why why' p t t' e x =
    subst (λ (k : ℕ). Same n (pick (eqb why 0) t (refused p why)) (pick (eqb k 0) t' (refused (with_chunks n p) k))) (sym e) (turn-same n why p t t' x)

-- ---- the events that no map is lent to

module _ (n : ℕ) (c : Pool) (v : valid_pool (with_chunks n c) ≡ valid_pool c) where
  pub create-alike : (id : ℕ) → Same n (Joins.join_create c id) (Joins.join_create (with_chunks n c) id)
  unfolding Joins.join_create Joins.create_refusal
  create-alike id = by_number n (Joins.create_refusal c id) (Joins.create_refusal (with_chunks n c) id) c _ _ (rw v refl) (create-done n c id)

  pub assemble-alike : (id set version : ℕ) → Same n (Joins.join_assemble c id set version) (Joins.join_assemble (with_chunks n c) id set version)
  unfolding Joins.join_assemble Joins.assemble_refusal
  assemble-alike id set version = by_number n (Joins.assemble_refusal c id set version) (Joins.assemble_refusal (with_chunks n c) id set version) c _ _ (rw v refl) (assemble-done n c id set version)

  pub enable-alike : (id : ℕ) → Same n (Enables.enable c id) (Enables.enable (with_chunks n c) id)
  unfolding Enables.enable Enables.enable_refusal
  enable-alike id = by_number n (Enables.enable_refusal c id) (Enables.enable_refusal (with_chunks n c) id) c _ _ (rw v refl) (enable-done n c id)

  pub maintenance-alike : (id : ℕ) → Same n (Enables.maintenance c id) (Enables.maintenance (with_chunks n c) id)
  unfolding Enables.maintenance Enables.maintenance_refusal
  maintenance-alike id = by_number n (Enables.maintenance_refusal c id) (Enables.maintenance_refusal (with_chunks n c) id) c _ _ (rw v refl) (maintenance-done n c id)

  pub down-alike : (id : ℕ) → Same n (Links.link_down c id) (Links.link_down (with_chunks n c) id)
  unfolding Links.link_down Links.down_refusal
  down-alike id = by_number n (Links.down_refusal c id) (Links.down_refusal (with_chunks n c) id) c _ _ (rw v refl) (down-done n c id)

  pub check-alike : (id : ℕ) → Same n (Links.store_check c id) (Links.store_check (with_chunks n c) id)
  unfolding Links.store_check Links.check_refusal
  check-alike id = by_number n (Links.check_refusal c id) (Links.check_refusal (with_chunks n c) id) c _ _ (rw v refl) (check-done n c id)

  pub rejoin-alike : (id : ℕ) → Same n (Links.rejoin c id) (Links.rejoin (with_chunks n c) id)
  unfolding Links.rejoin Links.rejoin_refusal
  rejoin-alike id = by_number n (Links.rejoin_refusal c id) (Links.rejoin_refusal (with_chunks n c) id) c _ _ (rw v refl) (check-done n c id)

  pub try-alike : Same n (Links.try_run c) (Links.try_run (with_chunks n c))
  unfolding Links.try_run Links.try_refusal
  try-alike = by_number n (Links.try_refusal c) (Links.try_refusal (with_chunks n c)) c _ _ (rw v refl) (try-done n c)

  -- ---- those that a map is lent to: s and s' say that the map is sound for the one pool and for the other

  pub remove-alike : (s s' : Bool) (id : ℕ) (mode : Mode) → by_the_count (Remove.remove c s id mode).answer ≡ false → by_the_count (Remove.remove (with_chunks n c) s' id mode).answer ≡ false → Same n (Remove.remove c s id mode) (Remove.remove (with_chunks n c) s' id mode)
  unfolding Remove.remove Remove.remove_refusal
  remove-alike s s' id mode h h' =
      let w : bars (Remove.remove_refusal c s id mode) ≡ false = not-barred (Remove.remove_refusal c s id mode) c (Remove.gone c (Remove.remove_begun c id mode)) h in
      let w' : bars (Remove.remove_refusal (with_chunks n c) s' id mode) ≡ false = not-barred (Remove.remove_refusal (with_chunks n c) s' id mode) (with_chunks n c) (Remove.gone (with_chunks n c) (Remove.remove_begun (with_chunks n c) id mode)) h' in
      by_number n (Remove.remove_refusal c s id mode) (Remove.remove_refusal (with_chunks n c) s' id mode) c _ _ (rw v (two-same (not (valid_pool c)) (not s) (not s') _ w (rw v at w'))) (remove-done n c id mode)

  pub write-alike : (s s' : Bool) (chunk reached : ℕ) → by_the_count (Writes.write_ended c s chunk reached).answer ≡ false → by_the_count (Writes.write_ended (with_chunks n c) s' chunk reached).answer ≡ false → Same n (Writes.write_ended c s chunk reached) (Writes.write_ended (with_chunks n c) s' chunk reached)
  unfolding Writes.write_ended Writes.write_refusal
  write-alike s s' chunk reached h h' =
      let w : bars (Writes.write_refusal c s chunk reached) ≡ false = not-barred (Writes.write_refusal c s chunk reached) c (Writes.write_done c chunk reached) h in
      let w' : bars (Writes.write_refusal (with_chunks n c) s' chunk reached) ≡ false = not-barred (Writes.write_refusal (with_chunks n c) s' chunk reached) (with_chunks n c) (Writes.write_done (with_chunks n c) chunk reached) h' in
      by_number n (Writes.write_refusal c s chunk reached) (Writes.write_refusal (with_chunks n c) s' chunk reached) c _ _ (rw v (four_same (not (valid_pool c)) (not s) (not s') (ltb 65535 reached) (not (ltb chunk c.chunks)) (not (ltb chunk n)) _ w (rw v at w'))) (write-done n c chunk reached)

  pub sync-alike : (s s' : Bool) (member chunk clean : ℕ) → by_the_count (Writes.synced c s member chunk clean).answer ≡ false → by_the_count (Writes.synced (with_chunks n c) s' member chunk clean).answer ≡ false → Same n (Writes.synced c s member chunk clean) (Writes.synced (with_chunks n c) s' member chunk clean)
  unfolding Writes.synced Writes.sync_refusal
  sync-alike s s' member chunk clean h h' =
      let w : bars (Writes.sync_refusal c s member chunk clean) ≡ false = not-barred (Writes.sync_refusal c s member chunk clean) c (Writes.sync_done c member chunk) h in
      let w' : bars (Writes.sync_refusal (with_chunks n c) s' member chunk clean) ≡ false = not-barred (Writes.sync_refusal (with_chunks n c) s' member chunk clean) (with_chunks n c) (Writes.sync_done (with_chunks n c) member chunk) h' in
      by_number n (Writes.sync_refusal c s member chunk clean) (Writes.sync_refusal (with_chunks n c) s' member chunk clean) c _ _ (rw v (four_same (not (valid_pool c)) (not s) (not s') (ltb 15 member) (not (ltb chunk c.chunks)) (not (ltb chunk n)) _ w (rw v at w'))) (sync-done n c member chunk)

  pub answer-alike : (s s' : Bool) (number : ℕ) (a : Reply) → by_the_count (Answers.answer c s number a).answer ≡ false → by_the_count (Answers.answer (with_chunks n c) s' number a).answer ≡ false → Same n (Answers.answer c s number a) (Answers.answer (with_chunks n c) s' number a)
  unfolding Answers.answer Answers.answer_refusal
  answer-alike s s' number a h h' =
      let w : bars (Answers.answer_refusal c s number) ≡ false = not-barred (Answers.answer_refusal c s number) c (Answers.answered c.job c a) h in
      let w' : bars (Answers.answer_refusal (with_chunks n c) s' number) ≡ false = not-barred (Answers.answer_refusal (with_chunks n c) s' number) (with_chunks n c) (Answers.answered c.job (with_chunks n c) a) h' in
      by_number n (Answers.answer_refusal c s number) (Answers.answer_refusal (with_chunks n c) s' number) c _ _ (rw v (two-same (not (valid_pool c)) (not s) (not s') _ w (rw v at w'))) (answered-same n c.job c a)

  pub extend-alike : (s s' : Bool) → by_the_count (Extending.extend c s).answer ≡ false → by_the_count (Extending.extend (with_chunks n c) s').answer ≡ false → Same n (Extending.extend c s) (Extending.extend (with_chunks n c) s')
  unfolding Extending.extend Extending.extend_refusal
  extend-alike s s' h h' =
      let w : bars (Extending.extend_refusal c s) ≡ false = not-barred (Extending.extend_refusal c s) c (Extending.extend_done c (Extending.picked c.roster)) h in
      let w' : bars (Extending.extend_refusal (with_chunks n c) s') ≡ false = not-barred (Extending.extend_refusal (with_chunks n c) s') (with_chunks n c) (Extending.extend_done (with_chunks n c) (Extending.picked c.roster)) h' in
      by_number n (Extending.extend_refusal c s) (Extending.extend_refusal (with_chunks n c) s') c _ _ (rw v (two-same (not (valid_pool c)) (not s) (not s') _ w (rw v at w'))) (extend-done n c (Extending.picked c.roster))

-- ---- every event

same-event : (e : Event) (c : Pool) (n : ℕ) → valid_pool (with_chunks n c) ≡ valid_pool c → by_the_count (turn_of e c).answer ≡ false → by_the_count (turn_of e (with_chunks n c)).answer ≡ false
    → Same n (turn_of e c) (turn_of e (with_chunks n c))
unfolding remove_turn write_turn synced_turn answer_turn extend_turn
same-event (Event.join_create id) c n v h h' = create-alike n c v id
same-event (Event.join_assemble id set version) c n v h h' = assemble-alike n c v id set version
same-event (Event.enable id) c n v h h' = enable-alike n c v id
same-event (Event.maintenance id) c n v h h' = maintenance-alike n c v id
same-event (Event.link_down id) c n v h h' = down-alike n c v id
same-event (Event.store_check id) c n v h h' = check-alike n c v id
same-event (Event.rejoin id) c n v h h' = rejoin-alike n c v id
same-event Event.try_run c n v h h' = try-alike n c v
same-event (Event.remove xs id mode) c n v h h' = remove-alike n c v (sound_for c xs) (sound_for (with_chunks n c) xs) id mode h h'
same-event (Event.write xs chunk reached) c n v h h' = write-alike n c v (sound_for c xs) (sound_for (with_chunks n c) xs) chunk reached h h'
same-event (Event.synced xs member chunk) c n v h h' = sync-alike n c v (sound_for c xs) (sound_for (with_chunks n c) xs) member chunk (clean_to xs chunk 16) h h'
same-event (Event.answer xs number a) c n v h h' = answer-alike n c v (sound_for c xs) (sound_for (with_chunks n c) xs) number a h h'
same-event (Event.extend xs) c n v h h' = extend-alike n c v (sound_for c xs) (sound_for (with_chunks n c) xs) h h'

pub alike : Alike.Alike
alike e c n a b a' b' h h' = let x = same-event e c n (valid_same c n a b a' b') h h' in (x.answer, x.pool)
