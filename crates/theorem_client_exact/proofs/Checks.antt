-- What a tick, an answer to it and every other event leave of what map check knows.
use mathlib.Core.Path.{◌≡◌, refl, sym, ap, ◌∙◌}
use mathlib.Core.Logic.{◌≢◌, ◌⊎◌, inl, inr, ◌↔◌}
use mathlib.Core.Bool.{Bool, true, false, not, ◌&&◌, ◌||◌}
use mathlib.Core.List.{List}
use Prim.Native.Nat.{ℕ, zero, suc, ◌<◌, ◌≤◌}
use native.Mathlib.Decide.{ℕ_discrete, dec_lt}
use native.Mathlib.Omega.{arith}
use lib.Dec.{eqb}
use lib.ListN.{length, get_or-eq_default}
use borrow.Author.Tests.{eq-eqb, ne_eqb, not-true}
use Rattle.laws_words.specs.Words.{pick}
use Rattle.laws_words.specs.Tests.{clash, by_cases, and_left, and_right, and_both, and-false, either}
use Rattle.rules_base.specs.Refusals.{refusal}
use Rattle.rules_base.specs.Sets.{has, with, without}
use Rattle.rules_base.proofs.Sets.{has-with-same, has-with-other, has-without-other, has-below, still}
use Rattle.rules_base.specs.Chunk.{dirty}
use Rattle.rules_base.proofs.Chunk.{dirty-lt}
use Rattle.rules_base.proofs.Chunks.{same-yes, same-no, dirty-zero_row}
use Rattle.rules_base.specs.Map.{zero_row}
use Rattle.rules_base.specs.Empty.{row_empty, full_to}
use Rattle.rules_base.proofs.EmptyRows.{empty-clean, clean-empty, full-has}
use Rattle.rules_pool.specs.declared.Roster.{Roster}
use Rattle.rules_pool.specs.declared.Kind.{Kind}
use Rattle.rules_pool.specs.declared.Run.{Run}
use Rattle.rules_pool.specs.declared.Job.{Job}
use Rattle.rules_pool.specs.declared.Pool.{Pool}
use Rattle.rules_pool.specs.declared.Outcome.{Outcome}
use Rattle.rules_pool.specs.declared.Effect.{Effect}
use Rattle.rules_pool.specs.declared.Turn.{Turn}
use Rattle.rules_pool.specs.Session.{is_normal, free}
use Rattle.rules_pool.specs.Sessions.{session_at, ids_of}
use Rattle.rules_pool.specs.Jobs.{is_running}
use Rattle.rules_pool.specs.Breaking.{is_accepted, acknowledged, acknowledges, changed_to, same_record, breaks}
use Rattle.laws_client.proofs.Ids.{Long, below, ids-has, ids-lt}
use Rattle.laws_client.proofs.BreakingRecords.{same-is, is_same, unchanged, no_change}
use Rattle.laws_client.proofs.Pools.{valid-facts}
use Rattle.rules_client.specs.declared.Check.{Check}
use Rattle.rules_client.specs.MapCheck.{tick, tick_refusal, answer_refusal, asked}
use Rattle.rules_client.specs.MapCheck as checking
use Rattle.rules_client.specs.Client.{carried, tick_turn, check_turn}
use Rattle.rules_client.specs.Events as pool
use Rattle.rules_client.specs.ClientEvents.{Event, tests_of}
use Rattle.theorem_client.proofs.Every.{event-keeps}
use Rattle.theorem_client.proofs.Sound.{left-sound}
use Rattle.theorem_client_exact.specs.Words.{In, SoundMap, session_of}
use Rattle.theorem_client_exact.specs.Fields.{Holds}
use Rattle.theorem_client_exact.specs.Checks.{Asked, TickDoes, AnswerDoes, Breaks, CheckStands}
use Rattle.theorem_client_exact.proofs.Tells.{normal-is, sound-is}
use Rattle.theorem_client_exact.proofs.Accepted.{accepted-when, client-refusal}

-- ---- a tick

-- a dirty chunk below n, or there is none
record Dirty (xs : List ℕ) (m n : ℕ) : Type 0 where
  chunk : ℕ
  below : chunk < n
  is : dirty xs m chunk ≡ 1

find : (xs : List ℕ) (m n : ℕ) → Dirty xs m n ⊎ ((k : ℕ) → k < n → dirty xs m k ≡ 0)
find xs m zero = inr (λ k h. absurd (let z : ⊥ = omega arith in z))
find xs m (suc n) = at (ℕ_discrete (dirty xs m n) 1) (find xs m n)
  where
    at : Dec (dirty xs m n ≡ 1) → Dirty xs m n ⊎ ((k : ℕ) → k < n → dirty xs m k ≡ 0) → Dirty xs m (suc n) ⊎ ((k : ℕ) → k < suc n → dirty xs m k ≡ 0)
    at (yes e) f = inl (record { chunk = n; below = omega arith; is = e })
    at (no d) (inl f) = inl (record { chunk = f.chunk; below = omega (arith, f.below); is = f.is })
    at (no d) (inr f) = inr (λ k h. elim (ℕ_discrete k n) [
      | yes e ↦ rw e (omega (arith, dirty-lt xs m n, d))
      | no g ↦ f k (omega (arith, g))
    ])

full_is : (xs : List ℕ) (m : ℕ) → not (row_empty xs m) ≡ true → Dirty xs m 4096
full_is xs m e = at (find xs m 4096)
  where
    at : Dirty xs m 4096 ⊎ ((k : ℕ) → k < 4096 → dirty xs m k ≡ 0) → Dirty xs m 4096
    at (inl f) = f
    at (inr f) = clash (clean-empty xs m f) (not-true (row_empty xs m) e)

is-full : (xs : List ℕ) (m : ℕ) → Dirty xs m 4096 → not (row_empty xs m) ≡ true
is-full xs m f = by_cases (row_empty xs m)
    (λ e. absurd (let z : ⊥ = omega (arith, f.is, empty-clean xs m e f.chunk f.below) in z))
    (λ e. ap not e)

asked-are : (p : Pool) (xs : List ℕ) → Long p.roster → Holds (asked p (full_to xs 16)) (Asked p xs)
asked-are p xs l =
    record {
      ids = omega (arith, ids-lt (Kind.Reached (full_to xs 16)) p.roster l);
      are = λ j. (to j, from j);
    }
  where
    set : ℕ
    set = ids_of (Kind.Reached (full_to xs 16)) p.roster

    to : (j : ℕ) → In (ids_of (Kind.Reached (full_to xs 16)) p.roster) j → Asked p xs j
    to j x =
        let h = has-below (ids_of (Kind.Reached (full_to xs 16)) p.roster) j x in
        let k = sym (ids-has (Kind.Reached (full_to xs 16)) p.roster l j h) ∙ x in
        let f = full_is xs j (sym (full-has xs j h) ∙ and_right (is_normal (session_at p.roster j).state) _ k) in
        record { normal = (normal-is (session_at p.roster j).state).true-then (and_left _ (has (full_to xs 16) j) k); chunk = f.chunk; below = f.below; dirty = f.is }

    from : (j : ℕ) → Asked p xs j → In (ids_of (Kind.Reached (full_to xs 16)) p.roster) j
    from j a =
        let h = below (λ s. is_normal s.state) p.roster j l refl (ap is_normal a.normal) in
        ids-has (Kind.Reached (full_to xs 16)) p.roster l j h
        ∙ and_both (ap is_normal a.normal) (full-has xs j h ∙ is-full xs j (record { chunk = a.chunk; below = a.below; is = a.dirty }))

pub tick-does : TickDoes
unfolding tick_turn tick tick_refusal
tick-does c xs o a =
    let z = eq-eqb (refusal (tests_of (Event.tick xs) c)) 0 (client-refusal (Event.tick xs) c a) in
    record {
      asked = asked c.pool (full_to xs 16);
      who = asked-are c.pool xs o.whole;
      answer = rw z refl;
      pool = refl;
      tick = rw z refl;
      due = rw z refl;
      once = rw z refl;
      map = refl;
    }

-- ---- an answer

without-are : (s m j : ℕ) → In (without s m) j ↔ ((j ≢ m) × In s j)
without-are s m j = (λ x. (let q = still s m j x in (q.1, q.0)), λ x. has-without-other s m j x.0 ∙ x.1)

once-are : (b : Bool) (s m j : ℕ) → m < 16 → has s m ≡ b → (empty : Bool)
    → In (pick (empty && not b) (with s m) (without s m)) j ↔ (((j ≢ m) × In s j) ⊎ ((j ≡ m) × (empty ≡ true) × (¬ (In s m))))
once-are true s m j h e true = (λ x. inl ((without-are s m j).0 x), back)
  where
    back : ((j ≢ m) × In s j) ⊎ ((j ≡ m) × (true ≡ true) × (¬ (In s m))) → In (without s m) j
    back (inl x) = (without-are s m j).1 x
    back (inr (p, q, n)) = absurd (n e)
once-are false s m j h e true = (to (ℕ_discrete j m), from (ℕ_discrete j m))
  where
    to : Dec (j ≡ m) → In (with s m) j → ((j ≢ m) × In s j) ⊎ ((j ≡ m) × (true ≡ true) × (¬ (In s m)))
    to (yes p) x = inr (p, refl, λ y. clash y e)
    to (no d) x = inl (d, sym (has-with-other s m j d) ∙ x)

    from : Dec (j ≡ m) → ((j ≢ m) × In s j) ⊎ ((j ≡ m) × (true ≡ true) × (¬ (In s m))) → In (with s m) j
    from (yes p) x = rw p (has-with-same s m h)
    from (no d) (inl x) = has-with-other s m j d ∙ x.1
    from (no d) (inr x) = absurd (d x.0)
once-are b s m j h e false = (λ x. inl ((without-are s m j).0 x), back)
  where
    back : ((j ≢ m) × In s j) ⊎ ((j ≡ m) × (false ≡ true) × (¬ (In s m))) → In (without s m) j
    back (inl x) = (without-are s m j).1 x
    back (inr (p, q, n)) = clash q refl

-- the row that is zeroed
zero_bit : (xs : List ℕ) (m i k : ℕ) → length xs ≡ 8192 → m < 16 → i < 16 → k < 4096 → dirty (zero_row m xs) i k ≡ pick (eqb i m && true) 0 (dirty xs i k)
zero_bit xs m i k len hm hi hk = dirty-zero_row xs m i k len hm hi hk ∙ elim (ℕ_discrete m i) [
  | yes e ↦ rw (same-yes m i e, eq-eqb i m (sym e)) (omega arith)
  | no d ↦ rw (same-no m i d, ne_eqb i m (λ q. d (sym q))) (omega (arith, dirty-lt xs i k))
]

-- what is done to the map
row-after : (b : Bool) (n : ℕ) (xs : List ℕ) (m : ℕ) → m < 16 → SoundMap n xs
    → SoundMap n (carried (pick b (Effect.ZeroRow m) Effect.Keep) xs) × ((i k : ℕ) → i < 16 → k < 4096 → dirty (carried (pick b (Effect.ZeroRow m) Effect.Keep) xs) i k ≡ pick (eqb i m && b) 0 (dirty xs i k))
row-after true n xs m h s = ((sound-is n (zero_row m xs)).true-then (left-sound n (Effect.ZeroRow m) xs refl ((sound-is n xs).then-true s)), λ i k hi hk. zero_bit xs m i k s.long h hi hk)
row-after false n xs m h s = (s, λ i k hi hk. rw (and-false (eqb i m)) refl)

pub answer-does : AnswerDoes
unfolding check_turn checking.answer answer_refusal
answer-does c xs number member empty o a =
    let z = eq-eqb (refusal (tests_of (Event.check_answer xs number member empty) c)) 0 (client-refusal (Event.check_answer xs number member empty) c a) in
    let d = (accepted-when (Event.check_answer xs number member empty) c o).0 a in
    let h : member < 16 = omega (arith, d.1.0) in
    record {
      answer = rw z refl;
      pool = refl;
      tick = rw z refl;
      due = λ id. rw z (without-are c.check.due member id);
      once = λ id. rw z (once-are (has c.check.once member) c.check.once member id h refl empty);
      map = rw z (row-after (empty && has c.check.once member) c.pool.chunks xs member h d.0);
    }

-- ---- every other event

past-free : (ro : Roster) → Long ro → (j : ℕ) → 16 ≤ j → session_at ro j ≡ free
past-free ro l j h = get_or-eq_default ro.sessions free (let z : length ro.sessions ≤ j = omega (arith, l, h) in z)

pub check-stands : CheckStands
unfolding breaks
check-stands e c s o q =
    record {
      tick = either (λ (k : Check). k.tick ≡ c.check.tick) (breaks p t) _ _ refl refl;
      due = either (λ (k : Check). k.due ≡ c.check.due) (breaks p t) _ _ refl refl;
      broken = λ b. ap (λ (x : Bool). (pick x cleared c.check).once) (is-broken b);
      unbroken = λ n. ap (λ (x : Bool). (pick x cleared c.check).once) (not-broken n);
    }
  where
    p : Pool
    p = c.pool

    t : Turn
    t = pool.turn_of e c.pool

    cleared : Check
    cleared = record { tick = c.check.tick; due = c.check.due; once = 0 }

    v' : Long (pool.next e c.pool).roster
    v' = (event-keeps e c.pool (valid-facts c.pool o.whole o.rules)).ok.long

    or_left : (a b : Bool) → a ≡ true → (a || b) ≡ true
    or_left a b x = rw x refl

    or_right : (a b : Bool) → b ≡ true → (a || b) ≡ true
    or_right true b x = refl
    or_right false b x = x

    done : is_accepted (pool.turn_of e c.pool).answer ≡ true
    done = ap is_accepted q

    acked : (list : ℕ) → s.outcome ≡ Outcome.Written true list → acknowledges (pool.turn_of e c.pool).answer ≡ true
    acked list w = ap acknowledges q ∙ ap acknowledged w

    differs : (id : ℕ) → session_of (pool.next e c.pool) id ≢ session_of c.pool id → changed_to c.pool.roster (pool.next e c.pool).roster 16 ≡ true
    differs id d = by_cases (changed_to c.pool.roster (pool.next e c.pool).roster 16) (λ x. x)
        (λ x. absurd (elim (dec_lt id 16) [
          | yes h ↦ d (sym (unchanged c.pool.roster (pool.next e c.pool).roster 16 x id h))
          | no g ↦ d (past-free (pool.next e c.pool).roster v' id (omega (arith, g)) ∙ sym (past-free c.pool.roster o.whole id (omega (arith, g))))
        ]))

    is-broken : Breaks c.pool (pool.next e c.pool) s → breaks c.pool (pool.turn_of e c.pool) ≡ true
    is-broken (Breaks.acknowledged list w) = and_both done (or_left (acknowledges (pool.turn_of e c.pool).answer) ((changed_to c.pool.roster (pool.next e c.pool).roster 16) || ((is_running c.pool.job) || (is_running (pool.next e c.pool).job))) (acked list w))
    is-broken (Breaks.changed id d) = and_both done (or_right (acknowledges (pool.turn_of e c.pool).answer) ((changed_to c.pool.roster (pool.next e c.pool).roster 16) || ((is_running c.pool.job) || (is_running (pool.next e c.pool).job))) (or_left (changed_to c.pool.roster (pool.next e c.pool).roster 16) ((is_running c.pool.job) || (is_running (pool.next e c.pool).job)) (differs id d)))
    is-broken (Breaks.before r j) = and_both done (or_right (acknowledges (pool.turn_of e c.pool).answer) ((changed_to c.pool.roster (pool.next e c.pool).roster 16) || ((is_running c.pool.job) || (is_running (pool.next e c.pool).job))) (or_right (changed_to c.pool.roster (pool.next e c.pool).roster 16) ((is_running c.pool.job) || (is_running (pool.next e c.pool).job)) (or_left (is_running c.pool.job) (is_running (pool.next e c.pool).job) (ap is_running j))))
    is-broken (Breaks.after r j) = and_both done (or_right (acknowledges (pool.turn_of e c.pool).answer) ((changed_to c.pool.roster (pool.next e c.pool).roster 16) || ((is_running c.pool.job) || (is_running (pool.next e c.pool).job))) (or_right (changed_to c.pool.roster (pool.next e c.pool).roster 16) ((is_running c.pool.job) || (is_running (pool.next e c.pool).job)) (or_right (is_running c.pool.job) (is_running (pool.next e c.pool).job) (ap is_running j))))

    no-ack : (x : Outcome) → s.outcome ≡ x → ¬ (Breaks c.pool (pool.next e c.pool) s) → acknowledged x ≡ false
    no-ack Outcome.Plain w n = refl
    no-ack (Outcome.Taken k) w n = refl
    no-ack (Outcome.Written true list) w n = absurd (n (Breaks.acknowledged list w))
    no-ack (Outcome.Written false list) w n = refl
    no-ack (Outcome.Picked id) w n = refl

    no_run : (before : Bool) (j : Job) → ((r : Run) → j ≢ Job.Running r) → is_running j ≡ false
    no_run b Job.Idle n = refl
    no_run b (Job.Running r) n = absurd (n r refl)
    no_run b (Job.Removing m) n = refl

    not-broken : ¬ (Breaks c.pool (pool.next e c.pool) s) → breaks c.pool (pool.turn_of e c.pool) ≡ false
    not-broken n =
        let a : acknowledges (pool.turn_of e c.pool).answer ≡ false = ap acknowledges q ∙ no-ack s.outcome refl n in
        let b : changed_to c.pool.roster (pool.next e c.pool).roster 16 ≡ false = no_change c.pool.roster (pool.next e c.pool).roster 16 (λ j h. same j) in
        let d : is_running c.pool.job ≡ false = no_run true c.pool.job (λ r j. n (Breaks.before r j)) in
        let f : is_running (pool.next e c.pool).job ≡ false = no_run true (pool.next e c.pool).job (λ r j. n (Breaks.after r j)) in
        rw (a, b, d, f) (and-false (is_accepted (pool.turn_of e c.pool).answer))
      where
        same : (j : ℕ) → session_at c.pool.roster j ≡ session_at (pool.next e c.pool).roster j
        same j = by_cases (same_record (session_at c.pool.roster j) (session_at (pool.next e c.pool).roster j))
            (λ x. same-is (session_at c.pool.roster j) (session_at (pool.next e c.pool).roster j) x)
            (λ x. absurd (n (Breaks.changed j (λ y. clash (rw y (is_same (session_at c.pool.roster j))) x))))
