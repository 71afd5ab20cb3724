-- Two empty answers in a row.
use mathlib.Core.Path.{◌≡◌, refl, ap, sym, ◌∙◌, subst}
use mathlib.Core.Bool.{Bool, true, false, not, ◌&&◌}
use mathlib.Core.List.{List}
use mathlib.Core.Logic.{◌≢◌}
use Prim.Native.Nat.{ℕ, ◌<◌}
use native.Mathlib.Decide.{ℕ_discrete}
use native.Mathlib.Omega.{arith}
use lib.Dec.{eqb, ltb}
use borrow.Author.Tests.{eq-eqb, ne_eqb, ltb-false}
use Rattle.laws_words.specs.Tests.{clash, by_cases, and-false}
use Rattle.laws_words.specs.Words.{pick}
use Rattle.rules_base.specs.Sets.{has, with, without}
use Rattle.rules_base.proofs.Sets.{has-none, has-with-same, has-without-same}
use Rattle.rules_pool.specs.declared.Effect.{Effect}
use Rattle.rules_pool.specs.declared.Job.{Job}
use Rattle.rules_pool.specs.declared.Pool.{Pool}
use Rattle.rules_pool.specs.Jobs.{is_idle, is_running}
use Rattle.rules_pool.specs.Breaking.{is_accepted, acknowledges, breaks}
use Rattle.rules_client.specs.declared.Check.{Check}
use Rattle.rules_client.specs.declared.Checked.{Checked}
use Rattle.rules_client.specs.MapCheck.{answered, clears, declined}
use Rattle.rules_client.specs.Client.{Client}
use Rattle.rules_client.specs.Client.{tick_turn, check_turn}
use Rattle.rules_client.specs.Events as pool
use Rattle.theorem_client.specs.Reading as pool_read
use Rattle.rules_client.specs.ClientEvents.{Event, tests_of, out_of, next, effect_of}
use Rattle.theorem_client.specs.Reached.{Reached}
use Rattle.theorem_client.proofs.ClientShape.{Judged, tick-judged, answer-judged, tick_done, answer_done}
use Rattle.theorem_map_check.specs.Checks.{taken, answers_for, Between, Quiet, First, Zeroes, TwoInARow, ThenZeroed}
use Rattle.theorem_map_check.proofs.Steps.{turn, broken, stands, pool-quiet, quiet-stands, once-other}

-- ---- while a run is in hand no answer stands

running-barred : (j : Job) → is_running j ≡ true → not (is_idle j) ≡ true
running-barred Job.Idle r = clash r refl
running-barred (Job.Running x) r = refl
running-barred (Job.Removing x) r = refl

-- a tick leaves what stands
pub tick-once : (c : Client) (xs : List ℕ) → (tick_turn c xs).check.once ≡ c.check.once
tick-once c xs = at (tick-judged c xs)
  where
    at : Judged (tests_of (Event.tick xs) c) c.check (tick_done c xs) (tick_turn c xs) → (tick_turn c xs).check.once ≡ c.check.once
    at (Judged.declines n f q) = ap (λ (k : Checked). k.check.once) q
    at (Judged.does f q) = ap (λ (k : Checked). k.check.once) q

-- nor after an event, where none stands while one is in hand before it
pool-none : (e : pool.Event) (c : Client) → Reached c → (is_running c.pool.job ≡ true → c.check.once ≡ 0) → is_running (next (Event.of_pool e) c).pool.job ≡ true → (next (Event.of_pool e) c).check.once ≡ 0
pool-none e c h rec r =
    by_cases (breaks c.pool (turn e c)) (broken e c)
    (λ b. by_cases (is_running c.pool.job)
    (λ was. ap (λ (k : Check). k.once) (stands e c b) ∙ rec was)
    (λ was. clash r (pool-quiet 0 e c h b was).after))

answer-none : (c : Client) (xs : List ℕ) (number m : ℕ) (empty : Bool) → (is_running c.pool.job ≡ true → c.check.once ≡ 0) → is_running c.pool.job ≡ true → (check_turn c xs number m empty).check.once ≡ 0
answer-none c xs number m empty rec r = at (answer-judged c xs number m empty)
  where
    at : Judged (tests_of (Event.check_answer xs number m empty) c) c.check (answer_done c m empty) (check_turn c xs number m empty) → (check_turn c xs number m empty).check.once ≡ 0
    at (Judged.declines n f q) = ap (λ (k : Checked). k.check.once) q ∙ rec r
    at (Judged.does f q) = clash (running-barred c.pool.job r) (f 6 refl)

none-running : (c : Client) → Reached c → is_running c.pool.job ≡ true → c.check.once ≡ 0
none-running _ (Reached.start sync chunks a b) r = refl
none-running _ (Reached.then c (Event.of_pool e) h) r = pool-none e c h (λ w. none-running c h w) r
none-running _ (Reached.then c (Event.tick xs) h) r = tick-once c xs ∙ none-running c h r
none-running _ (Reached.then c (Event.check_answer xs number m empty) h) r = answer-none c xs number m empty (λ w. none-running c h w) r

-- so none is in hand where one stands
pub not-running : (c : Client) → Reached c → (m : ℕ) → has c.check.once m ≡ true → is_running c.pool.job ≡ false
not-running c h m s =
    by_cases (is_running c.pool.job)
    (λ r. clash s (ap (λ (x : ℕ). has x m) (none-running c h r) ∙ has-none m))
    (λ r. r)

-- ---- an empty answer that stands is the first of two

-- an event that leaves the pool and is no answer of m's that is taken
resting : (m : ℕ) (c : Client) → Reached c → has c.check.once m ≡ true → (e : Event) → (next e c).pool ≡ c.pool → acknowledges (out_of e c).answer ≡ false → answers_for m e c ≡ false → Quiet m e c
resting m c h s e p u a =
    record {
      unwritten = u;
      sessions = λ j. ap (λ (q : Pool). pool.record_of q j) p;
      before = not-running c h m s;
      after = ap (λ (q : Pool). is_running q.job) p ∙ not-running c h m s;
      other = a;
    }

-- one quiet event more
onward : (m : ℕ) (c : Client) (e : Event) → First m c → Quiet m e c → First m (next e c)
onward m c e f q =
    record { at = f.at; reached = f.reached; xs = f.xs; number = f.number; accepted = f.accepted; kept = f.kept; quiet = Between.more c e f.quiet q }

-- an answer of m's that stands then is empty, and is the first
own_first : (m : ℕ) (c : Client) → Reached c → (xs : List ℕ) (number : ℕ) (empty : Bool) → has (check_turn c xs number m empty).check.once m ≡ true → check_turn c xs number m empty ≡ answer_done c m empty
    → First m (next (Event.check_answer xs number m empty) c)
own_first m c h xs number false s q = clash (ap (λ (k : Checked). has k.check.once m) (sym q) ∙ s) (has-without-same c.check.once m)
own_first m c h xs number true s q =
    record {
      at = c;
      reached = h;
      xs = xs;
      number = number;
      accepted = ap (λ (k : Checked). is_accepted k.answer) q;
      kept = ap (λ (k : Checked). k.effect) q ∙ ap (λ (b : Bool). pick b (Effect.ZeroRow m) Effect.Keep) new;
      quiet = Between.none;
    }
  where
    new : has c.check.once m ≡ false
    new =
        by_cases (has c.check.once m)
        (λ z. clash
        (ap (λ (b : Bool). has (pick (not b) (with c.check.once m) (without c.check.once m)) m) (sym z) ∙ (ap (λ (k : Checked). has k.check.once m) (sym q) ∙ s))
        (has-without-same c.check.once m))
        (λ z. z)

-- any answer, where what stood before is the first of two
answer-first : (m : ℕ) (c : Client) → Reached c → (has c.check.once m ≡ true → First m c) → (xs : List ℕ) (number j : ℕ) (empty : Bool) → has (check_turn c xs number j empty).check.once m ≡ true
    → First m (next (Event.check_answer xs number j empty) c)
answer-first m c h rec xs number j empty s = at (answer-judged c xs number j empty)
  where
    on : has c.check.once m ≡ true → acknowledges (check_turn c xs number j empty).answer ≡ false → answers_for m (Event.check_answer xs number j empty) c ≡ false → First m (next (Event.check_answer xs number j empty) c)
    on was u a = onward m c (Event.check_answer xs number j empty) (rec was) (resting m c h was (Event.check_answer xs number j empty) refl u a)

    at : Judged (tests_of (Event.check_answer xs number j empty) c) c.check (answer_done c j empty) (check_turn c xs number j empty) → First m (next (Event.check_answer xs number j empty) c)
    at (Judged.declines n f q) =
        on (ap (λ (k : Checked). has k.check.once m) (sym q) ∙ s) (ap (λ (k : Checked). acknowledges k.answer) q)
        (ap (λ (k : Checked). eqb j m && is_accepted k.answer) q ∙ and-false (eqb j m))
    at (Judged.does f q) = elim (ℕ_discrete m j) [
      | yes p ↦ subst (λ (x : ℕ). has (check_turn c xs number x empty).check.once m ≡ true → check_turn c xs number x empty ≡ answer_done c x empty → First m (next (Event.check_answer xs number x empty) c)) p (own_first m c h xs number empty) s q
      | no d ↦ on (sym (once-other c.check j m empty d) ∙ (ap (λ (k : Checked). has k.check.once m) (sym q) ∙ s)) (ap (λ (k : Checked). acknowledges k.answer) q) (ap (λ (b : Bool). b && taken (Event.check_answer xs number j empty) c) (ne_eqb j m (λ z. d (sym z))))
    ]

pool-first : (m : ℕ) (e : pool.Event) (c : Client) → Reached c → (has c.check.once m ≡ true → First m c) → has (next (Event.of_pool e) c).check.once m ≡ true → First m (next (Event.of_pool e) c)
pool-first m e c h rec s =
    by_cases (breaks c.pool (turn e c))
    (λ b. clash s (ap (λ (x : ℕ). has x m) (broken e c b) ∙ has-none m))
    (λ b. let was : has c.check.once m ≡ true = ap (λ (k : Check). has k.once m) (sym (stands e c b)) ∙ s in
    onward m c (Event.of_pool e) (rec was) (pool-quiet m e c h b (not-running c h m was)))

tick-first : (m : ℕ) (c : Client) → Reached c → (has c.check.once m ≡ true → First m c) → (xs : List ℕ) → has (tick_turn c xs).check.once m ≡ true → First m (next (Event.tick xs) c)
tick-first m c h rec xs s =
    let was : has c.check.once m ≡ true = ap (λ (x : ℕ). has x m) (sym (tick-once c xs)) ∙ s in
    onward m c (Event.tick xs) (rec was) (resting m c h was (Event.tick xs) refl (silent (tick-judged c xs)) refl)
  where
    silent : Judged (tests_of (Event.tick xs) c) c.check (tick_done c xs) (tick_turn c xs) → acknowledges (tick_turn c xs).answer ≡ false
    silent (Judged.declines n f q) = ap (λ (k : Checked). acknowledges k.answer) q
    silent (Judged.does f q) = ap (λ (k : Checked). acknowledges k.answer) q

pub first-stands : (m : ℕ) (c : Client) → Reached c → has c.check.once m ≡ true → First m c
first-stands m _ (Reached.start sync chunks a b) s = clash s (has-none m)
first-stands m _ (Reached.then c (Event.of_pool e) h) s = pool-first m e c h (λ w. first-stands m c h w) s
first-stands m _ (Reached.then c (Event.tick xs) h) s = tick-first m c h (λ w. first-stands m c h w) xs s
first-stands m _ (Reached.then c (Event.check_answer xs number j empty) h) s = answer-first m c h (λ w. first-stands m c h w) xs number j empty s

-- ---- the second zeroes the row

-- what an answer that is done does to the map
zeroes-own : (once : Bool) (m : ℕ) (empty : Bool) (j : ℕ) → pick (empty && once) (Effect.ZeroRow m) Effect.Keep ≡ Effect.ZeroRow j → (j ≡ m) × (empty ≡ true) × (once ≡ true)
zeroes-own true m true j e = (cc e, refl, refl)
zeroes-own false m true j e = clash refl (ap pool_read.keeps e)
zeroes-own once m false j e = clash refl (ap pool_read.keeps e)

pub two-in-a-row : TwoInARow
two-in-a-row c h xs number m empty j z = at (answer-judged c xs number m empty)
  where
    at : Judged (tests_of (Event.check_answer xs number m empty) c) c.check (answer_done c m empty) (check_turn c xs number m empty)
        → (j ≡ m) × (taken (Event.check_answer xs number m empty) c ≡ true) × (empty ≡ true) × First m c
    at (Judged.declines n f q) = clash refl (ap pool_read.keeps (ap (λ (k : Checked). k.effect) (sym q) ∙ z))
    at (Judged.does f q) =
        let w = zeroes-own (has c.check.once m) m empty j (ap (λ (k : Checked). k.effect) (sym q) ∙ z) in
        (w.0, ap (λ (k : Checked). is_accepted k.answer) q, w.1, first-stands m c h w.2)

-- ---- and then it is zeroed

-- a quiet event leaves an answer of m's standing
quiet-once : (m : ℕ) (e : Event) (c : Client) → Quiet m e c → has c.check.once m ≡ true → has (next e c).check.once m ≡ true
quiet-once m (Event.of_pool e) c q s = ap (λ (k : Check). has k.once m) (stands e c (quiet-stands m e c q)) ∙ s
quiet-once m (Event.tick xs) c q s = ap (λ (x : ℕ). has x m) (tick-once c xs) ∙ s
quiet-once m (Event.check_answer xs number j empty) c q s = at (answer-judged c xs number j empty)
  where
    at : Judged (tests_of (Event.check_answer xs number j empty) c) c.check (answer_done c j empty) (check_turn c xs number j empty) → has (check_turn c xs number j empty).check.once m ≡ true
    at (Judged.declines n f p) = ap (λ (k : Checked). has k.check.once m) p ∙ s
    at (Judged.does f p) =
        ap (λ (k : Checked). has k.check.once m) p
        ∙ (once-other c.check j m empty
        (λ z. clash (rw (eq-eqb j m (sym z), ap (λ (k : Checked). is_accepted k.answer) p) refl) q.other) ∙ s)

along : (m : ℕ) (c c' : Client) → Between (Quiet m) c c' → has c.check.once m ≡ true → has c'.check.once m ≡ true
along m c _ Between.none s = s
along m c _ (Between.more c' e b q) s = quiet-once m e c' q (along m c c' b s)

-- an empty answer that is taken, and what it does
record Done (c : Client) (xs : List ℕ) (number m : ℕ) : Type 0 where
  below : m < 16
  is : check_turn c xs number m true ≡ answer_done c m true

done : (c : Client) (xs : List ℕ) (number m : ℕ) → taken (Event.check_answer xs number m true) c ≡ true → Done c xs number m
done c xs number m a = at (answer-judged c xs number m true)
  where
    at : Judged (tests_of (Event.check_answer xs number m true) c) c.check (answer_done c m true) (check_turn c xs number m true) → Done c xs number m
    at (Judged.declines n f q) = clash a (ap (λ (k : Checked). is_accepted k.answer) q)
    at (Judged.does f q) = record { below = let h = ltb-false 15 m (f 3 refl) in omega (arith, h); is = q }

-- after a first answer that zeroed nothing one stands
pub first-once : (m : ℕ) (c : Client) → First m c → has c.check.once m ≡ true
first-once m c f = along m (next (Event.check_answer f.xs f.number m true) f.at) c f.quiet start
  where
    d : Done f.at f.xs f.number m
    d = done f.at f.xs f.number m f.accepted

    new : has f.at.check.once m ≡ false
    new =
        by_cases (has f.at.check.once m)
        (λ z. clash (ap pool_read.keeps (ap (λ (b : Bool). pick b (Effect.ZeroRow m) Effect.Keep) (sym z) ∙ (ap (λ (k : Checked). k.effect) (sym d.is) ∙ f.kept))) refl)
        (λ z. z)

    start : has (check_turn f.at f.xs f.number m true).check.once m ≡ true
    start =
        ap (λ (k : Checked). has k.check.once m) d.is
        ∙ (ap (λ (b : Bool). has (pick (not b) (with f.at.check.once m) (without f.at.check.once m)) m) new ∙ has-with-same f.at.check.once m d.below)

pub then-zeroed : ThenZeroed
then-zeroed c xs number m h f a =
    ap (λ (k : Checked). k.effect) (done c xs number m a).is ∙ ap (λ (b : Bool). pick b (Effect.ZeroRow m) Effect.Keep) (first-once m c f)
