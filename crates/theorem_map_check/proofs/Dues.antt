-- Which answers are taken: those that the last tick asked for.
use mathlib.Core.Path.{◌≡◌, refl, ap, sym, ◌∙◌, subst}
use mathlib.Core.Bool.{Bool, true, false, not, ◌&&◌}
use mathlib.Core.List.{List}
use mathlib.Core.Logic.{◌≢◌}
use Prim.Native.Nat.{ℕ, ◌+◌, ◌%◌, ◌<◌}
use lib.Dec.{eqb}
use borrow.Author.Tests.{eqb-true, ne_eqb, not-false, not-true}
use Rattle.laws_words.specs.Tests.{clash, and_left, and_right, and-false}
use Rattle.rules_base.specs.Sets.{has, without}
use Rattle.rules_base.proofs.Sets.{has-below, has-none, still}
use Rattle.rules_pool.specs.Session.{is_normal}
use Rattle.rules_pool.specs.declared.Kind.{Kind}
use Rattle.laws_client.proofs.Ids.{ids-has}
use Rattle.rules_pool.specs.Breaking.{is_accepted}
use Rattle.rules_base.specs.Empty.{row_empty, full_to}
use Rattle.rules_base.proofs.EmptyRows.{full-has}
use Rattle.rules_client.specs.declared.Checked.{Checked}
use Rattle.rules_client.specs.MapCheck.{asked}
use Rattle.rules_client.specs.Client.{Client}
use Rattle.rules_client.specs.Client.{tick_turn, check_turn}
use Rattle.rules_client.specs.Events as pool
use Rattle.rules_client.specs.ClientEvents.{Event, tests_of, next}
use Rattle.theorem_client.specs.Reached.{Reached}
use Rattle.theorem_client.proofs.ClientShape.{Judged, tick-judged, answer-judged, tick_done, answer_done}
use Rattle.theorem_map_check.specs.Checks.{taken, answers_for, ticks, Between, Waits, Asked, OnlyDue}
use Rattle.theorem_map_check.proofs.Steps.{valid, due-stays, tick-stays}

-- one event more that is no tick and no answer of m's
onward : (m number : ℕ) (c : Client) (e : Event) → Asked m number c → Waits m e c → Asked m number (next e c)
onward m number c e a w =
    record {
      at = a.at;
      reached = a.reached;
      xs = a.xs;
      accepted = a.accepted;
      normal = a.normal;
      row = a.row;
      numbered = a.numbered;
      counted = a.counted;
      since = Between.more c e a.since w;
    }

-- under another number that is the same
numbered : (m a b : ℕ) (c : Client) → a ≡ b → Asked m a c → Asked m b c
numbered m a b c e = subst (λ (n : ℕ). Asked m n c) e

-- those that a tick asks
asked-says : (c : Client) → Reached c → (xs : List ℕ) (m : ℕ) → has (asked c.pool (full_to xs 16)) m ≡ true → (is_normal (pool.state_of c.pool m) ≡ true) × (row_empty xs m ≡ false)
asked-says c h xs m s =
    let l = has-below (asked c.pool (full_to xs 16)) m s in
    let k : (is_normal (pool.state_of c.pool m) && has (full_to xs 16) m) ≡ true = sym (ids-has (Kind.Reached (full_to xs 16)) c.pool.roster (valid c h).ok.long m l) ∙ s in
    (and_left (is_normal (pool.state_of c.pool m)) (has (full_to xs 16) m) k, not-true (row_empty xs m) (sym (full-has xs m l) ∙ and_right (is_normal (pool.state_of c.pool m)) (has (full_to xs 16) m) k))

tick-asks : (m : ℕ) (c : Client) → Reached c → (has c.check.due m ≡ true → Asked m c.check.tick c) → (xs : List ℕ) → has (tick_turn c xs).check.due m ≡ true
    → Asked m (tick_turn c xs).check.tick (next (Event.tick xs) c)
tick-asks m c h rec xs s = at (tick-judged c xs)
  where
    at : Judged (tests_of (Event.tick xs) c) c.check (tick_done c xs) (tick_turn c xs) → Asked m (tick_turn c xs).check.tick (next (Event.tick xs) c)
    at (Judged.declines n f q) =
        numbered m c.check.tick (tick_turn c xs).check.tick (next (Event.tick xs) c) (ap (λ (k : Checked). k.check.tick) (sym q))
        (onward m c.check.tick c (Event.tick xs) (rec (ap (λ (k : Checked). has k.check.due m) (sym q) ∙ s))
        (record { tick = ap (λ (k : Checked). is_accepted k.answer) q; other = refl }))
    at (Judged.does f q) =
        let w = asked-says c h xs m (ap (λ (k : Checked). has k.check.due m) (sym q) ∙ s) in
        record {
          at = c;
          reached = h;
          xs = xs;
          accepted = ap (λ (k : Checked). is_accepted k.answer) q;
          normal = w.0;
          row = w.1;
          numbered = refl;
          counted = ap (λ (k : Checked). k.check.tick) q;
          since = Between.none;
        }

answer-waits : (m : ℕ) (c : Client) → (has c.check.due m ≡ true → Asked m c.check.tick c) → (xs : List ℕ) (number j : ℕ) (empty : Bool) → has (check_turn c xs number j empty).check.due m ≡ true
    → Asked m (check_turn c xs number j empty).check.tick (next (Event.check_answer xs number j empty) c)
answer-waits m c rec xs number j empty s = at (answer-judged c xs number j empty)
  where
    on : has c.check.due m ≡ true → c.check.tick ≡ (check_turn c xs number j empty).check.tick → answers_for m (Event.check_answer xs number j empty) c ≡ false
        → Asked m (check_turn c xs number j empty).check.tick (next (Event.check_answer xs number j empty) c)
    on was same other =
        numbered m c.check.tick (check_turn c xs number j empty).check.tick (next (Event.check_answer xs number j empty) c) same
        (onward m c.check.tick c (Event.check_answer xs number j empty) (rec was) (record { tick = refl; other = other }))

    at : Judged (tests_of (Event.check_answer xs number j empty) c) c.check (answer_done c j empty) (check_turn c xs number j empty)
        → Asked m (check_turn c xs number j empty).check.tick (next (Event.check_answer xs number j empty) c)
    at (Judged.declines n f q) =
        on (ap (λ (k : Checked). has k.check.due m) (sym q) ∙ s) (ap (λ (k : Checked). k.check.tick) (sym q))
        (ap (λ (k : Checked). eqb j m && is_accepted k.answer) q ∙ and-false (eqb j m))
    at (Judged.does f q) =
        let w = still c.check.due j m (ap (λ (k : Checked). has k.check.due m) (sym q) ∙ s) in
        on w.0 (ap (λ (k : Checked). k.check.tick) (sym q)) (ap (λ (b : Bool). b && taken (Event.check_answer xs number j empty) c) (ne_eqb j m (λ z. w.1 (sym z))))

-- who is due was asked by the last tick
due-asked : (m : ℕ) (c : Client) → Reached c → has c.check.due m ≡ true → Asked m c.check.tick c
due-asked m _ (Reached.start sync chunks a b) s = clash s (has-none m)
due-asked m _ (Reached.then c (Event.of_pool e) h) s =
    numbered m c.check.tick (next (Event.of_pool e) c).check.tick (next (Event.of_pool e) c) (sym (tick-stays e c))
    (onward m c.check.tick c (Event.of_pool e) (due-asked m c h (ap (λ (d : ℕ). has d m) (sym (due-stays e c)) ∙ s)) (record { tick = refl; other = refl }))
due-asked m _ (Reached.then c (Event.tick xs) h) s = tick-asks m c h (λ w. due-asked m c h w) xs s
due-asked m _ (Reached.then c (Event.check_answer xs number j empty) h) s = answer-waits m c (λ w. due-asked m c h w) xs number j empty s

pub only-due : OnlyDue
only-due c h xs number m empty a = at (answer-judged c xs number m empty)
  where
    at : Judged (tests_of (Event.check_answer xs number m empty) c) c.check (answer_done c m empty) (check_turn c xs number m empty) → Asked m number c
    at (Judged.declines n f q) = clash a (ap (λ (k : Checked). is_accepted k.answer) q)
    at (Judged.does f q) =
        let w : (eqb number c.check.tick && has c.check.due m) ≡ true = not-false (eqb number c.check.tick && has c.check.due m) (f 13 refl) in
        numbered m c.check.tick number c (sym (eqb-true number c.check.tick (and_left (eqb number c.check.tick) (has c.check.due m) w)))
        (due-asked m c h (and_right (eqb number c.check.tick) (has c.check.due m) w))
