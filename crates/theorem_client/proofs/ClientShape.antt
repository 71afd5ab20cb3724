-- A tick and an answer to it: refused by the first that applies, or done.
use mathlib.Core.Path.{◌≡◌, refl}
use mathlib.Core.Bool.{Bool, true, false}
use mathlib.Core.List.{List}
use Prim.Native.Nat.{ℕ}
use lib.Dec.{eqb}
use borrow.Author.Tests.{eqb-true, eqb-false}
use Rattle.laws_words.specs.Words.{pick}
use Rattle.rules_base.specs.Refusals.{Test, refusal}
use Rattle.rules_base.specs.Order.{First, None}
use Rattle.rules_base.proofs.Order.{first-applies, none-applies}
use Rattle.rules_pool.specs.declared.Told.{Told}
use Rattle.rules_pool.specs.declared.Effect.{Effect}
use Rattle.rules_client.specs.declared.Check.{Check}
use Rattle.rules_client.specs.declared.Checked.{Checked}
use Rattle.rules_client.specs.MapCheck.{tells_of, declined, tick, tick_refusal, asked, ticked, answered, clears, answer_refusal}
use Rattle.rules_client.specs.MapCheck as checks
use Rattle.rules_client.specs.Client.{Client}
use Rattle.rules_client.specs.Client.{sound_for, tick_turn, check_turn}
use Rattle.rules_base.specs.Empty.{full_to}
use Rattle.rules_client.specs.ClientEvents.{Event, tests_of}

-- What comes of tests: declined by the first that applies, or done.
pub data Judged (ts : List Test) (k : Check) (done r : Checked) : Type 0 where
  declines : (n : ℕ) → First ts n → r ≡ declined k n → Judged ts k done r
  does : None ts → r ≡ done → Judged ts k done r

judged : (ts : List Test) (k : Check) (done : Checked) → Judged ts k done (pick (eqb (refusal ts) 0) done (declined k (refusal ts)))
judged ts k done = at (eqb (refusal ts) 0) refl
  where
    at : (b : Bool) → eqb (refusal ts) 0 ≡ b → Judged ts k done (pick b done (declined k (refusal ts)))
    at true e = Judged.does (none-applies ts (eqb-true (refusal ts) 0 e)) refl
    at false e = Judged.declines (refusal ts) (first-applies ts (eqb-false (refusal ts) 0 e)) refl

-- what a tick does, and an answer
abbrev pub tick_done : Client → List ℕ → Checked
tick_done c xs =
    record {
      answer = tells_of (Told.Checks (asked c.pool (full_to xs 16)) (ticked c.check (asked c.pool (full_to xs 16))).tick);
      check = ticked c.check (asked c.pool (full_to xs 16));
      effect = Effect.Keep;
    }

abbrev pub answer_done : Client → ℕ → Bool → Checked
answer_done c m empty = record { answer = tells_of Told.Nothing; check = answered c.check m empty; effect = clears c.check m empty }

pub tick-judged : (c : Client) (xs : List ℕ) → Judged (tests_of (Event.tick xs) c) c.check (tick_done c xs) (tick_turn c xs)
unfolding tick_turn tick tick_refusal
tick-judged c xs = judged (tests_of (Event.tick xs) c) c.check (tick_done c xs)

pub answer-judged : (c : Client) (xs : List ℕ) (number m : ℕ) (empty : Bool)
    → Judged (tests_of (Event.check_answer xs number m empty) c) c.check (answer_done c m empty) (check_turn c xs number m empty)
unfolding check_turn checks.answer answer_refusal
answer-judged c xs number m empty = judged (tests_of (Event.check_answer xs number m empty) c) c.check (answer_done c m empty)
