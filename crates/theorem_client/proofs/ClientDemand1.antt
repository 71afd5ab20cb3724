-- Demand 1 for the client: of the pool's events from the theorem about the pool, of map check's by their tests.
use mathlib.Core.Path.{◌≡◌, refl, ap, ◌∙◌, sym}
use mathlib.Core.Bool.{Bool, true, false, ◌&&◌}
use mathlib.Core.List.{List}
use Prim.Native.Nat.{ℕ}
use Rattle.laws_words.specs.Words.{pick}
use Rattle.rules_pool.specs.declared.Answer.{Answer}
use Rattle.rules_pool.specs.declared.Effect.{Effect}
use Rattle.rules_pool.specs.declared.Pool.{Pool}
use Rattle.rules_pool.specs.declared.Turn.{Turn}
use Rattle.rules_pool.specs.Breaking.{is_accepted, breaks}
use Rattle.rules_client.specs.declared.Check.{Check}
use Rattle.rules_client.specs.declared.Checked.{Checked}
use Rattle.rules_client.specs.MapCheck.{after}
use Rattle.rules_client.specs.Client.{Client}
use Rattle.rules_client.specs.Client.{carried, check_handed, tick_turn, check_turn}
use Rattle.rules_client.specs.Events as pool
use Rattle.theorem_client.specs.Demand1 as judged
use Rattle.theorem_client.proofs.Demand1 as proved
use Rattle.theorem_client.specs.ClientDemand1.{Refuses, Verdict, Demand1}
use Rattle.rules_client.specs.ClientEvents.{Event, tests_of, out_of, next}
use Rattle.theorem_client.proofs.ClientShape.{Judged, tick-judged, answer-judged, tick_done, answer_done}

-- a refused event of the pool breaks no row
pub refused-breaks : (p : Pool) (t : Turn) (n : ℕ) → t.answer ≡ Answer.Refused n → breaks p t ≡ false
unfolding breaks
refused-breaks p t n e = rw e refl

of-pool : (e : pool.Event) (c : Client) → judged.Verdict e c.pool → Verdict (Event.of_pool e) c
of-pool e c (judged.Verdict.refused n a h) =
    Verdict.refused n a
    (record {
      first = h.first;
      client = same;
      effect = h.effect;
      map = h.map;
    })
  where
    client : Pool → Check → Client
    client p k = record { pool = p; check = k }

    check : after c.check c.pool (pool.turn_of e c.pool) ≡ c.check
    check = ap (λ (b : Bool). pick b (record { tick = c.check.tick; due = c.check.due; once = 0 }) c.check) (refused-breaks c.pool (pool.turn_of e c.pool) n a)

    same : next (Event.of_pool e) c ≡ c
    same = ap (client (pool.next e c.pool)) check ∙ ap (λ (p : Pool). client p c.check) h.pool
of-pool e c (judged.Verdict.done s a h) = Verdict.done s a h

pub demand-1 : Demand1
demand-1 (Event.of_pool e) c = of-pool e c (proved.demand-1 e c.pool)
demand-1 (Event.tick xs) c = at (tick-judged c xs)
  where
    at : Judged (tests_of (Event.tick xs) c) c.check (tick_done c xs) (tick_turn c xs) → Verdict (Event.tick xs) c
    at (Judged.declines n f q) =
        Verdict.refused n (ap (λ (k : Checked). k.answer) q)
        (record { first = f; client = ap (λ (k : Checked). (check_handed c k).client) q; effect = ap (λ (k : Checked). k.effect) q; map = refl })
    at (Judged.does f q) = Verdict.done _ (ap (λ (k : Checked). k.answer) q) f
demand-1 (Event.check_answer xs number m empty) c = at (answer-judged c xs number m empty)
  where
    at : Judged (tests_of (Event.check_answer xs number m empty) c) c.check (answer_done c m empty) (check_turn c xs number m empty) → Verdict (Event.check_answer xs number m empty) c
    at (Judged.declines n f q) =
        Verdict.refused n (ap (λ (k : Checked). k.answer) q)
        (record {
          first = f;
          client = ap (λ (k : Checked). (check_handed c k).client) q;
          effect = ap (λ (k : Checked). k.effect) q;
          map = ap (λ (k : Checked). pool.Lent.some (carried k.effect xs)) q;
        })
    at (Judged.does f q) = Verdict.done _ (ap (λ (k : Checked). k.answer) q) f
