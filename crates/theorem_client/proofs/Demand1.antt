-- Demand 1 for the client.
use mathlib.Core.Path.{◌≡◌, refl, ap, ◌∙◌}
use mathlib.Core.Bool.{Bool, true, false}
use lib.Dec.{eqb}
use borrow.Author.Tests.{eqb-true, eqb-false}
use Rattle.laws_words.specs.Tests.{clash}
use Rattle.laws_words.specs.Words.{pick}
use Rattle.rules_base.proofs.Order.{first-applies, none-applies}
use Rattle.rules_pool.specs.declared.Answer.{Answer}
use Rattle.rules_pool.specs.declared.Effect.{Effect}
use Rattle.rules_pool.specs.declared.Pool.{Pool}
use Rattle.rules_pool.specs.declared.Sent.{Sent}
use Rattle.rules_pool.specs.declared.Turn.{Turn}
use Rattle.rules_pool.specs.Exit.{refused}
use Rattle.rules_pool.specs.Breaking.{is_accepted}
use Rattle.theorem_client.specs.Demand1.{Refuses, Verdict, Demand1}
use Rattle.rules_client.specs.Events.{Event, turn_of, tests_of}
use Rattle.theorem_client.proofs.Law.{law}
use Rattle.theorem_client.proofs.Shape.{why_not}

record Sends (a : Answer) : Type 0 where
  what : Sent
  is : a ≡ Answer.Done what

sends : (a : Answer) → is_accepted a ≡ true → Sends a
sends (Answer.Refused n) e = clash e refl
sends (Answer.Done s) e = record { what = s; is = refl }

-- an event that is refused, and one that is not
pub refused-turn : (e : Event) (c : Pool) → eqb (why_not e c) 0 ≡ false → turn_of e c ≡ refused c (why_not e c)
refused-turn e c z = (law e c).same ∙ ap (λ (b : Bool). pick b (law e c).does (refused c (why_not e c))) z

pub done-turn : (e : Event) (c : Pool) → eqb (why_not e c) 0 ≡ true → turn_of e c ≡ (law e c).does
done-turn e c z = (law e c).same ∙ ap (λ (b : Bool). pick b (law e c).does (refused c (why_not e c))) z

refuses : (e : Event) (c : Pool) → eqb (why_not e c) 0 ≡ false → Refuses e c (why_not e c)
refuses e c z =
    let q = refused-turn e c z in
    let k : (turn_of e c).effect ≡ Effect.Keep = ap (λ (t : Turn). t.effect) q in
    record {
      first = first-applies (tests_of e c) (eqb-false (why_not e c) 0 z);
      pool = ap (λ (t : Turn). t.pool) q;
      effect = k;
      map = (law e c).same_map k;
    }

pub demand-1 : Demand1
demand-1 e c = at (eqb (why_not e c) 0) refl
  where
    at : (b : Bool) → eqb (why_not e c) 0 ≡ b → Verdict e c
    at true z =
        let q : (turn_of e c).answer ≡ (law e c).does.answer = ap (λ (t : Turn). t.answer) (done-turn e c z) in
        let s = sends (law e c).does.answer ((law e c).plain (eqb-true (why_not e c) 0 z)) in
        Verdict.done s.what (q ∙ s.is) (none-applies (tests_of e c) (eqb-true (why_not e c) 0 z))
    at false z = Verdict.refused (why_not e c) (ap (λ (t : Turn). t.answer) (refused-turn e c z)) (refuses e c z)
