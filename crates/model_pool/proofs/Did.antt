-- An event at a node is refused, and changes nothing; or is what the node's law says.
use mathlib.Core.Path.{◌≡◌, refl, ap}
use mathlib.Core.Bool.{true, false}
use Prim.Native.Nat.{ℕ}
use Rattle.laws_words.specs.Tests.{clash}
use Rattle.rules_base.specs.Refusals.{refusal}
use Rattle.rules_node.specs.declared.Answer.{Answer}
use Rattle.rules_node.specs.declared.Turn.{Turn}
use Rattle.rules_node.specs.Events.{Event, part_in, tests_at}
use Rattle.rules_node.specs.Face.{lent_to, turn_at, map_by, staging_by, staging_with, answers}
use Rattle.laws_node.proofs.Theorems.{is_refused, law, refusal-changes-nothing, accepted-done}
use Rattle.rules_node.specs.Turns.{is_accepted}
use Rattle.rules_world.specs.Station.{Station, face, does}

-- the number that a node's own maps refuse with
abbrev pub lent : Station → ℕ
lent s = lent_to (face s) s.map s.staging

-- what the law of an event says that it does
abbrev pub done_at : Event → Station → Turn
done_at e s = (law e s.node (lent s)).done

-- a station after a turn
abbrev pub turned : Event → Turn → Station → Station
turned e t s = record { node = t.node; map = map_by t s.map s.staging; staging = staging_with (part_in e) t.effect.staging (staging_by t s.map s.staging) }

-- an event that was accepted
pub record Took (e : Event) (s : Station) : Type 0 where
  pub none : refusal (tests_at e s.node (lent s)) ≡ 0
  pub is : (does s e).station ≡ turned e (done_at e s) s
  pub answer : (does s e).answer ≡ (done_at e s).answer

plain : (a : Answer) → is_accepted a ≡ true → is_refused a ≡ false
plain (Answer.Refused n) e = clash e refl
plain Answer.Done e = refl
plain (Answer.Version v) e = refl

pub took : (e : Event) (s : Station) → is_accepted (does s e).answer ≡ true → Took e s
unfolding does
took e s a =
    let d = accepted-done e (face s) s.map s.staging (plain (answers e (face s) s.map s.staging).answer a) in
    record { none = d.none; is = ap (λ (t : Turn). turned e t s) d.turn; answer = ap (λ (t : Turn). t.answer) d.turn }

-- a refusal changes nothing
pub stays : (e : Event) (s : Station) → is_accepted (does s e).answer ≡ false → (does s e).station ≡ s
unfolding does
stays e s a = at (answers e (face s) s.map s.staging).answer refl a
  where
    at : (x : Answer) → (answers e (face s) s.map s.staging).answer ≡ x → is_accepted x ≡ false → turned e (turn_at e (face s) s.map s.staging) s ≡ s
    at (Answer.Refused n) q z = let u = refusal-changes-nothing e (face s) s.map s.staging n q in λ i. record { node = (u.state i).node; map = u.map i; staging = u.staging i }
    at Answer.Done q z = clash refl z
    at (Answer.Version v) q z = clash refl z
