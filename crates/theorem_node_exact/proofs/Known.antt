-- An event's answer, by the first of its tests that applies.
use mathlib.Core.Path.{◌≡◌, refl, sym, ap, ◌∙◌}
use mathlib.Core.Logic.{◌≢◌}
use mathlib.Core.Bool.{Bool, true, false, not}
use Prim.Native.Nat.{ℕ}
use lib.Dec.{eqb}
use borrow.Author.Tests.{ne_eqb}
use Rattle.laws_words.specs.Words.{pick}
use Rattle.laws_words.specs.Tests.{clash, and_both}
use Rattle.rules_base.specs.Refusals.{applies, refusal}
use Rattle.rules_node.specs.declared.Answer.{Answer}
use Rattle.rules_node.specs.declared.Node.{Node}
use Rattle.rules_node.specs.declared.Turn.{Turn}
use Rattle.rules_node.specs.Turns.{is_accepted, refused, settled}
use Rattle.rules_node.specs.Events.{Event, tests_at}
use Rattle.rules_node.specs.Face.{answers, lent_to}
use Rattle.rules_node.specs.Held.{Held}
use Rattle.laws_node.proofs.Theorems.{is_refused, law, Accepted, accepted-by, accepted-done, lent-zero}
use Rattle.theorem_node_exact.specs.Words.{Iff, Accepts, Refuses, InOrder}
use Rattle.theorem_node_exact.proofs.Rules.{rules-hold, map-sound}

pub not-refused : (a : Answer) → is_refused a ≡ false → is_accepted a ≡ true
not-refused (Answer.Refused n) e = clash refl e
not-refused Answer.Done e = refl
not-refused (Answer.Version v) e = refl

pub taken-plain : (a : Answer) → is_accepted a ≡ true → is_refused a ≡ false
taken-plain (Answer.Refused n) e = clash e refl
taken-plain Answer.Done e = refl
taken-plain (Answer.Version v) e = refl

-- what is known of an accepted event
abbrev pub Known : Event → Held → Type 0
Known e w = Accepted e w.at w.map w.staging

pub known : (e : Event) (w : Held) → Accepts e w → Known e w
known e w a = accepted-done e w.at w.map w.staging (taken-plain (answers e w.at w.map w.staging).answer a)

-- the first number that applies, 0 for none
abbrev pub lent_at : Held → ℕ
lent_at w = lent_to w.at w.map w.staging

abbrev pub why : Event → Held → ℕ
why e w = refusal (tests_at e w.at.node (lent_at w))

pub accept-iff : (e : Event) (w : Held) → Iff (Accepts e w) (why e w ≡ 0)
accept-iff e w = (λ a. (known e w a).none, λ z. not-refused (answers e w.at w.map w.staging).answer (accepted-by e w.at w.map w.staging z))

refused_as : (b : Bool) (x k : ℕ) (n : Node) (t : Turn) → is_refused t.answer ≡ false → (pick b t (refused x n)).answer ≡ Answer.Refused k → x ≡ k
refused_as true x k n t p e = clash (ap is_refused e) p
refused_as false x k n t p e = cc e

pub refuse-iff : (e : Event) (w : Held) (k : ℕ) → k ≢ 0 → Iff (Refuses k e w) (why e w ≡ k)
unfolding settled
refuse-iff e w k d =
    let h = law e w.at.node (lent_at w) in (
      λ r. refused_as (eqb (why e w) 0) (why e w) k w.at.node h.done h.plain (sym (ap (λ (t : Turn). t.answer) h.same) ∙ r),
      λ z. ap (λ (t : Turn). t.answer) h.same ∙ (ap (λ (b : Bool). (pick b h.done (refused (why e w) w.at.node)).answer) (ne_eqb (why e w) 0 (λ q. d (sym z ∙ q))) ∙ ap Answer.Refused z),
    )

-- what the lent maps refuse with
pub two-iff : (b a : Bool) → Iff (eqb (pick {A = ℕ} (not b) 2 (pick (not a) 18 0)) 2 ≡ true) (b ≡ false)
two-iff true true = (λ e. clash e refl, λ e. clash refl e)
two-iff true false = (λ e. clash e refl, λ e. clash refl e)
two-iff false a = (λ e. refl, λ e. refl)

pub eighteen-iff : (b a : Bool)
    → Iff ((eqb (pick {A = ℕ} (not b) 2 (pick (not a) 18 0)) 2 ≡ false) × (eqb (pick {A = ℕ} (not b) 2 (pick (not a) 18 0)) 18 ≡ true)) ((b ≡ true) × (a ≡ false))
eighteen-iff true true = (λ (e, f). clash f refl, λ (e, f). clash refl f)
eighteen-iff true false = (λ (e, f). (refl, refl), λ (e, f). (refl, refl))
eighteen-iff false a = (λ (e, f). clash refl e, λ (e, f). clash e refl)

-- ---- at a node in order 1, 2 and 18 do not apply

pub not-lent : (w : Held) → InOrder w → lent_at w ≡ 0
not-lent w g = lent-zero w.at w.map w.staging (and_both (map-sound w.at.node.chunks w.map g.map) (map-sound w.at.node.chunks w.staging g.staging)) g.summaries

pub record Clear (e : Event) (w : Held) : Type 0 where
  pub one : applies 1 (tests_at e w.at.node (lent_at w)) ≡ false
  pub two : applies 2 (tests_at e w.at.node (lent_at w)) ≡ false
  pub eighteen : applies 18 (tests_at e w.at.node (lent_at w)) ≡ false

pub clear : (e : Event) (w : Held) → InOrder w → Clear e w
clear e w g =
    let h = law e w.at.node (lent_at w) in
    record {
      one = h.one ∙ ap not (rules-hold w.at.node g.rules);
      two = h.two ∙ ap (λ (k : ℕ). eqb k 2) (not-lent w g);
      eighteen = h.eighteen ∙ ap (λ (k : ℕ). eqb k 18) (not-lent w g);
    }
