-- Events that are refused, and what is known of those that are accepted.
use mathlib.Core.Path.{◌≡◌, refl, sym, ap, ◌∙◌, subst}
use mathlib.Core.Bool.{Bool, true, false}
use mathlib.Core.Logic.{◌⊎◌, inl, inr}
use Prim.Native.Nat.{ℕ}
use lib.Dec.{eqb}
use borrow.Author.Tests.{eqb-true}
use Rattle.laws_words.specs.Words.{pick}
use Rattle.laws_words.specs.Tests.{clash, and-false}
use Rattle.rules_pool.specs.declared.Answer.{Answer}
use Rattle.rules_pool.specs.declared.Pool.{Pool}
use Rattle.rules_pool.specs.declared.Turn.{Turn}
use Rattle.rules_pool.specs.Exit.{refused}
use Rattle.rules_pool.specs.Breaking.{is_accepted}
use Rattle.rules_pool.specs.Breaking as breaking
use Rattle.rules_client.specs.Events.{Event, turn_of}
use Rattle.model_pool.specs.Steps as s
use Rattle.model_pool.specs.Reflects.{Reflects}
use Rattle.rules_world.specs.Whole.{World, Happening, accepts, acknowledges, acted, by_client}
use Rattle.rules_world.specs.History.{History, then, takes_in, writes}
use Rattle.theorem_forgotten.specs.Forgotten.{Missed, Passed, Added, Synced}
use Rattle.theorem_forgotten.proofs.Tells.{Tells}
use Rattle.theorem_forgotten.proofs.Client.{same-tells}

-- an event that is accepted was refused by nothing
pub zero_of : (p : Pool) (why : ℕ) (done : Turn) → is_accepted (pick (eqb why 0) done (refused p why)).answer ≡ true → why ≡ 0
zero_of p why done z = at (eqb why 0) refl z
  where
    at : (b : Bool) → eqb why 0 ≡ b → is_accepted (pick b done (refused p why)).answer ≡ true → why ≡ 0
    at true e z = eqb-true why 0 e
    at false e z = clash z refl

-- a refusal changes nothing
pub not-acted : (e : Event) (got : ℕ) (w : World) → accepts w e ≡ false → by_client e got w ≡ w
not-acted e got w z = at (turn_of e w.pool).answer z
  where
    at : (x : Answer) → is_accepted x ≡ false → acted x (turn_of e w.pool).pool got w ≡ w
    at (Answer.Refused n) z = refl
    at (Answer.Done s) z = clash refl z

pub not-acknowledged : (w : World) (e : Event) → accepts w e ≡ false → acknowledges w e ≡ false
not-acknowledged w e z = at (turn_of e w.pool).answer z
  where
    at : (x : Answer) → is_accepted x ≡ false → breaking.acknowledges x ≡ false
    at (Answer.Refused n) z = refl
    at (Answer.Done s) z = clash refl z

abbrev acknowledges_it : World → Happening → Bool
acknowledges_it w (Happening.node j e) = false
acknowledges_it w (Happening.client e got) = acknowledges w e
acknowledges_it w (Happening.hand_enable j) = false
acknowledges_it w (Happening.arrives lengths) = false
acknowledges_it w (Happening.breaks_off lengths) = false
acknowledges_it w (Happening.another j xs ys) = false

-- who missed a write of chunk c missed one that was acknowledged
pub passed-acknowledged : (w : World) (e : Event) (got n c : ℕ) → Passed w (Happening.client e got) n c → acknowledges w e ≡ true
passed-acknowledged w e got n c p = ap (acknowledges_it w) p.wrote ∙ p.done

abbrev accepts_it : World → Happening → Bool
accepts_it w (Happening.node j e) = false
accepts_it w (Happening.client e got) = accepts w e
accepts_it w (Happening.hand_enable j) = false
accepts_it w (Happening.arrives lengths) = false
accepts_it w (Happening.breaks_off lengths) = false
accepts_it w (Happening.another j xs ys) = false

pub refused-tells : (w : World) (h : History w) (t : Tells h) (e : Event) (got : ℕ) → accepts w e ≡ false → Tells (then w (Happening.client e got) h)
refused-tells w h t e got z =
    same-tells w h t e got (λ j. rw z (and-false (takes_in e w j))) t.a (s.here t.a) (subst (λ (x : World). Reflects x t.a) (sym (not-acted e got w z)) t.reflects) refl refl refl (λ c. rw (not-acknowledged w e z) (and-false (writes e c)))
    (λ n c k. t.remembers.owes n c (at n c k.0))
  where
    at : (n c : ℕ) → Passed w (Happening.client e got) n c ⊎ (Added h (Happening.client e got) n c ⊎ (Missed n c h × ((Synced w (Happening.client e got) n c) → ⊥))) → Missed n c h
    at n c (inl p) = clash (passed-acknowledged w e got n c p) (not-acknowledged w e z)
    at n c (inr (inl p)) = clash (ap (accepts_it w) p.extends ∙ p.done) z
    at n c (inr (inr p)) = p.0
