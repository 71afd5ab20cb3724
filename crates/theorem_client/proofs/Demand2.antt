-- Demand 2 for the client: what holds of every reached client, and of every event there.
use mathlib.Core.Path.{◌≡◌, refl, ap, ◌∙◌, sym}
use mathlib.Core.Bool.{Bool, true, false, not}
use Prim.Native.Nat.{ℕ}
use Rattle.laws_words.specs.Tests.{clash}
use Rattle.rules_base.specs.Refusals.{applies}
use Rattle.rules_pool.specs.Table.{legal}
use Rattle.rules_pool.specs.declared.Answer.{Answer}
use Rattle.rules_pool.specs.declared.State.{State}
use Rattle.laws_client.proofs.Pools.{Valid, valid-of}
use Rattle.rules_pool.specs.declared.Pool.{Pool}
use Rattle.theorem_client.specs.Demand1.{Verdict}
use Rattle.theorem_client.specs.Demand2.{Reached, RulesKept, NeverOne, Change, ByTheTable, VersionNeverFalls, OthersStay, MapOnly, SoundStays}
use Rattle.rules_client.specs.Events.{Event, tests_of, turn_of, next, state_of, is_sync}
use Rattle.theorem_client.proofs.Demand1.{demand-1}
use Rattle.theorem_client.proofs.Every.{event-keeps, event-touches, event-same, event-sound, event-others, event-fate, event-kind, event-never-falls}
use Rattle.theorem_client.proofs.Fates.{Fate, state-of, kept-stands}
use Rattle.theorem_client.proofs.Keeps.{fresh-valid}
use Rattle.theorem_client.proofs.Law.{law}
use Rattle.theorem_client.proofs.States.{normal-is}

pub reached-valid : (c : Pool) → Reached c → Valid c
reached-valid _ (Reached.start sync chunks a b) = fresh-valid sync chunks a b
reached-valid _ (Reached.then c e r) = event-keeps e c (reached-valid c r)

pub rules-kept : RulesKept
rules-kept c r = valid-of c (reached-valid c r)

-- the refusal that was given
refusal-of : (e : Event) (c : Pool) (n : ℕ) → (turn_of e c).answer ≡ Answer.Refused n → applies n (tests_of e c) ≡ true
refusal-of e c n q = at (demand-1 e c)
  where
    at : Verdict e c → applies n (tests_of e c) ≡ true
    at (Verdict.refused m p h) = let z : m ≡ n = cc (p, q) in ap (λ (k : ℕ). applies k (tests_of e c)) (sym z) ∙ h.first.given
    at (Verdict.done s p h) = let z : Answer.Done s ≡ Answer.Refused n = sym p ∙ q in cc z

pub never-one : NeverOne
never-one c r e n q z =
    let a : applies 1 (tests_of e c) ≡ true = ap (λ (k : ℕ). applies k (tests_of e c)) (sym z) ∙ refusal-of e c n q in
    clash a ((law e c).one ∙ ap not (rules-kept c r))

-- a fate is a change by the table
from-normal : (sync : Bool) → sync ≡ false → legal sync State.Normal State.Reconnecting ≡ true
from-normal sync e = rw e refl

by-fate : (c : Pool) (e : Event) (c' : Pool) (id : ℕ) → Fate c e c' id → Change (is_sync c) e id (state_of c id) (state_of c' id)
by-fate c e c' id (Fate.kept k) = Change.stays (kept-stands c c' id k)
by-fate c e c' id (Fate.begins x st r) = Change.created x st (state-of c' id _ r)
by-fate c e c' id (Fate.joins set version x plain st r) = Change.assembled set version x plain st (state-of c' id _ r)
by-fate c e c' id (Fate.goes to l n b w r) = Change.goes (rw (state-of c' id _ r) l)
by-fate c e c' id (Fate.fails cause last w x n b r) = Change.goes (rw (state-of c' id _ r, normal-is (state_of c id) n) refl)
by-fate c e c' id (Fate.maintained last x plain n b r) = Change.goes (rw (state-of c' id _ r, normal-is (state_of c id) n) (from-normal (is_sync c) plain))
by-fate c e c' id (Fate.unflagged x is r) = Change.stays (state-of c' id _ r)
by-fate c e c' id (Fate.paid mode st r) = Change.paid mode st (state-of c' id _ r)
by-fate c e c' id (Fate.freed i m r) = Change.freed m (state-of c' id _ r)
by-fate c e c' id (Fate.removed xs mode x l r) = Change.removed xs mode x l (state-of c' id _ r)
by-fate c e c' id (Fate.extends xs x plain st r) = Change.extended xs x plain st (state-of c' id _ r)

pub by-the-table : ByTheTable
by-the-table c r e = let v = reached-valid c r in ((λ id. by-fate c e (next e c) id (event-fate e c id v)), event-kind e c v)

pub version-never-falls : VersionNeverFalls
version-never-falls c r e = event-never-falls e c (reached-valid c r)

pub others-stay : OthersStay
others-stay c r e j n = event-others e c j (reached-valid c r) n

pub map-only : MapOnly
map-only c r e = event-touches e c (reached-valid c r)

pub sound-stays : SoundStays
sound-stays c r e = (event-same e c, event-sound e c (reached-valid c r))
