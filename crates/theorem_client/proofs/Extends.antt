-- What extend does: the sessions, the version, the members, the lent map, and the run that it begins.
use mathlib.Core.Path.{◌≡◌, refl, ap, ◌∙◌}
use mathlib.Core.Bool.{true, false}
use mathlib.Core.List.{List}
use Prim.Native.Nat.{ℕ, ◌≤◌}
use native.Mathlib.Decide.{ℕ_discrete}
use native.Mathlib.Omega.{arith}
use borrow.Author.Tests.{eqb-false, eq-eqb, le-leb}
use Rattle.laws_words.specs.Tests.{and_both}
use Rattle.rules_base.proofs.Order.{none-applies}
use Rattle.rules_base.specs.Sets.{has}
use Rattle.rules_base.proofs.Sets.{has-with-same, has-with-other, has-below}
use Rattle.rules_pool.specs.declared.Roster.{Roster}
use Rattle.rules_pool.specs.Sessions.{session_at}
use Rattle.rules_pool.specs.Recovery.{with_roster}
use Rattle.laws_client.proofs.Exit.{turned, turn-of}
use Rattle.laws_client.proofs.Pools.{Valid}
use Rattle.laws_client.proofs.Tried.{tried-roster}
use Rattle.rules_client.specs.Extend.{picked, extend_refusal, extended, extend_done, extend}
use Rattle.laws_client.proofs.ExtendingKept.{picks, extend-passed, extended-at, extended-other, extended-numbers}
use Rattle.rules_pool.specs.declared.Pool.{Pool}
use Rattle.rules_pool.specs.Breaking.{is_accepted}
use Rattle.rules_client.specs.Client.{sound_for, extend_turn}
use Rattle.theorem_client.specs.Demand2.{Kept}
use Rattle.rules_client.specs.Events.{Event, turn_of, next, tests_of, state_of}
use Rattle.theorem_client.specs.Reading.{is_answer, concerns, part_of, touches, extend_touches, raises}
use Rattle.theorem_client.specs.Said.{members_of}
use Rattle.theorem_client.proofs.Fates.{Fate, is_part}
use Rattle.theorem_client.proofs.Shape.{taken}
use Rattle.theorem_client.proofs.Sound.{Same, tried_same, inside}
use Rattle.theorem_client.proofs.States.{free-is}
use Rattle.theorem_client.proofs.Tries.{Tries, by-trial-with, idle-at}
use Rattle.theorem_client.proofs.Versions.{Level, as-was}

-- the sessions that it leaves
abbrev added : Pool → Roster
added c = extended c.roster (picked c.roster)

pub added-roster : (c : Pool) → (extend_done c (picked c.roster)).pool.roster ≡ added c
unfolding extend_done
added-roster c = tried-roster (with_roster c (added c))

pub extend-others : (xs : List ℕ) (c : Pool) (j : ℕ) → Valid c → concerns (Event.extend xs) c j ≡ false → Kept c (next (Event.extend xs) c) j
unfolding extend extend_turn
extend-others xs c j v n =
    turned (λ q. Kept c (q) j) (extend_refusal c (sound_for c xs)) _ c (Kept.equal refl)
    (λ e. Kept.equal (ap (λ (ro : Roster). session_at ro j) (added-roster c) ∙ extended-other c.roster (picked c.roster) j (eqb-false j (picked c.roster) n)))

pub extend-fate : (c : Pool) (xs : List ℕ) → Valid c → Fate c (Event.extend xs) (next (Event.extend xs) c) (picked c.roster)
unfolding extend extend_turn
extend-fate c xs v =
    turned (λ q. Fate c (Event.extend xs) (q) (picked c.roster)) (extend_refusal c (sound_for c xs)) _ c (Fate.kept (Kept.equal refl))
    (λ e. let h = extend-passed c (sound_for c xs) e in
    let k = picks c.roster v.ok.long h.some in
    Fate.extends xs refl h.plain (free-is (state_of c (picked c.roster)) k.free)
    (ap (λ (ro : Roster). session_at ro (picked c.roster)) (added-roster c) ∙ extended-at c.roster (picked c.roster) v.ok.long k.below))

pub extend-level : (xs : List ℕ) (c : Pool) → Valid c → raises (Event.extend xs) ≡ false → Level c (next (Event.extend xs) c)
unfolding extend extend_turn
extend-level xs c v f =
    turned (Level c) (extend_refusal c (sound_for c xs)) _ c (as-was c c refl)
    (λ e. let n = extended-numbers c.roster (picked c.roster) in
    record { kind = ap (λ (ro : Roster). ro.sync) (added-roster c) ∙ n.kind; version = ap (λ (ro : Roster). ro.version) (added-roster c) ∙ n.versioned })

pub extend-stays : (xs : List ℕ) (c : Pool) → Valid c → is_part (part_of (Event.extend xs) c) ≡ false → (id : ℕ) → has (members_of c) id ≡ true → has (members_of (next (Event.extend xs) c)) id ≡ true
unfolding extend extend_turn
extend-stays xs c v p id was =
    turned (λ q. has q.roster.members id ≡ true) (extend_refusal c (sound_for c xs)) _ c was
    (λ e. ap (λ (ro : Roster). has ro.members id) (added-roster c) ∙ (ap (λ (n : ℕ). has n id) (extended-numbers c.roster (picked c.roster)).held ∙ elim (ℕ_discrete id (picked c.roster)) [
      | yes q ↦ rw (← q) (has-with-same (members_of c) id (has-below (members_of c) id was))
      | no d ↦ has-with-other (members_of c) (picked c.roster) id d ∙ was
    ]))

pub extend-count : (xs : List ℕ) (c : Pool) → (next (Event.extend xs) c).chunks ≡ c.chunks
unfolding extend extend_done extend_turn
extend-count xs c = turned (Same c) (extend_refusal c (sound_for c xs)) _ c refl (λ e. tried_same (with_roster c (added c)))

pub extend-touches : (xs : List ℕ) (c : Pool) → Valid c → touches (Event.extend xs) c (next (Event.extend xs) c).roster (turn_of (Event.extend xs) c).effect ≡ true
unfolding extend extend_done extend_turn
extend-touches xs c v =
    turn-of (λ t. extend_touches c t.effect ≡ true) (extend_refusal c (sound_for c xs)) _ c refl
    (λ e. and_both (eq-eqb (picked c.roster) (picked c.roster) refl) (eq-eqb c.chunks c.chunks refl))

same-le : (n : ℕ) → n ≤ n
same-le n = omega arith

pub extend-inside : (xs : List ℕ) (c : Pool) → inside c.chunks (extend_turn c xs).effect ≡ true
unfolding extend extend_done extend_turn
extend-inside xs c =
    turn-of (λ t. inside c.chunks t.effect ≡ true) (extend_refusal c (sound_for c xs)) _ c refl
    (λ e. le-leb c.chunks c.chunks (same-le c.chunks))

pub extend-trial : (xs : List ℕ) (c : Pool) → is_answer (Event.extend xs) ≡ false → is_accepted (turn_of (Event.extend xs) c).answer ≡ true → Tries c (turn_of (Event.extend xs) c)
unfolding extend extend_refusal extend_done extend_turn
extend-trial xs c n =
    taken (Tries c) (extend_refusal c (sound_for c xs)) _ c
    (λ e. by-trial-with c _ _ _ _ (le-leb c.chunks c.chunks (same-le c.chunks)) (idle-at c (none-applies (tests_of (Event.extend xs) c) e 6 refl)))
