-- Two records are the same exactly where the test says so; and that none is another one, said of each.
use mathlib.Core.Path.{◌≡◌, refl, ap, sym, ◌∙◌}
use mathlib.Core.Bool.{Bool, true, false, ◌&&◌, ◌||◌, not}
use mathlib.Core.List.{[], ◌∷◌}
use Prim.Native.Nat.{ℕ, zero, suc, ◌<◌}
use native.Mathlib.Decide.{ℕ_discrete}
use native.Mathlib.Omega.{arith}
use lib.Dec.{eqb}
use lib.ListN.{get_or}
use borrow.Author.Tests.{eqb-true, eq-eqb, not-false}
use Rattle.laws_words.specs.Tests.{clash, and_left, and_right}
use Rattle.laws_words.specs.Words.{one}
use Rattle.rules_pool.specs.declared.Cause.{Cause}
use Rattle.rules_pool.specs.declared.Mode.{Mode}
use Rattle.rules_pool.specs.declared.State.{State}
use Rattle.rules_pool.specs.declared.Session.{Session}
use Rattle.rules_pool.specs.declared.Roster.{Roster}
use Rattle.rules_pool.specs.Sessions.{session_at}
use Rattle.rules_pool.specs.Breaking.{state_number, same_record, changed_to}

pub neither : (a b : Bool) → (a || b) ≡ false → (a ≡ false) × (b ≡ false)
neither true b e = clash refl e
neither false b e = (refl, e)

-- the state that a number is of
state_from : ℕ → State
state_from n =
    get_or
    (State.Free ∷ State.Created ∷ State.Normal ∷ State.Failed Cause.Link ∷ State.Failed Cause.Io ∷ State.Reconnecting
    ∷ State.Removing Mode.Delete true ∷ State.Removing Mode.Delete false ∷ State.Removing Mode.Disassemble true ∷ State.Removing Mode.Disassemble false ∷ [])
    n State.Free

state-back : (s : State) → state_from (state_number s) ≡ s
unfolding state_from
state-back State.Free = refl
state-back State.Created = refl
state-back State.Normal = refl
state-back (State.Failed Cause.Link) = refl
state-back (State.Failed Cause.Io) = refl
state-back State.Reconnecting = refl
state-back (State.Removing Mode.Delete true) = refl
state-back (State.Removing Mode.Delete false) = refl
state-back (State.Removing Mode.Disassemble true) = refl
state-back (State.Removing Mode.Disassemble false) = refl

same-state : (s t : State) → state_number s ≡ state_number t → s ≡ t
same-state s t e = sym (state-back s) ∙ (ap state_from e ∙ state-back t)

same_flag : (a b : Bool) → eqb (one a) (one b) ≡ true → a ≡ b
same_flag true true e = refl
same_flag false false e = refl
same_flag true false e = sym e
same_flag false true e = e

-- where the test says so, they are the same
pub same-is : (s t : Session) → same_record s t ≡ true → s ≡ t
same-is s t e =
    let f = and_right (eqb (state_number s.state) (state_number t.state)) (eqb (one s.maintenance) (one t.maintenance) && eqb (one s.mark) (one t.mark)) e in
    let a : s.state ≡ t.state = same-state s.state t.state (eqb-true (state_number s.state) (state_number t.state) (and_left (eqb (state_number s.state) (state_number t.state)) (eqb (one s.maintenance) (one t.maintenance) && eqb (one s.mark) (one t.mark)) e)) in
    let b : s.maintenance ≡ t.maintenance = same_flag s.maintenance t.maintenance (and_left (eqb (one s.maintenance) (one t.maintenance)) (eqb (one s.mark) (one t.mark)) f) in
    let d : s.mark ≡ t.mark = same_flag s.mark t.mark (and_right (eqb (one s.maintenance) (one t.maintenance)) (eqb (one s.mark) (one t.mark)) f) in
    ap (λ (x : State). of x s.maintenance s.mark) a ∙ (ap (λ (x : Bool). of t.state x s.mark) b ∙ ap (of t.state t.maintenance) d)
  where
    of : State → Bool → Bool → Session
    of st maintenance mark = record { state = st; maintenance = maintenance; mark = mark }

-- and where they are, it says so
pub is_same : (s : Session) → same_record s s ≡ true
is_same s = rw (eq-eqb (state_number s.state) (state_number s.state) refl, eq-eqb (one s.maintenance) (one s.maintenance) refl, eq-eqb (one s.mark) (one s.mark) refl) refl

-- no record below n is another one
pub unchanged : (before after : Roster) (n : ℕ) → changed_to before after n ≡ false → (j : ℕ) → j < n → session_at before j ≡ session_at after j
unfolding changed_to
unchanged before after zero e j h = absurd (let z : ⊥ = omega arith in z)
unchanged before after (suc n) e j h = at (ℕ_discrete j n) (unchanged before after n (neither (changed_to before after n) (not (same_record (session_at before n) (session_at after n))) e).0 j)
  where
    at : Dec (j ≡ n) → (j < n → session_at before j ≡ session_at after j) → session_at before j ≡ session_at after j
    at (yes p) f =
        rw p
        (same-is (session_at before n) (session_at after n)
        (not-false (same_record (session_at before n) (session_at after n)) (neither (changed_to before after n) (not (same_record (session_at before n) (session_at after n))) e).1))
    at (no p) f = f (omega arith)

pub no_change : (before after : Roster) (n : ℕ) → ((j : ℕ) → j < n → session_at before j ≡ session_at after j) → changed_to before after n ≡ false
unfolding changed_to
no_change before after zero f = refl
no_change before after (suc n) f = rw (no_change before after n (λ j h. f j (omega arith)), ← f n (omega arith), is_same (session_at before n)) refl
