-- The flags of the past say exactly that the pool is in service; so 17 is given exactly there.
use mathlib.Core.Path.{◌≡◌, refl, ap, ◌∙◌, sym, subst}
use mathlib.Core.Bool.{Bool, true, false, not, ◌&&◌, ◌||◌}
use Prim.Native.Nat.{ℕ, ◌<◌}
use lib.Dec.{eqb, ltb}
use native.Mathlib.Omega.{arith}
use borrow.Author.Tests.{le-ltb}
use Rattle.laws_words.specs.Words.{pick}
use Rattle.laws_words.specs.Tests.{clash, by_cases, and_left, and_right, and-false, either}
use Rattle.rules_base.specs.Refusals.{applies}
use Rattle.rules_base.proofs.Order.{none-applies, first-applies}
use Rattle.rules_pool.specs.declared.Answer.{Answer}
use Rattle.rules_pool.specs.declared.Turn.{Turn}
use Rattle.rules_pool.specs.declared.State.{State}
use Rattle.rules_pool.specs.declared.Session.{Session}
use Rattle.rules_pool.specs.declared.Past.{Past}
use Rattle.rules_pool.specs.Past.{in_service}
use Rattle.rules_pool.specs.Session.{is_free, is_created}
use Rattle.rules_pool.specs.Exit.{refused}
use Rattle.laws_client.proofs.Exit.{turn-of}
use Rattle.laws_client.proofs.Ids.{below}
use Rattle.rules_client.specs.Enables.{enables, enable_tests, enable_refusal, enable_done, enable}
use Rattle.rules_pool.specs.declared.Pool.{Pool}
use Rattle.rules_pool.specs.Breaking.{acknowledges, is_accepted}
use Rattle.rules_client.specs.Events.{Event, turn_of, next, state_of}
use Rattle.theorem_client.specs.Demand2.{Reached}
use Rattle.theorem_client.proofs.Demand2.{reached-valid, rules-kept}
use Rattle.theorem_creation.specs.Creation.{takes_over, empties, InService, NoneEnabled, Seventeen, OnlyThere}
use Rattle.theorem_creation.proofs.Past.{past_of, later, law}

-- ---- the flags

later-emptied : (p : Past) (w t : Bool) → in_service (later p w t true) ≡ false
later-emptied p w t = rw (and-false (p.written || w), and-false (p.assembled || t)) refl

later-stays : (a b w t : Bool) → ((((a || w) && true) || ((b || t) && true)) ≡ ((a || b) || (w || t)))
later-stays true b w t = refl
later-stays false true w t = or-all w
  where
    or-all : (w : Bool) → ((w && true) || true) ≡ true
    or-all true = refl
    or-all false = refl
later-stays false false true t = refl
later-stays false false false true = refl
later-stays false false false false = refl

-- the client of a pool in service is reached
pub service-reached : (c : Pool) → InService c → Reached c
service-reached _ (InService.wrote c e r a) = Reached.then c e r
service-reached _ (InService.took_over c e r t) = Reached.then c e r
service-reached _ (InService.stays c e s x) = Reached.then c e (service-reached c s)

-- an event that acknowledges a write or takes a set over, or comes to a pool with a flag, and empties nothing, leaves a flag
flag-after : (c : Pool) (e : Event) → Reached c → empties e c ≡ false → (in_service (past_of c) || (acknowledges (turn_of e c).answer || takes_over e c)) ≡ true → in_service (past_of (next e c)) ≡ true
flag-after c e r x some =
    ap in_service (law e c (reached-valid c r)).is
    ∙ (ap (λ (b : Bool). in_service (later (past_of c) (acknowledges (turn_of e c).answer) (takes_over e c) b)) x
    ∙ (later-stays (past_of c).written (past_of c).assembled (acknowledges (turn_of e c).answer) (takes_over e c) ∙ some))

or_right : (a b : Bool) → b ≡ true → (a || b) ≡ true
or_right true b e = refl
or_right false b e = e

or_left : (a b : Bool) → a ≡ true → (a || b) ≡ true
or_left a b e = rw e refl

pub flagged : (c : Pool) → InService c → in_service (past_of c) ≡ true
flagged _ (InService.wrote c e r a) =
    let some = or_left (acknowledges (turn_of e c).answer) (takes_over e c) a in
    flag-after c e r ((law e c (reached-valid c r)).one some) (or_right (in_service (past_of c)) _ some)
flagged _ (InService.took_over c e r t) =
    let some = or_right (acknowledges (turn_of e c).answer) (takes_over e c) t in
    flag-after c e r ((law e c (reached-valid c r)).one some) (or_right (in_service (past_of c)) _ some)
flagged _ (InService.stays c e s x) = flag-after c e (service-reached c s) x (or_left (in_service (past_of c)) _ (flagged c s))

or-none : (b : Bool) → (b || false) ≡ b
or-none true = refl
or-none false = refl

pub in-service : (c : Pool) → Reached c → in_service (past_of c) ≡ true → InService c
in-service _ (Reached.start sync chunks a b) f = clash f refl
in-service _ (Reached.then c e r) f =
    by_cases (empties e c)
    (λ x. clash f (ap in_service (law e c (reached-valid c r)).is ∙ (ap (λ (b : Bool). in_service (later (past_of c) (acknowledges (turn_of e c).answer) (takes_over e c) b)) x ∙ later-emptied (past_of c) (acknowledges (turn_of e c).answer) (takes_over e c))))
    (λ x. by_cases (acknowledges (turn_of e c).answer)
    (λ w. InService.wrote c e r w)
    (λ w. by_cases (takes_over e c)
    (λ t. InService.took_over c e r t)
    (λ t. InService.stays c e (in-service c r (before x w t)) x)))
  where
    before : empties e c ≡ false → acknowledges (turn_of e c).answer ≡ false → takes_over e c ≡ false → in_service (past_of c) ≡ true
    before x w t =
        sym (or-none (in_service (past_of c)))
        ∙ (sym (rw (w, t) refl)
        ∙ (sym (later-stays (past_of c).written (past_of c).assembled (acknowledges (turn_of e c).answer) (takes_over e c))
        ∙ (sym (ap in_service (law e c (reached-valid c r)).is ∙ ap (λ (b : Bool). in_service (later (past_of c) (acknowledges (turn_of e c).answer) (takes_over e c) b)) x) ∙ f)))

-- ---- the theorems

-- what refuses it
pub none-enabled : NoneEnabled
unfolding enable enable_refusal
none-enabled c s id created =
    turn-of (λ (t : Turn). (is_accepted t.answer ≡ false) × (t.pool ≡ c)) (enable_refusal c id) (enable_done c id) c (refl, refl)
    (λ e. clash (rw (created, flagged c s) refl) (none-applies (enable_tests c id) e 17 refl))

created-lives : (st : State) → is_created st ≡ true → is_free st ≡ false
created-lives State.Free e = clash refl (sym e)
created-lives State.Created e = refl
created-lives State.Normal e = refl
created-lives (State.Failed cause) e = refl
created-lives State.Reconnecting e = refl
created-lives (State.Removing m owed) e = refl

pub seventeen : Seventeen
unfolding enable enable_refusal enables
seventeen c s plain idle id created =
    let r = service-reached c s in
    let h = below (λ (s : Session). is_created s.state) c.roster id (reached-valid c r).ok.long refl created in
    let b : ltb 15 id ≡ false = le-ltb 15 id (omega (arith, h)) in
    rw (rules-kept c r, b, plain, idle, created-lives (state_of c id) created, created, flagged c s) refl

-- the number given
given : (c : Pool) (id n : ℕ) → (turn_of (Event.enable id) c).answer ≡ Answer.Refused n → enable_refusal c id ≡ n
unfolding enable enable_done
given c id n =
    turn-of (λ (t : Turn). t.answer ≡ Answer.Refused n → enable_refusal c id ≡ n) (enable_refusal c id) (enable_done c id) c
    (λ e. let q : enable_refusal c id ≡ n = cc e in q)
    (λ z e. clash (either (λ (t : Turn). is_accepted t.answer ≡ true) (is_created (state_of c id)) _ _ refl refl) (ap is_accepted e))

pub only-there : OnlyThere
unfolding enable_refusal
only-there c r id e =
    let g = given c id 17 e in
    let f = first-applies (enable_tests c id) (λ z. absurd (let y : ⊥ = omega (arith, g, z) in y)) in
    let a : (is_created (state_of c id) && in_service (past_of c)) ≡ true = subst (λ (n : ℕ). applies n (enable_tests c id) ≡ true) g f.given in
    (in-service c r (and_right (is_created (state_of c id)) (in_service (past_of c)) a), and_left (is_created (state_of c id)) (in_service (past_of c)) a)
