-- Laws of the words: the lowest of a set, the sets that the rules read off the sessions, pools in order.
use Rattle.std.specs.Prelude.{Option}
use Rattle.rules_pool.specs.declared.Run.{Run}
use mathlib.Core.Path.{◌≡◌, refl, sym, ap, ◌∙◌, subst}
use mathlib.Core.Bool.{Bool, true, false, not}
use mathlib.Core.List.{List}
use Prim.Native.Nat.{ℕ, ◌<◌}
use native.Mathlib.Decide.{ℕ_discrete, dec_lt}
use native.Mathlib.Omega.{arith}
use lib.Dec.{eqb}
use borrow.Author.Tests.{eqb-true, eqb-false, ne_eqb}
use Rattle.laws_words.specs.Words.{pick}
use Rattle.laws_words.specs.Tests.{by_cases, clash, and_both, and_left, and_right}
use Rattle.rules_base.specs.Sets.{has, lowest, without}
use Rattle.rules_base.proofs.Sets.{has-below, has-none, has-without-other, still, lowest-in, lowest-le, lowest-first, lowest-nobody, empty-set}
use Rattle.rules_pool.specs.declared.State.{State}
use Rattle.rules_pool.specs.declared.Session.{Session}
use Rattle.rules_pool.specs.declared.Roster.{Roster}
use Rattle.rules_pool.specs.declared.Pool.{Pool}
use Rattle.rules_pool.specs.declared.Message.{Message}
use Rattle.rules_pool.specs.declared.Told.{Told}
use Rattle.rules_pool.specs.declared.Outcome.{Outcome}
use Rattle.rules_pool.specs.declared.Answer.{Answer}
use Rattle.rules_pool.specs.declared.Sent.{Sent}
use Rattle.rules_pool.specs.declared.Turn.{Turn}
use Rattle.rules_pool.specs.declared.Kind.{Kind}
use Rattle.rules_pool.specs.Session.{is_normal, is_reconnecting, candidate, free}
use Rattle.rules_pool.specs.Sessions.{session_at, ids_of}
use Rattle.rules_pool.specs.Exit.{refused}
use Rattle.rules_pool.specs.Breaking.{is_accepted}
use Rattle.rules_client.specs.Events.{Event, tests_of, turn_of, next}
use Rattle.rules_base.specs.Refusals.{Test, refusal}
use Rattle.rules_base.specs.Order as order
use Rattle.rules_base.proofs.Order.{none-applies}
use Rattle.laws_client.proofs.Ids.{Long, kind_at, ids-has, below}
use Rattle.laws_client.proofs.Pools.{Valid, valid-facts, valid-of}
use Rattle.theorem_client.proofs.Keeps.{fresh-valid}
use Rattle.theorem_client.proofs.Law.{law}
use Rattle.theorem_client.proofs.States.{normal-is, reconnecting-is}
use Rattle.theorem_runs.specs.Words.{Iff, InOrder, OrderKept, Hands, Normal, Candidate, Marked, Nobody, Lowest, But, InTurn}

-- ---- the lowest of a set

abbrev pub In : ℕ → ℕ → Type 0
In s id = has s id ≡ true

pub lowest-is : (s x : ℕ) → Lowest (In s) x → lowest s ≡ x
lowest-is s x (is, first) = elim (ℕ_discrete (lowest s) x) [
  | yes e ↦ e
  | no d ↦ elim (dec_lt (lowest s) x) [
    | yes l ↦ absurd (first (lowest s) l (lowest-in s (let b = has-below s x is in omega (arith, b, l))))
    | no g ↦ clash is (lowest-first s x (omega (arith, d, g)))
  ]
]

pub lowest-of : (s : ℕ) → lowest s < 16 → Lowest (In s) (lowest s)
lowest-of s l = (lowest-in s l, λ j m h. clash h (lowest-first s j m))

pub lowest-as : (a b : ℕ → Type 0) (x : ℕ) → ((id : ℕ) → Iff (a id) (b id)) → Lowest a x → Lowest b x
lowest-as a b x f (is, first) = ((f x).0 is, λ j m h. first j m ((f j).1 h))

pub some_in : (s x : ℕ) → In s x → (eqb s 0 ≡ false) × (lowest s < 16)
some_in s x h = (
  ne_eqb s 0 (λ e. clash h (ap (λ (n : ℕ). has n x) e ∙ has-none x)),
  elim (dec_lt (lowest s) 16) [ yes l ↦ l | no g ↦ clash h (lowest-nobody s (omega (arith, g, lowest-le s)) x) ],
)

pub none_in : (s : ℕ) → s < 65536 → Nobody (In s) → eqb s 0 ≡ true
none_in s small f =
    by_cases (eqb s 0) (λ e. e)
    (λ e. elim (dec_lt (lowest s) 16) [
      | yes l ↦ absurd (f (lowest s) (lowest-in s l))
      | no g ↦ absurd (eqb-false s 0 e (empty-set s small (omega (arith, g, lowest-le s))))
    ])

pub zero-none : (s : ℕ) → eqb s 0 ≡ true → Nobody (In s)
zero-none s e id h = clash h (ap (λ (n : ℕ). has n id) (eqb-true s 0 e) ∙ has-none id)

pub some-lowest : (s : ℕ) → s < 65536 → eqb s 0 ≡ false → lowest s < 16
some-lowest s small e = elim (dec_lt (lowest s) 16) [
  | yes l ↦ l
  | no g ↦ absurd (eqb-false s 0 e (empty-set s small (omega (arith, g, lowest-le s))))
]

-- a set without one of them
pub but_in : (s x : ℕ) (who : ℕ → Type 0) → ((id : ℕ) → Iff (In s id) (who id)) → (id : ℕ) → Iff (In (without s x) id) (But who x id)
but_in s x who f id = ((λ h. let k = still s x id h in ((f id).0 k.0, k.1)), λ (h, d). has-without-other s x id d ∙ (f id).1 h)

-- The one in turn: what comes, by the set's lowest or where it is empty.
pub in-turn : (s : ℕ) → s < 65536 → (who : ℕ → Type 0) → ((id : ℕ) → Iff (In s id) (who id)) → (n₀ n₁ : Option Run) (A : ℕ → Option Run → Type 0) (B : Option Run → Type 0)
    → (eqb s 0 ≡ false → A (lowest s) n₁) → (eqb s 0 ≡ true → B n₀) → InTurn who (λ y. A y (pick (eqb s 0) n₀ n₁)) (B (pick (eqb s 0) n₀ n₁))
in-turn s small who f n₀ n₁ A B a b = (λ y l. this y (lowest-as who (In s) y (λ id. ((f id).1, (f id).0)) l), λ n. that (none_in s small (λ id h. n id ((f id).0 h))))
  where
    this : (y : ℕ) → Lowest (In s) y → A y (pick (eqb s 0) n₀ n₁)
    this y l = let e = (some_in s y l.0).0 in subst (λ (z : ℕ). A z (pick (eqb s 0) n₀ n₁)) (lowest-is s y l) (rw e (a e))

    that : eqb s 0 ≡ true → B (pick (eqb s 0) n₀ n₁)
    that e = rw e (b e)

-- ---- the sets that are read off the sessions

-- a kind that looks at the record alone
pub kind-iff : (k : Kind) (passes : Session → Bool) (ro : Roster) → Long ro → ((j : ℕ) (s : Session) → kind_at k ro j s ≡ passes s) → passes free ≡ false
    → (id : ℕ) → Iff (In (ids_of k ro) id) (passes (session_at ro id) ≡ true)
kind-iff k passes ro l same none id = (
  (λ h. sym (same id (session_at ro id)) ∙ (sym (ids-has k ro l id (has-below (ids_of k ro) id h)) ∙ h)),
  λ h. ids-has k ro l id (below passes ro id l none h) ∙ (same id (session_at ro id) ∙ h),
)

both_iff : {a b d : Type 0} → Iff a b → Iff b d → Iff a d
both_iff (f, g) (h, k) = ((λ x. h (f x)), λ x. g (k x))

pub candidate-is : (s : Session) → Iff (candidate s ≡ true) ((s.state ≡ State.Reconnecting) × (s.maintenance ≡ false))
candidate-is s = (
  (λ e. (reconnecting-is s.state (and_left (is_reconnecting s.state) _ e), off s.maintenance (and_right (is_reconnecting s.state) _ e))),
  λ (a, b). and_both (ap is_reconnecting a) (ap not b),
)
  where
    off : (b : Bool) → not b ≡ true → b ≡ false
    off true e = sym e
    off false e = refl

pub normals : (c : Pool) → Long c.roster → (id : ℕ) → Iff (In (ids_of Kind.Normals c.roster) id) (Normal c id)
normals c l id =
    both_iff (kind-iff Kind.Normals (λ s. is_normal s.state) c.roster l (λ j s. refl) refl id) (normal-is (session_at c.roster id).state, λ e. ap is_normal e)

pub candidates : (c : Pool) → Long c.roster → (id : ℕ) → Iff (In (ids_of Kind.Candidates c.roster) id) (Candidate c id)
candidates c l id = both_iff (kind-iff Kind.Candidates candidate c.roster l (λ j s. refl) refl id) (candidate-is (session_at c.roster id))

pub marked : (c : Pool) → Long c.roster → (id : ℕ) → Iff (In (ids_of Kind.Marked c.roster) id) (Marked c id)
marked c l id = kind-iff Kind.Marked (λ s. s.mark) c.roster l (λ j s. refl) refl id

-- ---- pools in order

-- none of the numbers of the table applies
abbrev pub NoneOf : List Test → Type 0
NoneOf ts = order.None ts

pub order-valid : (c : Pool) → InOrder c → Valid c
order-valid c o = valid-facts c o.sixteen o.rules

valid-order : (c : Pool) → Valid c → InOrder c
valid-order c v = record { rules = valid-of c v; sixteen = v.ok.long }

pub order-kept : OrderKept
order-kept = ((λ sync chunks a b. valid-order _ (fresh-valid sync chunks a b)), λ c e o. valid-order (next e c) ((law e c).rules (order-valid c o)))

-- an accepted event: no number applies to it, and it is what it does
pub done-is : (e : Event) (c : Pool) (d : Turn) (s : Sent) → turn_of e c ≡ pick (eqb (refusal (tests_of e c)) 0) d (refused c (refusal (tests_of e c))) → Hands e c s
    → NoneOf (tests_of e c) × (turn_of e c ≡ d)
done-is e c d s same h = at (eqb (refusal (tests_of e c)) 0) refl
  where
    at : (b : Bool) → eqb (refusal (tests_of e c)) 0 ≡ b → NoneOf (tests_of e c) × (turn_of e c ≡ d)
    at true z = (none-applies (tests_of e c) (eqb-true _ 0 z), same ∙ rw z refl)
    at false z =
        let r : turn_of e c ≡ refused c (refusal (tests_of e c)) = same ∙ rw z refl in
        clash refl (ap is_accepted (sym h ∙ ap (λ (t : Turn). t.answer) r))

-- what it hands back is what was handed back
pub sent_is : (a b : Sent) → Answer.Done a ≡ Answer.Done b → a ≡ b
sent_is a b e = cc e

-- what an answer hands back
abbrev pub nothing : Sent
nothing = record { outcome = Outcome.Plain; told = Told.Nothing; awaited = Message.Nothing; number = 0 }

abbrev pub hands_of : Answer → Sent
hands_of (Answer.Refused n) = nothing
hands_of (Answer.Done s) = s
