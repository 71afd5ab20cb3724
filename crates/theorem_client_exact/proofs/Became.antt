-- What the fields are after a named change: the words of Fields for the changes of one session.
use mathlib.Core.Path.{◌≡◌, refl, sym, ap, ◌∙◌}
use mathlib.Core.Logic.{◌≢◌, ◌⊎◌, inl, inr, ◌↔◌}
use mathlib.Core.Bool.{Bool, true, false, ◌&&◌}
use Prim.Native.Nat.{ℕ, zero, suc, ◌+◌, ◌<◌, ◌≤◌}
use native.Mathlib.Decide.{ℕ_discrete}
use native.Mathlib.Omega.{arith}
use lib.Dec.{eqb}
use borrow.Author.Tests.{eq-eqb, ne_eqb}
use Rattle.laws_words.specs.Words.{pick}
use Rattle.laws_words.specs.Tests.{clash, by_cases}
use Rattle.rules_base.specs.Sets.{with, without, lowest_to}
use Rattle.rules_base.proofs.Sets.{has-below, has-with-same, has-with-other, has-without-other, still, with-lt, without-lt}
use Rattle.rules_pool.specs.declared.State.{State}
use Rattle.rules_pool.specs.declared.Session.{Session}
use Rattle.rules_pool.specs.declared.Roster.{Roster}
use Rattle.rules_pool.specs.declared.Kind.{Kind}
use Rattle.rules_pool.specs.declared.Pool.{Pool}
use Rattle.rules_pool.specs.Session.{is_free, is_normal, is_failed, is_removing, is_told}
use Rattle.rules_pool.specs.Sessions.{session_at, stored, ids_of}
use Rattle.rules_pool.specs.Changes.{more}
use Rattle.laws_client.proofs.Ids.{Long, below, kind_at, ids-has, ids-lt, stored_same, stored_other}
use Rattle.laws_client.proofs.Rosters.{Ok, below_top}
use Rattle.theorem_client_exact.specs.Words.{In, Normal, state_of}
use Rattle.theorem_client_exact.specs.Fields.{Told, Holds}
use Rattle.theorem_client_exact.proofs.Tells.{Tells, free-is, normal-is, failed-is, removing-is}

-- ---- one record rewritten

pub stored_at : (ro : Roster) (id : ℕ) (s : Session) → Long ro → id < 16 → (j : ℕ) → session_at (stored ro id s) j ≡ pick (eqb j id) s (session_at ro j)
stored_at ro id s l h j = elim (ℕ_discrete j id) [
  | yes e ↦ rw (e, eq-eqb id id refl) (stored_same ro id s l h)
  | no d ↦ rw (ne_eqb j id d) (stored_other ro id s j d)
]

-- one record is said, every other stays
pub one-said : (ro ro' : Roster) (id : ℕ) (s : Session) → session_at ro' id ≡ s → ((j : ℕ) → j ≢ id → session_at ro' j ≡ session_at ro j) → (j : ℕ) → session_at ro' j ≡ pick (eqb j id) s (session_at ro j)
one-said ro ro' id s here other j = elim (ℕ_discrete j id) [
  | yes e ↦ rw (e, eq-eqb id id refl) here
  | no d ↦ rw (ne_eqb j id d) (other j d)
]

-- a record by its fields
pub fields-same : (s t : Session) → s.state ≡ t.state → s.maintenance ≡ t.maintenance → s.mark ≡ t.mark → s ≡ t
fields-same s t a b c = λ i. record { state = a i; maintenance = b i; mark = c i }

pub and-true : (b : Bool) → (b && true) ≡ b
and-true true = refl
and-true false = refl

-- ---- sets

pub same : {a : Type 0} → a ↔ a
same = (λ x. x, λ x. x)

pub as_it_was : (s : ℕ) → s < 65536 → Holds s (In s)
as_it_was s h = record { ids = omega (arith, h); are = λ id. same }

pub one_more : (s k : ℕ) → s < 65536 → k < 16 → Holds (with s k) (λ j. (j ≡ k) ⊎ In s j)
one_more s k b h = record { ids = omega (arith, with-lt s k b); are = λ j. (to j (ℕ_discrete j k), from j (ℕ_discrete j k)) }
  where
    to : (j : ℕ) → Dec (j ≡ k) → In (with s k) j → (j ≡ k) ⊎ In s j
    to j (yes e) x = inl e
    to j (no d) x = inr (sym (has-with-other s k j d) ∙ x)

    from : (j : ℕ) → Dec (j ≡ k) → (j ≡ k) ⊎ In s j → In (with s k) j
    from j (yes e) x = rw e (has-with-same s k h)
    from j (no d) (inl e) = absurd (d e)
    from j (no d) (inr x) = has-with-other s k j d ∙ x

-- a set read off the sessions
pub read_off : (k : Kind) (ro : Roster) (who : ℕ → Type 0) → Long ro → ((j : ℕ) → Tells (kind_at k ro j (session_at ro j)) (who j)) → ((j : ℕ) → who j → j < 16) → Holds (ids_of k ro) who
read_off k ro who l t b =
    record {
      ids = omega (arith, ids-lt k ro l);
      are = λ j. ((λ x. (t j).true-then (sym (ids-has k ro l j (has-below (ids_of k ro) j x)) ∙ x)), λ w. ids-has k ro l j (b j w) ∙ (t j).then-true w);
    }

pub normals : (p : Pool) → Long p.roster → Holds (ids_of Kind.Normals p.roster) (Normal p)
normals p l = read_off Kind.Normals p.roster (Normal p) l (λ j. normal-is (state_of p j)) (λ j n. below (λ s. is_normal s.state) p.roster j l refl (ap is_normal n))

-- who is told: a session that is not FAILED or REMOVING
told_is : (st : State) → is_told st ≡ true → (is_free st ≡ false) × (is_failed st ≡ false) × (is_removing st ≡ false)
told_is State.Free e = clash e refl
told_is State.Created e = (refl, refl, refl)
told_is State.Normal e = (refl, refl, refl)
told_is (State.Failed cause) e = clash e refl
told_is State.Reconnecting e = (refl, refl, refl)
told_is (State.Removing m owed) e = clash e refl

is-told : (st : State) → is_free st ≡ false → is_failed st ≡ false → is_removing st ≡ false → is_told st ≡ true
is-told State.Free a b c = clash refl a
is-told State.Created a b c = refl
is-told State.Normal a b c = refl
is-told (State.Failed cause) a b c = clash refl b
is-told State.Reconnecting a b c = refl
is-told (State.Removing m owed) a b c = clash refl c

is-off : {b : Bool} {h : Type 0} → Tells b h → ¬ h → b ≡ false
is-off {b} t n = by_cases b (λ e. absurd (n (t.true-then e))) (λ e. e)

told-so : (p : Pool) (id j : ℕ) → j ≢ id → is_told (state_of p j) ≡ true → Told p id j
told-so p id j d e =
    let q = told_is (state_of p j) e in
    record {
      other = d;
      held = λ x. clash ((free-is (state_of p j)).then-true x) q.0;
      failed = λ x. clash ((failed-is (state_of p j)).then-true x) q.1;
      removing = λ x. clash ((removing-is (state_of p j)).then-true x) q.2;
    }

so-told : (p : Pool) (id j : ℕ) → Told p id j → is_told (state_of p j) ≡ true
so-told p id j t = is-told (state_of p j) (is-off (free-is (state_of p j)) t.held) (is-off (failed-is (state_of p j)) t.failed) (is-off (removing-is (state_of p j)) t.removing)

told_below : (p : Pool) (j : ℕ) → Long p.roster → is_told (state_of p j) ≡ true → j < 16
told_below p j l e = below (λ s. is_told s.state) p.roster j l refl e

pub tolds : (p : Pool) (id : ℕ) → Long p.roster → Holds (without (ids_of Kind.Told p.roster) id) (Told p id)
tolds p id l =
    record {
      ids = omega (arith, without-lt (ids_of Kind.Told p.roster) id (ids-lt Kind.Told p.roster l));
      are = λ j. (to j, from j);
    }
  where
    to : (j : ℕ) → In (without (ids_of Kind.Told p.roster) id) j → Told p id j
    to j x = let q = still (ids_of Kind.Told p.roster) id j x in told-so p id j q.1 (sym (ids-has Kind.Told p.roster l j (has-below (ids_of Kind.Told p.roster) j q.0)) ∙ q.0)

    from : (j : ℕ) → Told p id j → In (without (ids_of Kind.Told p.roster) id) j
    from j t = let e = so-told p id j t in has-without-other (ids_of Kind.Told p.roster) id j t.other ∙ (ids-has Kind.Told p.roster l j (told_below p j l e) ∙ e)

-- the same where id has no session
pub tolds-all : (p : Pool) (id : ℕ) → Long p.roster → is_free (state_of p id) ≡ true → Holds (ids_of Kind.Told p.roster) (Told p id)
tolds-all p id l f =
    read_off Kind.Told p.roster (Told p id) l
    (λ j. record { true-then = λ e. told-so p id j (λ q. clash (ap (λ (i : ℕ). is_free (state_of p i)) q ∙ f) (told_is (state_of p j) e).0) e; then-true = so-told p id j })
    (λ j t. told_below p j l (so-told p id j t))

-- ---- the lowest

pub lowest-same : (p q : ℕ → Bool) (n : ℕ) → ((j : ℕ) → j < n → p j ≡ q j) → lowest_to p n ≡ lowest_to q n
lowest-same p q zero f = refl
lowest-same p q (suc n) f = rw (f n (omega arith), lowest-same p q n (λ j h. f j (omega arith))) refl

-- ---- numbers

-- in a pool that counts somebody is NORMAL: there is room for the version
pub rises : (ro : Roster) → Ok ro → 1 ≤ ro.count → more ro.version ≡ ro.version + 1
rises ro v h = below_top ro.version (omega (arith, v.high))
