-- The auditor accepts exactly the good logs, and names the first record that is not so otherwise; a log in parts.
use Rattle.std.specs.Prelude.{Option, Some, None, Result, Ok, Err, is_ok}
use mathlib.Core.Path.{◌≡◌, refl, sym, ap, subst, ◌∙◌}
use mathlib.Core.Bool.{Bool, true, false, true≢false}
use mathlib.Core.Logic.{inl, inr}
use mathlib.Core.List.{List, [], ◌∷◌}
use Prim.Native.Nat.{ℕ, zero, suc, ◌+◌, ◌≤◌, ◌<◌}
use native.Mathlib.Omega.{arith}
use lib.Dec.{ltb}
use lib.ListN.{length, take}
use borrow.Author.Tests.{lt-ltb, ltb-true, ltb-false}
use Rattle.laws_words.specs.Tests.{by_cases}
use Rattle.rules_base.specs.Limits.{chunk_limit}
use Rattle.rules_pool.specs.declared.Answer.{Answer}
use Rattle.rules_pool.specs.declared.Pool.{Pool}
use Rattle.rules_client.specs.Client.{fresh_pool}
use Rattle.audit_record.specs.declared.records.Record.{Record}
use Rattle.audit_record.specs.declared.records.Logged.{Logged}
use Rattle.audit_record.specs.Records.{record_of, event_in, same_record, most, place_after}
use Rattle.audit_replay.specs.Replay.{taken}
use Rattle.audit_replay.specs.declared.auditing.Walk.{Walk}
use Rattle.audit_replay.specs.declared.auditing.Verdict.{Verdict}
use Rattle.audit_replay.specs.Audit.{judged, checked_as, checked, turned_from, turned, walked, verdict_of}
use Rattle.audit_list.specs.Start.{started}
use Rattle.audit_proof.specs.Logs.{So, Log, GoodLog}
use Rattle.audit_proof.specs.Exact as Exact
use Rattle.audit_proof.proofs.Back.{event-back, same_self, same-is}

-- ---- a record is so exactly where the step takes it

-- the record is so, and this is the pool after it
abbrev SoTo : ℕ → Pool → Record → Pool → Type 0
SoTo n p r q = (x : So n p r) × (q ≡ (taken x.event p).pool)

judged-so : (p q : Pool) (n : ℕ) (r : Record) (e : Logged) (a : Answer) → (taken e p).answer ≡ a → judged p n r e a (taken e p).pool ≡ Ok q → SoTo n p r q
judged-so p q n r e (Answer.Refused k) ea t = cc t
judged-so p q n r e (Answer.Done s) ea t =
    by_cases (same_record r (record_of n e s.outcome (taken e p).pool.roster))
    (λ z. let u : Ok (taken e p).pool ≡ Ok q = rw z at t in (record { event = e; sent = s; accepted = ea; written = same-is r _ z }, cc u))
    (λ z. let u : Err p ≡ Ok q = rw z at t in cc u)

named-so : (m : Option Logged) (p q : Pool) (n : ℕ) (r : Record) → checked_as m p n r ≡ Ok q → SoTo n p r q
named-so None p q n r t = cc t
named-so (Some e) p q n r t = judged-so p q n r e (taken e p).answer refl t

checked-so : (p q : Pool) (n : ℕ) (r : Record) → checked p n r ≡ Ok q → SoTo n p r q
unfolding checked
checked-so p q n r t = named-so (event_in r) p q n r t

so-checked : (p : Pool) (n : ℕ) (r : Record) (x : So n p r) → checked p n r ≡ Ok (taken x.event p).pool
unfolding checked
so-checked p n r x =
    let e : event_in r ≡ Some x.event = ap event_in x.written ∙ event-back n x.event x.sent.outcome (taken x.event p).pool.roster in
    let z : same_record r (record_of n x.event x.sent.outcome (taken x.event p).pool.roster) ≡ true =
    ap (λ (s : Record). same_record s (record_of n x.event x.sent.outcome (taken x.event p).pool.roster)) x.written ∙ same_self _ in
    rw (e, x.accepted, z) refl

-- ---- the walk

-- n records were so, and left p
abbrev at : ℕ → Pool → Walk
at n p = record { place = n; pool = Ok p }

pub place-after : (n : ℕ) → n < most → place_after n ≡ suc n
unfolding place_after
place-after n h = rw (lt-ltb n most h) (omega arith)

turned-is : (n : ℕ) (p : Pool) (r : Record) → n < most → turned (at n p) r ≡ record { place = suc n; pool = checked p (suc n) r }
unfolding turned
turned-is n p r h = rw (place-after n h) refl

turned-stuck : (w : Walk) (p : Pool) (r : Record) → w.pool ≡ Err p → turned w r ≡ w
unfolding turned
turned-stuck w p r e = ap (λ (o : Result Pool Pool). turned_from o w r) e

stuck : (w : Walk) (p : Pool) (rs : List Record) → w.pool ≡ Err p → walked w rs ≡ w
unfolding walked
stuck w p [] e = refl
stuck w p (r ∷ rs) e = ap (λ (v : Walk). walked v rs) (turned-stuck w p r e) ∙ stuck w p rs e

data Goes (n : ℕ) (p : Pool) (rs : List Record) (w : Walk) : Type 0 where
  all : Log n p rs → is_ok w.pool ≡ true → w.place ≡ n + length rs → Goes n p rs w
  stops : (k : ℕ) → k < length rs → Log n p (take k rs) → (Log n p (take (suc k) rs) → ⊥) → is_ok w.pool ≡ false → w.place ≡ suc (n + k) → Goes n p rs w

-- a record is so to one pool
one_pool : (o : Result Pool Pool) (p q : Pool) → o ≡ Ok p → o ≡ Ok q → p ≡ q
one_pool o p q e f = cc

-- a record that is so stands before them
goes-more : (n : ℕ) (p q : Pool) (r : Record) (rs : List Record) (w : Walk) → checked p (suc n) r ≡ Ok q → Goes (suc n) q rs w → Goes n p (r ∷ rs) w
goes-more n p q r rs w t (Goes.all l e f) =
    let x = checked-so p q (suc n) r t in
    Goes.all (x.0, subst (λ (q : Pool). Log (suc n) q rs) x.1 l) e (omega (arith, f))
goes-more n p q r rs w t (Goes.stops k h l m e f) =
    let x = checked-so p q (suc n) r t in
    Goes.stops (suc k) (omega (arith, h)) (x.0, subst (λ (q : Pool). Log (suc n) q (take k rs)) x.1 l)
    (λ y. m (subst (λ (q : Pool). Log (suc n) q (take (suc k) rs)) (one_pool _ _ q (so-checked p (suc n) r y.0) t) y.1))
    e (omega (arith, f))

goes-on : (n : ℕ) (p : Pool) (r : Record) (rs : List Record) → n < most → ((q : Pool) → Goes (suc n) q rs (walked (at (suc n) q) rs)) → (o : Result Pool Pool) → checked p (suc n) r ≡ o → Goes n p (r ∷ rs) (walked (turned (at n p) r) rs)
goes-on n p r rs h m (Err x) t =
    let v : Walk = record { place = suc n; pool = Err x } in
    let e : turned (at n p) r ≡ v = turned-is n p r h ∙ ap (λ (o : Result Pool Pool). record { place = suc n; pool = o }) t in
    subst (Goes n p (r ∷ rs)) (sym (ap (λ (w : Walk). walked w rs) e ∙ stuck v x rs refl))
    (Goes.stops 0 (omega arith) tt (λ y. let z : Err x ≡ Ok (taken y.0.event p).pool = sym t ∙ so-checked p (suc n) r y.0 in cc z) refl (omega arith))
goes-on n p r rs h m (Ok q) t =
    let e : turned (at n p) r ≡ at (suc n) q = turned-is n p r h ∙ ap (λ (o : Result Pool Pool). record { place = suc n; pool = o }) t in
    subst (λ (w : Walk). Goes n p (r ∷ rs) (walked w rs)) (sym e) (goes-more n p q r rs _ t (m q))

goes : (n : ℕ) (p : Pool) (rs : List Record) → n + length rs ≤ most → Goes n p rs (walked (at n p) rs)
unfolding walked
goes n p [] h = Goes.all tt refl (omega arith)
goes n p (r ∷ rs) h = goes-on n p r rs (omega (arith, h)) (λ q. goes (suc n) q rs (omega (arith, h))) (checked p (suc n) r) refl

-- ---- what it says

-- the pool of a log's start
abbrev first : Pool
first = fresh_pool false chunk_limit

log-less : (k m n : ℕ) (p : Pool) (rs : List Record) → k ≤ m → Log n p (take m rs) → Log n p (take k rs)
log-less zero m n p rs h l = tt
log-less (suc k) zero n p rs h l = absurd (omega (arith, h))
log-less (suc k) (suc m) n p [] h l = tt
log-less (suc k) (suc m) n p (r ∷ rs) h l = (l.0, log-less k m (suc n) (taken l.0.event p).pool rs (omega (arith, h)) l.1)

log-take : (k n : ℕ) (p : Pool) (rs : List Record) → Log n p rs → Log n p (take k rs)
log-take zero n p rs l = tt
log-take (suc k) n p [] l = tt
log-take (suc k) n p (r ∷ rs) l = (l.0, log-take k (suc n) (taken l.0.event p).pool rs l.1)

-- the place of the first that is not so is one
one_place : (rs : List Record) (k m : ℕ) → Exact.FirstWrong rs k → Exact.FirstWrong rs m → k < m → ⊥
one_place rs k m x y h = x.not_so (log-less (suc k) m 0 first rs (omega (arith, h)) y.before)

same_place : (rs : List Record) (k m : ℕ) → Exact.FirstWrong rs k → Exact.FirstWrong rs m → k ≡ m
same_place rs k m x y =
    by_cases (ltb k m)
    (λ t. absurd (one_place rs k m x y (ltb-true k m t)))
    (λ t. by_cases (ltb m k) (λ u. absurd (one_place rs m k y x (ltb-true m k u))) (λ u. omega (arith, ltb-false k m t, ltb-false m k u)))

abbrev is_wrong : Verdict → Bool
is_wrong (Verdict.Accepted n) = false
is_wrong (Verdict.Wrong n) = true

abbrev place_in : Verdict → ℕ
place_in (Verdict.Accepted n) = n
place_in (Verdict.Wrong n) = n

apart : {n k : ℕ} → Verdict.Accepted n ≡ Verdict.Wrong k → ⊥
apart e = true≢false (sym (ap is_wrong e))

accepting : (rs : List Record) (v : Verdict) → GoodLog rs → v ≡ Verdict.Accepted (length rs) → Exact.Says rs v
accepting rs v l e =
    record {
      one = inl e;
      accepts = λ _. l;
      accepted = λ _. e;
      names = λ k u. absurd (apart (sym e ∙ u));
      named = λ k x. absurd (x.not_so (log-take (suc k) 0 first rs l));
    }

naming : (rs : List Record) (v : Verdict) (k : ℕ) → Exact.FirstWrong rs k → v ≡ Verdict.Wrong (suc k) → Exact.Says rs v
naming rs v k x e =
    record {
      one = inr (k, e);
      accepts = λ u. absurd (apart (sym u ∙ e));
      accepted = λ l. absurd (x.not_so (log-take (suc k) 0 first rs l));
      names = λ m u. let q : suc k ≡ suc m = ap place_in (sym e ∙ u) in subst (Exact.FirstWrong rs) (omega (arith, q)) x;
      named = λ m y. e ∙ ap (λ (i : ℕ). Verdict.Wrong (suc i)) (same_place rs k m x y);
    }

says_of : (rs : List Record) (w : Walk) → Goes 0 first rs w → Exact.Says rs (verdict_of w)
unfolding verdict_of
says_of rs w (Goes.all l e f) =
    let q : w.place ≡ length rs = omega (arith, f) in
    accepting rs (verdict_of w) l (rw (e, q) refl)
says_of rs w (Goes.stops k h l m e f) =
    let q : w.place ≡ suc k = omega (arith, f) in
    naming rs (verdict_of w) k (record { there = h; before = l; not_so = m }) (rw (e, q) refl)

pub exact : Exact.Exact
exact rs h = says_of rs (walked started rs) (goes 0 first rs (omega (arith, h)))

pub in_parts : Exact.InParts
unfolding walked
in_parts w [] ys = refl
in_parts w (r ∷ xs) ys = in_parts (turned w r) xs ys
