-- Demand 3, first half.
use Rattle.std.specs.Prelude.{Some}
use mathlib.Core.Path.{◌≡◌, refl, sym, ap, ◌∙◌}
use mathlib.Core.Bool.{true, false, not, ◌&&◌, ◌||◌}
use mathlib.Core.List.{List}
use Prim.Native.Nat.{ℕ, ◌+◌}
use native.Mathlib.Omega.{arith}
use lib.Dec.{eqb}
use borrow.Author.Tests.{eq-eqb}
use Rattle.laws_words.specs.Tests.{by_cases, clash, and-false}
use Rattle.rules_pool.specs.declared.Roster.{Roster}
use Rattle.rules_pool.specs.declared.Run.{Run}
use Rattle.rules_pool.specs.declared.Job.{Job}
use Rattle.rules_pool.specs.declared.Pool.{Pool}
use Rattle.rules_pool.specs.declared.Outcome.{Outcome}
use Rattle.rules_pool.specs.declared.Turn.{Turn}
use Rattle.rules_pool.specs.Jobs.{is_running}
use Rattle.rules_pool.specs.Run.{receiver}
use Rattle.rules_pool.specs.Still.{possible}
use Rattle.rules_pool.specs.Cases.{begun}
use Rattle.rules_pool.specs.Recovery.{with_roster, jobless, tried, disabling_but}
use Rattle.rules_pool.specs.Exit.{number_of}
use Rattle.laws_client.proofs.Tried.{tried-roster}
use Rattle.rules_client.specs.Links.{down_at}
use Rattle.rules_pool.specs.Breaking.{is_accepted}
use Rattle.rules_client.specs.Events.{Event, turn_of, next}
use Rattle.theorem_client.specs.Reading.{is_answer}
use Rattle.theorem_client.specs.Demand1.{Verdict}
use Rattle.theorem_client.specs.Demand2.{Reached}
use Rattle.theorem_client.proofs.Shape.{why_not}
use Rattle.theorem_client.proofs.Law.{law}
use Rattle.theorem_client.proofs.Tries.{ByTrial}
use Rattle.theorem_client.proofs.Demand1.{demand-1, refused-turn}
use Rattle.theorem_client.proofs.Demand2.{reached-valid}
use Rattle.theorem_bounds.specs.Demand3.{cuts_off, through, awaited_answers, last_count, during, most, Begins, tried_in, Afresh, Barred, Bounded, AtMost, NoneLost, Enough, cut_pool, CutOff}
use Rattle.theorem_bounds.proofs.Begin.{trial-run, answer-calm, begun-most}
use Rattle.theorem_bounds.proofs.Course.{Course, InHand, course, stands_on, took-turn, cut-turn, not-refused, ends}

-- ---- how it begins

-- a refused event leaves the run that was in hand
accepts : (c : Pool) (e : Event) (r : Run) → Begins c e r → is_accepted (turn_of e c).answer ≡ true
accepts c e r b = at (demand-1 e c)
  where
    at : Verdict e c → is_accepted (turn_of e c).answer ≡ true
    at (Verdict.refused n p h) =
        let was : is_running c.job ≡ true = ap is_running (sym (ap (λ (x : Pool). x.job) h.pool) ∙ b.run) in
        let old : (not (is_running c.job) || cuts_off e c) ≡ false = rw (was, p) refl in
        clash b.new old
    at (Verdict.done s p h) = ap is_accepted p

no_answer : (c : Pool) (e : Event) (r : Run) → Begins c e r → is_answer e ≡ false
no_answer c (Event.join_create id) r b = refl
no_answer c (Event.join_assemble id set version) r b = refl
no_answer c (Event.enable id) r b = refl
no_answer c (Event.maintenance id) r b = refl
no_answer c (Event.link_down id) r b = refl
no_answer c (Event.store_check id) r b = refl
no_answer c (Event.rejoin id) r b = refl
no_answer c Event.try_run r b = refl
no_answer c (Event.remove xs id mode) r b = refl
no_answer c (Event.write xs chunk reached) r b = refl
no_answer c (Event.synced xs member chunk) r b = refl
no_answer c (Event.extend xs) r b = refl
no_answer c (Event.answer xs number a) r b =
    by_cases (is_running c.job)
    (λ q. clash b.new (let z : (not (is_running c.job) || cuts_off (Event.answer xs number a) c) ≡ false = rw (q, and-false (is_accepted (turn_of (Event.answer xs number a) c).answer)) refl in z))
    (λ q. clash (ap is_running b.run) (answer-calm c xs number a q))

pub afresh : Afresh
afresh c e r b =
    record {
      event = no_answer c e r b;
      case = case;
      count = (begun-most (next e c).roster r (reached-valid (next e c) (Reached.then c e b.reached)).ok case).1;
      pool = pool ∙ ap (λ (p : Pool). (tried p).pool) same;
      sent = record { outcome = t.outcome; told = t.told; awaited = (tried t.after).awaited; number = number_of (tried t.after).awaited (tried t.after).pool.number };
      accepted = ap (λ (u : Turn). u.answer) t.turn;
      awaited = ap (λ (p : Pool). (tried p).awaited) same;
      number = ap (λ (p : Pool). number_of (tried t.after).awaited p.number) (sym pool);
    }
  where
    t : ByTrial c (turn_of e c)
    t = (law e c).tries (no_answer c e r b) (accepts c e r b) (ap is_running b.run)

    pool : next e c ≡ (tried t.after).pool
    pool = ap (λ (u : Turn). u.pool) t.turn

    roster : t.after.roster ≡ (next e c).roster
    roster = sym (tried-roster t.after) ∙ sym (ap (λ (p : Pool). p.roster) pool)

    same : t.after ≡ tried_in e c
    same = t.idle ∙ ap (λ (ro : Roster). jobless (with_roster c ro)) roster

    case : begun (next e c).roster ≡ Some r
    case = sym (ap begun roster) ∙ trial-run t.after r (ap (λ (p : Pool). is_running p.job) t.idle) (sym (ap (λ (p : Pool). p.job) pool) ∙ b.run)

-- ---- the bound

pub barred : Barred
barred c r q e a d = at (demand-1 e c)
  where
    at : Verdict e c → (is_accepted (turn_of e c).answer ≡ false) × (next e c ≡ c)
    at (Verdict.refused n p h) = (ap is_accepted p, h.pool)
    at (Verdict.done s p h) = clash ((law e c).six r q a d) (h 6 refl)

pub begin-hand : (c : Pool) (e : Event) (r : Run) → Begins c e r → InHand (next e c) r
begin-hand c e r b = record { valid = reached-valid (next e c) (Reached.then c e b.reached); job = b.run }

begin-most : (c : Pool) (e : Event) (r : Run) → Begins c e r → (possible (next e c).roster.members r ≡ most (next e c).roster) × (r.taken ≡ 0)
begin-most c e r b = begun-most (next e c).roster r (reached-valid (next e c) (Reached.then c e b.reached)).ok (afresh c e r b).case

pub at_most : AtMost
at_most c e r b es = put (during es (next e c)) (course es (next e c) r (begin-hand c e r b)) (begin-most c e r b)
  where
    put : (ds : List Event) → Course ds (next e c) r.taken (possible (next e c).roster.members r) → (possible (next e c).roster.members r ≡ most (next e c).roster) × (r.taken ≡ 0)
        → Bounded ds (next e c) (most (next e c).roster)
    put ds h q =
        let n = awaited_answers ds (next e c) in
        let t : r.taken + n ≡ n = omega (arith, q.1) in
        record {
          few = omega (arith, h.few, q.0);
          count = ap (λ (k : ℕ). last_count ds (next e c) k) (sym q.1) ∙ (h.count ∙ t);
          stands = λ u. stands_on (through ds (next e c)).job _ _ _ (most (next e c).roster) t (omega (arith, q.0, q.1)) (h.stands u);
        }

pub none-lost : NoneLost
none-lost c q r e xs s a =
    let h : InHand c r = record { valid = reached-valid c q; job = e } in
    ap (λ (u : Turn). is_accepted u.answer && true) (took-turn c r xs c.number a e (eq-eqb _ 0 (not-refused c r xs a h s)))

pub enough : Enough
enough c e r b xs s rs l = ends xs rs (next e c) r (begin-hand c e r b) s (omega (arith, (begin-most c e r b).0, l))

-- ---- a link down

-- a refused event is not accepted
none-refuses : (e : Event) (c : Pool) → is_accepted (turn_of e c).answer ≡ true → eqb (why_not e c) 0 ≡ true
none-refuses e c t = by_cases (eqb (why_not e c) 0) (λ z. z) (λ z. clash t (ap (λ (u : Turn). is_accepted u.answer) (refused-turn e c z)))

pub cut_off : CutOff
cut_off c q r e id t =
    record {
      sent = record { outcome = Outcome.Taken r.taken; told = disabling_but id (receiver r); awaited = (tried (cut_pool id c)).awaited; number = number_of (tried (cut_pool id c)).awaited (tried (cut_pool id c)).pool.number };
      accepted = ap (λ (u : Turn). u.answer) turn;
      count = refl;
      disable = refl;
      pool = pool;
      awaited = refl;
      number = ap (λ (p : Pool). number_of (tried (cut_pool id c)).awaited p.number) (sym pool);
      afresh = λ r' z. (afresh c (Event.link_down id) r' (record { reached = q; run = z; new = rw (t, e) refl })).count;
    }
  where
    turn : turn_of (Event.link_down id) c ≡ down_at (Job.Running r) c id
    turn = cut-turn c r id e (none-refuses (Event.link_down id) c t)

    pool : next (Event.link_down id) c ≡ (tried (cut_pool id c)).pool
    pool = ap (λ (u : Turn). u.pool) turn
