-- A run goes on to the first message of a turn or of a phase.
use Rattle.std.specs.Prelude.{Option, Some, None}
use mathlib.Core.Path.{◌≡◌, refl, sym}
use mathlib.Core.Bool.{true, false}
use Prim.Native.Nat.{ℕ, ◌<◌}
use lib.Dec.{T, eqb}
use borrow.Author.Tests.{eqb-false}
use Rattle.laws_words.specs.Tests.{picked}
use Rattle.rules_base.specs.Sets.{has, without, lowest}
use Rattle.rules_base.proofs.Sets.{lowest-in, without-lt, still}
use Rattle.rules_pool.specs.declared.Step.{Step}
use Rattle.rules_pool.specs.declared.Phase.{Phase}
use Rattle.rules_pool.specs.declared.Run.{Run}
use Rattle.rules_pool.specs.declared.Job.{Job}
use Rattle.rules_pool.specs.declared.Pool.{Pool}
use Rattle.rules_pool.specs.Run.{go, counted, to_spread, to_gather, to_last, to_base}
use Rattle.rules_pool.specs.Recovery.{posted, gone_on}
use Rattle.laws_client.proofs.Rosters.{Ok}
use Rattle.laws_client.proofs.Runs.{AllCandidates}
use Rattle.theorem_honest.proofs.Began.{some-lowest}
use Rattle.model_pool.specs.Model as m
use Rattle.model_pool.specs.Steps as s
use Rattle.model_pool.specs.Mirror.{Sees, phase_of, other_in, AsksIn, posts, Goes}
use Rattle.model_pool.proofs.Sessions.{is-again}

-- what a run that goes on, or is over, comes to
abbrev pub GoesOn : Option Run → Pool → m.World → Type 0
GoesOn n p w = Goes (gone_on n p).pool (gone_on n p).awaited w

-- the run that goes on
abbrev pub on : Run → Phase → ℕ → ℕ → Run
on r x source left = record { phase = x; source = source; left = left; taken = counted r.taken }

-- a set that is not empty has a lowest id
pub first-in : (l : ℕ) → l < 65536 → eqb l 0 ≡ false → has l (lowest l) ≡ true
first-in l h e = lowest-in l (some-lowest l h (eqb-false l 0 e))

-- w goes to u, from which the message may be sent
module _ (p : Pool) (w u : m.World) (src : ℕ) (v : Ok p.roster) (e : Sees p.roster u.pool) (n : u.nodes ≡ w.nodes) (q : u.past ≡ w.past)
    (launch : (j : m.Job) (to : ℕ) → T (s.enters j) → u.pool.ses to ≡ m.Session.Again → s.Course w (s.awaits u j src to)) where
  enter : (r : Run) → src ≡ r.source → T (s.enters (phase_of r.phase)) → u.pool.ses (other_in r.phase r) ≡ m.Session.Again → AsksIn r.phase r (s.awaits u (phase_of r.phase) src (other_in r.phase r)).hand → GoesOn (Some r) p w
  unfolding posted
  enter r f t a k = record {
    to = s.awaits u (phase_of r.phase) src (other_in r.phase r);
    course = launch (phase_of r.phase) (other_in r.phase r) t a;
    sees = e;
    works = record { job = refl; src = sym f; to = refl; asks = k };
    sends = posts refl refl;
    nodes = n;
    past = q;
  }

  able : (set : ℕ) → AllCandidates p.roster set → set < 65536 → eqb set 0 ≡ false → u.pool.ses (lowest set) ≡ m.Session.Again
  able set c h z = is-again p.roster u.pool e (lowest set) (c (lowest set) (first-in set h z))

  -- case 3: every member is a candidate
  module _ (r : Run) (c : AllCandidates p.roster p.roster.members) (own : has p.roster.members src ≡ true) where
    inside : (x : ℕ) → AllCandidates p.roster (without p.roster.members x)
    inside x j h = c j (still p.roster.members x j h).0

    pub enter-gather : (left : ℕ) → AllCandidates p.roster left → left < 65536 → GoesOn (to_gather p.roster.members r src left) p w
    enter-gather left k h = picked (λ (x : Option Run). GoesOn x p w) (eqb left 0) (go r (Phase.Enable true) src (without p.roster.members src)) (go r (Phase.Gather Step.Ready) src left)
        (λ z. enter (on r (Phase.Enable true) src (without p.roster.members src)) refl tt (is-again p.roster u.pool e src (c src own)) tt)
        (λ z. enter (on r (Phase.Gather Step.Ready) src left) refl tt (able left k h z) tt)

    pub enter-last : (left : ℕ) → AllCandidates p.roster left → left < 65536 → GoesOn (to_last p.roster.members r src left) p w
    enter-last left k h = picked (λ (x : Option Run). GoesOn x p w) (eqb left 0) (to_gather p.roster.members r src (without p.roster.members src)) (go r Phase.LastIo src left)
        (λ z. enter-gather (without p.roster.members src) (inside src) (without-lt p.roster.members src v.small))
        (λ z. enter (on r Phase.LastIo src left) refl tt (able left k h z) tt)

    pub enter-base : (left : ℕ) → AllCandidates p.roster left → left < 65536 → GoesOn (to_base p.roster.members r src left) p w
    enter-base left k h = picked (λ (x : Option Run). GoesOn x p w) (eqb left 0) (to_last p.roster.members r src p.roster.members) (go r (Phase.Base Step.Ready) src left)
        (λ z. enter-last p.roster.members c v.small)
        (λ z. enter (on r (Phase.Base Step.Ready) src left) refl tt (able left k h z) tt)

  -- the next receiver of an enabling spread, or the end
  pub enter-spread : (r : Run) (left : ℕ) → src ≡ r.source → AllCandidates p.roster left → left < 65536 → GoesOn None p w → GoesOn (to_spread r left) p w
  enter-spread r left f k h o = picked (λ (x : Option Run). GoesOn x p w) (eqb left 0) None (go r (Phase.Spread Step.Ready) r.source left)
      (λ z. o)
      (λ z. enter (on r (Phase.Spread Step.Ready) r.source left) f tt (able left k h z) tt)
