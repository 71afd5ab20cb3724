-- An enabling message was answered well: its session becomes NORMAL, and the next receiver comes, or the run is over.
use Rattle.std.specs.Prelude.{Option, None}
use mathlib.Core.Path.{◌≡◌, refl, sym, ap, ◌∙◌, subst}
use mathlib.Core.Bool.{true, false}
use mathlib.Core.Logic.{◌≢◌}
use Prim.Native.Nat.{ℕ, ◌≤◌, ◌<◌}
use lib.Dec.{T, eqb}
use Rattle.laws_words.specs.Tests.{picked, and-false, by_cases, clash}
use Rattle.rules_base.specs.Limits.{version_limit}
use Rattle.rules_base.specs.Sets.{has, lowest}
use Rattle.rules_pool.specs.declared.Session.{Session}
use Rattle.rules_pool.specs.declared.Step.{Step}
use Rattle.rules_pool.specs.declared.Phase.{Phase}
use Rattle.rules_pool.specs.declared.Run.{Run}
use Rattle.rules_pool.specs.declared.Roster.{Roster}
use Rattle.rules_pool.specs.declared.Pool.{Pool}
use Rattle.rules_pool.specs.Session.{candidate}
use Rattle.rules_pool.specs.Sessions.{session_at}
use Rattle.rules_pool.specs.Changes.{entered}
use Rattle.rules_pool.specs.Run.{go, to_spread}
use Rattle.rules_pool.specs.Recovery.{with_roster, posted}
use Rattle.laws_client.proofs.Rosters.{Ok}
use Rattle.laws_client.proofs.Records.{entered_at}
use Rattle.laws_client.proofs.Runs.{AllCandidates, entered-other, entered-members, entered-version, entered-sync, candidate-enters, run_room}
use Rattle.model_pool.specs.Model as m
use Rattle.model_pool.specs.Invariant.{lander}
use Rattle.model_pool.specs.Steps as s
use Rattle.model_pool.proofs.Ground.{split, upd_same, upd_other}
use Rattle.model_pool.specs.Mirror.{Sees, posts, rests}
use Rattle.model_pool.proofs.Sessions.{is-again}
use Rattle.model_pool.proofs.Turns.{ended-sees}
use Rattle.model_pool.proofs.Enters.{GoesOn, first-in}

entered-past : (ro : Roster) (id : ℕ) → (entered ro id).past ≡ ro.past
unfolding entered
entered-past ro id = by_cases ro.sync (λ e. rw e refl) (λ e. rw e refl)

module _ (p : Pool) (w : m.World) (v : Ok p.roster) (y : p.roster.sync ≡ false) (e : Sees p.roster w.pool) (id : ℕ) (h : id < 16) (l : lander w.hand.job w.hand.src w.hand.to ≡ id) where
  entered-sees : Sees (entered p.roster id) (s.raised w).pool
  entered-sees = record {
    ses = λ j. split j id
        (λ q. rw (q, entered_at p.roster id v.long h, l, upd_same w.pool.ses id m.Session.Up))
        (λ q. rw (entered-other p.roster id j y q, l, upd_other w.pool.ses id j m.Session.Up q) (e.ses j));
    mark = λ j. split j id
        (λ q. rw (q, entered_at p.roster id v.long h) (and-false (session_at p.roster id).mark))
        (λ q. rw (entered-other p.roster id j y q));
    mem = λ j. rw (entered-members p.roster id) (e.mem j);
    version = entered-version p.roster id ∙ e.version;
    closed = rw (entered-past p.roster id) e.closed;
  }

  module _ (low : p.roster.version ≤ version_limit) (c : candidate (session_at p.roster id) ≡ true) (f : w.hand.fate ≡ m.Fate.Taken) (t : T (s.enables w.hand.job)) where
    enters-ok : Ok (entered p.roster id)
    enters-ok = candidate-enters p.roster id v y low h c

    -- others that were candidates still are
    others : (j : ℕ) → j ≢ id → candidate (session_at p.roster j) ≡ true → (s.raised w).pool.ses j ≡ m.Session.Again
    others j q k = is-again (entered p.roster id) (s.raised w).pool entered-sees j (ap (λ (x : Session). candidate x) (entered-other p.roster id j y q) ∙ k)

    pub becomes-normal : (r : Run) (left : ℕ) → r.source ≡ w.hand.src → left < 65536 → AllCandidates p.roster left → has left id ≡ false → GoesOn (to_spread r left) (with_roster p (entered p.roster id)) w
    unfolding posted
    becomes-normal r left src small k out =
        picked (λ (x : Option Run). GoesOn x (with_roster p (entered p.roster id)) w) (eqb left 0) None (go r (Phase.Spread Step.Ready) r.source left)
        (λ z. record {
          to = s.ended (s.raised w);
          course = s.more (s.here w) (s.Next.Good-over f t);
          sees = ended-sees (entered p.roster id) (s.raised w) entered-sees
              (run_room (entered p.roster id) enters-ok (entered-sync p.roster id y) (subst (λ (x : ℕ). x ≤ version_limit) (sym (entered-version p.roster id)) low));
          works = refl;
          sends = rests refl refl;
          nodes = refl;
          past = refl;
        })
        (λ z. let i = first-in left small z in record {
          to = s.awaits (s.raised w) (m.Job.Move m.Kind.Spread m.Step.Ready) w.hand.src (lowest left);
          course = s.more (s.here w) (s.Next.Good-up (lowest left) f t (others (lowest left) (λ q. clash i (rw q out)) (k (lowest left) i)));
          sees = entered-sees;
          works = record { job = refl; src = src; to = refl; asks = tt };
          sends = posts refl refl;
          nodes = refl;
          past = refl;
        })
