-- Recovery tried: nothing, or a run begins by one of the three cases.
use Rattle.std.specs.Prelude.{Option, Some, None}
use mathlib.Core.Path.{◌≡◌, refl, sym, ap, ◌∙◌, subst}
use mathlib.Core.Bool.{true, false, not}
use mathlib.Core.Logic.{◌≢◌}
use Prim.Native.Nat.{ℕ}
use lib.Dec.{eqb}
use borrow.Author.Tests.{eqb-true, eqb-false, not-false}
use Rattle.laws_words.specs.Tests.{by_cases}
use Rattle.rules_base.specs.Sets.{has, lowest}
use Rattle.rules_base.proofs.Sets.{lowest-in}
use Rattle.rules_pool.specs.declared.Job.{Job}
use Rattle.rules_pool.specs.declared.Run.{Run}
use Rattle.rules_pool.specs.declared.Message.{Message}
use Rattle.rules_pool.specs.declared.Pool.{Pool}
use Rattle.rules_pool.specs.declared.Kind.{Kind}
use Rattle.rules_pool.specs.Sessions.{ids_of}
use Rattle.rules_pool.specs.Run.{awaited_in}
use Rattle.rules_pool.specs.Cases.{begun}
use Rattle.rules_pool.specs.Recovery.{tried, posted, beginning, next_number}
use Rattle.laws_client.proofs.Ids.{ids-lt}
use Rattle.laws_client.proofs.Rosters.{Ok}
use Rattle.laws_client.proofs.Runs.{strays-none}
use Rattle.theorem_honest.proofs.Began.{begun-1, begun-2, begun-3, some-lowest, or-none}
use Rattle.model_pool.specs.Model as m
use Rattle.model_pool.specs.Steps as s
use Rattle.model_pool.specs.Mirror.{Sees, Goes, posts, rests}
use Rattle.model_pool.proofs.Sessions.{ups, is-again, of-kind}

-- the pool with the run in hand
abbrev pub runs : Pool → Run → Pool
runs p r = record { roster = p.roster; job = Job.Running r; number = next_number p.number; chunks = p.chunks }

module _ (p : Pool) (w : m.World) (v : Ok p.roster) (e : Sees p.roster w.pool) (z : m.Job.Idle ≡ w.hand.job) where
  abbrev Begins : Run → Type 0
  Begins r = Goes (runs p r) (awaited_in p.roster.members p.roster.version r) w

  in-kind : (k : Kind) → ids_of k p.roster ≢ 0 → has (ids_of k p.roster) (lowest (ids_of k p.roster)) ≡ true
  in-kind k n = lowest-in (ids_of k p.roster) (some-lowest (ids_of k p.roster) (ids-lt k p.roster v.long) n)

  is-candidate : (j : ℕ) → has (ids_of Kind.Candidates p.roster) j ≡ true → w.pool.ses j ≡ m.Session.Again
  is-candidate j h = is-again p.roster w.pool e j (of-kind p.roster w.pool e Kind.Candidates v.long j h)

  module _ (r : Run) (b : begun p.roster ≡ Some r) where
    try-1 : ids_of Kind.Normals p.roster ≢ 0 → Begins r
    try-1 x =
        let q = begun-1 p.roster r b x in
        subst Begins q.1 (record {
          to = s.awaits w (m.Job.Move m.Kind.Spread m.Step.Ready) (lowest (ids_of Kind.Normals p.roster)) (lowest (ids_of Kind.Candidates p.roster));
          course = s.more (s.here w) (s.Next.Try-1 (lowest (ids_of Kind.Normals p.roster)) (lowest (ids_of Kind.Candidates p.roster)) (sym z)
              (ups p.roster w.pool e (lowest (ids_of Kind.Normals p.roster)) ∙ of-kind p.roster w.pool e Kind.Normals v.long (lowest (ids_of Kind.Normals p.roster)) (in-kind Kind.Normals x))
              (is-candidate (lowest (ids_of Kind.Candidates p.roster)) (in-kind Kind.Candidates q.0)));
          sees = e;
          works = record { job = refl; src = refl; to = refl; asks = tt };
          sends = posts refl refl;
          nodes = refl;
          past = refl;
        })

    try-2 : ids_of Kind.Normals p.roster ≡ 0 → ids_of Kind.Marked p.roster ≢ 0 → Begins r
    try-2 x y =
        let q = begun-2 p.roster r b x y in
        subst Begins q.1 (record {
          to = s.awaits w m.Job.Enable (lowest (ids_of Kind.Marked p.roster)) (lowest (ids_of Kind.Marked p.roster));
          course = s.more (s.here w) (s.Next.Try-2 (lowest (ids_of Kind.Marked p.roster)) (sym z)
              (sym (e.mark (lowest (ids_of Kind.Marked p.roster))) ∙ of-kind p.roster w.pool e Kind.Marked v.long (lowest (ids_of Kind.Marked p.roster)) (in-kind Kind.Marked y))
              (is-candidate (lowest (ids_of Kind.Marked p.roster)) q.0));
          sees = e;
          works = record { job = refl; src = refl; to = refl; asks = tt };
          sends = posts refl refl;
          nodes = refl;
          past = refl;
        })

    try-3 : ids_of Kind.Normals p.roster ≡ 0 → ids_of Kind.Marked p.roster ≡ 0 → Begins r
    try-3 x y =
        let q = begun-3 p.roster r b x y in
        let o = or-none (eqb p.roster.members 0) _ q.0 in
        let i = lowest-in p.roster.members (some-lowest p.roster.members v.small (eqb-false p.roster.members 0 o.0)) in
        let f = strays-none p.roster p.roster.members v.long (eqb-true (ids_of (Kind.Strays p.roster.members) p.roster) 0 (not-false (eqb (ids_of (Kind.Strays p.roster.members) p.roster) 0) o.1)) in
        subst Begins q.1 (record {
          to = s.noted (s.awaits w m.Job.Get (lowest p.roster.members) (lowest p.roster.members)) (has p.roster.members) 0 false;
          course = s.more (s.here w) (s.Next.Try-3 (lowest p.roster.members) (lowest p.roster.members) 0 (has p.roster.members) (sym z)
              (sym (e.mem (lowest p.roster.members)) ∙ i)
              (λ k h. is-again p.roster w.pool e k (f k (e.mem k ∙ h)))
              (λ k h. e.mem k ∙ h));
          sees = e;
          works = record {
            job = refl;
            src = refl;
            to = refl;
            asks = record { left = λ k. refl; best = refl; chosen = ap not (sym i); first = λ h. (refl, refl) };
          };
          sends = posts refl refl;
          nodes = refl;
          past = refl;
        })

    began : Begins r
    began = by_cases (eqb (ids_of Kind.Normals p.roster) 0)
        (λ x. by_cases (eqb (ids_of Kind.Marked p.roster) 0)
        (λ y. try-3 (eqb-true _ _ x) (eqb-true _ _ y))
        (λ y. try-2 (eqb-true _ _ x) (eqb-false _ _ y)))
        (λ x. try-1 (eqb-false _ _ x))

  -- recovery tried, in a pool with no job in hand
  pub tries : p.job ≡ Job.Idle → Goes (tried p).pool (tried p).awaited w
  unfolding tried posted
  tries idle = go (begun p.roster) refl
    where
      go : (x : Option Run) → begun p.roster ≡ x → Goes (beginning (begun p.roster) p).pool (beginning (begun p.roster) p).awaited w
      go None b = rw b (record { to = w; course = s.here w; sees = e; works = rw idle z; sends = rests refl idle; nodes = refl; past = refl })
      go (Some r) b = rw b (began r b)

-- courses one after the other
pub joined : {u v w : m.World} → s.Course u v → s.Course v w → s.Course u w
joined k (s.here w) = k
joined k (s.more t n) = s.more (joined k t) n

-- what goes on after a course that leaves nodes and past alone
pub after : {q : Pool} {sent : Message} {u w : m.World} → s.Course u w → w.nodes ≡ u.nodes → w.past ≡ u.past → Goes q sent w → Goes q sent u
after k n p g = record {
  to = g.to;
  course = joined k g.course;
  sees = g.sees;
  works = g.works;
  sends = g.sends;
  nodes = g.nodes ∙ n;
  past = g.past ∙ p;
}
