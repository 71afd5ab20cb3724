-- Extend: a leg is added.
use mathlib.Core.Path.{◌≡◌, refl, sym, ap, ◌∙◌, subst}
use mathlib.Core.Bool.{Bool, true}
use Prim.Native.Nat.{ℕ}
use borrow.Author.Tests.{eqb-false}
use Rattle.rules_base.specs.Sets.{has, lowest}
use Rattle.rules_base.proofs.Sets.{has-with-same, has-with-other, lowest-in}
use Rattle.rules_pool.specs.declared.Job.{Job}
use Rattle.rules_pool.specs.declared.Pool.{Pool}
use Rattle.rules_pool.specs.Past.{in_service}
use Rattle.rules_pool.specs.declared.Kind.{Kind}
use Rattle.rules_pool.specs.Sessions.{ids_of}
use Rattle.rules_pool.specs.Recovery.{with_roster, tried}
use Rattle.rules_client.specs.Extend.{picked, extend_refusal, extended, extend_done, extend}
use Rattle.laws_client.proofs.ExtendingKept.{Picks, picks, extend-passed, extend-keeps, extended-at, extended-other, extended-numbers}
use Rattle.theorem_honest.proofs.Began.{some-lowest}
use Rattle.laws_client.proofs.Ids.{ids-lt}
use Rattle.laws_client.proofs.Rosters.{Ok}
use Rattle.laws_client.proofs.Tried.{tried-roster}
use Rattle.laws_client.proofs.Pools.{Valid}
use Rattle.model_pool.specs.Model as m
use Rattle.model_pool.specs.Steps as s
use Rattle.model_pool.proofs.Ground.{split, upd_same, upd_other}
use Rattle.model_pool.specs.Mirror.{Sees, Shows}
use Rattle.model_pool.proofs.Sessions.{ups, of-kind, is-gone}
use Rattle.model_pool.proofs.Turns.{idle-is, idle-hand}
use Rattle.model_pool.specs.Alters.{Alters}
use Rattle.model_pool.proofs.Joins.{free-unmarked, tried-on}

module _ (p : Pool) (sound : Bool) (w : m.World) (v : Valid p) (k : Shows p w) (z : extend_refusal p sound ≡ 0) (zero : w.nodes.ver (picked p.roster) ≡ 0) where
  abbrev x : ℕ
  x = picked p.roster

  abbrev new : Pool
  new = with_roster p (extended p.roster x)

  pub picks-it : Picks p.roster x
  picks-it = picks p.roster v.ok.long (extend-passed p sound z).some

  idle : p.job ≡ Job.Idle
  idle = idle-is p.job (extend-passed p sound z).idle

  new_ok : Ok (extended p.roster x)
  unfolding extend extend_done
  new_ok = subst Ok (tried-roster new) (rw z at (extend-keeps p sound v)).ok

  extended-past : (extended p.roster x).past ≡ p.roster.past
  unfolding extended
  extended-past = refl

  some-normal : has (ids_of Kind.Normals p.roster) (lowest (ids_of Kind.Normals p.roster)) ≡ true
  some-normal = lowest-in (ids_of Kind.Normals p.roster) (some-lowest (ids_of Kind.Normals p.roster) (ids-lt Kind.Normals p.roster v.ok.long) (eqb-false (ids_of Kind.Normals p.roster) 0 (extend-passed p sound z).normal))

  sees : Sees (extended p.roster x) (s.extended x w).pool
  sees =
      let n = extended-numbers p.roster x in
      record {
        ses = λ j. split j x
            (λ q. rw (q, extended-at p.roster x v.ok.long picks-it.below, upd_same w.pool.ses x m.Session.Again))
            (λ q. rw (extended-other p.roster x j q, upd_other w.pool.ses x j m.Session.Again q) (k.sees.ses j));
        mark = λ j. split j x
            (λ q. rw (q, extended-at p.roster x v.ok.long picks-it.below) (sym (free-unmarked p.roster x v.ok picks-it.below picks-it.free) ∙ k.sees.mark x))
            (λ q. rw (extended-other p.roster x j q) (k.sees.mark j));
        mem = λ j. ap (λ (i : ℕ). has i j) n.held ∙ split j x
            (λ q. rw (q, upd_same w.pool.mem x true) (has-with-same p.roster.members x picks-it.below))
            (λ q. rw (upd_other w.pool.mem x j true q) (has-with-other p.roster.members x j q ∙ k.sees.mem j));
        version = n.versioned ∙ k.sees.version;
        closed = ap in_service extended-past ∙ k.sees.closed;
      }

  pub extends : Alters (tried new).pool (tried new).awaited w (s.extended x w).nodes (s.extended x w).past
  extends =
      tried-on new w (s.extended x w)
      (s.more (s.here w) (s.Next.Extend x (lowest (ids_of Kind.Normals p.roster)) (sym (idle-hand p w.hand idle k.works))
      (ups p.roster w.pool k.sees (lowest (ids_of Kind.Normals p.roster)) ∙ of-kind p.roster w.pool k.sees Kind.Normals v.ok.long (lowest (ids_of Kind.Normals p.roster)) some-normal)
      (sym (k.sees.mem x) ∙ picks-it.outside) (is-gone p.roster w.pool k.sees x picks-it.free) zero))
      idle new_ok sees (idle-hand p w.hand idle k.works)
