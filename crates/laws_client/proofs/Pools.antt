-- The state rules of a pool as facts.
use mathlib.Core.Path.{◌≡◌, refl}
use mathlib.Core.Bool.{true}
use Prim.Native.Nat.{◌≤◌, ◌<◌}
use borrow.Author.Tests.{le-leb, leb-true}
use Rattle.laws_words.specs.Tests.{all-at, and_left, and_right, and_both}
use Rattle.rules_base.specs.Limits.{chunk_limit}
use Rattle.rules_pool.specs.declared.Roster.{Roster}
use Rattle.rules_pool.specs.declared.Removal.{Removal}
use Rattle.rules_pool.specs.declared.Job.{Job}
use Rattle.rules_pool.specs.declared.Pool.{Pool}
use Rattle.rules_pool.specs.Session.{is_removing}
use Rattle.rules_pool.specs.Sessions.{session_at}
use Rattle.rules_pool.specs.StateRules.{stage_ok, job_ok, rules, valid_pool}
use Rattle.laws_client.proofs.Ids.{Long, below}
use Rattle.laws_client.proofs.Rosters.{Ok, ok-facts, ok_of}

pub record Valid (p : Pool) : Type 0 where
  pub some : 1 ≤ p.chunks
  pub most : p.chunks ≤ chunk_limit
  pub ok : Ok p.roster
  pub job : job_ok p.job p.roster ≡ true

-- the rules of a removal in hand
pub record RemovalOk (ro : Roster) (m : Removal) : Type 0 where
  pub below : m.id < 16
  pub removing : is_removing (session_at ro m.id).state ≡ true
  pub stage : stage_ok m.stage m.id ≡ true

pub removal-facts : (ro : Roster) (m : Removal) → Long ro → job_ok (Job.Removing m) ro ≡ true → RemovalOk ro m
removal-facts ro m l e =
    let r = and_left (is_removing (session_at ro m.id).state) _ e in
    record {
      below = below (λ s. is_removing s.state) ro m.id l refl r;
      removing = r;
      stage = and_right (is_removing (session_at ro m.id).state) _ e;
    }

-- a removal goes on by them where its session stays REMOVING
pub removal-stays : (ro ro' : Roster) (m : Removal) → Long ro → (is_removing (session_at ro m.id).state ≡ true → is_removing (session_at ro' m.id).state ≡ true)
    → job_ok (Job.Removing m) ro ≡ true → job_ok (Job.Removing m) ro' ≡ true
removal-stays ro ro' m l f e = let h = removal-facts ro m l e in and_both (f h.removing) h.stage

pub valid-facts : (p : Pool) → Long p.roster → valid_pool p ≡ true → Valid p
unfolding valid_pool
valid-facts p l e =
    record {
      some = leb-true _ _ (all-at (rules p) 0 e);
      most = leb-true _ _ (all-at (rules p) 1 e);
      ok = ok-facts p.roster l (all-at (rules p) 2 e);
      job = all-at (rules p) 3 e;
    }

pub valid-of : (p : Pool) → Valid p → valid_pool p ≡ true
unfolding valid_pool
valid-of p v = simp (le-leb _ _ v.some, le-leb _ _ v.most, ok_of p.roster v.ok, v.job)
