-- A node's own events keep the invariant.
use mathlib.Core.Path.{◌≡◌, refl, sym, ◌∙◌}
use mathlib.Core.Bool.{Bool, true, false}
use Prim.Native.Nat.{ℕ}
use native.Mathlib.Omega.{arith}
use lib.Dec.{T}
use Rattle.laws_words.specs.Tests.{clash, by_cases}
use Rattle.model_pool.specs.Model.{upd, Base, Gather, Spread, Job, Idle, Get, LastIo, Enable, Leave, Info, Move, sourced, none, Shut, got, opened, World}
use Rattle.model_pool.specs.Invariant.{Full, Inv, lander}
use Rattle.model_pool.specs.Steps.{lived, at_nodes, transfers}
use Rattle.model_pool.proofs.Ground.{split, upd_same, upd_other, at-upd}
use Rattle.model_pool.proofs.ModelNodes.{Changes, changed}

-- what holds of the other one, and of the source once it is chosen, holds of the receiver
pub on-lander : (P : ℕ → Type 0) (job : Job) (src to : ℕ) → P to → (T (sourced job) → P src) → P (lander job src to)
on-lander P Idle src to a b = a
on-lander P Get src to a b = a
on-lander P LastIo src to a b = a
on-lander P Enable src to a b = b tt
on-lander P Leave src to a b = a
on-lander P Info src to a b = a
on-lander P (Move Base s) src to a b = a
on-lander P (Move Gather s) src to a b = b tt
on-lander P (Move Spread s) src to a b = a

-- ---- a node that never joined
module _ (w : World) (i : Inv w) (j : ℕ) (e : w.past.ever j ≡ false) where
  not-been : w.past.been j ≡ false
  not-been = by_cases (w.past.been j) (λ b. clash (i.life.known j b) e) (λ b. b)

  module _ (v : ℕ) where
    ver-same : (k : ℕ) → w.past.been k ≡ true → upd w.nodes.ver j v k ≡ w.nodes.ver k
    ver-same k b = upd_other w.nodes.ver j k v (λ q. clash b (rw q not-been))

    map_same : (k : ℕ) → w.past.been k ≡ true → upd w.nodes.map j none k ≡ w.nodes.map k
    map_same k b = upd_other w.nodes.map j k none (λ q. clash b (rw q not-been))

    changes : Changes w.pool.ses w.pool.mem w.past.been w.pool.version w.past.owe w.past.owe w.nodes.ver (upd w.nodes.ver j v) (upd w.nodes.map j none)
    changes = record {
      fewer = λ m c h. refl;
      grows = λ k a b. let x = ver-same k b in omega arith;
      within = λ k a b. let x = ver-same k b in let y = i.core.behind k a b in omega arith;
      knows = λ k p m c h l. rw (map_same k p.joined) (i.core.knows k p m c h (rw (ver-same k p.joined) at l));
    }

    -- its store is created, added or deleted
    pub stored : Inv (at_nodes w (upd w.nodes.ver j v) (upd w.nodes.map j none))
    stored = record {
      core = changed w.pool.ses w.pool.mark w.pool.mem w.past.been w.pool.version w.pool.closed w.past.owe w.past.owe w.nodes.ver (upd w.nodes.ver j v) w.nodes.map (upd w.nodes.map j none) i.core changes;
      quiet = λ t. let q = i.quiet t in record {
        beside = λ k l a b c d. let x = ver-same l c in let y = q.beside k l a b c d in omega arith;
        before = λ a l b c d. let x = ver-same l c in let y = q.before a l b c d in omega arith;
      };
      life = record {
        known = i.life.known;
        fresh = λ k h. upd_other w.nodes.ver j k v (λ q. clash h (i.life.came k (rw q e))) ∙ i.life.fresh k h;
        first = i.life.first;
        came = i.life.came;
      };
      acked = i.acked;
      run = λ t. let r = i.run t in record {
        all = r.all;
        other = r.other;
        asked = λ a. let h = r.asked a in record {
          lives = h.lives;
          most = λ k b c. let x = ver-same k (r.all k b) in let y = h.most k b c in omega arith;
          nobody = h.nobody;
          its-member = h.its-member;
          its = λ c. ver-same w.hand.src (r.all w.hand.src (h.its-member c)) ∙ h.its c;
          carries = λ t. h.carries t ∙ sym (ver-same w.hand.to r.other.joined);
        };
        source = r.source;
        top = λ a. rw (ver-same w.hand.src (r.source a).joined) (r.top a);
        landed = λ a. rw (ver-same (lander w.hand.job w.hand.src w.hand.to) (on-lander (λ k. w.past.been k ≡ true) w.hand.job w.hand.src w.hand.to r.other.joined (λ s. (r.source s).joined))) (r.landed a);
        staged = r.staged;
        gathers = r.gathers;
      };
      out = i.out;
    }

  -- it joins
  pub born : (create : Bool) → (create ≡ true → w.nodes.ver j ≡ 0) → Inv (lived w w.past.been (upd w.past.ever j true) (upd w.past.wait j create))
  born create z = record {
    core = i.core;
    quiet = i.quiet;
    life = record {
      known = λ k b. at-upd (λ x. x ≡ true) w.past.ever j true k (λ q. refl) (λ n. i.life.known k b);
      fresh = λ k. at-upd (λ x. x ≡ true → w.nodes.ver k ≡ 0) w.past.wait j create k (λ q. rw q z) (λ n. i.life.fresh k);
      first = λ k. at-upd (λ x. x ≡ true → w.past.been k ≡ false) w.past.wait j create k (λ q h. rw q not-been) (λ n. i.life.first k);
      came = λ k. split k j
          (λ q. rw (q, upd_same w.past.ever j true) (λ h. clash refl h))
          (λ n. rw (upd_other w.past.ever j k true n, upd_other w.past.wait j k create n) (i.life.came k));
    };
    acked = i.acked;
    run = i.run;
    out = i.out;
  }

-- a transfer is dropped
module _ (w : World) (j : ℕ) (i : Inv w) where
  kept-open : (k : ℕ) → T (opened (upd w.nodes.tr j Shut k)) → (T (opened (w.nodes.tr k)) → Full w.past.owe (w.nodes.stg k)) → Full w.past.owe (upd w.nodes.stg j none k)
  kept-open k = split k j
      (λ q. rw (q, upd_same w.nodes.tr j Shut) (λ t. absurd t))
      (λ n. rw (upd_other w.nodes.tr j k Shut n, upd_other w.nodes.stg j k none n) (λ t f. f t))

  kept-got : (k : ℕ) → T (got (upd w.nodes.tr j Shut k)) → (T (got (w.nodes.tr k)) → Full w.past.owe (w.nodes.stg k)) → Full w.past.owe (upd w.nodes.stg j none k)
  kept-got k = split k j
      (λ q. rw (q, upd_same w.nodes.tr j Shut) (λ t. absurd t))
      (λ n. rw (upd_other w.nodes.tr j k Shut n, upd_other w.nodes.stg j k none n) (λ t f. f t))

  pub shut : Inv (transfers w (upd w.nodes.stg j none) (upd w.nodes.tr j Shut))
  shut = record {
    core = i.core;
    quiet = i.quiet;
    life = i.life;
    acked = i.acked;
    run = λ t. let r = i.run t in record {
      all = r.all;
      other = r.other;
      asked = r.asked;
      source = r.source;
      top = r.top;
      landed = r.landed;
      staged = λ a b. kept-got (lander w.hand.job w.hand.src w.hand.to) b (r.staged a);
      gathers = λ a b. kept-open w.hand.src b (r.gathers a);
    };
    out = i.out;
  }
