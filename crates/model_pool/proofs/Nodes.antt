-- The nodes of all ids, one of them changed.
use mathlib.Core.Path.{◌≡◌, refl, sym, subst}
use mathlib.Core.Logic.{◌≢◌}
use Prim.Native.Nat.{ℕ}
use Rattle.rules_world.specs.Station.{Station}
use Rattle.rules_world.specs.Together.{upd}
use Rattle.theorem_honest.proofs.Ground as real
use Rattle.model_pool.specs.Model as m
use Rattle.model_pool.proofs.Ground.{split, upd_same, upd_other}
use Rattle.model_pool.specs.Holds.{Holds, Held}

-- nodes that are the same at every id but one
pub record Beside (n n' : m.Nodes) (j : ℕ) : Type 0 where
  pub ver : (k : ℕ) → k ≢ j → n'.ver k ≡ n.ver k
  pub map : (k : ℕ) → k ≢ j → n'.map k ≡ n.map k
  pub stg : (k : ℕ) → k ≢ j → n'.stg k ≡ n.stg k
  pub tr : (k : ℕ) → k ≢ j → n'.tr k ≡ n.tr k

pub held-beside : (f : ℕ → Station) (n n' : m.Nodes) (j : ℕ) (s : Station) → Held f n → Beside n n' j → Holds s (n'.ver j) (n'.map j) (n'.stg j) (n'.tr j) → Held (upd f j s) n'
held-beside f n n' j s h b e = record {
  at = λ k. split k j
      (λ q. subst (λ (i : ℕ). Holds (upd f j s i) (n'.ver i) (n'.map i) (n'.stg i) (n'.tr i)) (sym q) (subst (λ (x : Station). Holds x (n'.ver j) (n'.map j) (n'.stg j) (n'.tr j)) (sym (real.upd_same f j s)) e))
      (λ q. rw (real.upd_other f j k s q, b.ver k q, b.map k q, b.stg k q, b.tr k q) (h.at k));
}

-- nothing is seen of the change
pub held_same : (f : ℕ → Station) (n : m.Nodes) (j : ℕ) (s : Station) → Held f n → Holds s (n.ver j) (n.map j) (n.stg j) (n.tr j) → Held (upd f j s) n
held_same f n j s h e = held-beside f n n j s h (record { ver = λ k q. refl; map = λ k q. refl; stg = λ k q. refl; tr = λ k q. refl }) e

-- version and map
pub held-stored : (f : ℕ → Station) (n : m.Nodes) (j : ℕ) (s : Station) (v : ℕ) (g : m.Map) → Held f n → Holds s v g (n.stg j) (n.tr j)
    → Held (upd f j s) (record { ver = m.upd n.ver j v; map = m.upd n.map j g; stg = n.stg; tr = n.tr })
held-stored f n j s v g h e =
    held-beside f n (record { ver = m.upd n.ver j v; map = m.upd n.map j g; stg = n.stg; tr = n.tr }) j s h
    (record { ver = λ k q. upd_other n.ver j k v q; map = λ k q. upd_other n.map j k g q; stg = λ k q. refl; tr = λ k q. refl })
    (rw (upd_same n.ver j v, upd_same n.map j g) e)

-- staging and transfer
pub held-staged : (f : ℕ → Station) (n : m.Nodes) (j : ℕ) (s : Station) (g : m.Map) (t : m.Transfer) → Held f n → Holds s (n.ver j) (n.map j) g t
    → Held (upd f j s) (record { ver = n.ver; map = n.map; stg = m.upd n.stg j g; tr = m.upd n.tr j t })
held-staged f n j s g t h e =
    held-beside f n (record { ver = n.ver; map = n.map; stg = m.upd n.stg j g; tr = m.upd n.tr j t }) j s h
    (record { ver = λ k q. refl; map = λ k q. refl; stg = λ k q. upd_other n.stg j k g q; tr = λ k q. upd_other n.tr j k t q })
    (rw (upd_same n.stg j g, upd_same n.tr j t) e)

-- all four
pub held_all : (f : ℕ → Station) (n : m.Nodes) (j : ℕ) (s : Station) (v : ℕ) (a g : m.Map) (t : m.Transfer) → Held f n → Holds s v a g t
    → Held (upd f j s) (record { ver = m.upd n.ver j v; map = m.upd n.map j a; stg = m.upd n.stg j g; tr = m.upd n.tr j t })
held_all f n j s v a g t h e =
    held-beside f n (record { ver = m.upd n.ver j v; map = m.upd n.map j a; stg = m.upd n.stg j g; tr = m.upd n.tr j t }) j s h
    (record { ver = λ k q. upd_other n.ver j k v q; map = λ k q. upd_other n.map j k a q; stg = λ k q. upd_other n.stg j k g q; tr = λ k q. upd_other n.tr j k t q })
    (rw (upd_same n.ver j v, upd_same n.map j a, upd_same n.stg j g, upd_same n.tr j t) e)
