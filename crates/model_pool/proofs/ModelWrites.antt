-- An acknowledged write: every new pair gets a version above that of every node that was not reached.
use mathlib.Core.Path.{◌≡◌, refl}
use mathlib.Core.Bool.{Bool, true, false, not, ◌&&◌, ◌||◌, cond}
use mathlib.Core.Logic.{◌⊎◌, inl, inr, ⊎_elim}
use Prim.Native.Nat.{ℕ, zero, suc, ◌≤◌, ◌<◌, max}
use native.Mathlib.Omega.{arith}
use lib.Dec.{eqb}
use Rattle.laws_words.specs.Tests.{clash, by_cases, and_both, and_left, and_right}
use Rattle.model_pool.specs.Model.{Session, up, dying, Map}
use Rattle.model_pool.specs.Invariant.{Over, Party, Core, Quiet}
use Rattle.model_pool.specs.Steps.{listed, owed}
use Rattle.model_pool.proofs.Ground.{or_left, or_right, not-true, up-active}
use Rattle.model_pool.proofs.ModelNodes.{active-party}

-- a pair after the write: as before, or new with the version sent
pub owed-or : (b : Bool) (n v : ℕ) → (owed b n v ≡ n) ⊎ ((b ≡ true) × (n ≡ 0) × (owed b n v ≡ v))
owed-or false n v = inl refl
owed-or true zero v = inr (refl, refl, refl)
owed-or true (suc n) v = inl refl

-- a pair that is listed is owed, and one that is owed stays so
pub owed-some : (n v : ℕ) → 1 ≤ v → 0 < owed true n v
owed-some zero v h = h
owed-some (suc n) v h = omega arith

pub owed_more : (b : Bool) (n v : ℕ) → 0 < n → 0 < owed b n v
owed_more false n v h = h
owed_more true zero v h = absurd (let z : ⊥ = omega arith in z)
owed_more true (suc n) v h = h

module _ (c : ℕ) (ses : ℕ → Session) (mark mem been : ℕ → Bool) (version : ℕ) (closed : Bool) (owe : ℕ → ℕ → ℕ) (ver : ℕ → ℕ) (map : ℕ → Map)
    (i : Core ses mark mem been version closed owe ver map) (q : Quiet ses mem been version closed ver) (r : ℕ) (reached : up (ses r) ≡ true) where
  abbrev pub owe' : ℕ → ℕ → ℕ
  owe' m d = owed (eqb d c && listed ses mem m) (owe m d) version

  abbrev pub ver' : ℕ → ℕ
  ver' j = cond (up (ses j)) (max (ver j) version) (ver j)

  abbrev pub map' : ℕ → Map
  map' j m d = map j m d || (up (ses j) && (eqb d c && listed ses mem m))

  new : (m d : ℕ) → (owe' m d ≡ owe m d) ⊎ ((eqb d c && listed ses mem m) ≡ true) × (owe m d ≡ 0) × (owe' m d ≡ version)
  new m d = owed-or (eqb d c && listed ses mem m) (owe m d) version

  on_list : (m d : ℕ) → (eqb d c && listed ses mem m) ≡ true → (mem m ≡ true) × (dying (ses m) ≡ false)
  on_list m d e =
      let l = and_right (eqb d c) (listed ses mem m) e in
      let t = and_right (mem m) (not (up (ses m)) && not (dying (ses m))) l in
      (and_left (mem m) (not (up (ses m)) && not (dying (ses m))) l, not-true (dying (ses m)) (and_right (not (up (ses m))) (not (dying (ses m))) t))

  ver-up : (j : ℕ) → up (ses j) ≡ true → ver' j ≡ version
  ver-up j e = let p = active-party i j (up-active (ses j) e) in let b = i.behind j p.member p.joined in rw e (omega arith)

  ver-not : (j : ℕ) → up (ses j) ≡ false → ver' j ≡ ver j
  ver-not j e = rw e

  bound : Over owe' version
  bound m d = ⊎_elim (λ e. let x = i.below m d in omega arith) (λ t. let x = t.2 in omega arith) (new m d)

  normals : (j : ℕ) → up (ses j) ≡ true → Over owe' (ver' j)
  normals j e m d = let x = bound m d in let y = ver-up j e in omega arith

  known : (j : ℕ) → Party ses mem been j → (m d : ℕ) → 0 < owe' m d → owe' m d ≤ ver' j → map' j m d ≡ true
  known j p m d h l = by_cases (up (ses j)) yes-up not-up
    where
      old : (up (ses j) ≡ true) ⊎ (up (ses j) ≡ false) → owe' m d ≡ owe m d → map' j m d ≡ true
      old (inl e) x = or_left (map j m d) (up (ses j) && (eqb d c && listed ses mem m)) (i.knows j p m d (omega arith) (i.normal j e m d))
      old (inr e) x = let v = ver-not j e in or_left (map j m d) (up (ses j) && (eqb d c && listed ses mem m)) (i.knows j p m d (omega arith) (omega arith))

      yes-up : up (ses j) ≡ true → map' j m d ≡ true
      yes-up e = ⊎_elim (old (inl e)) (λ t. or_right (map j m d) (up (ses j) && (eqb d c && listed ses mem m)) (and_both e t.0)) (new m d)

      not-up : up (ses j) ≡ false → map' j m d ≡ true
      not-up e = ⊎_elim (old (inr e)) (λ t. let x = t.2 in let y = ver-not j e in let z = q.beside r j reached p.member p.joined e in absurd (let b : ⊥ = omega arith in b)) (new m d)

  pub wrote : Core ses mark mem been version true owe' ver' map'
  wrote = record {
    positive = i.positive;
    closes = λ m d h. refl;
    below = bound;
    owed-member = λ m d h. ⊎_elim (λ e. i.owed-member m d (omega arith)) (λ t. (on_list m d t.0).0) (new m d);
    owed-lives = λ m d h. ⊎_elim (λ e. i.owed-lives m d (omega arith)) (λ t. (on_list m d t.0).1) (new m d);
    member = i.member;
    joined = i.joined;
    some = i.some;
    outside = λ j a b. clash reached ((i.outside j a b).none-up r);
    behind = λ j a b. by_cases (up (ses j)) (λ e. let x = ver-up j e in omega arith) (λ e. let x = ver-not j e in let y = i.behind j a b in omega arith);
    knows = known;
    normal = normals;
    marked = λ j e. clash reached (i.marked-alone j e r);
    marked-active = i.marked-active;
    marked-alone = i.marked-alone;
    holder = λ m d h. (r, active-party i r (up-active (ses r) reached), normals r reached);
  }

  pub wrote-quiet : Quiet ses mem been version true ver'
  wrote-quiet = record {
    beside = λ k j e a b n. let x = ver-not j n in let y = q.beside k j e a b n in omega arith;
    before = λ e. clash refl e;
  }
