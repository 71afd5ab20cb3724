-- Maps and stored versions change, pairs may be forgotten: the invariant of the pool stays if no member's version falls and D holds.
use mathlib.Core.Path.{◌≡◌, refl, sym, ◌∙◌}
use mathlib.Core.Bool.{Bool, true, false}
use Prim.Native.Nat.{ℕ, zero, suc, ◌≤◌, ◌<◌}
use native.Mathlib.Omega.{arith}
use Rattle.laws_words.specs.Tests.{clash, and_both}
use Rattle.model_pool.specs.Model.{upd, Session, up, dying, active, there, Map, within}
use Rattle.model_pool.specs.Invariant.{Over, Full, Party, Core}
use Rattle.model_pool.proofs.Ground.{split, upd_same, upd_other, at-upd, up-active, active-there, active-lives}

pub active-party : {ses : ℕ → Session} {mark mem been : ℕ → Bool} {version : ℕ} {closed : Bool} {owe : ℕ → ℕ → ℕ} {ver : ℕ → ℕ} {map : ℕ → Map} (i : Core ses mark mem been version closed owe ver map) (j : ℕ) → active (ses j) ≡ true → Party ses mem been j
active-party {ses} i j e = record { member = i.member j e; joined = i.joined j (active-there (ses j) e); lives = active-lives (ses j) e }

-- P, and what F and H2 say of maps: who is new enough for all has all
pub full : {ses : ℕ → Session} {mark mem been : ℕ → Bool} {version : ℕ} {closed : Bool} {owe : ℕ → ℕ → ℕ} {ver : ℕ → ℕ} {map : ℕ → Map} (i : Core ses mark mem been version closed owe ver map) (j : ℕ) → Party ses mem been j → Over owe (ver j) → Full owe (map j)
full i j p o m c h = i.knows j p m c h (o m c)

pub record Changes (ses : ℕ → Session) (mem been : ℕ → Bool) (version : ℕ) (owe owe' : ℕ → ℕ → ℕ) (ver ver' : ℕ → ℕ) (map' : ℕ → Map) : Type 0 where
  pub fewer : (m c : ℕ) → 0 < owe' m c → owe' m c ≡ owe m c
  pub grows : (j : ℕ) → mem j ≡ true → been j ≡ true → ver j ≤ ver' j
  pub within : (j : ℕ) → mem j ≡ true → been j ≡ true → ver' j ≤ version
  pub knows : (j : ℕ) → Party ses mem been j → (m c : ℕ) → 0 < owe' m c → owe' m c ≤ ver' j → map' j m c ≡ true

pub less : (owe owe' : ℕ → ℕ → ℕ) → ((m c : ℕ) → 0 < owe' m c → owe' m c ≡ owe m c) → (m c : ℕ) → owe' m c ≤ owe m c
less owe owe' f m c = go (owe' m c) refl
  where
    go : (n : ℕ) → owe' m c ≡ n → owe' m c ≤ owe m c
    go zero e = omega arith
    go (suc n) e = let x = f m c (omega arith) in omega arith

module _ (ses : ℕ → Session) (mark mem been : ℕ → Bool) (version : ℕ) (closed : Bool) (owe owe' : ℕ → ℕ → ℕ) (ver ver' : ℕ → ℕ) (map map' : ℕ → Map)
    (i : Core ses mark mem been version closed owe ver map) (s : Changes ses mem been version owe owe' ver ver' map') where
  was : (m c : ℕ) → 0 < owe' m c → 0 < owe m c
  was m c h = let e = s.fewer m c h in omega arith

  over : (j : ℕ) → mem j ≡ true → been j ≡ true → Over owe (ver j) → Over owe' (ver' j)
  over j a b o m c = let x = o m c in let y = less owe owe' s.fewer m c in let z = s.grows j a b in omega arith

  over-active : (j : ℕ) → active (ses j) ≡ true → Over owe (ver j) → Over owe' (ver' j)
  over-active j e = let p = active-party i j e in over j p.member p.joined

  pub changed : Core ses mark mem been version closed owe' ver' map'
  changed = record {
    positive = i.positive;
    closes = λ m c h. i.closes m c (was m c h);
    below = λ m c. let x = i.below m c in let y = less owe owe' s.fewer m c in omega arith;
    owed-member = λ m c h. i.owed-member m c (was m c h);
    owed-lives = λ m c h. i.owed-lives m c (was m c h);
    member = i.member;
    joined = i.joined;
    some = i.some;
    outside = λ j a b. let o = i.outside j a b in record {
      none-up = o.none-up;
      none-marked = o.none-marked;
      none-owed = λ m c. let x = o.none-owed m c in let y = less owe owe' s.fewer m c in omega arith;
      shut = o.shut;
    };
    behind = s.within;
    knows = s.knows;
    normal = λ j e. over-active j (up-active (ses j) e) (i.normal j e);
    marked = λ j e. over-active j (i.marked-active j e) (i.marked j e);
    marked-active = i.marked-active;
    marked-alone = i.marked-alone;
    holder = λ m c h. let t = i.holder m c (was m c h) in (t.0, t.1, over t.0 t.1.member t.1.joined t.2);
  }

-- one node stores the pool's version with a map that has all that is owed; rows outside the members are zeroed
module _ (ses : ℕ → Session) (mark mem been : ℕ → Bool) (version : ℕ) (closed : Bool) (owe : ℕ → ℕ → ℕ) (ver : ℕ → ℕ) (map : ℕ → Map) (r : ℕ) (f : Map)
    (i : Core ses mark mem been version closed owe ver map) (all : Full owe f) where
  commits : Changes ses mem been version owe owe ver (upd ver r version) (upd map r (within mem f))
  commits = record {
    fewer = λ m c h. refl;
    grows = λ j a b. at-upd (λ v. ver j ≤ v) ver r version j (λ e. i.behind j a b) (λ n. omega arith);
    within = λ j a b. at-upd (λ v. v ≤ version) ver r version j (λ e. omega arith) (λ n. i.behind j a b);
    knows = λ j p m c h.
        split j r
        (λ e l. rw (e, upd_same map r (within mem f)) (and_both (i.owed-member m c h) (all m c h)))
        (λ n l. rw (upd_other map r j (within mem f) n) (i.knows j p m c h (rw (upd_other ver r j version n) at l)));
  }

  pub committed : Core ses mark mem been version closed owe (upd ver r version) (upd map r (within mem f))
  committed = changed ses mark mem been version closed owe owe ver (upd ver r version) map (upd map r (within mem f)) i commits

  -- no version falls
  pub commits-over : (j : ℕ) → mem j ≡ true → been j ≡ true → Over owe (ver j) → Over owe (upd ver r version j)
  commits-over j a b o m c = let x = commits.grows j a b in let y = o m c in omega arith

  pub commits-at : Over owe (upd ver r version r)
  commits-at m c = rw (upd_same ver r version) (i.below m c)

-- the session r becomes NORMAL
module _ (ses : ℕ → Session) (mark mem been : ℕ → Bool) (version : ℕ) (closed : Bool) (owe : ℕ → ℕ → ℕ) (ver : ℕ → ℕ) (map : ℕ → Map) (r : ℕ)
    (i : Core ses mark mem been version closed owe ver map) (all : (j : ℕ) → mem j ≡ true → been j ≡ true) (p : Party ses mem been r) (o : Over owe (ver r)) where
  lives : (j : ℕ) → dying (upd ses r Session.Up j) ≡ dying (ses j)
  lives j = at-upd (λ s. dying s ≡ dying (ses j)) ses r Session.Up j (λ e. rw e (sym p.lives)) (λ n. refl)

  party : (j : ℕ) → Party (upd ses r Session.Up) mem been j → Party ses mem been j
  party j q = record { member = q.member; joined = q.joined; lives = sym (lives j) ∙ q.lives }

  pub rise-party : (j : ℕ) → Party ses mem been j → Party (upd ses r Session.Up) mem been j
  rise-party j q = record { member = q.member; joined = q.joined; lives = lives j ∙ q.lives }

  pub risen : Core (upd ses r Session.Up) (λ j. false) mem been version closed owe ver map
  risen = record {
    positive = i.positive;
    closes = i.closes;
    below = i.below;
    owed-member = i.owed-member;
    owed-lives = λ m c h. lives m ∙ i.owed-lives m c h;
    member = λ j. at-upd (λ s. active s ≡ true → mem j ≡ true) ses r Session.Up j (λ e h. rw e p.member) (λ n. i.member j);
    joined = λ j. at-upd (λ s. there s ≡ true → been j ≡ true) ses r Session.Up j (λ e h. rw e p.joined) (λ n. i.joined j);
    some = λ j e. let t = i.some j e in (t.0, t.1, lives t.0 ∙ t.2);
    outside = λ j a b. clash (all j a) b;
    behind = i.behind;
    knows = λ j q. i.knows j (party j q);
    normal = λ j. at-upd (λ s. up s ≡ true → Over owe (ver j)) ses r Session.Up j (λ e h. rw e o) (λ n. i.normal j);
    marked = λ j e. clash e refl;
    marked-active = λ j e. clash e refl;
    marked-alone = λ j e. clash e refl;
    holder = λ m c h. let t = i.holder m c h in (t.0, rise-party t.0 t.1, t.2);
  }
