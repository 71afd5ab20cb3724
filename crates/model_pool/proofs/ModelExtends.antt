-- C-20: a leg is added to a pool in service; an id is used again by another node.
use mathlib.Core.Path.{◌≡◌, refl, ◌∙◌}
use mathlib.Core.Bool.{true, false, ◌&&◌, cond}
use mathlib.Core.Logic.{◌≢◌}
use Prim.Native.Nat.{ℕ, ◌≤◌, ◌<◌}
use native.Mathlib.Omega.{arith}
use lib.Dec.{eqb}
use borrow.Author.Tests.{eq-eqb, ne_eqb}
use Rattle.laws_words.specs.Tests.{clash, by_cases, and_both}
use Rattle.model_pool.specs.Model.{upd, Gone, Again, up, dying, Idle, Map, World}
use Rattle.model_pool.specs.Invariant.{Over, Party, Quiet, Inv}
use Rattle.model_pool.specs.Steps.{lived, storing, extended}
use Rattle.model_pool.proofs.Ground.{split, upd_same, upd_other, at-upd, up-active, active-there}
use Rattle.model_pool.proofs.ModelNodes.{active-party}

module _ (w : World) (i : Inv w) (x r : ℕ) (z : w.hand.job ≡ Idle) (u : up (w.pool.ses r) ≡ true) (n : w.pool.mem x ≡ false) (e : w.pool.ses x ≡ Gone) (o : w.nodes.ver x ≡ 0) where
  abbrev owe' : ℕ → ℕ → ℕ
  owe' m d = cond (eqb m x) (cond (w.past.acked d) w.pool.version 0) (w.past.owe m d)

  abbrev ver' : ℕ → ℕ
  ver' = storing w

  abbrev map' : ℕ → Map
  map' j m d = cond (eqb m x) (up (w.pool.ses j) && w.past.acked d) (w.nodes.map j m d)

  q : Quiet w.pool.ses w.pool.mem w.past.been w.pool.version w.pool.closed w.nodes.ver
  q = i.quiet (rw z tt)

  -- a pair: new with the pool's version, or as before
  pair : (m d : ℕ) (P : Type 0) → (m ≡ x → w.past.acked d ≡ true → owe' m d ≡ w.pool.version → P) → (m ≡ x → owe' m d ≡ 0 → P) → (m ≢ x → owe' m d ≡ w.past.owe m d → P) → P
  pair m d P a b c = split m x
      (λ y. by_cases (w.past.acked d) (λ k. a y k (rw (eq-eqb m x y, k))) (λ k. b y (rw (eq-eqb m x y, k))))
      (λ y. c y (rw (ne_eqb m x y)))

  bound : Over owe' w.pool.version
  bound m d = pair m d (owe' m d ≤ w.pool.version) (λ y k l. omega arith) (λ y l. omega arith) (λ y l. let k = i.core.below m d in omega arith)

  not-x : (j : ℕ) → up (w.pool.ses j) ≡ true → j ≢ x
  not-x j h y = clash h (rw (y, e))

  ver-up : (j : ℕ) → up (w.pool.ses j) ≡ true → ver' j ≡ w.pool.version
  ver-up j h = let p = active-party i.core j (up-active (w.pool.ses j) h) in let b = i.core.behind j p.member p.joined in rw h (omega arith)

  ver-old : (j : ℕ) → up (w.pool.ses j) ≡ false → ver' j ≡ w.nodes.ver j
  ver-old j h = rw h

  ver-new : (j : ℕ) → j ≡ x → ver' j ≡ 0
  ver-new j y = rw (y, e) o

  ups : (j : ℕ) → up (upd w.pool.ses x Again j) ≡ true → up (w.pool.ses j) ≡ true
  ups j = at-upd (λ s. up s ≡ true → up (w.pool.ses j) ≡ true) w.pool.ses x Again j (λ y h. clash h refl) (λ y h. h)

  downs : (j : ℕ) → up (upd w.pool.ses x Again j) ≡ false → up (w.pool.ses j) ≡ false
  downs j = at-upd (λ s. up s ≡ false → up (w.pool.ses j) ≡ false) w.pool.ses x Again j (λ y h. rw (y, e)) (λ y h. h)

  lives : (j : ℕ) → dying (w.pool.ses j) ≡ false → dying (upd w.pool.ses x Again j) ≡ false
  lives j h = at-upd (λ s. dying s ≡ false) w.pool.ses x Again j (λ y. refl) (λ y. h)

  member : (j : ℕ) → w.pool.mem j ≡ true → upd w.pool.mem x true j ≡ true
  member j h = at-upd (λ b. b ≡ true) w.pool.mem x true j (λ y. refl) (λ y. h)

  joined : (j : ℕ) → w.past.been j ≡ true → upd w.past.been x true j ≡ true
  joined j h = at-upd (λ b. b ≡ true) w.past.been x true j (λ y. refl) (λ y. h)

  old : (j : ℕ) → j ≢ x → Party (upd w.pool.ses x Again) (upd w.pool.mem x true) (upd w.past.been x true) j → Party w.pool.ses w.pool.mem w.past.been j
  old j y p = record {
    member = rw (upd_other w.pool.mem x j true y) at p.member;
    joined = rw (upd_other w.past.been x j true y) at p.joined;
    lives = rw (upd_other w.pool.ses x j Again y) at p.lives;
  }

  normals : (j : ℕ) → up (w.pool.ses j) ≡ true → Over owe' (ver' j)
  normals j h m d = let k = bound m d in let l = ver-up j h in omega arith

  -- a row of another member is what it was
  kept_row : (j m d : ℕ) → m ≢ x → w.nodes.map j m d ≡ true → map' j m d ≡ true
  kept_row j m d t h = rw (ne_eqb m x t) h

  known : (j : ℕ) → Party (upd w.pool.ses x Again) (upd w.pool.mem x true) (upd w.past.been x true) j → (m d : ℕ) → 0 < owe' m d → owe' m d ≤ ver' j → map' j m d ≡ true
  known j p m d h l = split j x
      (λ y. let k = ver-new j y in absurd (let b : ⊥ = omega arith in b))
      (λ y. let p' = old j y p in by_cases (up (w.pool.ses j))
      (λ t. pair m d (map' j m d ≡ true)
      (λ a b c. rw (eq-eqb m x a) (and_both t b))
      (λ a b. absurd (let v : ⊥ = omega arith in v))
      (λ a b. kept_row j m d a (i.core.knows j p' m d (omega arith) (i.core.normal j t m d))))
      (λ t. let k = ver-old j t in let k' = q.beside r j u p'.member p'.joined t in pair m d (map' j m d ≡ true)
      (λ a b c. absurd (let v : ⊥ = omega arith in v))
      (λ a b. absurd (let v : ⊥ = omega arith in v))
      (λ a b. kept_row j m d a (i.core.knows j p' m d (omega arith) (omega arith)))))

  behinds : (j : ℕ) → upd w.pool.mem x true j ≡ true → upd w.past.been x true j ≡ true → up (w.pool.ses j) ≡ false → ver' j < w.pool.version
  behinds j a b t = split j x
      (λ y. let k = ver-new j y in let l = i.core.positive in omega arith)
      (λ y. let k = ver-old j t in let l = q.beside r j u (rw (upd_other w.pool.mem x j true y) at a) (rw (upd_other w.past.been x j true y) at b) t in omega arith)

  pub grown : Inv (extended x w)
  grown = record {
    core = record {
      positive = i.core.positive;
      closes = λ m d h. pair m d (w.pool.closed ≡ true) (λ a b c. i.acked d b) (λ a b. absurd (let v : ⊥ = omega arith in v)) (λ a b. i.core.closes m d (omega arith));
      below = bound;
      owed-member = λ m d h. split m x (λ y. rw (y, upd_same w.pool.mem x true)) (λ y. pair m d (upd w.pool.mem x true m ≡ true) (λ a b c. absurd (y a)) (λ a b. absurd (y a)) (λ a b. member m (i.core.owed-member m d (omega arith))));
      owed-lives = λ m d h. pair m d (dying (upd w.pool.ses x Again m) ≡ false) (λ a b c. rw (a, upd_same w.pool.ses x Again)) (λ a b. rw (a, upd_same w.pool.ses x Again)) (λ a b. lives m (i.core.owed-lives m d (omega arith)));
      member = λ k. split k x (λ y h. rw (y, upd_same w.pool.mem x true)) (λ y. rw (upd_other w.pool.ses x k Again y) (λ h. member k (i.core.member k h)));
      joined = λ k. split k x (λ y h. rw (y, upd_same w.past.been x true)) (λ y. rw (upd_other w.pool.ses x k Again y) (λ h. joined k (i.core.joined k h)));
      some = λ k h. (x, upd_same w.pool.mem x true, rw (upd_same w.pool.ses x Again));
      outside = λ k a b. split k x
          (λ y. clash (let v : upd w.past.been x true k ≡ true = rw (y, upd_same w.past.been x true) in v) b)
          (λ y. clash u ((i.core.outside k (rw (upd_other w.pool.mem x k true y) at a) (rw (upd_other w.past.been x k true y) at b)).none-up r));
      behind = λ k a b. by_cases (up (w.pool.ses k)) (λ t. let l = ver-up k t in omega arith) (λ t. let l = behinds k a b t in omega arith);
      knows = known;
      normal = λ k h. normals k (ups k h);
      marked = λ k h. clash u (i.core.marked-alone k h r);
      marked-active = λ k h. clash u (i.core.marked-alone k h r);
      marked-alone = λ k h. clash u (i.core.marked-alone k h r);
      holder = λ m d h. let p = active-party i.core r (up-active (w.pool.ses r) u) in
          (r, record { member = member r p.member; joined = joined r p.joined; lives = lives r p.lives }, normals r u);
    };
    quiet = λ t. record {
      beside = λ k l h a b y. behinds l a b (downs l y);
      before = λ h l a b y. behinds l a b (downs l y);
    };
    life = record {
      known = λ k. split k x (λ y h. rw (y, upd_same w.past.ever x true)) (λ y. rw (upd_other w.past.been x k true y, upd_other w.past.ever x k true y) (i.life.known k));
      fresh = λ k. split k x
          (λ y. rw (y, upd_same w.past.wait x false) (λ h. clash h refl))
          (λ y. rw (upd_other w.past.wait x k false y) (λ h. by_cases (up (w.pool.ses k))
          (λ t. clash (i.core.joined k (active-there (w.pool.ses k) (up-active (w.pool.ses k) t))) (i.life.first k h))
          (λ t. ver-old k t ∙ i.life.fresh k h)));
      first = λ k. split k x (λ y. rw (y, upd_same w.past.wait x false) (λ h. clash h refl)) (λ y. rw (upd_other w.past.wait x k false y, upd_other w.past.been x k true y) (i.life.first k));
      came = λ k. split k x (λ y. rw (y, upd_same w.past.ever x true) (λ h. clash refl h)) (λ y. rw (upd_other w.past.ever x k true y, upd_other w.past.wait x k false y) (i.life.came k));
    };
    acked = i.acked;
    run = rw z (λ t. absurd t);
    out = rw z (λ t. absurd t);
  }

-- ---- another node at a free id
module _ (w : World) (i : Inv w) (j : ℕ) (n : w.pool.mem j ≡ false) (e : w.pool.ses j ≡ Gone) where
  other : (k : ℕ) → w.pool.mem k ≡ true → k ≢ j
  other k h y = clash h (rw y n)

  was : (k : ℕ) → upd w.past.been j false k ≡ true → w.past.been k ≡ true
  was k = at-upd (λ b. b ≡ true → w.past.been k ≡ true) w.past.been j false k (λ y h. clash h refl) (λ y h. h)

  stays : (k : ℕ) → k ≢ j → w.past.been k ≡ true → upd w.past.been j false k ≡ true
  stays k y h = rw (upd_other w.past.been j k false y) h

  party : (k : ℕ) → Party w.pool.ses w.pool.mem w.past.been k → Party w.pool.ses w.pool.mem (upd w.past.been j false) k
  party k p = record { member = p.member; joined = stays k (other k p.member) p.joined; lives = p.lives }

  pub replaced : Inv (lived w (upd w.past.been j false) (upd w.past.ever j false) (upd w.past.wait j false))
  replaced = record {
    core = record {
      positive = i.core.positive;
      closes = i.core.closes;
      below = i.core.below;
      owed-member = i.core.owed-member;
      owed-lives = i.core.owed-lives;
      member = i.core.member;
      joined = λ k h. stays k (λ y. clash h (rw (y, e))) (i.core.joined k h);
      some = λ k h. i.core.some k (was k h);
      outside = λ k a b. i.core.outside k a (rw (upd_other w.past.been j k false (other k a)) at b);
      behind = λ k a b. i.core.behind k a (was k b);
      knows = λ k p. i.core.knows k (record { member = p.member; joined = was k p.joined; lives = p.lives });
      normal = i.core.normal;
      marked = i.core.marked;
      marked-active = i.core.marked-active;
      marked-alone = i.core.marked-alone;
      holder = λ m d h. let t = i.core.holder m d h in (t.0, party t.0 t.1, t.2);
    };
    quiet = λ t. let q = i.quiet t in record { beside = λ k l h a b y. q.beside k l h a (was l b) y; before = λ h l a b y. q.before h l a (was l b) y };
    life = record {
      known = λ k. split k j (λ y. rw (y, upd_same w.past.been j false) (λ h. clash h refl)) (λ y. rw (upd_other w.past.been j k false y, upd_other w.past.ever j k false y) (i.life.known k));
      fresh = λ k. at-upd (λ s. s ≡ true → w.nodes.ver k ≡ 0) w.past.wait j false k (λ y h. clash h refl) (λ y. i.life.fresh k);
      first = λ k h. at-upd (λ b. b ≡ false) w.past.been j false k (λ y. refl) (λ y. i.life.first k (rw (upd_other w.past.wait j k false y) at h));
      came = λ k h. at-upd (λ s. s ≡ false) w.past.wait j false k (λ y. refl) (λ y. i.life.came k (rw (upd_other w.past.ever j k false y) at h));
    };
    acked = i.acked;
    run = λ t. let r = i.run t in record {
      all = λ k a. stays k (other k a) (r.all k a);
      other = party w.hand.to r.other;
      asked = r.asked;
      source = λ s. party w.hand.src (r.source s);
      top = r.top;
      landed = r.landed;
      staged = r.staged;
      gathers = r.gathers;
    };
    out = i.out;
  }
