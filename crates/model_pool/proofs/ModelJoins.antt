-- Joins and the hand enable keep the invariant.
use mathlib.Core.Path.{◌≡◌, refl, ◌∙◌}
use mathlib.Core.Bool.{Bool, true, false}
use mathlib.Core.Logic.{◌≢◌}
use Prim.Native.Nat.{ℕ, zero, suc, ◌<◌, max}
use native.Mathlib.Omega.{arith}
use Rattle.laws_words.specs.Tests.{clash, by_cases, and_both}
use Rattle.model_pool.specs.Model.{upd, Gone, Made, Up, Again, up, dying, active, Idle, none, within, Shut, World}
use Rattle.model_pool.specs.Invariant.{Full, Party, Outside, Life, Inv}
use Rattle.model_pool.specs.Steps.{moved, at_nodes, transfers, pooled, lived, rowless}
use Rattle.model_pool.proofs.Ground.{other_row, split, upd_same, upd_other, at-upd, up-active}
use Rattle.model_pool.proofs.ModelNodes.{active-party, committed, commits-at, risen}

-- the client takes the node's join
used : (w : World) (i : Inv w) (j : ℕ) → w.past.ever j ≡ true → Life (upd w.past.been j true) w.past.ever (upd w.past.wait j false) w.nodes.ver
used w i j e = record {
  known = λ k. at-upd (λ x. x ≡ true → w.past.ever k ≡ true) w.past.been j true k (λ q h. rw q e) (λ n. i.life.known k);
  fresh = λ k. at-upd (λ x. x ≡ true → w.nodes.ver k ≡ 0) w.past.wait j false k (λ q h. clash h refl) (λ n. i.life.fresh k);
  first = λ k. split k j
      (λ q. rw (q, upd_same w.past.wait j false) (λ h. clash h refl))
      (λ n. rw (upd_other w.past.wait j k false n, upd_other w.past.been j k true n) (i.life.first k));
  came = λ k h. at-upd (λ x. x ≡ false) w.past.wait j false k (λ q. refl) (λ n. i.life.came k h);
}

-- ---- by create
module _ (w : World) (i : Inv w) (j : ℕ) (z : w.hand.job ≡ Idle) (e : w.pool.ses j ≡ Gone) (n : w.pool.mem j ≡ false) (c : w.past.wait j ≡ true) where
  came : w.past.ever j ≡ true
  came = by_cases (w.past.ever j) (λ h. h) (λ h. clash c (i.life.came j h))

  zero-ver : w.nodes.ver j ≡ 0
  zero-ver = i.life.fresh j c

  owed-other : (m d : ℕ) → 0 < w.past.owe m d → m ≢ j
  owed-other m d h q = clash (i.core.owed-member m d h) (rw q n)

  lives : (k : ℕ) → dying (w.pool.ses k) ≡ false → dying (upd w.pool.ses j Made k) ≡ false
  lives k h = at-upd (λ x. dying x ≡ false) w.pool.ses j Made k (λ q. refl) (λ q. h)

  ups : (k : ℕ) → up (upd w.pool.ses j Made k) ≡ true → up (w.pool.ses k) ≡ true
  ups k = at-upd (λ x. up x ≡ true → up (w.pool.ses k) ≡ true) w.pool.ses j Made k (λ q h. clash h refl) (λ q h. h)

  not-ups : (k : ℕ) → up (w.pool.ses k) ≡ false → up (upd w.pool.ses j Made k) ≡ false
  not-ups k h = at-upd (λ x. up x ≡ false) w.pool.ses j Made k (λ q. refl) (λ q. h)

  member : (k : ℕ) → w.pool.mem k ≡ true → upd w.pool.mem j true k ≡ true
  member k h = at-upd (λ x. x ≡ true) w.pool.mem j true k (λ q. refl) (λ q. h)

  joined : (k : ℕ) → w.past.been k ≡ true → upd w.past.been j true k ≡ true
  joined k h = at-upd (λ x. x ≡ true) w.past.been j true k (λ q. refl) (λ q. h)

  -- another one is what it was
  old : (k : ℕ) → k ≢ j → Party (upd w.pool.ses j Made) (upd w.pool.mem j true) (upd w.past.been j true) k → Party w.pool.ses w.pool.mem w.past.been k
  old k q p = record {
    member = rw (upd_other w.pool.mem j k true q) at p.member;
    joined = rw (upd_other w.past.been j k true q) at p.joined;
    lives = rw (upd_other w.pool.ses j k Made q) at p.lives;
  }

  behinds : (k : ℕ) → upd w.pool.mem j true k ≡ true → upd w.past.been j true k ≡ true → (k ≢ j → w.pool.mem k ≡ true → w.past.been k ≡ true → w.nodes.ver k < w.pool.version) → w.nodes.ver k < w.pool.version
  behinds k a b f = split k j
      (λ q. let x : w.nodes.ver k ≡ 0 = rw q zero-ver in let y = i.core.positive in omega arith)
      (λ q. f q (rw (upd_other w.pool.mem j k true q) at a) (rw (upd_other w.past.been j k true q) at b))

  pub created : Inv (lived (pooled (moved (at_nodes w w.nodes.ver (rowless j w.nodes.map)) (upd w.pool.ses j Made) w.pool.mark w.pool.version) (upd w.pool.mem j true) w.pool.closed) (upd w.past.been j true) w.past.ever (upd w.past.wait j false))
  created = record {
    core = record {
      positive = i.core.positive;
      closes = i.core.closes;
      below = i.core.below;
      owed-member = λ m d h. member m (i.core.owed-member m d h);
      owed-lives = λ m d h. lives m (i.core.owed-lives m d h);
      member = λ k. split k j (λ q h. rw (q, upd_same w.pool.mem j true)) (λ q. rw (upd_other w.pool.ses j k Made q) (λ h. member k (i.core.member k h)));
      joined = λ k. split k j (λ q h. rw (q, upd_same w.past.been j true)) (λ q. rw (upd_other w.pool.ses j k Made q) (λ h. joined k (i.core.joined k h)));
      some = λ k h. (j, upd_same w.pool.mem j true, rw (upd_same w.pool.ses j Made));
      outside = λ k a b. split k j
          (λ q. clash (let y : upd w.past.been j true k ≡ true = rw (q, upd_same w.past.been j true) in y) b)
          (λ q. let o = i.core.outside k (rw (upd_other w.pool.mem j k true q) at a) (rw (upd_other w.past.been j k true q) at b) in
          record { none-up = λ l. not-ups l (o.none-up l); none-marked = o.none-marked; none-owed = o.none-owed; shut = o.shut });
      behind = λ k a b. split k j
          (λ q. let x : w.nodes.ver k ≡ 0 = rw q zero-ver in omega arith)
          (λ q. i.core.behind k (rw (upd_other w.pool.mem j k true q) at a) (rw (upd_other w.past.been j k true q) at b));
      knows = λ k p m d h l. split k j
          (λ q. let x : w.nodes.ver k ≡ 0 = rw q zero-ver in absurd (let y : ⊥ = omega arith in y))
          (λ q. and_both (other_row m j (owed-other m d h)) (i.core.knows k (old k q p) m d h l));
      normal = λ k h. i.core.normal k (ups k h);
      marked = i.core.marked;
      marked-active = λ k h. at-upd (λ x. active x ≡ true) w.pool.ses j Made k (λ q. refl) (λ q. i.core.marked-active k h);
      marked-alone = λ k h l. not-ups l (i.core.marked-alone k h l);
      holder = λ m d h. let t = i.core.holder m d h in
          (t.0, record { member = member t.0 t.1.member; joined = joined t.0 t.1.joined; lives = lives t.0 t.1.lives }, t.2);
    };
    quiet = λ t. let q = i.quiet t in record {
      beside = λ k l u a b x. behinds l a b (λ r a' b'. q.beside k l (ups k u) a' b' (rw (upd_other w.pool.ses j l Made r) at x));
      before = λ y l a b x. behinds l a b (λ r a' b'. q.before y l a' b' (rw (upd_other w.pool.ses j l Made r) at x));
    };
    life = used w i j came;
    acked = i.acked;
    run = rw z (λ t. absurd t);
    out = rw z (λ t. absurd t);
  }

-- ---- by assemble, of a member
module _ (w : World) (i : Inv w) (j : ℕ) (z : w.hand.job ≡ Idle) (e : w.pool.ses j ≡ Gone) (n : w.pool.mem j ≡ true) (c : w.past.ever j ≡ true) where
  lives₂ : (k : ℕ) → dying (w.pool.ses k) ≡ false → dying (upd w.pool.ses j Again k) ≡ false
  lives₂ k h = at-upd (λ x. dying x ≡ false) w.pool.ses j Again k (λ q. refl) (λ q. h)

  lived₂ : (k : ℕ) → dying (upd w.pool.ses j Again k) ≡ false → dying (w.pool.ses k) ≡ false
  lived₂ k = at-upd (λ x. dying x ≡ false → dying (w.pool.ses k) ≡ false) w.pool.ses j Again k (λ q h. rw (q, e)) (λ q h. h)

  ups₂ : (k : ℕ) → up (upd w.pool.ses j Again k) ≡ true → up (w.pool.ses k) ≡ true
  ups₂ k = at-upd (λ x. up x ≡ true → up (w.pool.ses k) ≡ true) w.pool.ses j Again k (λ q h. clash h refl) (λ q h. h)

  not-ups₂ : (k : ℕ) → up (w.pool.ses k) ≡ false → up (upd w.pool.ses j Again k) ≡ false
  not-ups₂ k h = at-upd (λ x. up x ≡ false) w.pool.ses j Again k (λ q. refl) (λ q. h)

  was-down : (k : ℕ) → up (upd w.pool.ses j Again k) ≡ false → up (w.pool.ses k) ≡ false
  was-down k = at-upd (λ x. up x ≡ false → up (w.pool.ses k) ≡ false) w.pool.ses j Again k (λ q h. rw (q, e)) (λ q h. h)

  joined₂ : (k : ℕ) → w.past.been k ≡ true → upd w.past.been j true k ≡ true
  joined₂ k h = at-upd (λ x. x ≡ true) w.past.been j true k (λ q. refl) (λ q. h)

  unjoined : (k : ℕ) → upd w.past.been j true k ≡ false → w.past.been k ≡ false
  unjoined k = at-upd (λ x. x ≡ false → w.past.been k ≡ false) w.past.been j true k (λ q h. clash refl h) (λ q h. h)

  -- who is new in been had met an empty list of what is owed
  was : (k : ℕ) (P : Type 0) → w.pool.mem k ≡ true → (w.past.been k ≡ true → P) → (Outside w.pool.ses w.pool.mark w.past.owe w.pool.closed → P) → P
  was k P a f g = by_cases (w.past.been k) f (λ b. g (i.core.outside k a b))

  pub assembled : Inv (lived (moved w (upd w.pool.ses j Again) w.pool.mark (max w.pool.version (w.nodes.ver j))) (upd w.past.been j true) w.past.ever (upd w.past.wait j false))
  assembled = record {
    core = record {
      positive = let x = i.core.positive in omega arith;
      closes = i.core.closes;
      below = λ m d. let x = i.core.below m d in omega arith;
      owed-member = i.core.owed-member;
      owed-lives = λ m d h. lives₂ m (i.core.owed-lives m d h);
      member = λ k. at-upd (λ x. active x ≡ true → w.pool.mem k ≡ true) w.pool.ses j Again k (λ q h. rw q n) (λ q. i.core.member k);
      joined = λ k. split k j (λ q h. rw (q, upd_same w.past.been j true)) (λ q. rw (upd_other w.pool.ses j k Again q) (λ h. joined₂ k (i.core.joined k h)));
      some = λ k h. (j, n, rw (upd_same w.pool.ses j Again));
      outside = λ k a b. let o = i.core.outside k a (unjoined k b) in
          record { none-up = λ l. not-ups₂ l (o.none-up l); none-marked = o.none-marked; none-owed = o.none-owed; shut = o.shut };
      behind = λ k a b. split k j
          (λ q. rw q (omega arith))
          (λ q. let x = i.core.behind k a (rw (upd_other w.past.been j k true q) at b) in omega arith);
      knows = λ k p m d h l. was k (w.nodes.map k m d ≡ true) p.member
          (λ b. i.core.knows k (record { member = p.member; joined = b; lives = lived₂ k p.lives }) m d h l)
          (λ o. let x = o.none-owed m d in absurd (let y : ⊥ = omega arith in y));
      normal = λ k h. i.core.normal k (ups₂ k h);
      marked = i.core.marked;
      marked-active = λ k h. at-upd (λ x. active x ≡ true) w.pool.ses j Again k (λ q. refl) (λ q. i.core.marked-active k h);
      marked-alone = λ k h l. not-ups₂ l (i.core.marked-alone k h l);
      holder = λ m d h. let t = i.core.holder m d h in
          (t.0, record { member = t.1.member; joined = joined₂ t.0 t.1.joined; lives = lives₂ t.0 t.1.lives }, t.2);
    };
    quiet = λ t. let q = i.quiet t in record {
      beside = λ k l u a b x. was l (w.nodes.ver l < max w.pool.version (w.nodes.ver j)) a
          (λ b'. let y = q.beside k l (ups₂ k u) a b' (was-down l x) in omega arith)
          (λ o. clash (ups₂ k u) (o.none-up k));
      before = λ y l a b x. was l (w.nodes.ver l < max w.pool.version (w.nodes.ver j)) a
          (λ b'. let y' = q.before y l a b' (was-down l x) in omega arith)
          (λ o. clash o.shut y);
    };
    life = used w i j c;
    acked = i.acked;
    run = rw z (λ t. absurd t);
    out = rw z (λ t. absurd t);
  }

-- ---- a set is taken over: nobody was ever in session
module _ (w : World) (i : Inv w) (j : ℕ) (set : ℕ → Bool) (z : w.hand.job ≡ Idle) (e : w.pool.ses j ≡ Gone) (empty : (k : ℕ) → w.pool.mem k ≡ false) (n : set j ≡ true) (c : w.past.ever j ≡ true) where
  no-been : (k : ℕ) → w.past.been k ≡ false
  no-been k = by_cases (w.past.been k) (λ b. let t = i.core.some k b in clash t.1 (empty t.0)) (λ b. b)

  no-owe : {A : Type 0} (m d : ℕ) → 0 < w.past.owe m d → A
  no-owe m d h = clash (i.core.owed-member m d h) (empty m)

  no-active : {A : Type 0} (k : ℕ) → active (w.pool.ses k) ≡ true → A
  no-active k h = clash (i.core.member k h) (empty k)

  no-up : (k : ℕ) → up (upd w.pool.ses j Again k) ≡ false
  no-up k = at-upd (λ x. up x ≡ false) w.pool.ses j Again k (λ q. refl) (λ q. by_cases (up (w.pool.ses k)) (λ u. no-active k (up-active (w.pool.ses k) u)) (λ u. u))

  pub taken-over : Inv (lived (pooled (moved w (upd w.pool.ses j Again) w.pool.mark (max w.pool.version (w.nodes.ver j))) set true) (upd w.past.been j true) w.past.ever (upd w.past.wait j false))
  taken-over = record {
    core = record {
      positive = let x = i.core.positive in omega arith;
      closes = λ m d h. refl;
      below = λ m d. let x = i.core.below m d in omega arith;
      owed-member = λ m d h. no-owe m d h;
      owed-lives = λ m d h. no-owe m d h;
      member = λ k. at-upd (λ x. active x ≡ true → set k ≡ true) w.pool.ses j Again k (λ q h. rw q n) (λ q h. no-active k h);
      joined = λ k. split k j (λ q h. rw (q, upd_same w.past.been j true)) (λ q. rw (upd_other w.pool.ses j k Again q) (λ h. clash (i.core.joined k h) (no-been k)));
      some = λ k h. (j, n, rw (upd_same w.pool.ses j Again));
      outside = λ k a b. record {
        none-up = no-up;
        none-marked = λ l. by_cases (w.pool.mark l) (λ h. no-active l (i.core.marked-active l h)) (λ h. h);
        none-owed = λ m d. zero_or (w.past.owe m d) (λ h. no-owe m d h);
        shut = refl;
      };
      behind = λ k a b. split k j (λ q. rw q (omega arith)) (λ q. clash (rw (upd_other w.past.been j k true q) at b) (no-been k));
      knows = λ k p m d h l. no-owe m d h;
      normal = λ k h. clash h (no-up k);
      marked = λ k h. no-active k (i.core.marked-active k h);
      marked-active = λ k h. no-active k (i.core.marked-active k h);
      marked-alone = λ k h. no-active k (i.core.marked-active k h);
      holder = λ m d h. no-owe m d h;
    };
    quiet = λ t. record { beside = λ k l u a b x. clash u (no-up k); before = λ y. clash refl y };
    life = used w i j c;
    acked = λ d h. refl;
    run = rw z (λ t. absurd t);
    out = rw z (λ t. absurd t);
  }
    where
      zero_or : (x : ℕ) → (0 < x → x ≡ 0) → x ≡ 0
      zero_or zero f = refl
      zero_or (suc x) f = f (omega arith)

-- ---- the hand enable: nothing is owed
module _ (w : World) (i : Inv w) (j : ℕ) (z : w.hand.job ≡ Idle) (e : w.pool.ses j ≡ Made) (n : w.pool.closed ≡ false) where
  nothing : Full w.past.owe (w.nodes.map j)
  nothing m d h = clash (i.core.closes m d h) n

  party : Party w.pool.ses w.pool.mem w.past.been j
  party = active-party i.core j (rw e)

  pub hand-enabled : Inv (moved (transfers (at_nodes w (upd w.nodes.ver j w.pool.version) (upd w.nodes.map j (within w.pool.mem (w.nodes.map j)))) (upd w.nodes.stg j none) (upd w.nodes.tr j Shut)) (upd w.pool.ses j Up) (λ k. false) w.pool.version)
  hand-enabled = record {
    core = risen w.pool.ses w.pool.mark w.pool.mem w.past.been w.pool.version w.pool.closed w.past.owe (upd w.nodes.ver j w.pool.version) (upd w.nodes.map j (within w.pool.mem (w.nodes.map j))) j
        (committed w.pool.ses w.pool.mark w.pool.mem w.past.been w.pool.version w.pool.closed w.past.owe w.nodes.ver w.nodes.map j (w.nodes.map j) i.core nothing)
        (λ k m. by_cases (w.past.been k) (λ b. b) (λ b. clash (i.core.outside k m b).shut n))
        party
        (commits-at w.pool.ses w.pool.mark w.pool.mem w.past.been w.pool.version w.pool.closed w.past.owe w.nodes.ver w.nodes.map j (w.nodes.map j) i.core nothing);
    quiet = λ t. record { beside = λ k l u. late l; before = λ y l. late l };
    life = record {
      known = i.life.known;
      fresh = λ k h. upd_other w.nodes.ver j k w.pool.version (λ q. clash party.joined (rw q at (i.life.first k h))) ∙ i.life.fresh k h;
      first = i.life.first;
      came = i.life.came;
    };
    acked = i.acked;
    run = rw z (λ t. absurd t);
    out = rw z (λ t. absurd t);
  }
    where
      late : (l : ℕ) → w.pool.mem l ≡ true → w.past.been l ≡ true → up (upd w.pool.ses j Up l) ≡ false → upd w.nodes.ver j w.pool.version l < w.pool.version
      late l a b = split l j
          (λ q. rw (q, upd_same w.pool.ses j Up) (λ h. clash refl h))
          (λ q. rw (upd_other w.pool.ses j l Up q, upd_other w.nodes.ver j l w.pool.version q) ((i.quiet (rw z tt)).before n l a b))
