-- A session that fails or comes back, a write and a sync keep the invariant.
use mathlib.Core.Path.{◌≡◌, refl, sym, ◌∙◌}
use mathlib.Core.Bool.{Bool, true, false, not, ◌&&◌}
use mathlib.Core.Logic.{◌≢◌, ◌⊎◌, inl, inr, ⊎_elim}
use Prim.Native.Nat.{ℕ, ◌+◌, ◌≤◌, ◌<◌}
use native.Mathlib.Omega.{arith}
use lib.Dec.{T, eqb}
use borrow.Author.Tests.{ne_eqb}
use Rattle.laws_words.specs.Words.{one}
use Rattle.laws_words.specs.Tests.{clash, by_cases, and_both}
use Rattle.model_pool.specs.Model.{upd, Session, up, dying, active, there, still, World}
use Rattle.model_pool.specs.Invariant.{Party, Core, Quiet, Inv}
use Rattle.model_pool.specs.Steps.{moved, owing, at_nodes, written, bitless, Marks}
use Rattle.model_pool.proofs.Ground.{split, upd_same, upd_other, at-upd, not-false, up-active, active-there, active-lives, not-both}
use Rattle.model_pool.proofs.ModelSessions.{Shifts, shifted, shifted-quiet}
use Rattle.model_pool.proofs.ModelNodes.{changed}
use Rattle.model_pool.proofs.ModelWrites.{wrote, wrote-quiet}

-- ---- one session changes, and does not become NORMAL
pub record Fits (member : Bool) (s t : Session) : Type 0 where
  pub not-up : up t ≡ false
  pub lives : member ≡ true → dying t ≡ dying s
  pub actives : active t ≡ true → active s ≡ true
  pub theres : there t ≡ true → there s ≡ true

module _ (w : World) (i : Inv w) (j : ℕ) (s : Session) (mark : ℕ → Bool) (version : ℕ) (rise : w.pool.version ≤ version) (fits : Fits (w.pool.mem j) (w.pool.ses j) s)
    (marks : (k : ℕ) → mark k ≡ true → (w.pool.mark k ≡ true) ⊎ ((k ≡ j) × (up (w.pool.ses j) ≡ true) × ((l : ℕ) → l ≢ j → up (w.pool.ses l) ≡ false)))
    (still-active : mark j ≡ true → active s ≡ true) where
  shifts : Shifts w.pool.ses (upd w.pool.ses j s) w.pool.mark mark w.pool.mem w.pool.version version
  shifts = record {
    ups = λ k. at-upd (λ x. up x ≡ true → up (w.pool.ses k) ≡ true) w.pool.ses j s k (λ q h. clash h fits.not-up) (λ n h. h);
    lives = λ k m. at-upd (λ x. dying x ≡ dying (w.pool.ses k)) w.pool.ses j s k (λ q. rw q (fits.lives (rw q at m))) (λ n. refl);
    actives = λ k. at-upd (λ x. active x ≡ true → active (w.pool.ses k) ≡ true) w.pool.ses j s k (λ q. rw q fits.actives) (λ n h. h);
    theres = λ k. at-upd (λ x. there x ≡ true → there (w.pool.ses k) ≡ true) w.pool.ses j s k (λ q. rw q fits.theres) (λ n h. h);
    rises = rise;
    still-active = λ k h. at-upd (λ x. active x ≡ true) w.pool.ses j s k (λ q. still-active (rw q at h)) (λ n. ⊎_elim (i.core.marked-active k) (λ t. absurd (n t.0)) (marks k h));
    marks = λ k h. ⊎_elim inl (λ t. inr (rw t.0 t.1, λ l. at-upd (λ x. up x ≡ false) w.pool.ses j s l (λ q. fits.not-up) (t.2 l))) (marks k h);
  }

  pub one-core : Core (upd w.pool.ses j s) mark w.pool.mem w.past.been version w.pool.closed w.past.owe w.nodes.ver w.nodes.map
  one-core = shifted w.pool.ses (upd w.pool.ses j s) w.pool.mark mark w.pool.mem w.past.been w.pool.version version w.pool.closed w.past.owe w.nodes.ver w.nodes.map i.core shifts

  pub one-quiet : (up (w.pool.ses j) ≡ true → w.pool.version < version) → T (still w.hand.job) → Quiet (upd w.pool.ses j s) w.pool.mem w.past.been version w.pool.closed w.nodes.ver
  one-quiet raise t = shifted-quiet w.pool.ses (upd w.pool.ses j s) w.pool.mark mark w.pool.mem w.past.been w.pool.version version w.pool.closed w.past.owe w.nodes.ver w.nodes.map i.core shifts
      (λ k. at-upd (λ x. up (w.pool.ses k) ≡ true → up x ≡ false → w.pool.version < version) w.pool.ses j s k (λ q. rw q (λ a b. raise a)) (λ n a b. clash a b))
      (i.quiet t)

-- ---- to FAILED or RECONNECTING, with a job in hand or not
pub shift : (w : World) (i : Inv w) (j : ℕ) (s : Session) (mark : ℕ → Bool) → active (w.pool.ses j) ≡ true → active s ≡ true → up s ≡ false → Marks w j mark
    → Inv (moved w (upd w.pool.ses j s) mark (w.pool.version + one (up (w.pool.ses j))))
shift w i j s mark a b u marks = record {
  core = one-core w i j s mark v (omega arith) fits marks (λ h. b);
  quiet = one-quiet w i j s mark v (omega arith) fits marks (λ h. b) more;
  life = i.life;
  acked = i.acked;
  run = λ t. let r = i.run t in record {
    all = r.all;
    other = party w.hand.to r.other;
    asked = λ k. let h = r.asked k in record {
      lives = λ l m. lives l (h.lives l m);
      most = h.most;
      nobody = h.nobody;
      its-member = h.its-member;
      its = h.its;
      carries = h.carries;
    };
    source = λ k. party w.hand.src (r.source k);
    top = r.top;
    landed = r.landed;
    staged = r.staged;
    gathers = r.gathers;
  };
  out = λ t. let o = i.out t in record {
    parts = at-upd (λ x. active x ≡ false) w.pool.ses j s w.hand.src (λ q. clash a (rw q at o.parts)) (λ n. o.parts);
    past = λ k. at-upd (λ x. dying x ≡ true → w.pool.mem w.hand.src ≡ false) w.pool.ses j s w.hand.src (λ q h. clash h (active-lives s b)) (λ n. o.past k);
  };
}
  where
    v : ℕ
    v = w.pool.version + one (up (w.pool.ses j))

    fits : Fits (w.pool.mem j) (w.pool.ses j) s
    fits = record { not-up = u; lives = λ e. active-lives s b ∙ sym (active-lives (w.pool.ses j) a); actives = λ h. a; theres = λ h. active-there (w.pool.ses j) a }

    more : up (w.pool.ses j) ≡ true → w.pool.version < v
    more h = let x : one (up (w.pool.ses j)) ≡ 1 = rw h in omega arith

    lives : (k : ℕ) → dying (w.pool.ses k) ≡ false → dying (upd w.pool.ses j s k) ≡ false
    lives k h = at-upd (λ x. dying x ≡ false) w.pool.ses j s k (λ q. active-lives s b) (λ n. h)

    party : (k : ℕ) → Party w.pool.ses w.pool.mem w.past.been k → Party (upd w.pool.ses j s) w.pool.mem w.past.been k
    party k p = record { member = p.member; joined = p.joined; lives = lives k p.lives }

-- ---- a write
pub write : (w : World) (i : Inv w) (c r : ℕ) → T (still w.hand.job) → up (w.pool.ses r) ≡ true → Inv (written c w)
write w i c r t u = record {
  core = wrote c w.pool.ses w.pool.mark w.pool.mem w.past.been w.pool.version w.pool.closed w.past.owe w.nodes.ver w.nodes.map i.core (i.quiet t) r u;
  quiet = λ s. wrote-quiet c w.pool.ses w.pool.mark w.pool.mem w.past.been w.pool.version w.pool.closed w.past.owe w.nodes.ver w.nodes.map i.core (i.quiet t) r u;
  life = record {
    known = i.life.known;
    fresh = λ j h. by_cases (up (w.pool.ses j))
        (λ x. clash (i.core.joined j (active-there (w.pool.ses j) (up-active (w.pool.ses j) x))) (i.life.first j h))
        (λ x. rw x (i.life.fresh j h));
    first = i.life.first;
    came = i.life.came;
  };
  acked = λ d h. refl;
  run = λ s. not-both w.hand.job t s;
  out = i.out;
}

-- ---- sync
module _ (w : World) (i : Inv w) (m c : ℕ) (t : T (still w.hand.job)) where
  abbrev owe' : ℕ → ℕ → ℕ
  owe' = upd w.past.owe m (upd (w.past.owe m) c 0)

  left : (n d : ℕ) → 0 < owe' n d → (n ≡ m → d ≡ c → ⊥) × (owe' n d ≡ w.past.owe n d)
  left n d = split n m
      (λ q. rw (q, upd_same w.past.owe m (upd (w.past.owe m) c 0)) (split d c (λ x. rw (x, upd_same (w.past.owe m) c 0) (λ h. absurd (let z : ⊥ = omega arith in z))) (λ x. rw (upd_other (w.past.owe m) c d 0 x) (λ h. (λ a b. x b, refl)))))
      (λ q. rw (upd_other w.past.owe m n (upd (w.past.owe m) c 0) q) (λ h. (λ a b. q a, refl)))

  other : (n d : ℕ) → (n ≡ m → d ≡ c → ⊥) → not (eqb n m && eqb d c) ≡ true
  other n d h = split n m
      (λ a. split d c (λ b. absurd (h a b)) (λ b. rw (ne_eqb d c b) (not-false (eqb n m))))
      (λ a. rw (ne_eqb n m a) refl)

  pub synced : Inv (owing (at_nodes w w.nodes.ver (bitless m c w.nodes.map)) owe' w.past.acked)
  synced = record {
    core = changed w.pool.ses w.pool.mark w.pool.mem w.past.been w.pool.version w.pool.closed w.past.owe owe' w.nodes.ver w.nodes.ver w.nodes.map (bitless m c w.nodes.map) i.core (record {
      fewer = λ n d h. (left n d h).1;
      grows = λ j a b. omega arith;
      within = i.core.behind;
      knows = λ j p n d h l. let x = left n d h in let y = x.1 in and_both (other n d x.0) (i.core.knows j p n d (omega arith) (omega arith));
    });
    quiet = i.quiet;
    life = i.life;
    acked = i.acked;
    run = λ s. not-both w.hand.job t s;
    out = i.out;
  }
