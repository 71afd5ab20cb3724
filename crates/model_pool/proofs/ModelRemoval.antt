-- Removals keep the invariant.
use mathlib.Core.Path.{◌≡◌, refl, sym, ◌∙◌}
use mathlib.Core.Bool.{Bool, true, false}
use mathlib.Core.Logic.{◌≢◌, ◌⊎◌, inl, ⊎_elim}
use Prim.Native.Nat.{ℕ, ◌+◌, ◌<◌}
use native.Mathlib.Omega.{arith}
use lib.Dec.{T}
use Rattle.laws_words.specs.Words.{one}
use Rattle.laws_words.specs.Tests.{clash, by_cases, and_both}
use Rattle.model_pool.specs.Model.{upd, Gone, Dying, Parting, up, dying, active, there, Job, Idle, Get, LastIo, Enable, Leave, Info, Move, Taken, still, removes, Map, none, World}
use Rattle.model_pool.specs.Invariant.{Party, Core, Removing, Inv}
use Rattle.model_pool.specs.Steps.{moved, awaits, arrived, owing, at_nodes, pooled, rowless}
use Rattle.model_pool.proofs.Ground.{other_row, split, upd_same, upd_other, at-upd, up-active, active-there, active-lives, not-both}
use Rattle.model_pool.proofs.ModelSessions.{later}
use Rattle.model_pool.proofs.ModelNodes.{changed, active-party}
use Rattle.model_pool.proofs.ModelClient.{Fits, one-core, one-quiet}

removes-still : (j : Job) → T (removes j) → T (still j)
removes-still Idle t = tt
removes-still Get t = t
removes-still LastIo t = t
removes-still Enable t = t
removes-still Leave t = tt
removes-still Info t = tt
removes-still (Move k s) t = t

up_one : (b : Bool) → b ≡ true → one b ≡ 1
up_one b e = rw e

-- ---- a delete is given
module _ (w : World) (i : Inv w) (a k : ℕ) (z : w.hand.job ≡ Idle) (e : active (w.pool.ses a) ≡ true) (n : k ≢ a) (u : up (w.pool.ses k) ≡ true) where
  -- what is owed is owed to others
  other : (m c : ℕ) → 0 < upd w.past.owe a (λ d. 0) m c → (m ≢ a) × (upd w.past.owe a (λ d. 0) m c ≡ w.past.owe m c)
  other m c = split m a
      (λ q. rw (q, upd_same w.past.owe a (λ d. 0)) (λ h. absurd (let y : ⊥ = omega arith in y)))
      (λ q. rw (upd_other w.past.owe a m (λ d. 0) q) (λ h. (q, refl)))

  forgot : Core w.pool.ses w.pool.mark w.pool.mem w.past.been w.pool.version w.pool.closed (upd w.past.owe a (λ c. 0)) w.nodes.ver w.nodes.map
  forgot = changed w.pool.ses w.pool.mark w.pool.mem w.past.been w.pool.version w.pool.closed w.past.owe (upd w.past.owe a (λ c. 0)) w.nodes.ver w.nodes.ver w.nodes.map w.nodes.map i.core (record {
    fewer = λ m c h. (other m c h).1;
    grows = λ j b c. omega arith;
    within = i.core.behind;
    knows = λ j p m c h l. let y = (other m c h).1 in i.core.knows j p m c (omega arith) (omega arith);
  })

  lives : (j : ℕ) → j ≢ a → dying (w.pool.ses j) ≡ false → dying (upd w.pool.ses a Dying j) ≡ false
  lives j q h = rw (upd_other w.pool.ses a j Dying q) h

  -- who lives now is another, and lived
  lived : (j : ℕ) → dying (upd w.pool.ses a Dying j) ≡ false → dying (w.pool.ses j) ≡ false
  lived j = at-upd (λ x. dying x ≡ false → dying (w.pool.ses j) ≡ false) w.pool.ses a Dying j (λ q h. clash refl h) (λ q h. h)

  ups : (j : ℕ) → up (upd w.pool.ses a Dying j) ≡ true → up (w.pool.ses j) ≡ true
  ups j = at-upd (λ x. up x ≡ true → up (w.pool.ses j) ≡ true) w.pool.ses a Dying j (λ q h. clash h refl) (λ q h. h)

  unmarked : (j : ℕ) → upd w.pool.mark a false j ≡ true → ⊥
  unmarked j = at-upd (λ x. x ≡ true → ⊥) w.pool.mark a false j (λ q h. clash h refl) (λ q h. clash u (i.core.marked-alone j h k))

  pub doomed : Inv (awaits (owing (moved w (upd w.pool.ses a Dying) (upd w.pool.mark a false) (w.pool.version + one (up (w.pool.ses a)))) (upd w.past.owe a (λ c. 0)) w.past.acked) Leave a a)
  doomed = record {
    core = record {
      positive = let x = i.core.positive in omega arith;
      closes = forgot.closes;
      below = λ m c. let x = forgot.below m c in omega arith;
      owed-member = forgot.owed-member;
      owed-lives = λ m c h. lives m (other m c h).0 (forgot.owed-lives m c h);
      member = λ j. at-upd (λ x. active x ≡ true → w.pool.mem j ≡ true) w.pool.ses a Dying j (λ q h. clash h refl) (λ q. i.core.member j);
      joined = λ j. at-upd (λ x. there x ≡ true → w.past.been j ≡ true) w.pool.ses a Dying j (λ q h. rw q (i.core.joined a (active-there (w.pool.ses a) e))) (λ q. i.core.joined j);
      some = λ j h. (k, i.core.member k (up-active (w.pool.ses k) u), lives k n (active-lives (w.pool.ses k) (up-active (w.pool.ses k) u)));
      outside = λ j b c. clash u ((i.core.outside j b c).none-up k);
      behind = λ j b c. let x = i.core.behind j b c in omega arith;
      knows = λ j p. forgot.knows j (record { member = p.member; joined = p.joined; lives = lived j p.lives });
      normal = λ j h. forgot.normal j (ups j h);
      marked = λ j h. absurd (unmarked j h);
      marked-active = λ j h. absurd (unmarked j h);
      marked-alone = λ j h. absurd (unmarked j h);
      holder = λ m c h. let p = active-party i.core k (up-active (w.pool.ses k) u) in (k, record { member = p.member; joined = p.joined; lives = lives k n p.lives }, forgot.normal k u);
    };
    quiet = λ t. later w.pool.ses (upd w.pool.ses a Dying) w.pool.mem w.past.been w.pool.version (w.pool.version + one (up (w.pool.ses a))) w.pool.closed w.nodes.ver ups (omega arith) i.core.behind
        (λ j. at-upd (λ x. up (w.pool.ses j) ≡ true → up x ≡ false → w.pool.version < w.pool.version + one (up (w.pool.ses a))) w.pool.ses a Dying j (λ q h y. let x = up_one (up (w.pool.ses a)) (rw q at h) in omega arith) (λ q h y. clash h y))
        (i.quiet (rw z tt));
    life = i.life;
    acked = i.acked;
    run = λ t. absurd t;
    out = λ t. record { parts = rw (upd_same w.pool.ses a Dying); past = λ s. absurd s };
  }

pub doomed-again : (w : World) (i : Inv w) (a : ℕ) → w.hand.job ≡ Idle → w.pool.ses a ≡ Dying → Inv (awaits w Leave a a)
doomed-again w i a z e = record {
  core = i.core;
  quiet = λ t. i.quiet (rw z tt);
  life = i.life;
  acked = i.acked;
  run = λ t. absurd t;
  out = λ t. record { parts = rw e; past = λ s. absurd s };
}

pub disassembled : (w : World) (i : Inv w) (a : ℕ) → w.hand.job ≡ Idle → there (w.pool.ses a) ≡ true → dying (w.pool.ses a) ≡ false
    → Inv (awaits (moved w (upd w.pool.ses a Parting) (upd w.pool.mark a false) (w.pool.version + one (up (w.pool.ses a)))) Leave a a)
disassembled w i a z e d = record {
  core = one-core w i a Parting (upd w.pool.mark a false) (w.pool.version + one (up (w.pool.ses a))) (omega arith) fits marks off;
  quiet = λ t. one-quiet w i a Parting (upd w.pool.mark a false) (w.pool.version + one (up (w.pool.ses a))) (omega arith) fits marks off (λ h. let x = up_one (up (w.pool.ses a)) h in omega arith) (rw z tt);
  life = i.life;
  acked = i.acked;
  run = λ t. absurd t;
  out = λ t. record { parts = rw (upd_same w.pool.ses a Parting); past = λ s. absurd s };
}
  where
    fits : Fits (w.pool.mem a) (w.pool.ses a) Parting
    fits = record { not-up = refl; lives = λ m. sym d; actives = λ h. clash h refl; theres = λ h. e }

    marks : (k : ℕ) → upd w.pool.mark a false k ≡ true → (w.pool.mark k ≡ true) ⊎ ((k ≡ a) × (up (w.pool.ses a) ≡ true) × ((l : ℕ) → l ≢ a → up (w.pool.ses l) ≡ false))
    marks k h = inl (at-upd (λ x. x ≡ true → w.pool.mark k ≡ true) w.pool.mark a false k (λ q y. clash y refl) (λ q y. y) h)

    off : upd w.pool.mark a false a ≡ true → active Parting ≡ true
    off h = clash h (upd_same w.pool.mark a false)

-- ---- LEAVE is done: the entry goes
module _ (w : World) (i : Inv w) (to : ℕ) (closed : Bool) (z : w.hand.job ≡ Leave) (e : w.pool.ses w.hand.src ≡ Dying)
    (c : (closed ≡ w.pool.closed) ⊎ ((k : ℕ) → upd w.pool.mem w.hand.src false k ≡ false)) where
  was : (j : ℕ) → upd w.pool.mem w.hand.src false j ≡ true → w.pool.mem j ≡ true
  was j = at-upd (λ x. x ≡ true → w.pool.mem j ≡ true) w.pool.mem w.hand.src false j (λ q h. clash h refl) (λ q h. h)

  stays : (j : ℕ) → w.pool.mem j ≡ true → dying (w.pool.ses j) ≡ false → upd w.pool.mem w.hand.src false j ≡ true
  stays j h d = at-upd (λ x. x ≡ true) w.pool.mem w.hand.src false j (λ q. clash (let y : dying (w.pool.ses w.hand.src) ≡ true = rw e in y) (rw q at d)) (λ q. h)

  flag : (j : ℕ) → upd w.pool.mem w.hand.src false j ≡ true → closed ≡ w.pool.closed
  flag j h = ⊎_elim (λ x. x) (λ x. clash h (x j)) c

  pub took-out : Inv (awaits (pooled w (upd w.pool.mem w.hand.src false) closed) Info w.hand.src to)
  took-out = record {
    core = record {
      positive = i.core.positive;
      closes = λ m d h. flag m (stays m (i.core.owed-member m d h) (i.core.owed-lives m d h)) ∙ i.core.closes m d h;
      below = i.core.below;
      owed-member = λ m d h. stays m (i.core.owed-member m d h) (i.core.owed-lives m d h);
      owed-lives = i.core.owed-lives;
      member = λ j h. stays j (i.core.member j h) (active-lives (w.pool.ses j) h);
      joined = i.core.joined;
      some = λ j h. let t = i.core.some j h in (t.0, stays t.0 t.1 t.2, t.2);
      outside = λ j a b. let o = i.core.outside j (was j a) b in record { none-up = o.none-up; none-marked = o.none-marked; none-owed = o.none-owed; shut = flag j a ∙ o.shut };
      behind = λ j a b. i.core.behind j (was j a) b;
      knows = λ j p. i.core.knows j (record { member = was j p.member; joined = p.joined; lives = p.lives });
      normal = i.core.normal;
      marked = i.core.marked;
      marked-active = i.core.marked-active;
      marked-alone = i.core.marked-alone;
      holder = λ m d h. let t = i.core.holder m d h in (t.0, record { member = stays t.0 t.1.member t.1.lives; joined = t.1.joined; lives = t.1.lives }, t.2);
    };
    quiet = λ t. let q = i.quiet (rw z tt) in record {
      beside = λ k j u a b x. q.beside k j u (was j a) b x;
      before = λ y j a b x. q.before (sym (flag j a) ∙ y) j (was j a) b x;
    };
    life = i.life;
    acked = λ d h. (let t = i.core.some w.hand.src (i.core.joined w.hand.src (rw e)) in flag t.0 (stays t.0 t.1 t.2)) ∙ i.acked d h;
    run = λ t. absurd t;
    out = λ t. record { parts = rw e; past = λ s h. upd_same w.pool.mem w.hand.src false };
  }

pub left-plain : (w : World) (i : Inv w) (to : ℕ) → w.hand.job ≡ Leave → w.pool.ses w.hand.src ≡ Parting → Inv (awaits w Info w.hand.src to)
left-plain w i to z e = record {
  core = i.core;
  quiet = λ t. i.quiet (rw z tt);
  life = i.life;
  acked = i.acked;
  run = λ t. absurd t;
  out = λ t. record { parts = rw e; past = λ s. rw e (λ h. clash h refl) };
}

pub informed : (w : World) (i : Inv w) (to : ℕ) → w.hand.job ≡ Info → Inv (awaits w Info w.hand.src to)
informed w i to z = record {
  core = i.core;
  quiet = λ t. i.quiet (rw z tt);
  life = i.life;
  acked = i.acked;
  run = λ t. absurd t;
  out = λ t. let o = i.out (rw z tt) in record { parts = o.parts; past = λ s. o.past (rw z tt) };
}

pub freed : (w : World) (i : Inv w) → w.hand.job ≡ Info → Inv (awaits (moved w (upd w.pool.ses w.hand.src Gone) w.pool.mark w.pool.version) Idle w.hand.src w.hand.to)
freed w i z = record {
  core = one-core w i w.hand.src Gone w.pool.mark w.pool.version (omega arith) fits (λ k h. inl h) off;
  quiet = λ t. one-quiet w i w.hand.src Gone w.pool.mark w.pool.version (omega arith) fits (λ k h. inl h) off (λ h. clash (up-active (w.pool.ses w.hand.src) h) o.parts) (rw z tt);
  life = i.life;
  acked = i.acked;
  run = λ t. absurd t;
  out = λ t. absurd t;
}
  where
    o : Removing w.hand.job w.hand.src w.pool.ses w.pool.mem
    o = i.out (rw z tt)

    fits : Fits (w.pool.mem w.hand.src) (w.pool.ses w.hand.src) Gone
    fits = record {
      not-up = refl;
      lives = λ m. by_cases (dying (w.pool.ses w.hand.src)) (λ d. clash m (o.past (rw z tt) d)) (λ d. sym d);
      actives = λ h. clash h refl;
      theres = λ h. clash h refl;
    }

    off : w.pool.mark w.hand.src ≡ true → active Gone ≡ true
    off h = clash (i.core.marked-active w.hand.src h) o.parts

pub halted : (w : World) (i : Inv w) → T (removes w.hand.job) → Inv (awaits w Idle w.hand.src w.hand.to)
halted w i t = record {
  core = i.core;
  quiet = λ s. i.quiet (removes-still w.hand.job t);
  life = i.life;
  acked = i.acked;
  run = λ s. absurd s;
  out = λ s. absurd s;
}

-- ---- messages of a delete
told : (w : World) (i : Inv w) → T (removes w.hand.job) → (map : ℕ → Map) → ((j : ℕ) → Party w.pool.ses w.pool.mem w.past.been j → (m c : ℕ) → 0 < w.past.owe m c → w.nodes.map j m c ≡ true → map j m c ≡ true)
    → Inv (at_nodes (arrived w Taken) w.nodes.ver map)
told w i t map keep = record {
  core = changed w.pool.ses w.pool.mark w.pool.mem w.past.been w.pool.version w.pool.closed w.past.owe w.past.owe w.nodes.ver w.nodes.ver w.nodes.map map i.core (record {
    fewer = λ m c h. refl;
    grows = λ j a b. omega arith;
    within = i.core.behind;
    knows = λ j p m c h l. keep j p m c h (i.core.knows j p m c h l);
  });
  quiet = i.quiet;
  life = i.life;
  acked = i.acked;
  run = λ s. not-both w.hand.job (removes-still w.hand.job t) s;
  out = i.out;
}

pub in-leave : (w : World) (i : Inv w) → w.hand.job ≡ Leave → w.pool.ses w.hand.src ≡ Dying → Inv (at_nodes (arrived w Taken) w.nodes.ver (upd w.nodes.map w.hand.src none))
in-leave w i z e = told w i (rw z tt) (upd w.nodes.map w.hand.src none)
    (λ j p m c h. at-upd (λ x. w.nodes.map j m c ≡ true → x m c ≡ true) w.nodes.map w.hand.src none j (λ q y. clash (let d : dying (w.pool.ses w.hand.src) ≡ true = rw e in d) (rw q at p.lives)) (λ q y. y))

pub in-info : (w : World) (i : Inv w) → w.hand.job ≡ Info → w.pool.ses w.hand.src ≡ Dying → Inv (at_nodes (arrived w Taken) w.nodes.ver (rowless w.hand.src w.nodes.map))
in-info w i z e = told w i (rw z tt) (rowless w.hand.src w.nodes.map)
    (λ j p m c h y. let n : m ≢ w.hand.src = (λ r. clash (let d : dying (w.pool.ses w.hand.src) ≡ true = rw e in d) (rw r at (i.core.owed-lives m c h))) in and_both (other_row m w.hand.src n) y)
