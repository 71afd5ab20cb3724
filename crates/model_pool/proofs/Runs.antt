-- Runs keep the invariant: how they begin, what their messages do, how they go on and end.
use mathlib.Core.Path.{◌≡◌, refl, sym, ◌∙◌}
use mathlib.Core.Bool.{Bool, true, false}
use mathlib.Core.Logic.{inl, ⊎_elim}
use Prim.Native.Nat.{ℕ, zero, suc, ◌≤◌}
use native.Mathlib.Omega.{arith}
use lib.Dec.{T}
use Rattle.laws_words.specs.Tests.{clash, by_cases}
use Rattle.model_pool.specs.Model.{Again, up, Base, Gather, Spread, Ready, Send, Done, Job, Idle, Get, LastIo, Enable, Leave, Info, Move, Under, Taken, asks, still, removes, World}
use Rattle.model_pool.specs.Invariant.{Over, Party, Core, Life, Asked, Run, Inv, lands, given, kept}
use Rattle.model_pool.specs.Steps.{awaits, arrived, noted, heard, ended, judged, Better, enters}
use Rattle.model_pool.proofs.Ground.{at-upd, up-active}
use Rattle.model_pool.proofs.ModelSessions.{Shifts, shifted, ended-quiet}
use Rattle.model_pool.proofs.ModelNodes.{active-party}

abbrev pub CoreOf : World → Type 0
CoreOf w = Core w.pool.ses w.pool.mark w.pool.mem w.past.been w.pool.version w.pool.closed w.past.owe w.nodes.ver w.nodes.map

abbrev pub LifeOf : World → Type 0
LifeOf w = Life w.past.been w.past.ever w.past.wait w.nodes.ver

pub again-party : (w : World) → CoreOf w → (j : ℕ) → w.pool.ses j ≡ Again → Party w.pool.ses w.pool.mem w.past.been j
again-party w i j e = active-party i j (rw e)

-- ---- the first message of a phase
enters-lands : (j : Job) → T (enters j) → T (lands j Under) → ⊥
enters-lands Idle e t = t
enters-lands Get e t = t
enters-lands LastIo e t = t
enters-lands Enable e t = t
enters-lands Leave e t = t
enters-lands Info e t = t
enters-lands (Move k Ready) e t = t
enters-lands (Move k Send) e t = t
enters-lands (Move k Done) e t = t

enters-given : (j : Job) → T (enters j) → T (given j Under) → ⊥
enters-given Idle e t = t
enters-given Get e t = t
enters-given LastIo e t = t
enters-given Enable e t = t
enters-given Leave e t = t
enters-given Info e t = t
enters-given (Move k Ready) e t = t
enters-given (Move k Send) e t = t
enters-given (Move k Done) e t = e

enters-kept : (j : Job) → T (enters j) → T (kept j Under) → ⊥
enters-kept Idle e t = t
enters-kept Get e t = t
enters-kept LastIo e t = t
enters-kept Enable e t = t
enters-kept Leave e t = t
enters-kept Info e t = t
enters-kept (Move Base s) e t = t
enters-kept (Move Gather Ready) e t = t
enters-kept (Move Gather Send) e t = e
enters-kept (Move Gather Done) e t = e
enters-kept (Move Spread s) e t = t

enters-asks : (j : Job) → T (enters j) → T (asks j) → ⊥
enters-asks Idle e t = t
enters-asks Get e t = e
enters-asks LastIo e t = t
enters-asks Enable e t = t
enters-asks Leave e t = t
enters-asks Info e t = t
enters-asks (Move k s) e t = t

enters-still : (j : Job) → T (enters j) → T (still j) → ⊥
enters-still Idle e t = e
enters-still Get e t = t
enters-still LastIo e t = t
enters-still Enable e t = t
enters-still Leave e t = e
enters-still Info e t = e
enters-still (Move k s) e t = t

enters-removes : (j : Job) → T (enters j) → T (removes j) → ⊥
enters-removes Idle e t = t
enters-removes Get e t = t
enters-removes LastIo e t = t
enters-removes Enable e t = t
enters-removes Leave e t = e
enters-removes Info e t = e
enters-removes (Move k s) e t = t

-- with a source that is new enough for all a phase may begin
pub enter : (w : World) (j : Job) (src to : ℕ) → T (enters j) → CoreOf w → LifeOf w → ((c : ℕ) → w.past.acked c ≡ true → w.pool.closed ≡ true) → ((k : ℕ) → w.pool.mem k ≡ true → w.past.been k ≡ true) → Party w.pool.ses w.pool.mem w.past.been to → Party w.pool.ses w.pool.mem w.past.been src → Over w.past.owe (w.nodes.ver src)
    → Inv (awaits w j src to)
enter w j src to e core life acked all p q o = record {
  core = core;
  quiet = λ t. absurd (enters-still j e t);
  life = life;
  acked = acked;
  run = λ t. record {
    all = all;
    other = p;
    asked = λ t. absurd (enters-asks j e t);
    source = λ t. q;
    top = λ t. o;
    landed = λ t. absurd (enters-lands j e t);
    staged = λ t. absurd (enters-given j e t);
    gathers = λ t. absurd (enters-kept j e t);
  };
  out = λ t. absurd (enters-removes j e t);
}

-- a run ends
pub over : (w : World) → CoreOf w → LifeOf w → ((c : ℕ) → w.past.acked c ≡ true → w.pool.closed ≡ true) → Inv (ended w)
over w core life acked = record {
  core = shifted w.pool.ses w.pool.ses w.pool.mark w.pool.mark w.pool.mem w.past.been w.pool.version (suc w.pool.version) w.pool.closed w.past.owe w.nodes.ver w.nodes.map core same;
  quiet = λ t. ended-quiet w.pool.ses w.pool.ses w.pool.mark w.pool.mark w.pool.mem w.past.been w.pool.version (suc w.pool.version) w.pool.closed w.past.owe w.nodes.ver w.nodes.map core same (omega arith);
  life = life;
  acked = acked;
  run = λ t. absurd t;
  out = λ t. absurd t;
}
  where
    same : Shifts w.pool.ses w.pool.ses w.pool.mark w.pool.mark w.pool.mem w.pool.version (suc w.pool.version)
    same = record { ups = λ j h. h; lives = λ j m. refl; actives = λ j h. h; theres = λ j h. h; rises = omega arith; still-active = core.marked-active; marks = λ j h. inl h }

-- ---- beginnings
pub try-1 : (w : World) (i : Inv w) (s r : ℕ) → up (w.pool.ses s) ≡ true → w.pool.ses r ≡ Again → Inv (awaits w (Move Spread Ready) s r)
try-1 w i s r u e =
    enter w (Move Spread Ready) s r tt i.core i.life i.acked
    (λ k m. by_cases (w.past.been k) (λ b. b) (λ b. clash u ((i.core.outside k m b).none-up s)))
    (again-party w i.core r e)
    (active-party i.core s (up-active (w.pool.ses s) u))
    (i.core.normal s u)

pub try-2 : (w : World) (i : Inv w) (s : ℕ) → w.pool.mark s ≡ true → w.pool.ses s ≡ Again → Inv (awaits w Enable s s)
try-2 w i s u e =
    enter w Enable s s tt i.core i.life i.acked
    (λ k m. by_cases (w.past.been k) (λ b. b) (λ b. clash u ((i.core.outside k m b).none-marked s)))
    (again-party w i.core s e)
    (again-party w i.core s e)
    (i.core.marked s u)

pub try-3 : (w : World) (i : Inv w) (x s best : ℕ) (left : ℕ → Bool) → w.pool.mem x ≡ true → ((k : ℕ) → w.pool.mem k ≡ true → w.pool.ses k ≡ Again) → ((k : ℕ) → w.pool.mem k ≡ true → left k ≡ true) → Inv (noted (awaits w Get s x) left best false)
try-3 w i x s best left e h l = record {
  core = i.core;
  quiet = λ t. absurd t;
  life = i.life;
  acked = i.acked;
  run = λ t. record {
    all = λ k m. (again-party w i.core k (h k m)).joined;
    other = again-party w i.core x (h x e);
    asked = λ t. record {
      lives = λ k m. (again-party w i.core k (h k m)).lives;
      most = λ j a b. clash (l j a) b;
      nobody = λ a. l;
      its-member = λ a. clash a refl;
      its = λ a. clash a refl;
      carries = λ t. absurd t;
    };
    source = λ t. absurd t;
    top = λ t. absurd t;
    landed = λ t. absurd t;
    staged = λ t. absurd t;
    gathers = λ t. absurd t;
  };
  out = λ t. absurd t;
}

-- ---- MAP_GET_VER
pub in-get : (w : World) (i : Inv w) → w.hand.job ≡ Get → Inv (heard (arrived w Taken) (w.nodes.ver w.hand.to))
in-get w i e = record {
  core = i.core;
  quiet = i.quiet;
  life = i.life;
  acked = i.acked;
  run = λ t. let r = i.run t in record {
    all = r.all;
    other = r.other;
    asked = λ a. let h = r.asked a in record { lives = h.lives; most = h.most; nobody = h.nobody; its-member = h.its-member; its = h.its; carries = λ t. refl };
    source = r.source;
    top = r.top;
    landed = rw e (λ t. absurd t);
    staged = rw e (λ t. absurd t);
    gathers = rw e (λ t. absurd t);
  };
  out = i.out;
}

-- who was asked last is counted in
judge : (w : World) (i : Inv w) (s b : ℕ) → w.hand.job ≡ Get → w.hand.fate ≡ Taken → Better w s b
    → Asked Under s w.hand.to (judged w s b).hand.left b true w.hand.says w.pool.ses w.pool.mem w.nodes.ver
judge w i s b e f j = record {
  lives = h.lives;
  most = λ k m. at-upd (λ x. x ≡ false → w.nodes.ver k ≤ b) w.hand.left w.hand.to false k
      (λ q z. ⊎_elim (λ t. let x = t.1 in rw q (omega (arith, says))) (λ t. let x = t.1 in let y = t.3 in rw q (omega (arith, says))) j)
      (λ n z. ⊎_elim
      (λ t. by_cases w.hand.chosen (λ c. let x = h.most k m z in let y = t.2 c in let v = t.1 in omega arith) (λ c. clash (h.nobody c k m) z))
      (λ t. let x = h.most k m z in let v = t.1 in omega arith)
      j);
  nobody = λ c. clash refl c;
  its-member = λ c. ⊎_elim (λ t. rw t.0 r.other.member) (λ t. rw t.0 (h.its-member t.2)) j;
  its = λ c. ⊎_elim (λ t. rw t.0 (sym says ∙ sym t.1)) (λ t. rw t.0 (h.its t.2 ∙ sym t.1)) j;
  carries = λ t. absurd t;
}
  where
    r : Run w.hand.job w.hand.fate w.hand.src w.hand.to w.hand.left w.hand.best w.hand.chosen w.hand.says w.pool.ses w.pool.mem w.past.been w.past.owe w.nodes.ver w.nodes.stg w.nodes.tr
    r = i.run (rw e tt)

    h : Asked w.hand.fate w.hand.src w.hand.to w.hand.left w.hand.best w.hand.chosen w.hand.says w.pool.ses w.pool.mem w.nodes.ver
    h = r.asked (rw e tt)

    says : w.hand.says ≡ w.nodes.ver w.hand.to
    says = h.carries (rw f tt)

-- the next is asked
pub good-get : (w : World) (i : Inv w) (s b to : ℕ) → w.hand.job ≡ Get → w.hand.fate ≡ Taken → Better w s b → w.pool.ses to ≡ Again → Inv (awaits (judged w s b) Get s to)
good-get w i s b to e f j a = let h = judge w i s b e f j in record {
  core = i.core;
  quiet = λ t. absurd t;
  life = i.life;
  acked = i.acked;
  run = λ t. record {
    all = (i.run (rw e tt)).all;
    other = again-party w i.core to a;
    asked = λ t. record { lives = h.lives; most = h.most; nobody = h.nobody; its-member = h.its-member; its = h.its; carries = λ t. absurd t };
    source = λ t. absurd t;
    top = λ t. absurd t;
    landed = λ t. absurd t;
    staged = λ t. absurd t;
    gathers = λ t. absurd t;
  };
  out = λ t. absurd t;
}

-- all have answered: the chosen is new enough for all that is owed
highest : (w : World) (i : CoreOf w) (s best : ℕ) → ((k : ℕ) → w.pool.mem k ≡ true → w.nodes.ver k ≤ best) → w.nodes.ver s ≡ best → Over w.past.owe (w.nodes.ver s)
highest w i s best most its m c = go (w.past.owe m c) refl
  where
    go : (n : ℕ) → w.past.owe m c ≡ n → w.past.owe m c ≤ w.nodes.ver s
    go zero e = omega arith
    go (suc n) e =
        let t = i.holder m c (omega arith) in
        let x = t.2 m c in
        let y = most t.0 t.1.member in
        omega arith

pub good-got : (w : World) (i : Inv w) (s b : ℕ) (j : Job) (to : ℕ) → w.hand.job ≡ Get → w.hand.fate ≡ Taken → Better w s b → ((k : ℕ) → w.pool.mem k ≡ true → (judged w s b).hand.left k ≡ false)
    → T (enters j) → w.pool.ses to ≡ Again → Inv (awaits (judged w s b) j s to)
good-got w i s b j to e f q all n a =
    let h = judge w i s b e f q in
    let been = (i.run (rw e tt)).all in
    enter (judged w s b) j s to n i.core i.life i.acked been (again-party w i.core to a)
    (record { member = h.its-member refl; joined = been s (h.its-member refl); lives = h.lives s (h.its-member refl) })
    (highest w i.core s b (λ k m. h.most k m (all k m)) (h.its refl))
