-- The messages of a spread, LAST_IO_TO_MAP and ENABLE_POOL arrive; answers are taken.
use mathlib.Core.Path.{◌≡◌, ◌∙◌}
use mathlib.Core.Bool.{true, ◌&&◌}
use Prim.Native.Nat.{ℕ}
use lib.Dec.{T}
use Rattle.laws_words.specs.Tests.{clash}
use Rattle.model_pool.specs.Model.{upd, Again, Kind, Base, Gather, Spread, keeps, giver, receiver, Ready, Send, Done, Job, Idle, Get, LastIo, Enable, Leave, Info, Move, Fate, Under, Taken, Refused, asks, sourced, running, none, within, merge, Shut, Begun, Got, opened, World}
use Rattle.model_pool.specs.Invariant.{Over, Full, Party, Life, Run, Inv, lander, lands, given, kept, kept_by}
use Rattle.model_pool.specs.Steps.{awaits, arrived, at_nodes, transfers, ended, raised, enters, enables, plain}
use Rattle.model_pool.proofs.Ground.{upd_same, upd_other, or_left, or_right, not-both}
use Rattle.model_pool.proofs.ModelNodes.{full, committed, commits-over, commits-at, risen, rise-party}
use Rattle.model_pool.proofs.Own.{on-lander}
use Rattle.model_pool.proofs.Runs.{CoreOf, again-party, enter, over}

abbrev pub RunOf : World → Job → Fate → Type 0
RunOf w j f = Run j f w.hand.src w.hand.to w.hand.left w.hand.best w.hand.chosen w.hand.says w.pool.ses w.pool.mem w.past.been w.past.owe w.nodes.ver w.nodes.stg w.nodes.tr

-- the run in hand, with its message known
known : (w : World) (i : Inv w) (j : Job) (f : Fate) → T (running j) → w.hand.job ≡ j → w.hand.fate ≡ f → RunOf w j f
known w i j f t e g = rw (e, g) at (i.run (rw e t))

-- H2: the source has all that is owed
source-full : (w : World) (i : Inv w) (j : Job) (f : Fate) → T (sourced j) → RunOf w j f → Full w.past.owe (w.nodes.map w.hand.src)
source-full w i j f t r = full i.core w.hand.src (r.source t) (r.top t)

-- ---- MAP_READY
pub in-ready : (k : Kind) (w : World) (i : Inv w) → w.hand.job ≡ Move k Ready → w.hand.fate ≡ Under
    → Inv (transfers (arrived w Taken) (upd w.nodes.stg (receiver k w.hand.src w.hand.to) (λ m c. keeps k && w.nodes.map (receiver k w.hand.src w.hand.to) m c)) (upd w.nodes.tr (receiver k w.hand.src w.hand.to) Begun))
in-ready k w i e f = record {
  core = i.core;
  quiet = i.quiet;
  life = i.life;
  acked = i.acked;
  run = λ t. let r = i.run t in record {
    all = r.all;
    other = r.other;
    asked = rw e (λ t. absurd t);
    source = r.source;
    top = r.top;
    landed = rw e (λ t. absurd t);
    staged = rw e (λ t. absurd t);
    gathers = rw e (go k e);
  };
  out = i.out;
}
  where
    go : (k : Kind) → w.hand.job ≡ Move k Ready → T (kept_by k Ready Taken) → T (opened (upd w.nodes.tr (receiver k w.hand.src w.hand.to) Begun w.hand.src)) → Full w.past.owe (upd w.nodes.stg (receiver k w.hand.src w.hand.to) (λ m c. keeps k && w.nodes.map (receiver k w.hand.src w.hand.to) m c) w.hand.src)
    go Base e t u = absurd t
    go Gather e t u = rw (upd_same w.nodes.stg w.hand.src (λ m c. true && w.nodes.map w.hand.src m c)) (source-full w i (Move Gather Ready) Under tt (known w i (Move Gather Ready) Under tt e f))
    go Spread e t u = absurd t

-- ---- MAP_SEND
merged : (k : Kind) (w : World) (i : Inv w) → w.hand.job ≡ Move k Send → w.hand.fate ≡ Under → opened (w.nodes.tr (receiver k w.hand.src w.hand.to)) ≡ true
    → Full w.past.owe (merge (w.nodes.stg (receiver k w.hand.src w.hand.to)) (w.nodes.map (giver k w.hand.src w.hand.to)))
merged Base w i e f o m c h = or_right (w.nodes.stg w.hand.to m c) (w.nodes.map w.hand.src m c) (source-full w i (Move Base Send) Under tt (known w i (Move Base Send) Under tt e f) m c h)
merged Gather w i e f o m c h = or_left (w.nodes.stg w.hand.src m c) (w.nodes.map w.hand.to m c) ((known w i (Move Gather Send) Under tt e f).gathers tt (rw o tt) m c h)
merged Spread w i e f o m c h = or_right (w.nodes.stg w.hand.to m c) (w.nodes.map w.hand.src m c) (source-full w i (Move Spread Send) Under tt (known w i (Move Spread Send) Under tt e f) m c h)

pub in-send : (k : Kind) (g : Fate) (w : World) (i : Inv w) → w.hand.job ≡ Move k Send → w.hand.fate ≡ Under → opened (w.nodes.tr (receiver k w.hand.src w.hand.to)) ≡ true
    → Inv (transfers (arrived w g) (upd w.nodes.stg (receiver k w.hand.src w.hand.to) (merge (w.nodes.stg (receiver k w.hand.src w.hand.to)) (w.nodes.map (giver k w.hand.src w.hand.to)))) (upd w.nodes.tr (receiver k w.hand.src w.hand.to) Got))
in-send k g w i e f o = record {
  core = i.core;
  quiet = i.quiet;
  life = i.life;
  acked = i.acked;
  run = λ t. let r = i.run t in record {
    all = r.all;
    other = r.other;
    asked = rw e (λ t. absurd t);
    source = r.source;
    top = r.top;
    landed = rw e (λ t. absurd t);
    staged = rw e (λ t u. rw (upd_same w.nodes.stg (receiver k w.hand.src w.hand.to) (merge (w.nodes.stg (receiver k w.hand.src w.hand.to)) (w.nodes.map (giver k w.hand.src w.hand.to)))) (merged k w i e f o));
    gathers = rw e (go k e o);
  };
  out = i.out;
}
  where
    go : (k : Kind) → w.hand.job ≡ Move k Send → opened (w.nodes.tr (receiver k w.hand.src w.hand.to)) ≡ true → T (kept_by k Send g) → T (opened (upd w.nodes.tr (receiver k w.hand.src w.hand.to) Got w.hand.src)) → Full w.past.owe (upd w.nodes.stg (receiver k w.hand.src w.hand.to) (merge (w.nodes.stg (receiver k w.hand.src w.hand.to)) (w.nodes.map (giver k w.hand.src w.hand.to))) w.hand.src)
    go Base e o t u = absurd t
    go Gather e o t u = rw (upd_same w.nodes.stg w.hand.src (merge (w.nodes.stg w.hand.src) (w.nodes.map w.hand.to))) (merged Gather w i e f o)
    go Spread e o t u = absurd t

-- ---- MAP_DONE and ENABLE_POOL
-- a node that waits for its create join is none of those in session
waits : (w : World) (i : Inv w) (r v : ℕ) → w.past.been r ≡ true → Life w.past.been w.past.ever w.past.wait (upd w.nodes.ver r v)
waits w i r v b = record {
  known = i.life.known;
  fresh = λ k h. upd_other w.nodes.ver r k v (λ q. clash b (rw q at (i.life.first k h))) ∙ i.life.fresh k h;
  first = i.life.first;
  came = i.life.came;
}

pub in-done : (k : Kind) (w : World) (i : Inv w) → w.hand.job ≡ Move k Done → w.hand.fate ≡ Under → w.nodes.tr (receiver k w.hand.src w.hand.to) ≡ Got
    → Inv (transfers (at_nodes (arrived w Taken) (upd w.nodes.ver (receiver k w.hand.src w.hand.to) w.pool.version) (upd w.nodes.map (receiver k w.hand.src w.hand.to) (within w.pool.mem (w.nodes.stg (receiver k w.hand.src w.hand.to))))) (upd w.nodes.stg (receiver k w.hand.src w.hand.to) none) (upd w.nodes.tr (receiver k w.hand.src w.hand.to) Shut))
in-done k w i e f g = record {
  core = committed w.pool.ses w.pool.mark w.pool.mem w.past.been w.pool.version w.pool.closed w.past.owe w.nodes.ver w.nodes.map r (w.nodes.stg r) i.core all;
  quiet = λ t. not-both w.hand.job t (rw e tt);
  life = waits w i r w.pool.version (on-lander (λ j. w.past.been j ≡ true) (Move k Done) w.hand.src w.hand.to now.other.joined (λ s. (now.source s).joined));
  acked = i.acked;
  run = λ t. record {
    all = now.all;
    other = now.other;
    asked = rw e (λ t. absurd t);
    source = λ t. now.source tt;
    top = λ t. commits-over w.pool.ses w.pool.mark w.pool.mem w.past.been w.pool.version w.pool.closed w.past.owe w.nodes.ver w.nodes.map r (w.nodes.stg r) i.core all w.hand.src (now.source tt).member (now.source tt).joined (now.top tt);
    landed = rw e (λ t. commits-at w.pool.ses w.pool.mark w.pool.mem w.past.been w.pool.version w.pool.closed w.past.owe w.nodes.ver w.nodes.map r (w.nodes.stg r) i.core all);
    staged = rw e (λ t. rw (upd_same w.nodes.tr r Shut) (λ u. absurd u));
    gathers = rw e (go k);
  };
  out = rw e (λ t. absurd t);
}
  where
    r : ℕ
    r = receiver k w.hand.src w.hand.to

    now : RunOf w (Move k Done) Under
    now = known w i (Move k Done) Under tt e f

    all : Full w.past.owe (w.nodes.stg (receiver k w.hand.src w.hand.to))
    all = now.staged tt (rw g tt)

    go : (k : Kind) → T (kept_by k Done Taken) → T (opened (upd w.nodes.tr (receiver k w.hand.src w.hand.to) Shut w.hand.src)) → Full w.past.owe (upd w.nodes.stg (receiver k w.hand.src w.hand.to) none w.hand.src)
    go Base t = absurd t
    go Gather t = rw (upd_same w.nodes.tr w.hand.src Shut) (λ u. absurd u)
    go Spread t = absurd t

pub in-enable : (w : World) (i : Inv w) → w.hand.job ≡ Enable → w.hand.fate ≡ Under
    → Inv (transfers (at_nodes (arrived w Taken) (upd w.nodes.ver w.hand.src w.pool.version) (upd w.nodes.map w.hand.src (within w.pool.mem (w.nodes.map w.hand.src)))) (upd w.nodes.stg w.hand.src none) (upd w.nodes.tr w.hand.src Shut))
in-enable w i e f = record {
  core = committed w.pool.ses w.pool.mark w.pool.mem w.past.been w.pool.version w.pool.closed w.past.owe w.nodes.ver w.nodes.map w.hand.src (w.nodes.map w.hand.src) i.core all;
  quiet = λ t. not-both w.hand.job t (rw e tt);
  life = waits w i w.hand.src w.pool.version (now.source tt).joined;
  acked = i.acked;
  run = λ t. record {
    all = now.all;
    other = now.other;
    asked = rw e (λ t. absurd t);
    source = λ t. now.source tt;
    top = λ t. commits-at w.pool.ses w.pool.mark w.pool.mem w.past.been w.pool.version w.pool.closed w.past.owe w.nodes.ver w.nodes.map w.hand.src (w.nodes.map w.hand.src) i.core all;
    landed = rw e (λ t. commits-at w.pool.ses w.pool.mark w.pool.mem w.past.been w.pool.version w.pool.closed w.past.owe w.nodes.ver w.nodes.map w.hand.src (w.nodes.map w.hand.src) i.core all);
    staged = rw e (λ t. absurd t);
    gathers = rw e (λ t. absurd t);
  };
  out = rw e (λ t. absurd t);
}
  where
    now : RunOf w Enable Under
    now = known w i Enable Under tt e f

    all : Full w.past.owe (w.nodes.map w.hand.src)
    all = source-full w i Enable Under tt now

-- ---- LAST_IO_TO_MAP, a removal's message that changes nothing
plain-lands : (j : Job) → T (plain j) → T (lands j Taken) → ⊥
plain-lands Idle p t = t
plain-lands Get p t = t
plain-lands LastIo p t = t
plain-lands Enable p t = p
plain-lands Leave p t = t
plain-lands Info p t = t
plain-lands (Move k s) p t = p

plain-given : (j : Job) → T (plain j) → T (given j Taken) → ⊥
plain-given Idle p t = t
plain-given Get p t = t
plain-given LastIo p t = t
plain-given Enable p t = t
plain-given Leave p t = t
plain-given Info p t = t
plain-given (Move k s) p t = p

plain-kept : (j : Job) → T (plain j) → T (kept j Taken) → ⊥
plain-kept Idle p t = t
plain-kept Get p t = t
plain-kept LastIo p t = t
plain-kept Enable p t = t
plain-kept Leave p t = t
plain-kept Info p t = t
plain-kept (Move k s) p t = p

plain-asks : (j : Job) → T (plain j) → T (asks j) → ⊥
plain-asks Idle p t = t
plain-asks Get p t = p
plain-asks LastIo p t = t
plain-asks Enable p t = t
plain-asks Leave p t = t
plain-asks Info p t = t
plain-asks (Move k s) p t = t

pub in-plain : (w : World) (i : Inv w) → T (plain w.hand.job) → Inv (arrived w Taken)
in-plain w i p = record {
  core = i.core;
  quiet = i.quiet;
  life = i.life;
  acked = i.acked;
  run = λ t. let r = i.run t in record {
    all = r.all;
    other = r.other;
    asked = λ a. absurd (plain-asks w.hand.job p a);
    source = r.source;
    top = r.top;
    landed = λ a. absurd (plain-lands w.hand.job p a);
    staged = λ a. absurd (plain-given w.hand.job p a);
    gathers = λ a. absurd (plain-kept w.hand.job p a);
  };
  out = i.out;
}

-- ---- refused
refused-lands : (j : Job) → T (lands j Refused) → ⊥
refused-lands Idle t = t
refused-lands Get t = t
refused-lands LastIo t = t
refused-lands Enable t = t
refused-lands Leave t = t
refused-lands Info t = t
refused-lands (Move k Ready) t = t
refused-lands (Move k Send) t = t
refused-lands (Move k Done) t = t

refused-given : (j : Job) → T (given j Refused) → T (given j Under)
refused-given Idle t = t
refused-given Get t = t
refused-given LastIo t = t
refused-given Enable t = t
refused-given Leave t = t
refused-given Info t = t
refused-given (Move k Ready) t = t
refused-given (Move k Send) t = t
refused-given (Move k Done) t = t

refused-kept : (j : Job) → T (kept j Refused) → T (kept j Under)
refused-kept Idle t = t
refused-kept Get t = t
refused-kept LastIo t = t
refused-kept Enable t = t
refused-kept Leave t = t
refused-kept Info t = t
refused-kept (Move Base s) t = t
refused-kept (Move Gather Ready) t = t
refused-kept (Move Gather Send) t = t
refused-kept (Move Gather Done) t = t
refused-kept (Move Spread s) t = t

pub in-refused : (w : World) (i : Inv w) → w.hand.fate ≡ Under → Inv (arrived w Refused)
in-refused w i f = record {
  core = i.core;
  quiet = i.quiet;
  life = i.life;
  acked = i.acked;
  run = λ t. let r = i.run t in record {
    all = r.all;
    other = r.other;
    asked = λ a. let h = r.asked a in record { lives = h.lives; most = h.most; nobody = h.nobody; its-member = h.its-member; its = h.its; carries = λ t. absurd t };
    source = r.source;
    top = r.top;
    landed = λ t. absurd (refused-lands w.hand.job t);
    staged = λ t. r.staged (rw f (refused-given w.hand.job t));
    gathers = λ t. r.gathers (rw f (refused-kept w.hand.job t));
  };
  out = i.out;
}

-- ---- good answers
ready-kept : (k : Kind) → T (kept_by k Send Under) → T (kept_by k Ready Taken)
ready-kept Base t = t
ready-kept Gather t = t
ready-kept Spread t = t

send-kept : (k : Kind) → T (kept_by k Done Under) → T (kept_by k Send Taken)
send-kept Base t = t
send-kept Gather t = t
send-kept Spread t = t

pub good-ready : (k : Kind) (w : World) (i : Inv w) → w.hand.job ≡ Move k Ready → w.hand.fate ≡ Taken → Inv (awaits w (Move k Send) w.hand.src w.hand.to)
good-ready k w i e f = record {
  core = i.core;
  quiet = λ t. absurd t;
  life = i.life;
  acked = i.acked;
  run = λ t. let r = known w i (Move k Ready) Taken tt e f in record {
    all = r.all;
    other = r.other;
    asked = λ t. absurd t;
    source = r.source;
    top = r.top;
    landed = λ t. absurd t;
    staged = λ t. absurd t;
    gathers = λ t. r.gathers (ready-kept k t);
  };
  out = λ t. absurd t;
}

pub good-send : (k : Kind) (w : World) (i : Inv w) → w.hand.job ≡ Move k Send → w.hand.fate ≡ Taken → Inv (awaits w (Move k Done) w.hand.src w.hand.to)
good-send k w i e f = record {
  core = i.core;
  quiet = λ t. absurd t;
  life = i.life;
  acked = i.acked;
  run = λ t. let r = known w i (Move k Send) Taken tt e f in record {
    all = r.all;
    other = r.other;
    asked = λ t. absurd t;
    source = r.source;
    top = r.top;
    landed = λ t. absurd t;
    staged = λ t. r.staged t;
    gathers = λ t. r.gathers (send-kept k t);
  };
  out = λ t. absurd t;
}

sourced-running : (j : Job) → T (sourced j) → T (running j)
sourced-running Idle t = t
sourced-running Get t = tt
sourced-running LastIo t = tt
sourced-running Enable t = tt
sourced-running Leave t = t
sourced-running Info t = t
sourced-running (Move a b) t = tt

-- the next turn, or the next phase, with the same source
pub onward : (w : World) (i : Inv w) (j : Job) (to : ℕ) → T (sourced w.hand.job) → T (enters j) → w.pool.ses to ≡ Again → Inv (awaits w j w.hand.src to)
onward w i j to s n a =
    let r = i.run (sourced-running w.hand.job s) in
    enter w j w.hand.src to n i.core i.life i.acked r.all (again-party w i.core to a) (r.source s) (r.top s)

enables-lands : (j : Job) → T (enables j) → T (lands j Taken)
enables-lands Idle t = t
enables-lands Get t = t
enables-lands LastIo t = t
enables-lands Enable t = t
enables-lands Leave t = t
enables-lands Info t = t
enables-lands (Move Base s) t = absurd t
enables-lands (Move Gather s) t = absurd t
enables-lands (Move Spread Ready) t = t
enables-lands (Move Spread Send) t = t
enables-lands (Move Spread Done) t = t

enables-sourced : (j : Job) → T (enables j) → T (sourced j)
enables-sourced Idle t = t
enables-sourced Get t = t
enables-sourced LastIo t = tt
enables-sourced Enable t = t
enables-sourced Leave t = t
enables-sourced Info t = t
enables-sourced (Move k s) t = tt

module _ (w : World) (i : Inv w) (f : w.hand.fate ≡ Taken) (n : T (enables w.hand.job)) where
  s : T (sourced w.hand.job)
  s = enables-sourced w.hand.job n

  r : RunOf w w.hand.job w.hand.fate
  r = i.run (sourced-running w.hand.job s)

  x-party : Party w.pool.ses w.pool.mem w.past.been (lander w.hand.job w.hand.src w.hand.to)
  x-party = on-lander (λ j. Party w.pool.ses w.pool.mem w.past.been j) w.hand.job w.hand.src w.hand.to r.other r.source

  x-over : Over w.past.owe (w.nodes.ver (lander w.hand.job w.hand.src w.hand.to))
  x-over = r.landed (rw f (enables-lands w.hand.job n))

  up-core : CoreOf (raised w)
  up-core = risen w.pool.ses w.pool.mark w.pool.mem w.past.been w.pool.version w.pool.closed w.past.owe w.nodes.ver w.nodes.map (lander w.hand.job w.hand.src w.hand.to) i.core r.all x-party x-over

  pub good-up : (to : ℕ) → (raised w).pool.ses to ≡ Again → Inv (awaits (raised w) (Move Spread Ready) w.hand.src to)
  good-up to a = enter (raised w) (Move Spread Ready) w.hand.src to tt up-core i.life i.acked r.all (again-party (raised w) up-core to a)
      (rise-party w.pool.ses w.pool.mark w.pool.mem w.past.been w.pool.version w.pool.closed w.past.owe w.nodes.ver w.nodes.map (lander w.hand.job w.hand.src w.hand.to) i.core r.all x-party x-over w.hand.src (r.source s))
      (r.top s)

  pub good-over : Inv (ended (raised w))
  good-over = over (raised w) up-core i.life i.acked
