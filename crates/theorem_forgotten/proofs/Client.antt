-- Events of the client that leave nodes and what is remembered alone, but for transfers that are dropped; and removals.
use mathlib.Core.Path.{◌≡◌, refl, sym, ap, ◌∙◌, subst}
use mathlib.Core.Bool.{Bool, true, false, ◌&&◌, ◌||◌}
use mathlib.Core.List.{List}
use Prim.Native.Nat.{ℕ, ◌<◌}
use lib.Dec.{eqb}
use Rattle.laws_words.specs.Words.{pick}
use Rattle.laws_words.specs.Tests.{clash, by_cases, either}
use Rattle.rules_pool.specs.declared.Run.{Run}
use Rattle.rules_pool.specs.declared.Job.{Job}
use Rattle.rules_pool.specs.declared.Told.{Told}
use Rattle.rules_pool.specs.declared.Reply.{Reply}
use Rattle.rules_pool.specs.declared.Answer.{Answer}
use Rattle.rules_pool.specs.declared.Pool.{Pool}
use Rattle.rules_pool.specs.declared.Turn.{Turn}
use Rattle.rules_pool.specs.Exit.{refused}
use Rattle.rules_pool.specs.Jobs.{is_idle, is_running}
use Rattle.rules_client.specs.Links.{link_down, store_check, rejoin, try_run}
use Rattle.rules_client.specs.Enables.{enable, maintenance}
use Rattle.rules_client.specs.Answers.{answer_refusal, answered, answer}
use Rattle.rules_client.specs.Client.{sound_for, answer_turn}
use Rattle.laws_client.proofs.Pools.{Valid}
use Rattle.rules_pool.specs.Breaking.{is_accepted}
use Rattle.rules_client.specs.Events.{Event, turn_of}
use Rattle.theorem_client.proofs.Every.{event-keeps, event-same, event-kind}
use Rattle.model_pool.specs.Model as m
use Rattle.model_pool.specs.Steps as s
use Rattle.model_pool.proofs.ModelKept.{kept-all}
use Rattle.model_pool.specs.Mirror.{MovesBy, MovesAt}
use Rattle.model_pool.proofs.Links.{link-down, store-check, rejoins, try-run}
use Rattle.model_pool.proofs.Maintenance.{maintained, maintenance-ends}
use Rattle.model_pool.proofs.Answers.{Hears, run-answer}
use Rattle.model_pool.proofs.Onward.{removal-answer}
use Rattle.model_pool.specs.Reflects.{Reflects}
use Rattle.model_pool.proofs.Told.{quiet}
use Rattle.model_pool.proofs.Acts.{acts}
use Rattle.model_pool.proofs.Tellings.{check-told, rejoin-told, try-told, enable-told, maintenance-told, down-told, answer-told}
use Rattle.rules_world.specs.Whole.{World, Happening, accepts, acknowledges, told_in, acted, by_client, after}
use Rattle.rules_world.specs.History.{History, then, takes_in, writes, joined_by, joined, waits_by, waits, acked_by, acked}
use Rattle.theorem_forgotten.specs.Premises.{Keeps}
use Rattle.theorem_forgotten.specs.Forgotten.{Missed}
use Rattle.theorem_forgotten.proofs.Tells.{grows_by, Tells}
use Rattle.theorem_forgotten.proofs.Ground.{or-none, still-missed, Unmarked, told-unmarked, and-true}

-- ---- what every event of the client keeps

pub kept-valid : (e : Event) (p : Pool) → Valid p → Valid (turn_of e p).pool
kept-valid e p v = event-keeps e p v

pub kept-plain : (e : Event) (p : Pool) → Valid p → p.roster.sync ≡ false → (turn_of e p).pool.roster.sync ≡ false
kept-plain e p v y = event-kind e p v ∙ y

pub kept-chunks : (e : Event) (p : Pool) → (turn_of e p).pool.chunks ≡ p.chunks
kept-chunks e p = event-same e p

module _ (e : Event) (got : ℕ) (w : World) where
  pub client-chunks : (by_client e got w).pool.chunks ≡ w.pool.chunks
  client-chunks = at (turn_of e w.pool).answer
    where
      at : (x : Answer) → (acted x (turn_of e w.pool).pool got w).pool.chunks ≡ w.pool.chunks
      at (Answer.Refused n) = refl
      at (Answer.Done s) = kept-chunks e w.pool

  pub client-unmarked : (j : ℕ) → Unmarked (w.nodes j) ((by_client e got w).nodes j)
  client-unmarked j = at (turn_of e w.pool).answer
    where
      at : (x : Answer) → Unmarked (w.nodes j) ((acted x (turn_of e w.pool).pool got w).nodes j)
      at (Answer.Refused n) = λ c. c
      at (Answer.Done s) = told-unmarked w.nodes got s.told j

-- a refused event moves nothing
pub refused-moves : (p : Pool) (t : Turn) (a : m.World) → is_accepted t.answer ≡ false → MovesBy p t a
refused-moves p t a z = at t.answer z
  where
    at : (x : Answer) → is_accepted x ≡ false → MovesAt x p t.pool a
    at (Answer.Refused n) z = tt
    at (Answer.Done s) z = clash refl z

-- an answer while nothing is awaited
idle-answer : (p : Pool) (sound : Bool) (number : ℕ) (a : Reply) (b : m.World) → p.job ≡ Job.Idle → MovesBy p (answer p sound number a) b
unfolding answer
idle-answer p sound number a b e =
    subst (λ (j : Job). MovesBy p (pick (eqb (answer_refusal p sound number) 0) (answered j p a) (refused p (answer_refusal p sound number))) b) (sym e)
    (either (λ (u : Turn). MovesBy p u b) (eqb (answer_refusal p sound number) 0) (refused p 13) (refused p (answer_refusal p sound number)) tt tt)

-- ---- told again
module _ (w : World) (h : History w) (t : Tells h) (e : Event) (got : ℕ) where
  pub client-tells : (b : m.World) → s.Course t.a b → Reflects (by_client e got w) b
      → ((j : ℕ) → joined_by w (Happening.client e got) j (joined h j) ≡ b.past.ever j) → ((j : ℕ) → waits_by w (Happening.client e got) j (waits h j) ≡ b.past.wait j)
      → ((j : ℕ) → (w.nodes j).node.create ≡ true → joined_by w (Happening.client e got) j (joined h j) ≡ false)
      → ((c : ℕ) → acked_by w (Happening.client e got) c (acked h c) ≡ true → b.past.acked c ≡ true) → ((c : ℕ) → b.past.acked c ≡ true → c < w.pool.chunks)
      → ((n c : ℕ) → Missed n c (then w (Happening.client e got) h) → 0 < b.past.owe n c)
      → Tells (then w (Happening.client e got) h)
  unfolding after
  client-tells b c r ev wt nw ak bl ow = record {
    a = b;
    inv = kept-all c t.inv;
    reflects = r;
    remembers = record {
      ever = ev;
      wait = wt;
      acked = ak;
      below = λ d z. subst (λ (n : ℕ). d < n) (sym (client-chunks e got w)) (bl d z);
      new = λ j z. nw j (client-unmarked e got w j z);
      owes = ow;
    };
  }

  module _ (out : (j : ℕ) → (takes_in e w j && accepts w e) ≡ false) where
    pub same-joined : (j : ℕ) → joined_by w (Happening.client e got) j (joined h j) ≡ joined h j
    same-joined j = rw (out j) (or-none (joined h j))

    pub same-waits : (j : ℕ) → waits_by w (Happening.client e got) j (waits h j) ≡ waits h j
    same-waits j = rw (out j) (and-true (waits h j))

    -- who is in the pool, and what was acknowledged, is as before
    pub same-tells : (b : m.World) → s.Course t.a b → Reflects (by_client e got w) b → b.past.ever ≡ t.a.past.ever → b.past.wait ≡ t.a.past.wait → b.past.acked ≡ t.a.past.acked
        → ((c : ℕ) → (writes e c && acknowledges w e) ≡ false) → ((n c : ℕ) → Missed n c (then w (Happening.client e got) h) → 0 < b.past.owe n c) → Tells (then w (Happening.client e got) h)
    same-tells b c r ev wt ak none ow =
        client-tells b c r
        (λ j. same-joined j ∙ (t.remembers.ever j ∙ ap (λ (f : ℕ → Bool). f j) (sym ev)))
        (λ j. same-waits j ∙ (t.remembers.wait j ∙ ap (λ (f : ℕ → Bool). f j) (sym wt)))
        (λ j z. same-joined j ∙ t.remembers.new j z)
        (λ d z. ap (λ (f : ℕ → Bool). f d) ak ∙ t.remembers.acked d (sym (ap (λ (x : Bool). acked h d || x) (none d) ∙ or-none (acked h d)) ∙ z))
        (λ d z. t.remembers.below d (ap (λ (f : ℕ → Bool). f d) (sym ak) ∙ z))
        ow

    -- an event that moves the pool, and tells at most that a transfer is dropped
    pub moved-tells : MovesBy w.pool (turn_of e w.pool) t.a → quiet (told_in (turn_of e w.pool).answer) ≡ true → ((c : ℕ) → (writes e c && acknowledges w e) ≡ false) → grows_by e ≡ false → Tells (then w (Happening.client e got) h)
    moved-tells k q none g =
        let r = t.reflects in
        let x = acts w t.a r (turn_of e w.pool) got k (kept-valid e w.pool r.valid) (kept-plain e w.pool r.valid r.plain) (kept-chunks e w.pool) q in
        same-tells x.to x.course x.reflects (ap (λ (y : m.Past). y.ever) x.past) (ap (λ (y : m.Past). y.wait) x.past) (ap (λ (y : m.Past). y.acked) x.past) none
        (λ n c z. subst (λ (y : m.Past). 0 < y.owe n c) (sym x.past) (t.remembers.owes n c (still-missed w h (Happening.client e got) g n c z).0))

-- ---- what is told
abbrev Quiet : Turn → Type 0
Quiet t = quiet (told_in t.answer) ≡ true

-- of a message that is not told, of MAP_DISABLE, of ENABLE 0
abbrev Silent : Told → Type 0
Silent t = quiet t ≡ true

pub enable-quiet : (p : Pool) (id : ℕ) → Quiet (enable p id)
enable-quiet p id = enable-told Silent refl p id

-- ---- each of them
module _ (w : World) (h : History w) (t : Tells h) (got : ℕ) where
  pub downs : (id : ℕ) → Tells (then w (Happening.client (Event.link_down id) got) h)
  downs id = moved-tells w h t (Event.link_down id) got (λ j. refl) (link-down w.pool id t.a t.reflects.valid t.reflects.plain t.reflects.shows) (down-told Silent refl (λ i. refl) w.pool id) (λ c. refl) refl

  pub checks : (id : ℕ) → Tells (then w (Happening.client (Event.store_check id) got) h)
  checks id = moved-tells w h t (Event.store_check id) got (λ j. refl) (store-check w.pool id t.a t.reflects.valid t.reflects.plain t.reflects.shows) (check-told Silent refl w.pool id) (λ c. refl) refl

  pub rejoined : (id : ℕ) → Tells (then w (Happening.client (Event.rejoin id) got) h)
  rejoined id = moved-tells w h t (Event.rejoin id) got (λ j. refl) (rejoins w.pool id t.a t.reflects.valid t.reflects.plain t.reflects.shows) (rejoin-told Silent refl w.pool id) (λ c. refl) refl

  pub tried : Tells (then w (Happening.client Event.try_run got) h)
  tried = moved-tells w h t Event.try_run got (λ j. refl) (try-run w.pool t.a t.reflects.valid t.reflects.plain t.reflects.shows) (try-told Silent refl w.pool) (λ c. refl) refl

  pub maintains : (id : ℕ) → Tells (then w (Happening.client (Event.maintenance id) got) h)
  maintains id = moved-tells w h t (Event.maintenance id) got (λ j. refl) (maintained w.pool id t.a t.reflects.valid t.reflects.plain t.reflects.shows) (maintenance-told Silent refl (λ i. refl) w.pool id) (λ c. refl) refl

  -- enable is given only to a session that is not CREATED, or refused
  pub enables : (id : ℕ) → Keeps h (Happening.client (Event.enable id) got) → Tells (then w (Happening.client (Event.enable id) got) h)
  enables id k = moved-tells w h t (Event.enable id) got (λ j. refl)
      (by_cases (accepts w (Event.enable id))
      (λ z. maintenance-ends w.pool id t.a t.reflects.valid t.reflects.plain t.reflects.shows (k.not-else id got refl z))
      (λ z. refused-moves w.pool (enable w.pool id) t.a z))
      (enable-quiet w.pool id) (λ c. refl) refl

  pub answers : (xs : List ℕ) (number : ℕ) (a : Reply) → Keeps h (Happening.client (Event.answer xs number a) got) → Tells (then w (Happening.client (Event.answer xs number a) got) h)
  unfolding answer_turn
  answers xs number a k = moved-tells w h t (Event.answer xs number a) got (λ j. refl) (go w.pool.job refl) (answer-told Silent refl (λ i. refl) w.pool (sound_for w.pool xs) number a) (λ c. refl) refl
    where
      hears : (a : Reply) (r : Run) → w.pool.job ≡ Job.Running r → Keeps h (Happening.client (Event.answer xs number a) got) → is_accepted (answer w.pool (sound_for w.pool xs) number a).answer ≡ true → Hears a t.a.hand
      hears Reply.Failed r e k z = tt
      hears (Reply.Good b) r e k z = (t.reflects.reads (ap is_idle e)).good b (k.answers xs number got b refl z (ap is_running e))

      go : (j : Job) → w.pool.job ≡ j → MovesBy w.pool (answer w.pool (sound_for w.pool xs) number a) t.a
      go Job.Idle e = idle-answer w.pool (sound_for w.pool xs) number a t.a e
      go (Job.Running r) e = by_cases (is_accepted (answer w.pool (sound_for w.pool xs) number a).answer)
          (λ z. run-answer w.pool (sound_for w.pool xs) number a t.a t.reflects.valid t.reflects.plain t.reflects.shows r e (hears a r e k z))
          (λ z. refused-moves w.pool (answer w.pool (sound_for w.pool xs) number a) t.a z)
      go (Job.Removing d) e = removal-answer w.pool (sound_for w.pool xs) number a t.a t.reflects.valid t.reflects.plain t.reflects.shows d e
