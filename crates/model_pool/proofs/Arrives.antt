-- The awaited message comes to its node.
use Rattle.std.specs.Prelude.{Option, Some}
use mathlib.Core.Path.{◌≡◌, refl, sym, ap, ◌∙◌, subst}
use mathlib.Core.Bool.{Bool, true, false, not, ◌&&◌}
use mathlib.Core.List.{List}
use mathlib.Core.Logic.{◌≢◌}
use Prim.Native.Nat.{ℕ}
use native.Mathlib.Omega.{arith}
use lib.Dec.{T, eqb}
use Rattle.laws_words.specs.Words.{pick}
use Rattle.laws_words.specs.Tests.{clash, by_cases, and_left, and_right, and_both}
use Rattle.rules_base.specs.Sets.{has}
use Rattle.rules_pool.specs.declared.Mode.{Mode}
use Rattle.rules_pool.specs.declared.State.{State}
use Rattle.rules_base.specs.declared.Op.{Op}
use Rattle.rules_pool.specs.declared.Step.{Step}
use Rattle.rules_pool.specs.declared.Phase.{Phase}
use Rattle.rules_pool.specs.declared.Run.{Run}
use Rattle.rules_pool.specs.declared.Stage.{Stage}
use Rattle.rules_pool.specs.declared.Removal.{Removal}
use Rattle.rules_pool.specs.declared.Job.{Job}
use Rattle.rules_pool.specs.declared.Message.{Message}
use Rattle.rules_pool.specs.declared.Reply.{Reply}
use Rattle.rules_pool.specs.Session.{is_delete, is_deleting}
use Rattle.rules_pool.specs.Jobs.{is_idle, peer_at}
use Rattle.rules_pool.specs.Run.{awaited_at, awaited_in}
use Rattle.rules_client.specs.Removal.{state_of, mode_of, op_of}
use Rattle.rules_node.specs.declared.Answer.{Answer}
use Rattle.rules_node.specs.Events as storage
use Rattle.rules_node.specs.Cuts.{total}
use Rattle.laws_node.proofs.Theorems.{law}
use Rattle.rules_node.specs.Turns.{is_accepted}
use Rattle.rules_world.specs.Station.{Station, does}
use Rattle.rules_world.specs.Together.{upd, Delivered, reply_of, by_one, send, deliver}
use Rattle.theorem_honest.proofs.Ground as real
use Rattle.model_pool.specs.Model as m
use Rattle.model_pool.specs.Steps as s
use Rattle.model_pool.proofs.Ground.{split, upd_same, upd_other}
use Rattle.model_pool.specs.Mirror.{ses_of, phase_of, other_in, AsksIn, Runs, stage_of, Removes, stage_awaits, job_awaits, Works}
use Rattle.model_pool.proofs.Sessions.{dying-is}
use Rattle.model_pool.specs.Holds.{Holds, Held}
use Rattle.model_pool.proofs.Did.{took, stays}
use Rattle.model_pool.proofs.Events.{less, readied-at, was-whole, committed-at, enabled-at, last-ios, asked, left_at, left-deleted, informed-at, heard-of}
use Rattle.model_pool.proofs.Parts.{Sent, part, whole, sent}
use Rattle.rules_world.specs.Whole.{Fate, World}
use Rattle.model_pool.specs.Reflects.{Reflects}
use Rattle.model_pool.proofs.Nodes.{held-beside, held_same, held-staged, held_all}

-- the hand with another fate of its message
pub record Refated (h h' : m.Hand) : Type 0 where
  pub job : h'.job ≡ h.job
  pub src : h'.src ≡ h.src
  pub to : h'.to ≡ h.to
  pub left : h'.left ≡ h.left
  pub best : h'.best ≡ h.best
  pub chosen : h'.chosen ≡ h.chosen

asks-still : (x : Phase) (r : Run) (h h' : m.Hand) → Refated h h' → AsksIn x r h → AsksIn x r h'
asks-still (Phase.Versions best) r h h' e k = record { left = λ n. k.left n ∙ ap (λ (g : ℕ → Bool). g n) (sym e.left); best = k.best ∙ sym e.best; chosen = e.chosen ∙ k.chosen; first = k.first }
asks-still (Phase.Base t) r h h' e k = tt
asks-still Phase.LastIo r h h' e k = tt
asks-still (Phase.Gather t) r h h' e k = tt
asks-still (Phase.Enable every) r h h' e k = tt
asks-still (Phase.Spread t) r h h' e k = tt

pub works-still : (j : Job) (h h' : m.Hand) → Refated h h' → Works j h → Works j h'
works-still Job.Idle h h' e k = k ∙ sym e.job
works-still (Job.Running r) h h' e k = record { job = k.job ∙ sym e.job; src = k.src ∙ sym e.src; to = k.to ∙ sym e.to; asks = asks-still r.phase r h h' e k.asks }
works-still (Job.Removing d) h h' e k = record { job = k.job ∙ sym e.job; src = k.src ∙ sym e.src; to = k.to ∙ sym e.to }

-- What a delivery comes to. `sure`: the parts make up the whole map.
pub record Lands (a : m.World) (sure : Type 0) (d : Delivered) : Type 0 where
  pub to : m.World
  pub course : s.Course a to
  pub pool : to.pool ≡ a.pool
  pub past : to.past ≡ a.past
  pub hand : Refated a.hand to.hand
  pub held : Held d.nodes to.nodes
  pub good : sure → (b : Option ℕ) → d.reply ≡ Reply.Good b → (to.hand.fate ≡ m.Fate.Taken) × (T (m.asks to.hand.job) → b ≡ Some to.hand.says)

never : {A : Type 0} (b : Option ℕ) → Reply.Failed ≡ Reply.Good b → A
never b e = absurd (let z : ◌≡◌ {A = ℕ} 0 1 = cc in let y : ⊥ = omega arith in y)

was-good : (x : Answer) (b : Option ℕ) → reply_of x ≡ Reply.Good b → is_accepted x ≡ true
was-good (Answer.Refused n) b e = never b e
was-good Answer.Done b e = refl
was-good (Answer.Version v) b e = refl

refated : (h : m.Hand) (f : m.Fate) (n : ℕ) → Refated h (record { job = h.job; fate = f; src = h.src; to = h.to; left = h.left; best = h.best; chosen = h.chosen; says = n })
refated h f n = record { job = refl; src = refl; to = refl; left = refl; best = refl; chosen = refl }

module _ (w : World) (a : m.World) (r : Reflects w a) (under : a.hand.fate ≡ m.Fate.Under) (sure : Type 0) where
  abbrev c : ℕ
  c = w.pool.chunks

  -- a node refuses
  refuses : (j : ℕ) (e : storage.Event) → is_accepted (does (w.nodes j) e).answer ≡ false → Lands a sure (by_one w.nodes j (does (w.nodes j) e))
  refuses j e z = record {
    to = s.arrived a m.Fate.Refused;
    course = s.more (s.here a) (s.Next.In-refused under);
    pool = refl;
    past = refl;
    hand = refated a.hand m.Fate.Refused a.hand.says;
    held = held_same w.nodes a.nodes j (does (w.nodes j) e).station r.held (subst (λ (x : Station). Holds x (a.nodes.ver j) (a.nodes.map j) (a.nodes.stg j) (a.nodes.tr j)) (sym (stays e (w.nodes j) z)) (r.held.at j));
    good = λ u b q. clash (was-good (does (w.nodes j) e).answer b q) z;
  }

  -- either way
  comes : (j : ℕ) (e : storage.Event) → (is_accepted (does (w.nodes j) e).answer ≡ true → Lands a sure (by_one w.nodes j (does (w.nodes j) e))) → Lands a sure (by_one w.nodes j (does (w.nodes j) e))
  comes j e f = by_cases (is_accepted (does (w.nodes j) e).answer) f (refuses j e)

  -- a message that is not MAP_GET_VER
  mute : (x : m.Job) → m.asks x ≡ false → (h : m.Hand) → h.job ≡ x → (b : Option ℕ) → T (m.asks h.job) → b ≡ Some h.says
  mute x z h e b t = absurd (subst T z (subst (λ (y : m.Job). T (m.asks y)) e t))

  -- MAP_GET_VER
  get-lands : a.hand.job ≡ m.Job.Get → Lands a sure (by_one w.nodes a.hand.to (does (w.nodes a.hand.to) storage.Event.map_get_ver))
  unfolding law
  get-lands j = comes a.hand.to storage.Event.map_get_ver (λ z. record {
    to = s.heard (s.arrived a m.Fate.Taken) (a.nodes.ver a.hand.to);
    course = s.more (s.here a) (s.Next.In-get j under);
    pool = refl;
    past = refl;
    hand = refated a.hand m.Fate.Taken (a.nodes.ver a.hand.to);
    held = held_same w.nodes a.nodes a.hand.to (does (w.nodes a.hand.to) storage.Event.map_get_ver).station r.held (asked c a.hand.to (w.nodes a.hand.to) (r.sane a.hand.to) _ _ _ _ (r.held.at a.hand.to));
    good = λ u b q. (refl, λ t. brings b (ap reply_of (sym (took storage.Event.map_get_ver (w.nodes a.hand.to) z).answer) ∙ q) ∙ ap Some (r.held.at a.hand.to).ver);
  })
    where
      brings : (b : Option ℕ) → Reply.Good (Some (w.nodes a.hand.to).node.version) ≡ Reply.Good b → b ≡ Some (w.nodes a.hand.to).node.version
      brings b e = cc

  -- MAP_READY
  ready-lands : (k : m.Kind) → a.hand.job ≡ m.Job.Move k m.Step.Ready
      → Lands a sure (by_one w.nodes (m.receiver k a.hand.src a.hand.to) (does (w.nodes (m.receiver k a.hand.src a.hand.to)) (storage.Event.map_ready (m.keeps k))))
  ready-lands k j = let i = m.receiver k a.hand.src a.hand.to in comes (m.receiver k a.hand.src a.hand.to) (storage.Event.map_ready (m.keeps k)) (λ z. record {
    to = s.transfers (s.arrived a m.Fate.Taken) (m.upd a.nodes.stg (m.receiver k a.hand.src a.hand.to) (λ n d. m.keeps k && a.nodes.map (m.receiver k a.hand.src a.hand.to) n d)) (m.upd a.nodes.tr (m.receiver k a.hand.src a.hand.to) m.Transfer.Begun);
    course = s.more (s.here a) (s.Next.In-ready k j under);
    pool = refl;
    past = refl;
    hand = refated a.hand m.Fate.Taken a.hand.says;
    held = held-staged w.nodes a.nodes i (does (w.nodes i) (storage.Event.map_ready (m.keeps k))).station (λ n d. m.keeps k && a.nodes.map i n d) m.Transfer.Begun r.held
        (readied-at c i (w.nodes i) (r.sane i) _ _ _ _ (r.held.at i) (m.keeps k) z);
    good = λ u b q. (refl, mute (m.Job.Move k m.Step.Ready) refl (s.arrived a m.Fate.Taken).hand j b);
  })

  -- MAP_DONE
  within-less : (g : m.Map) (n d : ℕ) → m.within a.pool.mem g n d ≡ true → m.within (has w.pool.roster.members) g n d ≡ true
  within-less g n d e = and_both (r.shows.sees.mem n ∙ and_left (a.pool.mem n) (g n d) e) (and_right (a.pool.mem n) (g n d) e)

  done-lands : (k : m.Kind) (on : Bool) → a.hand.job ≡ m.Job.Move k m.Step.Done
      → Lands a sure (by_one w.nodes (m.receiver k a.hand.src a.hand.to) (does (w.nodes (m.receiver k a.hand.src a.hand.to)) (storage.Event.map_done on w.pool.roster.version w.pool.roster.members)))
  done-lands k on j =
      let i = m.receiver k a.hand.src a.hand.to in
      let e = storage.Event.map_done on w.pool.roster.version w.pool.roster.members in
      comes (m.receiver k a.hand.src a.hand.to) (storage.Event.map_done on w.pool.roster.version w.pool.roster.members) (λ z. record {
        to = s.transfers (s.at_nodes (s.arrived a m.Fate.Taken) (m.upd a.nodes.ver (m.receiver k a.hand.src a.hand.to) a.pool.version) (m.upd a.nodes.map (m.receiver k a.hand.src a.hand.to) (m.within a.pool.mem (a.nodes.stg (m.receiver k a.hand.src a.hand.to))))) (m.upd a.nodes.stg (m.receiver k a.hand.src a.hand.to) m.none) (m.upd a.nodes.tr (m.receiver k a.hand.src a.hand.to) m.Transfer.Shut);
        course = s.more (s.here a) (s.Next.In-done k j under (was-whole c i (w.nodes i) (r.sane i) _ _ _ _ (r.held.at i) on w.pool.roster.version w.pool.roster.members z));
        pool = refl;
        past = refl;
        hand = refated a.hand m.Fate.Taken a.hand.says;
        held = held_all w.nodes a.nodes i (does (w.nodes i) e).station a.pool.version (m.within a.pool.mem (a.nodes.stg i)) m.none m.Transfer.Shut r.held
            (less (m.within a.pool.mem (a.nodes.stg i)) m.none
            (subst (λ (v : ℕ). Holds (does (w.nodes i) e).station v (m.within (has w.pool.roster.members) (a.nodes.stg i)) m.none m.Transfer.Shut) r.shows.sees.version
            (committed-at c i (w.nodes i) (r.sane i) _ _ _ _ (r.held.at i) on w.pool.roster.version w.pool.roster.members z))
            (within-less (a.nodes.stg i)) (λ n d x. x));
        good = λ u b q. (refl, mute (m.Job.Move k m.Step.Done) refl (s.arrived a m.Fate.Taken).hand j b);
      })

  -- ENABLE_POOL
  enable-lands : a.hand.job ≡ m.Job.Enable → Lands a sure (by_one w.nodes a.hand.src (does (w.nodes a.hand.src) (storage.Event.enable1 w.pool.roster.version w.pool.roster.members)))
  enable-lands j =
      let i = a.hand.src in
      let e = storage.Event.enable1 w.pool.roster.version w.pool.roster.members in
      comes a.hand.src (storage.Event.enable1 w.pool.roster.version w.pool.roster.members) (λ z. record {
        to = s.transfers (s.at_nodes (s.arrived a m.Fate.Taken) (m.upd a.nodes.ver a.hand.src a.pool.version) (m.upd a.nodes.map a.hand.src (m.within a.pool.mem (a.nodes.map a.hand.src)))) (m.upd a.nodes.stg a.hand.src m.none) (m.upd a.nodes.tr a.hand.src m.Transfer.Shut);
        course = s.more (s.here a) (s.Next.In-enable j under);
        pool = refl;
        past = refl;
        hand = refated a.hand m.Fate.Taken a.hand.says;
        held = held_all w.nodes a.nodes i (does (w.nodes i) e).station a.pool.version (m.within a.pool.mem (a.nodes.map i)) m.none m.Transfer.Shut r.held
            (less (m.within a.pool.mem (a.nodes.map i)) m.none
            (subst (λ (v : ℕ). Holds (does (w.nodes i) e).station v (m.within (has w.pool.roster.members) (a.nodes.map i)) m.none m.Transfer.Shut) r.shows.sees.version
            (enabled-at c i (w.nodes i) (r.sane i) _ _ _ _ (r.held.at i) w.pool.roster.version w.pool.roster.members z))
            (within-less (a.nodes.map i)) (λ n d x. x));
        good = λ u b q. (refl, mute m.Job.Enable refl (s.arrived a m.Fate.Taken).hand j b);
      })

  -- a message that leaves its node as it is seen
  plain-lands : (x : m.Job) → a.hand.job ≡ x → T (s.plain x) → m.asks x ≡ false → (i : ℕ) (e : storage.Event) → Holds (does (w.nodes i) e).station (a.nodes.ver i) (a.nodes.map i) (a.nodes.stg i) (a.nodes.tr i)
      → Lands a sure (by_one w.nodes i (does (w.nodes i) e))
  plain-lands x j t n i e h = record {
    to = s.arrived a m.Fate.Taken;
    course = s.more (s.here a) (s.Next.In-plain (subst (λ (y : m.Job). T (s.plain y)) (sym j) t) under);
    pool = refl;
    past = refl;
    hand = refated a.hand m.Fate.Taken a.hand.says;
    held = held_same w.nodes a.nodes i (does (w.nodes i) e).station r.held h;
    good = λ u b q. (refl, mute x n (s.arrived a m.Fate.Taken).hand j b);
  }

  last-lands : (chosen : ℕ) → a.hand.job ≡ m.Job.LastIo → Lands a sure (by_one w.nodes a.hand.to (does (w.nodes a.hand.to) (storage.Event.last_io_to_map chosen)))
  last-lands chosen j = plain-lands m.Job.LastIo j tt refl a.hand.to (storage.Event.last_io_to_map chosen) (last-ios c a.hand.to (w.nodes a.hand.to) (r.sane a.hand.to) _ _ _ _ (r.held.at a.hand.to) chosen)

  -- LEAVE_POOL
  leave-lands : (delete : Bool) → a.hand.job ≡ m.Job.Leave → (delete ≡ true → a.pool.ses a.hand.src ≡ m.Session.Dying) → Lands a sure (by_one w.nodes a.hand.src (does (w.nodes a.hand.src) (storage.Event.leave delete)))
  leave-lands true j d = let i = a.hand.src in comes a.hand.src (storage.Event.leave true) (λ z. record {
    to = s.transfers (s.at_nodes (s.arrived a m.Fate.Taken) a.nodes.ver (m.upd a.nodes.map a.hand.src m.none)) (m.upd a.nodes.stg a.hand.src m.none) (m.upd a.nodes.tr a.hand.src m.Transfer.Shut);
    course = s.more (s.more (s.here a) (s.Next.In-leave j under (d refl))) (s.Next.Drop a.hand.src);
    pool = refl;
    past = refl;
    hand = refated a.hand m.Fate.Taken a.hand.says;
    held = held-beside w.nodes a.nodes (record { ver = a.nodes.ver; map = m.upd a.nodes.map i m.none; stg = m.upd a.nodes.stg i m.none; tr = m.upd a.nodes.tr i m.Transfer.Shut }) i (does (w.nodes i) (storage.Event.leave true)).station r.held
        (record { ver = λ k q. refl; map = λ k q. upd_other a.nodes.map i k m.none q; stg = λ k q. upd_other a.nodes.stg i k m.none q; tr = λ k q. upd_other a.nodes.tr i k m.Transfer.Shut q })
        (rw (upd_same a.nodes.map i m.none, upd_same a.nodes.stg i m.none, upd_same a.nodes.tr i m.Transfer.Shut) (left-deleted c i (w.nodes i) (r.sane i) _ _ _ _ (r.held.at i) z));
    good = λ u b q. (refl, mute m.Job.Leave refl (s.arrived a m.Fate.Taken).hand j b);
  })
  leave-lands false j d = let i = a.hand.src in comes a.hand.src (storage.Event.leave false) (λ z. record {
    to = s.transfers (s.arrived a m.Fate.Taken) (m.upd a.nodes.stg a.hand.src m.none) (m.upd a.nodes.tr a.hand.src m.Transfer.Shut);
    course = s.more (s.more (s.here a) (s.Next.In-plain (subst (λ (y : m.Job). T (s.plain y)) (sym j) tt) under)) (s.Next.Drop a.hand.src);
    pool = refl;
    past = refl;
    hand = refated a.hand m.Fate.Taken a.hand.says;
    held = held-staged w.nodes a.nodes i (does (w.nodes i) (storage.Event.leave false)).station m.none m.Transfer.Shut r.held (left_at c i (w.nodes i) (r.sane i) _ _ _ _ (r.held.at i) z);
    good = λ u b q. (refl, mute m.Job.Leave refl (s.arrived a m.Fate.Taken).hand j b);
  })

  -- POOL_INFO of a removal
  info-lands : (st : State) → a.hand.job ≡ m.Job.Info → (is_deleting st ≡ true → a.pool.ses a.hand.src ≡ m.Session.Dying) → Lands a sure (by_one w.nodes a.hand.to (does (w.nodes a.hand.to) (storage.Event.pool_info (op_of st) a.hand.src)))
  info-lands st j d = by_cases (is_deleting st)
      (λ z. subst (λ (b : Bool). Lands a sure (by_one w.nodes a.hand.to (does (w.nodes a.hand.to) (storage.Event.pool_info (pick b Op.RemoveDelete Op.RemoveDisassemble) a.hand.src)))) (sym z) (gone (d z)))
      (λ z. subst (λ (b : Bool). Lands a sure (by_one w.nodes a.hand.to (does (w.nodes a.hand.to) (storage.Event.pool_info (pick b Op.RemoveDelete Op.RemoveDisassemble) a.hand.src)))) (sym z)
      (plain-lands m.Job.Info j tt refl a.hand.to (storage.Event.pool_info Op.RemoveDisassemble a.hand.src) (heard-of c a.hand.to (w.nodes a.hand.to) (r.sane a.hand.to) _ _ _ _ (r.held.at a.hand.to) Op.RemoveDisassemble a.hand.src refl)))
    where
      gone : a.pool.ses a.hand.src ≡ m.Session.Dying → Lands a sure (by_one w.nodes a.hand.to (does (w.nodes a.hand.to) (storage.Event.pool_info Op.RemoveDelete a.hand.src)))
      gone e = record {
        to = s.at_nodes (s.arrived a m.Fate.Taken) a.nodes.ver (s.rowless a.hand.src a.nodes.map);
        course = s.more (s.here a) (s.Next.In-info j under e);
        pool = refl;
        past = refl;
        hand = refated a.hand m.Fate.Taken a.hand.says;
        held = record {
          at = λ k. split k a.hand.to
              (λ q. subst (λ (i : ℕ). Holds (upd w.nodes a.hand.to (does (w.nodes a.hand.to) (storage.Event.pool_info Op.RemoveDelete a.hand.src)).station i) (a.nodes.ver i) (s.rowless a.hand.src a.nodes.map i) (a.nodes.stg i) (a.nodes.tr i)) (sym q)
              (rw (real.upd_same w.nodes a.hand.to (does (w.nodes a.hand.to) (storage.Event.pool_info Op.RemoveDelete a.hand.src)).station) (informed-at c a.hand.to (w.nodes a.hand.to) (r.sane a.hand.to) _ _ _ _ (r.held.at a.hand.to) Op.RemoveDelete a.hand.src)))
              (λ q. rw (real.upd_other w.nodes a.hand.to k (does (w.nodes a.hand.to) (storage.Event.pool_info Op.RemoveDelete a.hand.src)).station q) (less (s.rowless a.hand.src a.nodes.map k) (a.nodes.stg k) (r.held.at k) (λ n d x. and_right (not (eqb n a.hand.src)) (a.nodes.map k n d) x) (λ n d x. x)));
        };
        good = λ u b q. (refl, mute m.Job.Info refl (s.arrived a m.Fate.Taken).hand j b);
      }

-- MAP_SEND
module _ (w : World) (a : m.World) (r : Reflects w a) (under : a.hand.fate ≡ m.Fate.Under) where
  send-lands : (k : m.Kind) (ls : List ℕ) → a.hand.job ≡ m.Job.Move k m.Step.Send → Lands a (total ls ≡ 8192) (send ls 0 (m.giver k a.hand.src a.hand.to) (m.receiver k a.hand.src a.hand.to) w.nodes)
  send-lands k ls j = at x.1
    where
      i : ℕ
      i = m.receiver k a.hand.src a.hand.to

      o : ℕ
      o = m.giver k a.hand.src a.hand.to

      x : ((n : ℕ) → n ≢ i → (send ls 0 o i w.nodes).nodes n ≡ w.nodes n) × Sent w.pool.chunks o i w.nodes r.sane _ _ _ _ _ _ _ _ (r.held.at i) (r.held.at o) ls (send ls 0 o i w.nodes)
      x = sent w.pool.chunks o i w.nodes r.sane (a.nodes.ver i) (a.nodes.ver o) (a.nodes.map i) (a.nodes.stg i) (a.nodes.map o) (a.nodes.stg o) (a.nodes.tr i) (a.nodes.tr o) (r.held.at i) (r.held.at o) ls

      at : Sent w.pool.chunks o i w.nodes r.sane _ _ _ _ _ _ _ _ (r.held.at i) (r.held.at o) ls (send ls 0 o i w.nodes) → Lands a (total ls ≡ 8192) (send ls 0 o i w.nodes)
      at (part h n) = record {
        to = s.arrived a m.Fate.Refused;
        course = s.more (s.here a) (s.Next.In-refused under);
        pool = refl;
        past = refl;
        hand = refated a.hand m.Fate.Refused a.hand.says;
        held = record { at = λ n. split n i (λ q. subst (λ (l : ℕ). Holds ((send ls 0 o i w.nodes).nodes l) (a.nodes.ver l) (a.nodes.map l) (a.nodes.stg l) (a.nodes.tr l)) (sym q) h) (λ q. rw (x.0 n q) (r.held.at n)) };
        good = λ u b q. absurd (n b q u);
      }
      at (whole e h) = record {
        to = s.transfers (s.arrived a m.Fate.Taken) (m.upd a.nodes.stg (m.receiver k a.hand.src a.hand.to) (m.merge (a.nodes.stg (m.receiver k a.hand.src a.hand.to)) (a.nodes.map (m.giver k a.hand.src a.hand.to)))) (m.upd a.nodes.tr (m.receiver k a.hand.src a.hand.to) m.Transfer.Got);
        course = s.more (s.here a) (s.Next.In-send k m.Fate.Taken j under e);
        pool = refl;
        past = refl;
        hand = refated a.hand m.Fate.Taken a.hand.says;
        held = record {
          at = λ n. split n i
              (λ q. subst (λ (l : ℕ). Holds ((send ls 0 o i w.nodes).nodes l) (a.nodes.ver l) (a.nodes.map l) (m.upd a.nodes.stg i (m.merge (a.nodes.stg i) (a.nodes.map o)) l) (m.upd a.nodes.tr i m.Transfer.Got l)) (sym q)
              (rw (upd_same a.nodes.stg i (m.merge (a.nodes.stg i) (a.nodes.map o)), upd_same a.nodes.tr i m.Transfer.Got) h))
              (λ q. rw (x.0 n q, upd_other a.nodes.stg i n (m.merge (a.nodes.stg i) (a.nodes.map o)) q, upd_other a.nodes.tr i n m.Transfer.Got q) (r.held.at n));
        };
        good = λ u b q. (refl, mute w a r under (total ls ≡ 8192) (m.Job.Move k m.Step.Send) refl (s.arrived a m.Fate.Taken).hand j b);
      }

  -- ---- by the job in hand
  module _ (ls : List ℕ) where
    abbrev Comes : Message → Type 0
    Comes x = Lands a (total ls ≡ 8192) (deliver ls x w.nodes)

    run-lands : (t : Run) → Runs t a.hand → (x : Phase) → t.phase ≡ x → Comes (awaited_at x w.pool.roster.members w.pool.roster.version t)
    run-lands t k x q = go x q (sym k.job ∙ ap phase_of q) (subst (λ (z : Phase). other_in z t ≡ a.hand.to) q k.to)
      where
        go : (x : Phase) → t.phase ≡ x → a.hand.job ≡ phase_of x → other_in x t ≡ a.hand.to → Comes (awaited_at x w.pool.roster.members w.pool.roster.version t)
        go (Phase.Versions best) q j o = subst (λ (i : ℕ). Comes (Message.GetVersion i)) (sym o) (get-lands w a r under (total ls ≡ 8192) j)
        go (Phase.Base Step.Ready) q j o = subst (λ (i : ℕ). Comes (Message.Ready i false)) (sym o) (ready-lands w a r under (total ls ≡ 8192) m.Kind.Base j)
        go (Phase.Base Step.Send) q j o = subst (λ (i : ℕ). Comes (Message.Send t.source i)) (sym o) (subst (λ (i : ℕ). Comes (Message.Send i a.hand.to)) (sym k.src) (send-lands m.Kind.Base ls j))
        go (Phase.Base Step.Done) q j o = subst (λ (i : ℕ). Comes (Message.Done i false w.pool.roster.version w.pool.roster.members)) (sym o) (done-lands w a r under (total ls ≡ 8192) m.Kind.Base false j)
        go Phase.LastIo q j o = subst (λ (i : ℕ). Comes (Message.LastIo i t.source)) (sym o) (last-lands w a r under (total ls ≡ 8192) t.source j)
        go (Phase.Gather Step.Ready) q j o = subst (λ (i : ℕ). Comes (Message.Ready i true)) (sym k.src) (ready-lands w a r under (total ls ≡ 8192) m.Kind.Gather j)
        go (Phase.Gather Step.Send) q j o = subst (λ (i : ℕ). Comes (Message.Send i t.source)) (sym o) (subst (λ (i : ℕ). Comes (Message.Send a.hand.to i)) (sym k.src) (send-lands m.Kind.Gather ls j))
        go (Phase.Gather Step.Done) q j o = subst (λ (i : ℕ). Comes (Message.Done i false w.pool.roster.version w.pool.roster.members)) (sym k.src) (done-lands w a r under (total ls ≡ 8192) m.Kind.Gather false j)
        go (Phase.Enable every) q j o = subst (λ (i : ℕ). Comes (Message.Enable i w.pool.roster.version w.pool.roster.members)) (sym k.src) (enable-lands w a r under (total ls ≡ 8192) j)
        go (Phase.Spread Step.Ready) q j o = subst (λ (i : ℕ). Comes (Message.Ready i false)) (sym o) (ready-lands w a r under (total ls ≡ 8192) m.Kind.Spread j)
        go (Phase.Spread Step.Send) q j o = subst (λ (i : ℕ). Comes (Message.Send t.source i)) (sym o) (subst (λ (i : ℕ). Comes (Message.Send i a.hand.to)) (sym k.src) (send-lands m.Kind.Spread ls j))
        go (Phase.Spread Step.Done) q j o = subst (λ (i : ℕ). Comes (Message.Done i true w.pool.roster.version w.pool.roster.members)) (sym o) (done-lands w a r under (total ls ≡ 8192) m.Kind.Spread true j)

    dying-seen : (d : Removal) → d.id ≡ a.hand.src → is_deleting (state_of w.pool d.id) ≡ true → a.pool.ses a.hand.src ≡ m.Session.Dying
    dying-seen d e z = subst (λ (i : ℕ). a.pool.ses i ≡ m.Session.Dying) e (sym (r.shows.sees.ses d.id) ∙ dying-is (state_of w.pool d.id) z)

    same-mode : (st : State) → is_delete (mode_of st) ≡ is_deleting st
    same-mode st = by_cases (is_deleting st) (λ z. ap (λ (b : Bool). is_delete (pick b Mode.Delete Mode.Disassemble)) z ∙ sym z) (λ z. ap (λ (b : Bool). is_delete (pick b Mode.Delete Mode.Disassemble)) z ∙ sym z)

    removal-lands : (d : Removal) → Removes d a.hand → (st : Stage) → d.stage ≡ st → Comes (stage_awaits st w.pool d.id)
    removal-lands d k Stage.Leave q =
        subst (λ (i : ℕ). Comes (Message.Leave i (mode_of (state_of w.pool d.id)))) (sym k.src)
        (leave-lands w a r under (total ls ≡ 8192) (is_delete (mode_of (state_of w.pool d.id))) (sym k.job ∙ ap stage_of q) (λ z. dying-seen d k.src (sym (same-mode (state_of w.pool d.id)) ∙ z)))
    removal-lands d k (Stage.Info peer) q =
        subst (λ (i : ℕ). Comes (Message.Info i (op_of (state_of w.pool d.id)) d.id)) (sym (ap (λ (t : Stage). peer_at t d.id) (sym q) ∙ k.to))
        (subst (λ (i : ℕ). Comes (Message.Info a.hand.to (op_of (state_of w.pool d.id)) i)) (sym k.src)
        (info-lands w a r under (total ls ≡ 8192) (state_of w.pool d.id) (sym k.job ∙ ap stage_of q) (dying-seen d k.src)))

    pub lands : is_idle w.pool.job ≡ false → Lands a (total ls ≡ 8192) (deliver ls w.awaited w.nodes)
    unfolding awaited_in
    lands busy = subst Comes (sym (r.awaits busy)) (go w.pool.job refl)
      where
        go : (j : Job) → w.pool.job ≡ j → Comes (job_awaits w.pool.job w.pool)
        go Job.Idle e = clash (ap is_idle e) busy
        go (Job.Running t) e = subst (λ (j : Job). Comes (job_awaits j w.pool)) (sym e) (run-lands t (subst (λ (j : Job). Works j a.hand) e r.shows.works) t.phase refl)
        go (Job.Removing d) e = subst (λ (j : Job). Comes (job_awaits j w.pool)) (sym e) (removal-lands d (subst (λ (j : Job). Works j a.hand) e r.shows.works) d.stage refl)
