-- The awaited message comes to its node, and another node comes to an id.
use mathlib.Core.Path.{◌≡◌, refl, sym, ap, ◌∙◌, subst}
use mathlib.Core.Bool.{Bool, true, false, not, ◌&&◌}
use mathlib.Core.List.{List}
use Prim.Native.Nat.{ℕ, ◌<◌}
use native.Mathlib.Omega.{arith}
use lib.Dec.{eqb}
use borrow.Author.Tests.{eq-eqb, ne_eqb}
use Rattle.laws_words.specs.Tests.{clash, and-false}
use Rattle.rules_base.specs.Sets.{has}
use Rattle.rules_base.specs.Map.{sound}
use Rattle.rules_pool.specs.declared.Reply.{Reply}
use Rattle.rules_pool.specs.Session.{is_free}
use Rattle.rules_pool.specs.Jobs.{is_idle}
use Rattle.rules_node.specs.Change.{fresh}
use Rattle.rules_node.specs.Cuts.{total}
use Rattle.rules_world.specs.Station.{Station}
use Rattle.rules_world.specs.Together.{upd}
use Rattle.theorem_honest.proofs.Ground as real
use Rattle.model_pool.specs.Model as m
use Rattle.model_pool.specs.Steps as s
use Rattle.model_pool.proofs.Ground.{split, upd_same, upd_other}
use Rattle.model_pool.proofs.ModelKept.{kept-all}
use Rattle.model_pool.specs.Mirror.{Sees}
use Rattle.model_pool.proofs.Sessions.{is-gone}
use Rattle.model_pool.specs.Holds.{Holds, Sane}
use Rattle.model_pool.proofs.Fresh.{fresh_station, fresh-sane, fresh_holds}
use Rattle.model_pool.specs.Reflects.{Reads, Reflects}
use Rattle.model_pool.proofs.Nodes.{held_all}
use Rattle.model_pool.proofs.Arrives.{Lands, lands, works-still}
use Rattle.model_pool.proofs.Told.{sane-delivered}
use Rattle.rules_world.specs.Whole.{Fate, World, state_in, Happening, delivered, with_nodes, after}
use Rattle.rules_world.specs.History.{History, then, joined_by, joined, waits_by, waits, acked_by, acked}
use Rattle.theorem_forgotten.proofs.Tells.{grows, Tells}
use Rattle.theorem_forgotten.proofs.Ground.{still-missed, deliver-unmarked, and-true}

-- ---- a message that came
module _ (w : World) (h : History w) (t : Tells h) (ls : List ℕ) (busy : is_idle w.pool.job ≡ false) (under : w.fate ≡ Fate.under_way) where
  l : Lands t.a (total ls ≡ 8192) (delivered ls w)
  l = lands w t.a t.reflects ((t.reflects.reads busy).under under) ls busy

  seen : (f : Fate) → Reads f l.to.hand → Reflects (with_nodes w (delivered ls w).nodes f) l.to
  seen f k =
      let r = t.reflects in
      record {
        valid = r.valid;
        plain = r.plain;
        shows = record { sees = subst (Sees w.pool.roster) (sym l.pool) r.shows.sees; works = works-still w.pool.job t.a.hand l.to.hand l.hand r.shows.works };
        sane = sane-delivered w.pool.chunks ls w.awaited w.nodes r.sane;
        held = l.held;
        awaits = r.awaits;
        reads = λ z. k;
      }

  never : {A : Type 0} (x : Reply) → Fate.came x ≡ Fate.under_way → A
  never x e = absurd (let z : ◌≡◌ {A = ℕ} 0 1 = cc in let y : ⊥ = omega arith in y)

  came-is : {x y : Reply} → Fate.came x ≡ Fate.came y → x ≡ y
  came-is e = cc

  heard : total ls ≡ 8192 → Reads (Fate.came (delivered ls w).reply) l.to.hand
  heard u = record { under = λ e. never _ e; good = λ b e. l.good u b (came-is e) }

  unheard : Reads (Fate.came Reply.Failed) l.to.hand
  unheard = record { under = λ e. never _ e; good = λ b e. absurd (let x : Reply.Failed ≡ Reply.Good b = came-is e in let z : ◌≡◌ {A = ℕ} 0 1 = cc in let y : ⊥ = omega arith in y) }

  -- what came to its node, whatever is heard of it
  tells : (x : Happening) (f : Fate) → after w x ≡ with_nodes w (delivered ls w).nodes f → ((j : ℕ) (b : Bool) → joined_by w x j b ≡ b) → ((j : ℕ) (b : Bool) → waits_by w x j b ≡ b) → ((c : ℕ) (b : Bool) → acked_by w x c b ≡ b) → grows x ≡ false → Reads f l.to.hand → Tells (then w x h)
  tells x f e jn wt ak g k =
      let r = t.remembers in
      record {
        a = l.to;
        inv = kept-all l.course t.inv;
        reflects = subst (λ (y : World). Reflects y l.to) (sym e) (seen f k);
        remembers = record {
          ever = λ j. jn j (joined h j) ∙ (r.ever j ∙ ap (λ (y : m.Past). y.ever j) (sym l.past));
          wait = λ j. wt j (waits h j) ∙ (r.wait j ∙ ap (λ (y : m.Past). y.wait j) (sym l.past));
          acked = λ c z. ap (λ (y : m.Past). y.acked c) l.past ∙ r.acked c (sym (ak c (acked h c)) ∙ z);
          below = λ c z. subst (λ (y : World). c < y.pool.chunks) (sym e) (r.below c (ap (λ (y : m.Past). y.acked c) (sym l.past) ∙ z));
          new = λ j z. jn j (joined h j) ∙ r.new j (deliver-unmarked w.nodes ls w.awaited j (subst (λ (y : World). (y.nodes j).node.create ≡ true) e z));
          owes = λ n c z. subst (λ (y : m.Past). 0 < y.owe n c) (sym l.past) (r.owes n c (still-missed w h x g n c z).0);
        };
      }

  pub arrives : total ls ≡ 8192 → Tells (then w (Happening.arrives ls) h)
  unfolding after
  arrives u = tells (Happening.arrives ls) (Fate.came (delivered ls w).reply) refl (λ j b. refl) (λ j b. refl) (λ c b. refl) refl (heard u)

  pub breaks-off : Tells (then w (Happening.breaks_off ls) h)
  unfolding after
  breaks-off = tells (Happening.breaks_off ls) (Fate.came Reply.Failed) refl (λ j b. refl) (λ j b. refl) (λ c b. refl) refl unheard

-- ---- another node
module _ (w : World) (h : History w) (t : Tells h) (j : ℕ) (xs ys : List ℕ) (out : has w.pool.roster.members j ≡ false) (free : is_free (state_in w j) ≡ true) (sx : sound w.pool.chunks xs ≡ true) (sy : sound w.pool.chunks ys ≡ true) where
  abbrev s' : Station
  s' = fresh_station j w.pool.chunks xs ys

  unmarked : s'.node.create ≡ false
  unfolding fresh
  unmarked = refl

  abbrev b : m.World
  b = s.transfers (s.at_nodes (s.lived t.a (m.upd t.a.past.been j false) (m.upd t.a.past.ever j false) (m.upd t.a.past.wait j false)) (m.upd t.a.nodes.ver j 0) (m.upd t.a.nodes.map j m.none)) (m.upd t.a.nodes.stg j m.none) (m.upd t.a.nodes.tr j m.Transfer.Shut)

  gone : (f : ℕ → Bool) (g : ℕ → Bool) → ((i : ℕ) → f i ≡ g i) → (i : ℕ) → (f i && not (eqb i j)) ≡ m.upd g j false i
  gone f g e i = split i j
      (λ q. rw (q, eq-eqb j j refl, upd_same g j false) (and-false (f j)))
      (λ q. rw (ne_eqb i j q, upd_other g j i false q) (and-true (f i) ∙ e i))

  pub another : Tells (then w (Happening.another j xs ys) h)
  unfolding after
  another =
      let r = t.reflects in
      let u = t.remembers in
      record {
        a = b;
        inv = kept-all (s.more (s.more (s.more (s.here t.a) (s.Next.Replaced j (sym (r.shows.sees.mem j) ∙ out) (is-gone w.pool.roster t.a.pool r.shows.sees j free))) (s.Next.Stored j 0 (upd_same t.a.past.ever j false))) (s.Next.Drop j)) t.inv;
        reflects = record {
          valid = r.valid;
          plain = r.plain;
          shows = record { sees = r.shows.sees; works = r.shows.works };
          sane = λ i. split i j
              (λ q. subst (λ (n : ℕ). Sane w.pool.chunks n (upd w.nodes j s' n)) (sym q) (subst (Sane w.pool.chunks j) (sym (real.upd_same w.nodes j s')) (fresh-sane j w.pool.chunks xs ys t.reflects.valid.some t.reflects.valid.most sx sy)))
              (λ q. subst (Sane w.pool.chunks i) (sym (real.upd_other w.nodes j i s' q)) (r.sane i));
          held = held_all w.nodes t.a.nodes j s' 0 m.none m.none m.Transfer.Shut r.held (fresh_holds j w.pool.chunks xs ys);
          awaits = r.awaits;
          reads = r.reads;
        };
        remembers = record {
          ever = gone (joined h) t.a.past.ever u.ever;
          wait = gone (waits h) t.a.past.wait u.wait;
          acked = u.acked;
          below = u.below;
          new = λ i. split i j
              (λ q. subst (λ (n : ℕ). (upd w.nodes j s' n).node.create ≡ true → (joined h n && not (eqb n j)) ≡ false) (sym q) (λ z. clash (ap (λ (y : Station). y.node.create) (sym (real.upd_same w.nodes j s')) ∙ z) unmarked))
              (λ q z. rw (u.new i (ap (λ (y : Station). y.node.create) (sym (real.upd_other w.nodes j i s' q)) ∙ z)) refl);
          owes = λ n c z. u.owes n c (still-missed w h (Happening.another j xs ys) refl n c z).0;
        };
      }
