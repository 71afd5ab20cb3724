-- What becomes of the nodes in the three phases of case 3 before ENABLE: the spread without enable, LAST_IO_TO_MAP, the gather. And so the chosen's map.
use mathlib.Core.Path.{◌≡◌, refl, ap, ◌∙◌}
use mathlib.Core.Bool.{Bool, true, false, not, ◌&&◌, ◌||◌}
use mathlib.Core.Logic.{◌≢◌}
use mathlib.Core.List.{List}
use Prim.Native.Nat.{ℕ, ◌≤◌, ◌<◌, max}
use native.Mathlib.Omega.{arith}
use native.Mathlib.Decide.{ℕ_discrete}
use lib.Dec.{eqb}
use borrow.Author.Tests.{eq-eqb, ne_eqb}
use Rattle.laws_words.specs.Tests.{by_cases, clash, and_left, and_right}
use Rattle.rules_base.specs.Sets.{has, without, lowest}
use Rattle.rules_base.proofs.Sets.{has-below, has-none, has-without-same, has-without-other, still, lowest-in}
use Rattle.rules_base.specs.Chunk.{dirty}
use Rattle.rules_base.proofs.Chunk.{dirty-lt}
use Rattle.rules_base.specs.Map.{or_in}
use Rattle.rules_base.proofs.Chunks.{dirty-kept, dirty-or}
use Rattle.rules_base.proofs.Sound.{sound-or}
use Rattle.rules_node.specs.Change as change
use Rattle.rules_node.specs.Hand.{committed}
use Rattle.rules_node.specs.Serve.{readied}
use Rattle.rules_world.specs.Station.{Station}
use Rattle.rules_world.specs.Together.{upd}
use Rattle.theorem_honest.specs.Demand.{any, is_dirty, keeps, set_at, last_io_marks}
use Rattle.theorem_honest.proofs.Ground.{upd_same, upd_other, not_in, out-still}
use Rattle.theorem_honest.proofs.Stations.{Fine, last_to, copy-law, join-law, map_taken}
use Rattle.theorem_honest.proofs.LastIos.{any-one, none-at, dirty-yes, dirty-no, last-held, last-marks, last-only}
use Rattle.theorem_honest.proofs.Course.{base, gather, spread_to}

-- those left are members, and not the source
pub record Round (m src l : ℕ) : Type 0 where
  pub inside : (j : ℕ) → has l j ≡ true → has m j ≡ true
  pub apart : has l src ≡ false

-- every member's node is honest
abbrev pub Fines : ℕ → ℕ → (ℕ → Station) → Type 0
Fines m c f = (j : ℕ) → has m j ≡ true → Fine c j (f j)

-- ---- each of a set has become something of itself, the others stay

pub record Each (l : ℕ) (to : ℕ → Station) (f g : ℕ → Station) : Type 0 where
  pub done : (j : ℕ) → has l j ≡ true → g j ≡ to j
  pub same : (j : ℕ) → has l j ≡ false → g j ≡ f j

pub each_none : (to f : ℕ → Station) → Each 0 to f f
each_none to f = record { done = λ j h. clash h (has-none j); same = λ j h. refl }

-- the lowest first, then the rest, of whom each becomes what it would have become at first
pub each_more : (l : ℕ) (to to' f g : ℕ → Station) → lowest l < 16 → ((j : ℕ) → has (without l (lowest l)) j ≡ true → to' j ≡ to j)
    → Each (without l (lowest l)) to' (upd f (lowest l) (to (lowest l))) g → Each l to f g
each_more l to to' f g h e i =
    record {
      done = λ j q. go j q (ℕ_discrete j x);
      same = λ j q. i.same j (out-still l x j q) ∙ upd_other f x j (to x) (not_in l x j (lowest-in l h) q);
    }
  where
    x : ℕ
    x = lowest l

    go : (j : ℕ) → has l j ≡ true → Dec (j ≡ x) → g j ≡ to j
    go j q (yes p) = rw p (i.same x (has-without-same l x) ∙ upd_same f x (to x))
    go j q (no p) = let r : has (without l x) j ≡ true = has-without-other l x j p ∙ q in i.done j r ∙ e j r

-- ---- the gather, seen at any chunk of a member: it is dirty where it was, or where it is at one of those who gave

pub record Gathered (m src l : ℕ) (f g : ℕ → Station) : Type 0 where
  pub same : (j : ℕ) → j ≢ src → g j ≡ f j
  pub held : (i ch : ℕ) → has m i ≡ true → ch < 4096 → dirty (f src).map i ch ≤ dirty (g src).map i ch
  pub given : (j i ch : ℕ) → has l j ≡ true → has m i ≡ true → ch < 4096 → dirty (f j).map i ch ≤ dirty (g src).map i ch
  pub only : (i ch : ℕ) → has m i ≡ true → ch < 4096 → dirty (f src).map i ch ≡ 0 → ((j : ℕ) → has l j ≡ true → dirty (f j).map i ch ≡ 0) → dirty (g src).map i ch ≡ 0

pub gathered_none : (m src : ℕ) (f : ℕ → Station) → Gathered m src 0 f f
gathered_none m src f =
    record {
      same = λ j n. refl;
      held = λ i ch a b. omega arith;
      given = λ j i ch q a b. clash q (has-none j);
      only = λ i ch a b e n. e;
    }

-- one map more
join-chunk : (c m v src j : ℕ) (a b : Station) → Fine c j a → Fine c src b → (i ch : ℕ) → has m i ≡ true → ch < 4096 → dirty (spread_to gather m v a b).map i ch ≡ max (dirty b.map i ch) (dirty a.map i ch)
join-chunk c m v src j a b fa fb i ch q l =
    ap (λ (xs : List ℕ). dirty xs i ch) (join-law c src false v m a.map b fb fa.map)
    ∙ (dirty-kept (or_in b.map a.map) m i ch (sound-or c b.map a.map fb.map fa.map).len (has-below m i q) l
    ∙ rw (q, dirty-or b.map a.map i ch fb.map.len fa.map.len (has-below m i q) l) (omega (arith, dirty-lt b.map i ch, dirty-lt a.map i ch)))

pub gathered-more : (c m v src l : ℕ) (f g : ℕ → Station) → lowest l < 16 → has m src ≡ true → Round m src l → Fines m c f
    → Gathered m src (without l (lowest l)) (upd f src (spread_to gather m v (f (lowest l)) (f src))) g → Gathered m src l f g
gathered-more c m v src l f g h own r fs i =
    record {
      same = λ j n. i.same j n ∙ upd_other f src j s n;
      held = λ k ch a b. let w = i.held k ch a b in let e = now k ch a b in omega arith;
      given = λ j k ch q a b. go j k ch q a b (ℕ_discrete j x);
      only = λ k ch a b e n.
          i.only k ch a b (let z = now k ch a b in let y = n x x-in in omega arith)
          (λ j q. ap (λ (t : Station). dirty t.map k ch) (other j (still l x j q).0) ∙ n j (still l x j q).0);
    }
  where
    x : ℕ
    x = lowest l

    x-in : has l x ≡ true
    x-in = lowest-in l h

    s : Station
    s = spread_to gather m v (f x) (f src)

    f₁ : ℕ → Station
    f₁ = upd f src s

    now : (k ch : ℕ) → has m k ≡ true → ch < 4096 → dirty (f₁ src).map k ch ≡ max (dirty (f src).map k ch) (dirty (f x).map k ch)
    now k ch a b =
        ap (λ (t : Station). dirty t.map k ch) (upd_same f src s)
        ∙ join-chunk c m v src x (f x) (f src) (fs x (r.inside x x-in)) (fs src own) k ch a b

    other : (j : ℕ) → has l j ≡ true → f₁ j ≡ f j
    other j q = upd_other f src j s (λ e. clash q (ap (has l) e ∙ r.apart))

    go : (j k ch : ℕ) → has l j ≡ true → has m k ≡ true → ch < 4096 → Dec (j ≡ x) → dirty (f j).map k ch ≤ dirty (g src).map k ch
    go j k ch q a b (yes p) =
        let w = i.held k ch a b in
        let e = now k ch a b in
        let y : dirty (f j).map k ch ≡ dirty (f x).map k ch = ap (λ (t : ℕ). dirty (f t).map k ch) p in
        omega arith
    go j k ch q a b (no p) =
        let w = i.given j k ch (has-without-other l x j p ∙ q) a b in
        let y : dirty (f₁ j).map k ch ≡ dirty (f j).map k ch = ap (λ (t : Station). dirty t.map k ch) (other j q) in
        omega arith

-- what the three come to: the chosen's map at any chunk of a member, and the nodes that are no member's as they were
pub record Prepared (m src : ℕ) (f g : ℕ → Station) : Type 0 where
  pub chunk : (i ch : ℕ) → has m i ≡ true → ch < 4096 → is_dirty (g src).map i ch ≡ (is_dirty (f src).map i ch || any 16 (λ j. has m j && last_io_marks m src f j i ch))
  pub others : (j : ℕ) → has m j ≡ false → g j ≡ f j

-- ---- the three together: f the nodes at first, f₁ after the spread without enable, f₂ after LAST_IO_TO_MAP, g after the gather

-- what a node is when LAST_IO_TO_MAP reaches it, of what it began with: its member set, its kept chunks, and in members' rows the chosen's map
record Ready (m src : ℕ) (f : ℕ → Station) (ch j : ℕ) (s : Station) : Type 0 where
  members : s.node.members ≡ set_at m src f j
  chunks : keeps s.node ch ≡ keeps (f j).node ch
  map : (i : ℕ) → has m i ≡ true → dirty s.map i ch ≡ dirty (f src).map i ch

spread-keeps : (m v ch : ℕ) (a b : Station) → keeps (spread_to base m v a b).node ch ≡ keeps b.node ch
unfolding keeps committed map_taken readied change.instructed change.stored_version change.taken_over change.ended_transfer change.transferred change.went_to
spread-keeps m v ch a b = refl

spread-members : (m v : ℕ) (a b : Station) → (spread_to base m v a b).node.members ≡ m
unfolding committed change.instructed change.stored_version change.taken_over change.ended_transfer change.transferred change.went_to
spread-members m v a b = refl

not-true : (b : Bool) → not b ≡ true → b ≡ false
not-true true e = clash e refl
not-true false e = refl

module _ (m v c src : ℕ) (own : has m src ≡ true) (f f₁ f₂ g : ℕ → Station) (fs : Fines m c f) (fs₁ : Fines m c f₁)
    (spread : Each (without m src) (λ j. spread_to base m v (f src) (f j)) f f₁) (last : Each m (λ j. last_to src (f₁ j)) f₁ f₂) (gathers : Gathered m src (without m src) f₂ g) where
  module _ (ch : ℕ) (hc : ch < 4096) where
    ready : (j : ℕ) → has m j ≡ true → Ready m src f ch j (f₁ j)
    ready j q = go (ℕ_discrete j src)
      where
        go : Dec (j ≡ src) → Ready m src f ch j (f₁ j)
        go (yes p) =
            let e : f₁ src ≡ f src = spread.same src (has-without-same m src) in
            rw (p, e) (record { members = rw (eq-eqb src src refl) refl; chunks = refl; map = λ i a. refl })
        go (no p) =
            rw (spread.done j (has-without-other m src j p ∙ q)) (record {
              members = spread-members m v (f src) (f j) ∙ rw (ne_eqb j src p) refl;
              chunks = spread-keeps m v ch (f src) (f j);
              map = λ i a.
                  ap (λ (xs : List ℕ). dirty xs i ch) (copy-law c j false v m (f src).map (f j) (fs j q) (fs src own).map)
                  ∙ (dirty-kept (f src).map m i ch (fs src own).map.len (has-below m i a) hc ∙ rw a (omega (arith, dirty-lt (f src).map i ch)));
            })

    module _ (i : ℕ) (a : has m i ≡ true) where
      abbrev marks : ℕ → Bool
      marks j = last_io_marks m src f j i ch

      -- what LAST_IO_TO_MAP makes of a member's node
      stays : (j : ℕ) → has m j ≡ true → dirty (f src).map i ch ≤ dirty (f₂ j).map i ch
      stays j q =
          let r = ready j q in
          let e = r.map i a in
          let h = last-held c j src (f₁ j).node (fs₁ j q).core (has-below m src own) ch hc i (has-below m i a) (f₁ j).map (fs₁ j q).map in
          rw (last.done j q) (omega arith)

      is-marked : (j : ℕ) → has m j ≡ true → marks j ≡ true → dirty (f₂ j).map i ch ≡ 1
      is-marked j q e =
          let r = ready j q in
          let e₁ = and_left (keeps (f j).node ch) _ e in
          let e₂ = and_right (keeps (f j).node ch) _ e in
          rw (last.done j q)
          (last-marks c j src (f₁ j).node (fs₁ j q).core (has-below m src own) ch hc i (has-below m i a) (f₁ j).map (fs₁ j q).map
          (r.chunks ∙ e₁)
          (r.map src own ∙ dirty-no (f src).map src ch (not-true (is_dirty (f src).map src ch) (and_left (not (is_dirty (f src).map src ch)) _ e₂)))
          (ap (λ (s : ℕ). has (without s src) i) r.members ∙ and_right (not (is_dirty (f src).map src ch)) _ e₂))

      not-marked : (j : ℕ) → has m j ≡ true → marks j ≡ false → dirty (f₂ j).map i ch ≡ dirty (f src).map i ch
      not-marked j q e =
          let r = ready j q in
          rw (last.done j q)
          (last-only c j src (f₁ j).node (fs₁ j q).core (has-below m src own) ch hc i (has-below m i a) (f₁ j).map (fs₁ j q).map
          (rw (r.chunks, r.members, r.map src own) e) ∙ r.map i a)

      -- the chosen's map, at any chunk of a member
      chosen-chunk : is_dirty (g src).map i ch ≡ (is_dirty (f src).map i ch || any 16 (λ j. has m j && last_io_marks m src f j i ch))
      chosen-chunk = by_cases (is_dirty (f src).map i ch) held (λ e. by_cases (any 16 (λ j. has m j && last_io_marks m src f j i ch)) (lasts e) (none e))
        where
          is-dirty : 1 ≤ dirty (g src).map i ch → is_dirty (g src).map i ch ≡ true
          is-dirty l = eq-eqb (dirty (g src).map i ch) 1 (omega (arith, l, dirty-lt (g src).map i ch))

          held : is_dirty (f src).map i ch ≡ true → is_dirty (g src).map i ch ≡ (is_dirty (f src).map i ch || any 16 (λ j. has m j && last_io_marks m src f j i ch))
          held e =
              let d = dirty-yes (f src).map i ch e in
              let s = stays src own in
              let h = gathers.held i ch a hc in
              is-dirty (omega arith) ∙ rw e refl

          from : (j : ℕ) → has m j ≡ true → dirty (f₂ j).map i ch ≤ dirty (g src).map i ch
          from j q = go (ℕ_discrete j src)
            where
              go : Dec (j ≡ src) → dirty (f₂ j).map i ch ≤ dirty (g src).map i ch
              go (yes p) = rw p (gathers.held i ch a hc)
              go (no p) = gathers.given j i ch (has-without-other m src j p ∙ q) a hc

          lasts : is_dirty (f src).map i ch ≡ false → any 16 (λ j. has m j && last_io_marks m src f j i ch) ≡ true
              → is_dirty (g src).map i ch ≡ (is_dirty (f src).map i ch || any 16 (λ j. has m j && last_io_marks m src f j i ch))
          lasts e t =
              any-one 16 (λ j. has m j && last_io_marks m src f j i ch) (is_dirty (g src).map i ch ≡ true) t
              (λ j l r. let q = and_left (has m j) _ r in let d = is-marked j q (and_right (has m j) _ r) in let h = from j q in is-dirty (omega arith))
              ∙ rw (e, t) refl

          none : is_dirty (f src).map i ch ≡ false → any 16 (λ j. has m j && last_io_marks m src f j i ch) ≡ false
              → is_dirty (g src).map i ch ≡ (is_dirty (f src).map i ch || any 16 (λ j. has m j && last_io_marks m src f j i ch))
          none e t = ap (λ (d : ℕ). eqb d 1) clean ∙ rw (e, t) refl
            where
              unmarked : (j : ℕ) → has m j ≡ true → dirty (f₂ j).map i ch ≡ 0
              unmarked j q = not-marked j q (rw q at (none-at 16 (λ j. has m j && last_io_marks m src f j i ch) t j (has-below m j q))) ∙ dirty-no (f src).map i ch e

              clean : dirty (g src).map i ch ≡ 0
              clean = gathers.only i ch a hc (unmarked src own) (λ j q. unmarked j (still m src j q).0)

  pub prepared : Prepared m src f g
  prepared = record {
    chunk = λ i ch a hc. chosen-chunk ch hc i a;
    others = λ j q. gathers.same j (not_in m src j own q) ∙ (last.same j q ∙ spread.same j (out-still m src j q));
  }
