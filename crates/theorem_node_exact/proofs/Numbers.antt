-- Which number is given.
use mathlib.Core.Path.{◌≡◌, refl, sym, ap, ◌∙◌}
use mathlib.Core.Logic.{◌≢◌}
use mathlib.Core.Bool.{Bool, true, false, not, ◌&&◌}
use mathlib.Core.List.{List, [], ◌∷◌}
use Prim.Native.Nat.{ℕ}
use native.Mathlib.Omega.{arith}
use lib.Dec.{ltb}
use borrow.Author.Tests.{not-false}
use Rattle.laws_words.specs.Tests.{by_cases, clash, and_left, and_right, and_both}
use Rattle.rules_base.specs.Refusals.{Test, has_place, applies}
use Rattle.rules_base.specs.Map.{sound}
use Rattle.rules_base.specs.Summary.{agree}
use Rattle.rules_base.proofs.Order.{first-applies}
use Rattle.rules_node.specs.States.{in_hand}
use Rattle.rules_node.specs.StateRules.{valid}
use Rattle.rules_node.specs.Events.{Event, tests_at}
use Rattle.rules_node.specs.Held.{Held}
use Rattle.laws_node.proofs.Theorems.{law, refusal-changes-nothing}
use Rattle.theorem_node_exact.specs.Words.{Iff, Refuses, KeepsRules}
use Rattle.theorem_node_exact.specs.Numbers.{OneGiven, Maps, TwoGiven, EighteenGiven, ThreeGiven, FourGiven, NineGiven, TenGiven, FourteenGiven, FifteenGiven, SixteenGiven, NoOther, NothingChanges, OfTransfer, NeverNine, NothingInHand}
use Rattle.theorem_node_exact.proofs.Rules.{rules-kept, rules-hold, a-map, map-sound}
use Rattle.theorem_node_exact.proofs.Order.{none_of, first-iff}
use Rattle.theorem_node_exact.proofs.Ties.{Tied, clients, others}
use Rattle.theorem_node_exact.proofs.Known.{lent_at, why, refuse-iff, two-iff, eighteen-iff, clear}
use Rattle.theorem_node_exact.proofs.When.{tied}

-- the tests of an event there
abbrev tests_of : Event → Held → List Test
tests_of e w = tests_at e w.at.node (lent_at w)

-- a number above 0
some : {k : ℕ} → ltb 0 k ≡ true → k ≢ 0
some {k} e q = clash e (ap (ltb 0) q)

-- what is not had does not hold its test off
lacking : {b : Bool} {p : Type 0} → Tied b p → ¬ p → b ≡ true
lacking {b} t d = by_cases b (λ e. e) (λ e. absurd (d (t.0 e)))

lacked : {b : Bool} {p : Type 0} → Tied b p → b ≡ true → ¬ p
lacked t e x = clash e (t.1 x)

pub three-given : ThreeGiven
three-given e w g =
    let c = clear e w g in
    let t = tied e w g in
    let o = others e w.at.node (lent_at w) in
    let i : Iff (why e w ≡ 3) _ = first-iff (1 ∷ 2 ∷ 18 ∷ []) (4 ∷ 5 ∷ 6 ∷ 7 ∷ 8 ∷ 9 ∷ 17 ∷ 10 ∷ 11 ∷ 19 ∷ 12 ∷ 13 ∷ 14 ∷ 15 ∷ 16 ∷ []) 3 (tests_of e w) (some refl) refl refl in
    (λ q. let r = i.0 ((refuse-iff e w 3 (some refl)).0 q) in lacked t.three r.1, λ d. (refuse-iff e w 3 (some refl)).1 (i.1 ((c.one, (c.two, (c.eighteen, tt))), lacking t.three d)))

pub four-given : FourGiven
four-given e w g =
    let c = clear e w g in
    let t = tied e w g in
    let o = others e w.at.node (lent_at w) in
    let i : Iff (why e w ≡ 4) _ = first-iff (1 ∷ 2 ∷ 18 ∷ 3 ∷ []) (5 ∷ 6 ∷ 7 ∷ 8 ∷ 9 ∷ 17 ∷ 10 ∷ 11 ∷ 19 ∷ 12 ∷ 13 ∷ 14 ∷ 15 ∷ 16 ∷ []) 4 (tests_of e w) (some refl) refl refl in
    (λ q. let r = i.0 ((refuse-iff e w 4 (some refl)).0 q) in (t.three.0 r.0.1.1.1.0, lacked t.four r.1), λ (x3, d). (refuse-iff e w 4 (some refl)).1 (i.1 ((c.one, (c.two, (c.eighteen, (t.three.1 x3, tt)))), lacking t.four d)))

pub nine-given : NineGiven
nine-given e w g =
    let c = clear e w g in
    let t = tied e w g in
    let o = others e w.at.node (lent_at w) in
    let i : Iff (why e w ≡ 9) _ = first-iff (1 ∷ 2 ∷ 18 ∷ 3 ∷ 4 ∷ 5 ∷ 6 ∷ 7 ∷ 8 ∷ []) (17 ∷ 10 ∷ 11 ∷ 19 ∷ 12 ∷ 13 ∷ 14 ∷ 15 ∷ 16 ∷ []) 9 (tests_of e w) (some refl) refl refl in
    (λ q. let r = i.0 ((refuse-iff e w 9 (some refl)).0 q) in (t.three.0 r.0.1.1.1.0, t.four.0 r.0.1.1.1.1.0, lacked t.nine r.1), λ (x3, x4, d). (refuse-iff e w 9 (some refl)).1 (i.1 ((c.one, (c.two, (c.eighteen, (t.three.1 x3, (t.four.1 x4, (o.0, (o.1.0, (o.1.1.0, (o.1.1.1.0, tt))))))))), lacking t.nine d)))

pub ten-given : TenGiven
ten-given e w g =
    let c = clear e w g in
    let t = tied e w g in
    let o = others e w.at.node (lent_at w) in
    let i : Iff (why e w ≡ 10) _ = first-iff (1 ∷ 2 ∷ 18 ∷ 3 ∷ 4 ∷ 5 ∷ 6 ∷ 7 ∷ 8 ∷ 9 ∷ 17 ∷ []) (11 ∷ 19 ∷ 12 ∷ 13 ∷ 14 ∷ 15 ∷ 16 ∷ []) 10 (tests_of e w) (some refl) refl refl in
    (λ q. let r = i.0 ((refuse-iff e w 10 (some refl)).0 q) in (t.three.0 r.0.1.1.1.0, t.four.0 r.0.1.1.1.1.0, t.nine.0 r.0.1.1.1.1.1.1.1.1.1.0, lacked t.ten r.1), λ (x3, x4, x9, d). (refuse-iff e w 10 (some refl)).1 (i.1 ((c.one, (c.two, (c.eighteen, (t.three.1 x3, (t.four.1 x4, (o.0, (o.1.0, (o.1.1.0, (o.1.1.1.0, (t.nine.1 x9, (o.1.1.1.1.0, tt))))))))))), lacking t.ten d)))

pub fourteen-given : FourteenGiven
fourteen-given e w g =
    let c = clear e w g in
    let t = tied e w g in
    let o = others e w.at.node (lent_at w) in
    let i : Iff (why e w ≡ 14) _ = first-iff (1 ∷ 2 ∷ 18 ∷ 3 ∷ 4 ∷ 5 ∷ 6 ∷ 7 ∷ 8 ∷ 9 ∷ 17 ∷ 10 ∷ 11 ∷ 19 ∷ 12 ∷ 13 ∷ []) (15 ∷ 16 ∷ []) 14 (tests_of e w) (some refl) refl refl in
    (λ q. let r = i.0 ((refuse-iff e w 14 (some refl)).0 q) in (t.three.0 r.0.1.1.1.0, t.four.0 r.0.1.1.1.1.0, t.nine.0 r.0.1.1.1.1.1.1.1.1.1.0, t.ten.0 r.0.1.1.1.1.1.1.1.1.1.1.1.0, lacked t.fourteen r.1), λ (x3, x4, x9, x10, d). (refuse-iff e w 14 (some refl)).1 (i.1 ((c.one, (c.two, (c.eighteen, (t.three.1 x3, (t.four.1 x4, (o.0, (o.1.0, (o.1.1.0, (o.1.1.1.0, (t.nine.1 x9, (o.1.1.1.1.0, (t.ten.1 x10, (o.1.1.1.1.1.0, (o.1.1.1.1.1.1.0, (o.1.1.1.1.1.1.1.0, (o.1.1.1.1.1.1.1.1.0, tt)))))))))))))))), lacking t.fourteen d)))

pub fifteen-given : FifteenGiven
fifteen-given e w g =
    let c = clear e w g in
    let t = tied e w g in
    let o = others e w.at.node (lent_at w) in
    let i : Iff (why e w ≡ 15) _ = first-iff (1 ∷ 2 ∷ 18 ∷ 3 ∷ 4 ∷ 5 ∷ 6 ∷ 7 ∷ 8 ∷ 9 ∷ 17 ∷ 10 ∷ 11 ∷ 19 ∷ 12 ∷ 13 ∷ 14 ∷ []) (16 ∷ []) 15 (tests_of e w) (some refl) refl refl in
    (λ q. let r = i.0 ((refuse-iff e w 15 (some refl)).0 q) in (t.three.0 r.0.1.1.1.0, t.four.0 r.0.1.1.1.1.0, t.nine.0 r.0.1.1.1.1.1.1.1.1.1.0, t.ten.0 r.0.1.1.1.1.1.1.1.1.1.1.1.0, t.fourteen.0 r.0.1.1.1.1.1.1.1.1.1.1.1.1.1.1.1.1.0, lacked t.fifteen r.1), λ (x3, x4, x9, x10, x14, d). (refuse-iff e w 15 (some refl)).1 (i.1 ((c.one, (c.two, (c.eighteen, (t.three.1 x3, (t.four.1 x4, (o.0, (o.1.0, (o.1.1.0, (o.1.1.1.0, (t.nine.1 x9, (o.1.1.1.1.0, (t.ten.1 x10, (o.1.1.1.1.1.0, (o.1.1.1.1.1.1.0, (o.1.1.1.1.1.1.1.0, (o.1.1.1.1.1.1.1.1.0, (t.fourteen.1 x14, tt))))))))))))))))), lacking t.fifteen d)))

pub sixteen-given : SixteenGiven
sixteen-given e w g =
    let c = clear e w g in
    let t = tied e w g in
    let o = others e w.at.node (lent_at w) in
    let i : Iff (why e w ≡ 16) _ = first-iff (1 ∷ 2 ∷ 18 ∷ 3 ∷ 4 ∷ 5 ∷ 6 ∷ 7 ∷ 8 ∷ 9 ∷ 17 ∷ 10 ∷ 11 ∷ 19 ∷ 12 ∷ 13 ∷ 14 ∷ 15 ∷ []) [] 16 (tests_of e w) (some refl) refl refl in
    (λ q. let r = i.0 ((refuse-iff e w 16 (some refl)).0 q) in (t.three.0 r.0.1.1.1.0, t.four.0 r.0.1.1.1.1.0, t.nine.0 r.0.1.1.1.1.1.1.1.1.1.0, t.ten.0 r.0.1.1.1.1.1.1.1.1.1.1.1.0, t.fourteen.0 r.0.1.1.1.1.1.1.1.1.1.1.1.1.1.1.1.1.0, t.fifteen.0 r.0.1.1.1.1.1.1.1.1.1.1.1.1.1.1.1.1.1.0, lacked t.sixteen r.1), λ (x3, x4, x9, x10, x14, x15, d). (refuse-iff e w 16 (some refl)).1 (i.1 ((c.one, (c.two, (c.eighteen, (t.three.1 x3, (t.four.1 x4, (o.0, (o.1.0, (o.1.1.0, (o.1.1.1.0, (t.nine.1 x9, (o.1.1.1.1.0, (t.ten.1 x10, (o.1.1.1.1.1.0, (o.1.1.1.1.1.1.0, (o.1.1.1.1.1.1.1.0, (o.1.1.1.1.1.1.1.1.0, (t.fourteen.1 x14, (t.fifteen.1 x15, tt)))))))))))))))))), lacking t.sixteen d)))

-- ---- 1, 2 and 18, with any bytes lent

pub one-given : OneGiven
one-given e w =
    let h = law e w.at.node (lent_at w) in
    let i : Iff (why e w ≡ 1) _ = first-iff [] (2 ∷ 18 ∷ 3 ∷ 4 ∷ 5 ∷ 6 ∷ 7 ∷ 8 ∷ 9 ∷ 17 ∷ 10 ∷ 11 ∷ 19 ∷ 12 ∷ 13 ∷ 14 ∷ 15 ∷ 16 ∷ []) 1 (tests_of e w) (some refl) refl refl in (
      λ q k. clash (sym h.one ∙ (i.0 ((refuse-iff e w 1 (some refl)).0 q)).1) (ap not (rules-hold w.at.node k)),
      λ d. (refuse-iff e w 1 (some refl)).1 (i.1 (tt, h.one ∙ by_cases (valid w.at.node) (λ v. absurd (d (rules-kept w.at.node v))) (λ v. ap not v))),
    )

maps-sound : (w : Held) → Maps w → (sound w.at.node.chunks w.map && sound w.at.node.chunks w.staging) ≡ true
maps-sound w (a, b) = and_both (map-sound w.at.node.chunks w.map a) (map-sound w.at.node.chunks w.staging b)

sound-maps : (w : Held) → (sound w.at.node.chunks w.map && sound w.at.node.chunks w.staging) ≡ true → Maps w
sound-maps w e = (
  a-map w.at.node.chunks w.map (and_left (sound w.at.node.chunks w.map) (sound w.at.node.chunks w.staging) e),
  a-map w.at.node.chunks w.staging (and_right (sound w.at.node.chunks w.map) (sound w.at.node.chunks w.staging) e),
)

kept_if : (w : Held) → not (valid w.at.node) ≡ false → KeepsRules w.at.node
kept_if w e = rules-kept w.at.node (not-false (valid w.at.node) e)

pub two-given : TwoGiven
two-given e w =
    let h = law e w.at.node (lent_at w) in
    let b : Bool = sound w.at.node.chunks w.map && sound w.at.node.chunks w.staging in
    let j = two-iff b (agree w.at.summaries w.map) in
    let i : Iff (why e w ≡ 2) _ = first-iff (1 ∷ []) (18 ∷ 3 ∷ 4 ∷ 5 ∷ 6 ∷ 7 ∷ 8 ∷ 9 ∷ 17 ∷ 10 ∷ 11 ∷ 19 ∷ 12 ∷ 13 ∷ 14 ∷ 15 ∷ 16 ∷ []) 2 (tests_of e w) (some refl) refl refl in (
      λ q. let r = i.0 ((refuse-iff e w 2 (some refl)).0 q) in (kept_if w (sym h.one ∙ r.0.0), λ m. clash (maps-sound w m) (j.0 (sym h.two ∙ r.1))),
      λ (k, d). (refuse-iff e w 2 (some refl)).1 (i.1 ((h.one ∙ ap not (rules-hold w.at.node k), tt), h.two ∙ j.1 (by_cases b (λ t. absurd (d (sound-maps w t))) (λ f. f)))),
    )

pub eighteen-given : EighteenGiven
eighteen-given e w =
    let h = law e w.at.node (lent_at w) in
    let b : Bool = sound w.at.node.chunks w.map && sound w.at.node.chunks w.staging in
    let j = eighteen-iff b (agree w.at.summaries w.map) in
    let i : Iff (why e w ≡ 18) _ = first-iff (1 ∷ 2 ∷ []) (3 ∷ 4 ∷ 5 ∷ 6 ∷ 7 ∷ 8 ∷ 9 ∷ 17 ∷ 10 ∷ 11 ∷ 19 ∷ 12 ∷ 13 ∷ 14 ∷ 15 ∷ 16 ∷ []) 18 (tests_of e w) (some refl) refl refl in (
      λ q.
          let r = i.0 ((refuse-iff e w 18 (some refl)).0 q) in
          let f = j.0 (sym h.two ∙ r.0.1.0, sym h.eighteen ∙ r.1) in
          (kept_if w (sym h.one ∙ r.0.0), sound-maps w f.0, f.1),
      λ (k, m, a).
          let f = j.1 (maps-sound w m, a) in
          (refuse-iff e w 18 (some refl)).1 (i.1 ((h.one ∙ ap not (rules-hold w.at.node k), (h.two ∙ f.0, tt)), h.eighteen ∙ f.1)),
    )

-- ---- the rest

pub no_other : NoOther
no_other e w number h r =
    let d : number ≢ 0 = λ q. clash h (ap (λ (k : ℕ). has_place k clients) q) in
    let z = (refuse-iff e w number d).0 r in
    let f = first-applies (tests_of e w) (λ q. d (sym z ∙ q)) in
    clash (ap (λ (k : ℕ). applies k (tests_of e w)) (sym z) ∙ f.given) (none_of clients (tests_of e w) number (others e w.at.node (lent_at w)) h)

pub nothing-changes : NothingChanges
nothing-changes e w number r =
    let u = refusal-changes-nothing e w.at w.map w.staging number r in
    rw (u.state, u.map, u.staging) refl

nine-applies : (e : Event) (w : Held) → Refuses 9 e w → applies 9 (tests_of e w) ≡ true
nine-applies e w r =
    let z = (refuse-iff e w 9 (some refl)).0 r in
    let f = first-applies (tests_of e w) (λ q. let z : ⊥ = omega (arith, sym z ∙ q) in z) in
    ap (λ (k : ℕ). applies k (tests_of e w)) (sym z) ∙ f.given

pub never-nine : NeverNine
never-nine _ w (OfTransfer.taking offset part) r = clash (nine-applies (Event.take_part offset part) w r) refl
never-nine _ w (OfTransfer.done enabling version set) r = clash (nine-applies (Event.map_done enabling version set) w r) refl
never-nine _ w OfTransfer.disable r = clash (nine-applies Event.map_disable w r) refl

pub nothing-in-hand : NothingInHand
nothing-in-hand w g i q =
    record {
      taking = λ offset part. (fifteen-given (Event.take_part offset part) w g).1 (i, tt, tt, tt, tt, λ d. d q);
      done = λ enabling version set b h v. (fifteen-given (Event.map_done enabling version set) w g).1 ((i, b), tt, tt, h, v, λ t. clash (ap in_hand t) (ap in_hand q));
      disable = (fifteen-given Event.map_disable w g).1 (i, tt, tt, tt, tt, λ d. d q);
    }
