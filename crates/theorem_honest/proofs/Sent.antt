-- MAP_SEND among honest nodes: in whatever parts it goes, the receiver has taken the source's map. Assumes nothing.
use Rattle.std.specs.Prelude.{Some, None}
use mathlib.Core.Path.{◌≡◌, refl, sym, ap, ◌∙◌}
use mathlib.Core.Logic.{◌≢◌}
use mathlib.Core.Bool.{true}
use mathlib.Core.List.{List, [], ◌∷◌}
use Prim.Native.Nat.{ℕ, ◌+◌, ◌≤◌}
use native.Mathlib.Nat.{add-zero, add_assoc}
use native.Mathlib.Omega.{arith}
use Rattle.rules_base.proofs.Joined.{parts_none, parts_whole}
use Rattle.rules_pool.specs.declared.Reply.{Reply}
use Rattle.rules_node.specs.Change.{transferred}
use Rattle.rules_node.specs.Cuts.{sized, total, Cuts}
use Rattle.laws_node.proofs.Cuts.{next-part, later-parts}
use Rattle.rules_world.specs.Station.{Station}
use Rattle.rules_world.specs.Together.{upd, Delivered, send}
use Rattle.theorem_honest.proofs.Ground.{upd_same, upd_other, upd-upd, upd-back}
use Rattle.theorem_honest.proofs.Stations.{Fine, partly, map_taken, took_in, gives-law, takes-law, fine-partly}

abbrev all-good : (ℕ → Station) → Delivered
all-good f = record { nodes = f; reply = Reply.Good None }

module _ (c x y : ℕ) (f : ℕ → Station) (ne : x ≢ y) (fx : Fine c x (f x)) (s : Station) where
  -- the parts from byte a on
  parts-law : (ls : List ℕ) (a : ℕ) → sized ls ≡ true → a + total ls ≤ 8192 → Fine c y (partly (f x).map a s)
      → send ls a x y (upd f y (partly (f x).map a s)) ≡ all-good (upd f y (partly (f x).map (a + total ls) s))
  unfolding send
  parts-law [] a z h fy = rw (add-zero a) refl
  parts-law (l ∷ ls) a z h fy =
      let p = next-part l ls a z h in
      rw (upd_other f y x (partly (f x).map a s) ne, upd_same f y (partly (f x).map a s), gives-law c x a l (f x) fx p, takes-law c y a l (f x).map s fy fx.map p (omega arith), upd-upd f y (partly (f x).map a s) (partly (f x).map (a + l) s))
      (parts-law ls (a + l) (later-parts l ls z) (omega arith) (fine-partly c y a l (f x).map s fy fx.map (omega arith)) ∙ rw (add_assoc a l (total ls)) refl)

-- nothing has come
at-start : (zs : List ℕ) (s : Station) → s.node.transfer ≡ Some 0 → partly zs 0 s ≡ s
unfolding transferred
at-start zs s e = rw (parts_none s.staging zs, ← e) refl

-- the whole map, with any cuts
pub sent-law : (c x y : ℕ) (ls : List ℕ) (f : ℕ → Station) → Cuts ls → x ≢ y → Fine c x (f x) → Fine c y (f y) → (f y).node.transfer ≡ Some 0
    → send ls 0 x y f ≡ all-good (upd f y (took_in (f x).map (f y)))
unfolding map_taken
sent-law c x y ls f k ne fx fy e =
    let q : 0 + total ls ≡ 8192 = omega (arith, k.whole) in
    let b : partly (f x).map 0 (f y) ≡ f y = at-start (f x).map (f y) e in
    let g : f ≡ upd f y (partly (f x).map 0 (f y)) = sym (ap (upd f y) b ∙ upd-back f y) in
    ap (send ls 0 x y) g ∙ (parts-law c x y f ne fx (f y) ls 0 k.sizes (omega (arith, k.whole)) (rw b fy) ∙ rw (q, parts_whole (f y).staging (f x).map fy.staging.len fx.map.len) refl)
