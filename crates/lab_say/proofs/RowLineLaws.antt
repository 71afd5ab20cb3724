-- The loop over the chunks.
use Prim.Native.Nat.{ℕ, suc, ◌+◌, ◌-◌, ◌≤◌, ◌<◌}
use mathlib.Core.Path.{◌≡◌, refl, ◌∙◌}
use mathlib.Core.Bool.{Bool, true, false}
use mathlib.Core.List.{[], ◌∷◌}
use native.Mathlib.Omega.{arith}
use native.Mathlib.Nat.{sub-zero}
use native.Mathlib.Numerals.{add-one}
use Rattle.std.specs.Prelude.{Option, Some, None, unwrap_or}
use Rattle.text_bytes.specs.Ink.{Ink, emits}
use Rattle.text_bytes.proofs.Laws.{emits-all}
use Rattle.lab_say.specs.Row.{begun_text, ranges}

-- at chunk c, what is left to write still makes r
pub record Ranged (top : ℕ) (d : ℕ → Bool) (r k : Ink) (begun : Option ℕ) (c : ℕ) : Type 0 where
  pub at : c ≤ top
  pub rest : emits k (ranges d begun (top - c) c) ≡ r

pub ranged-start : (top : ℕ) (d : ℕ → Bool) (k : Ink) → Ranged top d (emits k (ranges d None top 0)) k None 0
ranged-start top d k = record { at = omega arith; rest = rw sub-zero refl }

step : (top c : ℕ) → c < top → top - c ≡ suc (top - (c + 1))
step top c h = omega arith

pub ranged-dirty : {top : ℕ} {d : ℕ → Bool} {r k : Ink} {begun begun' : Option ℕ} {c : ℕ} → Ranged top d r k begun c → c < top → d c ≡ true → begun' ≡ Some (unwrap_or begun c) → Ranged top d r k begun' (c + 1)
unfolding ranges
ranged-dirty {top} {d} {r} {k} {begun} {begun'} {c} v h e f =
    record { at = omega arith; rest = rw (f, add-one) (rw (step top c h, e, add-one) at v.rest) }

pub ranged-clean : {top : ℕ} {d : ℕ → Bool} {r k k' : Ink} {begun : Option ℕ} {c : ℕ} → Ranged top d r k begun c → c < top → d c ≡ false → k' ≡ emits k (begun_text begun c) → Ranged top d r k' None (c + 1)
unfolding ranges
ranged-clean {top} {d} {r} {k} {k'} {begun} {c} v h e f =
    record {
      at = omega arith;
      rest = rw (f, add-one) (emits-all k (begun_text begun c ∷ ranges d None (top - suc c) (suc c) ∷ []) ∙ (rw (step top c h, e, add-one) at v.rest));
    }

pub ranged-done : {top : ℕ} {d : ℕ → Bool} {r k k' : Ink} {begun : Option ℕ} {c : ℕ} → Ranged top d r k begun c → top ≤ c → k' ≡ emits k (begun_text begun top) → k' ≡ r
unfolding ranges
ranged-done {top} {d} {r} {k} {k'} {begun} {c} v h f =
    let e : c ≡ top = omega (arith, v.at) in
    let z : top - top ≡ 0 = omega arith in
    f ∙ (rw z at (rw e at v.rest))
