-- The kept chunks stand at the end of their sixteen places: a walk from the first of them is a walk of all places, as those before hold none.
use Rattle.std.specs.Prelude.{◌≡◌, refl, List, ℕ, zero, suc, ◌+◌, ◌-◌, ◌≤◌, ◌<◌, get_or, drop}
use Rattle.std.proofs.Common.{sym, ◌∙◌, arith, add-one}
use Rattle.std.proofs.lemmas.Bool.{lt-leb, le-leb}
use Rattle.std.proofs.lemmas.List.{get_or-drop}
use Rattle.laws_words.specs.Loops.{Runs, runs-start, runs-more}
use Rattle.rules_node.specs.declared.Node.{Node}
use Rattle.rules_node.specs.Carry.{last_io, last_io_at}

module _ (n : Node) (chosen : ℕ) where
  passed : (k : ℕ) (xs : List ℕ) → n.held < 16 - k → last_io_at n chosen k xs ≡ xs
  unfolding last_io_at
  passed k xs h = rw (lt-leb (16 - k) n.held h) refl

  done : (k : ℕ) (xs : List ℕ) → 16 - k ≤ n.held → last_io_at n chosen k xs ≡ last_io n.members chosen (get_or n.kept k 0) xs
  unfolding last_io_at
  done k xs h = rw (le-leb (16 - k) n.held h) refl

  pub walk-start : (k : ℕ) (xs : List ℕ) → k ≤ 16 - n.held → Runs 16 (last_io_at n chosen) xs xs k
  walk-start zero xs h = runs-start 16 (last_io_at n chosen) xs
  walk-start (suc k) xs h =
      let r : Runs 16 (last_io_at n chosen) xs xs (k + 1) = runs-more (walk-start k xs (omega arith)) (omega arith) (sym (passed k xs (omega arith))) in
      rw add-one at r

  pub walk-more : {xs ys zs : List ℕ} (from i : ℕ) → from ≡ 16 - n.held → from + i < 16
      → Runs 16 (last_io_at n chosen) xs ys (from + i)
      → zs ≡ last_io n.members chosen (get_or (drop from n.kept) i 0) ys
      → Runs 16 (last_io_at n chosen) xs zs (from + (i + 1))
  walk-more {xs} {ys} {zs} from i q h r e =
      let z : from + (i + 1) ≡ (from + i) + 1 = omega arith in
      let d : zs ≡ last_io_at n chosen (from + i) ys = e ∙ rw (get_or-drop from n.kept i 0) (sym (done (from + i) ys (omega arith))) in
      rw z (runs-more r h d)
