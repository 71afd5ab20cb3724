-- The kept chunks stand at the end of their sixteen places: what each of these places is asked is what the chunks at the end are asked.
use Rattle.std.specs.Prelude.{◌≡◌, refl, Bool, true, false, ℕ, zero, suc, ◌+◌, ◌-◌, ◌≤◌, ◌<◌, ◌&&◌, ltb, length, get_or, drop}
use Rattle.std.specs.List.{list_all}
use Rattle.std.proofs.Common.{◌∙◌, arith, drop-cons, drop_of_length-le}
use Rattle.std.proofs.lemmas.Bool.{lt-leb, le-leb}
use Rattle.laws_words.specs.Bits.{upto}
use Rattle.rules_node.specs.declared.Node.{Node}
use Rattle.rules_node.specs.StateRules.{place_ok, kept_ok}

swapped : (a b c : Bool) → ((a && b) && c) ≡ (b && (a && c))
swapped true b c = refl
swapped false true c = refl
swapped false false c = refl

and-true : (b : Bool) → b ≡ (b && true)
and-true true = refl
and-true false = refl

module _ (n : Node) where
  none-kept : (k : ℕ) → k + n.held ≤ 16 → upto k (place_ok n) ≡ true
  none-kept zero h = refl
  none-kept (suc k) h = rw (lt-leb (16 - k) n.held (omega arith)) (none-kept k (omega arith))

  all-kept : (m k : ℕ) → k + m ≡ 16 → 16 ≤ k + n.held → length n.kept ≡ 16
      → upto 16 (place_ok n) ≡ (upto k (place_ok n) && list_all (λ c. ltb c n.chunks) (drop k n.kept))
  all-kept zero k e h l =
      let q : k ≡ 16 = omega arith in
      let z : length n.kept ≤ 16 = omega (arith, l) in
      rw (q, drop_of_length-le n.kept z) (and-true _)
  all-kept (suc m) k e h l =
      let z : k < length n.kept = omega (arith, l) in
      rw (drop-cons n.kept k 0 z) (all-kept m (suc k) (omega arith) (omega arith) l ∙ rw (le-leb (16 - k) n.held (omega arith)) (swapped (ltb (get_or n.kept k 0) n.chunks) (upto k (place_ok n)) (list_all (λ c. ltb c n.chunks) (drop (suc k) n.kept))))

  pub kept-are : n.held ≤ 16 → length n.kept ≡ 16 → kept_ok n ≡ list_all (λ c. ltb c n.chunks) (drop (16 - n.held) n.kept)
  unfolding kept_ok
  kept-are h l =
      rw (le-leb n.held 16 h, all-kept n.held (16 - n.held) (omega arith) (omega arith) l, none-kept (16 - n.held) (omega arith)) refl
