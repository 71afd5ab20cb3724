-- What the number says that the lent maps refuse with. Assumes nothing.
use mathlib.Core.Path.{◌≡◌, refl, sym, ap, ◌∙◌}
use mathlib.Core.Bool.{Bool, true, false, not, ◌&&◌}
use mathlib.Core.List.{List}
use Prim.Native.Nat.{ℕ}
use native.Mathlib.Omega.{arith}
use lib.Dec.{eqb}
use lib.ListN.{length}
use borrow.Author.Tests.{eqb-true}
use Rattle.laws_words.specs.Words.{pick}
use Rattle.laws_words.specs.Tests.{by_cases, and_left, and_right}
use Rattle.rules_base.specs.Limits.{map_bytes}
use Rattle.rules_base.specs.Map.{sound}
use Rattle.rules_base.proofs.Sound.{sound-fact}
use Rattle.rules_base.specs.Summary.{summaries_of, agree}
use Rattle.rules_base.proofs.Summaries.{one-summary}
use Rattle.rules_node.specs.Carry.{map_after}
use Rattle.rules_node.specs.Follow.{followed, words_after}
use Rattle.laws_node.proofs.Follow.{follows}
use Rattle.rules_node.specs.declared.Turn.{Turn}
use Rattle.rules_node.specs.Face.{lent_number, Lent, map_by, words_by}

-- 0: both maps are sound, and the summaries agree
pub lent_none : (b a : Bool) → pick {A = ℕ} (not b) 2 (pick (not a) 18 0) ≡ 0 → (b ≡ true) × (a ≡ true)
lent_none true true e = (refl, refl)
lent_none true false e = absurd (let z : ◌≡◌ {A = ℕ} 18 0 = e in omega arith)
lent_none false a e = absurd (let z : ◌≡◌ {A = ℕ} 2 0 = e in omega arith)

pub lent-clear : (chunks : ℕ) (words xs ys : List ℕ) (lent : ℕ) → lent ≡ lent_number chunks words xs ys → lent ≡ 0 → Lent words xs
lent-clear chunks words xs ys lent e z =
    let p = lent_none (sound chunks xs && sound chunks ys) (agree words xs) (sym e ∙ z) in
    record { size = (sound-fact chunks xs (and_left (sound chunks xs) (sound chunks ys) p.0)).len; agrees = p.1 }

-- the summaries that follow are those of the map that is left
pub words-by : (lent : ℕ) (t : Turn) (words xs ys : List ℕ) → (lent ≡ 0 → Lent words xs) → words_after lent t.effect.map (map_by t xs ys) words ≡ words_by lent t words xs ys
unfolding words_after words_by map_by
words-by lent t words xs ys h =
    by_cases (eqb lent 0)
    (λ e. let l = h (eqb-true lent 0 e) in rw (e, one-summary.own words xs l.agrees) (follows t.effect.map t.node ys xs l.size))
    (λ e. rw e)
