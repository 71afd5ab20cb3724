-- The loop over the kept chunks.
use Prim.Native.Nat.{ℕ, ◌+◌, ◌-◌, ◌≤◌, ◌<◌}
use mathlib.Core.Path.{◌≡◌, refl, sym}
use mathlib.Core.List.{List, [], ◌∷◌}
use native.Mathlib.Omega.{arith}
use native.Mathlib.Numerals.{add-one}
use lib.ListN.{length, get_or, take, drop, length-drop, drop_of_length-le}
use lib.Seq.{drop-cons, take_all}
use Rattle.text_bytes.specs.Bytes.{bytes}
use Rattle.text_bytes.specs.Ink.{Ink, emits, joined, decimal}
use Rattle.text_bytes.proofs.Laws.{emits-all, emits-end}
use Rattle.lab_say.specs.NodeLine.{commas, chunks_text}

abbrev pub commas_from : Ink → List ℕ → Ink
commas_from k xs = emits k (commas xs)

pub commas-more : (k k' : Ink) (x : ℕ) → k' ≡ emits k (44 ∷ decimal x) → (xs : List ℕ) → commas_from k (x ∷ xs) ≡ commas_from k' xs
unfolding commas
commas-more k k' x e xs = rw e (sym (emits-all k ((44 ∷ decimal x) ∷ commas xs ∷ [])))

pub commas-end : (k : Ink) → commas_from k [] ≡ k
unfolding commas
commas-end k = emits-end k

-- those behind place i, as a slice of an array of sixteen
pub kept-rest : (xs : List ℕ) (i : ℕ) → length xs ≡ 16 → take (16 - i) (drop i xs) ≡ drop i xs
kept-rest xs i h = take_all (16 - i) (drop i xs) (rw length-drop (omega (arith, h)))

pub chunks-none : (xs : List ℕ) (i : ℕ) → length xs ≤ i → chunks_text (drop i xs) ≡ bytes "-"
unfolding chunks_text
chunks-none xs i h = rw (drop_of_length-le xs h) refl

pub chunks-some : (xs : List ℕ) (i : ℕ) → i < length xs → chunks_text (drop i xs) ≡ joined (decimal (get_or xs i 0) ∷ commas (drop (i + 1) xs) ∷ [])
unfolding chunks_text
chunks-some xs i h = rw (drop-cons xs i 0 h, add-one) refl
