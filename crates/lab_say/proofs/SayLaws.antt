-- The loops over the numbers of a message and over the ids.
use Prim.Native.Nat.{ℕ, zero, suc}
use mathlib.Core.Path.{◌≡◌, refl, sym, ◌∙◌}
use Rattle.std.specs.Prelude.{◌≢◌}
use mathlib.Core.List.{List, [], ◌∷◌, ◌++◌, map}
use Rattle.laws_words.specs.Loops.{run_at}
use Rattle.text_bytes.specs.Ink.{Ink, emits, joined, decimal}
use Rattle.text_bytes.proofs.Laws.{emits-end, emits-append}
use Rattle.lab_say.specs.Say.{spaced, said, paired, told_to, told_text, each}
use Rattle.rules_pool.specs.declared.Told.{Told}

-- numbers put, each after a space
abbrev pub numbers_from : Ink → List ℕ → Ink
numbers_from k ns = emits k (joined (map spaced ns))

pub numbers-more : (k k' : Ink) (n : ℕ) → k' ≡ emits k (32 ∷ decimal n) → (ns : List ℕ) → numbers_from k (n ∷ ns) ≡ numbers_from k' ns
unfolding joined spaced
numbers-more k k' n e ns = rw e (emits-append k (32 ∷ decimal n) (joined (map spaced ns)))

pub numbers-end : (k : Ink) → numbers_from k [] ≡ k
unfolding joined
numbers-end k = emits-end k

pub numbers-of : (k k' : Ink) (s ns : List ℕ) → k' ≡ emits k s → numbers_from k' ns ≡ emits k (said s ns)
unfolding joined
numbers-of k k' s ns e = rw e (sym (emits-append k s (joined (map spaced ns))))

-- the text of i put
abbrev pub puts_of : (ℕ → List ℕ) → ℕ → Ink → Ink
puts_of f i k = emits k (f i)

-- two texts put one after the other
pub emits_two : {r k' : Ink} (k : Ink) (s t : List ℕ) → k' ≡ emits k s → r ≡ emits k' t → r ≡ emits k (s ++ t)
emits_two k s t f e = e ∙ rw f (sym (emits-append k s t))

-- n texts put one after the other are the texts joined
pub puts-each : (f : ℕ → List ℕ) (n i : ℕ) (k : Ink) → run_at (puts_of f) n i k ≡ emits k (each f n i)
puts-each f zero i k = sym (emits-end k)
puts-each f (suc n) i k = puts-each f n (suc i) (emits k (f i)) ∙ sym (emits-append k (f i) (each f n (suc i)))

-- the awaited message and its number behind it
pub awaited-of : {k' r : Ink} (k : Ink) (s t : List ℕ) (n : ℕ) → k' ≡ emits k s → r ≡ emits k' (paired t n) → r ≡ emits k (joined (s ∷ t ∷ decimal n ∷ []))
unfolding joined
awaited-of k s t n f e = emits_two k s (paired t n) f e

-- all but three kinds go to each id that they are for, and nowhere else
pub told-plain : (t : Told) → ((to : ℕ) → t ≢ Told.Disable to) → ((to : ℕ) → t ≢ Told.Off to) → ((others normals member version : ℕ) → t ≢ Told.Extended others normals member version) → each (told_to t) 16 0 ≡ told_text t
unfolding told_text
told-plain Told.Nothing d o e = refl
told-plain (Told.Marks set chunk list version) d o e = refl
told-plain (Told.Clears set member chunk) d o e = refl
told-plain (Told.Infos set op member) d o e = refl
told-plain (Told.Disable to) d o e = absurd (d to refl)
told-plain (Told.Off to) d o e = absurd (o to refl)
told-plain (Told.Extended others normals member version) d o e = absurd (e others normals member version refl)
told-plain (Told.Checks set tick) d o e = refl
