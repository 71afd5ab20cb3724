-- The loop over the letters of the sessions.
use Prim.Native.Nat.{ℕ}
use mathlib.Core.Path.{◌≡◌, refl, ◌∙◌}
use mathlib.Core.List.{List, ◌∷◌, map}
use Rattle.text_bytes.specs.Ink.{Ink, emit, emits}
use Rattle.text_bytes.proofs.Laws.{emits-more}
use Rattle.rules_pool.specs.declared.Session.{Session}
use Rattle.lab_say_client.specs.Client.{letter}

abbrev pub letters_from : Ink → List Session → Ink
letters_from k ss = emits k (map letter ss)

pub letters-more : (k k' : Ink) (s : Session) (b : ℕ) → b ≡ letter s → k' ≡ emit k b → (ys : List Session) → letters_from k (s ∷ ys) ≡ letters_from k' ys
letters-more k k' s b e f ys = emits-more k k' (letter s) (f ∙ rw e refl) (map letter ys)
