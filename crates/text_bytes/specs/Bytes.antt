-- Bytes: those of a text, and when two lists of them are the same.
use Rattle.std.specs.Prelude.{ℕ, Bool, true, false, ◌&&◌, List, [], ◌∷◌, eqb}
use Prim.Native.Char.{code}
use Prim.Native.String.{String, [] as no_more, ◌∷◌ as ◌then◌}

-- The bytes of a text in ASCII.
abbrev pub bytes : String → List ℕ
bytes no_more = []
bytes (c then s) = code c ∷ bytes s

-- The two are the same, byte by byte.
unfoldable pub eq_bytes : List ℕ → List ℕ → Bool
eq_bytes [] [] = true
eq_bytes [] (b ∷ t) = false
eq_bytes (a ∷ s) [] = false
eq_bytes (a ∷ s) (b ∷ t) = eqb a b && eq_bytes s t
