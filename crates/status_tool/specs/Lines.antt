-- What the tool says of a refusal.
use Rattle.std.specs.Prelude.{List, [], ◌∷◌, ℕ}
use Rattle.text_bytes.specs.Bytes.{bytes}
use Rattle.text_bytes.specs.Ink.{decimal}

unfoldable pub refused_line : ℕ → List (List ℕ)
refused_line n = bytes "refused " ∷ decimal n ∷ (10 ∷ []) ∷ []
