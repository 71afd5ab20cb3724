-- A byte stored in a map. The maps of all nodes stand one after another.
use Rattle.std.specs.Prelude.{List, ℕ, ◌+◌, ◌*◌, ◌%◌, ltb, set}
use Rattle.laws_words.specs.Words.{pick}
use Rattle.lab_form.specs.declared.Which.{Which}

-- v at i of the nth map; there is no map past 15, no byte past 8,191, and nothing past the end
abbrev pub with_byte : ℕ → ℕ → ℕ → List ℕ → List ℕ
with_byte n i v xs = pick (ltb 15 n) xs (pick (ltb 8191 i) xs (set xs (n * 8192 + i) (v % 256)))

-- the client's map, the nodes' maps and their staging maps, where the byte goes into one of them
abbrev pub in_own : Which → ℕ → ℕ → List ℕ → List ℕ
in_own Which.Client i v xs = with_byte 0 i v xs
in_own (Which.Node n) i v xs = xs
in_own (Which.Staging n) i v xs = xs

abbrev pub in_maps : Which → ℕ → ℕ → List ℕ → List ℕ
in_maps Which.Client i v xs = xs
in_maps (Which.Node n) i v xs = with_byte n i v xs
in_maps (Which.Staging n) i v xs = xs

abbrev pub in_stagings : Which → ℕ → ℕ → List ℕ → List ℕ
in_stagings Which.Client i v xs = xs
in_stagings (Which.Node n) i v xs = xs
in_stagings (Which.Staging n) i v xs = with_byte n i v xs
