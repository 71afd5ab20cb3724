-- What must hold of mended summaries. Each is a type; the files of proofs/ have its proof under the same name in small letters. xs is a map of 8,192 bytes.
use Rattle.std.specs.Prelude.{◌≡◌, List, ℕ, length}
use Rattle.rules_base.specs.Chunk.{cleared, marked_for}
use Rattle.rules_base.specs.Summary.{summaries_of}
use Rattle.rules_base.specs.Mend.{mended, mended_for}

-- A chunk that was cleared: the map's summaries, mended, are those of the map that is left.
abbrev pub AfterClear : Type 0
AfterClear = (xs : List ℕ) → length xs ≡ 8192 → (m c : ℕ) → mended (cleared xs m c) m c (summaries_of xs) ≡ summaries_of (cleared xs m c)

-- So they are where a chunk was marked for the members of a set.
abbrev pub AfterMarks : Type 0
AfterMarks = (xs : List ℕ) → length xs ≡ 8192 → (s c : ℕ) → mended_for (marked_for xs s c) s c (summaries_of xs) ≡ summaries_of (marked_for xs s c)
