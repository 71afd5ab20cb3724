-- A row written as descriptors: one for each run of chunks with the same flag.
use Rattle.std.specs.Prelude.{Result, Ok, Err, Bool, ◌&&◌, List, [], ◌∷◌, ℕ, ◌+◌, eqb, leb, ltb, length}
use Rattle.std.proofs.lemmas.List.Edits.{sets}
use Rattle.laws_words.specs.Words.{pick}
use Rattle.rules_base.specs.Limits.{map_bytes}
use Rattle.rules_base.specs.Map.{row_of}
use Rattle.status_row.specs.Volume.{refused_by, flags_from, row_sound, volume_good}
use Rattle.status_row.specs.Descriptors.{Desc, desc, bytes_of}
use Rattle.rules_base.specs.declared.Refusal.{Refusal}

-- a chunk with flag g goes on with a run of flag f where the flags are the same and the run with it, `next` bytes, is below 2^32: a run of whole chunks is so cut at
-- 2^32 less a chunk
abbrev pub joins : ℕ → ℕ → ℕ → Bool
joins f g next = eqb f g && ltb next 4294967296

-- the runs of chunks of s bytes with these flags, after an open run of b bytes with flag f
unfoldable pub runs_from : ℕ → ℕ → ℕ → List ℕ → List Desc
runs_from s f b [] = desc b f ∷ []
runs_from s f b (g ∷ gs) = pick (joins f g (b + s)) (runs_from s f (b + s) gs) (desc b f ∷ runs_from s g s gs)

unfoldable pub runs : ℕ → List ℕ → List Desc
runs s [] = []
runs s (f ∷ fs) = runs_from s f s fs

-- the descriptors of a row of n chunks of s bytes, as bytes
unfoldable pub status_of : ℕ → ℕ → List ℕ → List ℕ
status_of n s xs = bytes_of (runs s (flags_from xs 0 n))

-- ---- the row xs written into the bytes out
-- 2 the row, 20 the chunk count, the chunk size or too few lent bytes, 0 none
unfoldable pub write_refusal : ℕ → ℕ → List ℕ → List ℕ → ℕ
write_refusal n s xs out = pick (row_sound n xs) (pick (volume_good n s && leb 32768 (length out)) 0 20) 2

unfoldable pub write_answer : ℕ → ℕ → List ℕ → List ℕ → Result ℕ Refusal
write_answer n s xs out = pick (eqb (write_refusal n s xs out) 0) (Ok (length (status_of n s xs))) (Err (refused_by (write_refusal n s xs out)))

-- the descriptors stored from the first lent byte on; the bytes after them stay
unfoldable pub write_leaves : ℕ → ℕ → List ℕ → List ℕ → List ℕ
write_leaves n s xs out = pick (eqb (write_refusal n s xs out) 0) (sets out 0 (status_of n s xs)) out

-- ---- member m's row of the map xs: 2 a map of another length, 3 an id above 15, then as of the row
unfoldable pub member_answer : ℕ → ℕ → List ℕ → ℕ → List ℕ → Result ℕ Refusal
member_answer n s xs m out = pick (eqb (length xs) map_bytes) (pick (ltb m 16) (write_answer n s (row_of xs m) out) (Err Refusal.BadId)) (Err Refusal.BadMap)

unfoldable pub member_leaves : ℕ → ℕ → List ℕ → ℕ → List ℕ → List ℕ
member_leaves n s xs m out = pick (eqb (length xs) map_bytes && ltb m 16) (write_leaves n s (row_of xs m) out) out
