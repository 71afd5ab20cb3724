-- Dirty maps as lists of bytes. A map is 8,192 bytes: sixteen rows of 512. Every definition has a meaning at a list of any length and at any number.
use Rattle.std.specs.Prelude.{Bool, true, not, ◌&&◌, List, [], ◌∷◌, ℕ, suc, ◌+◌, ◌-◌, ◌*◌, ◌/◌, ◌%◌, ◌^◌, min, eqb, leb, ltb, length, get_or, take, drop}
use Rattle.std.specs.Int.Bits.{bit_or}
use Rattle.laws_words.specs.Words.{pick}
use Rattle.rules_base.specs.Limits.{map_bytes}
use Rattle.rules_base.specs.Sets.{has}
use Rattle.rules_base.specs.Chunk.{each}

-- k is one of a, .., e - 1
unfoldable pub within : ℕ → ℕ → ℕ → Bool
within a e k = leb a k && ltb k e

-- xs with each byte at a place k from a up to e replaced by f k of it; i is the place of the list's first byte
unfoldable pub replaced_from : ℕ → ℕ → ℕ → (ℕ → ℕ → ℕ) → List ℕ → List ℕ
replaced_from i a e f [] = []
replaced_from i a e f (x ∷ xs) = pick (within a e i) (f i x) x ∷ replaced_from (suc i) a e f xs

unfoldable pub replaced : ℕ → ℕ → (ℕ → ℕ → ℕ) → List ℕ → List ℕ
replaced a e f xs = replaced_from 0 a e f xs

-- the bytes from a up to e set to 0
unfoldable pub zero_from : ℕ → ℕ → List ℕ → List ℕ
zero_from a e xs = replaced a e (λ k x. 0) xs

-- member m's row set to 0
unfoldable pub zero_row : ℕ → List ℕ → List ℕ
zero_row m xs = pick (ltb m 16) (zero_from (512 * m) (512 * m + 512) xs) xs

-- every byte set to 0
unfoldable pub zeroed : List ℕ → List ℕ
zeroed xs = zero_from 0 (length xs) xs

-- the rows of members outside the set s set to 0
unfoldable pub rows_kept : ℕ → List ℕ → List ℕ
rows_kept s xs = each (λ m. not (has s m)) zero_row 16 xs

-- the bytes from a up to e ORed with those of a second map at the same places
unfoldable pub or_from : ℕ → ℕ → List ℕ → List ℕ → List ℕ
or_from a e xs ys = replaced a e (λ k x. bit_or x (get_or ys k 0)) xs

-- a second map ORed in
unfoldable pub or_in : List ℕ → List ℕ → List ℕ
or_in xs ys = or_from 0 (min (length xs) (length ys)) xs ys

-- a second map copied over the first, as far as both go
unfoldable pub copied : List ℕ → List ℕ → List ℕ
copied xs ys = replaced 0 (min (length xs) (length ys)) (λ k x. get_or ys k 0) xs

-- of a row's byte j, how many bits stand for chunks below the chunk count n
unfoldable pub room : ℕ → ℕ → ℕ
room n j = min 8 (n - 8 * j)

-- what byte k of a map, holding x, holds past the chunk count n
unfoldable pub spare : ℕ → ℕ → ℕ → ℕ
spare n k x = x / 2 ^ room n (k % 512)

-- no byte of the list has a bit set past the chunk count n; i is the place of the list's first byte
unfoldable pub clean_from : ℕ → ℕ → List ℕ → Bool
clean_from n i [] = true
clean_from n i (x ∷ xs) = eqb (spare n i x) 0 && clean_from n (suc i) xs

-- sound: exactly 8,192 bytes, and no bit set past the chunk count n
unfoldable pub sound : ℕ → List ℕ → Bool
sound n xs = eqb (length xs) map_bytes && clean_from n 0 xs

-- member m's row; no bytes where the map is not of 8,192 or the id is above 15
unfoldable pub row_of : List ℕ → ℕ → List ℕ
row_of xs m = pick (eqb (length xs) map_bytes && ltb m 16) (take 512 (drop (512 * m) xs)) []
