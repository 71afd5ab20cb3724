-- A member's chunk in a dirty map, a list of bytes: member m's row starts at byte 512m, chunk c is in byte c/8 of the row, bit c mod 8, lowest first.
-- Every definition has a meaning at a list of any length and at any number.
use Rattle.std.specs.Prelude.{Bool, ◌&&◌, List, ℕ, zero, suc, ◌+◌, ◌-◌, ◌*◌, ◌/◌, ◌%◌, ◌^◌, ltb, get_or, set}
use Rattle.std.specs.Int.Bits.{bit_and, bit_or}
use Rattle.laws_words.specs.Words.{pick, bit}
use Rattle.rules_base.specs.Sets.{has}

-- member m and chunk c have a bit: an id is at most 15, a chunk at most 4,095
abbrev pub there : ℕ → ℕ → Bool
there m c = ltb m 16 && ltb c 4096

-- the byte that holds member m's chunk c
unfoldable pub byte_of : ℕ → ℕ → ℕ
byte_of m c = 512 * m + c / 8

-- member m's chunk c: 1 where it is dirty, 0 where it is clean or has no bit
unfoldable pub dirty : List ℕ → ℕ → ℕ → ℕ
dirty xs m c = pick (there m c) (bit (get_or xs (byte_of m c) 0) (c % 8)) 0

-- chunk c marked for member m
unfoldable pub chunk_marked : List ℕ → ℕ → ℕ → List ℕ
chunk_marked xs m c = pick (there m c) (set xs (byte_of m c) (bit_or (get_or xs (byte_of m c) 0) (2 ^ (c % 8)))) xs

-- chunk c cleared for member m
unfoldable pub cleared : List ℕ → ℕ → ℕ → List ℕ
cleared xs m c = pick (there m c) (set xs (byte_of m c) (bit_and (get_or xs (byte_of m c) 0) (255 - 2 ^ (c % 8)))) xs

-- f m for each member m below n that passes the test t, one after the other
unfoldable pub each : (ℕ → Bool) → (ℕ → List ℕ → List ℕ) → ℕ → List ℕ → List ℕ
each t f zero xs = xs
each t f (suc n) xs = pick (t n) (f n (each t f n xs)) (each t f n xs)

-- chunk c marked for each member of the set s
unfoldable pub marked_for : List ℕ → ℕ → ℕ → List ℕ
marked_for xs s c = each (has s) (λ m ys. chunk_marked ys m c) 16 xs

-- how many of member m's chunks below n are dirty
unfoldable pub count_to : List ℕ → ℕ → ℕ → ℕ
count_to xs m zero = 0
count_to xs m (suc n) = count_to xs m n + dirty xs m n

-- how many of member m's chunks are dirty
unfoldable pub count : List ℕ → ℕ → ℕ
count xs m = count_to xs m 4096
