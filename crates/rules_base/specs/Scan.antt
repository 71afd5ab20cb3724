-- What the scan for soundness gathers; the laws of proofs/ show that it is 0 exactly where no bit past the chunk count is set.
use Rattle.std.specs.Prelude.{List, ℕ, zero, suc, ◌+◌, ◌-◌, ◌*◌, ◌/◌, ◌%◌, ◌^◌, leb, get_or}
use Rattle.std.specs.Int.Bits.{bit_or}
use Rattle.laws_words.specs.Words.{pick}

-- the OR of n bytes from place a on
unfoldable pub or_to : List ℕ → ℕ → ℕ → ℕ
or_to xs a zero = 0
or_to xs a (suc n) = bit_or (or_to xs a n) (get_or xs (a + n) 0)

-- what member m's row holds past the chunk count n: of the count's own byte the bits above it, and all bytes after it
unfoldable pub row_spare : List ℕ → ℕ → ℕ → ℕ
row_spare xs n m =
    pick (leb 512 (n / 8)) 0
    (bit_or (get_or xs (512 * m + n / 8) 0 / 2 ^ (n % 8)) (or_to xs (512 * m + n / 8 + 1) (511 - n / 8)))

-- the same for the rows below m
unfoldable pub rows_spare : List ℕ → ℕ → ℕ → ℕ
rows_spare xs n zero = 0
rows_spare xs n (suc m) = bit_or (rows_spare xs n m) (row_spare xs n m)
