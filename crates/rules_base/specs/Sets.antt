-- Member ids and sets of them. An id is 0 to 15; a set is a number below 2^16, and id i is in it where bit i is set.
-- Every definition has a meaning at any number: an id above 15 is in no set, and entering or taking it out changes nothing.
use Rattle.std.specs.Prelude.{Bool, ◌&&◌, ℕ, zero, suc, ◌+◌, ◌-◌, ◌^◌, eqb, ltb}
use Rattle.std.specs.Int.Bits.{bit_and, bit_or}
use Rattle.laws_words.specs.Words.{pick, one, bit}

-- i is in the set s
unfoldable pub has : ℕ → ℕ → Bool
has s i = ltb i 16 && eqb (bit s i) 1

-- s with i entered
unfoldable pub with : ℕ → ℕ → ℕ
with s i = pick (ltb i 16) (bit_or s (2 ^ i)) s

-- s with i taken out
unfoldable pub without : ℕ → ℕ → ℕ
without s i = pick (ltb i 16) (bit_and s (18446744073709551615 - 2 ^ i)) s

-- how many of the numbers below n pass the test
abbrev pub count_to : (ℕ → Bool) → ℕ → ℕ
count_to p zero = 0
count_to p (suc n) = count_to p n + one (p n)

-- how many ids s holds
unfoldable pub size : ℕ → ℕ
size s = count_to (has s) 16

-- the lowest of the numbers below n that passes the test, 16 where none does
abbrev pub lowest_to : (ℕ → Bool) → ℕ → ℕ
lowest_to p zero = 16
lowest_to p (suc n) = pick (p n && eqb (lowest_to p n) 16) n (lowest_to p n)

-- the lowest id of s, 16 where it holds none
unfoldable pub lowest : ℕ → ℕ
lowest s = lowest_to (has s) 16
