-- The summaries of a map, in steps of 16: level 0 are a row's 4,096 chunks, level 1 its 256 groups, level 2 its 16 groups of groups, level 3 its root. Place i of level l + 1 stands over
-- the places 16i, .., 16i + 15 of level l. Each row has six words of 64 bits, so the sixteen rows have 96. Every definition has a meaning at lists of any length and at any number.
use Rattle.std.specs.Prelude.{Bool, true, false, ◌&&◌, ◌||◌, List, [], ◌∷◌, ◌++◌, ℕ, zero, suc, ◌+◌, ◌*◌, ◌/◌, ◌%◌, ◌^◌, eqb, ltb, length, get_or}
use Rattle.std.specs.Int.Bits.{bit_or}
use Rattle.laws_words.specs.Words.{pick, bit}
use Rattle.rules_base.specs.Chunk.{dirty}

-- one of the n numbers from a on passes the test
unfoldable pub some : (ℕ → Bool) → ℕ → ℕ → Bool
some t a zero = false
some t a (suc n) = some t a n || t (a + n)

-- chunk c is dirty for member m
unfoldable pub is_dirty : List ℕ → ℕ → ℕ → Bool
is_dirty xs m c = eqb (dirty xs m c) 1

-- What the bit of member m's place i of level l says, whatever the level: some chunk under the place is dirty.
unfoldable pub under : List ℕ → ℕ → ℕ → ℕ → Bool
under xs m l i = some (is_dirty xs m) (16 ^ l * i) (16 ^ l)

-- ---- the words that are true of a map
-- the number whose bit k is set where k is below n and passes the test: lowest bit first, all other bits zero
unfoldable pub bits : (ℕ → Bool) → ℕ → ℕ
bits t zero = 0
bits t (suc n) = bit_or (bits t n) (pick (t n) (2 ^ n) 0)

-- the word of n places of level l, from place a on
unfoldable pub word : List ℕ → ℕ → ℕ → ℕ → ℕ → ℕ
word xs m l a n = bits (λ k. under xs m l (a + k)) n

-- member m's six: four of the groups, one of the groups of groups, one of the root
unfoldable pub row_words : List ℕ → ℕ → List ℕ
row_words xs m = word xs m 1 0 64 ∷ word xs m 1 64 64 ∷ word xs m 1 128 64 ∷ word xs m 1 192 64 ∷ word xs m 2 0 16 ∷ word xs m 3 0 1 ∷ []

-- word j of all: member m's are 6m to 6m + 5
unfoldable pub word_at : List ℕ → ℕ → ℕ
word_at xs j = get_or (row_words xs (j / 6)) (j % 6) 0

-- the first n words
unfoldable pub words_to : List ℕ → ℕ → List ℕ
words_to xs zero = []
words_to xs (suc n) = words_to xs n ++ (word_at xs n ∷ [])

-- the summaries of a map
unfoldable pub summaries_of : List ℕ → List ℕ
summaries_of xs = words_to xs 96

-- all numbers below n pass the test
unfoldable pub every : ℕ → (ℕ → Bool) → Bool
every zero t = true
every (suc n) t = every n t && t n

-- summaries agree with a map: they are 96 words, and each is the map's
unfoldable pub agree : List ℕ → List ℕ → Bool
agree words xs = eqb (length words) 96 && every 96 (λ j. eqb (get_or words j 0) (word_at xs j))

-- ---- where a place's bit is
-- of the 384 bits of a row's words, the one at which level l starts; level 0 has none
unfoldable pub base : ℕ → ℕ
base l = get_or (0 ∷ 0 ∷ 256 ∷ 320 ∷ []) l 0

-- how many places level l has
unfoldable pub size : ℕ → ℕ
size l = get_or (4096 ∷ 256 ∷ 16 ∷ 1 ∷ []) l 0

-- the bit of member m's place i of level l, of the 6,144 of all words
unfoldable pub bit_of : ℕ → ℕ → ℕ → ℕ
bit_of m l i = 384 * m + base l + i

-- bit b of all words is set
unfoldable pub is_set : List ℕ → ℕ → Bool
is_set words b = eqb (bit (get_or words (b / 64) 0) (b % 64)) 1

-- the place is there
unfoldable pub is_place : ℕ → ℕ → ℕ → Bool
is_place m l i = ltb m 16 && ltb i (size l)

-- the place is marked as dirty: a chunk by its own bit in the map, any other place by its bit in the summaries
unfoldable pub lit : List ℕ → List ℕ → ℕ → ℕ → ℕ → Bool
lit words xs m l i = pick (eqb l 0) (is_dirty xs m i) (is_place m l i && is_set words (bit_of m l i))
