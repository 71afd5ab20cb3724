-- How summaries follow a chunk that was marked or cleared: only the places above it are looked at. xs is the map after the change. Every definition has a meaning at lists of any length and at
-- any number.
use Rattle.std.specs.Prelude.{Bool, List, ℕ, ◌-◌, ◌*◌, ◌/◌, ◌%◌, ◌^◌, get_or, set}
use Rattle.std.specs.Int.Bits.{bit_and, bit_or}
use Rattle.laws_words.specs.Words.{pick}
use Rattle.rules_base.specs.Sets.{has}
use Rattle.rules_base.specs.Chunk.{there, each}
use Rattle.rules_base.specs.Summary.{some, bit_of, lit}

-- a word with its bit k set where the test holds, and clear where it does not
unfoldable pub bit_put : ℕ → Bool → ℕ → ℕ
bit_put k t w = pick t (bit_or w (2 ^ k)) (bit_and w (2 ^ 64 - 1 - 2 ^ k))

-- the same of bit b of all words
unfoldable pub put : ℕ → Bool → List ℕ → List ℕ
put b t words = set words (b / 64) (bit_put (b % 64) t (get_or words (b / 64) 0))

-- member m's place i of level l, above the chunks, marked anew: set exactly when one of the sixteen places below it is marked
unfoldable pub renewed : List ℕ → ℕ → ℕ → ℕ → List ℕ → List ℕ
renewed xs m l i words = put (bit_of m l i) (some (lit words xs m (l - 1)) (16 * i) 16) words

-- member m's chunk c changed: its group, then its group of groups, then the root
unfoldable pub mended : List ℕ → ℕ → ℕ → List ℕ → List ℕ
mended xs m c words = pick (there m c) (renewed xs m 3 0 (renewed xs m 2 (c / 256) (renewed xs m 1 (c / 16) words))) words

-- chunk c changed for each member of the set s
unfoldable pub mended_for : List ℕ → ℕ → ℕ → List ℕ → List ℕ
mended_for xs s c words = each (has s) (λ m ws. mended xs m c ws) 16 words
