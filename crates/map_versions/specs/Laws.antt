-- What must hold of the two forms. Each is a type; proofs/Laws.antt has its proof under the same name in small letters.
use Rattle.std.specs.Prelude.{◌≡◌, ◌⊎◌, ℕ, ◌-◌, ◌^◌, ◌≤◌, ◌<◌, Result, Ok, IsErrAnd}
use Rattle.std.specs.declared.cmp.Ordering.{Ordering}
use Rattle.std.specs.Ordering.{MatchOrdering}
use Rattle.map_versions.specs.declared.VersionRecord.{VersionRecord}
use Rattle.rules_base.specs.declared.Refusal.{Refusal}
use Rattle.rules_base.specs.Refusals.{number}
use Rattle.map_versions.specs.Versions.{record_of, word_of, compare_words, compare_records}

-- Every old word comes back the same from its record.
abbrev pub WordBack : Type 0
WordBack = (w : ℕ) → w < 2 ^ 64 → word_of (record_of w) ≡ Ok w

-- No other record has that word.
abbrev pub OneRecord : Type 0
OneRecord = (w : ℕ) (r : VersionRecord) → word_of r ≡ Ok w → r ≡ record_of w

-- A record with a version below 2^63 and a flag of 0 or 1 has an old word, one of 64 bits, and comes back the same from it.
pub record Kept (r : VersionRecord) : Type 0 where
  pub word : ℕ
  pub fits : word < 2 ^ 64
  pub given : word_of r ≡ Ok word
  pub back : record_of word ≡ r

abbrev pub RecordBack : Type 0
RecordBack = (r : VersionRecord) → r.version < 2 ^ 63 → r.flag ≤ 1 → Kept r

-- The answer is a refusal with the number n.
abbrev pub RefusedWith : ℕ → Result ℕ Refusal → Type 0
RefusedWith n a = IsErrAnd a (λ e. number e ≡ n)

-- A record with a version of 2^63 or more, or a flag above 1, is refused with 21. By RecordBack no other record is refused.
abbrev pub Refused : Type 0
Refused = (r : VersionRecord) → (2 ^ 63 ≤ r.version) ⊎ (1 < r.flag) → RefusedWith 21 (word_of r)

-- What each answer of the order says of two versions.
abbrev pub Says : Ordering → ℕ → ℕ → Type 0
Says o a b = MatchOrdering o (a < b) (a ≡ b) (b < a)

-- The order of two records, whatever they hold, says what holds of their versions.
abbrev pub Ordered : Type 0
Ordered = (r s : VersionRecord) → Says (compare_records r s) r.version s.version

-- The two orders agree: that of two words is that of their records, and that of two records is that of their words.
pub record Agree : Type 0 where
  pub words : (v w : ℕ) → compare_words v w ≡ compare_records (record_of v) (record_of w)
  pub records : (r s : VersionRecord) (v w : ℕ) → word_of r ≡ Ok v → word_of s ≡ Ok w → compare_records r s ≡ compare_words v w

-- ---- the ends of the range
abbrev pub two_words : ℕ → ℕ → VersionRecord
two_words v f = record { version = v; flag = f }

pub record Ends : Type 0 where
  pub nothing : record_of 0 ≡ two_words 0 0
  pub last : record_of (2 ^ 63 - 1) ≡ two_words (2 ^ 63 - 1) 0
  pub flag-alone : record_of (2 ^ 63) ≡ two_words 0 1
  pub full : record_of (2 ^ 64 - 1) ≡ two_words (2 ^ 63 - 1) 1
  pub last-back : word_of (two_words (2 ^ 63 - 1) 0) ≡ Ok (2 ^ 63 - 1)
  pub full_back : word_of (two_words (2 ^ 63 - 1) 1) ≡ Ok (2 ^ 64 - 1)
  pub version-high : RefusedWith 21 (word_of (two_words (2 ^ 63) 0))
  pub flag-above : RefusedWith 21 (word_of (two_words 0 2))
  -- a flag counts for nothing: as plain numbers these words would compare the other way
  pub flags-differ : compare_words (2 ^ 63) 0 ≡ Ordering.Equal
  pub flag-is-lower : compare_words (2 ^ 63) 1 ≡ Ordering.Less
