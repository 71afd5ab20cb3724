-- A store's version and its replaced-disk flag. Older stores keep one 64-bit word: the version in the low 63 bits, the flag in the top bit. New stores keep a record of two
-- words: the version, then 0 or 1.
use Rattle.std.specs.Prelude.{Bool, ◌&&◌, ℕ, ◌+◌, ◌*◌, ◌/◌, ◌%◌, ◌^◌, leb, ltb, Result, Ok, Err}
use Rattle.std.specs.declared.cmp.Ordering.{Ordering}
use Rattle.std.specs.Ordering.{nat_cmp}
use Rattle.laws_words.specs.Words.{pick}
use Rattle.map_versions.specs.declared.VersionRecord.{VersionRecord}
use Rattle.rules_base.specs.declared.Refusal.{Refusal}

-- the new record of an old word
abbrev pub record_of : ℕ → VersionRecord
record_of w = record { version = w % 2 ^ 63; flag = w / 2 ^ 63 }

-- a record that a store may keep: a version below 2^63, and a flag of 0 or 1
abbrev pub good : VersionRecord → Bool
good r = ltb r.version (2 ^ 63) && leb r.flag 1

-- the old word of a new record; one that is not good is refused
abbrev pub word_of : VersionRecord → Result ℕ Refusal
word_of r = pick (good r) (Ok (r.version + 2 ^ 63 * r.flag)) (Err Refusal.BadRecord)

-- how two versions compare
abbrev pub compare : ℕ → ℕ → Ordering
compare = nat_cmp

-- ordering looks at the version alone, in either form
abbrev pub compare_words : ℕ → ℕ → Ordering
compare_words v w = compare (v % 2 ^ 63) (w % 2 ^ 63)

abbrev pub compare_records : VersionRecord → VersionRecord → Ordering
compare_records r s = compare r.version s.version
