-- The laws of specs/Laws.antt. Assumes nothing.
use mathlib.Core.Path.{◌≡◌, refl, sym, ap, ◌∙◌}
use mathlib.Core.Logic.{⊎_elim}
use Prim.Native.Nat.{◌+◌, ◌*◌, ◌^◌, ◌≤◌, ◌<◌}
use native.Mathlib.Omega.{arith}
use lib.Dec.{leb, ltb}
use borrow.Author.Tests.{lt-ltb, le-ltb, le-leb, lt-leb, ltb-true, ltb-false, leb-true, leb-false}
use Rattle.std.specs.Cmp.{ranks}
use Rattle.std.specs.Prelude.{Ok, Err}
use Rattle.laws_words.specs.Tests.{by_cases, and-false}
use Rattle.map_versions.specs.declared.VersionRecord.{VersionRecord}
use Rattle.rules_base.specs.declared.Refusal.{Refusal}
use Rattle.map_versions.specs.Versions.{record_of, word_of}
use Rattle.map_versions.specs.Laws.{WordBack, OneRecord, RecordBack, Refused, Ordered, Agree, Ends}

-- ---- the ways through `word_of`
pub good-word : (r : VersionRecord) → r.version < 2 ^ 63 → r.flag ≤ 1 → word_of r ≡ Ok (r.version + 2 ^ 63 * r.flag)
good-word r h l = rw (lt-ltb r.version (2 ^ 63) h, le-leb r.flag 1 l)

pub high-refused : (r : VersionRecord) → 2 ^ 63 ≤ r.version → word_of r ≡ Err Refusal.BadRecord
high-refused r h = rw (le-ltb r.version (2 ^ 63) h)

pub flag-refused : (r : VersionRecord) → 1 < r.flag → word_of r ≡ Err Refusal.BadRecord
flag-refused r h = simp (lt-leb r.flag 1 h, and-false)

-- by whether the version is below 2^63 and the flag at most 1
cases : {P : Type 0} (r : VersionRecord) → (r.version < 2 ^ 63 → r.flag ≤ 1 → P) → (2 ^ 63 ≤ r.version → P) → (1 < r.flag → P) → P
cases r f g h =
    by_cases (ltb r.version (2 ^ 63))
    (λ e. by_cases (leb r.flag 1) (λ l. f (ltb-true r.version (2 ^ 63) e) (leb-true r.flag 1 l)) (λ l. h (leb-false r.flag 1 l)))
    (λ e. g (ltb-false r.version (2 ^ 63) e))

-- two records with the same words
same-fields : (r s : VersionRecord) → r.version ≡ s.version → r.flag ≡ s.flag → r ≡ s
same-fields r s e f = λ i. record { version = e i; flag = f i }

-- ---- there and back
pub word_back : WordBack
word_back w h = good-word (record_of w) (omega arith) (omega arith) ∙ ap Ok (omega arith)

pub one-record : OneRecord
one-record w r e =
    cases r
    (λ h l. let q : r.version + 2 ^ 63 * r.flag ≡ w = cc (good-word r h l) in same-fields r (record_of w) (omega arith) (omega arith))
    (λ h. cc (high-refused r h))
    (λ h. cc (flag-refused r h))

pub record-back : RecordBack
record-back r h l = record { word = r.version + 2 ^ 63 * r.flag; fits = omega arith; given = good-word r h l; back = sym (one-record _ r (good-word r h l)) }

pub refused : Refused
refused r = ⊎_elim (λ h. rw (high-refused r h) refl) (λ h. rw (flag-refused r h) refl)

-- ---- ordering
pub ordered : Ordered
ordered r s = ranks r.version s.version

pub agree : Agree
agree = record { words = λ v w. refl; records = λ r s v w e f. rw (one-record v r e, one-record w s f) }

pub ends : Ends
ends =
    record {
      nothing = refl;
      last = refl;
      flag-alone = refl;
      full = refl;
      last-back = refl;
      full_back = refl;
      version-high = refl;
      flag-above = refl;
      flags-differ = refl;
      flag-is-lower = refl;
    }
