-- What it means that there is a part. Assumes nothing.
use mathlib.Core.Path.{◌≡◌}
use mathlib.Core.Bool.{true, ◌&&◌}
use Prim.Native.Nat.{ℕ, ◌+◌, ◌≤◌}
use lib.Dec.{leb}
use borrow.Author.Tests.{leb-true}
use Rattle.laws_words.specs.Tests.{and_left, and_right}
use Rattle.rules_base.specs.Parts.{is_part}

-- 1 to 1,024 bytes, none of them past a map's end
pub record Part (offset length : ℕ) : Type 0 where
  pub some : 1 ≤ length
  pub few : length ≤ 1024
  pub within : offset + length ≤ 8192

pub is-part : (offset length : ℕ) → is_part offset length ≡ true → Part offset length
is-part offset length e =
    let s = and_left (leb 1 length && leb length 1024) (leb (offset + length) 8192) e in
    record {
      some = leb-true _ _ (and_left (leb 1 length) (leb length 1024) s);
      few = leb-true _ _ (and_right (leb 1 length) (leb length 1024) s);
      within = leb-true _ _ (and_right (leb 1 length && leb length 1024) (leb (offset + length) 8192) e);
    }
