-- Records added one after the other, and the audit of the batches.
use mathlib.Core.Path.{◌≡◌, refl, ap, ◌∙◌}
use mathlib.Core.List.{List, [], ◌∷◌, ◌++◌}
use Prim.Native.Nat.{ℕ, zero, suc, ◌<◌, min}
use native.Mathlib.Omega.{arith}
use native.Mathlib.Numerals.{add-one}
use lib.Dec.{ltb}
use lib.ListN.{length, take, set, length-set}
use lib.Seq.{take_all}
use borrow.Author.Tests.{ltb-true, ltb-false}
use Rattle.laws_words.specs.Tests.{by_cases}
use Rattle.audit_record.specs.declared.records.Record.{Record}
use Rattle.audit_replay.specs.declared.auditing.Walk.{Walk}
use Rattle.audit_replay.specs.Audit.{turned, walked}
use Rattle.audit_list.specs.declared.batches.Batch.{Batch}
use Rattle.audit_list.specs.Batches.{begun, audited, added}
use Rattle.audit_list.specs.Laws.{added_all, AsWhole}

-- the first n, or all of sixteen
pub first : (xs : List Record) (n : ℕ) → length xs ≡ 16 → take (min n 16) xs ≡ take n xs
first xs n h =
    by_cases (ltb n 16)
    (λ e. let k : min n 16 ≡ n = omega (arith, ltb-true n 16 e) in rw k refl)
    (λ e. let k : min n 16 ≡ 16 = omega (arith, ltb-false n 16 e) in rw (k, take_all 16 xs (omega (arith, h)), take_all n xs (omega (arith, h, ltb-false n 16 e))) refl)

-- the first n and the one stored after them
stored : (xs : List Record) (n : ℕ) (r : Record) → n < length xs → take (suc n) (set xs n r) ≡ take n xs ++ r ∷ []
stored [] n r h = absurd (omega (arith, h))
stored (x ∷ xs) zero r h = refl
stored (x ∷ xs) (suc n) r h = ap (λ (ys : List Record). x ∷ ys) (stored xs n r (omega (arith, h)))

walked_more : (w : Walk) (xs : List Record) (r : Record) → walked w (xs ++ r ∷ []) ≡ turned (walked w xs) r
unfolding walked
walked_more w [] r = refl
walked_more w (x ∷ xs) r = walked_more (turned w x) xs r

-- one record more is one turn more
added_more : (b : Batch) (r : Record) → length b.records ≡ 16 → audited (added b r) ≡ turned (audited b) r
unfolding added audited walked
added_more b r h =
    by_cases (ltb b.count 16)
    (λ e. let k : b.count < length b.records = omega (arith, h, ltb-true b.count 16 e) in rw (e, add-one, stored b.records b.count r k) (walked_more b.walk (take b.count b.records) r))
    (λ e. let k : 0 < length b.records = omega (arith, h) in rw (e, stored b.records 0 r k) refl)

added-long : (b : Batch) (r : Record) → length b.records ≡ 16 → length (added b r).records ≡ 16
unfolding added
added-long b r h = by_cases (ltb b.count 16) (λ e. rw (e, length-set) h) (λ e. rw (e, length-set) h)

all_more : (b : Batch) (rs : List Record) → length b.records ≡ 16 → audited (added_all b rs) ≡ walked (audited b) rs
unfolding walked
all_more b [] h = refl
all_more b (r ∷ rs) h = all_more (added b r) rs (added-long b r h) ∙ ap (λ (w : Walk). walked w rs) (added_more b r h)

pub as-whole : AsWhole
unfolding audited walked
as-whole rs = all_more begun rs refl
