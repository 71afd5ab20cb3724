-- A map in parts: the last of them, and one more.
use Rattle.std.proofs.Common.{◌≡◌, refl, ℕ, zero, suc, ◌+◌, ◌-◌, ◌<◌, true, false, arith}
use Rattle.event_ask.specs.declared.lending.Lent.{Lent}
use Rattle.lab_deliver.specs.declared.delivery.Way.{Way}
use Rattle.lab_deliver.specs.Delivery.{Outcome, length_at, passed_at, goes_on, parts_from}

pub parts-end : (n : ℕ) (way : Way) (offset : ℕ) (lent : Lent) (o : Outcome) → goes_on o.answer offset ≡ false → parts_from n way offset lent o ≡ o
unfolding parts_from
parts-end zero way offset lent o h = refl
parts-end (suc n) way offset lent o h = rw h refl

pub parts-more : (n : ℕ) (way : Way) (offset : ℕ) (lent : Lent) (o : Outcome) → 0 < n → goes_on o.answer offset ≡ true
    → parts_from (n - 1) way (offset + length_at way.cut offset) lent (passed_at way offset lent o.after) ≡ parts_from n way offset lent o
unfolding parts_from
parts-more zero way offset lent o h g = absurd (omega arith)
parts-more (suc n) way offset lent o h g = let less : suc n - 1 ≡ n = omega arith in rw (g, less) refl
