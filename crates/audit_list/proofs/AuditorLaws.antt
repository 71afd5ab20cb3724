-- What the walk of `audit` cites: a turn of its loop, and the loop's end. What is left to walk still makes the whole result.
use mathlib.Core.Path.{◌≡◌}
use mathlib.Core.List.{List}
use Prim.Native.Nat.{ℕ, suc, ◌≤◌, ◌<◌}
use lib.ListN.{length, get_or, drop, drop_of_length-le}
use lib.Seq.{drop-cons}
use Rattle.audit_record.specs.declared.records.Record.{Record}
use Rattle.audit_replay.specs.declared.auditing.Walk.{Walk}
use Rattle.audit_replay.specs.Audit.{turned, walked}

pub walk_more : (w t : Walk) (rs : List Record) (i : ℕ) (d : Record) → i < length rs → walked w (drop i rs) ≡ t → walked (turned w (get_or rs i d)) (drop (suc i) rs) ≡ t
unfolding walked
walk_more w t rs i d h e = rw (drop-cons rs i d h) at e

pub walk-done : (w t : Walk) (rs : List Record) (i : ℕ) → length rs ≤ i → walked w (drop i rs) ≡ t → w ≡ t
unfolding walked
walk-done w t rs i h e = rw (drop_of_length-le rs h) at e
