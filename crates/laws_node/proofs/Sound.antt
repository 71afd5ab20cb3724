-- What a node's events leave of sound maps is sound. Assumes nothing.
use mathlib.Core.Path.{◌≡◌, refl}
use mathlib.Core.Bool.{Bool, true, false}
use mathlib.Core.List.{List}
use Prim.Native.Nat.{ℕ, zero, suc, ◌+◌, ◌<◌, ◌≤◌}
use native.Mathlib.Omega.{arith}
use lib.Dec.{eqb, ltb}
use lib.ListN.{get_or}
use borrow.Author.Tests.{ltb-true}
use Rattle.laws_words.specs.Tests.{picked}
use Rattle.laws_words.specs.Words.{pick}
use Rattle.laws_words.specs.Loops.{run_at}
use Rattle.rules_base.specs.Chunk.{dirty}
use Rattle.rules_base.proofs.Sound.{Sound, sound-cleared, sound-copied, sound-zero_row, sound-zeroed, sound-kept, sound-marked_for}
use Rattle.rules_base.specs.Map.{clean_from}
use Rattle.rules_base.proofs.Joined.{sound-part}
use Rattle.rules_base.proofs.Fills.{sound-filled}
use Rattle.rules_node.specs.declared.OnMap.{OnMap}
use Rattle.rules_node.specs.declared.OnStaging.{OnStaging}
use Rattle.rules_node.specs.declared.Node.{Node}
use Rattle.rules_node.specs.StateRules.{is_kept, kept_ok}
use Rattle.laws_node.proofs.Valid.{kept-below}
use Rattle.rules_node.specs.Carry.{last_io, last_io_at, last_ios, map_after, staging_after, taken_in}

-- an effect that reaches no chunk past the count: the chunk that is marked is below it, and so are the kept ones
abbrev pub fits : OnMap → Node → Bool
fits OnMap.Keep n = true
fits (OnMap.Mark set chunk) n = ltb chunk n.chunks
fits (OnMap.Clear member chunk) n = true
fits (OnMap.LastIos chosen) n = kept_ok n
fits (OnMap.ZeroRow member) n = true
fits OnMap.Zero n = true
fits (OnMap.KeepRows set) n = true
fits (OnMap.Commit set) n = true
fits (OnMap.FillRow member) n = true

pub sound-last_io_at : (n : Node) (chosen i : ℕ) (xs : List ℕ) → kept_ok n ≡ true → i < 16 → Sound n.chunks xs → Sound n.chunks (last_io_at n chosen i xs)
unfolding last_io_at last_io
sound-last_io_at n chosen i xs k l s =
    picked (Sound _) (is_kept n i) _ _
    (λ e. picked (Sound _) (eqb (dirty xs chosen (get_or n.kept i 0)) 1) _ _ (λ _. s) (λ _. sound-marked_for _ _ _ xs s (kept-below n k i l e)))
    (λ _. s)

sound-runs : (n : Node) (chosen m i : ℕ) (xs : List ℕ) → kept_ok n ≡ true → i + m ≤ 16 → Sound n.chunks xs → Sound n.chunks (run_at (last_io_at n chosen) m i xs)
sound-runs n chosen zero i xs k l s = s
sound-runs n chosen (suc m) i xs k l s = sound-runs n chosen m (suc i) (last_io_at n chosen i xs) k (omega arith) (sound-last_io_at n chosen i xs k (omega arith) s)

pub sound-map : (e : OnMap) (n : Node) (ys xs : List ℕ) → fits e n ≡ true → Sound n.chunks ys → Sound n.chunks xs → Sound n.chunks (map_after e n ys xs)
unfolding map_after last_ios
sound-map OnMap.Keep n ys xs f r s = s
sound-map (OnMap.Mark set chunk) n ys xs f r s = sound-marked_for _ set chunk xs s (ltb-true chunk n.chunks f)
sound-map (OnMap.Clear member chunk) n ys xs f r s = sound-cleared _ xs member chunk s
sound-map (OnMap.LastIos chosen) n ys xs f r s = sound-runs n chosen 16 0 xs f (omega arith) s
sound-map (OnMap.ZeroRow member) n ys xs f r s = sound-zero_row _ member xs s
sound-map OnMap.Zero n ys xs f r s = sound-zeroed _ xs s
sound-map (OnMap.KeepRows set) n ys xs f r s = sound-kept _ set xs s
sound-map (OnMap.Commit set) n ys xs f r s = sound-kept _ set _ (sound-copied _ xs ys s r)
sound-map (OnMap.FillRow member) n ys xs f r s = sound-filled n.chunks member n.chunks xs s (omega arith)

pub sound-staging : (c : ℕ) (e : OnStaging) (xs ys : List ℕ) → Sound c xs → Sound c ys → Sound c (staging_after e xs ys)
unfolding staging_after
sound-staging c OnStaging.Keep xs ys s r = r
sound-staging c OnStaging.Zero xs ys s r = sound-zeroed c ys r
sound-staging c OnStaging.Fill xs ys s r = sound-copied c ys xs r s
sound-staging c (OnStaging.Or offset) xs ys s r = r

-- a part that is ORed in is clean by the chunk count c
abbrev pub fits_staging : ℕ → OnStaging → List ℕ → Bool
fits_staging c OnStaging.Keep part = true
fits_staging c OnStaging.Zero part = true
fits_staging c OnStaging.Fill part = true
fits_staging c (OnStaging.Or offset) part = clean_from c offset part

pub sound-taken : (c : ℕ) (e : OnStaging) (part ys : List ℕ) → fits_staging c e part ≡ true → Sound c ys → Sound c (taken_in e part ys)
unfolding taken_in
sound-taken c OnStaging.Keep part ys f r = r
sound-taken c OnStaging.Zero part ys f r = r
sound-taken c OnStaging.Fill part ys f r = r
sound-taken c (OnStaging.Or offset) part ys f r = sound-part c offset part ys f r
