-- What becomes of a node's two maps: xs the map's bytes, ys those of staging.
use Rattle.std.specs.Prelude.{List, ℕ, eqb, get_or}
use Rattle.laws_words.specs.Words.{pick}
use Rattle.laws_words.specs.Loops.{run_at}
use Rattle.rules_base.specs.Sets.{without}
use Rattle.rules_base.specs.Chunk.{dirty, marked_for, cleared}
use Rattle.rules_base.specs.Map.{zero_row, zeroed, rows_kept, copied}
use Rattle.rules_base.specs.Parts.{or_part}
use Rattle.rules_base.specs.Fill.{row_filled}
use Rattle.rules_node.specs.declared.OnMap.{OnMap}
use Rattle.rules_node.specs.declared.OnStaging.{OnStaging}
use Rattle.rules_node.specs.declared.Node.{Node}
use Rattle.rules_node.specs.StateRules.{is_kept}

-- a chunk marked for every member but the chosen, and passed over where it is dirty for the chosen
unfoldable pub last_io : ℕ → ℕ → ℕ → List ℕ → List ℕ
last_io members chosen chunk xs = pick (eqb (dirty xs chosen chunk) 1) xs (marked_for xs (without members chosen) chunk)

-- the same for what place i of kept holds, if it is a kept chunk
unfoldable pub last_io_at : Node → ℕ → ℕ → List ℕ → List ℕ
last_io_at n chosen i xs = pick (is_kept n i) (last_io n.members chosen (get_or n.kept i 0) xs) xs

-- LAST_IO_TO_MAP: each kept chunk, in order of arrival
unfoldable pub last_ios : Node → ℕ → List ℕ → List ℕ
last_ios n chosen xs = run_at (last_io_at n chosen) 16 0 xs

-- the node's map after an effect
unfoldable pub map_after : OnMap → Node → List ℕ → List ℕ → List ℕ
map_after OnMap.Keep n ys xs = xs
map_after (OnMap.Mark set chunk) n ys xs = marked_for xs set chunk
map_after (OnMap.Clear member chunk) n ys xs = cleared xs member chunk
map_after (OnMap.LastIos chosen) n ys xs = last_ios n chosen xs
map_after (OnMap.ZeroRow member) n ys xs = zero_row member xs
map_after OnMap.Zero n ys xs = zeroed xs
map_after (OnMap.KeepRows set) n ys xs = rows_kept set xs
map_after (OnMap.Commit set) n ys xs = rows_kept set (copied xs ys)
map_after (OnMap.FillRow member) n ys xs = row_filled member n.chunks xs

-- the staging map after an effect; xs is the map after it. What is ORed in is lent to taking alone: taken_in
unfoldable pub staging_after : OnStaging → List ℕ → List ℕ → List ℕ
staging_after OnStaging.Keep xs ys = ys
staging_after OnStaging.Zero xs ys = zeroed ys
staging_after OnStaging.Fill xs ys = copied ys xs
staging_after (OnStaging.Or offset) xs ys = ys

-- the staging map after taking a part
unfoldable pub taken_in : OnStaging → List ℕ → List ℕ → List ℕ
taken_in OnStaging.Keep part ys = ys
taken_in OnStaging.Zero part ys = ys
taken_in OnStaging.Fill part ys = ys
taken_in (OnStaging.Or offset) part ys = or_part offset part ys
