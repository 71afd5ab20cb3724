-- Maps that stand one after another in a buffer, and the part of one that is lent.
use Rattle.std.specs.Prelude.{◌≡◌, List, ◌++◌, ℕ, ◌+◌, ◌*◌, ◌≤◌, min, get_or, take, drop}
use Rattle.rules_base.specs.Limits.{map_bytes}
use Rattle.event_ask.specs.declared.lending.Lent.{Lent}
use Rattle.event_ask.specs.declared.lending.Span.{Span}

-- n bytes of a map, or all of it
abbrev pub cut : ℕ → ℕ
cut n = min n map_bytes

-- how many bytes of map k are lent
abbrev pub size_of : List ℕ → ℕ → ℕ
size_of sizes k = cut (get_or sizes k 0)

-- the first n bytes of map k
abbrev pub part : List ℕ → ℕ → ℕ → List ℕ
part xs k n = take n (drop (map_bytes * k) xs)

-- the lent parts of node k's map and staging map, of the maps of all nodes
abbrev pub map_of : Lent → ℕ → List ℕ → List ℕ
map_of lent k xs = part xs k (size_of lent.maps k)

abbrev pub staging_of : Lent → ℕ → List ℕ → List ℕ
staging_of lent k ys = part ys k (size_of lent.stagings k)

-- the buffer with ys in the place of that part: every other byte as it was
abbrev pub put_back : List ℕ → ℕ → ℕ → List ℕ → List ℕ
put_back xs k n ys = take (map_bytes * k) xs ++ (ys ++ drop (map_bytes * k + n) xs)

-- that part stands there in a buffer of len bytes, as far as it goes
pub record Stands (len k n : ℕ) (s : Span) : Type 0 where
  pub from : s.from ≡ min (map_bytes * k) len
  pub to : s.to ≡ min (map_bytes * k + n) len
  pub ordered : s.from ≤ s.to
  pub inside : s.to ≤ len
