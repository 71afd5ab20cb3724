-- The numbers that refusals and state rules speak of.
use Rattle.std.specs.Prelude.{ℕ, ◌+◌, ◌-◌, ◌^◌, ◌≤◌}
use Rattle.std.proofs.Common.{arith}
use Rattle.rules_base.specs.declared.Numbers.{Numbers}

-- member ids are 0 to members - 1
abbrev pub members : ℕ
members = 16

-- a pool has 1 to chunk_limit chunks
abbrev pub chunk_limit : ℕ
chunk_limit = 4096

-- a map has this many bytes
abbrev pub map_bytes : ℕ
map_bytes = 8192

-- a run takes at most this many awaited answers: 11K - 8 of all members
abbrev pub answer_limit : ℕ
answer_limit = 168

-- the highest version that is taken over or that a run begins with
abbrev pub version_limit : ℕ
version_limit = 2 ^ 63 - 34

-- the bound of the state rules, and of a node's write
abbrev pub version_top : ℕ
version_top = 2 ^ 63 - 17

-- those that belong to the types of client and node
abbrev pub numbers : Numbers
numbers = record { members = members; chunks = chunk_limit; bytes = map_bytes; version = version_limit }

-- a version that was taken over, or that a run began with, can be raised once for the end of that run and once for each session
pub limits-tied : version_limit + 1 + members ≤ version_top
limits-tied = omega arith
