-- Packing and reading are inverse.
use Rattle.std.specs.Prelude.{◌≡◌, Bool, true, List, ℕ, ◌<◌, length}
use Rattle.client.specs.declared.Client.{Client}
use Rattle.client.specs.Client.{fresh}
use Rattle.library_client_words.specs.ClientWords.{packed, unpacked, known}

-- the numbers of a client that its types bound to fewer than 64 bits: so are those of every value
pub record Typed (c : Client) : Type 0 where
  pub number : c.pool.number < 4294967296
  pub tick : c.check.tick < 4294967296
  pub due : c.check.due < 65536
  pub once : c.check.once < 65536

-- The words of any client are read as that client.
abbrev pub ReadPacked : Type 0
ReadPacked = (c : Client) → Typed c → unpacked (packed c) ≡ c

-- The words of any client are known.
abbrev pub PackedKnown : Type 0
PackedKnown = (c : Client) → Typed c → known (packed c) ≡ true

-- So are a fresh client's.
abbrev pub FreshKnown : Type 0
FreshKnown = (sync : Bool) (chunks : ℕ) → known (packed (fresh sync chunks)) ≡ true

-- Known words are those of the client that they are read as.
abbrev pub KnownPacked : Type 0
KnownPacked = (ws : List ℕ) → length ws ≡ 32 → known ws ≡ true → packed (unpacked ws) ≡ ws
