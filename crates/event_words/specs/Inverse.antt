-- Packing and reading are inverse.
use Rattle.std.specs.Prelude.{◌≡◌, true, List, ℕ, length}
use Rattle.rules_node.specs.declared.Node.{Node}
use Rattle.event_words.specs.NodeWords.{packed, unpacked, known}

-- The words of any state are read as that state.
abbrev pub ReadPacked : Type 0
ReadPacked = (n : Node) → unpacked (packed n) ≡ n

-- The words of any state are known.
abbrev pub PackedKnown : Type 0
PackedKnown = (n : Node) → known (packed n) ≡ true

-- Known words are those of the state that they are read as.
abbrev pub KnownPacked : Type 0
KnownPacked = (ws : List ℕ) → length ws ≡ 32 → known ws ≡ true → packed (unpacked ws) ≡ ws
