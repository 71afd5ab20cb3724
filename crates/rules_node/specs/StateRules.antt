-- The node's state rules.
use Rattle.std.specs.Prelude.{Bool, true, not, ◌&&◌, ◌||◌, List, [], ◌∷◌, ℕ, ◌-◌, leb, ltb, get_or}
use Rattle.laws_words.specs.Words.{all}
use Rattle.laws_words.specs.Bits.{upto}
use Rattle.rules_base.specs.Limits.{chunk_limit, map_bytes, version_top}
use Rattle.rules_base.specs.Sets.{has}
use Rattle.rules_node.specs.declared.State.{State}
use Rattle.rules_node.specs.declared.Node.{Node}
use Rattle.rules_node.specs.States.{is_empty, is_registered, is_no_io, in_hand, taken}

-- place i of kept holds one of the kept chunks
abbrev pub is_kept : Node → ℕ → Bool
is_kept n i = leb (16 - i) n.held

-- what place i of kept holds, if it is a kept chunk, is below the chunk count
abbrev pub place_ok : Node → ℕ → Bool
place_ok n i = not (is_kept n i) || ltb (get_or n.kept i 0) n.chunks

-- kept chunks are at most sixteen, and below the chunk count
unfoldable pub kept_ok : Node → Bool
kept_ok n = leb n.held 16 && upto 16 (place_ok n)

-- a store in all states but EMPTY, and perhaps NO_IO
abbrev pub store_ok : State → Bool → Bool
store_ok State.Empty store = not store
store_ok State.Registered store = store
store_ok State.Created store = store
store_ok State.Normal store = store
store_ok State.NoIo store = true

-- own id in its set unless EMPTY; create mark only in REGISTERED; the store; a transfer in hand only in NO_IO with store
abbrev pub standing : State → Bool → Bool → Bool → Bool → Bool
standing s store create hand own = (is_empty s || own) && ((not create || is_registered s) && (store_ok s store && (not hand || (is_no_io s && store))))

-- 1 to 4,096 chunks; how the node stands; ids of its set below 16; version at most 2^63 - 17; kept chunks; at most 8,192 bytes taken
abbrev pub rules : Node → List Bool
rules n =
    (leb 1 n.chunks && leb n.chunks chunk_limit)
    ∷ standing n.state n.store n.create (in_hand n.transfer) (has n.members n.id)
    ∷ leb n.members 65535
    ∷ leb n.version version_top
    ∷ kept_ok n
    ∷ leb (taken n.transfer) map_bytes
    ∷ []

unfoldable pub valid : Node → Bool
valid n = all (rules n)
