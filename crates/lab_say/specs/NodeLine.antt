-- A node's line after an accepted event, and the line of its further fields.
use Rattle.std.specs.Prelude.{ℕ, ◌-◌, List, [], ◌∷◌, drop, Option}
use Rattle.laws_words.specs.Words.{pick, one}
use Rattle.text_bytes.specs.Bytes.{bytes}
use Rattle.text_bytes.specs.Ink.{decimal, joined}
use Rattle.lab_say.specs.Say.{paired}
use Rattle.rules_node.specs.declared.State.{State}
use Rattle.rules_node.specs.declared.Node.{Node}
use Rattle.rules_node.specs.States.{in_hand, taken, is_whole}

abbrev pub state_text : State → List ℕ
state_text State.Empty = bytes " state=EMPTY"
state_text State.Registered = bytes " state=REGISTERED"
state_text State.Created = bytes " state=CREATED"
state_text State.Normal = bytes " state=NORMAL"
state_text State.NoIo = bytes " state=NO_IO"

-- 0 none in hand, 1 in hand, 2 in hand and the whole map taken
abbrev pub transfer_number : Option ℕ → ℕ
transfer_number t = pick (is_whole t) 2 (one (in_hand t))

-- each number after a comma (44)
unfoldable pub commas : List ℕ → List ℕ
commas [] = []
commas (x ∷ xs) = joined ((44 ∷ decimal x) ∷ commas xs ∷ [])

-- The kept chunks, oldest first, with commas between; - for none.
unfoldable pub chunks_text : List ℕ → List ℕ
chunks_text [] = bytes "-"
chunks_text (x ∷ xs) = joined (decimal x ∷ commas xs ∷ [])

-- The kept chunks are the last ones of the sixteen places.
unfoldable pub kept_text : List ℕ → ℕ → List ℕ
kept_text kept held = chunks_text (drop (16 - held) kept)

unfoldable pub front_text : Node → List ℕ
front_text n =
    joined
    (paired (bytes "ok node=") n.id
    ∷ state_text n.state
    ∷ paired (bytes " store=") (one n.store)
    ∷ paired (bytes " create=") (one n.create)
    ∷ [])

-- The whole line.
unfoldable pub node_text : Node → List ℕ
node_text n =
    joined
    (front_text n
    ∷ paired (bytes " members=") n.members
    ∷ paired (bytes " version=") n.version
    ∷ bytes " kept="
    ∷ kept_text n.kept n.held
    ∷ paired (bytes " transfer=") (transfer_number n.transfer)
    ∷ [])

-- The further fields: the bytes taken so far, 0 with no transfer in hand.
abbrev pub look_text : Node → List ℕ
look_text n = paired (bytes "look got=") (taken n.transfer)
