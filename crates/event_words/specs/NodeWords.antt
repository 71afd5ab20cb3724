-- The words of a node's state, and the state of words. Any words give a state; known are those that a state is packed to.
use Rattle.std.specs.Prelude.{Bool, List, ◌∷◌, ℕ, eqb, get_or, drop, Option, Some, None}
use Rattle.laws_words.specs.Words.{pick, one}
use Rattle.event_words.specs.Same.{same_to}
use Rattle.rules_node.specs.declared.State.{State}
use Rattle.rules_node.specs.declared.Node.{Node}
use Rattle.rules_node.specs.States.{in_hand}

abbrev pub state_word : State → ℕ
state_word State.Empty = 0
state_word State.Registered = 1
state_word State.Created = 2
state_word State.Normal = 3
state_word State.NoIo = 4

abbrev pub state_of : ℕ → State
state_of x = pick (eqb x 0) State.Empty (pick (eqb x 1) State.Registered (pick (eqb x 2) State.Created (pick (eqb x 3) State.Normal State.NoIo)))

-- the bytes taken, 0 where no transfer is in hand
abbrev pub got_word : Option ℕ → ℕ
got_word None = 0
got_word (Some got) = got

abbrev pub transfer_of : ℕ → ℕ → Option ℕ
transfer_of x got = pick (eqb x 0) None (Some got)

-- the words of a state
unfoldable pub packed : Node → List ℕ
packed n =
    n.id
    ∷ n.chunks
    ∷ state_word n.state
    ∷ one n.store
    ∷ one n.create
    ∷ n.members
    ∷ n.version
    ∷ n.held
    ∷ one (in_hand n.transfer)
    ∷ got_word n.transfer
    ∷ 0 ∷ 0 ∷ 0 ∷ 0 ∷ 0 ∷ 0
    ∷ n.kept

-- the state of any words
unfoldable pub unpacked : List ℕ → Node
unpacked ws =
    record {
      id = get_or ws 0 0;
      chunks = get_or ws 1 0;
      state = state_of (get_or ws 2 0);
      store = eqb (get_or ws 3 0) 1;
      create = eqb (get_or ws 4 0) 1;
      members = get_or ws 5 0;
      version = get_or ws 6 0;
      kept = drop 16 ws;
      held = get_or ws 7 0;
      transfer = transfer_of (get_or ws 8 0) (get_or ws 9 0);
    }

-- the words are those of a state
unfoldable pub known : List ℕ → Bool
known ws = same_to ws (packed (unpacked ws)) 32
