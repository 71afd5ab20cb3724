-- poke: a value put into a node, unchecked. What a definition does not name stays.
use Rattle.std.specs.Prelude.{ℕ, Bool, set, Option, Some, None}
use Rattle.rules_node.specs.declared.Node.{Node}
use Rattle.rules_node.specs.declared.State.{State}
use Rattle.node.specs.declared.StorageNode.{StorageNode}

-- another state, the summaries as they were
abbrev pub with_state : StorageNode → Node → StorageNode
with_state s n = record { node = n; summaries = s.summaries }

-- own id, chunk count and kept chunks stay
abbrev pub poked : StorageNode → State → Bool → Bool → ℕ → ℕ → Option ℕ → StorageNode
poked s state store create members version transfer =
    with_state
    s
    (record {
      id = s.node.id;
      chunks = s.node.chunks;
      state = state;
      store = store;
      create = create;
      members = members;
      version = version;
      kept = s.node.kept;
      held = s.node.held;
      transfer = transfer;
    })

-- of a transfer in hand so many bytes are taken
abbrev pub got_to : Option ℕ → ℕ → Option ℕ
got_to None got = None
got_to (Some bytes) got = Some got

abbrev pub poked_got : StorageNode → ℕ → StorageNode
poked_got s got =
    with_state
    s
    (record {
      id = s.node.id;
      chunks = s.node.chunks;
      state = s.node.state;
      store = s.node.store;
      create = s.node.create;
      members = s.node.members;
      version = s.node.version;
      kept = s.node.kept;
      held = s.node.held;
      transfer = got_to s.node.transfer got;
    })

-- a word of the summaries
abbrev pub poked_word : StorageNode → ℕ → ℕ → StorageNode
poked_word s i v = record { node = s.node; summaries = set s.summaries i v }
