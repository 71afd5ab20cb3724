-- The fresh node, and the named changes that the events of a node are made of. Each names what it changes; all else stays.
use Rattle.std.specs.Prelude.{Bool, false, [], ◌∷◌, ◌++◌, ℕ, ◌+◌, ltb, drop, replicate, Option, None}
use Rattle.laws_words.specs.Words.{pick}
use Rattle.rules_base.specs.Sets.{with, without}
use Rattle.rules_node.specs.declared.State.{State}
use Rattle.rules_node.specs.declared.Node.{Node}

-- a fresh node: EMPTY, with nothing
unfoldable pub fresh : ℕ → ℕ → Node
fresh id chunks =
    record {
      id = id;
      chunks = chunks;
      state = State.Empty;
      store = false;
      create = false;
      members = 0;
      version = 0;
      kept = replicate 16 0;
      held = 0;
      transfer = None;
    }

-- another state
unfoldable pub went_to : Node → State → Node
went_to n to =
    record {
      id = n.id;
      chunks = n.chunks;
      state = to;
      store = n.store;
      create = n.create;
      members = n.members;
      version = n.version;
      kept = n.kept;
      held = n.held;
      transfer = n.transfer;
    }

-- a store or none, marked create or not
unfoldable pub equipped : Node → Bool → Bool → Node
equipped n store create =
    record {
      id = n.id;
      chunks = n.chunks;
      state = n.state;
      store = store;
      create = create;
      members = n.members;
      version = n.version;
      kept = n.kept;
      held = n.held;
      transfer = n.transfer;
    }

-- a member set taken over
unfoldable pub taken_over : Node → ℕ → Node
taken_over n s =
    record {
      id = n.id;
      chunks = n.chunks;
      state = n.state;
      store = n.store;
      create = n.create;
      members = s;
      version = n.version;
      kept = n.kept;
      held = n.held;
      transfer = n.transfer;
    }

-- a member entered
unfoldable pub member_entered : Node → ℕ → Node
member_entered n m = taken_over n (with n.members m)

-- a member dropped
unfoldable pub member_dropped : Node → ℕ → Node
member_dropped n m = taken_over n (without n.members m)

-- a version stored
unfoldable pub stored_version : Node → ℕ → Node
stored_version n v =
    record {
      id = n.id;
      chunks = n.chunks;
      state = n.state;
      store = n.store;
      create = n.create;
      members = n.members;
      version = v;
      kept = n.kept;
      held = n.held;
      transfer = n.transfer;
    }

-- a chunk number kept: it arrives last, and of seventeen the first is gone
unfoldable pub kept_chunk : Node → ℕ → Node
kept_chunk n c =
    record {
      id = n.id;
      chunks = n.chunks;
      state = n.state;
      store = n.store;
      create = n.create;
      members = n.members;
      version = n.version;
      kept = drop 1 n.kept ++ (c ∷ []);
      held = pick (ltb n.held 16) (n.held + 1) 16;
      transfer = n.transfer;
    }

-- the kept chunks gone
unfoldable pub forgotten : Node → Node
forgotten n =
    record {
      id = n.id;
      chunks = n.chunks;
      state = n.state;
      store = n.store;
      create = n.create;
      members = n.members;
      version = n.version;
      kept = replicate 16 0;
      held = 0;
      transfer = n.transfer;
    }

-- how far the transfer is
unfoldable pub transferred : Node → Option ℕ → Node
transferred n t =
    record {
      id = n.id;
      chunks = n.chunks;
      state = n.state;
      store = n.store;
      create = n.create;
      members = n.members;
      version = n.version;
      kept = n.kept;
      held = n.held;
      transfer = t;
    }

-- staging dropped or committed: no transfer is in hand (the staging map is zeroed beside it)
unfoldable pub ended_transfer : Node → Node
ended_transfer n = transferred n None

-- version and member set of Enable 1, MAP_DONE and Register add
unfoldable pub instructed : Node → ℕ → ℕ → Node
instructed n v s = stored_version (taken_over n s) v
