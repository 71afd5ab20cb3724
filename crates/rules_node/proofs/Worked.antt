-- A short history of one node, computed: created, enabled, two writes, a transfer. Assumes nothing.
use mathlib.Core.Path.{◌≡◌, refl}
use mathlib.Core.Bool.{true, false}
use mathlib.Core.List.{[], ◌∷◌}
use Prim.Native.Nat.{ℕ}
use lib.ListN.{drop}
use Rattle.rules_base.specs.Sets.{has, with, without}
use Rattle.laws_words.specs.Words.{bit}
use Rattle.rules_node.specs.declared.OnMap.{OnMap}
use Rattle.rules_node.specs.declared.OnStaging.{OnStaging}
use Rattle.rules_node.specs.declared.Answer.{Answer}
use Rattle.rules_node.specs.declared.Node.{Node}
use Rattle.rules_node.specs.Change.{fresh, went_to, equipped, taken_over, stored_version, kept_chunk, forgotten, transferred, ended_transfer, instructed}
use Rattle.rules_node.specs.StateRules.{kept_ok, valid}
use Rattle.rules_node.specs.Turns.{does, settled}
use Rattle.rules_node.specs.Register.{register_create_refusal, registered_create, register_create}
use Rattle.rules_node.specs.Join.{join_create_refusal, joined_create, join_create}
use Rattle.rules_node.specs.Enable.{enable1_refusal, enabled, enable1}
use Rattle.rules_node.specs.Write.{write_refusal, written, write}
use Rattle.rules_node.specs.Serve.{serve_refusal, readied, map_ready, map_get_ver}
use Rattle.rules_node.specs.Hand.{take_part_refusal, part_taken, take_part, map_done_refusal, committed, map_done}

-- node 1 of 4,096 chunks: registered, joined in create mode beside node 0, enabled, and one write that did not reach 0
abbrev pub created : Node
created = (join_create (register_create (fresh 1 4096) 0).node 0 1).node

abbrev pub wrote : Node
wrote = (write (enable1 created 0 1 3).node 0 4095 1 2).node

-- a part is taken at it: offset, length
abbrev pub took : ℕ → ℕ → Node → Node
took offset length n = (take_part n 0 offset length true).node

-- seven parts of 1,024 bytes were taken, and all bytes but the last
abbrev pub seven : Node
seven = took 6144 1024 (took 5120 1024 (took 4096 1024 (took 3072 1024 (took 2048 1024 (took 1024 1024 (took 0 1024 (map_ready wrote 0 false).node))))))

abbrev pub one_left : Node
one_left = took 7168 1023 seven

pub record Worked : Type 0 where
  pub joined : created.members ≡ 3
  pub early : (map_get_ver (fresh 1 4096) 0).answer ≡ Answer.Refused 9
  pub last-chunk : drop 15 wrote.kept ≡ 4095 ∷ []
  pub past-chunk : (write wrote 0 4096 1 2).answer ≡ Answer.Refused 4
  pub unsound : (write wrote 2 4096 1 2).answer ≡ Answer.Refused 2
  pub version : (map_get_ver wrote 0).answer ≡ Answer.Version 2
  pub top : (write wrote 0 0 1 9223372036854775791).answer ≡ Answer.Done
  pub past_top : (write wrote 0 0 1 9223372036854775792).answer ≡ Answer.Refused 14
  pub limit : (enable1 wrote 0 9223372036854775776 3).answer ≡ Answer.Refused 14
  pub other-set : (enable1 wrote 0 2 1).answer ≡ Answer.Refused 10
  pub too-early : (map_done (map_ready wrote 0 false).node 0 true 2 3).answer ≡ Answer.Refused 15
  pub not-ready : (take_part wrote 0 0 1 true).answer ≡ Answer.Refused 15
  pub again : (take_part seven 0 6144 1 true).answer ≡ Answer.Refused 16
  pub empty : (take_part seven 0 7168 0 true).answer ≡ Answer.Refused 16
  pub past_end : (take_part one_left 0 8191 2 true).answer ≡ Answer.Refused 16
  pub stray : (take_part one_left 0 8191 1 false).answer ≡ Answer.Refused 16
  pub last_byte : (take_part one_left 0 8191 1 true).answer ≡ Answer.Done
  pub no_more : (take_part (took 8191 1 one_left) 0 8192 1 true).answer ≡ Answer.Refused 16
  pub at-8191 : (map_done one_left 0 true 2 3).answer ≡ Answer.Refused 15
  pub done : (map_done (took 8191 1 one_left) 0 true 2 3).effect ≡ does (OnMap.Commit 3) OnStaging.Zero

pub worked : Worked
unfolding
    register_create
    register_create_refusal
    registered_create
    join_create
    join_create_refusal
    joined_create
    enable1
    enable1_refusal
    enabled
    write
    write_refusal
    written
    serve_refusal
    readied
    map_ready
    map_get_ver
    take_part_refusal
    part_taken
    take_part
    map_done_refusal
    committed
    map_done
    settled
    valid
    kept_ok
    fresh
    went_to
    equipped
    taken_over
    stored_version
    kept_chunk
    forgotten
    transferred
    ended_transfer
    instructed
    has
    with
    without
    bit
worked =
    record {
      joined = refl;
      early = refl;
      last-chunk = refl;
      past-chunk = refl;
      unsound = refl;
      version = refl;
      top = refl;
      past_top = refl;
      limit = refl;
      other-set = refl;
      too-early = refl;
      not-ready = refl;
      again = refl;
      empty = refl;
      past_end = refl;
      stray = refl;
      last_byte = refl;
      no_more = refl;
      at-8191 = refl;
      done = refl;
    }
