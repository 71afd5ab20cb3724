-- Rows for which a wrong definition must fall (must-fail/), computed or read off the definitions alone.
use mathlib.Core.Path.{◌≡◌, refl}
use mathlib.Core.Bool.{true, false}
use mathlib.Core.List.{List}
use Prim.Native.Nat.{ℕ}
use Rattle.laws_words.specs.Words.{bit}
use Rattle.rules_base.specs.Sets.{has, with, without}
use Rattle.rules_base.specs.Chunk.{dirty, marked_for}
use Rattle.rules_base.specs.Parts.{or_part}
use Rattle.rules_base.specs.Summary.{summaries_of}
use Rattle.rules_node.specs.declared.OnMap.{OnMap}
use Rattle.rules_node.specs.declared.OnStaging.{OnStaging}
use Rattle.rules_node.specs.Change.{fresh, went_to, equipped, taken_over, stored_version, kept_chunk, forgotten, transferred, ended_transfer, instructed}
use Rattle.rules_node.specs.StateRules.{kept_ok, valid}
use Rattle.rules_node.specs.Turns.{does, settled}
use Rattle.rules_node.specs.Register.{register_create_refusal, registered_create, register_create}
use Rattle.rules_node.specs.Join.{join_create_refusal, joined_create, join_create}
use Rattle.rules_node.specs.Enable.{enable1_refusal, enabled, enable1, stop_refusal, fault}
use Rattle.rules_node.specs.Write.{write_refusal, written, write}
use Rattle.rules_node.specs.Serve.{serve_refusal, readied, map_ready}
use Rattle.rules_node.specs.Hand.{take_part_refusal, part_taken, take_part}
use Rattle.rules_node.specs.Carry.{last_io, taken_in}
use Rattle.rules_node.specs.Follow.{followed}
use Rattle.rules_node.proofs.Worked.{created, wrote}

-- a fault drops no staging; MAP_READY with keep fills it; a part that is taken goes to staging at its offset
rows :
    ((fault wrote 0).effect.staging ≡ OnStaging.Keep)
    × ((map_ready wrote 0 true).effect.staging ≡ OnStaging.Fill)
    × ((take_part (map_ready wrote 0 true).node 0 0 1024 true).effect.staging ≡ OnStaging.Or 0)
unfolding bit has with without fresh went_to equipped taken_over stored_version kept_chunk forgotten transferred ended_transfer instructed kept_ok valid does settled register_create_refusal registered_create register_create join_create_refusal joined_create join_create enable1_refusal enabled enable1 stop_refusal fault write_refusal written write serve_refusal readied map_ready take_part_refusal part_taken take_part
rows = (refl, refl, refl)

-- a part that is taken is ORed in
ored : (offset : ℕ) (part ys : List ℕ) → taken_in (OnStaging.Or offset) part ys ≡ or_part offset part ys
unfolding taken_in
ored offset part ys = refl

-- after a commit the summaries are those of the map that is left
anew : (set : ℕ) (xs words : List ℕ) → followed (OnMap.Commit set) xs words ≡ summaries_of xs
unfolding followed
anew set xs words = refl

-- LAST_IO_TO_MAP: a chunk that is clean for the chosen is marked for the others
marks : (members chosen chunk : ℕ) (xs : List ℕ) → dirty xs chosen chunk ≡ 0 → last_io members chosen chunk xs ≡ marked_for xs (without members chosen) chunk
unfolding last_io
marks members chosen chunk xs clean = rw clean
