-- Packing and reading are inverse.
use Rattle.std.specs.Prelude.{Option, Some, None}
use mathlib.Core.Path.{◌≡◌, refl, ◌∙◌}
use mathlib.Core.List.{List}
use Prim.Native.Nat.{ℕ, ◌+◌}
use native.Mathlib.Omega.{arith}
use lib.ListN.{length, take, drop, length-drop}
use lib.Seq.{take_all}
use Rattle.laws_words.specs.Words.{one}
use Rattle.event_words.proofs.Alike.{same_refl, same-all, read_one}
use Rattle.rules_node.specs.declared.State.{State}
use Rattle.rules_node.specs.declared.Node.{Node}
use Rattle.rules_node.specs.States.{in_hand}
use Rattle.event_words.specs.NodeWords.{state_word, state_of, got_word, transfer_of, packed, unpacked, known}
use Rattle.event_words.specs.Inverse.{ReadPacked, PackedKnown, KnownPacked}

-- the rest of 32 words, as the code cuts it
pub last_16 : (ws : List ℕ) → length ws ≡ 32 → take 16 (drop 16 ws) ≡ drop 16 ws
last_16 ws h = take_all 16 (drop 16 ws) (rw (length-drop 16 ws, h) (omega arith))

read-state : (s : State) → state_of (state_word s) ≡ s
read-state State.Empty = refl
read-state State.Registered = refl
read-state State.Created = refl
read-state State.Normal = refl
read-state State.NoIo = refl

read-transfer : (t : Option ℕ) → transfer_of (one (in_hand t)) (got_word t) ≡ t
read-transfer None = refl
read-transfer (Some got) = refl

pub read-packed : ReadPacked
unfolding packed unpacked
read-packed n = rw (read-state n.state, read-transfer n.transfer, read_one n.store, read_one n.create)

pub packed-known : PackedKnown
unfolding known
packed-known n = rw (read-packed n) (same_refl (packed n) 32)

packed-length : (n : Node) → length (packed n) ≡ 16 + length n.kept
unfolding packed
packed-length n = omega arith

pub known-packed : KnownPacked
unfolding known unpacked
known-packed ws g e = same-all ws (packed (unpacked ws)) 32 g (packed-length (unpacked ws) ∙ rw (length-drop 16 ws, g) refl) e
